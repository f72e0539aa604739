use Rattle.cert_book.proofs.Recording.{place}
use Rattle.cert_book.proofs.laws.has_place_where_fits.Goals as goal

pub returns : goal.returns
returns c = place
