use Rattle.cert_book.proofs.Recording.{follows}
use Rattle.cert_book.proofs.laws.follows_where_continues.Goals as goal

pub returns : goal.returns
returns c = follows
