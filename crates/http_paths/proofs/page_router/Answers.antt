use Rattle.std.proofs.Common.{refl}
use Rattle.http_paths.proofs.page_router.Goals as goal

pub returns : goal.returns
returns c = rw (c.in_ok-add_page-5.ensures, c.in_ok-add_page-4.ensures, c.in_ok-add_page-3.ensures, c.in_ok-add_page-2.ensures, c.in_ok-add_page.ensures, c.in_ok-add_first_pages.ensures, c.new-router.ensures) refl
