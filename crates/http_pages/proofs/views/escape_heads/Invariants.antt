use Rattle.std.proofs.Common.{◌≡◌, take}
use Rattle.std.specs.List.{flat_map}
use Rattle.http_pages.specs.Views.{headline_of}
use Rattle.html_pages.specs.Shown.{headline}
use Rattle.http_pages.proofs.views.escape_heads.Given as goal

abbrev pub invariant-loop-head : goal.invariant-loop-head
invariant-loop-head l = flat_map headline l.articles.items ≡ flat_map headline_of (take l.head-index l.heads)
