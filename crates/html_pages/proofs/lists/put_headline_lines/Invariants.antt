use Rattle.std.proofs.Common.{◌≡◌, take}
use Rattle.std.specs.List.{flat_map}
use Rattle.html_pages.specs.Inks.{inked}
use Rattle.html_pages.specs.Shown.{headline}
use Rattle.html_pages.proofs.lists.put_headline_lines.Given as goal

abbrev pub invariant-loop-article : goal.invariant-loop-article
invariant-loop-article l = l.pen ≡ inked l.initial.pen (flat_map headline (take l.article-index l.articles))
