use Rattle.std.proofs.Common.{◌≡◌, take}
use Rattle.std.specs.List.{flat_map}
use Rattle.html_pages.specs.Inks.{inked}
use Rattle.html_pages.specs.Shown.{entry}
use Rattle.html_pages.proofs.lists.put_diary.Given as goal

abbrev pub invariant-loop-post : goal.invariant-loop-post
invariant-loop-post l = l.pen ≡ inked l.initial.pen (flat_map entry (take l.post-index l.posts))
