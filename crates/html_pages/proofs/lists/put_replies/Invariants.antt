use Rattle.std.proofs.Common.{◌≡◌, take}
use Rattle.std.specs.List.{flat_map}
use Rattle.html_pages.specs.Inks.{inked}
use Rattle.html_pages.specs.Shown.{reply}
use Rattle.html_pages.proofs.lists.put_replies.Given as goal

abbrev pub invariant-loop-post : goal.invariant-loop-post
invariant-loop-post l = l.pen ≡ inked l.initial.pen (flat_map reply (take l.post-index l.posts))
