use Rattle.std.proofs.Common.{◌≡◌, map, take}
use Rattle.postings.specs.Posts.{replies_to}
use Rattle.site_history.specs.Views.{post_of}
use Rattle.site_state.specs.inner.Parts.{site_in}
use Rattle.site_state.proofs.parts.Parts.replies.Given as goal

abbrev pub invariant-loop-i : goal.invariant-loop-i
invariant-loop-i l = l.posts.items ≡ map (post_of (site_in l.self)) (take l.i (replies_to l.self.posts.posts l.no))
