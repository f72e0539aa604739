use Rattle.std.proofs.Common.{◌≡◌, map, take, reverse}
use Rattle.postings.specs.Posts.{diary_of}
use Rattle.site_history.specs.Views.{post_of}
use Rattle.site_state.specs.inner.Parts.{site_in}
use Rattle.site_state.proofs.parts.Parts.entries.Given as goal

abbrev pub invariant-loop-i : goal.invariant-loop-i
invariant-loop-i l = l.posts.items ≡ map (post_of (site_in l.self)) (take l.i (reverse (diary_of l.self.posts.posts l.account)))
