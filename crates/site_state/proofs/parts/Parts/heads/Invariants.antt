use Rattle.std.proofs.Common.{◌≡◌, map, take, reverse}
use Rattle.std.specs.List.{enumerate_from}
use Rattle.postings.specs.Posts.{articles}
use Rattle.site_history.specs.Views.{head_of}
use Rattle.site_state.specs.inner.Parts.{site_in}
use Rattle.site_state.proofs.parts.Parts.heads.Given as goal

abbrev pub invariant-loop-i : goal.invariant-loop-i
invariant-loop-i l = l.heads.items ≡ map (head_of (site_in l.self)) (take l.i (reverse (enumerate_from 0 (articles l.self.posts.posts))))
