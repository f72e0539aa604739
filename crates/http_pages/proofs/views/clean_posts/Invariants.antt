use Rattle.std.proofs.Common.{ℕ, List, ◌≡◌, take}
use Rattle.http_pages.specs.inner.Cleaned.{clean_lines, cleaned_lines}
use Rattle.http_pages.proofs.views.clean_posts.Given as goal

abbrev pub invariant-loop-post : goal.invariant-loop-post
invariant-loop-post l = (lines : List ℕ → ℕ → List ℕ → List ℕ) → clean_lines lines l.clean.items ≡ cleaned_lines lines (take l.post-index l.posts)
