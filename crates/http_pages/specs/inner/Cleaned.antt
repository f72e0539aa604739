-- What becomes of posts whose texts are cleaned.
use Rattle.std.specs.Prelude.{ℕ, List}
use Rattle.std.specs.List.{flat_map}
use Rattle.markup.specs.Cleaning.{cleaned}
use Rattle.site_history.specs.declared.views.PostView.{PostView}
use Rattle.html_pages.specs.declared.shown.CleanPost.{CleanPost}

-- What lines of an author, a moment and a text in HTML come to: one after another, of posts that are clean, and of posts that are cleaned.
abbrev pub clean_lines : (List ℕ → ℕ → List ℕ → List ℕ) → List CleanPost → List ℕ
clean_lines lines posts = flat_map (λ post. lines post.author post.moment post.html) posts

abbrev pub cleaned_lines : (List ℕ → ℕ → List ℕ → List ℕ) → List PostView → List ℕ
cleaned_lines lines posts = flat_map (λ post. lines post.author post.moment (cleaned post.text)) posts
