-- The lines of what is ready to be put down.
use Rattle.std.specs.Prelude.{ℕ, List}
use Rattle.html_pages.specs.Lines.{article_line, entry_lines, post_lines, reply_lines}
use Rattle.html_pages.specs.declared.shown.CleanPost.{CleanPost}
use Rattle.html_pages.specs.declared.shown.Headline.{Headline}

unfoldable pub headline : Headline → List ℕ
headline h = article_line h.number h.title h.author

unfoldable pub entry : CleanPost → List ℕ
entry post = entry_lines post.moment post.html

unfoldable pub written : CleanPost → List ℕ
written post = post_lines post.author post.moment post.html

unfoldable pub reply : CleanPost → List ℕ
reply post = reply_lines post.author post.moment post.html
