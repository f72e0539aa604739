use Rattle.std.proofs.Common.{◌≡◌, ap, ◌∙◌}
use Rattle.std.specs.List.{flat_map}
use Rattle.markup.specs.Escapes.{escaped}
use Rattle.html_pages.specs.Lines.{post_lines, reply_lines}
use Rattle.http_pages.specs.Views.{written_of, reply_of}
use Rattle.html_pages.specs.Shown.{written, reply}
use Rattle.http_pages.proofs.views.article.Goals as goal

pub returns : goal.returns
unfolding written written_of reply reply_of
returns c =
    let title : c.in_ok-title.title ≡ escaped c.args.view.now.title = c.in_ok-title.ensures.exact ∙ ap escaped c.as_str.ensures.bytes in
    let article : written c.in_ok-post.post ≡ written_of c.args.view.now.post =
    λ i. post_lines (c.in_ok-post.ensures.author i) (c.in_ok-post.ensures.moment i) (c.in_ok-post.ensures.html i) in
    let replies : flat_map reply c.deref-2.result.now ≡ flat_map reply_of c.args.view.now.replies.items =
    ap (flat_map reply) c.deref-2.ensures.value ∙ c.in_ok-replies.ensures reply_lines ∙ ap (flat_map reply_of) c.deref.ensures.value in
    rw (title, article, replies) at c.found.ensures
