use Rattle.std.proofs.Common.{◌≡◌}
use Rattle.html_pages.specs.Lines.{post_lines}
use Rattle.http_pages.specs.Views.{written_of}
use Rattle.html_pages.specs.Shown.{written}
use Rattle.http_pages.proofs.views.project.Goals as goal

pub returns : goal.returns
unfolding written written_of
returns c =
    let project : written c.in_ok-post.post ≡ written_of c.args.view.now.post =
    λ i. post_lines (c.in_ok-post.ensures.author i) (c.in_ok-post.ensures.moment i) (c.in_ok-post.ensures.html i) in
    rw project at c.found.ensures
