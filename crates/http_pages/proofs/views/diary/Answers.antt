use Rattle.std.proofs.Common.{ap, ◌∙◌}
use Rattle.std.specs.List.{flat_map}
use Rattle.html_pages.specs.Lines.{entry_lines}
use Rattle.http_pages.specs.Views.{entry_of}
use Rattle.html_pages.specs.Shown.{entry}
use Rattle.http_pages.proofs.views.diary.Goals as goal

pub returns : goal.returns
unfolding entry entry_of
returns c =
    rw (ap (flat_map entry) c.deref-2.ensures.value ∙ c.in_ok-posts.ensures (λ author moment html. entry_lines moment html) ∙ ap (flat_map entry_of) c.deref.ensures.value)
    at c.found.ensures
