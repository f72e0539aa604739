use Rattle.std.proofs.Common.{◌∙◌, ap, reverse}
use Rattle.std.specs.List.{list_any}
use Rattle.std.proofs.lemmas.List.Sorted.{list_any-IsPermutation, IsPermutation-reverse}
use Rattle.markup.specs.Elements.{is_same}
use Rattle.markup.proofs.opened.Opened.holds.Goals as goal

-- The order in which the elements are looked at makes no difference.
pub returns : goal.returns
returns c =
    let items = c.self.inside.elements.items in
    c.has.ensures ∙ ap (list_any (is_same c.args.element)) c.deref.ensures.value
    ∙ list_any-IsPermutation (is_same c.args.element) items (reverse items) (IsPermutation-reverse items)
    ∙ ap (list_any (is_same c.args.element)) c.self.view_is
