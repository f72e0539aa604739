use Rattle.std.proofs.Common.{sym, ap, subst, ◌∙◌, slice_get}
use Rattle.name_index.specs.inner.KeyTables.{LacksKey}
use Rattle.name_index.proofs.Listed.{IsPlace, lacks_with}
use Rattle.name_index.proofs.key_list.KeyList.find.Goals as goal

pub returns-else-entry-key : goal.returns-else-entry-key
returns-else-entry-key c =
    subst (λ list. LacksKey list.entries c.args.key) c.self.view_is
    (lacks_with c.self.inside.entries.items c.args.key c.place_of.result c.in_ok-entry.entry c.self.invariant
    (subst (λ entries. IsPlace entries c.args.key c.place_of.result) c.deref-2.ensures.value c.place_of.ensures.place)
    (ap (λ entries. slice_get entries c.place_of.result) (sym c.deref.ensures.value) ∙ sym c.entry_at.ensures ∙ c.in_ok-entry.was)
    c.if-entry-key.false)
