use Rattle.std.proofs.Common.{sym, subst}
use Rattle.std.proofs.lemmas.List.Elements.{Contains-append_left}
use Rattle.name_index.specs.Numbers.{AreNumbersOf}
use Rattle.name_index.proofs.Numbering.{found, found_behind}
use Rattle.name_index.proofs.numbers.NameNumbers.find.Goals as goal

pub returns-in-Some : goal.returns-in-Some
returns-in-Some c = λ names are.
    found names _ c.args.name.now c.spread_key-key.result c.in-Some.number (subst (λ numbers. AreNumbersOf names numbers.entries) (sym c.self.view_is) are)
    c.spread_key-key.ensures.name (sym c.spread_key-key.ensures.value) (Contains-append_left _ _ _ c.in-Some.ensures)

pub returns-in-None : goal.returns-in-None
returns-in-None c = λ names are.
    found_behind names c.self.inside.table c.self.inside.recent.entries c.args.name.now c.spread_key-key.result c.find-in-None.result
    (subst (λ numbers. AreNumbersOf names numbers.entries) (sym c.self.view_is) are)
    c.spread_key-key.ensures.name (sym c.spread_key-key.ensures.value) c.in-None.ensures c.find-in-None.ensures
