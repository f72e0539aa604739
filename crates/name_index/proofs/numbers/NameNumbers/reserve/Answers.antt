use Rattle.std.proofs.Common.{◌++◌, sym, subst}
use Rattle.name_index.specs.Numbers.{AreNumbersOf}
use Rattle.name_index.proofs.numbers.NameNumbers.reserve.Goals as goal

pub returns-in_err-reserve-clause-same : goal.returns-in_err-reserve-clause-same
returns-in_err-reserve-clause-same c = λ names are.
    subst (λ recent. AreNumbersOf names (c.self.inside.table ++ recent)) (sym c.in_err-reserve.ensures.same)
    (subst (λ numbers. AreNumbersOf names numbers.entries) (sym c.self.view_is) (c.settle.ensures names are))

pub returns-clause-same : goal.returns-clause-same
returns-clause-same c = λ names are.
    subst (λ recent. AreNumbersOf names (c.self.inside.table ++ recent)) (sym c.in_ok-reserve.ensures.same)
    (subst (λ numbers. AreNumbersOf names numbers.entries) (sym c.self.view_is) (c.settle.ensures names are))
