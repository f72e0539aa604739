use Rattle.std.proofs.Common.{subst}
use Rattle.std.specs.List.Sorted.{IsPermutation}
use Rattle.name_index.proofs.Numbering.{settled}
use Rattle.name_index.proofs.numbers.NameNumbers.settle.Goals as goal

pub returns-in_ok-self-inside : goal.returns-in_ok-self-inside
returns-in_ok-self-inside c = λ names are.
    settled names c.args.self.now.entries c.in_ok-self-inside.field-0 c.clear.new.self.entries are
    (subst (λ entries. IsPermutation entries c.in_ok-self-inside.field-0) c.in_ok-entries.ensures c.in_ok-self-inside.ensures) c.clear.ensures
