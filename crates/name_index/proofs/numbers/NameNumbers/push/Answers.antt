use Rattle.std.proofs.Common.{sym, subst}
use Rattle.name_index.specs.Numbers.{AreNumbersOf}
use Rattle.name_index.proofs.Numbering.{pushed}
use Rattle.name_index.proofs.numbers.NameNumbers.push.Goals as goal

pub returns : goal.returns
returns c = λ names are none next.
    pushed names c.self.inside.table c.self.inside.recent.entries c.insert.new.self.entries c.args.name.now (record { key = c.spread_key.result; number = c.args.number })
    (subst (λ numbers. AreNumbersOf names numbers.entries) (sym c.self.view_is) are) none next c.spread_key.ensures.apart c.insert.ensures
