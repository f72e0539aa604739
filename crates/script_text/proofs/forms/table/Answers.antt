use Rattle.std.proofs.Common.{refl, sym, ap}
use Rattle.script_text.specs.Lines.{table_in}
use Rattle.script_text.proofs.forms.table.Goals as goal

pub returns : goal.returns
returns c = rw (c.act.ensures refl, c.in_ok-numbers.ensures, ap table_in (sym c.deref.ensures.value), sym c.in_ok-caps.ensures) refl
