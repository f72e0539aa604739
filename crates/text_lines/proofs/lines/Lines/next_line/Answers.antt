use Rattle.std.proofs.Common.{◌≡◌, ◌<◌, length, arith, sym}
use Rattle.text_lines.proofs.Cutting.{lines-at, lines-last, lines-none, lines-nil}
use Rattle.text_lines.proofs.lines.Lines.next_line.Goals as goal

pub returns-then-is_empty-clause-line : goal.returns-then-is_empty-clause-line
returns-then-is_empty-clause-line c =
    let none : length c.self.inside.rest.now ≡ 0 = grind arith in
    rw (sym c.self.view_is) (lines-none _ none)

pub returns-in_default-clause-line : goal.returns-in_default-clause-line
returns-in_default-clause-line c =
    let some : 0 < length c.self.inside.rest.now = grind arith in
    rw (sym c.self.view_is, lines-nil) (lines-last _ some c.in_default.ensures)

pub returns-clause-line : goal.returns-clause-line
returns-clause-line c = rw (sym c.self.view_is) (lines-at _ _ _ _ c.in-Some.ensures c.split_at.ensures.front c.split_at.ensures.back)
