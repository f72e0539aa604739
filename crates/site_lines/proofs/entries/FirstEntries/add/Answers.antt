use Rattle.std.proofs.Common.{◌≡◌, ◌∙◌, ap, length, arith, sym}
use Rattle.std.proofs.lemmas.List.{length-take-le}
use Rattle.site_lines.proofs.Entering.{take-full}
use Rattle.site_lines.proofs.entries.FirstEntries.add.Goals as goal

pub returns-else-self-lt-ROOM : goal.returns-else-self-lt-ROOM
returns-else-self-lt-ROOM c =
    let same : c.self.inside.len ≡ 17 = omega (arith, c.self.invariant, c.if-self-lt-ROOM.false) in
    let full : length c.args.self.now ≡ 17 = ap length (sym c.self.view_is) ∙ length-take-le c.self.inside.len c.self.inside.kept (omega (arith, c.self.told, c.self.invariant)) ∙ same in
    take-full 17 c.args.self.now c.args.entry full
