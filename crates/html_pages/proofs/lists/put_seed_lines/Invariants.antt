use Rattle.std.proofs.Common.{◌≡◌, take}
use Rattle.std.specs.List.{flat_map}
use Rattle.html_pages.specs.Lines.{seed_line}
use Rattle.html_pages.specs.Inks.{inked}
use Rattle.html_pages.proofs.lists.put_seed_lines.Given as goal

abbrev pub invariant-loop-seed : goal.invariant-loop-seed
invariant-loop-seed l = l.pen ≡ inked l.initial.pen (flat_map seed_line (take l.seed-index l.seeds))
