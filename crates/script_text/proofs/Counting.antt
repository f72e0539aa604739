-- The numbers that words write, one after another.
use Rattle.std.proofs.Common.{ℕ, List, ◌++◌, Result, Ok, Err}
use Rattle.text_lines.specs.declared.faults.TextKind.{TextKind}

-- Numbers that were read, before those of what is left.
abbrev pub after : List ℕ → Result (List ℕ) TextKind → Result (List ℕ) TextKind
after read (Ok ns) = Ok (read ++ ns)
after read (Err kind) = Err kind
