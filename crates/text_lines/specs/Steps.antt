-- Definitions by steps, of which the first that fails gives the fault: what a `do` in a definition stands for.
use Rattle.std.specs.Prelude.{ℕ, Bool, true, false, Result, Ok, Err}
use Rattle.text_lines.specs.declared.faults.TextKind.{TextKind}
use Rattle.text_lines.specs.declared.faults.TextFault.{TextFault}

-- A step, and the further ones with what it gives.
infixl 10 ◌>>=◌
abbrev pub ◌>>=◌ : {A B E : Type 0} → Result A E → (A → Result B E) → Result B E
(Ok x) >>= f = f x
(Err e) >>= f = Err e

-- The fault, where the test holds.
abbrev pub fault_if : Bool → TextKind → Result (Unit {0}) TextKind
fault_if true kind = Err kind
fault_if false kind = Ok tt

-- The fault, unless the test holds.
abbrev pub fault_unless : Bool → TextKind → Result (Unit {0}) TextKind
fault_unless true kind = Ok tt
fault_unless false kind = Err kind

-- A line's fault as that of a text whose line of that number it is.
abbrev pub at_line : {A : Type 0} → ℕ → Result A TextKind → Result A TextFault
at_line number (Ok x) = Ok x
at_line number (Err kind) = Err (record { line = number; kind = kind })
