-- For the reader's own functions: what became of a line, or of a part of one.
use Rattle.std.specs.Prelude.{ℕ, ◌≡◌, List, Result, Ok, Err, MatchResult}
use Rattle.text_lines.specs.declared.faults.TextKind.{TextKind}
use Rattle.text_lines.specs.declared.faults.LineFault.{LineFault}
use Rattle.text_lines.specs.declared.faults.LineFault.TheVariants.{Kind}

-- What was read is what is said, and a fault of a kind is the line's own. Running out of memory tells nothing.
abbrev pub Tells : {A : Type 0} → Result A LineFault → Result A TextKind → Type 0
Tells result said = MatchResult result (λ x. said ≡ Ok x) (λ fault. (kind : TextKind) → fault ≡ Kind kind → said ≡ Err kind)

-- The same where the actors are told that are named from then on.
abbrev pub TellsWith : {A : Type 0} → List (List ℕ) → Result A LineFault → Result (A × List (List ℕ)) TextKind → Type 0
TellsWith actors result said = MatchResult result (λ x. said ≡ Ok (x, actors)) (λ fault. (kind : TextKind) → fault ≡ Kind kind → said ≡ Err kind)
