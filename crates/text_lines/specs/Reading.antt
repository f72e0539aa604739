-- How a text is read: line by line, each after what those before it stand for.
use Rattle.std.specs.Prelude.{ℕ, ◌≡◌, ◌+◌, List, [], ◌∷◌, Option, Some, None, IfSome, Result, Ok, Err}
use Rattle.text_lines.specs.declared.faults.TextKind.{TextKind}
use Rattle.text_lines.specs.declared.faults.TextFault.{TextFault}
use Rattle.text_lines.specs.declared.faults.LineFault.{LineFault}
use Rattle.text_lines.specs.declared.faults.LineFault.TheVariants.{Kind, NoMemory}

-- What a text stands for after these lines, of which the first has that number; or the first line that has a fault.
-- `step` says what the text stands for after one line more, or which fault that line has.
unfoldable pub reading : {S : Type 0} → (S → List ℕ → Result S TextKind) → ℕ → S → List (List ℕ) → Result S TextFault
reading step number state [] = Ok state
reading step number state (line ∷ others) = elim (step state line) [
  | Err kind ↦ Err (record { line = number; kind = kind })
  | Ok next ↦ reading step (number + 1) next others
]

-- What became of a draft that reads one line more, and what the line says. `Is draft state`: the draft is one of that
-- state. A line that is read leaves a draft of what it says, a fault is the line's own, and running out of memory tells nothing.
abbrev pub Reads : {S D : Type 0} → (D → S → Type 0) → Result (Unit {0}) LineFault → D → Result S TextKind → Type 0
Reads {S} Is (Ok u) new said = (state : S) × (said ≡ Ok state) × Is new state
Reads Is (Err NoMemory) new said = Unit {0}
Reads Is (Err (Kind kind)) new said = said ≡ Err kind

-- The fault of a text whose line of that number can't be read for that reason; none where memory ran out.
abbrev pub fault_at : ℕ → LineFault → Option TextFault
fault_at number NoMemory = None
fault_at number (Kind kind) = Some (record { line = number; kind = kind })

-- What became of a whole text, and what it says. `fault_of` takes the text's fault out of a refusal, which may also be want
-- of memory.
abbrev pub ReadsAll : {S D E : Type 0} → (D → S → Type 0) → (E → Option TextFault) → Result D E → Result S TextFault → Type 0
ReadsAll {S} Is fault_of (Ok draft) said = (state : S) × (said ≡ Ok state) × Is draft state
ReadsAll Is fault_of (Err refusal) said = IfSome (fault_of refusal) (λ fault. said ≡ Err fault)
