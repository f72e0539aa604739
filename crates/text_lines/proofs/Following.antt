-- One line more of a text, and its end.
use Rattle.std.proofs.Common.{◌≡◌, ℕ, ◌+◌, List, [], ◌∷◌, Result, Ok, Err, Option, refl, sym, ◌∙◌}
use Rattle.text_lines.specs.declared.faults.TextKind.{TextKind}
use Rattle.text_lines.specs.declared.faults.TextFault.{TextFault}
use Rattle.text_lines.specs.declared.faults.LineFault.{LineFault}
use Rattle.text_lines.specs.declared.faults.LineFault.TheVariants.{Kind, NoMemory}
use Rattle.text_lines.specs.Reading.{reading, Reads, ReadsAll, fault_at}

pub reading-more : {S : Type 0} (step : S → List ℕ → Result S TextKind) (n : ℕ) (s : S) (line : List ℕ) (others : List (List ℕ)) (next : S) → step s line ≡ Ok next → reading step n s (line ∷ others) ≡ reading step (n + 1) next others
unfolding reading
reading-more step n s line others next e = rw (e, reading) refl

pub reading-bad : {S : Type 0} (step : S → List ℕ → Result S TextKind) (n : ℕ) (s : S) (line : List ℕ) (others : List (List ℕ)) (kind : TextKind) → step s line ≡ Err kind → reading step n s (line ∷ others) ≡ Err (record { line = n; kind = kind })
unfolding reading
reading-bad step n s line others kind e = rw (e, reading) refl

pub reading-end : {S : Type 0} (step : S → List ℕ → Result S TextKind) (n : ℕ) (s : S) (lines : List (List ℕ)) → lines ≡ [] → reading step n s lines ≡ Ok s
unfolding reading
reading-end step n s lines e = rw (e, reading) refl

-- A line that isn't read ends the text: what became of the text is then the line's fault, at the line's number.
pub reading-refused : {S D E : Type 0} (step : S → List ℕ → Result S TextKind) (Is : D → S → Type 0) (fault_of : E → Option TextFault) (n : ℕ) (s : S) (line : List ℕ) (others : List (List ℕ)) (all : Result S TextFault) (new : D) (fault : LineFault) (refusal : E)
    → reading step n s (line ∷ others) ≡ all → Reads Is (Err fault) new (step s line) → fault_of refusal ≡ fault_at n fault → ReadsAll Is fault_of (Err refusal) all
reading-refused step Is fault_of n s line others all new NoMemory refusal so_far said is = rw is tt
reading-refused step Is fault_of n s line others all new (Kind kind) refusal so_far said is = rw is (sym so_far ∙ reading-bad step n s line others kind said)
