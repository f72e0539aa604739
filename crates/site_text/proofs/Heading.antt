-- The head of a text by its first line and those behind.
use Rattle.std.proofs.Common.{ℕ, ◌≡◌, ◌+◌, ◌≤◌, Bool, true, false, List, [], ◌∷◌, Result, Ok, Err, length, arith, refl, ap, ◌∙◌}
use Rattle.std.specs.Prelude.{IfOk}
use Rattle.std.proofs.lemmas.List.{length-drop}
use Rattle.text_lines.specs.declared.faults.TextKind.{TextKind}
use Rattle.text_lines.specs.Steps.{at_line}
use Rattle.site_lines.specs.Site.{is_levels_line}
use Rattle.site_text.specs.inner.Parts.{levels_count, behind_levels}
use Rattle.site_text.specs.Site.{head_count, behind_head}

count_by : (first second : List ℕ) (others : List (List ℕ)) (is : Bool) → is_levels_line second ≡ is → head_count (first ∷ second ∷ others) ≡ 1 + levels_count (second ∷ others)
count_by first second others true e = rw e refl
count_by first second others false e = rw e refl

count-first : (first : List ℕ) (rest : List (List ℕ)) → head_count (first ∷ rest) ≡ 1 + levels_count rest
count-first first [] = refl
count-first first (second ∷ others) = count_by first second others (is_levels_line second) refl

pub head-count : (ls rest : List (List ℕ)) (first : List ℕ) → ls ≡ first ∷ rest → head_count ls ≡ 1 + levels_count rest
head-count ls rest first e = ap head_count e ∙ count-first first rest

behind_by : (first second : List ℕ) (others : List (List ℕ)) (is : Bool) → is_levels_line second ≡ is → behind_head (first ∷ second ∷ others) ≡ behind_levels (second ∷ others)
behind_by first second others true e = rw e refl
behind_by first second others false e = rw e refl

behind-first : (first : List ℕ) (rest : List (List ℕ)) → behind_head (first ∷ rest) ≡ behind_levels rest
behind-first first [] = refl
behind-first first (second ∷ others) = behind_by first second others (is_levels_line second) refl

pub head-behind : (ls rest : List (List ℕ)) (first : List ℕ) → ls ≡ first ∷ rest → behind_head ls ≡ behind_levels rest
head-behind ls rest first e = ap behind_head e ∙ behind-first first rest

-- No lines are added.
pub behind-le : (ls : List (List ℕ)) → length (behind_head ls) ≤ length ls
behind-le ls = omega (arith, length-drop (head_count ls) ls)

-- What is so of what a line gives is so of it as a text's.
pub at_line-if : {A : Type 0} (P : A → Type 0) (number : ℕ) (r : Result A TextKind) → IfOk r P → IfOk (at_line number r) P
at_line-if P number (Ok x) is = is
at_line-if P number (Err kind) is = tt
