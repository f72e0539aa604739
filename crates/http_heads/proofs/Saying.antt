-- The head's end, found byte by byte.
use Rattle.std.proofs.Common.{◌≡◌, ℕ, ◌+◌, Bool, true, false, ◌==◌, List, [], ◌∷◌, ◌++◌, length, Option, Some, None, refl, sym, ap, ◌∙◌, arith}
use Rattle.httparse.specs.Grammar.{LineEnd, crlf, lf, print_blank}
use Rattle.http_heads.specs.Lines.{is_end, whole_lines, is_empty}
use Rattle.http_heads.specs.HeadEnd.{room, up_to_empty, head_of, head_end}
use Rattle.http_heads.specs.Laws.{past, empty_line, behind_empty}
use Rattle.http_heads.proofs.Lining.{Lines}

-- The first line whatever it is, and the lines behind it up to an empty one.
abbrev past_first : Lines → Option ℕ
past_first [] = None
past_first (l ∷ ls) = past (room l) (up_to_empty ls)

past-past : (m n : ℕ) (o : Option ℕ) → past m (past n o) ≡ past (m + n) o
past-past m n None = refl
past-past m n (Some k) = ap (λ x. Some x) (omega arith)

-- An empty line at the front is the first of the lines.
up_to_empty-empty : (bytes : List ℕ) (n : ℕ) → empty_line bytes ≡ Some n → up_to_empty (whole_lines bytes) ≡ Some n
up_to_empty-empty [] n h = absurd (cc)
up_to_empty-empty (a ∷ []) n h = by (a == 10) refl
  where
    by : (v : Bool) → (a == 10) ≡ v → up_to_empty (whole_lines (a ∷ [])) ≡ Some n
    by true e = let one : Some 1 ≡ Some n = rw e at h in rw e one
    by false e = let no : None ≡ Some n = rw e at h in absurd (cc)
up_to_empty-empty (a ∷ b ∷ bytes) n h = by (a == 10) refl (a == 13) refl (b == 10) refl
  where
    by : (v : Bool) → (a == 10) ≡ v → (w : Bool) → (a == 13) ≡ w → (u : Bool) → (b == 10) ≡ u → up_to_empty (whole_lines (a ∷ b ∷ bytes)) ≡ Some n
    by true e w f u g = let one : Some 1 ≡ Some n = rw e at h in rw e one
    by false e true f true g = let two : Some 2 ≡ Some n = rw (e, f, g) at h in rw (e, g, f) two
    by false e true f false g = let no : None ≡ Some n = rw (e, f, g) at h in absurd (cc)
    by false e false f u g = let no : None ≡ Some n = rw (e, f) at h in absurd (cc)

filled_first : (xs l : List ℕ) (ls : Lines) → empty_line xs ≡ None → whole_lines xs ≡ l ∷ ls → is_empty l ≡ false
filled_first [] l ls none e = absurd (cc)
filled_first (a ∷ []) l ls none e = by (a == 10) refl
  where
    by : (v : Bool) → (a == 10) ≡ v → is_empty l ≡ false
    by true f = let no : Some 1 ≡ None = rw f at none in absurd (cc)
    by false f = let no : [] ≡ l ∷ ls = rw f at e in absurd (cc)
filled_first (a ∷ b ∷ xs) l ls none e = by (a == 10) refl (b == 10) refl (a == 13) refl (whole_lines xs) refl
  where
    by : (v : Bool) → (a == 10) ≡ v → (w : Bool) → (b == 10) ≡ w → (u : Bool) → (a == 13) ≡ u → (ws : Lines) → whole_lines xs ≡ ws → is_empty l ≡ false
    by true f w g u k ws m = let no : Some 1 ≡ None = rw f at none in absurd (cc)
    by false f true g true k ws m = let no : Some 2 ≡ None = rw (f, k, g) at none in absurd (cc)
    by false f true g false k ws m =
        let first : (a ∷ []) ∷ whole_lines xs ≡ l ∷ ls = rw (f, g) at e in
        let same : l ≡ a ∷ [] = cc in
        ap is_empty same ∙ k
    by false f false g u k [] m = let no : [] ≡ l ∷ ls = rw (f, g, m) at e in absurd (cc)
    by false f false g u k (x ∷ ws) m =
        let first : (a ∷ b ∷ x) ∷ ws ≡ l ∷ ls = rw (f, g, m) at e in
        let same : l ≡ a ∷ b ∷ x = cc in
        ap is_empty same

-- Where none is there, the first line isn't empty.
up_to_empty-other : (bytes : List ℕ) → empty_line bytes ≡ None → up_to_empty (whole_lines bytes) ≡ past_first (whole_lines bytes)
up_to_empty-other bytes h = by (whole_lines bytes) refl
  where
    by : (ls : Lines) → whole_lines bytes ≡ ls → up_to_empty ls ≡ past_first ls
    by [] e = refl
    by (l ∷ ls) e = let some = filled_first bytes l ls h e in rw some refl

behind_empty-lines : (bytes : List ℕ) → behind_empty bytes ≡ past_first (whole_lines bytes)
behind_empty-lines [] = refl
behind_empty-lines (b ∷ bytes) = by (behind_empty-lines bytes) (is_end b) refl (empty_line bytes) refl (whole_lines bytes) refl
  where
    by : behind_empty bytes ≡ past_first (whole_lines bytes) → (v : Bool) → is_end b ≡ v → (o : Option ℕ) → empty_line bytes ≡ o → (ls : Lines) → whole_lines bytes ≡ ls
        → behind_empty (b ∷ bytes) ≡ past_first (whole_lines (b ∷ bytes))
    by ih true e (Some n) f ls g = let same = up_to_empty-empty bytes n f in rw (e, f, same) refl
    by ih true e None f ls g = let same = up_to_empty-other bytes f in rw (e, f, ih, same) refl
    by ih false e o f [] g = rw (e, ih, g) refl
    by ih false e o f (l ∷ ls) g = rw (e, ih, g) (past-past 1 (room l) (up_to_empty ls) ∙ ap (λ n. past n (up_to_empty ls)) (omega arith))

-- Behind empty lines the head's end is behind the first line.
head_end-other : (bytes : List ℕ) → empty_line bytes ≡ None → head_end bytes ≡ past_first (whole_lines bytes)
head_end-other bytes h = by (whole_lines bytes) refl
  where
    by : (ls : Lines) → whole_lines bytes ≡ ls → head_of ls ≡ past_first ls
    by [] e = refl
    by (l ∷ ls) e = let some = filled_first bytes l ls h e in rw some refl

pub ends_as_said : (ends : List LineEnd) (bytes : List ℕ) → empty_line bytes ≡ None → head_end (print_blank ends ++ bytes) ≡ past (length (print_blank ends)) (behind_empty bytes)
ends_as_said [] bytes h = head_end-other bytes h ∙ sym (behind_empty-lines bytes) ∙ sym (past-none (behind_empty bytes))
  where
    past-none : (o : Option ℕ) → past 0 o ≡ o
    past-none None = refl
    past-none (Some n) = ap (λ x. Some x) (omega arith)
ends_as_said (lf ∷ ends) bytes h =
    ap (past 1) (ends_as_said ends bytes h) ∙ past-past 1 (length (print_blank ends)) (behind_empty bytes) ∙ ap (λ n. past n (behind_empty bytes)) (omega arith)
ends_as_said (crlf ∷ ends) bytes h =
    ap (past 2) (ends_as_said ends bytes h) ∙ past-past 2 (length (print_blank ends)) (behind_empty bytes) ∙ ap (λ n. past n (behind_empty bytes)) (omega arith)
