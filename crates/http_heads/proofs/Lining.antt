-- The lines of bytes of which more come.
use Rattle.std.proofs.Common.{◌≡◌, ℕ, suc, ◌+◌, ◌≤◌, Bool, true, false, cond, List, [], ◌∷◌, ◌++◌, length, refl, sym, ap, ◌∙◌, arith}
use Rattle.std.proofs.lemmas.List.{append-nil}
use Rattle.http_heads.specs.Lines.{is_end, onto_next, whole_lines}
use Rattle.http_heads.specs.HeadEnd.{room}
use Rattle.http_heads.specs.Scans.{unfinished, are_none}

abbrev pub Lines : Type 0
Lines = List (List ℕ)

-- How many bytes lines take with their LFs.
abbrev pub rooms : Lines → ℕ
rooms [] = 0
rooms (line ∷ lines) = room line + rooms lines

-- More bytes leave the whole lines as they are, and go on with what isn't finished.
pub whole_lines-append : (bytes more : List ℕ) → whole_lines (bytes ++ more) ≡ whole_lines bytes ++ whole_lines (unfinished bytes ++ more)
whole_lines-append [] more = refl
whole_lines-append (b ∷ bytes) more = by (whole_lines-append bytes more) (is_end b) refl
  where
    short : (whole_lines (bytes ++ more) ≡ whole_lines bytes ++ whole_lines (unfinished bytes ++ more)) → (ls : Lines) → whole_lines bytes ≡ ls → is_end b ≡ false
        → onto_next b (whole_lines (bytes ++ more)) ≡ onto_next b ls ++ whole_lines ((cond (are_none ls) (b ∷ bytes) (unfinished bytes)) ++ more)
    short ih [] e n = rw n refl
    short ih (l ∷ ls) e n = ap (onto_next b) (ih ∙ ap (λ (x : Lines). x ++ whole_lines (unfinished bytes ++ more)) e)

    by : (whole_lines (bytes ++ more) ≡ whole_lines bytes ++ whole_lines (unfinished bytes ++ more)) → (v : Bool) → is_end b ≡ v → whole_lines ((b ∷ bytes) ++ more) ≡ whole_lines (b ∷ bytes) ++ whole_lines (unfinished (b ∷ bytes) ++ more)
    by ih true e = rw e (ap (λ (x : Lines). [] ∷ x) ih)
    by ih false e = rw e (short ih (whole_lines bytes) refl e)

-- What isn't finished has no whole line.
pub whole_lines-unfinished : (bytes : List ℕ) → whole_lines (unfinished bytes) ≡ []
whole_lines-unfinished [] = refl
whole_lines-unfinished (b ∷ bytes) = by (whole_lines-unfinished bytes) (is_end b) refl
  where
    short : whole_lines (unfinished bytes) ≡ [] → (ls : Lines) → whole_lines bytes ≡ ls → is_end b ≡ false → whole_lines (cond (are_none ls) (b ∷ bytes) (unfinished bytes)) ≡ []
    short ih [] e n = rw (n, e) refl
    short ih (l ∷ ls) e n = ih

    by : whole_lines (unfinished bytes) ≡ [] → (v : Bool) → is_end b ≡ v → whole_lines (unfinished (b ∷ bytes)) ≡ []
    by ih true e = rw e ih
    by ih false e = rw e (short ih (whole_lines bytes) refl e)

-- The whole lines and what isn't finished are all the bytes.
pub rooms-whole_lines : (bytes : List ℕ) → rooms (whole_lines bytes) + length (unfinished bytes) ≡ length bytes
rooms-whole_lines [] = refl
rooms-whole_lines (b ∷ bytes) = by (rooms-whole_lines bytes) (is_end b) refl
  where
    short : (rooms (whole_lines bytes) + length (unfinished bytes) ≡ length bytes) → (ls : Lines) → whole_lines bytes ≡ ls → rooms (onto_next b ls) + length (cond (are_none ls) (b ∷ bytes) (unfinished bytes)) ≡ suc (length bytes)
    short same [] e = omega arith
    short same (l ∷ ls) e =
        let known : rooms (l ∷ ls) + length (unfinished bytes) ≡ length bytes = ap (λ (x : Lines). rooms x + length (unfinished bytes)) (sym e) ∙ same in
        omega arith

    by : (rooms (whole_lines bytes) + length (unfinished bytes) ≡ length bytes) → (v : Bool) → is_end b ≡ v → rooms (whole_lines (b ∷ bytes)) + length (unfinished (b ∷ bytes)) ≡ suc (length bytes)
    by same true e = rw e (omega arith)
    by same false e = rw e (short same (whole_lines bytes) refl)

tail_none : (b : ℕ) (t : List ℕ) → whole_lines (b ∷ t) ≡ [] → (is_end b ≡ false) × (whole_lines t ≡ [])
tail_none b t h = by (is_end b) refl (whole_lines t) refl
  where
    by : (v : Bool) → is_end b ≡ v → (ls : Lines) → whole_lines t ≡ ls → (is_end b ≡ false) × (whole_lines t ≡ [])
    by true e ls f = let no : [] ∷ whole_lines t ≡ [] = rw e at h in absurd (cc)
    by false e [] f = (e, f)
    by false e (l ∷ ls) f = let no : onto_next b (l ∷ ls) ≡ [] = rw (e, f) at h in absurd (cc)

-- An LF makes a line of bytes that have none.
pub whole_lines-finish : (t more : List ℕ) → whole_lines t ≡ [] → whole_lines (t ++ 10 ∷ more) ≡ t ∷ whole_lines more
whole_lines-finish [] more h = refl
whole_lines-finish (b ∷ t) more h =
    let none = tail_none b t h in
    let n = none.0 in
    rw n (ap (onto_next b) (whole_lines-finish t more none.1))

-- Another byte makes none.
pub whole_lines-go_on : (t : List ℕ) (x : ℕ) → whole_lines t ≡ [] → is_end x ≡ false → whole_lines (t ++ x ∷ []) ≡ []
whole_lines-go_on [] x h n = rw n refl
whole_lines-go_on (b ∷ t) x h n =
    let none = tail_none b t h in
    let m = none.0 in
    rw m (ap (onto_next b) (whole_lines-go_on t x none.1 n))

-- A line that goes on with bytes that aren't finished is at least as long as they are.
pub first_line-unfinished : (t more l : List ℕ) (ls : Lines) → whole_lines t ≡ [] → whole_lines (t ++ more) ≡ l ∷ ls → length t ≤ length l
first_line-unfinished [] more l ls h e = omega arith
first_line-unfinished (b ∷ t) more l ls h e =
    let none = tail_none b t h in
    let n = none.0 in
    by (λ k ks f. first_line-unfinished t more k ks none.1 f) (whole_lines (t ++ more)) refl (rw n at e)
  where
    by : ((k : List ℕ) (ks : Lines) → whole_lines (t ++ more) ≡ k ∷ ks → length t ≤ length k) → (ks : Lines) → whole_lines (t ++ more) ≡ ks → onto_next b ks ≡ l ∷ ls → length (b ∷ t) ≤ length l
    by ih [] f g = absurd (cc)
    by ih (k ∷ ks) f g =
        let shorter = ih k ks f in
        let same : b ∷ k ≡ l = cc in
        let long : length (b ∷ k) ≡ length l = ap length same in
        omega arith

-- ---- one byte more

pub lines-line_end : (bytes : List ℕ) → whole_lines (bytes ++ 10 ∷ []) ≡ whole_lines bytes ++ unfinished bytes ∷ []
lines-line_end bytes = whole_lines-append bytes (10 ∷ []) ∙ ap (λ (x : Lines). whole_lines bytes ++ x) (whole_lines-finish (unfinished bytes) [] (whole_lines-unfinished bytes))

pub lines-other : (bytes : List ℕ) (x : ℕ) → is_end x ≡ false → whole_lines (bytes ++ x ∷ []) ≡ whole_lines bytes
lines-other bytes x n = whole_lines-append bytes (x ∷ []) ∙ ap (λ (l : Lines). whole_lines bytes ++ l) (whole_lines-go_on (unfinished bytes) x (whole_lines-unfinished bytes) n) ∙ append-nil (whole_lines bytes)

pub unfinished-line_end : (bytes : List ℕ) → unfinished (bytes ++ 10 ∷ []) ≡ []
unfinished-line_end [] = refl
unfinished-line_end (b ∷ bytes) = by (unfinished-line_end bytes) (is_end b) refl (whole_lines (bytes ++ 10 ∷ [])) refl
  where
    some : (ls : Lines) → length (ls ++ unfinished bytes ∷ []) ≡ 0 → ⊥
    some [] h = omega arith
    some (l ∷ ls) h = omega arith

    by : unfinished (bytes ++ 10 ∷ []) ≡ [] → (v : Bool) → is_end b ≡ v → (ls : Lines) → whole_lines (bytes ++ 10 ∷ []) ≡ ls → unfinished ((b ∷ bytes) ++ 10 ∷ []) ≡ []
    by ih true e ls f = rw e ih
    by ih false e [] f =
        let long : length (whole_lines bytes ++ unfinished bytes ∷ []) ≡ 0 = ap length (sym (lines-line_end bytes) ∙ f) in
        absurd (some (whole_lines bytes) long)
    by ih false e (l ∷ ls) f = rw (e, f) ih

pub unfinished-other : (bytes : List ℕ) (x : ℕ) → is_end x ≡ false → unfinished (bytes ++ x ∷ []) ≡ unfinished bytes ++ x ∷ []
unfinished-other [] x n = rw n refl
unfinished-other (b ∷ bytes) x n = by (unfinished-other bytes x n) (lines-other bytes x n) (is_end b) refl
  where
    short : (unfinished (bytes ++ x ∷ []) ≡ unfinished bytes ++ x ∷ []) → (ls : Lines) → whole_lines bytes ≡ ls → cond (are_none ls) (b ∷ (bytes ++ x ∷ [])) (unfinished (bytes ++ x ∷ [])) ≡ (cond (are_none ls) (b ∷ bytes) (unfinished bytes)) ++ x ∷ []
    short ih [] e = refl
    short ih (l ∷ ls) e = ih

    by : (unfinished (bytes ++ x ∷ []) ≡ unfinished bytes ++ x ∷ []) → whole_lines (bytes ++ x ∷ []) ≡ whole_lines bytes → (v : Bool) → is_end b ≡ v → unfinished ((b ∷ bytes) ++ x ∷ []) ≡ unfinished (b ∷ bytes) ++ x ∷ []
    by ih same true e = rw e ih
    by ih same false e = rw (e, same) (short ih (whole_lines bytes) refl)
