-- Words joined to lines and lines to a text, which are parted again; and texts read part by part.
use Rattle.std.proofs.Common.{map, ◌≡◌, ℕ, ◌+◌, ◌<◌, Bool, true, false, ◌&&◌, not, List, [], ◌∷◌, ◌++◌, length, Result, Ok, Err, refl, ap, sym, ◌∙◌, arith, All, append_assoc}
use Rattle.std.specs.List.{join_with_byte, list_all, onto_first}
use Rattle.std.proofs.lemmas.List.{append-nil}
use Rattle.std.proofs.lemmas.List.Elements.{All-nil, All-cons}
use Rattle.std.proofs.lemmas.List.Splits.{slice_split_none, slice_split_at}
use Rattle.std.proofs.lemmas.List.Folds.{list_all-append}
use Rattle.text_lines.specs.declared.faults.TextKind.{TextKind}
use Rattle.text_lines.specs.Words.{lines, words, is_end, is_space, is_word, is_line, is_graphic}
use Rattle.text_lines.specs.Reading.{reading}
use Rattle.text_lines.specs.Steps.{◌>>=◌}
use Rattle.text_lines.proofs.Following.{reading-more}

-- both tests of a conjunction
pub both : (a b : Bool) → (a && b) ≡ true → (a ≡ true) × (b ≡ true)
both true true e = (refl, refl)
both true false e = absurd (grind arith)
both false b e = absurd (grind arith)

pub and_true : (a b : Bool) → a ≡ true → b ≡ true → (a && b) ≡ true
and_true a b p q = rw (p, q) refl

-- graphic bytes neither part words nor end lines
apart : (b : ℕ) → is_graphic b ≡ true → (is_space b ≡ false) × (is_end b ≡ false)
apart b g = (grind arith, grind arith)

no_space : (word : List ℕ) → list_all is_graphic word ≡ true → All (λ b. is_space b ≡ false) word
no_space [] e = All-nil (λ b. is_space b ≡ false)
no_space (b ∷ bs) e =
    let h = both (is_graphic b) (list_all is_graphic bs) e in
    All-cons (λ c. is_space c ≡ false) b bs (apart b h.0).0 (no_space bs h.1)

-- The words of words that were joined are these.
pub words-join : (ws : List (List ℕ)) → 0 < length ws → list_all is_word ws ≡ true → words (join_with_byte 32 ws) ≡ ws
words-join [] some e = absurd (omega arith)
words-join (w ∷ []) some e =
    let one = both (is_word w) true e in
    slice_split_none is_space w (no_space w (both _ (list_all is_graphic w) one.0).1)
words-join (w ∷ v ∷ ws) some e =
    let first = both (is_word w) (list_all is_word (v ∷ ws)) e in
    slice_split_at is_space w 32 (join_with_byte 32 (v ∷ ws)) (no_space w (both _ (list_all is_graphic w) first.0).1) refl
    ∙ ap (λ (others : List (List ℕ)). w ∷ others) (words-join (v ∷ ws) (omega arith) first.1)

-- And such words are a line.
pub is_line-join : (ws : List (List ℕ)) → 0 < length ws → list_all is_word ws ≡ true → is_line (join_with_byte 32 ws) ≡ true
is_line-join ws some e = ap (list_all is_word) (words-join ws some e) ∙ e

abbrev pub goes_on : ℕ → Bool
goes_on byte = not (is_end byte)

graphic_goes_on : (word : List ℕ) → list_all is_graphic word ≡ true → list_all goes_on word ≡ true
graphic_goes_on [] e = refl
graphic_goes_on (b ∷ bs) e =
    let h = both (is_graphic b) (list_all is_graphic bs) e in
    and_true (goes_on b) (list_all goes_on bs) (ap not (apart b h.0).1) (graphic_goes_on bs h.1)

-- They hold no LF.
pub goes_on-join : (ws : List (List ℕ)) → list_all is_word ws ≡ true → list_all goes_on (join_with_byte 32 ws) ≡ true
goes_on-join [] e = refl
goes_on-join (w ∷ []) e = graphic_goes_on w (both _ (list_all is_graphic w) (both (is_word w) true e).0).1
goes_on-join (w ∷ v ∷ ws) e =
    let first = both (is_word w) (list_all is_word (v ∷ ws)) e in
    list_all-append goes_on w (32 ∷ join_with_byte 32 (v ∷ ws))
    ∙ and_true (list_all goes_on w) (list_all goes_on (join_with_byte 32 (v ∷ ws))) (graphic_goes_on w (both _ (list_all is_graphic w) first.0).1) (goes_on-join (v ∷ ws) first.1)

pub not_true : (b : Bool) → not b ≡ true → b ≡ false
not_true true e = sym e
not_true false e = refl

-- The first line, where it is ended.
pub lines-ended : (line rest : List ℕ) → list_all goes_on line ≡ true → lines (line ++ 10 ∷ rest) ≡ line ∷ lines rest
unfolding lines
lines-ended [] rest e = refl
lines-ended (b ∷ bs) rest e =
    let h = both (goes_on b) (list_all goes_on bs) e in
    let more : is_end b ≡ false = not_true (is_end b) h.0 in
    rw more (ap (onto_first b) (lines-ended bs rest h.1))

-- A text is read in parts: the one, and then the other after what that stands for.
append_by : {S : Type 0} (step : S → List ℕ → Result S TextKind) (n m : ℕ) (s : S) (x : List ℕ) (xs ys : List (List ℕ)) (r : Result S TextKind) → step s x ≡ r →
    ((next : S) → reading step (n + 1) next (xs ++ ys) ≡ (reading step (n + 1) next xs >>= λ t. reading step m t ys)) →
    reading step n s (x ∷ xs ++ ys) ≡ (reading step n s (x ∷ xs) >>= λ t. reading step m t ys)
unfolding reading
append_by step n m s x xs ys (Err kind) e ih = rw (e, reading) refl
append_by step n m s x xs ys (Ok next) e ih = rw (e, reading) (ih next)

pub append_at : {S : Type 0} (step : S → List ℕ → Result S TextKind) (n m : ℕ) (s : S) (xs ys : List (List ℕ)) → m ≡ n + length xs →
    reading step n s (xs ++ ys) ≡ (reading step n s xs >>= λ t. reading step m t ys)
unfolding reading
append_at step n m s [] ys e =
    let same : m ≡ n = omega arith in
    rw (same, reading) refl
append_at step n m s (x ∷ xs) ys e = append_by step n m s x xs ys (step s x) refl (λ next. append_at step (n + 1) m next xs ys (omega arith))

pub reading-append : {S : Type 0} (step : S → List ℕ → Result S TextKind) (n : ℕ) (s t : S) (xs ys : List (List ℕ)) →
    reading step n s xs ≡ Ok t → reading step n s (xs ++ ys) ≡ reading step (n + length xs) t ys
reading-append step n s t xs ys e = append_at step n (n + length xs) s xs ys refl ∙ ap (λ r. r >>= λ u. reading step (n + length xs) u ys) e

-- A text with a line for each of some items, of which each adds the item to what was read.
each_from : {S X : Type 0} (step : S → List ℕ → Result S TextKind) (n : ℕ) (line_of : X → List ℕ) (after : List X → S) (all before rest : List X) →
    ((before : List X) (x : X) (rest : List X) → before ++ x ∷ rest ≡ all → step (after before) (line_of x) ≡ Ok (after (before ++ x ∷ []))) →
    before ++ rest ≡ all → reading step n (after before) (map line_of rest) ≡ Ok (after all)
unfolding reading
each_from step n line_of after all before [] each e = ap (λ xs. Ok (after xs)) (sym (append-nil before) ∙ e)
each_from step n line_of after all before (x ∷ rest) each e =
    reading-more step n (after before) (line_of x) (map line_of rest) (after (before ++ x ∷ [])) (each before x rest e)
    ∙ each_from step (n + 1) line_of after all (before ++ x ∷ []) rest each (append_assoc before (x ∷ []) rest ∙ e)

pub reading-each : {S X : Type 0} (step : S → List ℕ → Result S TextKind) (n : ℕ) (line_of : X → List ℕ) (after : List X → S) (all : List X) →
    ((before : List X) (x : X) (rest : List X) → before ++ x ∷ rest ≡ all → step (after before) (line_of x) ≡ Ok (after (before ++ x ∷ []))) →
    reading step n (after []) (map line_of all) ≡ Ok (after all)
reading-each step n line_of after all each = each_from step n line_of after all [] all each refl
