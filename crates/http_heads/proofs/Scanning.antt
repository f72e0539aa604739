-- A scan of one byte more, and what one says of all the bytes.
use Rattle.std.proofs.Common.{◌≡◌, ℕ, ◌+◌, ◌<◌, ◌≤◌, ◌⊎◌, inl, inr, Bool, true, false, cond, not, ◌==◌, ◌&&◌, ◌||◌, nat_lt, List, [], ◌∷◌, ◌++◌, length, take, drop, Option, Some, None, refl, sym, ap, ◌∙◌, arith, length-append, get_or}
use Rattle.std.specs.Prelude.{min, is_none}
use Rattle.std.proofs.lemmas.List.{take_all, take-append-le}
use Rattle.std.proofs.lemmas.List.Sums.{sum_by_push}
use Rattle.std.proofs.lemmas.Bool.Decides.{nat_tests}
use Rattle.http_heads.specs.declared.scans.Begun.TheVariants.{Nothing, Return, Text}
use Rattle.http_heads.specs.declared.scans.HeadScan.{HeadScan}
use Rattle.http_heads.specs.declared.fronts.Front.TheVariants.{TooLong, Unfinished, Ended}
use Rattle.http_heads.specs.Lines.{is_end, whole_lines, is_empty, is_filled, filled_lines}
use Rattle.http_heads.specs.HeadEnd.{room, head_of, head_end, up_to_end, up_to, is_too_long, lies_behind, front_of}
use Rattle.http_heads.specs.Scans.{unfinished, begun, begun_with, is_text, IsScan, IsScanOf}
use Rattle.http_heads.proofs.Lining.{Lines, rooms, rooms-whole_lines, lines-line_end, lines-other, unfinished-line_end, unfinished-other}
use Rattle.http_heads.proofs.Heading.{filled, head_of-push, head_end-append, head_end-take}

-- One byte more of a line that isn't finished.
begun-push : (t : List ℕ) (x : ℕ) → begun (t ++ x ∷ []) ≡ begun_with (begun t) x
begun-push [] x = refl
begun-push (b ∷ []) x = by (b == 13)
  where
    by : (v : Bool) → Text ≡ begun_with (cond v Return Text) x
    by true = refl
    by false = refl
begun-push (b ∷ c ∷ t) x = refl

-- A line that has more than a CR isn't empty.
is_empty-begun : (t : List ℕ) → is_empty t ≡ not (is_text (begun t))
is_empty-begun [] = refl
is_empty-begun (b ∷ []) = by (b == 13)
  where
    by : (v : Bool) → v ≡ not (is_text (cond v Return Text))
    by true = refl
    by false = refl
is_empty-begun (b ∷ c ∷ t) = refl

filled-push : (ls : Lines) (l : List ℕ) → filled (ls ++ l ∷ []) ≡ filled ls + cond (is_filled l) 1 0
filled-push ls l = sum_by_push (λ l. cond (is_filled l) 1 0) ls l

none_before : (s : HeadScan) (front : List ℕ) → s.ended ≡ false → IsScan s front → head_end front ≡ None
none_before s front going is = is.end ∙ ap (λ v. cond v (Some s.seen) None) going

pub scan-other : (s t : HeadScan) (x : ℕ) (front : List ℕ) → s.ended ≡ false → is_end x ≡ false → t.seen ≡ s.seen + 1 → t.filled ≡ s.filled → t.ended ≡ s.ended
    → t.line ≡ begun_with s.line x → IsScan s front → IsScan t (front ++ x ∷ [])
scan-other s t x front going n seen filled_is ended line is =
    let same = lines-other front x n in
    let shut : t.ended ≡ false = ended ∙ going in record {
      seen = seen ∙ ap (λ k. k + 1) is.seen ∙ sym (length-append front (x ∷ []));
      filled = filled_is ∙ is.filled ∙ ap filled (sym same);
      end = ap head_of same ∙ none_before s front going is ∙ sym (ap (λ v. cond v (Some t.seen) None) shut);
      line = λ _. line ∙ ap (λ b. begun_with b x) (is.line going) ∙ sym (begun-push (unfinished front) x) ∙ ap begun (sym (unfinished-other front x n));
    }

pub scan-text : (s t : HeadScan) (front : List ℕ) → s.ended ≡ false → is_text s.line ≡ true → t.seen ≡ s.seen + 1 → t.filled ≡ s.filled + 1 → t.ended ≡ s.ended
    → t.line ≡ Nothing → IsScan s front → IsScan t (front ++ 10 ∷ [])
scan-text s t front going text seen filled_is ended line is =
    let same = lines-line_end front in
    let shut : t.ended ≡ false = ended ∙ going in
    let full : is_empty (unfinished front) ≡ false = is_empty-begun (unfinished front) ∙ ap (λ b. not (is_text b)) (sym (is.line going)) ∙ ap not text in
    let count : filled_lines (front ++ 10 ∷ []) ≡ filled_lines front + 1 = ap filled same ∙ filled-push (whole_lines front) (unfinished front) ∙ ap (λ v. filled (whole_lines front) + cond (not v) 1 0) full in
    let still : head_end (front ++ 10 ∷ []) ≡ None = ap head_of same ∙ head_of-push (whole_lines front) (unfinished front) (none_before s front going is)
    ∙ ap (λ v. cond (v && nat_lt 0 (filled (whole_lines front))) (Some (rooms (whole_lines front) + room (unfinished front))) None) full in record {
      seen = seen ∙ ap (λ k. k + 1) is.seen ∙ sym (length-append front (10 ∷ []));
      filled = filled_is ∙ ap (λ k. k + 1) is.filled ∙ sym count;
      end = still ∙ sym (ap (λ v. cond v (Some t.seen) None) shut);
      line = λ _. line ∙ ap begun (sym (unfinished-line_end front));
    }

pub scan-empty : (s t : HeadScan) (front : List ℕ) → s.ended ≡ false → is_text s.line ≡ false → t.seen ≡ s.seen + 1 → t.filled ≡ s.filled → t.ended ≡ nat_lt 0 s.filled
    → t.line ≡ Nothing → IsScan s front → IsScan t (front ++ 10 ∷ [])
scan-empty s t front going text seen filled_is ended line is =
    let same = lines-line_end front in
    let void : is_empty (unfinished front) ≡ true = is_empty-begun (unfinished front) ∙ ap (λ b. not (is_text b)) (sym (is.line going)) ∙ ap not text in
    let count : filled_lines (front ++ 10 ∷ []) ≡ filled_lines front = ap filled same ∙ filled-push (whole_lines front) (unfinished front) ∙ ap (λ v. filled (whole_lines front) + cond (not v) 1 0) void ∙ omega arith in
    let all = rooms-whole_lines front in
    let whole : rooms (whole_lines front) + room (unfinished front) ≡ t.seen = omega (arith, is.seen) in
    let ends : head_end (front ++ 10 ∷ []) ≡ cond (nat_lt 0 s.filled) (Some t.seen) None = ap head_of same ∙ head_of-push (whole_lines front) (unfinished front) (none_before s front going is)
    ∙ ap (λ v. cond (v && nat_lt 0 (filled (whole_lines front))) (Some (rooms (whole_lines front) + room (unfinished front))) None) void
    ∙ ap (λ k. cond (nat_lt 0 k) (Some (rooms (whole_lines front) + room (unfinished front))) None) (sym is.filled)
    ∙ ap (λ k. cond (nat_lt 0 s.filled) (Some k) None) whole in record {
      seen = seen ∙ ap (λ k. k + 1) is.seen ∙ sym (length-append front (10 ∷ []));
      filled = filled_is ∙ is.filled ∙ sym count;
      end = ends ∙ sym (ap (λ v. cond v (Some t.seen) None) ended);
      line = λ _. line ∙ ap begun (sym (unfinished-line_end front));
    }

byte_more : (front rest : List ℕ) (x : ℕ) → length front < length (front ++ rest) → get_or (front ++ rest) (length front) 0 ≡ x
    → front ++ rest ≡ (front ++ x ∷ []) ++ drop 1 rest
byte_more [] [] x inside at = absurd (omega arith)
byte_more [] (y ∷ rest) x inside at = ap (λ b. b ∷ rest) at
byte_more (a ∷ front) rest x inside at = ap (λ (l : List ℕ). a ∷ l) (byte_more front rest x (omega arith) at)

-- One byte more is in the list of which the scan is a first part.
pub scan_of-step : (s t : HeadScan) (bytes : List ℕ) (x : ℕ) → IsScanOf s bytes → s.seen < 16384 → s.seen < length bytes → get_or bytes s.seen 0 ≡ x
    → ((front : List ℕ) → IsScan s front → IsScan t (front ++ x ∷ [])) → IsScanOf t bytes
scan_of-step s t bytes x is few inside at moves =
    let seen : s.seen ≡ length is.front = is.scan.seen in
    let within : length is.front < length (is.front ++ is.rest) = omega (arith, ap length is.parts) in
    let here : get_or (is.front ++ is.rest) (length is.front) 0 ≡ x = ap (λ i. get_or (is.front ++ is.rest) i 0) (sym seen) ∙ ap (λ (l : List ℕ). get_or l s.seen 0) (sym is.parts) ∙ at in
    let long = length-append is.front (x ∷ []) in
    record {
      front = is.front ++ x ∷ [];
      rest = drop 1 is.rest;
      parts = is.parts ∙ byte_more is.front is.rest x within here;
      scan = moves is.front is.scan;
      few = omega arith;
    }

-- ---- what a scan that went as far as it can says

-- Where it found the end, the head is what it saw.
pub scan_of-ended : (s : HeadScan) (bytes : List ℕ) → IsScanOf s bytes → s.ended ≡ true → head_end bytes ≡ Some s.seen
scan_of-ended s bytes is ended =
    let here : head_end is.front ≡ Some s.seen = is.scan.end ∙ ap (λ v. cond v (Some s.seen) None) ended in
    ap head_end is.parts ∙ head_end-append is.front is.rest s.seen here

front_is : (front rest : List ℕ) → take (length front) (front ++ rest) ≡ front
front_is front rest = take-append-le (length front) front rest (omega arith) ∙ take_all (length front) front (omega arith)

scanned : (s : HeadScan) (bytes : List ℕ) → (is : IsScanOf s bytes) → take s.seen bytes ≡ is.front
scanned s bytes is = ap (λ n. take n bytes) is.scan.seen ∙ ap (λ (l : List ℕ). take (length is.front) l) is.parts ∙ front_is is.front is.rest

pub scan_of-filled : (s : HeadScan) (bytes : List ℕ) → IsScanOf s bytes → filled_lines (take s.seen bytes) ≡ s.filled
scan_of-filled s bytes is = ap filled_lines (scanned s bytes is) ∙ sym is.scan.filled

pub scan_of-le : (s : HeadScan) (bytes : List ℕ) → IsScanOf s bytes → (s.seen ≤ 16384) × (s.seen ≤ length bytes)
scan_of-le s bytes is =
    let seen : s.seen ≡ length is.front = is.scan.seen in
    let few = is.few in
    let all : length bytes ≡ length is.front + length is.rest = ap length is.parts ∙ length-append is.front is.rest in
    (omega arith, omega arith)

or_false : (a b c : Bool) → a ≡ false → b ≡ false → (a || b || c) ≡ c
or_false a b c e f = rw (e, f) refl

pub too_long-ended : (s : HeadScan) (bytes : List ℕ) → IsScanOf s bytes → s.ended ≡ true → is_too_long bytes ≡ nat_lt 65 s.filled
too_long-ended s bytes is ended =
    let end = scan_of-ended s bytes is ended in
    let fits = scan_of-le s bytes is in
    let near : head_end (take 16384 bytes) ≡ Some s.seen = head_end-take bytes 16384 s.seen end fits.0 in
    let one : (nat_lt 16384 (length bytes) && is_none (head_end (take 16384 bytes))) ≡ false = ap (λ (o : Option ℕ). nat_lt 16384 (length bytes) && is_none o) near ∙ and_false (nat_lt 16384 (length bytes)) in
    let two : lies_behind 16384 (head_end bytes) ≡ false = ap (lies_behind 16384) end ∙ grind (arith, nat_tests) in
    let three : nat_lt 65 (filled_lines (up_to_end bytes)) ≡ nat_lt 65 s.filled = ap (λ (o : Option ℕ). nat_lt 65 (filled_lines (up_to o bytes))) end ∙ ap (nat_lt 65) (scan_of-filled s bytes is) in
    or_false _ _ _ one two ∙ three
  where
    and_false : (v : Bool) → (v && false) ≡ false
    and_false true = refl
    and_false false = refl

-- Where it found none in all the bytes, there is none.
pub scan_of-open : (s : HeadScan) (bytes : List ℕ) → IsScanOf s bytes → s.ended ≡ false → s.seen ≡ length bytes → head_end bytes ≡ None
scan_of-open s bytes is going far =
    let here : head_end is.front ≡ None = is.scan.end ∙ ap (λ v. cond v (Some s.seen) None) going in
    let all : take s.seen bytes ≡ bytes = take_all s.seen bytes (omega arith) in
    ap head_end (sym all ∙ scanned s bytes is) ∙ here

pub too_long-open : (s : HeadScan) (bytes : List ℕ) → IsScanOf s bytes → s.ended ≡ false → s.seen ≡ length bytes → is_too_long bytes ≡ nat_lt 65 s.filled
too_long-open s bytes is going far =
    let end = scan_of-open s bytes is going far in
    let fits = scan_of-le s bytes is in
    let few : nat_lt 16384 (length bytes) ≡ false = grind (arith, nat_tests) in
    let one : (nat_lt 16384 (length bytes) && is_none (head_end (take 16384 bytes))) ≡ false = ap (λ v. v && is_none (head_end (take 16384 bytes))) few in
    let two : lies_behind 16384 (head_end bytes) ≡ false = ap (lies_behind 16384) end in
    let all : take s.seen bytes ≡ bytes = take_all s.seen bytes (omega arith) in
    let three : nat_lt 65 (filled_lines (up_to_end bytes)) ≡ nat_lt 65 s.filled = ap (λ (o : Option ℕ). nat_lt 65 (filled_lines (up_to o bytes))) end ∙ ap (λ (l : List ℕ). nat_lt 65 (filled_lines l)) (sym all) ∙ ap (nat_lt 65) (scan_of-filled s bytes is) in
    or_false _ _ _ one two ∙ three

-- Where there are more bytes than a head may have, it is too long.
pub too_long-past : (s : HeadScan) (bytes : List ℕ) → IsScanOf s bytes → s.ended ≡ false → s.seen ≡ 16384 → 16384 < length bytes → is_too_long bytes ≡ true
too_long-past s bytes is going far more =
    let here : head_end is.front ≡ None = is.scan.end ∙ ap (λ v. cond v (Some s.seen) None) going in
    let near : head_end (take 16384 bytes) ≡ None = ap (λ n. head_end (take n bytes)) (sym far) ∙ ap head_end (scanned s bytes is) ∙ here in
    let many : nat_lt 16384 (length bytes) ≡ true = grind (arith, nat_tests) in
    rw (near, many) refl

-- ---- what the bytes begin with

pub front-ended : (s : HeadScan) (bytes : List ℕ) → IsScanOf s bytes → s.ended ≡ true → s.filled ≤ 65 → front_of bytes ≡ Ended s.seen
front-ended s bytes is shut few =
    let fits : is_too_long bytes ≡ false = too_long-ended s bytes is shut ∙ grind (arith, nat_tests) in
    rw (fits, scan_of-ended s bytes is shut) refl

pub front-open : (s : HeadScan) (bytes : List ℕ) → IsScanOf s bytes → s.ended ≡ false → s.seen ≡ length bytes → s.filled ≤ 65 → front_of bytes ≡ Unfinished
front-open s bytes is going far few =
    let fits : is_too_long bytes ≡ false = too_long-open s bytes is going far ∙ grind (arith, nat_tests) in
    rw (fits, scan_of-open s bytes is going far) refl

pub front-past : (s : HeadScan) (bytes : List ℕ) → IsScanOf s bytes → s.ended ≡ false → s.seen ≡ 16384 → 16384 < length bytes → front_of bytes ≡ TooLong
front-past s bytes is going far more = rw (too_long-past s bytes is going far more) refl

pub front-lines : (s : HeadScan) (bytes : List ℕ) → IsScanOf s bytes → (s.ended ≡ true) ⊎ (s.seen ≡ min 16384 (length bytes)) → 65 < s.filled → front_of bytes ≡ TooLong
front-lines s bytes is far many = by s.ended refl (nat_lt 16384 (length bytes)) refl far
  where
    over : nat_lt 65 s.filled ≡ true
    over = grind (arith, nat_tests)

    by : (v : Bool) → s.ended ≡ v → (w : Bool) → nat_lt 16384 (length bytes) ≡ w → (s.ended ≡ true) ⊎ (s.seen ≡ min 16384 (length bytes)) → front_of bytes ≡ TooLong
    by true e w f k = rw (too_long-ended s bytes is e ∙ over) refl
    by false e w f (inl k) = absurd (cc)
    by false e true f (inr k) = front-past s bytes is e (grind (arith, nat_tests)) (grind (arith, nat_tests))
    by false e false f (inr k) = rw (too_long-open s bytes is e (grind (arith, nat_tests)) ∙ over) refl
