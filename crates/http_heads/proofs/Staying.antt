-- What bytes begin with stays when more follow.
use Rattle.std.proofs.Common.{◌≡◌, ◌≢◌, ℕ, zero, suc, ◌-◌, ◌<◌, ◌≤◌, ◌⊎◌, inl, inr, Bool, true, false, ◌&&◌, ◌||◌, nat_lt, List, [], ◌∷◌, ◌++◌, length, take, drop, Option, Some, None, refl, sym, ap, ◌∙◌, arith, length-append}
use Rattle.std.specs.Prelude.{is_none}
use Rattle.std.proofs.lemmas.List.{take-append-drop, take-append-le}
use Rattle.std.proofs.lemmas.Bool.Decides.{nat_tests}
use Rattle.http_heads.specs.declared.fronts.Front.TheVariants.{TooLong, Unfinished, Ended}
use Rattle.http_heads.specs.Lines.{filled_lines}
use Rattle.http_heads.specs.HeadEnd.{head_end, up_to, up_to_end, lies_behind, is_too_long, front_of}
use Rattle.http_heads.proofs.Heading.{head_end-append, head_end-le, head_end-later, head_end-take, filled_lines-append}

abbrev misses : List ℕ → Bool
misses bytes = nat_lt 16384 (length bytes) && is_none (head_end (take 16384 bytes))

abbrev crowds : List ℕ → Bool
crowds bytes = nat_lt 65 (filled_lines (up_to_end bytes))

take_past : (n : ℕ) (xs ys : List ℕ) → length xs ≤ n → take n (xs ++ ys) ≡ xs ++ take (n - length xs) ys
take_past n [] ys h = let same : n - 0 ≡ n = omega arith in rw same refl
take_past zero (x ∷ xs) ys h = absurd (omega arith)
take_past (suc n) (x ∷ xs) ys h =
    let same : suc n - suc (length xs) ≡ n - length xs = omega arith in
    rw same (ap (λ (l : List ℕ). x ∷ l) (take_past n xs ys (omega arith)))

-- More lines than a head may have are no fewer when more bytes come.
crowds-append : (bytes more : List ℕ) → crowds bytes ≡ true → crowds (bytes ++ more) ≡ true
crowds-append bytes more many = by (head_end bytes) refl (head_end (bytes ++ more)) refl
  where
    over : (a b : ℕ) → nat_lt 65 a ≡ true → a ≤ b → nat_lt 65 b ≡ true
    over a b h le = grind (arith, nat_tests)

    by : (o : Option ℕ) → head_end bytes ≡ o → (p : Option ℕ) → head_end (bytes ++ more) ≡ p → crowds (bytes ++ more) ≡ true
    by (Some e) f p g =
        let same : head_end (bytes ++ more) ≡ head_end bytes = head_end-append bytes more e f ∙ sym f in
        let inside : take e (bytes ++ more) ≡ take e bytes = take-append-le e bytes more (head_end-le bytes e f) in
        let there : up_to_end (bytes ++ more) ≡ take e (bytes ++ more) = ap (λ (o : Option ℕ). up_to o (bytes ++ more)) (same ∙ f) in
        let here : up_to_end bytes ≡ take e bytes = ap (λ (o : Option ℕ). up_to o bytes) f in
        ap (λ (l : List ℕ). nat_lt 65 (filled_lines l)) (there ∙ inside ∙ sym here) ∙ many
    by None f None g =
        let here : up_to_end bytes ≡ bytes = ap (λ (o : Option ℕ). up_to o bytes) f in
        let there : up_to_end (bytes ++ more) ≡ bytes ++ more = ap (λ (o : Option ℕ). up_to o (bytes ++ more)) g in
        let many_here : nat_lt 65 (filled_lines bytes) ≡ true = ap (λ (l : List ℕ). nat_lt 65 (filled_lines l)) (sym here) ∙ many in
        ap (λ (l : List ℕ). nat_lt 65 (filled_lines l)) there ∙ over (filled_lines bytes) (filled_lines (bytes ++ more)) many_here (filled_lines-append bytes more)
    by None f (Some e) g =
        let here : up_to_end bytes ≡ bytes = ap (λ (o : Option ℕ). up_to o bytes) f in
        let there : up_to_end (bytes ++ more) ≡ take e (bytes ++ more) = ap (λ (o : Option ℕ). up_to o (bytes ++ more)) g in
        let later = head_end-later bytes more e f g in
        let parts : take e (bytes ++ more) ≡ bytes ++ take (e - length bytes) more = take_past e bytes more (omega arith) in
        let many_here : nat_lt 65 (filled_lines bytes) ≡ true = ap (λ (l : List ℕ). nat_lt 65 (filled_lines l)) (sym here) ∙ many in
        ap (λ (l : List ℕ). nat_lt 65 (filled_lines l)) (there ∙ parts) ∙ over (filled_lines bytes) (filled_lines (bytes ++ take (e - length bytes) more)) many_here (filled_lines-append bytes (take (e - length bytes) more))

misses-append : (bytes more : List ℕ) → misses bytes ≡ true → misses (bytes ++ more) ≡ true
misses-append bytes more h =
    let long : nat_lt 16384 (length bytes) ≡ true = first (nat_lt 16384 (length bytes)) (is_none (head_end (take 16384 bytes))) h in
    let none : is_none (head_end (take 16384 bytes)) ≡ true = second (nat_lt 16384 (length bytes)) (is_none (head_end (take 16384 bytes))) h in
    let less : 16384 < length bytes = grind (arith, nat_tests) in
    let same : take 16384 (bytes ++ more) ≡ take 16384 bytes = take-append-le 16384 bytes more (omega arith) in
    let total = length-append bytes more in
    let long_too : nat_lt 16384 (length (bytes ++ more)) ≡ true = grind (arith, nat_tests) in
    let none_too : is_none (head_end (take 16384 (bytes ++ more))) ≡ true = ap (λ (l : List ℕ). is_none (head_end l)) same ∙ none in
    rw (long_too, none_too) refl
  where
    first : (a b : Bool) → (a && b) ≡ true → a ≡ true
    first true b h = refl
    first false b h = absurd (cc)

    second : (a b : Bool) → (a && b) ≡ true → b ≡ true
    second true b h = h
    second false b h = absurd (cc)

lies_behind-append : (bytes more : List ℕ) → lies_behind 16384 (head_end bytes) ≡ true → lies_behind 16384 (head_end (bytes ++ more)) ≡ true
lies_behind-append bytes more h = by (head_end bytes) refl
  where
    by : (o : Option ℕ) → head_end bytes ≡ o → lies_behind 16384 (head_end (bytes ++ more)) ≡ true
    by None f = let no : false ≡ true = rw f at h in absurd (cc)
    by (Some e) f = ap (lies_behind 16384) (head_end-append bytes more e f ∙ sym f) ∙ h

or_cases : (a b c : Bool) → (a || b || c) ≡ true → (a ≡ true) ⊎ (b ≡ true) ⊎ (c ≡ true)
or_cases true b c h = inl refl
or_cases false true c h = inr (inl refl)
or_cases false false c h = inr (inr h)

or_first : (a b c : Bool) → a ≡ true → (a || b || c) ≡ true
or_first a b c h = rw h refl

or_second : (a b c : Bool) → b ≡ true → (a || b || c) ≡ true
or_second true b c h = refl
or_second false b c h = rw h refl

or_third : (a b c : Bool) → c ≡ true → (a || b || c) ≡ true
or_third true b c h = refl
or_third false true c h = refl
or_third false false c h = h

too_long-append : (bytes more : List ℕ) → is_too_long bytes ≡ true → is_too_long (bytes ++ more) ≡ true
too_long-append bytes more h =
    elim (or_cases (misses bytes) (lies_behind 16384 (head_end bytes)) (crowds bytes) h) [
      | inl a ↦ or_first (misses (bytes ++ more)) (lies_behind 16384 (head_end (bytes ++ more))) (crowds (bytes ++ more)) (misses-append bytes more a)
      | inr (inl b) ↦ or_second (misses (bytes ++ more)) (lies_behind 16384 (head_end (bytes ++ more))) (crowds (bytes ++ more)) (lies_behind-append bytes more b)
      | inr (inr c) ↦ or_third (misses (bytes ++ more)) (lies_behind 16384 (head_end (bytes ++ more))) (crowds (bytes ++ more)) (crowds-append bytes more c)
    ]

-- A head that has an end and isn't too long has the same end and isn't too long whatever follows.
too_long-ended : (bytes more : List ℕ) (e : ℕ) → head_end bytes ≡ Some e → is_too_long (bytes ++ more) ≡ true → is_too_long bytes ≡ true
too_long-ended bytes more e f h =
    elim (or_cases (misses (bytes ++ more)) (lies_behind 16384 (head_end (bytes ++ more))) (crowds (bytes ++ more)) h) [
      | inl a ↦ by_place (nat_lt 16384 e) refl a
      | inr (inl b) ↦ or_second (misses bytes) (lies_behind 16384 (head_end bytes)) (crowds bytes) (ap (lies_behind 16384) (sym same) ∙ b)
      | inr (inr c) ↦ or_third (misses bytes) (lies_behind 16384 (head_end bytes)) (crowds bytes) (ap (λ (l : List ℕ). nat_lt 65 (filled_lines l)) (sym fronts) ∙ c)
    ]
  where
    same : head_end (bytes ++ more) ≡ head_end bytes
    same = head_end-append bytes more e f ∙ sym f

    fronts : up_to_end (bytes ++ more) ≡ up_to_end bytes
    fronts = ap (λ (o : Option ℕ). up_to o (bytes ++ more)) (same ∙ f) ∙ take-append-le e bytes more (head_end-le bytes e f) ∙ sym (ap (λ (o : Option ℕ). up_to o bytes) f)

    by_place : (v : Bool) → nat_lt 16384 e ≡ v → misses (bytes ++ more) ≡ true → is_too_long bytes ≡ true
    by_place true g a = or_second (misses bytes) (lies_behind 16384 (head_end bytes)) (crowds bytes) (ap (lies_behind 16384) f ∙ g)
    by_place false g a =
        let near : head_end (take 16384 (bytes ++ more)) ≡ Some e = head_end-take (bytes ++ more) 16384 e (same ∙ f) (grind (arith, nat_tests)) in
        let none : (nat_lt 16384 (length (bytes ++ more)) && false) ≡ true = rw near at a in
        absurd (never (nat_lt 16384 (length (bytes ++ more))) none)
      where
        never : (v : Bool) → (v && false) ≡ true → ⊥
        never true h = cc
        never false h = cc

-- What bytes begin with, they begin with whatever follows.
pub front_of-append : (bytes more : List ℕ) → front_of bytes ≢ Unfinished → front_of (bytes ++ more) ≡ front_of bytes
front_of-append bytes more known = by (is_too_long bytes) refl (head_end bytes) refl
  where
    by : (v : Bool) → is_too_long bytes ≡ v → (o : Option ℕ) → head_end bytes ≡ o → front_of (bytes ++ more) ≡ front_of bytes
    by true e o f = let too = too_long-append bytes more e in rw (too, e) refl
    by false e None f = let un : front_of bytes ≡ Unfinished = rw (e, f) refl in absurd (known un)
    by false e (Some n) f =
        let end : head_end (bytes ++ more) ≡ Some n = head_end-append bytes more n f in
        let fits : is_too_long (bytes ++ more) ≡ false = not_too (is_too_long (bytes ++ more)) refl in
        rw (fits, e, end, f) refl
      where
        not_too : (v : Bool) → is_too_long (bytes ++ more) ≡ v → v ≡ false
        not_too false g = refl
        not_too true g = let both : true ≡ false = sym (too_long-ended bytes more n f g) ∙ e in absurd (cc)

-- What a front that isn't too long tells.
pub front_of-ended : (bytes : List ℕ) (n : ℕ) → front_of bytes ≡ Ended n → (is_too_long bytes ≡ false) × (head_end bytes ≡ Some n)
front_of-ended bytes n h = by (is_too_long bytes) refl (head_end bytes) refl
  where
    by : (v : Bool) → is_too_long bytes ≡ v → (o : Option ℕ) → head_end bytes ≡ o → (is_too_long bytes ≡ false) × (head_end bytes ≡ Some n)
    by true e o f = let no : TooLong ≡ Ended n = rw e at h in absurd (cc)
    by false e None f = let no : Unfinished ≡ Ended n = rw (e, f) at h in absurd (cc)
    by false e (Some m) f = let is : Ended m ≡ Ended n = rw (e, f) at h in let same : m ≡ n = cc in (e, f ∙ ap (λ k. Some k) same)

pub front_of-unfinished : (bytes : List ℕ) → front_of bytes ≡ Unfinished → (is_too_long bytes ≡ false) × (head_end bytes ≡ None)
front_of-unfinished bytes h = by (is_too_long bytes) refl (head_end bytes) refl
  where
    by : (v : Bool) → is_too_long bytes ≡ v → (o : Option ℕ) → head_end bytes ≡ o → (is_too_long bytes ≡ false) × (head_end bytes ≡ None)
    by true e o f = let no : TooLong ≡ Unfinished = rw e at h in absurd (cc)
    by false e None f = (e, f)
    by false e (Some m) f = let no : Ended m ≡ Unfinished = rw (e, f) at h in absurd (cc)

-- The head lies within the bytes and the limit.
pub ended-within : (bytes : List ℕ) (n : ℕ) → front_of bytes ≡ Ended n → (n ≤ length bytes) × (n ≤ 16384)
ended-within bytes n h =
    let known = front_of-ended bytes n h in
    (head_end-le bytes n known.1, by (nat_lt 16384 n) refl)
  where
    by : (v : Bool) → nat_lt 16384 n ≡ v → n ≤ 16384
    by false g = grind (arith, nat_tests)
    by true g =
        let known = front_of-ended bytes n h in
        let behind : lies_behind 16384 (head_end bytes) ≡ true = ap (lies_behind 16384) known.1 ∙ g in
        let both : true ≡ false = sym (or_second (misses bytes) (lies_behind 16384 (head_end bytes)) (crowds bytes) behind) ∙ known.0 in
        absurd (cc)

-- Bytes without an end of a head that may still come are no more than the limit.
pub unfinished-within : (bytes : List ℕ) → front_of bytes ≡ Unfinished → length bytes ≤ 16384
unfinished-within bytes h = by (nat_lt 16384 (length bytes)) refl
  where
    by : (v : Bool) → nat_lt 16384 (length bytes) ≡ v → length bytes ≤ 16384
    by false g = grind (arith, nat_tests)
    by true g =
        let known = front_of-unfinished bytes h in
        let none : head_end (take 16384 bytes) ≡ None = short (head_end (take 16384 bytes)) refl in
        let missing : misses bytes ≡ true = rw (g, none) refl in
        let both : true ≡ false = sym (or_first (misses bytes) (lies_behind 16384 (head_end bytes)) (crowds bytes) missing) ∙ known.0 in
        absurd (cc)
      where
        short : (o : Option ℕ) → head_end (take 16384 bytes) ≡ o → o ≡ None
        short None e = refl
        short (Some n) e =
            let there : head_end (take 16384 bytes ++ drop 16384 bytes) ≡ Some n = head_end-append (take 16384 bytes) (drop 16384 bytes) n e in
            let both : Some n ≡ None = sym there ∙ ap head_end (take-append-drop 16384 bytes) ∙ (front_of-unfinished bytes h).1 in
            absurd (cc)

-- A head has some bytes.
pub ended-some : (bytes : List ℕ) (n : ℕ) → head_end bytes ≡ Some n → 0 < n
ended-some bytes n h = head_end-later [] bytes n refl h
