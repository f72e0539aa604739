-- Where the head ends when more lines come.
use Rattle.std.proofs.Common.{◌≡◌, ℕ, ◌+◌, ◌<◌, ◌≤◌, Bool, true, false, cond, not, ◌&&◌, nat_lt, List, [], ◌∷◌, ◌++◌, length, take, drop, Option, Some, None, option_map, refl, sym, ap, ◌∙◌, arith}
use Rattle.std.specs.Prelude.{count_by}
use Rattle.std.proofs.lemmas.List.{append-nil, take-append-drop, take_all, length-take-le}
use Rattle.std.proofs.lemmas.List.Sums.{sum_by-append, sum_by-cons}
use Rattle.std.proofs.lemmas.Bool.Decides.{nat_tests}
use Rattle.http_heads.specs.Lines.{whole_lines, is_empty, is_filled, filled_lines}
use Rattle.http_heads.specs.HeadEnd.{room, up_to_empty, head_of, head_end}
use Rattle.http_heads.specs.Scans.{unfinished}
use Rattle.http_heads.proofs.Lining.{Lines, rooms, whole_lines-append, whole_lines-unfinished, rooms-whole_lines, first_line-unfinished}

abbrev pub filled : Lines → ℕ
filled ls = count_by is_filled ls

count-cons : (l : List ℕ) (ls : Lines) → filled (l ∷ ls) ≡ cond (is_filled l) 1 0 + filled ls
count-cons l ls = sum_by-cons (λ l. cond (is_filled l) 1 0) l ls

-- what an option holds, behind so many bytes
abbrev behind : ℕ → Option ℕ → Option ℕ
behind n e = option_map (λ m. n + m) e

-- ---- one line more

up_to_empty-push : (ls : Lines) (l : List ℕ) → up_to_empty ls ≡ None → up_to_empty (ls ++ l ∷ []) ≡ cond (is_empty l) (Some (rooms ls + room l)) None
up_to_empty-push [] l h = by (is_empty l)
  where
    by : (v : Bool) → cond v (Some (room l)) (behind (room l) None) ≡ cond v (Some (0 + room l)) None
    by true = ap (λ n. Some n) (omega arith)
    by false = refl
up_to_empty-push (k ∷ ls) l h = by (up_to_empty-push ls l) (is_empty k) refl (up_to_empty ls) refl
  where
    put : (v : Bool) → up_to_empty (ls ++ l ∷ []) ≡ cond v (Some (rooms ls + room l)) None → behind (room k) (up_to_empty (ls ++ l ∷ [])) ≡ cond v (Some (rooms (k ∷ ls) + room l)) None
    put true e = ap (behind (room k)) e ∙ ap (λ n. Some n) (omega arith)
    put false e = ap (behind (room k)) e

    by : (up_to_empty ls ≡ None → up_to_empty (ls ++ l ∷ []) ≡ cond (is_empty l) (Some (rooms ls + room l)) None) → (v : Bool) → is_empty k ≡ v → (o : Option ℕ) → up_to_empty ls ≡ o → up_to_empty ((k ∷ ls) ++ l ∷ []) ≡ cond (is_empty l) (Some (rooms (k ∷ ls) + room l)) None
    by ih true e o f = let no : Some (room k) ≡ None = rw e at h in absurd (cc)
    by ih false e (Some n) f = let no : Some (room k + n) ≡ None = rw (e, f) at h in absurd (cc)
    by ih false e None f = rw e (put (is_empty l) (ih f))

-- A line more ends the head where it is empty and one before it isn't.
pub head_of-push : (ls : Lines) (l : List ℕ) → head_of ls ≡ None → head_of (ls ++ l ∷ []) ≡ cond (is_empty l && nat_lt 0 (filled ls)) (Some (rooms ls + room l)) None
head_of-push [] l h = by (is_empty l)
  where
    by : (v : Bool) → behind (room l) (cond v None None) ≡ cond (v && nat_lt 0 0) (Some (0 + room l)) None
    by true = refl
    by false = refl
head_of-push (k ∷ ls) l h = by (head_of-push ls l) (is_empty k) refl
  where
    both : (v : Bool) → cond v (Some (rooms ls + room l)) None ≡ cond (v && true) (Some (rooms ls + room l)) None
    both true = refl
    both false = refl

    none : (o : Option ℕ) → behind (room k) o ≡ None → o ≡ None
    none None e = refl
    none (Some n) e = absurd (cc)

    put : (v : Bool) (o : Option ℕ) → o ≡ cond v (Some (rooms ls + room l)) None → behind (room k) o ≡ cond v (Some (rooms (k ∷ ls) + room l)) None
    put true o e = ap (behind (room k)) e ∙ ap (λ n. Some n) (omega arith)
    put false o e = ap (behind (room k)) e

    by : (head_of ls ≡ None → head_of (ls ++ l ∷ []) ≡ cond (is_empty l && nat_lt 0 (filled ls)) (Some (rooms ls + room l)) None) → (v : Bool) → is_empty k ≡ v → head_of ((k ∷ ls) ++ l ∷ []) ≡ cond (is_empty l && nat_lt 0 (filled (k ∷ ls))) (Some (rooms (k ∷ ls) + room l)) None
    by ih true e =
        let before : head_of ls ≡ None = none (head_of ls) (rw e at h) in
        let same : filled (k ∷ ls) ≡ filled ls = count-cons k ls ∙ ap (λ v. cond (not v) 1 0 + filled ls) e ∙ omega arith in
        rw (same, e) (put (is_empty l && nat_lt 0 (filled ls)) (head_of (ls ++ l ∷ [])) (ih before))
    by ih false e =
        let before : up_to_empty ls ≡ None = none (up_to_empty ls) (rw e at h) in
        let more : filled (k ∷ ls) ≡ 1 + filled ls = count-cons k ls ∙ ap (λ v. cond (not v) 1 0 + filled ls) e in
        let some : nat_lt 0 (filled (k ∷ ls)) ≡ true = grind (arith, nat_tests) in
        let each = both (is_empty l) in
        rw (some, e) (put (is_empty l && true) (up_to_empty (ls ++ l ∷ [])) (up_to_empty-push ls l before ∙ each))

-- ---- any lines more

up_to_empty-append : (ls more : Lines) (n : ℕ) → up_to_empty ls ≡ Some n → up_to_empty (ls ++ more) ≡ Some n
up_to_empty-append [] more n h = absurd (cc)
up_to_empty-append (k ∷ ls) more n h = by (up_to_empty-append ls more) (is_empty k) refl (up_to_empty ls) refl
  where
    by : ((m : ℕ) → up_to_empty ls ≡ Some m → up_to_empty (ls ++ more) ≡ Some m) → (v : Bool) → is_empty k ≡ v → (o : Option ℕ) → up_to_empty ls ≡ o → up_to_empty ((k ∷ ls) ++ more) ≡ Some n
    by ih true e o f = let same : Some (room k) ≡ Some n = rw e at h in rw e same
    by ih false e None f = let no : None ≡ Some n = rw (e, f) at h in absurd (cc)
    by ih false e (Some m) f = let same : Some (room k + m) ≡ Some n = rw (e, f) at h in rw (e, ih m f) same

-- The head stays where its end is there.
pub head_of-append : (ls more : Lines) (n : ℕ) → head_of ls ≡ Some n → head_of (ls ++ more) ≡ Some n
head_of-append [] more n h = absurd (cc)
head_of-append (k ∷ ls) more n h = by (head_of-append ls more) (is_empty k) refl
  where
    in_empty : ((m : ℕ) → head_of ls ≡ Some m → head_of (ls ++ more) ≡ Some m) → (o : Option ℕ) → head_of ls ≡ o → behind (room k) o ≡ Some n → behind (room k) (head_of (ls ++ more)) ≡ Some n
    in_empty ih None f g = absurd (cc)
    in_empty ih (Some m) f g = rw (ih m f) g

    in_filled : (o : Option ℕ) → up_to_empty ls ≡ o → behind (room k) o ≡ Some n → behind (room k) (up_to_empty (ls ++ more)) ≡ Some n
    in_filled None f g = absurd (cc)
    in_filled (Some m) f g = rw (up_to_empty-append ls more m f) g

    by : ((m : ℕ) → head_of ls ≡ Some m → head_of (ls ++ more) ≡ Some m) → (v : Bool) → is_empty k ≡ v → head_of ((k ∷ ls) ++ more) ≡ Some n
    by ih true e = rw e (in_empty ih (head_of ls) refl (rw e at h))
    by ih false e = rw e (in_filled (up_to_empty ls) refl (rw e at h))

up_to_empty-le : (ls : Lines) (n : ℕ) → up_to_empty ls ≡ Some n → n ≤ rooms ls
up_to_empty-le [] n h = absurd (cc)
up_to_empty-le (k ∷ ls) n h = by (up_to_empty-le ls) (is_empty k) refl (up_to_empty ls) refl
  where
    by : ((m : ℕ) → up_to_empty ls ≡ Some m → m ≤ rooms ls) → (v : Bool) → is_empty k ≡ v → (o : Option ℕ) → up_to_empty ls ≡ o → n ≤ rooms (k ∷ ls)
    by ih true e o f = let same : Some (room k) ≡ Some n = rw e at h in let is : room k ≡ n = cc in omega arith
    by ih false e None f = let no : None ≡ Some n = rw (e, f) at h in absurd (cc)
    by ih false e (Some m) f =
        let same : Some (room k + m) ≡ Some n = rw (e, f) at h in
        let is : room k + m ≡ n = cc in
        let below = ih m f in
        omega arith

-- The head lies within the lines.
pub head_of-le : (ls : Lines) (n : ℕ) → head_of ls ≡ Some n → n ≤ rooms ls
head_of-le [] n h = absurd (cc)
head_of-le (k ∷ ls) n h = by (head_of-le ls) (is_empty k) refl
  where
    in_empty : ((m : ℕ) → head_of ls ≡ Some m → m ≤ rooms ls) → (o : Option ℕ) → head_of ls ≡ o → behind (room k) o ≡ Some n → n ≤ rooms (k ∷ ls)
    in_empty ih None f g = absurd (cc)
    in_empty ih (Some m) f g = let is : room k + m ≡ n = cc in let below = ih m f in omega arith

    in_filled : (o : Option ℕ) → up_to_empty ls ≡ o → behind (room k) o ≡ Some n → n ≤ rooms (k ∷ ls)
    in_filled None f g = absurd (cc)
    in_filled (Some m) f g = let is : room k + m ≡ n = cc in let below = up_to_empty-le ls m f in omega arith

    by : ((m : ℕ) → head_of ls ≡ Some m → m ≤ rooms ls) → (v : Bool) → is_empty k ≡ v → n ≤ rooms (k ∷ ls)
    by ih true e = in_empty ih (head_of ls) refl (rw e at h)
    by ih false e = in_filled (up_to_empty ls) refl (rw e at h)

up_to_empty-past : (ls : Lines) (l : List ℕ) (more : Lines) (n : ℕ) → up_to_empty ls ≡ None → up_to_empty (ls ++ l ∷ more) ≡ Some n → rooms ls + room l ≤ n
up_to_empty-past [] l more n h g = by (is_empty l) refl (up_to_empty more) refl
  where
    by : (v : Bool) → is_empty l ≡ v → (o : Option ℕ) → up_to_empty more ≡ o → 0 + room l ≤ n
    by true e o f = let same : Some (room l) ≡ Some n = rw e at g in let is : room l ≡ n = cc in omega arith
    by false e None f = let no : None ≡ Some n = rw (e, f) at g in absurd (cc)
    by false e (Some m) f = let same : Some (room l + m) ≡ Some n = rw (e, f) at g in let is : room l + m ≡ n = cc in omega arith
up_to_empty-past (k ∷ ls) l more n h g = by (up_to_empty-past ls l more) (is_empty k) refl (up_to_empty ls) refl
  where
    put : ((m : ℕ) → up_to_empty ls ≡ None → up_to_empty (ls ++ l ∷ more) ≡ Some m → rooms ls + room l ≤ m) → (o : Option ℕ) → up_to_empty ls ≡ None → up_to_empty (ls ++ l ∷ more) ≡ o → behind (room k) o ≡ Some n → rooms (k ∷ ls) + room l ≤ n
    put ih None f p q = absurd (cc)
    put ih (Some m) f p q = let is : room k + m ≡ n = cc in let past = ih m f p in omega arith

    by : ((m : ℕ) → up_to_empty ls ≡ None → up_to_empty (ls ++ l ∷ more) ≡ Some m → rooms ls + room l ≤ m) → (v : Bool) → is_empty k ≡ v → (o : Option ℕ) → up_to_empty ls ≡ o → rooms (k ∷ ls) + room l ≤ n
    by ih true e o f = let no : Some (room k) ≡ None = rw e at h in absurd (cc)
    by ih false e (Some m) f = let no : Some (room k + m) ≡ None = rw (e, f) at h in absurd (cc)
    by ih false e None f = put ih (up_to_empty (ls ++ l ∷ more)) f refl (rw e at g)

-- A head whose end isn't among some lines goes on at least through the next line.
pub head_of-past : (ls : Lines) (l : List ℕ) (more : Lines) (n : ℕ) → head_of ls ≡ None → head_of (ls ++ l ∷ more) ≡ Some n → rooms ls + room l ≤ n
head_of-past [] l more n h g = by (cond (is_empty l) (head_of more) (up_to_empty more)) refl
  where
    by : (o : Option ℕ) → cond (is_empty l) (head_of more) (up_to_empty more) ≡ o → 0 + room l ≤ n
    by None e = let no : behind (room l) None ≡ Some n = rw e at g in absurd (cc)
    by (Some m) e = let same : behind (room l) (Some m) ≡ Some n = rw e at g in let is : room l + m ≡ n = cc in omega arith
head_of-past (k ∷ ls) l more n h g = by (head_of-past ls l more) (is_empty k) refl
  where
    none : (o : Option ℕ) → behind (room k) o ≡ None → o ≡ None
    none None e = refl
    none (Some m) e = absurd (cc)

    in_empty : ((m : ℕ) → head_of ls ≡ None → head_of (ls ++ l ∷ more) ≡ Some m → rooms ls + room l ≤ m) → (o : Option ℕ) → head_of ls ≡ None → head_of (ls ++ l ∷ more) ≡ o → behind (room k) o ≡ Some n → rooms (k ∷ ls) + room l ≤ n
    in_empty ih None f p q = absurd (cc)
    in_empty ih (Some m) f p q = let is : room k + m ≡ n = cc in let past = ih m f p in omega arith

    in_filled : (o : Option ℕ) → up_to_empty ls ≡ None → up_to_empty (ls ++ l ∷ more) ≡ o → behind (room k) o ≡ Some n → rooms (k ∷ ls) + room l ≤ n
    in_filled None f p q = absurd (cc)
    in_filled (Some m) f p q = let is : room k + m ≡ n = cc in let past = up_to_empty-past ls l more m f p in omega arith

    by : ((m : ℕ) → head_of ls ≡ None → head_of (ls ++ l ∷ more) ≡ Some m → rooms ls + room l ≤ m) → (v : Bool) → is_empty k ≡ v → rooms (k ∷ ls) + room l ≤ n
    by ih true e = in_empty ih (head_of (ls ++ l ∷ more)) (none (head_of ls) (rw e at h)) refl (rw e at g)
    by ih false e = in_filled (up_to_empty (ls ++ l ∷ more)) (none (up_to_empty ls) (rw e at h)) refl (rw e at g)

-- ---- bytes

-- The head's end stays where it is when more bytes come.
pub head_end-append : (bytes more : List ℕ) (n : ℕ) → head_end bytes ≡ Some n → head_end (bytes ++ more) ≡ Some n
head_end-append bytes more n h = ap head_of (whole_lines-append bytes more) ∙ head_of-append (whole_lines bytes) (whole_lines (unfinished bytes ++ more)) n h

-- It lies within the bytes.
pub head_end-le : (bytes : List ℕ) (n : ℕ) → head_end bytes ≡ Some n → n ≤ length bytes
head_end-le bytes n h = let all = rooms-whole_lines bytes in let below = head_of-le (whole_lines bytes) n h in omega arith

-- An end that comes later lies behind all the bytes so far.
pub head_end-later : (bytes more : List ℕ) (n : ℕ) → head_end bytes ≡ None → head_end (bytes ++ more) ≡ Some n → length bytes < n
head_end-later bytes more n h g = by (rooms-whole_lines bytes) (whole_lines (unfinished bytes ++ more)) refl
  where
    by : rooms (whole_lines bytes) + length (unfinished bytes) ≡ length bytes → (ls : Lines) → whole_lines (unfinished bytes ++ more) ≡ ls → length bytes < n
    by all [] e =
        let same : head_of (whole_lines bytes) ≡ Some n = ap head_of (sym (append-nil (whole_lines bytes))) ∙ ap (λ (x : Lines). head_of (whole_lines bytes ++ x)) (sym e) ∙ ap head_of (sym (whole_lines-append bytes more)) ∙ g in
        let no : None ≡ Some n = sym h ∙ same in
        absurd (cc)
    by all (l ∷ ls) e =
        let same : head_of (whole_lines bytes ++ l ∷ ls) ≡ Some n = ap (λ (x : Lines). head_of (whole_lines bytes ++ x)) (sym e) ∙ ap head_of (sym (whole_lines-append bytes more)) ∙ g in
        let past = head_of-past (whole_lines bytes) l ls n h same in
        let long = first_line-unfinished (unfinished bytes) more l ls (whole_lines-unfinished bytes) e in
        omega arith

-- The first bytes that have the whole head have its end at the same place.
pub head_end-take : (bytes : List ℕ) (k n : ℕ) → head_end bytes ≡ Some n → n ≤ k → head_end (take k bytes) ≡ Some n
head_end-take bytes k n h le = by (head_end (take k bytes)) refl
  where
    whole : take k bytes ++ drop k bytes ≡ bytes
    whole = take-append-drop k bytes

    no : (v : Bool) → nat_lt (length bytes) k ≡ v → length (take k bytes) < n → n ≤ length bytes → ⊥
    no true f a b =
        let fits : length bytes ≤ k = grind (arith, nat_tests) in
        let all : take k bytes ≡ bytes = take_all k bytes fits in
        let same : length (take k bytes) ≡ length bytes = ap length all in
        omega arith
    no false f a b =
        let fits : k ≤ length bytes = grind (arith, nat_tests) in
        let same = length-take-le k bytes fits in
        omega arith

    by : (o : Option ℕ) → head_end (take k bytes) ≡ o → head_end (take k bytes) ≡ Some n
    by (Some m) e =
        let there = head_end-append (take k bytes) (drop k bytes) m e in
        let same : Some m ≡ Some n = sym there ∙ ap head_end whole ∙ h in
        e ∙ same
    by None e =
        let later = head_end-later (take k bytes) (drop k bytes) n e (ap head_end whole ∙ h) in
        absurd (no (nat_lt (length bytes) k) refl later (head_end-le bytes n h))

-- More bytes have no fewer lines that aren't empty.
pub filled_lines-append : (bytes more : List ℕ) → filled_lines bytes ≤ filled_lines (bytes ++ more)
filled_lines-append bytes more =
    let split : filled_lines (bytes ++ more) ≡ filled_lines bytes + filled (whole_lines (unfinished bytes ++ more)) =
    ap filled (whole_lines-append bytes more) ∙ sum_by-append (λ l. cond (is_filled l) 1 0) (whole_lines bytes) (whole_lines (unfinished bytes ++ more)) in
    omega arith
