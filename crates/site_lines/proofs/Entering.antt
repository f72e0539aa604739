-- Entries of a table, read one after another, of which the first 17 are kept.
use Rattle.std.proofs.Common.{◌≡◌, ℕ, ◌<◌, ◌≤◌, Bool, true, false, List, [], ◌∷◌, ◌++◌, length, take, nat_le, nat_lt, nat_eq, Some, None, Result, Ok, Err, refl, sym, ◌∙◌, ap, arith, codes, bytes_eq}
use Rattle.std.proofs.lemmas.Bool.Decides.{nat_tests}
use Rattle.std.proofs.lemmas.List.{take-append-le, take_all, length-take-le, append_assoc, append-nil}
use Rattle.std.proofs.lemmas.Slice.Eq.{bytes_eq-Decides}
use Rattle.trust_types.specs.Tables.{standard_entries}
use Rattle.text_lines.specs.declared.faults.TextKind.{TextKind}
use Rattle.text_lines.specs.declared.faults.TextKind.TheVariants.{BadNumber, Long, Empty}
use Rattle.text_lines.specs.Numbers.{number}
use Rattle.text_lines.specs.Steps.{◌>>=◌}
use Rattle.site_lines.specs.Site.{numbers, judged, entries_in}

-- Numbers that were read, before those of what is left.
abbrev pub after : List ℕ → Result (List ℕ) TextKind → Result (List ℕ) TextKind
after read (Ok ns) = Ok (read ++ ns)
after read (Err kind) = Err kind

first_by : (n : ℕ) (rest : Result (List ℕ) TextKind) → after (n ∷ []) rest ≡ (rest >>= (λ ns. Ok (n ∷ ns)))
first_by n (Ok ns) = refl
first_by n (Err kind) = refl

more_by : (read : List ℕ) (n : ℕ) (rest : Result (List ℕ) TextKind) → after (read ++ n ∷ []) rest ≡ after read (rest >>= (λ ns. Ok (n ∷ ns)))
more_by read n (Ok ns) = ap Ok (append_assoc read (n ∷ []) ns)
more_by read n (Err kind) = refl

pub after-first : (word : List ℕ) (others : List (List ℕ)) (n : ℕ) → number word ≡ Some n → after (n ∷ []) (numbers others) ≡ numbers (word ∷ others)
after-first word others n e = first_by n (numbers others) ∙ rw e refl

pub after-more : (read word : List ℕ) (others : List (List ℕ)) (n : ℕ) → number word ≡ Some n → after (read ++ n ∷ []) (numbers others) ≡ after read (numbers (word ∷ others))
after-more read word others n e = more_by read n (numbers others) ∙ rw e refl

pub after-bad : (read word : List ℕ) (others : List (List ℕ)) → number word ≡ None → after read (numbers (word ∷ others)) ≡ Err BadNumber
after-bad read word others e = rw e refl

pub after-end : (read : List ℕ) (others : List (List ℕ)) → others ≡ [] → after read (numbers others) ≡ Ok read
after-end read others e = rw e (ap Ok (append-nil read))

pub numbers-bad : (word : List ℕ) (others : List (List ℕ)) → number word ≡ None → numbers (word ∷ others) ≡ Err BadNumber
numbers-bad word others e = rw e refl

pub take-full : (n : ℕ) (xs : List ℕ) (x : ℕ) → length xs ≡ n → xs ≡ take n (xs ++ x ∷ [])
take-full n xs x e = sym (take-append-le n xs (x ∷ []) (omega arith) ∙ take_all n xs (omega arith))

twice_by : (n : ℕ) (xs : List ℕ) (x : ℕ) (b : Bool) → nat_le n (length xs) ≡ b → take n (take n xs ++ x ∷ []) ≡ take n (xs ++ x ∷ [])
twice_by n xs x true e =
    let enough : n ≤ length xs = grind (arith, nat_tests) in
    let long : length (take n xs) ≡ n = length-take-le n xs enough in
    take-append-le n (take n xs) (x ∷ []) (omega arith) ∙ take_all n (take n xs) (omega arith) ∙ sym (take-append-le n xs (x ∷ []) enough)
twice_by n xs x false e =
    let short : length xs ≤ n = grind (arith, nat_tests) in
    ap (λ ys. take n (ys ++ x ∷ [])) (take_all n xs short)

pub take-twice : (n : ℕ) (xs : List ℕ) (x : ℕ) → take n (take n xs ++ x ∷ []) ≡ take n (xs ++ x ∷ [])
take-twice n xs x = twice_by n xs x (nat_le n (length xs)) refl

long_entries : (entries : List ℕ) → 16 < length entries → judged entries ≡ Err Long
long_entries entries long =
    let some : nat_eq (length entries) 0 ≡ false = grind (arith, nat_tests) in
    let many : nat_lt 16 (length entries) ≡ true = grind (arith, nat_tests) in
    rw (some, many, judged) refl

judged_by : (entries : List ℕ) (b : Bool) → nat_le 17 (length entries) ≡ b → judged (take 17 entries) ≡ judged entries
judged_by entries true e =
    let enough : 17 ≤ length entries = grind (arith, nat_tests) in
    let long : length (take 17 entries) ≡ 17 = length-take-le 17 entries enough in
    long_entries (take 17 entries) (omega arith) ∙ sym (long_entries entries (omega arith))
judged_by entries false e =
    let short : length entries ≤ 17 = grind (arith, nat_tests) in
    ap judged (take_all 17 entries short)

-- further entries make no difference
pub judged-first : (entries : List ℕ) → judged (take 17 entries) ≡ judged entries
judged-first entries = judged_by entries (nat_le 17 (length entries)) refl

pub entries_in-none : (words : List (List ℕ)) → words ≡ [] → entries_in words ≡ Err Empty
entries_in-none words e = rw e refl

pub entries_in-default : (words others : List (List ℕ)) (word : List ℕ) → words ≡ word ∷ others → others ≡ [] → bytes_eq word (codes "default") ≡ true → entries_in words ≡ Ok standard_entries
entries_in-default words others word e f is = rw (e, f, is) refl

not_number : number (codes "default") ≡ None
unfolding number
not_number = refl

pub entries_in-more : (words others more : List (List ℕ)) (word next : List ℕ) → words ≡ word ∷ others → others ≡ next ∷ more → bytes_eq word (codes "default") ≡ true → entries_in words ≡ Err BadNumber
entries_in-more words others more word next e f is =
    let same : word ≡ codes "default" = (bytes_eq-Decides word (codes "default")).0 is in
    rw (e, f, same, not_number) refl

other_by : (word : List ℕ) (others : List (List ℕ)) → bytes_eq word (codes "default") ≡ false → entries_in (word ∷ others) ≡ (numbers (word ∷ others) >>= judged)
other_by word [] is = rw is refl
other_by word (next ∷ more) is = refl

pub entries_in-numbers : (words others : List (List ℕ)) (word all : List ℕ) → words ≡ word ∷ others → bytes_eq word (codes "default") ≡ false → numbers (word ∷ others) ≡ Ok all → entries_in words ≡ judged all
entries_in-numbers words others word all e is so = ap entries_in e ∙ other_by word others is ∙ rw so refl

pub entries_in-bad : (words others : List (List ℕ)) (word : List ℕ) → words ≡ word ∷ others → bytes_eq word (codes "default") ≡ false → numbers (word ∷ others) ≡ Err BadNumber → entries_in words ≡ Err BadNumber
entries_in-bad words others word e is so = ap entries_in e ∙ other_by word others is ∙ rw so refl
