-- Sorted keys, where their buckets begin, and a key that is looked up in its bucket.
use Rattle.std.proofs.Common.{◌≡◌, ◌≢◌, ℕ, zero, suc, ◌+◌, ◌-◌, ◌*◌, ◌/◌, ◌<◌, ◌≤◌, ◌^◌, List, [], ◌∷◌, length, map, take, drop, Result, Ok, Err, inl, inr, sym, refl, ◌∙◌, ap, arith, get_or, subst}
use Rattle.std.specs.List.{AllWithin, Contains}
use Rattle.std.specs.List.Sorted.{IsNonDecreasing, IsNonDecreasingBy, IsBinarySearchResult}
use Rattle.std.specs.Ordering.{nat_cmp}
use Rattle.std.specs.Result.{MatchResult}
use Rattle.std.proofs.lemmas.Bool.{cases_lt}
use Rattle.std.proofs.lemmas.List.{get_or_default, get_or-take, get_or-drop, get_or-map, length-take-le, length-drop, length-map}
use Rattle.std.proofs.lemmas.List.Sorted.{IsNonDecreasingBy-take, IsNonDecreasingBy-drop, searched}
use Rattle.std.proofs.Math.Nat.{mul-le-mul_right}
use Rattle.name_index.specs.inner.KeyTables.{bucket_of, entries_of, IsStart, IsBucketed, LacksKey}
use Rattle.name_index.specs.declared.key_table.Entry.{Entry}

-- Buckets rise with their keys.
pub bucket-rises : (buckets low high : ℕ) → low ≤ high → bucket_of buckets low ≤ bucket_of buckets high
bucket-rises buckets low high le =
    let upper : low / 2 ^ 64 ≤ high / 2 ^ 64 = omega arith in
    let scaled : low / 2 ^ 64 * buckets ≤ high / 2 ^ 64 * buckets = mul-le-mul_right buckets upper in
    omega (arith, scaled)

-- Past the keys of the buckets before, the bucket begins at the end or at a key that is of none of them.
pub start_is : (keys : List ℕ) (bucket start : ℕ) → IsNonDecreasing keys → start ≤ length keys → AllWithin (λ key. bucket_of (length keys) key < bucket) keys 0 start →
    ((d : ℕ) → start < length keys → bucket ≤ bucket_of (length keys) (get_or keys start d)) → IsStart keys bucket start
start_is keys bucket start rising inside before here = (
  inside,
  (
    before,
    λ k d from below.
        let later : bucket_of (length keys) (get_or keys start d) ≤ bucket_of (length keys) (get_or keys k d) =
        bucket-rises (length keys) (get_or keys start d) (get_or keys k d) (rising start k d from below) in
        let first : bucket ≤ bucket_of (length keys) (get_or keys start d) = here d (omega arith) in
        omega arith,
  ),
)

-- The next bucket begins no sooner.
starts_rise : (keys : List ℕ) (bucket start end : ℕ) → IsStart keys bucket start → IsStart keys (bucket + 1) end → start ≤ end
starts_rise keys bucket start end starts ends = elim (cases_lt end start) [
  | inl sooner ↦
      let before : bucket_of (length keys) (get_or keys end 0) < bucket = starts.1.0 end 0 (omega arith) sooner in
      let after : bucket + 1 ≤ bucket_of (length keys) (get_or keys end 0) = ends.1.1 end 0 (omega arith) (omega (arith, starts.0)) in
      absurd (omega arith)
  | inr later ↦ later
]

-- The keys of the bucket of a key are those from one place to another.
record IsRange (keys : List ℕ) (key start end : ℕ) : Type 0 where
  pub starts : IsStart keys (bucket_of (length keys) key) start
  pub ends : IsStart keys (bucket_of (length keys) key + 1) end
  pub rises : start ≤ end

start_at : (keys numbers starts : List ℕ) (bucket place : ℕ) → IsBucketed keys numbers starts → bucket < length starts → place ≡ get_or starts bucket place → IsStart keys bucket place
start_at keys numbers starts bucket place is inside here = subst (IsStart keys bucket) (sym (here ∙ get_or_default starts bucket place 0 inside)) (is.places bucket inside)

-- Its places are read from the list.
range_of : (keys numbers starts : List ℕ) (key buckets bucket start end : ℕ) → IsBucketed keys numbers starts → buckets ≡ length keys → bucket ≡ bucket_of buckets key → bucket < buckets →
    start ≡ get_or starts bucket start → end ≡ get_or starts (bucket + 1) end → IsRange keys key start end
range_of keys numbers starts key buckets bucket start end is all here below start_is end_is =
    let long : length keys < length starts = is.long (omega arith) in
    let bucket_is : bucket ≡ bucket_of (length keys) key = here ∙ ap (λ (n : ℕ). bucket_of n key) all in
    let first : IsStart keys bucket start = start_at keys numbers starts bucket start is (omega arith) start_is in
    let next : IsStart keys (bucket + 1) end = start_at keys numbers starts (bucket + 1) end is (omega arith) end_is in
    record {
      starts = subst (λ (b : ℕ). IsStart keys b start) bucket_is first;
      ends = subst (λ (b : ℕ). IsStart keys (b + 1) end) bucket_is next;
      rises = starts_rise keys bucket start end first next;
    }

-- A key of the range, read from the part of the list.
get_or-part : (keys : List ℕ) (start end k d : ℕ) → end ≤ length keys → start ≤ k → k < end → get_or (take (end - start) (drop start keys)) (k - start) d ≡ get_or keys k d
get_or-part keys start end k d inside from below =
    let same : start + (k - start) ≡ k = omega arith in
    get_or-take (end - start) (drop start keys) (k - start) d (omega arith) ∙ get_or-drop start keys (k - start) d ∙ ap (λ (n : ℕ). get_or keys n d) same

length-part : (keys : List ℕ) (start end : ℕ) → end ≤ length keys → length (take (end - start) (drop start keys)) ≡ end - start
length-part keys start end inside = length-take-le (end - start) (drop start keys) (omega (arith, length-drop start keys))

-- What a search of the bucket of a key tells of all keys: where the key stands, or that it is none of them.
abbrev pub FindsKey : List ℕ → ℕ → ℕ → Result ℕ ℕ → Type 0
FindsKey keys key start found = MatchResult found (λ place. (start + place < length keys) × (get_or keys (start + place) 0 ≡ key)) (λ place. (k : ℕ) → k < length keys → get_or keys k 0 ≢ key)

abbrev IsFound : List ℕ → ℕ → Result ℕ ℕ → Type 0
IsFound part key found =
    MatchResult found (λ i. (i < length part) × (get_or part i 0 ≡ key)) (λ i. (i ≤ length part) × ((k : ℕ) → k < i → get_or part k 0 < key) × ((k : ℕ) → i ≤ k → k < length part → key < get_or part k 0))

finds_key : (keys : List ℕ) (key start end : ℕ) (found : Result ℕ ℕ) → IsRange keys key start end → IsFound (take (end - start) (drop start keys)) key found → FindsKey keys key start found
finds_key keys key start end (Ok place) range (below, same) =
    let within : start + place < end = omega (arith, below, length-part keys start end range.ends.0) in
    let back : start + place - start ≡ place = omega arith in
    (omega (arith, within, range.ends.0), sym (get_or-part keys start end (start + place) 0 range.ends.0 (omega arith) within) ∙ ap (λ (n : ℕ). get_or (take (end - start) (drop start keys)) n 0) back ∙ same)
finds_key keys key start end (Err place) range (inside, lower, higher) = λ k below same.
    let here : bucket_of (length keys) (get_or keys k 0) ≡ bucket_of (length keys) key = ap (bucket_of (length keys)) same in
    let from : start ≤ k = elim (cases_lt k start) [ inl sooner ↦ absurd (omega (arith, here, range.starts.1.0 k 0 (omega arith) sooner)) | inr later ↦ later ] in
    let to : k < end = elim (cases_lt k end) [ inl sooner ↦ sooner | inr later ↦ absurd (omega (arith, here, range.ends.1.1 k 0 later below)) ] in
    let read : get_or (take (end - start) (drop start keys)) (k - start) 0 ≡ key = get_or-part keys start end k 0 range.ends.0 from to ∙ same in
    elim (cases_lt (k - start) place) [
      | inl before ↦ omega (arith, read, lower (k - start) before)
      | inr after ↦ omega (arith, read, higher (k - start) after (omega (arith, length-part keys start end range.ends.0)))
    ]

pub search_is : (keys numbers starts : List ℕ) (key buckets bucket start end : ℕ) (found : Result ℕ ℕ) → IsBucketed keys numbers starts → buckets ≡ length keys → bucket ≡ bucket_of buckets key → bucket < buckets →
    start ≡ get_or starts bucket start → end ≡ get_or starts (bucket + 1) end → IsBinarySearchResult (λ other. nat_cmp other key) (take (end - start) (drop start keys)) found → FindsKey keys key start found
search_is keys numbers starts key buckets bucket start end found is all bucket_is below start_is end_is answer =
    let range : IsRange keys key start end = range_of keys numbers starts key buckets bucket start end is all bucket_is below start_is end_is in
    finds_key keys key start end found range (searched (take (end - start) (drop start keys)) key found answer
    (λ i j le inside. IsNonDecreasingBy-take (λ other. other) (end - start) (drop start keys) (IsNonDecreasingBy-drop (λ other. other) start keys is.rising) i j 0 le inside))

-- Entries from their keys and their numbers.
pub length-entries_of : (keys numbers : List ℕ) → length numbers ≡ length keys → length (entries_of keys numbers) ≡ length keys
length-entries_of [] numbers same = refl
length-entries_of (key ∷ keys) [] same = same
length-entries_of (key ∷ keys) (number ∷ numbers) same = ap suc (length-entries_of keys numbers (omega arith))

get_or-entries_of : (keys numbers : List ℕ) (k : ℕ) (d : Entry) → length numbers ≡ length keys → k < length keys → get_or (entries_of keys numbers) k d ≡ record { key = get_or keys k 0; number = get_or numbers k 0 }
get_or-entries_of [] numbers k d same below = absurd (omega arith)
get_or-entries_of (key ∷ keys) [] k d same below = absurd (omega arith)
get_or-entries_of (key ∷ keys) (number ∷ numbers) zero d same below = refl
get_or-entries_of (key ∷ keys) (number ∷ numbers) (suc k) d same below = get_or-entries_of keys numbers k d (omega arith) (omega arith)

-- Entries are those of their keys and their numbers.
pub entries_of-map : (entries : List Entry) → entries_of (map (λ entry. entry.key) entries) (map (λ entry. entry.number) entries) ≡ entries
entries_of-map [] = refl
entries_of-map (entry ∷ entries) = ap (λ (rest : List Entry). entry ∷ rest) (entries_of-map entries)

-- The keys of sorted entries rise.
pub keys_rise : (entries : List Entry) → IsNonDecreasingBy (λ entry. entry.key) entries → IsNonDecreasing (map (λ entry. entry.key) entries)
keys_rise entries rising i j d le below =
    let blank : Entry = record { key = 0; number = 0 } in
    let inside : j < length entries = omega (arith, length-map entries (λ (entry : Entry). entry.key)) in
    let low : get_or (map (λ entry. entry.key) entries) i d ≡ (get_or entries i blank).key = get_or-map (λ (entry : Entry). entry.key) entries i blank d (omega arith) in
    let high : get_or (map (λ entry. entry.key) entries) j d ≡ (get_or entries j blank).key = get_or-map (λ (entry : Entry). entry.key) entries j blank d inside in
    rw (low, high) (rising i j blank le inside)

-- An entry is one of them where its key and its number stand at one place.
pub has_entry : (keys numbers : List ℕ) (key number place : ℕ) → length numbers ≡ length keys → place < length keys → get_or keys place 0 ≡ key → number ≡ get_or numbers place number →
    Contains (entries_of keys numbers) (record { key = key; number = number })
has_entry keys numbers key number place same below key_is number_is =
    let entry : Entry = record { key = key; number = number } in
    let number_at : get_or numbers place 0 ≡ number = get_or_default numbers place 0 number (omega arith) ∙ sym number_is in
    (place, omega (arith, length-entries_of keys numbers same), get_or-entries_of keys numbers place entry same below ∙ rw (key_is, number_at) refl)

-- A key that is none of theirs, none has.
pub lacks_key : (keys numbers : List ℕ) (key : ℕ) → length numbers ≡ length keys → ((k : ℕ) → k < length keys → get_or keys k 0 ≢ key) → LacksKey (entries_of keys numbers) key
lacks_key keys numbers key same none k d below is =
    let inside : k < length keys = omega (arith, length-entries_of keys numbers same) in
    none k inside (sym (ap (λ (entry : Entry). entry.key) (get_or-entries_of keys numbers k d same inside)) ∙ is)
