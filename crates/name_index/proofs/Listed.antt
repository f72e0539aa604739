-- Entries in a sorted list: one that is looked up, and one more.
use Rattle.std.proofs.Common.{◌≡◌, ◌≢◌, ℕ, ◌<◌, ◌≤◌, Bool, true, false, List, [], ◌∷◌, length, map, slice_get, get_or, refl, Some, None, Result, inl, inr, sym, ◌∙◌, ap, arith, ltb}
use Rattle.std.specs.Prelude.{IfOk, Ok, Err, insert, if◌then◌else◌}
use Rattle.std.specs.List.{zip}
use Rattle.std.specs.List.Sorted.{IsNonDecreasingBy, IsPartitionPoint}
use Rattle.std.proofs.lemmas.Bool.{cases_lt}
use Rattle.std.proofs.lemmas.Bool.Decides.{nat_tests}
use Rattle.std.proofs.lemmas.List.Sorted.{IsNonDecreasingBy-insert}
use Rattle.std.proofs.lemmas.Option.{get_or_from_slice_get, slice_get-get_or}
use Rattle.name_index.specs.inner.KeyTables.{LacksKey, entries_of}
use Rattle.name_index.specs.declared.key_table.Entry.{Entry}

abbrev entry_of : ℕ → ℕ → Entry
entry_of key number = record { key = key; number = number }

abbrev pub IsPlace : List Entry → ℕ → ℕ → Type 0
IsPlace entries key place = IsPartitionPoint (λ entry. entry.key < key) (λ entry. key ≤ entry.key) entries place

-- A place that parts by a test is one by what it tests.
pub point_by_test : (entries : List Entry) (key place : ℕ) → IsPartitionPoint (λ entry. ltb entry.key key ≡ true) (λ entry. ltb entry.key key ≡ false) entries place →
    IsPlace entries key place
point_by_test entries key place parts = (
  λ k d from before. let test = parts.0 k d from before in grind (arith, nat_tests),
  λ k d from before. let test = parts.1 k d from before in grind (arith, nat_tests),
)

-- No entry has the key where the first one that is not below it has another, or there is none.
pub lacks_at : (entries : List Entry) (key place : ℕ) → IsNonDecreasingBy (λ entry. entry.key) entries → IsPlace entries key place →
    ((d : Entry) → place < length entries → (get_or entries place d).key ≢ key) → LacksKey entries key
lacks_at entries key place rises parts other k d inside same = elim (cases_lt k place) [
  | inl before ↦
      let below : (get_or entries k d).key < key = parts.0 k d (omega arith) before in
      absurd (omega (arith, same, below))
  | inr behind ↦
      let first : key ≤ (get_or entries place d).key = parts.1 place d (omega arith) (omega arith) in
      let later : (get_or entries place d).key ≤ (get_or entries k d).key = rises place k d behind inside in
      absurd (other d (omega arith) (omega (arith, same, first, later)))
]

pub lacks_with : (entries : List Entry) (key place : ℕ) (other : Entry) → IsNonDecreasingBy (λ entry. entry.key) entries → IsPlace entries key place →
    slice_get entries place ≡ Some other → other.key ≢ key → LacksKey entries key
lacks_with entries key place other rises parts there differs =
    lacks_at entries key place rises parts (λ d inside same. differs (ap (λ (entry : Entry). entry.key) (sym (get_or_from_slice_get entries place other d there)) ∙ same))

pub lacks_past : (entries : List Entry) (key place : ℕ) → IsNonDecreasingBy (λ entry. entry.key) entries → IsPlace entries key place →
    slice_get entries place ≡ None → LacksKey entries key
lacks_past entries key place rises parts none =
    lacks_at entries key place rises parts (λ d inside same. absurd (none≢some (sym none ∙ slice_get-get_or entries place d inside)))
  where
    none≢some : {X : Type 0} {x : X} → None ≢ Some x
    none≢some e = absurd (cc)

-- Keys and numbers side by side.
pub zipped : (keys numbers : List ℕ) → map (λ (pair : ℕ × ℕ). entry_of pair.0 pair.1) (zip keys numbers) ≡ entries_of keys numbers
zipped [] numbers = refl
zipped (key ∷ keys) [] = refl
zipped (key ∷ keys) (number ∷ numbers) = ap (λ entries. entry_of key number ∷ entries) (zipped keys numbers)

-- An entry that is put in its place leaves the list sorted.
pub rises_with : (entries : List Entry) (entry : Entry) (place : ℕ) → IsNonDecreasingBy (λ entry. entry.key) entries → place ≤ length entries → IsPlace entries entry.key place →
    IsNonDecreasingBy (λ entry. entry.key) (insert entries place entry)
rises_with entries entry place rises within parts =
    IsNonDecreasingBy-insert (λ entry. entry.key) entries place entry rises within
    (λ k d before. let below : (get_or entries k d).key < entry.key = parts.0 k d (omega arith) before in omega (arith, below))
    (λ k d from before. parts.1 k d from before)

-- What a list is where an entry was inserted.
pub inserted : {X : Type 0} (done : Bool) (new grown old : List X) → done ≡ true → new ≡ (if done then grown else old) → new ≡ grown
inserted true new grown old ok is = is
inserted false new grown old ok is = absurd (cc)

-- What is known of a value is known of it where there is one.
pub told : {A E : Type 0} {P Q : A → Type 0} (r : Result A E) → ((x : A) → P x → Q x) → IfOk r P → IfOk r Q
told (Ok x) f h = f x h
told (Err e) f h = h
