-- Entries sorted by key, and cut into buckets. The crate's own functions alone speak of them.
use Rattle.std.specs.Prelude.{ℕ, ◌≡◌, ◌≢◌, ◌<◌, ◌≤◌, ◌*◌, ◌/◌, ◌^◌, List, [], ◌∷◌, All, length, slice_index}
use Rattle.std.specs.List.Sorted.{IsNonDecreasing, IsPartitionPoint}
use Rattle.name_index.specs.declared.key_table.Entry.{Entry}

-- The bucket of a key: it stands where the key's upper half stands among the numbers below 2 ^ 64.
abbrev pub bucket_of : ℕ → ℕ → ℕ
bucket_of buckets key = key / 2 ^ 64 * buckets / 2 ^ 64

-- The bucket begins at the place: the keys before it are of buckets before, and no other is.
abbrev pub IsStart : List ℕ → ℕ → ℕ → Type 0
IsStart keys bucket place = (place ≤ length keys) × IsPartitionPoint (λ key. bucket_of (length keys) key < bucket) (λ key. bucket ≤ bucket_of (length keys) key) keys place

-- Each bucket begins at the place in the list.
abbrev pub AreBucketStarts : List ℕ → List ℕ → Type 0
AreBucketStarts keys starts = (bucket : ℕ) → bucket < length starts → IsStart keys bucket (slice_index starts bucket)

-- The entries with such keys and such numbers.
abbrev pub entries_of : List ℕ → List ℕ → List Entry
entries_of (key ∷ keys) (number ∷ numbers) = record { key = key; number = number } ∷ entries_of keys numbers
entries_of (key ∷ keys) [] = []
entries_of [] numbers = []

-- No entry has the key.
abbrev pub LacksKey : List Entry → ℕ → Type 0
LacksKey entries key = All (λ entry. entry.key ≢ key) entries

-- The keys rise, each with a number. There are as many buckets, and the list tells where each begins, and where the last ends.
pub record IsBucketed (keys numbers starts : List ℕ) : Type 0 where
  pub rising : IsNonDecreasing keys
  pub numbered : length numbers ≡ length keys
  pub places : AreBucketStarts keys starts
  pub long : 0 < length keys → length keys < length starts
