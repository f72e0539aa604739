-- Numbers of names that are kept elsewhere: one that is found, one more name, and a table made anew.
use Rattle.std.proofs.Common.{◌≡◌, ◌≢◌, ℕ, List, [], ◌∷◌, ◌++◌, length, Option, Some, None, sym, ◌∙◌, ap, subst, append_assoc, append-nil}
use Rattle.std.specs.Prelude.{MatchOption}
use Rattle.std.specs.List.{Contains}
use Rattle.std.specs.List.Sorted.{IsPermutation}
use Rattle.std.proofs.lemmas.List.Elements.{All-contains, All-append, Contains-append_right}
use Rattle.std.proofs.lemmas.List.Sorted.{IsPermutation-append_comm, IsPermutation-append_right, IsPermutation-trans}
use Rattle.trust_types.specs.Names.{IsName}
use Rattle.trust_types.specs.NameLists.{number_of}
use Rattle.name_index.specs.Numbers.{AreNumbersOf}
use Rattle.name_index.specs.inner.Indexes.{spread_key, HasNumber}
use Rattle.name_index.specs.inner.KeyTables.{LacksKey}
use Rattle.name_index.specs.declared.key_table.Entry.{Entry}
use Rattle.name_index.proofs.Indexing.{table_more, table_permuted}

abbrev entry_of : ℕ → ℕ → Entry
entry_of key number = record { key = key; number = number }

-- An entry with the name's key has its number.
pub found : (names : List (List ℕ)) (entries : List Entry) (name : List ℕ) (key number : ℕ) → AreNumbersOf names entries → IsName name → spread_key name ≡ key →
    Contains entries (entry_of key number) → Some number ≡ number_of names name
found names entries name key number are named same among = sym (All-contains (HasNumber names) entries (entry_of key number) are.numbered among name named same)

-- A name that the table lacks is looked for in the rest.
pub found_behind : (names : List (List ℕ)) (table recent : List Entry) (name : List ℕ) (key : ℕ) (number : Option ℕ) → AreNumbersOf names (table ++ recent) → IsName name → spread_key name ≡ key →
    LacksKey table key → MatchOption number (LacksKey recent key) (λ number. Contains recent (entry_of key number)) → number ≡ number_of names name
found_behind names table recent name key (Some number) are named same lacks among =
    found names (table ++ recent) name key number are named same (Contains-append_right table recent (entry_of key number) among)
found_behind names table recent name key None are named same lacks others =
    sym (are.whole name named (subst (LacksKey (table ++ recent)) (sym same) (All-append (λ entry. entry.key ≢ key) table recent lacks others)))

-- One more entry comes among the rest, wherever it is put.
pub pushed : (names : List (List ℕ)) (table recent new : List Entry) (name : List ℕ) (entry : Entry) → AreNumbersOf names (table ++ recent) → number_of names name ≡ None →
    entry.number ≡ length names →
    ((other : List ℕ) → IsName other → (spread_key other ≡ entry.key → other ≡ name) × (other ≡ name → spread_key other ≡ entry.key)) →
    IsPermutation (entry ∷ recent) new → AreNumbersOf (names ++ name ∷ []) (table ++ new)
pushed names table recent new name entry are none next apart moved =
    let last : IsPermutation (recent ++ entry ∷ []) new = IsPermutation-trans _ _ _ (IsPermutation-append_comm recent (entry ∷ [])) moved in
    let whole : IsPermutation ((table ++ recent) ++ entry ∷ []) (table ++ new) =
    subst (λ entries. IsPermutation entries (table ++ new)) (sym (append_assoc table recent (entry ∷ []))) (IsPermutation-append_right table _ _ last) in
    table_permuted (names ++ name ∷ []) _ _ whole (table_more names (table ++ recent) name entry are none next apart)

-- All entries in a table made anew, and no rest.
pub settled : (names : List (List ℕ)) (old new rest : List Entry) → AreNumbersOf names old → IsPermutation old new → rest ≡ [] → AreNumbersOf names (new ++ rest)
settled names old new rest are moved none = subst (AreNumbersOf names) (sym (append-nil new) ∙ ap (λ rest. new ++ rest) (sym none)) (table_permuted names old new moved are)
