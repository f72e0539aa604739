-- A list of names after one more, and the table and the map that have their numbers.
use Rattle.std.proofs.Common.{◌≡◌, ◌≢◌, ℕ, ◌+◌, ◌<◌, ◌≤◌, Bool, true, false, cond, List, [], ◌∷◌, ◌++◌, ◌^◌, length, Option, Some, None, All, refl, sym, ◌∙◌, ap, arith, eqb, nat_lt, get_or, not}
use Rattle.std.specs.Prelude.{position}
use Rattle.std.specs.List.{position_or_len}
use Rattle.std.specs.List.Sorted.{IsPermutation}
use Rattle.std.specs.Ordering.{nat_cmp, is_eq}
use Rattle.std.specs.Str.{bytes_eq}
use Rattle.std.specs.BTreeMap as tree
use Rattle.std.proofs.lemmas.Bool.{false≢true}
use Rattle.std.proofs.lemmas.List.{length_push, get_or_append_left, get_or_push}
use Rattle.std.proofs.lemmas.List.Elements.{All-push}
use Rattle.std.proofs.lemmas.List.Sorted.{All-permutation, IsPermutation-sym}
use Rattle.std.proofs.lemmas.List.Sums.{prefix_len-le-length, prefix_len_passes, position_or_len_is}
use Rattle.std.proofs.lemmas.List.Folds.{position_or_len_push}
use Rattle.std.proofs.lemmas.List.Quantifiers.{all_pairs_push}
use Rattle.std.proofs.lemmas.Slice.Eq.{bytes_eq-Decides}
use Rattle.trust_types.specs.Names.{IsName}
use Rattle.name_index.specs.inner.KeyTables.{LacksKey}
use Rattle.trust_types.specs.NameLists.{number_of, AreApart}
use Rattle.name_index.specs.inner.Indexes.{spread_key, HasNumber, IsTableOf, IsIndexed}
use Rattle.name_index.specs.declared.key_table.Entry.{Entry}

none_by : (n l m k : ℕ) (b : Bool) → cond (nat_lt n l) (Some n) None ≡ None → n ≤ l → m ≡ cond (eqb n l) (l + cond b 0 1) n → k ≡ l + 1 → cond (nat_lt m k) (Some m) None ≡ cond b (Some l) None
none_by n l m k true h le m_is k_is = grind arith
none_by n l m k false h le m_is k_is = grind arith

some_by : (n l m k i : ℕ) (b : Bool) → cond (nat_lt n l) (Some n) None ≡ Some i → n ≤ l → m ≡ cond (eqb n l) (l + cond b 0 1) n → k ≡ l + 1 → cond (nat_lt m k) (Some m) None ≡ Some i
some_by n l m k i b h le m_is k_is = grind arith

position_push_none : {X : Type 0} (p : X → Bool) (xs : List X) (y : X) → position p xs ≡ None → position p (xs ++ y ∷ []) ≡ cond (p y) (Some (length xs)) None
position_push_none p xs y h = none_by _ (length xs) _ _ (p y) h (prefix_len-le-length _ xs) (position_or_len_push p xs y) (length_push xs y)

position_push_some : {X : Type 0} (p : X → Bool) (xs : List X) (y : X) (i : ℕ) → position p xs ≡ Some i → position p (xs ++ y ∷ []) ≡ Some i
position_push_some p xs y i h = some_by _ (length xs) _ _ i (p y) h (prefix_len-le-length _ xs) (position_or_len_push p xs y) (length_push xs y)

-- the number of a name after one more name, by whether it is that one
number_after : (names : List (List ℕ)) (new q : List ℕ) (b : Bool) (old : Option ℕ) → bytes_eq new q ≡ b → number_of names new ≡ None → number_of names q ≡ old →
    cond b (Some (length names)) old ≡ number_of (names ++ new ∷ []) q
number_after names new q true old e none is =
    let same : new ≡ q = (bytes_eq-Decides new q).0 e in
    let none' : number_of names q ≡ None = ap (number_of names) (sym same) ∙ none in
    sym (position_push_none (λ n. bytes_eq n q) names new none' ∙ rw e refl)
number_after names new q false None e none is = sym (position_push_none (λ n. bytes_eq n q) names new is ∙ rw e refl)
number_after names new q false (Some i) e none is = sym (position_push_some (λ n. bytes_eq n q) names new i is)

same_key : (key other : ℕ) → other ≡ key → is_eq (nat_cmp key other) ≡ true
same_key key other same = grind arith

other_key : (key other : ℕ) → other ≢ key → is_eq (nat_cmp key other) ≡ false
other_key key other apart = grind arith

-- keys are the same just where names are
key_test : (key other : ℕ) (new q : List ℕ) → (other ≡ key → q ≡ new) → (q ≡ new → other ≡ key) → (b : Bool) → bytes_eq new q ≡ b → is_eq (nat_cmp key other) ≡ b
key_test key other new q from to true e = same_key key other (to (sym ((bytes_eq-Decides new q).0 e)))
key_test key other new q from to false e = other_key key other (λ same. false≢true (sym e ∙ (bytes_eq-Decides new q).1 (sym (from same))))

all_before : (n l : ℕ) → cond (nat_lt n l) (Some n) None ≡ None → l ≤ n
all_before n l none = grind arith

-- one that isn't found differs from all
pub differs : (names : List (List ℕ)) (new : List ℕ) → number_of names new ≡ None → (k : ℕ) (d : List ℕ) → k < length names → get_or names k d ≢ new
differs names new none k d below same =
    let all : length names ≤ position_or_len (λ n. bytes_eq n new) names = all_before _ _ none in
    let not_it : not (bytes_eq (get_or names k d) new) ≡ true = prefix_len_passes (λ n. not (bytes_eq n new)) names k d (omega (arith, all)) in
    let it : bytes_eq (get_or names k d) new ≡ true = (bytes_eq-Decides (get_or names k d) new).1 same in
    false≢true (sym (ap not it) ∙ not_it)

-- Entries keep the numbers of their names where one more name comes.
numbered_more : (names : List (List ℕ)) (name : List ℕ) (table : List Entry) → All (HasNumber names) table → All (HasNumber (names ++ name ∷ [])) table
numbered_more names name table all k d inside q named same = position_push_some (λ n. bytes_eq n q) names name _ (all k d inside q named same)

-- The names and the map stay tied where both take one more, under the next number.
pub indexed_more : (names : List (List ℕ)) (table : List Entry) (old new : tree.BTreeMap ℕ ℕ) (name : List ℕ) (key number : ℕ) → IsIndexed names table old → number_of names name ≡ None →
    length names < 2 ^ 32 → number ≡ length names →
    ((k : ℕ) → tree.get nat_cmp new k ≡ cond (is_eq (nat_cmp key k)) (Some number) (tree.get nat_cmp old k)) →
    ((other : List ℕ) → IsName other → (spread_key other ≡ key → other ≡ name) × (other ≡ name → spread_key other ≡ key)) →
    IsIndexed (names ++ name ∷ []) table new
indexed_more names table old new name key number is none room next updates apart = record {
  apart = all_pairs_push (λ a b. a ≢ b) names name is.apart (differs names name none);
  few = omega (arith, length_push names name);
  numbered = numbered_more names name table is.numbered;
  others = λ q named lacks.
      let test : is_eq (nat_cmp key (spread_key q)) ≡ bytes_eq name q = key_test key (spread_key q) name q (apart q named).0 (apart q named).1 (bytes_eq name q) refl in
      updates (spread_key q) ∙ ap (λ (b : Bool). cond b (Some number) (tree.get nat_cmp old (spread_key q))) test
      ∙ ap (λ (o : Option ℕ). cond (bytes_eq name q) (Some number) o) (is.others q named lacks)
      ∙ ap (λ (n : ℕ). cond (bytes_eq name q) (Some n) (number_of names q)) next
      ∙ number_after names name q (bytes_eq name q) (number_of names q) refl none refl;
}

unequal : (a b : List ℕ) (t : Bool) → bytes_eq a b ≡ t → a ≢ b → bytes_eq a b ≡ false
unequal a b true e apart = absurd (apart ((bytes_eq-Decides a b).0 e))
unequal a b false e apart = e

nowhere : (n l : ℕ) → n ≡ l → cond (nat_lt n l) (Some n) None ≡ None
nowhere n l same = grind arith

-- a name that differs from all isn't found
pub not_found : (names : List (List ℕ)) (name : List ℕ) → ((k : ℕ) (d : List ℕ) → k < length names → get_or names k d ≢ name) → number_of names name ≡ None
not_found names name differ =
    let all : position_or_len (λ n. bytes_eq n name) names ≡ length names =
    position_or_len_is (λ n. bytes_eq n name) names (length names) name (omega arith) (λ k below. unequal (get_or names k name) name (bytes_eq (get_or names k name) name) refl (differ k name below)) (λ below. absurd (omega arith)) in
    nowhere _ _ all

-- A table takes the next name.
pub table_more : (names : List (List ℕ)) (table : List Entry) (name : List ℕ) (entry : Entry) → IsTableOf names table → number_of names name ≡ None → entry.number ≡ length names →
    ((other : List ℕ) → IsName other → (spread_key other ≡ entry.key → other ≡ name) × (other ≡ name → spread_key other ≡ entry.key)) →
    IsTableOf (names ++ name ∷ []) (table ++ entry ∷ [])
table_more names table name entry is none next apart = record {
  numbered = All-push (HasNumber (names ++ name ∷ [])) table entry (numbered_more names name table is.numbered) (λ q named same.
      let it : bytes_eq name q ≡ true = (bytes_eq-Decides name q).1 (sym ((apart q named).0 same)) in
      sym (number_after names name q true (number_of names q) it none refl) ∙ ap Some (sym next));
  whole = λ q named lacks.
      let front : LacksKey table (spread_key q) = λ k d inside same. lacks k d (omega (arith, length_push table entry)) (ap (λ (e : Entry). e.key) (get_or_append_left table (entry ∷ []) d k inside) ∙ same) in
      let last : entry.key ≢ spread_key q = λ same. lacks (length table) entry (omega (arith, length_push table entry)) (ap (λ (e : Entry). e.key) (get_or_push table entry entry (length table) refl) ∙ same) in
      let other : bytes_eq name q ≡ false = unequal name q (bytes_eq name q) refl (λ same. last (sym ((apart q named).1 (sym same)))) in
      sym (number_after names name q false (number_of names q) other none refl) ∙ is.whole q named front;
}

-- A table keeps what it has in another order.
pub table_permuted : (names : List (List ℕ)) (xs ys : List Entry) → IsPermutation xs ys → IsTableOf names xs → IsTableOf names ys
table_permuted names xs ys moved is = record {
  numbered = All-permutation (HasNumber names) xs ys moved is.numbered;
  whole = λ q named lacks. is.whole q named (All-permutation (λ entry. entry.key ≢ spread_key q) ys xs (IsPermutation-sym xs ys moved) lacks);
}

-- All names are in the table, and none in the map.
pub indexed_by_table : (names : List (List ℕ)) (table : List Entry) (recent : tree.BTreeMap ℕ ℕ) → AreApart names → length names ≤ 2 ^ 32 → IsTableOf names table →
    tree.IsEmpty recent → IsIndexed names table recent
indexed_by_table names table recent apart few is empty = record {
  apart = apart;
  few = few;
  numbered = is.numbered;
  others = λ q named lacks. rw empty (sym (is.whole q named lacks));
}
