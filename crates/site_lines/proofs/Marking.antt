-- Flags, and the list of the accounts whose flag is set.
use Rattle.std.proofs.Common.{◌≡◌, ℕ, ◌+◌, ◌<◌, ◌≤◌, Bool, true, false, List, [], ◌∷◌, ◌++◌, length, get_or, inl, inr, ap, sym, subst, ◌∙◌, arith}
use Rattle.std.specs.Prelude.{◌↔◌, AllPairs, Contains, IsTrue}
use Rattle.std.specs.List.Sorted.{IsStrictlyIncreasing}
use Rattle.std.proofs.lemmas.Bool.{cases_lt, false≢true}
use Rattle.std.proofs.lemmas.List.{get_or_past}
use Rattle.std.proofs.lemmas.List.Elements.{Contains-push, Contains-push_cases, Contains-get_or, Contains-append_left}
use Rattle.std.proofs.lemmas.List.Quantifiers.{all_pairs_push}
use Rattle.site_lines.specs.Drafts.{flag}

-- The accounts in rising order whose flag is set, of those below a number.
pub record AreMarked (flags : List Bool) (n : ℕ) (accounts : List ℕ) : Type 0 where
  pub rises : AllPairs (λ x y. x < y) accounts
  pub just : (a : ℕ) → Contains accounts a ↔ ((a < n) × IsTrue (flag flags a))

nothing : (flags : List Bool) → AreMarked flags 0 []
nothing flags = record { rises = λ i j d lt within. absurd (omega arith); just = λ a. (λ has. absurd (omega (arith, has.1)), λ is. absurd (omega (arith, is.0))) }

pub marked-none : (flags : List Bool) (accounts : List ℕ) → accounts ≡ [] → AreMarked flags 0 accounts
marked-none flags accounts none = rw none (nothing flags)

pub marked-more : (flags : List Bool) (n : ℕ) (accounts : List ℕ) → AreMarked flags n accounts → flag flags n ≡ true → AreMarked flags (n + 1) (accounts ++ n ∷ [])
marked-more flags n accounts are set = record {
  rises = all_pairs_push (λ x y. x < y) accounts n are.rises (λ k d within. ((are.just (get_or accounts k d)).0 (Contains-get_or accounts k d within)).0);
  just = λ a. (
    λ has. elim (Contains-push_cases accounts n a has) [
      | inl before ↦ let was = (are.just a).0 before in (omega (arith, was.0), was.1)
      | inr same ↦ (omega arith, subst (λ m. flag flags m ≡ true) same set)
    ],
    λ is. elim (cases_lt a n) [
      | inl before ↦ Contains-append_left accounts (n ∷ []) a ((are.just a).1 (before, is.1))
      | inr last ↦ subst (Contains (accounts ++ n ∷ [])) (omega (arith, is.0)) (Contains-push accounts n)
    ],
  );
}

unmarked : (flags : List Bool) (n a : ℕ) → n ≡ a → flag flags n ≡ false → IsTrue (flag flags a) → ⊥
unmarked flags n a same unset is = false≢true (sym unset ∙ ap (flag flags) same ∙ is)

pub marked-same : (flags : List Bool) (n : ℕ) (accounts : List ℕ) → AreMarked flags n accounts → flag flags n ≡ false → AreMarked flags (n + 1) accounts
marked-same flags n accounts are unset = record {
  rises = are.rises;
  just = λ a. (
    λ has. let was = (are.just a).0 has in (omega (arith, was.0), was.1),
    λ is. elim (cases_lt a n) [
      | inl before ↦ (are.just a).1 (before, is.1)
      | inr last ↦ absurd (unmarked flags n a (omega (arith, is.0)) unset is.1)
    ],
  );
}

pub increasing : (xs : List ℕ) → AllPairs (λ x y. x < y) xs → IsStrictlyIncreasing xs
increasing xs rises = λ k within. rises k (k + 1) 0 (omega arith) within

-- a flag that is set is one of the list
pub inside : (flags : List Bool) (a : ℕ) → IsTrue (flag flags a) → a < length flags
inside flags a is = elim (cases_lt a (length flags)) [
  | inl within ↦ within
  | inr past ↦ absurd (false≢true (sym (get_or_past flags a false past) ∙ is))
]

pub marked-all : (flags : List Bool) (n : ℕ) (accounts : List ℕ) → AreMarked flags n accounts → length flags ≤ n → (a : ℕ) → Contains accounts a ↔ IsTrue (flag flags a)
marked-all flags n accounts are all = λ a. (λ has. ((are.just a).0 has).1, λ is. (are.just a).1 (omega (arith, inside flags a is), is))
