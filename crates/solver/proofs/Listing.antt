-- Lists of items found one after another.
use Rattle.std.proofs.Common.{ℕ, ◌+◌, ◌≡◌, ◌<◌, List, [], ◌∷◌, ◌++◌, get_or, AllPairs, Contains, inl, inr, refl, sym, subst, ap, arith}
use Rattle.std.specs.List.Sorted.{IsStrictlyIncreasing}
use Rattle.std.proofs.lemmas.Bool.{cases_lt}
use Rattle.std.proofs.lemmas.List.Quantifiers.{all_pairs_push}
use Rattle.std.proofs.lemmas.List.Elements.{Contains-get_or, Contains-push, Contains-push_cases, Contains-append_left}
use Rattle.trust_types.specs.declared.accounts.Node.{Node}
use Rattle.trust_types.specs.declared.accounts.Node.TheVariants.{Root, Account}
use Rattle.trust_types.specs.declared.flows.Side.{Side}
use Rattle.trust_types.specs.declared.flows.Side.TheVariants.{Outside, Pass, Full}
use Rattle.trust_types.specs.Cut.{Sides}
use Rattle.trust_types.specs.Lines.{place}
use Rattle.solver.specs.inner.Listing.{ListsBelow, AreSidesBelow, passing_after, filled_after}

pub same_place : (x y : Node) → place x ≡ place y → x ≡ y
same_place Root Root e = refl
same_place Root (Account b) e = absurd (omega arith)
same_place (Account a) Root e = absurd (omega arith)
same_place (Account a) (Account b) e = ap Account (omega arith)

-- no item has a number below 0
pub lists_none : {X : Type 0} (number : X → ℕ) (Holds : X → Type 0) → ListsBelow number Holds 0 []
lists_none {X} number Holds = record {
  rises = λ i j d before within. absurd (omega arith);
  listed = λ x. (λ h. absurd (omega (arith, h.0)), λ (k, within, is). absurd (omega arith));
}

-- an item of which the fact doesn't hold is passed over
pub lists_past : {X : Type 0} (number : X → ℕ) (Holds : X → Type 0) → ((x y : X) → number x ≡ number y → x ≡ y) → (at : ℕ) (xs : List X) (x : X) →
    ListsBelow number Holds at xs → number x ≡ at → ¬ (Holds x) → ListsBelow number Holds (at + 1) xs
lists_past {X} number Holds apart at xs x lists here not_so = record {
  rises = lists.rises;
  listed = λ y. (
    λ (below, holds). elim (cases_lt (number y) at) [
      | inl before ↦ (lists.listed y).0 (before, holds)
      | inr last ↦ absurd (not_so (subst Holds (apart y x (omega arith)) holds))
    ],
    λ found. let was = (lists.listed y).1 found in (omega (arith, was.0), was.1),
  );
}

-- one of which it does comes to the end
pub lists_more : {X : Type 0} (number : X → ℕ) (Holds : X → Type 0) → ((x y : X) → number x ≡ number y → x ≡ y) → (at : ℕ) (xs : List X) (x : X) →
    ListsBelow number Holds at xs → number x ≡ at → Holds x → ListsBelow number Holds (at + 1) (xs ++ x ∷ [])
lists_more {X} number Holds apart at xs x lists here so = record {
  rises = all_pairs_push (λ y z. number y < number z) xs x lists.rises (λ k d within. let was = (lists.listed (get_or xs k d)).1 (Contains-get_or xs k d within) in omega (arith, was.0));
  listed = λ y. (
    λ (below, holds). elim (cases_lt (number y) at) [
      | inl before ↦ Contains-append_left xs (x ∷ []) y ((lists.listed y).0 (before, holds))
      | inr last ↦ subst (Contains (xs ++ x ∷ [])) (apart x y (omega arith)) (Contains-push xs x)
    ],
    λ found. elim (Contains-push_cases xs x y found) [
      | inl before ↦ let was = (lists.listed y).1 before in (omega (arith, was.0), was.1)
      | inr same ↦ let at_y : number x ≡ number y = ap number same in (omega arith, subst Holds same so)
    ],
  );
}

-- numbers in rising order
pub increasing : (xs : List ℕ) → AllPairs (λ x y. x < y) xs → IsStrictlyIncreasing xs
increasing xs rises = λ k within. rises k (k + 1) 0 (omega arith) within

pub sides_none : (side : Sides) → AreSidesBelow side 0 [] []
sides_none side = record { passing = lists_none place (λ x. side x ≡ Pass); filled = lists_none place (λ x. side x ≡ Full) }

-- a node is added to the list of its side
pub sides_more : (side : Sides) (at : ℕ) (pass full : List Node) (x : Node) (s : Side) → AreSidesBelow side at pass full → place x ≡ at → s ≡ side x →
    AreSidesBelow side (at + 1) (passing_after pass x s) (filled_after full x s)
sides_more side at pass full x Outside are here is = record {
  passing = lists_past place (λ x. side x ≡ Pass) same_place at pass x are.passing here (λ other. cc);
  filled = lists_past place (λ x. side x ≡ Full) same_place at full x are.filled here (λ other. cc);
}
sides_more side at pass full x Pass are here is = record {
  passing = lists_more place (λ x. side x ≡ Pass) same_place at pass x are.passing here (sym is);
  filled = lists_past place (λ x. side x ≡ Full) same_place at full x are.filled here (λ other. cc);
}
sides_more side at pass full x Full are here is = record {
  passing = lists_past place (λ x. side x ≡ Pass) same_place at pass x are.passing here (λ other. cc);
  filled = lists_more place (λ x. side x ≡ Full) same_place at full x are.filled here (sym is);
}
