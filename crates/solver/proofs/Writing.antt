-- The lines of a flow, written one after another.
use Rattle.std.proofs.Common.{ℕ, Bool, true, false, ◌+◌, ◌≡◌, ◌<◌, ◌≤◌, ◌==◌, ◌&&◌, ◌||◌, ◌⊎◌, List, [], ◌∷◌, ◌++◌, get_or, inl, inr, refl, sym, subst, ap, ◌∙◌, arith, nat_lt, cond}
use Rattle.std.proofs.lemmas.Bool.{cases_lt, cases_Bool, cond-true, cond-false, lt-ltb, le-ltb, eqb-false}
use Rattle.std.proofs.lemmas.Bool.Decides.{nat_tests}
use Rattle.std.proofs.lemmas.List.Quantifiers.{all_pairs_push}
use Rattle.std.proofs.lemmas.List.Elements.{All-nil, All-push, All-weaker}
use Rattle.std.proofs.lemmas.List.Sums.{sum_by_push}
use Rattle.trust_types.specs.declared.accounts.Node.{Node}
use Rattle.trust_types.specs.declared.accounts.Node.TheVariants.{Root, Account}
use Rattle.trust_types.specs.declared.flows.FlowLine.{FlowLine}
use Rattle.trust_types.specs.Flow.{Flow, is_served, units_in, units_out}
use Rattle.trust_types.specs.Roster.{ServesConduits}
use Rattle.trust_types.specs.Rows.{GivesEachOnce}
use Rattle.frozen.specs.Sites.{Parts, accounts, certificates_of, degree, taker, given}
use Rattle.trust_types.specs.Lines.{place, same_node, flow_of, is_before}
use Rattle.trust_types.proofs.Sums.{part-le-sum_below}
use Rattle.solver.proofs.Listing.{same_place}
use Rattle.solver.specs.inner.Writing.{GoesAlong, with_line, is_earlier, IsWritten, AreLinesOf}

abbrev early : ℕ → ℕ → ℕ → ℕ → Bool
early p d at b = nat_lt p at || ((p == at) && nat_lt d b)

-- what comes before a pair comes before all later ones
early_later : (p d at b to c : ℕ) → (at < to) ⊎ ((at ≡ to) × (b ≤ c)) → early p d at b ≡ true → early p d to c ≡ true
early_later p d at b to c order before = grind (arith, nat_tests)

early_at : (p d at b c : ℕ) → early p d at c ≡ true → early p d at b ≡ false → p ≡ at
early_at p d at b c before not_before = grind (arith, nat_tests)

early_from : (p d at b c : ℕ) → early p d at c ≡ true → early p d at b ≡ false → b ≤ d
early_from p d at b c before not_before = grind (arith, nat_tests)

early_to : (p d at b c : ℕ) → early p d at c ≡ true → early p d at b ≡ false → d < c
early_to p d at b c before not_before = grind (arith, nat_tests)

next_at : (p d at b : ℕ) → early p d (at + 1) 0 ≡ true → early p d at b ≡ false → p ≡ at
next_at p d at b before not_before = grind (arith, nat_tests)

next_from : (p d at b : ℕ) → early p d (at + 1) 0 ≡ true → early p d at b ≡ false → b ≤ d
next_from p d at b before not_before = grind (arith, nat_tests)

none_early : (p d : ℕ) → early p d 0 0 ≡ false
none_early p d = grind (arith, nat_tests)

not_early : (p d at : ℕ) → early p d at 0 ≡ false → at ≤ p
not_early p d at not_before = grind (arith, nat_tests)

early_here : (at d b : ℕ) → d ≡ b → early at d at (b + 1) ≡ true
early_here at d b is = grind (arith, nat_tests)

-- nothing is written before the first pair
pub written_none : (f : Flow) → IsWritten f 0 0 []
written_none f = record {
  some = All-nil (λ (l : FlowLine). 0 < l.units);
  rises = λ i j d before within. absurd (omega arith);
  earlier = All-nil (λ (l : FlowLine). is_earlier l.from l.to 0 0 ≡ true);
  units = λ x c. sym (cond-false (is_earlier x c 0 0) (f x c) 0 (none_early (place x) c));
}

units_past : (before after : Bool) (n u : ℕ) → n ≡ cond before u 0 → (before ≡ true → after ≡ true) → (after ≡ true → before ≡ false → u ≡ 0) → n ≡ cond after u 0
units_past true true n u is stays none = is
units_past true false n u is stays none = let never = stays refl in absurd (cc)
units_past false true n u is stays none = omega (arith, is, none refl refl)
units_past false false n u is stays none = is

-- pairs without units are passed over
written_past : (f : Flow) (at b to c : ℕ) (lines : List FlowLine) → IsWritten f at b lines → (at < to) ⊎ ((at ≡ to) × (b ≤ c)) →
    ((x : Node) (d : ℕ) → is_earlier x d to c ≡ true → is_earlier x d at b ≡ false → f x d ≡ 0) → IsWritten f to c lines
written_past f at b to c lines is order none = record {
  some = is.some;
  rises = is.rises;
  earlier = All-weaker (λ (l : FlowLine). is_earlier l.from l.to at b ≡ true) (λ (l : FlowLine). is_earlier l.from l.to to c ≡ true)
      (λ l before. early_later (place l.from) l.to at b to c order before) lines is.earlier;
  units = λ x d. units_past (is_earlier x d at b) (is_earlier x d to c) (flow_of lines x d) (f x d) (is.units x d)
      (early_later (place x) d at b to c order) (none x d);
}

-- in the row of a node
pub written_to : (f : Flow) (x : Node) (b c : ℕ) (lines : List FlowLine) → IsWritten f (place x) b lines → b ≤ c → ((d : ℕ) → b ≤ d → d < c → f x d ≡ 0) → IsWritten f (place x) c lines
written_to f x b c lines is order none = written_past f (place x) b (place x) c lines is (inr (refl, order))
    (λ y d before not_before.
    let here : x ≡ y = same_place x y (sym (early_at (place y) d (place x) b c before not_before)) in
    subst (λ z. f z d ≡ 0) here (none d (early_from (place y) d (place x) b c before not_before) (early_to (place y) d (place x) b c before not_before)))

-- to the end of a row
pub written_row : (f : Flow) (x : Node) (b : ℕ) (lines : List FlowLine) → IsWritten f (place x) b lines → ((d : ℕ) → b ≤ d → f x d ≡ 0) → IsWritten f (place x + 1) 0 lines
written_row f x b lines is none = written_past f (place x) b (place x + 1) 0 lines is (inl (omega arith))
    (λ y d before not_before.
    let here : x ≡ y = same_place x y (sym (next_at (place y) d (place x) b before not_before)) in
    subst (λ z. f z d ≡ 0) here (none d (next_from (place y) d (place x) b before not_before)))

before_added : (p d from to at b : ℕ) → from ≡ at → to ≡ b → early p d at b ≡ true → (nat_lt p from || ((p == from) && nat_lt d to)) ≡ true
before_added p d from to at b at_is to_is before = grind (arith, nat_tests)

units_added : (p d from to at b units u n : ℕ) → from ≡ at → to ≡ b → (p ≡ from → d ≡ to → units ≡ u) → n ≡ cond (early p d at b) u 0 →
    n + cond ((from == p) && (to == d)) units 0 ≡ cond (early p d at (b + 1)) u 0
units_added p d from to at b units u n at_is to_is same is = grind (arith, nat_tests)

-- a line is written
written_more : (f : Flow) (b : ℕ) (lines : List FlowLine) (l : FlowLine) → IsWritten f (place l.from) b lines → l.to ≡ b → l.units ≡ f l.from b → 0 < l.units →
    IsWritten f (place l.from) (b + 1) (lines ++ l ∷ [])
written_more f b lines l is to_is units_is some =
    let at : ℕ = place l.from in
    record {
      some = All-push (λ (m : FlowLine). 0 < m.units) lines l is.some some;
      rises = all_pairs_push (λ m n. is_before m n ≡ true) lines l is.rises (λ k d within.
          let m : FlowLine = get_or lines k d in
          before_added (place m.from) m.to at l.to at b refl to_is (is.earlier k d within));
      earlier = All-push (λ (m : FlowLine). is_earlier m.from m.to at (b + 1) ≡ true) lines l
          (All-weaker (λ (m : FlowLine). is_earlier m.from m.to at b ≡ true) (λ (m : FlowLine). is_earlier m.from m.to at (b + 1) ≡ true)
          (λ m before. early_later (place m.from) m.to at b at (b + 1) (inr (refl, omega arith)) before) lines is.earlier)
          (early_here at l.to b to_is);
      units = λ x d. sum_by_push (λ (m : FlowLine). cond (same_node m.from x && (m.to == d)) m.units 0) lines l
          ∙ units_added (place x) d at l.to at b l.units (f x d) (flow_of lines x d) refl to_is
          (λ there then. units_is ∙ ap (λ y. f y b) (same_place l.from x (sym there)) ∙ ap (f x) (sym to_is ∙ sym then)) (is.units x d);
    }

pub written_line : (f : Flow) (b : ℕ) (lines : List FlowLine) (l : FlowLine) → IsWritten f (place l.from) b lines → l.to ≡ b → l.units ≡ f l.from b →
    IsWritten f (place l.from) (b + 1) (with_line lines l)
written_line f b lines l is to_is units_is = elim (cases_lt 0 l.units) [
  | inl some ↦ subst (IsWritten f (place l.from) (b + 1)) (sym (cond-true (nat_lt 0 l.units) (lines ++ l ∷ []) lines (lt-ltb 0 l.units some))) (written_more f b lines l is to_is units_is some)
  | inr none ↦ subst (IsWritten f (place l.from) (b + 1)) (sym (cond-false (nat_lt 0 l.units) (lines ++ l ∷ []) lines (le-ltb 0 l.units none)))
      (written_to f l.from b (b + 1) lines is (omega arith) (λ d from to.
      let here : b ≡ d = omega arith in
      subst (λ e. f l.from e ≡ 0) here (omega (arith, units_is))))
]

-- The lines of all pairs before those of an account, and of its pairs with the takers of its first i certificates.
pub record IsRowWritten (r : Parts) (f : Flow) (a i : ℕ) (lines : List FlowLine) : Type 0 where
  pub b : ℕ
  pub written : IsWritten f (a + 1) b lines
  pub later : (j : ℕ) → i ≤ j → j < degree r a → b ≤ taker r a j
  pub rest : (c : ℕ) → b ≤ c → 0 < f (Account a) c → (j : ℕ) × (i ≤ j) × (j < degree r a) × (taker r a j ≡ c)

pub row_none : (r : Parts) (f : Flow) (a : ℕ) (lines : List FlowLine) → GoesAlong r f → IsWritten f (a + 1) 0 lines → IsRowWritten r f a 0 lines
row_none r f a lines goes is = record {
  b = 0;
  written = is;
  later = λ j from to. omega arith;
  rest = λ c from some. let along = goes.certs a c some in (along.1.0, omega arith, along.1.1, along.1.2);
}

nothing : (n : ℕ) → (0 < n → ⊥) → n ≡ 0
nothing n never = elim (cases_lt 0 n) [ inl some ↦ absurd (never some) | inr none ↦ omega arith ]

pub row_more : (r : Parts) (f : Flow) (a i : ℕ) (lines : List FlowLine) (l : FlowLine) → GivesEachOnce (certificates_of r) (degree r) (given r) → a < accounts r → i < degree r a →
    IsRowWritten r f a i lines → l.from ≡ Account a → l.to ≡ taker r a i → l.units ≡ f (Account a) (taker r a i) → IsRowWritten r f a (i + 1) (with_line lines l)
row_more r f a i lines l readers account within is from_is to_is units_is =
    let t : ℕ = taker r a i in
    let rises : (j : ℕ) → i < j → j < degree r a → t < taker r a j = λ j less inside. readers.rises a i j account less inside in
    let to_taker : IsWritten f (a + 1) t lines = written_to f (Account a) is.b t lines is.written (is.later i (omega arith) within) (λ d from to. nothing (f (Account a) d) (λ some.
    let h = is.rest d from some in
    elim (cases_lt i h.0) [
      | inl more ↦ omega (arith, rises h.0 more h.2, h.3)
      | inr same ↦ let here : i ≡ h.0 = omega (arith, h.1) in let same_taker : t ≡ taker r a h.0 = ap (taker r a) here in omega (arith, h.3, same_taker)
    ])) in
    let place_is : place l.from ≡ a + 1 = ap place from_is in
    record {
      b = t + 1;
      written = subst (λ p. IsWritten f p (t + 1) (with_line lines l)) place_is
          (written_line f t lines l (subst (λ p. IsWritten f p t lines) (sym place_is) to_taker) to_is (units_is ∙ ap (λ x. f x t) (sym from_is)));
      later = λ j from to. omega (arith, rises j (omega arith) to);
      rest = λ c from some.
          let h = is.rest c (omega (arith, is.later i (omega arith) within)) some in
          elim (cases_lt i h.0) [
            | inl more ↦ (h.0, omega arith, h.2, h.3)
            | inr same ↦ let here : i ≡ h.0 = omega (arith, h.1) in let same_taker : t ≡ taker r a h.0 = ap (taker r a) here in absurd (omega (arith, h.3, same_taker))
          ];
    }

pub row_all : (r : Parts) (f : Flow) (a : ℕ) (lines : List FlowLine) → IsRowWritten r f a (degree r a) lines → IsWritten f (a + 1 + 1) 0 lines
row_all r f a lines is = written_row f (Account a) is.b lines is.written (λ d from. nothing (f (Account a) d) (λ some. let h = is.rest d from some in omega (arith, h.1, h.2)))

-- an account that isn't served passes nothing on
pub row_unserved : (r : Parts) (f : Flow) (a : ℕ) (lines : List FlowLine) → GivesEachOnce (certificates_of r) (degree r) (given r) → GoesAlong r f → ServesConduits (accounts r) f → a < accounts r →
    is_served (accounts r) f a ≡ false → IsWritten f (a + 1) 0 lines → IsWritten f (a + 1 + 1) 0 lines
row_unserved r f a lines readers goes conduits account unserved is = written_row f (Account a) 0 lines is (λ d from. nothing (f (Account a) d) (λ some.
    let along = goes.certs a d some in
    let inside : d < accounts r = omega (arith, readers.taker a along.1.0 account along.1.1, along.1.2) in
    let out : 0 < units_out (accounts r) f (Account a) = omega (arith, part-le-sum_below (accounts r) (f (Account a)) d inside) in
    eqb-false (units_in (accounts r) f a) (units_out (accounts r) f (Account a) + 1) unserved (conduits a account out)))

-- the root's row ends at the last account
pub root_all : (r : Parts) (f : Flow) (lines : List FlowLine) → GoesAlong r f → IsWritten f 0 (accounts r) lines → IsWritten f 1 0 lines
root_all r f lines goes is = written_row f Root (accounts r) lines is (λ d from. nothing (f Root d) (λ some. omega (arith, goes.root d some)))

past_all : (r : Parts) (f : Flow) → GoesAlong r f → (x : Node) (d : ℕ) → accounts r + 1 ≤ place x → f x d ≡ 0
past_all r f goes Root d past = absurd (omega arith)
past_all r f goes (Account a) d past = nothing (f (Account a) d) (λ some. omega (arith, (goes.certs a d some).0))

-- and nothing comes after the last account's
pub all_written : (r : Parts) (f : Flow) (lines : List FlowLine) → GoesAlong r f → IsWritten f (accounts r + 1) 0 lines → AreLinesOf f lines
all_written r f lines goes is = record {
  some = is.some;
  rises = is.rises;
  units = λ x d. elim (cases_Bool (is_earlier x d (accounts r + 1) 0)) [
    | inl before ↦ is.units x d ∙ cond-true (is_earlier x d (accounts r + 1) 0) (f x d) 0 before
    | inr not_before ↦ is.units x d ∙ cond-false (is_earlier x d (accounts r + 1) 0) (f x d) 0 not_before ∙ sym (past_all r f goes x d (not_early (place x) d (accounts r + 1) not_before))
  ];
}
