-- The units on arcs, read off the arcs that lead back: which of these tell nothing.
use Rattle.std.proofs.Common.{ℕ, zero, suc, List, ◌+◌, ◌*◌, ◌<◌, ◌≤◌, ◌≡◌, ◌≢◌, ◌∙◌, inl, inr, refl, arith, ap, sym, subst, length, set, get_or, get_or-set_same, get_or-set_other}
use Rattle.std.proofs.lemmas.Bool.{cases_lt, cases_eq}
use Rattle.std.proofs.lemmas.Bool.Decides.{nat_tests}
use Rattle.trust_types.specs.declared.accounts.Node.TheVariants.{Root, Account}
use Rattle.split_flow.specs.Split.{SplitNode, InHalf, OutHalf, Supersink, Rests}
use Rattle.split_graph.specs.Numbers.{node_number, node_count}
use Rattle.split_graph.specs.Arcs.{Arcs, AreArcs, LeadsTo, arc_count, first_of, tail_of, twin_of, between}
use Rattle.split_graph.specs.Network.{Network, StandsFor, units_on}
use Rattle.split_graph.specs.inner.Back.{AreReadBefore}
use Rattle.split_graph.proofs.Numbers.{node_number-injective}
use Rattle.split_graph.proofs.Edges.{turned}

-- arcs that tell nothing may be passed over
pub passed_over : (a : Arcs) → AreArcs a → (k m : ℕ) (units : List ℕ) → k ≤ m → ((u v : SplitNode) (e : ℕ) → LeadsTo a u v e → k ≤ e → e < m → units_on (between a) v u ≡ 0) →
    AreReadBefore a k units → AreReadBefore a m units
passed_over a are k m units le none read = record {
  done = λ u v e leads less.
      elim (cases_lt (twin_of a e) k) [
        | inl before ↦ read.done u v e leads before
        | inr behind ↦ read.left e leads.within behind ∙ sym (none v u (twin_of a e) (turned a are u v e leads) behind less)
      ];
  left = λ e within after. read.left e within (omega arith);
}

-- one arc more was read
pub read_one : (a : Arcs) → AreArcs a → (k back : ℕ) (units : List ℕ) → k < arc_count a → arc_count a ≤ length units → ((u v : SplitNode) → LeadsTo a u v k → back ≡ units_on (between a) v u) →
    AreReadBefore a k units → AreReadBefore a (k + 1) (set units (twin_of a k) back)
read_one a are k back units below long is read = record {
  done = λ u v e leads less.
      elim (cases_eq (twin_of a e) k) [
        | inl same ↦
            let at : e ≡ twin_of a k = sym (are.twin_back e leads.within) ∙ ap (twin_of a) same in
            ap (λ (d : ℕ). get_or (set units (twin_of a k) back) d 0) at
            ∙ get_or-set_same units (twin_of a k) back 0 (omega (arith, are.twin_within k below, long))
            ∙ is v u (subst (λ (d : ℕ). LeadsTo a v u d) same (turned a are u v e leads))
        | inr other ↦
            get_or-set_other units (twin_of a k) e back 0 (λ at. other (ap (twin_of a) at ∙ are.twin_back k below))
            ∙ read.done u v e leads (omega (arith, less, other))
      ];
  left = λ e within after.
      get_or-set_other units (twin_of a k) e back 0 (λ at. absurd (omega (arith, ap (twin_of a) at ∙ are.twin_back k below, after)))
      ∙ read.left e within (omega (arith, after));
}

pub read_none : (a : Arcs) → AreArcs a → (k back : ℕ) (units : List ℕ) → back ≡ 0 → ((u v : SplitNode) → LeadsTo a u v k → back ≡ units_on (between a) v u) →
    AreReadBefore a k units → AreReadBefore a (k + 1) units
read_none a are k back units none is read =
    passed_over a are k (k + 1) units (omega arith)
    (λ u v e leads from to. sym (is u v (subst (λ (d : ℕ). LeadsTo a u v d) (omega arith) leads)) ∙ none) read

-- no arc back along an edge leaves another node than an account's first half
none_elsewhere : (r : Rests) (v u : SplitNode) → ((b : ℕ) → u ≢ InHalf (Account b)) → units_on r v u ≡ 0
none_elsewhere r (OutHalf x) (InHalf (Account b)) other = absurd (other b refl)
none_elsewhere r (OutHalf x) (InHalf Root) other = refl
none_elsewhere r (OutHalf x) (OutHalf y) other = refl
none_elsewhere r (OutHalf x) Supersink other = refl
none_elsewhere r (InHalf x) u other = refl
none_elsewhere r Supersink u other = refl

-- nor does the one through the account
none_through : (r : Rests) (b : ℕ) → units_on r (OutHalf (Account b)) (InHalf (Account b)) ≡ 0
none_through r b = grind (arith, nat_tests)

rises : (a : Arcs) → AreArcs a → (u k v : ℕ) → u + k ≡ v → v ≤ node_count a.accounts → first_of a u ≤ first_of a v
rises a are u zero v is within = let same : u ≡ v = omega arith in subst (λ (w : ℕ). first_of a u ≤ first_of a w) same (omega arith)
rises a are u (suc k) v is within =
    let next : u + k + 1 ≡ v = omega arith in
    let up : first_of a (u + k) ≤ first_of a (u + k + 1) = are.rising (u + k) (omega arith) in
    subst (λ (w : ℕ). first_of a u ≤ first_of a w) next (omega (arith, rises a are u k (u + k) refl (omega arith), up))

-- the arcs of the supersink and the root
none_before : (n : Network) (s : StandsFor n) (u v : SplitNode) (e : ℕ) → LeadsTo n.arcs u v e → e < first_of n.arcs 3 → units_on (between n.arcs) v u ≡ 0
none_before n s u v e leads less =
    let a : Arcs = n.arcs in
    none_elsewhere (between a) v u
    (λ b is.
    let tail : 3 + 2 * b ≡ tail_of a e = omega (arith, leads.tail, ap node_number is) in
    let within : tail_of a e < node_count a.accounts = s.arcs.head_within (twin_of a e) (s.arcs.twin_within e leads.within) in
    absurd (omega (arith, less, rises a s.arcs 3 (2 * b) (tail_of a e) tail (omega (arith, within)), s.arcs.from_first e leads.within)))

-- where all places have 0, what is read begins with the first account
pub begins : (n : Network) (s : StandsFor n) (units : List ℕ) → ((e : ℕ) → e < arc_count n.arcs → get_or units e 0 ≡ 0) → AreReadBefore n.arcs (first_of n.arcs 3) units
begins n s units none = record {
  done = λ u v e leads less. none e leads.within ∙ sym (none_before n s v u (twin_of n.arcs e) (turned n.arcs s.arcs u v e leads) less);
  left = λ e within after. none e within;
}

-- an account's own arcs come before the others of its first half
pub own_first : (n : Network) (s : StandsFor n) (b : ℕ) → b < n.arcs.accounts → first_of n.arcs (node_number (InHalf (Account b))) + 2 ≤ first_of n.arcs (node_number (InHalf (Account b)) + 1)
own_first n s b below =
    let a : Arcs = n.arcs in
    let w : ℕ = node_number (InHalf (Account b)) in
    let ends : LeadsTo a (InHalf (Account b)) Supersink (first_of a w + 1) = s.places.ends b (omega (arith, below, s.accounts)) in
    omega (arith, subst (λ (v : ℕ). first_of a w + 1 < first_of a (v + 1)) ends.tail (s.arcs.before_next (first_of a w + 1) ends.within))

none_own : (n : Network) (s : StandsFor n) (b : ℕ) → b < n.arcs.accounts → (u v : SplitNode) (e : ℕ) → LeadsTo n.arcs u v e →
    first_of n.arcs (node_number (InHalf (Account b))) ≤ e → e < first_of n.arcs (node_number (InHalf (Account b))) + 2 → units_on (between n.arcs) v u ≡ 0
none_own n s b below u v e leads from to =
    let a : Arcs = n.arcs in
    let r : Rests = between a in
    let start : ℕ = first_of a (node_number (InHalf (Account b))) in
    let none : (w : SplitNode) (d : ℕ) → LeadsTo a (InHalf (Account b)) w d → units_on r w (InHalf (Account b)) ≡ 0 → e ≡ d → units_on r v u ≡ 0 =
    λ w d other is same.
    let here : LeadsTo a u v d = subst (λ (k : ℕ). LeadsTo a u v k) same leads in
    let tail : InHalf (Account b) ≡ u = node_number-injective (InHalf (Account b)) u (sym other.tail ∙ here.tail) in
    let head : w ≡ v = node_number-injective w v (sym other.head ∙ here.head) in
    subst (λ (p : SplitNode). units_on r v p ≡ 0) tail (subst (λ (p : SplitNode). units_on r p (InHalf (Account b)) ≡ 0) head is) in
    elim (cases_eq e start) [
      | inl same ↦ none (OutHalf (Account b)) start (s.places.through (Account b) (omega (arith, below, s.accounts))) (none_through r b) same
      | inr other ↦ none Supersink (start + 1) (s.places.ends b (omega (arith, below, s.accounts))) refl (omega (arith, from, to, other))
    ]

-- those of its second half
none_second : (n : Network) (s : StandsFor n) (b : ℕ) → b < n.arcs.accounts → (u v : SplitNode) (e : ℕ) → LeadsTo n.arcs u v e →
    first_of n.arcs (node_number (InHalf (Account b)) + 1) ≤ e → e < first_of n.arcs (node_number (InHalf (Account (b + 1)))) → units_on (between n.arcs) v u ≡ 0
none_second n s b below u v e leads from to =
    let a : Arcs = n.arcs in
    let w : ℕ = node_number (InHalf (Account b)) + 1 in
    let next : node_number (InHalf (Account (b + 1))) ≡ w + 1 = omega arith in
    let tail : tail_of a e ≡ w = s.arcs.leaves w e (omega (arith, below)) from (subst (λ (v : ℕ). e < first_of a v) next to) in
    none_elsewhere (between a) v u (λ c is. absurd (omega (arith, tail, leads.tail, ap node_number is)))

-- the row of its second half is passed over
pub next_account : (n : Network) (s : StandsFor n) (b : ℕ) (units : List ℕ) → b < n.arcs.accounts → AreReadBefore n.arcs (first_of n.arcs (node_number (InHalf (Account b)) + 1)) units →
    AreReadBefore n.arcs (first_of n.arcs (node_number (InHalf (Account (b + 1))))) units
next_account n s b units below =
    let a : Arcs = n.arcs in
    let w : ℕ = node_number (InHalf (Account b)) + 1 in
    let next : w + 1 ≡ node_number (InHalf (Account (b + 1))) = omega arith in
    let up : first_of a w ≤ first_of a (node_number (InHalf (Account (b + 1)))) = subst (λ (v : ℕ). first_of a w ≤ first_of a v) next (s.arcs.rising w (omega (arith, below))) in
    passed_over a s.arcs (first_of a w) (first_of a (node_number (InHalf (Account (b + 1))))) units up (none_second n s b below)

-- and so are an account's own arcs
pub own_passed : (n : Network) (s : StandsFor n) (b : ℕ) (units : List ℕ) → b < n.arcs.accounts → AreReadBefore n.arcs (first_of n.arcs (node_number (InHalf (Account b)))) units →
    AreReadBefore n.arcs (first_of n.arcs (node_number (InHalf (Account b))) + 2) units
own_passed n s b units below =
    let start : ℕ = first_of n.arcs (node_number (InHalf (Account b))) in
    passed_over n.arcs s.arcs start (start + 2) units (omega arith) (none_own n s b below)
