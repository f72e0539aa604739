-- One unit moved along an arc is one unit moved between its ends.
use Rattle.std.proofs.Common.{ℕ, ◌+◌, ◌-◌, ◌^◌, ◌≡◌, ◌≢◌, ◌≤◌, ◌<◌, inl, inr, arith, ap, sym, subst, ◌∙◌, List, length, get_or, set, get_or-set_same, get_or-set_other, length-set}
use Rattle.std.proofs.lemmas.Bool.{cases_eq}
use Rattle.std.proofs.lemmas.Bool.Decides.{nat_tests}
use Rattle.trust_types.specs.Sum.{sum_below}
use Rattle.trust_types.proofs.Sums.{sum_below-eq}
use Rattle.split_flow.specs.Split.{SplitNode}
use Rattle.split_graph.specs.Numbers.{node_number, node_count}
use Rattle.split_graph.specs.Arcs.{Arcs, AreArcs, IsSameGraph, LeadsTo, arc_count, head_of, twin_of, tail_of, rest_of, share, between, move_one}
use Rattle.frozen.specs.Sites.{Parts}
use Rattle.split_flow.specs.Moved.{IsOneMoved}
use Rattle.split_graph.specs.Network.{AreInPlace}
use Rattle.split_graph.proofs.Numbers.{node_number-injective, node_numbered}
use Rattle.split_flow.proofs.Sums.{sum_below-point, sum_below-lone, sum_below-some}

pub share_hit : (i j x y k : ℕ) → i ≡ x → j ≡ y → share i j x y k ≡ k
share_hit i j x y k e f = grind (arith, nat_tests)

pub share_miss : (i j x y k : ℕ) → (i ≡ x → j ≢ y) → share i j x y k ≡ 0
share_miss i j x y k apart = grind (arith, nat_tests)

-- nothing adds nothing
pub share_some : (i j x y k : ℕ) → 0 < share i j x y k → (i ≡ x) × (j ≡ y) × (0 < k)
share_some i j x y k some =
    elim (cases_eq i x) [
      | inl e ↦
          elim (cases_eq j y) [
            | inl f ↦ (e, f, omega (arith, share_hit i j x y k e f))
            | inr f ↦ absurd (omega (arith, share_miss i j x y k (λ _. f)))
          ]
      | inr e ↦ absurd (omega (arith, share_miss i j x y k (λ same. absurd (e same))))
    ]

pub share_zero : (i j x y k : ℕ) → k ≡ 0 → share i j x y k ≡ 0
share_zero i j x y k none =
    elim (cases_eq i x) [
      | inl e ↦
          elim (cases_eq j y) [
            | inl f ↦ share_hit i j x y k e f ∙ none
            | inr f ↦ share_miss i j x y k (λ _. f)
          ]
      | inr e ↦ share_miss i j x y k (λ same. absurd (e same))
    ]

-- what rests between two split nodes is what rests on the one arc from the first to the second
pub between-arc : (a : Arcs) → AreArcs a → (u v : SplitNode) (e : ℕ) → LeadsTo a u v e → between a u v ≡ rest_of a e
between-arc a are u v e leads =
    sum_below-lone (arc_count a) (λ d. share (tail_of a d) (head_of a d) (node_number u) (node_number v) (rest_of a d)) e leads.within
    (λ d lt other. share_miss (tail_of a d) (head_of a d) (node_number u) (node_number v) (rest_of a d) (λ p q. other (are.simple d e lt leads.within (p ∙ sym leads.tail) (q ∙ sym leads.head))))
    ∙ share_hit (tail_of a e) (head_of a e) (node_number u) (node_number v) (rest_of a e) leads.tail leads.head

-- where something can be moved, there is an arc along which it can
pub arc-between : (a : Arcs) (u v : SplitNode) → 0 < between a u v → (e : ℕ) × LeadsTo a u v e × (0 < rest_of a e)
arc-between a u v some =
    let e = sum_below-some (arc_count a) (λ d. share (tail_of a d) (head_of a d) (node_number u) (node_number v) (rest_of a d)) some in
    let h = share_some (tail_of a e.0) (head_of a e.0) (node_number u) (node_number v) (rest_of a e.0) e.2 in
    (e.0, record { within = e.1; tail = h.0; head = h.1 }, h.2)

-- each arc leads from a split node to another
pub ends_of : (a : Arcs) (e : ℕ) → e < arc_count a → (u : SplitNode) × (v : SplitNode) × LeadsTo a u v e
ends_of a e below =
    let tail = node_numbered (tail_of a e) in
    let head = node_numbered (head_of a e) in
    (tail.0, head.0, record { within = below; tail = sym tail.1; head = sym head.1 })

pub nodes_apart : (a : Arcs) → AreArcs a → (u v : SplitNode) (e : ℕ) → LeadsTo a u v e → u ≢ v
nodes_apart a are u v e leads same = are.apart e leads.within (leads.tail ∙ ap node_number same ∙ sym leads.head)

pub twin_apart : (a : Arcs) → AreArcs a → (e : ℕ) → e < arc_count a → twin_of a e ≢ e
twin_apart a are e below same = are.apart e below (ap (head_of a) same)

pub rest_down : (a : Arcs) → AreArcs a → (e : ℕ) → e < arc_count a → rest_of (move_one e a) e ≡ rest_of a e - 1
rest_down a are e below =
    get_or-set_other (set a.rest e (rest_of a e - 1)) (twin_of a e) e (rest_of a (twin_of a e) + 1) 0 (λ same. twin_apart a are e below (sym same))
    ∙ get_or-set_same a.rest e (rest_of a e - 1) 0 (omega (arith, are.rest_long))

pub rest_up : (a : Arcs) → AreArcs a → (e : ℕ) → e < arc_count a → rest_of (move_one e a) (twin_of a e) ≡ rest_of a (twin_of a e) + 1
rest_up a are e below =
    get_or-set_same (set a.rest e (rest_of a e - 1)) (twin_of a e) (rest_of a (twin_of a e) + 1) 0
    (omega (arith, are.rest_long, are.twin_within e below, length-set a.rest e (rest_of a e - 1)))

pub rest_other : (a : Arcs) (e d : ℕ) → d ≢ e → d ≢ twin_of a e → rest_of (move_one e a) d ≡ rest_of a d
rest_other a e d not_arc not_twin =
    get_or-set_other (set a.rest e (rest_of a e - 1)) (twin_of a e) d (rest_of a (twin_of a e) + 1) 0 not_twin
    ∙ get_or-set_other a.rest e d (rest_of a e - 1) 0 not_arc

-- no arc but this one loses a unit
pub rest_kept : (a : Arcs) → AreArcs a → (e d : ℕ) → e < arc_count a → d ≢ e → rest_of a d ≤ rest_of (move_one e a) d
rest_kept a are e d below other =
    elim (cases_eq d (twin_of a e)) [
      | inl same ↦
          let P : ℕ → Type 0 = λ k. rest_of a k ≤ rest_of (move_one e a) k in
          subst P (sym same) (omega (arith, rest_up a are e below))
      | inr apart ↦ omega (arith, rest_other a e d other apart)
    ]

-- the share of an arc that leads elsewhere
elsewhere : (a : Arcs) → AreArcs a → (e d x y : ℕ) → e < arc_count a → (x ≡ tail_of a e → y ≢ head_of a e) → (x ≡ head_of a e → y ≢ tail_of a e) →
    share (tail_of a d) (head_of a d) x y (rest_of (move_one e a) d) ≡ share (tail_of a d) (head_of a d) x y (rest_of a d)
elsewhere a are e d x y below there back =
    elim (cases_eq d e) [
      | inl same ↦
          let miss : (k : ℕ) → share (tail_of a e) (head_of a e) x y k ≡ 0 = λ k. share_miss (tail_of a e) (head_of a e) x y k (λ p q. there (sym p) (sym q)) in
          let P : ℕ → Type 0 = λ i. share (tail_of a i) (head_of a i) x y (rest_of (move_one e a) i) ≡ share (tail_of a i) (head_of a i) x y (rest_of a i) in
          subst P (sym same) (miss (rest_of (move_one e a) e) ∙ sym (miss (rest_of a e)))
      | inr other ↦
          elim (cases_eq d (twin_of a e)) [
            | inl same ↦
                let turned : tail_of a (twin_of a e) ≡ head_of a e = ap (head_of a) (are.twin_back e below) in
                let miss : (k : ℕ) → share (tail_of a (twin_of a e)) (head_of a (twin_of a e)) x y k ≡ 0 =
                λ k. share_miss (tail_of a (twin_of a e)) (head_of a (twin_of a e)) x y k (λ p q. back (sym p ∙ turned) (sym q)) in
                let P : ℕ → Type 0 = λ i. share (tail_of a i) (head_of a i) x y (rest_of (move_one e a) i) ≡ share (tail_of a i) (head_of a i) x y (rest_of a i) in
                subst P (sym same) (miss (rest_of (move_one e a) (twin_of a e)) ∙ sym (miss (rest_of a (twin_of a e))))
            | inr apart ↦ ap (share (tail_of a d) (head_of a d) x y) (rest_other a e d other apart)
          ]
    ]

pub moves_one : (a : Arcs) → AreArcs a → (u w : SplitNode) (e : ℕ) → LeadsTo a u w e → 0 < rest_of a e → IsOneMoved (between a) (between (move_one e a)) u w
moves_one a are u w e leads some =
    let n : ℕ = arc_count a in
    let b : Arcs = move_one e a in
    let p : ℕ = node_number u in
    let v : ℕ = node_number w in
    let t : ℕ = twin_of a e in
    let below : e < n = leads.within in
    let apart : p ≢ v = λ same. are.apart e below (leads.tail ∙ same ∙ sym leads.head) in
    let turned : tail_of a t ≡ v = ap (head_of a) (are.twin_back e below) ∙ leads.head in
    let before : ℕ → ℕ → ℕ → ℕ = λ x y d. share (tail_of a d) (head_of a d) x y (rest_of a d) in
    let after : ℕ → ℕ → ℕ → ℕ = λ x y d. share (tail_of a d) (head_of a d) x y (rest_of b d) in
    let down : sum_below n (before p v) ≡ sum_below n (after p v) + 1 =
    sum_below-point n (before p v) (after p v) e 1 below
    (λ d lt other.
    elim (cases_eq d t) [
      | inl same ↦
          let P : ℕ → Type 0 = λ i. before p v i ≡ after p v i in
          let miss : (k : ℕ) → share (tail_of a t) (head_of a t) p v k ≡ 0 =
          λ k. share_miss (tail_of a t) (head_of a t) p v k (λ f _. apart (sym f ∙ turned)) in
          subst P (sym same) (miss (rest_of a t) ∙ sym (miss (rest_of b t)))
      | inr not_twin ↦ ap (share (tail_of a d) (head_of a d) p v) (sym (rest_other a e d other not_twin))
    ])
    (omega (arith, share_hit (tail_of a e) (head_of a e) p v (rest_of a e) leads.tail leads.head, share_hit (tail_of a e) (head_of a e) p v (rest_of b e) leads.tail leads.head, rest_down a are e below)) in
    let up : sum_below n (after v p) ≡ sum_below n (before v p) + 1 =
    sum_below-point n (after v p) (before v p) t 1 (are.twin_within e below)
    (λ d lt not_twin.
    elim (cases_eq d e) [
      | inl same ↦
          let P : ℕ → Type 0 = λ i. after v p i ≡ before v p i in
          let miss : (k : ℕ) → share (tail_of a e) (head_of a e) v p k ≡ 0 =
          λ k. share_miss (tail_of a e) (head_of a e) v p k (λ f _. apart (sym leads.tail ∙ f)) in
          subst P (sym same) (miss (rest_of b e) ∙ sym (miss (rest_of a e)))
      | inr other ↦ ap (share (tail_of a d) (head_of a d) v p) (rest_other a e d other not_twin)
    ])
    (omega (arith, share_hit (tail_of a t) (head_of a t) v p (rest_of a t) turned leads.tail, share_hit (tail_of a t) (head_of a t) v p (rest_of b t) turned leads.tail, rest_up a are e below)) in
    record {
      down = sym down;
      up = up;
      same = λ x y there back. sum_below-eq n (after (node_number x) (node_number y)) (before (node_number x) (node_number y)) (λ d lt. elsewhere a are e d (node_number x) (node_number y) below
          (λ f g. there (node_number-injective x u (f ∙ leads.tail)) (node_number-injective y w (g ∙ leads.head)))
          (λ f g. back (node_number-injective x w (f ∙ leads.head)) (node_number-injective y u (g ∙ leads.tail))));
    }

-- the arrays belong together and lead where they led, whatever rests on them
abbrev pub with_rests : Arcs → List ℕ → Arcs
with_rests a rests = record { accounts = a.accounts; first = a.first; head = a.head; twin = a.twin; rest = rests }

pub other_rests : (a : Arcs) (rests : List ℕ) → AreArcs a → arc_count a ≤ length rests → ((e : ℕ) → e < arc_count a → get_or rests e 0 + get_or rests (twin_of a e) 0 < 2 ^ 32) → AreArcs (with_rests a rests)
other_rests a rests are long room = record {
  few = are.few;
  accounts_fit = are.accounts_fit;
  first_long = are.first_long;
  head_long = are.head_long;
  twin_long = are.twin_long;
  rest_long = long;
  first_within = are.first_within;
  rising = are.rising;
  head_within = are.head_within;
  twin_within = are.twin_within;
  twin_back = are.twin_back;
  apart = are.apart;
  simple = are.simple;
  from_first = are.from_first;
  before_next = are.before_next;
  leaves = are.leaves;
  room = room;
}

pub still_leads : (a : Arcs) (rests : List ℕ) (u v : SplitNode) (e : ℕ) → LeadsTo a u v e → LeadsTo (with_rests a rests) u v e
still_leads a rests u v e leads = record { within = leads.within; tail = leads.tail; head = leads.head }

pub still_in_place : (r : Parts) (a : Arcs) (rests : List ℕ) → AreInPlace r a → AreInPlace r (with_rests a rests)
still_in_place r a rests are = record {
  through = λ x is. still_leads a rests _ _ _ (are.through x is);
  only = are.only;
  ends = λ b below. still_leads a rests _ _ _ (are.ends b below);
  number = are.number;
  along = λ x i b taken. still_leads a rests _ _ _ (are.along x i b taken);
}

pub still_arcs : (a : Arcs) → AreArcs a → (e : ℕ) → e < arc_count a → 0 < rest_of a e → AreArcs (move_one e a)
still_arcs a are e below some =
    let b : Arcs = move_one e a in
    let t : ℕ = twin_of a e in
    other_rests a b.rest are (omega (arith, are.rest_long, length-set a.rest e (rest_of a e - 1), length-set (set a.rest e (rest_of a e - 1)) t (rest_of a t + 1)))
    (λ d lt.
    let sum_at : ℕ → Type 0 = λ i. rest_of b i + rest_of b (twin_of a i) < 2 ^ 32 in
    elim (cases_eq d e) [
      | inl same ↦ subst sum_at (sym same) (omega (arith, are.room e below, rest_down a are e below, rest_up a are e below))
      | inr other ↦
          elim (cases_eq d t) [
            | inl same ↦
                let back : rest_of b (twin_of a t) ≡ rest_of b e = ap (rest_of b) (are.twin_back e below) in
                subst sum_at (sym same) (omega (arith, back, are.room e below, rest_down a are e below, rest_up a are e below))
            | inr apart ↦
                let not_twin : twin_of a d ≢ e = λ same. apart (sym (are.twin_back d lt) ∙ ap (twin_of a) same) in
                let not_twins : twin_of a d ≢ t = λ same. other (sym (are.twin_back d lt) ∙ ap (twin_of a) same ∙ are.twin_back e below) in
                omega (arith, rest_other a e d other apart, rest_other a e (twin_of a d) not_twin not_twins, are.room d lt)
          ]
    ])

-- the same arcs lead where they led
pub same_count : (a b : Arcs) → IsSameGraph a b → arc_count b ≡ arc_count a
same_count a b same = subst (λ (n : ℕ). get_or b.first (node_count n) 0 ≡ arc_count a) (sym same.accounts) (ap (λ (xs : List ℕ). get_or xs (node_count a.accounts) 0) same.first)

pub same_head : (a b : Arcs) → IsSameGraph a b → (e : ℕ) → head_of b e ≡ head_of a e
same_head a b same e = ap (λ (xs : List ℕ). get_or xs e 0) same.head

pub same_tail : (a b : Arcs) → IsSameGraph a b → (e : ℕ) → tail_of b e ≡ tail_of a e
same_tail a b same e = same_head a b same (twin_of b e) ∙ ap (λ (xs : List ℕ). head_of a (get_or xs e 0)) same.twin
