-- Phases are few, since after each of them few units are missing.
use Rattle.std.proofs.Common.{ℕ, zero, suc, ◌+◌, ◌-◌, ◌*◌, ◌/◌, ◌∙◌, ◌≡◌, ◌≤◌, ◌<◌, inl, inr, arith, ap, sym, subst, min}
use Rattle.std.proofs.lemmas.Bool.{cases_eq, cases_lt}
use Rattle.std.proofs.lemmas.Nat.{mul-le}
use Rattle.trust_types.specs.declared.levels.Level.{Level}
use Rattle.trust_types.specs.declared.accounts.Node.{Node}
use Rattle.trust_types.specs.Graph.{Certificates}
use Rattle.split_flow.specs.Split.{SplitNode, Supersink, source, Rests, IsSplitGraph}
use Rattle.split_flow.specs.Moved.{IsMoved, out_of}
use Rattle.split_flow.proofs.Endings.{unmoved}
use Rattle.layers.specs.Layers.{WalkTo, AreByDistance, ArePhases}
use Rattle.layers.specs.PhaseBound.{capacity_sum, least_of, most_phases, phase_bound}
use Rattle.layers.specs.Laws.{PhasesAreFew, StepsAreFew}
use Rattle.layers.proofs.Rising.{ways_are_longer}
use Rattle.layers.proofs.LayerCuts.{few_are_missing}

least_of-greatest : (n k : ℕ) (f : ℕ → ℕ) → ((d : ℕ) → 0 < d → d ≤ n + 1 → k ≤ f d) → k ≤ least_of n f
least_of-greatest zero k f le = le 1 (omega arith) (omega arith)
least_of-greatest (suc n) k f le =
    omega (arith, least_of-greatest n k f (λ d some few. le d some (omega arith)), le (n + 2) (omega arith) (omega arith))

moved_twice : (n : ℕ) (c before after : Rests) → IsMoved n c before → IsMoved n before after → IsMoved n c after
moved_twice n c before after first then = record {
  both = λ u v. then.both u v ∙ first.both u v;
  kept = λ u is. then.kept u is ∙ first.kept u is;
}

pub all_moved : (n : ℕ) (c : Rests) (p : ℕ) (r : Rests) → ArePhases n c p r → IsMoved n c r
all_moved n c zero r same = subst (λ (t : Rests). IsMoved n c t) same (unmoved n c)
all_moved n c (suc p) r (before, phases, phase) = moved_twice n c before r (all_moved n c p before phases) phase.moved

one_more : (a b e p : ℕ) → a < b → b + p ≤ e → a + suc p ≤ e
one_more a b e p less le = omega arith

same_le : (a e : ℕ) → a ≡ e → a + 0 ≤ e
same_le a e same = omega arith

-- each phase sent a unit
pub each-sends : (n : ℕ) (c : Rests) (p : ℕ) (r : Rests) → ArePhases n c p r → out_of n r source + p ≤ out_of n c source
each-sends n c zero r same = same_le (out_of n r source) (out_of n c source) (ap (λ (t : Rests). out_of n t source) (sym same))
each-sends n c (suc p) r (before, phases, phase) =
    one_more (out_of n r source) (out_of n before source) (out_of n c source) p phase.some (each-sends n c p before phases)

-- no arc leads from the source to the supersink
first-far : (g : Certificates) (level : Level) (cap : Node → ℕ) (c : Rests) → IsSplitGraph g level cap c → (m : ℕ) → WalkTo c m Supersink → 1 < m
first-far g level cap c split zero at = absurd (cc)
first-far g level cap c split (suc zero) (u, at, some) = absurd (split.only source Supersink (subst (λ (v : SplitNode). 0 < c v Supersink) at some))
first-far g level cap c split (suc (suc m)) walk = omega arith

-- each phase makes every way longer
none-short : (g : Certificates) (level : Level) (cap : Node → ℕ) (c : Rests) → IsSplitGraph g level cap c → (p : ℕ) (r : Rests) → ArePhases g.accounts c p r →
    (m : ℕ) → WalkTo r m Supersink → p + 1 < m
none-short g level cap c split zero r same m walk = first-far g level cap c split m (subst (λ (t : Rests). WalkTo t m Supersink) (sym same) walk)
none-short g level cap c split (suc p) r (before, phases, phase) m walk =
    omega (
      arith,
      ways_are_longer r phase.layer phase.spent phase.layers phase.ended m walk,
      none-short g level cap c split p before phases (phase.layer Supersink) phase.by.last,
    )

-- what rested after the d-th of p phases, and what was sent since
record IsPassed (n : ℕ) (c r : Rests) (d p : ℕ) : Type 0 where
  pub rests : Rests
  pub phases : ArePhases n c d rests
  pub layer : SplitNode → ℕ
  pub by : AreByDistance rests layer
  pub since : out_of n r source + p ≤ out_of n rests source + d

since_last : (a b p d : ℕ) → a < b → d ≡ p → a + suc p ≤ b + d
since_last a b p d less same = omega arith

since_before : (a b e p d : ℕ) → a < b → b + p ≤ e + d → a + suc p ≤ e + d
since_before a b e p d less le = omega arith

passed : (n : ℕ) (c : Rests) (p : ℕ) (r : Rests) (d : ℕ) → d < p → ArePhases n c p r → IsPassed n c r d p
passed n c zero r d less same = absurd (omega arith)
passed n c (suc p) r d less (before, phases, phase) =
    elim (cases_eq d p) [
      | inl last ↦ record {
        rests = before;
        phases = subst (λ (k : ℕ). ArePhases n c k before) (sym last) phases;
        layer = phase.layer;
        by = phase.by;
        since = since_last (out_of n r source) (out_of n before source) p d phase.some last;
      }
      | inr other ↦
          let h = passed n c p before d (omega arith) phases in
          record {
            rests = h.rests;
            phases = h.phases;
            layer = h.layer;
            by = h.by;
            since = since_before (out_of n r source) (out_of n before source) (out_of n h.rests source) p d phase.some h.since;
          }
    ]

difference : (a e : ℕ) → a ≤ e → a + (e - a) ≡ e
difference a e le = omega arith

at_most : (a k e : ℕ) → a + k ≤ e → a ≤ e
at_most a k e le = omega arith

fits : (at_first then now sent before p d q : ℕ) → now + sent ≡ at_first → then + before ≡ at_first → now + p ≤ then + d → sent ≤ before + q → p + 1 ≤ d + q + 1
fits at_first then now sent before p d q e f le most = omega arith

late : (p d q : ℕ) → p ≤ d → p + 1 ≤ d + q + 1
late p d q le = omega arith

all_sent : (a p sent e : ℕ) → a + p ≤ e → a + sent ≡ e → p + 1 ≤ sent + 1
all_sent a p sent e le same = omega arith

lesser : (k a b : ℕ) → k ≤ a → k ≤ b → k ≤ min a b
lesser k a b e f = omega arith

pub phases_are_few : PhasesAreFew
phases_are_few g level table cap c r p sent is_table capacities no_self split phases sends =
    let n : ℕ = g.accounts in
    let s : ℕ = capacity_sum n cap in
    let few : (d : ℕ) → 0 < d → d < p → p + 1 ≤ d + s / d + 1 = λ d some less.
    let h = passed n c p r d less phases in
    let sent_then = difference (out_of n h.rests source) (out_of n c source) (at_most (out_of n h.rests source) d (out_of n c source) (each-sends n c d h.rests h.phases)) in
    fits (out_of n c source) (out_of n h.rests source) (out_of n r source) sent (out_of n c source - out_of n h.rests source) p d (s / d) sends sent_then h.since
    (few_are_missing g level table cap c h.rests r h.layer d (out_of n c source - out_of n h.rests source) sent is_table capacities no_self split
    (all_moved n c d h.rests h.phases) (all_moved n c p r phases) h.by some (none-short g level cap c split d h.rests h.phases (h.layer Supersink) h.by.last) sent_then sends) in
    lesser (p + 1) (phase_bound s) (sent + 1)
    (least_of-greatest 1999 (p + 1) (λ d. d + s / d + 1)
    (λ d some le.
    elim (cases_lt d p) [
      | inl less ↦ few d some less
      | inr more ↦ late p d (s / d) more
    ]))
    (all_sent (out_of n r source) p sent (out_of n c source) (each-sends n c p r phases) sends)

one_on : (p m : ℕ) → p + 1 ≤ m → p + 2 ≤ m + 1
one_on p m le = omega arith

no_more : (k : ℕ) → k ≤ k
no_more k = omega arith

sum_le : (steps a b k : ℕ) → steps ≤ a + k → a ≤ b → steps ≤ b + k
sum_le steps a b k e f = omega arith

pub steps_are_few : StepsAreFew
steps_are_few g level table cap c r p sent arcs steps is_table capacities no_self split phases sends most =
    let m : ℕ = most_phases (capacity_sum g.accounts cap) sent in
    sum_le steps (3 * arcs * (p + 2)) (3 * arcs * (m + 1)) (sent * (2 * g.accounts + 4)) most
    (mul-le (3 * arcs) (p + 2) (3 * arcs) (m + 1) (no_more (3 * arcs)) (one_on p m (phases_are_few g level table cap c r p sent is_table capacities no_self split phases sends)))
