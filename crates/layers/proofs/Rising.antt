-- Once no shortest way is left, every way is longer.
use Rattle.std.proofs.Common.{ℕ, zero, suc, Bool, true, ◌∙◌, ◌+◌, ◌≡◌, ◌≢◌, ◌≤◌, inl, inr, arith, ap, sym, subst}
use Rattle.std.proofs.lemmas.Bool.{cases_eq}
use Rattle.split_flow.specs.Split.{SplitNode, Supersink, Rests}
use Rattle.split_flow.specs.Moved.{IsOneMoved}
use Rattle.split_flow.proofs.Nodes.{split_cases}
use Rattle.split_flow.proofs.Counted.{not_both}
use Rattle.layers.specs.Layers.{WalkTo, AreLayers, AreSpent}
use Rattle.layers.specs.Laws.{WaysAreLonger, DistanceRises}

-- no walk leads past the layer of its number
pub walk-within : (r : Rests) (layer : SplitNode → ℕ) → AreLayers r layer → (m : ℕ) (v : SplitNode) → WalkTo r m v → layer v ≤ m
walk-within r layer are zero v at = omega (arith, ap layer at, are.starts)
walk-within r layer are (suc m) v (u, walk, some) = omega (arith, walk-within r layer are m u walk, are.next u v some)

-- one that gets there is at a node from which no shortest way goes on
walk-spent : (r : Rests) (layer : SplitNode → ℕ) (spent : SplitNode → Bool) → AreLayers r layer → AreSpent r layer spent →
    (m : ℕ) (v : SplitNode) → WalkTo r m v → layer v ≡ m → spent v ≡ true
walk-spent r layer spent are is zero v at same = ap spent at ∙ is.starts
walk-spent r layer spent are is (suc m) v (u, walk, some) same =
    let before : layer u ≡ m = omega (arith, walk-within r layer are m u walk, are.next u v some) in
    is.closed u v (walk-spent r layer spent are is m u walk before) some (omega arith)

pub ways_are_longer : WaysAreLonger
ways_are_longer r layer spent are is m walk =
    let within : layer Supersink ≤ m = walk-within r layer are m Supersink walk in
    elim (cases_eq (layer Supersink) m) [
      | inl same ↦ not_both (spent Supersink) (walk-spent r layer spent are is m Supersink walk same) is.stops
      | inr other ↦ omega arith
    ]

pub distance_rises : DistanceRises
distance_rises before after layer spent by are is k m distance longer =
    omega (arith, distance.least (layer Supersink) by.last, ways_are_longer after layer spent are is m longer.walk)

-- a unit moved to the next layer may be moved back to the one before, and no other rest grows
moved-le : (before after : Rests) (p v x y : SplitNode) → IsOneMoved before after p v → (x ≡ v → y ≢ p) → after x y ≤ before x y
moved-le before after p v x y step apart =
    elim (split_cases x p) [
      | inl e ↦
          elim (split_cases y v) [
            | inl f ↦
                let P : SplitNode → SplitNode → Type 0 = λ i j. after i j ≤ before i j in
                let here : P p v = omega (arith, step.down) in
                subst (λ (j : SplitNode). P x j) (sym f) (subst (λ (i : SplitNode). P i v) (sym e) here)
            | inr f ↦ omega (arith, step.same x y (λ _. f) apart)
          ]
      | inr e ↦ omega (arith, step.same x y (λ same. absurd (e same)) apart)
    ]

pub layers-moved : (before after : Rests) (layer : SplitNode → ℕ) (p v : SplitNode) → AreLayers before layer → IsOneMoved before after p v → layer v ≡ layer p + 1 → AreLayers after layer
layers-moved before after layer p v are step next = record {
  starts = are.starts;
  next = λ x y some.
      elim (split_cases x v) [
        | inl e ↦
            elim (split_cases y p) [
              | inl f ↦ omega (arith, ap layer e, ap layer f, next)
              | inr f ↦ are.next x y (omega (arith, moved-le before after p v x y step (λ _. f)))
            ]
        | inr e ↦ are.next x y (omega (arith, moved-le before after p v x y step (λ same. absurd (e same))))
      ];
}

-- what rests from a layer to the next only falls
pub ahead-falls : (before after : Rests) (layer : SplitNode → ℕ) (p v x y : SplitNode) → IsOneMoved before after p v → layer v ≡ layer p + 1 → layer y ≡ layer x + 1 → after x y ≤ before x y
ahead-falls before after layer p v x y step next ahead =
    moved-le before after p v x y step (λ e f. absurd (omega (arith, ap layer e, ap layer f, next, ahead)))
