-- A unit is moved along a way, from its end at the supersink back to its start.
use Rattle.std.proofs.Common.{ℕ, ◌+◌, ◌≡◌, ◌≢◌, inl, inr, refl, arith, sym, subst, ◌∙◌}
use Rattle.trust_types.specs.declared.accounts.Node.TheVariants.{Root, Account}
use Rattle.split_flow.specs.Split.{SplitNode, InHalf, OutHalf, Supersink, source, Rests, IsSplitNode, IsBetween}
use Rattle.split_flow.specs.Moved.{PassesServed, IsOneMoved, IsMoved, IsMidway, out_of}
use Rattle.split_flow.proofs.Nodes.{split_cases}
use Rattle.split_flow.proofs.NodeSums.{sum_nodes-eq, sum_nodes-point}

-- what one move leaves of what can be moved out of a node
out_of_start : (n : ℕ) (before after : Rests) (p v : SplitNode) → IsOneMoved before after p v → p ≢ v → IsSplitNode n v →
    out_of n after p + 1 ≡ out_of n before p
out_of_start n before after p v step apart below =
    sym (sum_nodes-point n (before p) (after p) v 1 below
    (λ y lt other. sym (step.same p y (λ _. other) (λ same. absurd (apart same))))
    (sym step.down))

out_of_end : (n : ℕ) (before after : Rests) (p v : SplitNode) → IsOneMoved before after p v → p ≢ v → IsSplitNode n p →
    out_of n after v ≡ out_of n before v + 1
out_of_end n before after p v step apart below =
    sum_nodes-point n (after v) (before v) p 1 below
    (λ y lt other. step.same v y (λ same. absurd (apart (sym same))) (λ _. other))
    step.up

out_of_other : (n : ℕ) (before after : Rests) (p v w : SplitNode) → IsOneMoved before after p v → w ≢ p → w ≢ v →
    out_of n after w ≡ out_of n before w
out_of_other n before after p v w step not_start not_end =
    sum_nodes-eq n (after w) (before w)
    (λ y lt. step.same w y (λ same. absurd (not_start same)) (λ same. absurd (not_end same)))

pub both_ways : (before after : Rests) (p v x y : SplitNode) → IsOneMoved before after p v → p ≢ v →
    after x y + after y x ≡ before x y + before y x
both_ways before after p v x y step apart =
    elim (split_cases x p) [
      | inl e ↦
          elim (split_cases y v) [
            | inl f ↦
                let P : SplitNode → SplitNode → Type 0 = λ i j. after i j + after j i ≡ before i j + before j i in
                let here : P p v = omega (arith, step.down, step.up) in
                subst (λ (j : SplitNode). P x j) (sym f) (subst (λ (i : SplitNode). P i v) (sym e) here)
            | inr f ↦
                let there : after x y ≡ before x y = step.same x y (λ _. f) (λ same. absurd (apart (sym e ∙ same))) in
                let back : after y x ≡ before y x = step.same y x (λ same other. apart (sym e ∙ other)) (λ same. absurd (f same)) in
                omega arith
          ]
      | inr e ↦
          elim (split_cases x v) [
            | inl f ↦
                elim (split_cases y p) [
                  | inl h ↦
                      let P : SplitNode → SplitNode → Type 0 = λ i j. after i j + after j i ≡ before i j + before j i in
                      let here : P v p = omega (arith, step.down, step.up) in
                      subst (λ (j : SplitNode). P x j) (sym h) (subst (λ (i : SplitNode). P i p) (sym f) here)
                  | inr h ↦
                      let there : after x y ≡ before x y = step.same x y (λ same. absurd (e same)) (λ _. h) in
                      let back : after y x ≡ before y x = step.same y x (λ same. absurd (h same)) (λ same other. e other) in
                      omega arith
                ]
            | inr f ↦
                let there : after x y ≡ before x y = step.same x y (λ same. absurd (e same)) (λ same. absurd (f same)) in
                let back : after y x ≡ before y x = step.same y x (λ _. f) (λ _. e) in
                omega arith
          ]
    ]

pub way_begins : (n : ℕ) (before : Rests) → IsMidway n before before Supersink
way_begins n before = record { both = λ x y. refl; kept = λ u inner other. refl; missing = λ other. absurd (other refl) }

pub way_goes_on : (n : ℕ) (before now after : Rests) (p v : SplitNode) → IsMidway n before now v → IsOneMoved now after p v →
    p ≢ v → p ≢ Supersink → IsSplitNode n p → IsSplitNode n v → IsMidway n before after p
way_goes_on n before now after p v midway step apart no_sink start end = record {
  both = λ x y. both_ways now after p v x y step apart ∙ midway.both x y;
  kept = λ u inner other.
      elim (split_cases u v) [
        | inl same ↦
            let here : out_of n after v ≡ out_of n before v = out_of_end n now after p v step apart start ∙ midway.missing (λ is. inner (same ∙ is)) in
            subst (λ (k : SplitNode). out_of n after k ≡ out_of n before k) (sym same) here
        | inr not_end ↦ out_of_other n now after p v u step other not_end ∙ midway.kept u inner not_end
      ];
  missing = λ inner. out_of_start n now after p v step apart end ∙ midway.kept p inner apart;
}

-- a unit that came back to the source was moved all the way
pub way_ends : (n : ℕ) (before now : Rests) → IsMidway n before now source → (u : SplitNode) → IsBetween n u → out_of n now u ≡ out_of n before u
way_ends n before now midway (InHalf Root) is = absurd is
way_ends n before now midway (InHalf (Account a)) is = midway.kept (InHalf (Account a)) (λ e. cc) (λ e. cc)
way_ends n before now midway (OutHalf x) is = midway.kept (OutHalf x) (λ e. cc) (λ e. cc)
way_ends n before now midway Supersink is = absurd is

-- units that were moved before, and one more
pub one_more_moved : (n : ℕ) (c before now : Rests) → IsMoved n c before → IsMidway n before now source → IsMoved n c now
one_more_moved n c before now moved midway = record {
  both = λ u v. midway.both u v ∙ moved.both u v;
  kept = λ u is. way_ends n before now midway u is ∙ moved.kept u is;
}

-- units pass through served accounts alone, where a way leaves none but served ones, or for the supersink
pub still_served : (now after : Rests) (p v : SplitNode) → PassesServed now → IsOneMoved now after p v →
    (v ≢ Supersink → now p Supersink ≡ 0) → p ≢ Supersink → PassesServed after
still_served now after p v served step leaves no_sink x some =
    let u : SplitNode = InHalf (Account x) in
    let w : SplitNode = OutHalf (Account x) in
    let to_sink_falls : now u Supersink ≡ 0 → after u Supersink ≡ 0 =
    λ zero.
    elim (split_cases u p) [
      | inl e ↦
          elim (split_cases v Supersink) [
            | inl f ↦
                let down : after u Supersink + 1 ≡ now u Supersink =
                subst (λ (i : SplitNode). after i Supersink + 1 ≡ now i Supersink) (sym e) (subst (λ (j : SplitNode). after p j + 1 ≡ now p j) f step.down) in
                absurd (omega arith)
            | inr f ↦ step.same u Supersink (λ _ same. f (sym same)) (λ _ same. no_sink (sym same)) ∙ zero
          ]
      | inr e ↦ step.same u Supersink (λ same. absurd (e same)) (λ _ same. no_sink (sym same)) ∙ zero
    ] in
    let passed : after w u ≡ now w u → after u Supersink ≡ 0 = λ same. to_sink_falls (served x (omega (arith, same))) in
    elim (split_cases p u) [
      | inl e ↦
          elim (split_cases v w) [
            | inl f ↦ to_sink_falls (subst (λ (i : SplitNode). now i Supersink ≡ 0) e (leaves (λ same. cc)))
            | inr f ↦ passed (step.same w u (λ same. absurd (cc)) (λ same. absurd (f (sym same))))
          ]
      | inr e ↦
          elim (split_cases p w) [
            | inl f ↦
                elim (split_cases v u) [
                  | inl h ↦
                      let down : after w u + 1 ≡ now w u =
                      subst (λ (i : SplitNode). after i u + 1 ≡ now i u) f (subst (λ (j : SplitNode). after p j + 1 ≡ now p j) h step.down) in
                      to_sink_falls (served x (omega arith))
                  | inr h ↦ passed (step.same w u (λ _ same. h (sym same)) (λ _ same. e (sym same)))
                ]
            | inr f ↦ passed (step.same w u (λ same. absurd (f (sym same))) (λ _ same. e (sym same)))
          ]
    ]
