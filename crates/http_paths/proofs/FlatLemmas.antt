use Rattle.std.proofs.Common.{◌≡◌, ◌≢◌, ℕ, zero, suc, ◌-◌, ◌<◌, List, [], ◌∷◌, length, Option, Some, None, Bool, true, false, cond, refl, ◌∙◌, arith, ◌==◌, get_or, inl, inr}
use Rattle.std.proofs.lemmas.Bool.Decides.{nat_tests}
use Rattle.matchit.specs.Rows.{RowsOf}
use Rattle.matchit.specs.Seek.{own, step, or_else, seek, first, param_step, has_slash, longest_from, segment}
use Rattle.matchit.specs.Level.{IsText}
use Rattle.http_paths.proofs.Flat.{is_flat, all_flat, all_done, walk, takes, Has, IsTaken}

module _ {K : Type 0} where
  flat-head : (t : List ℕ) (k : K) (rs : RowsOf K) → all_flat ((t, k) ∷ rs) ≡ true → is_flat t ≡ true
  flat-head t k rs h = grind arith

  flat-tail : (t : List ℕ) (k : K) (rs : RowsOf K) → all_flat ((t, k) ∷ rs) ≡ true → all_flat rs ≡ true
  flat-tail t k rs h = grind arith

  pub or_else-none : (a : Option K) → or_else a None ≡ a
  or_else-none None = refl
  or_else-none (Some k) = refl

  -- no row goes on with a catch-all
  step-catch : (rs : RowsOf K) → all_flat rs ≡ true → step 257 rs ≡ []
  step-catch [] h = refl
  step-catch (([], k) ∷ rs) h = step-catch rs (flat-tail [] k rs h)
  step-catch ((x ∷ t, k) ∷ rs) h =
      let f = flat-head (x ∷ t) k rs h in
      let e : (x == 257) ≡ false = grind (arith, nat_tests) in
      rw e (step-catch rs (flat-tail (x ∷ t) k rs h))

  -- after a parameter nothing is left
  step-param : (rs : RowsOf K) → all_flat rs ≡ true → all_done (step 256 rs) ≡ true
  step-param [] h = refl
  step-param (([], k) ∷ rs) h = step-param rs (flat-tail [] k rs h)
  step-param ((x ∷ [], k) ∷ rs) h =
      elim (x == 256) as (λ v. all_done (cond v (([], k) ∷ step 256 rs) (step 256 rs)) ≡ true) [
        | true ↦ step-param rs (flat-tail (x ∷ []) k rs h)
        | false ↦ step-param rs (flat-tail (x ∷ []) k rs h)
      ]
  step-param ((x ∷ (y ∷ t), k) ∷ rs) h =
      let f = flat-head (x ∷ (y ∷ t)) k rs h in
      let e : (x == 256) ≡ false = grind (arith, nat_tests) in
      rw e (step-param rs (flat-tail (x ∷ (y ∷ t)) k rs h))

  -- after a byte the rows are flat
  step-flat : (b : ℕ) (rs : RowsOf K) → b < 256 → all_flat rs ≡ true → all_flat (step b rs) ≡ true
  step-flat b [] l h = refl
  step-flat b (([], k) ∷ rs) l h = step-flat b rs l (flat-tail [] k rs h)
  step-flat b ((x ∷ t, k) ∷ rs) l h =
      let f = flat-head (x ∷ t) k rs h in
      let ih = step-flat b rs l (flat-tail (x ∷ t) k rs h) in
      by (x == b) refl f ih
    where
      by : (v : Bool) → (x == b) ≡ v → is_flat (x ∷ t) ≡ true → all_flat (step b rs) ≡ true → all_flat (cond v ((t, k) ∷ step b rs) (step b rs)) ≡ true
      by false e f ih = ih
      by true e f ih =
          let q : x ≢ 256 = λ z. grind (arith, nat_tests) in
          let n : (x == 256) ≡ false = grind (arith, nat_tests) in
          let g : is_flat t ≡ true = grind (arith, nat_tests) in
          rw g ih

  longest-done : (seg : List ℕ) (rs : RowsOf K) → all_done rs ≡ true → longest_from seg [] rs ≡ []
  longest-done seg [] h = refl
  longest-done seg (([], k) ∷ rs) h = longest-done seg rs h
  longest-done seg ((x ∷ t, k) ∷ rs) h = cc

  -- no row, no route
  pub walk-nil : (p : List ℕ) → walk {K = K} [] p ≡ None
  walk-nil [] = refl
  walk-nil (b ∷ p) =
      rw (walk-nil p) (elim (has_slash (b ∷ p)) as (λ v. cond {A = Option K} v None None ≡ None) [ true ↦ refl | false ↦ refl ])

  step-nil : (b : ℕ) → step {K = K} b [] ≡ []
  step-nil b = refl

  param-nil : (p : List ℕ) → (param_step {K = K} [] p).1 ≡ []
  unfolding param_step
  param-nil p =
      elim (has_slash p) as (λ v. (cond {A = ℕ × RowsOf K} v (0, []) (length p, [])).1 ≡ []) [
        | true ↦ refl
        | false ↦ refl
      ]

  seek-nil : (k : ℕ) (p : List ℕ) → seek {K = K} k [] p ≡ None
  unfolding seek
  seek-nil k [] = refl
  seek-nil (suc k) (b ∷ p) = seek-nil k p
  seek-nil zero (b ∷ p) = simp (seek-nil 0 p, param-nil (b ∷ p), seek-nil (((param_step {K = K} [] (b ∷ p)).0) - 1) p)

  seek-all : (rs : RowsOf K) (p : List ℕ) → seek (length p) rs p ≡ own rs
  unfolding seek
  seek-all rs [] = refl
  seek-all rs (b ∷ p) = seek-all rs p

  -- a parameter takes the whole of a path without a slash
  after-param : (rs : RowsOf K) (b : ℕ) (p : List ℕ) → all_done rs ≡ true
      → seek ((param_step rs (b ∷ p)).0 - 1) (param_step rs (b ∷ p)).1 p ≡ cond (has_slash (b ∷ p)) None (own rs)
  unfolding param_step
  after-param rs b p h =
      let none = longest-done (segment (b ∷ p)) rs h in
      rw none (by (has_slash (b ∷ p)))
    where
      by : (v : Bool) → seek ((cond {A = ℕ × RowsOf K} v (0, []) (length (b ∷ p), rs)).0 - 1) (cond {A = ℕ × RowsOf K} v (0, []) (length (b ∷ p), rs)).1 p ≡ cond v None (own rs)
      by true = seek-nil 0 p
      by false =
          let e : suc (length p) - 1 ≡ length p = omega arith in
          rw e (seek-all rs p)

  pub seek-flat : (rs : RowsOf K) (path : List ℕ) → all_flat rs ≡ true → IsText path → first rs path ≡ walk rs path
  unfolding seek
  seek-flat rs [] h t = refl
  seek-flat rs (b ∷ path) h t =
      rw (seek-flat (step b rs) path (step-flat b rs t.0 h) t.1, after-param (step 256 rs) b path (step-param rs h), step-catch rs h, or_else-none) refl

pub IsText-bytes : (bs : List ℕ) → ((i : ℕ) → get_or bs i 0 < 256) → IsText bs
IsText-bytes [] h = tt
IsText-bytes (b ∷ bs) h = (h 0, IsText-bytes bs (λ i. h (suc i)))

module _ {K : Type 0} where
  -- one row that goes on with a parameter
  pub walk-param : (k : K) (b : ℕ) (p : List ℕ) → b < 256 → walk ((256 ∷ [], k) ∷ []) (b ∷ p) ≡ cond (has_slash (b ∷ p)) None (Some k)
  walk-param k b p l =
      let e : (256 == b) ≡ false = grind (arith, nat_tests) in
      rw (e, walk-nil {K = K} p) refl

takes-literal : (b : ℕ) (t p : List ℕ) → b < 256 → takes t p ≡ true → takes (b ∷ t) (b ∷ p) ≡ true
takes-literal b t p l h =
    let n : (b == 256) ≡ false = grind (arith, nat_tests) in
    let same : (b == b) ≡ true = grind (arith, nat_tests) in
    rw (n, same) h

module _ {K : Type 0} where
  some-same : (j k : K) → Some j ≡ Some k → k ≡ j
  some-same j k e = cc

  own-has : (rs : RowsOf K) (k : K) → own rs ≡ Some k → Has [] k rs
  own-has [] k e = cc
  own-has (([], j) ∷ rs) k e = inl (refl, some-same j k e)
  own-has ((x ∷ t, j) ∷ rs) k e = inr (own-has rs k e)

  step-has : (b : ℕ) (t : List ℕ) (k : K) (rs : RowsOf K) → Has t k (step b rs) → Has (b ∷ t) k rs
  step-has b t k [] h = h
  step-has b t k (([], j) ∷ rs) h = inr (step-has b t k rs h)
  step-has b t k ((x ∷ s, j) ∷ rs) h = by (λ g. step-has b t k rs g) (x == b) refl h
    where
      by : (Has t k (step b rs) → Has (b ∷ t) k rs) → (v : Bool) → (x == b) ≡ v → Has t k (cond v ((s, j) ∷ step b rs) (step b rs)) → Has (b ∷ t) k ((x ∷ s, j) ∷ rs)
      by rest false e g = inr (rest g)
      by rest true e g =
          let same : b ≡ x = grind (arith, nat_tests) in
          elim g [
            | inl q ↦ inl (λ i. same i ∷ q.0 i, q.1)
            | inr q ↦ inr (rest q)
          ]

  pub walk-sound : (rs : RowsOf K) (path : List ℕ) (k : K) → IsText path → walk rs path ≡ Some k → IsTaken rs path k
  walk-sound rs [] k x e = ([], own-has rs k e, refl)
  walk-sound rs (b ∷ path) k x e = by (λ w. walk-sound (step b rs) path k x.1 w) (walk (step b rs) path) refl e
    where
      last : (v : Bool) → has_slash (b ∷ path) ≡ v → cond v None (own (step 256 rs)) ≡ Some k → IsTaken rs (b ∷ path) k
      last true s q = absurd (none q)
        where
          none : None ≡ Some k → ⊥
          none z = cc
      last false s q = (256 ∷ [], step-has 256 [] k rs (own-has (step 256 rs) k q), rw s refl)

      by : (walk (step b rs) path ≡ Some k → IsTaken (step b rs) path k) → (w : Option K) → walk (step b rs) path ≡ w
          → or_else w (cond (has_slash (b ∷ path)) None (own (step 256 rs))) ≡ Some k → IsTaken rs (b ∷ path) k
      by deep (Some j) w q =
          let r = deep (w ∙ q) in
          (b ∷ r.0, step-has b r.0 k rs r.1, takes-literal b r.0 path x.0 r.2)
      by deep None w q = last (has_slash (b ∷ path)) refl q
