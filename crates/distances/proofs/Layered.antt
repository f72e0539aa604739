-- The layers of a search: the accounts of one distance after those of the distance before.
use Rattle.std.proofs.Common.{ℕ, zero, suc, ◌≡◌, ◌<◌, ◌≤◌, ◌+◌, ◌⊎◌, List, [], length, inl, inr, refl, sym, subst, ap, ◌∙◌, arith}
use Rattle.std.specs.Prelude.{slice_index, min}
use Rattle.std.proofs.lemmas.Bool.{cases_lt, le-ltb}
use Rattle.trust_types.specs.declared.levels.Level.{Level}
use Rattle.trust_types.specs.declared.accounts.Node.{Node}
use Rattle.trust_types.specs.declared.accounts.Node.TheVariants.{Root, Account}
use Rattle.trust_types.specs.Tables.{Table}
use Rattle.trust_types.specs.Graph.{Certificates, HasEdge, Walk, IsDistance}
use Rattle.trust_types.specs.Capacity.{entry, AreCapacities, cap_by}
use Rattle.trust_types.proofs.Walks.{walk_longer, last_edge, walk_to_root, walk_within, distance_of_root, distance_unique}
use Rattle.distances.specs.inner.Reached.{IsNew, Reaches, IsSeed, IsCertifiedFrom}
use Rattle.distances.proofs.Reaching.{seen_or_not}

-- a table has one entry from its end on, so distances may stop there or later
entry-min : (table : Table) (n most : ℕ) → length table.entries ≤ most → entry table (min n most) ≡ entry table n
entry-min table n most long = elim (cases_lt n most) [
  | inl within ↦ let same : min n most ≡ n = omega arith in ap (entry table) same
  | inr past ↦
      let same : min n most ≡ most = omega arith in
      ap (entry table) same ∙ rw (le-ltb most (length table.entries) long, le-ltb n (length table.entries) (omega arith))
]

-- The accounts within a distance are reached, each with its capacity; those at that very distance stand in the queue from a place on.
pub record IsLayered (g : Certificates) (level : Level) (table : Table) (distance start : ℕ) (out queue : List ℕ) : Type 0 where
  pub near : (m b : ℕ) → m ≤ distance → Walk g level m (Account b) → 0 < slice_index out b
  pub exact : (b : ℕ) → 0 < slice_index out b → (n : ℕ) × (n ≤ distance) × IsDistance g level (Account b) n × (slice_index out b ≡ entry table n)
  pub layer : (i : ℕ) → start ≤ i → i < length queue → IsDistance g level (Account (slice_index queue i)) distance
  pub last : (b : ℕ) → IsDistance g level (Account b) distance → (i : ℕ) × (start ≤ i) × (i < length queue) × (slice_index queue i ≡ b)

-- An edge leads to the account from a node at the distance.
abbrev pub IsNext : Certificates → Level → ℕ → ℕ → Type 0
IsNext g level distance b = (x : Node) × IsDistance g level x distance × HasEdge g level x b

-- only the seeds are one edge from the root
seed_from_root : (g : Certificates) (level : Level) (b : ℕ) → IsNext g level 0 b → IsSeed g b
seed_from_root g level b (Root, at, edge) = edge
seed_from_root g level b (Account a, at, edge) = absurd (cc (at.walk))

module _ {g : Certificates} {level : Level} {table : Table} {d start : ℕ} {out queue : List ℕ} (layered : IsLayered g level table d start out queue) where
  -- only accounts of the graph stand in a layer
  pub layer_within : (i : ℕ) → start ≤ i → i < length queue → slice_index queue i < g.accounts
  layer_within i from before = walk_within g level d (slice_index queue i) (layered.layer i from before).walk

  -- the end of a walk as long as the distance is at that distance, or nearer
  at_distance_or_nearer : (x : Node) → Walk g level d x → IsDistance g level x d ⊎ ((m : ℕ) × (m < d) × Walk g level m x)
  at_distance_or_nearer Root walk = inl (subst (λ (n : ℕ). IsDistance g level Root n) (sym (walk_to_root g level d walk)) (distance_of_root g level))
  at_distance_or_nearer (Account a) walk =
      let found = layered.exact a (layered.near d a (omega arith) walk) in
      elim (cases_lt found.0 d) [
        | inl nearer ↦ inr (found.0, nearer, found.2.walk)
        | inr not_nearer ↦ let same : found.0 ≡ d = omega (arith, found.1) in inl (subst (λ (n : ℕ). IsDistance g level (Account a) n) same found.2)
      ]

  -- a step that reaches what the edges from one layer lead to makes the next layer
  next_layer : {P : ℕ → Type 0} {c : ℕ} {out' queue' : List ℕ} → Reaches P c out queue out' queue' →
      ((b : ℕ) → P b → IsNext g level d b) → ((b : ℕ) → IsNext g level d b → P b) → c ≡ entry table (suc d) →
      IsLayered g level table (suc d) (length queue) out' queue'
  next_layer {out' = out'} {queue' = queue'} step forth back capacity =
      let within : (m b : ℕ) → m ≤ d → Walk g level m (Account b) → 0 < slice_index out' b = λ m b low walk.
      let seen = layered.near m b low walk in omega (arith, step.kept b seen, seen) in
      let after : (x : Node) (b : ℕ) → Walk g level d x → HasEdge g level x b → 0 < slice_index out' b = λ x b walk edge.
      elim (at_distance_or_nearer x walk) [
        | inl here ↦ step.all b (back b (x, here, edge))
        | inr nearer ↦ within (suc nearer.0) b (omega (arith, nearer.1)) (walk_longer g level nearer.0 x b nearer.2 edge)
      ] in
      let near : (m b : ℕ) → m ≤ suc d → Walk g level m (Account b) → 0 < slice_index out' b = λ m b low walk.
      elim (cases_lt m (suc d)) [
        | inl lower ↦ within m b (omega arith) walk
        | inr not_lower ↦
            let long : m ≡ suc d = omega arith in
            let last = subst (λ (n : ℕ). Walk g level n (Account b)) long walk in
            after last.0 b last.1 last.2
      ] in
      let new_at : (b : ℕ) → IsNew out out' b → IsDistance g level (Account b) (suc d) = λ b new.
      let next = forth b (step.only b new) in
      record {
        walk = walk_longer g level d next.0 b next.1.walk next.2;
        least = λ m walk. elim (cases_lt m (suc d)) [
          | inl low ↦ absurd (omega (arith, layered.near m b (omega arith) walk, new.unseen))
          | inr high ↦ high
        ];
      } in
      record {
        near = near;
        exact = λ b seen. elim (seen_or_not out b) [
          | inl before ↦
              let found = layered.exact b before in
              (found.0, omega (arith, found.1), found.2, step.kept b before ∙ found.3)
          | inr unseen ↦
              let new : IsNew out out' b = record { unseen = unseen; seen = seen } in
              (suc d, omega arith, new_at b new, step.given b new ∙ capacity)
        ];
        layer = λ i from before. new_at (slice_index queue' i) (step.queued i from before);
        last = λ b at. elim (seen_or_not out b) [
          | inl before ↦
              let found = layered.exact b before in
              absurd (omega (arith, found.1, distance_unique g level (Account b) found.0 (suc d) found.2 at))
          | inr unseen ↦ step.waits b (record { unseen = unseen; seen = near (suc d) b (omega arith) at.walk })
        ];
      }

  -- an edge from a node at the distance of a layer is from an account in its part of the queue
  certified_from : 0 < d → (b : ℕ) → IsNext g level d b → IsCertifiedFrom g level queue start b
  certified_from some b (Root, at, edge) = absurd (omega (arith, walk_to_root g level d at.walk))
  certified_from some b (Account a, at, edge) =
      let place = layered.last a at in
      (place.0, place.1, place.2, subst (λ (k : ℕ). HasEdge g level (Account k) b) (sym place.3) edge)

  -- what the accounts of a layer certify makes the next one
  pub layer_after : {most end counted c : ℕ} {out' queue' : List ℕ} → length table.entries ≤ most → 0 < d → Reaches (IsCertifiedFrom g level queue start) c out queue out' queue' →
      end ≡ length queue → counted ≡ min (d + 1) most → c ≡ entry table counted → IsLayered g level table (d + 1) end out' queue'
  layer_after {most = most} long some step here count capacity =
      let next : d + 1 ≡ suc d = omega arith in
      rw (next, here)
      (next_layer step (λ b given. (Account (slice_index queue given.0), layered.layer given.0 given.1 given.2, given.3)) (certified_from some)
      (capacity ∙ ap (entry table) count ∙ entry-min table (d + 1) most long ∙ ap (entry table) next))

  -- once a layer is empty, all that a walk leads to is reached
  closed : 0 < d → length queue ≤ start → (m b : ℕ) → Walk g level m (Account b) → 0 < slice_index out b
  closed some empty zero b walk = absurd (cc)
  closed some empty (suc m) b (Root, walk, edge) = layered.near (suc m) b (omega (arith, walk_to_root g level m walk)) (Root, walk, edge)
  closed some empty (suc m) b (Account a, walk, edge) =
      let found = layered.exact a (closed some empty m a walk) in
      elim (cases_lt found.0 d) [
        | inl nearer ↦ layered.near (suc found.0) b (omega arith) (walk_longer g level found.0 (Account a) b found.2.walk edge)
        | inr not_nearer ↦
            let same : found.0 ≡ d = omega (arith, found.1) in
            let at = layered.last a (subst (λ (n : ℕ). IsDistance g level (Account a) n) same found.2) in
            absurd (omega (arith, at.1, at.2))
      ]

  -- and then each place has the capacity of its account
  pub capacities_complete : 0 < d → length queue ≤ start → AreCapacities g level table (cap_by (entry table 0) out)
  capacities_complete some empty Root = inl (0, distance_of_root g level, refl)
  capacities_complete some empty (Account a) = elim (seen_or_not out a) [
    | inl seen ↦ let found = layered.exact a seen in inl (found.0, found.2, found.3)
    | inr unseen ↦ inr (λ n walk. absurd (omega (arith, closed some empty n a walk, unseen)), unseen)
  ]

-- the seeds make the first layer
pub first_layer : {g : Certificates} (level : Level) {table : Table} {c : ℕ} {out out' queue' : List ℕ} → ((b : ℕ) → slice_index out b ≡ 0) →
    Reaches (IsSeed g) c out [] out' queue' → c ≡ entry table 1 → IsLayered g level table 1 0 out' queue'
first_layer {g = g} level {table = table} {out = out} none step capacity =
    let root : IsLayered g level table 0 0 out [] = record {
      near = λ m b within walk. let last = last_edge g level m b walk in absurd (omega (arith, last.1));
      exact = λ b seen. absurd (omega (arith, none b));
      layer = λ i from within. absurd (omega arith);
      last = λ b at. let last = last_edge g level 0 b at.walk in absurd (omega (arith, last.1));
    } in
    next_layer root step (λ b seed. (Root, distance_of_root g level, seed)) (seed_from_root g level) capacity
