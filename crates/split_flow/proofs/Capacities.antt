-- Capacities by distance pass along the edges, and are few.
use Rattle.std.proofs.Common.{ℕ, suc, ◌-◌, ◌≡◌, ◌≤◌, ◌<◌, inl, inr, refl, arith, List, length, get_or, ltb, cond}
use Rattle.std.proofs.lemmas.Bool.Decides.{nat_tests}
use Rattle.std.proofs.lemmas.Bool.{cases_lt}
use Rattle.trust_types.specs.declared.levels.Level.{Level}
use Rattle.trust_types.specs.declared.accounts.Node.{Node}
use Rattle.trust_types.specs.declared.accounts.Node.TheVariants.{Root, Account}
use Rattle.trust_types.specs.Tables.{Table, IsTable, AreEntries}
use Rattle.trust_types.specs.Graph.{Certificates, HasEdge, Walk}
use Rattle.trust_types.specs.Capacity.{entry, entry_at, IsCapacity, AreCapacities}
use Rattle.split_flow.proofs.Feasible.{CapacityPasses}

pick_lt : (m n x y : ℕ) → m < n → cond (ltb m n) x y ≡ x
pick_lt m n x y lt = grind (arith, nat_tests)

pick_le : (m n x y : ℕ) → n ≤ m → cond (ltb m n) x y ≡ y
pick_le m n x y le = grind (arith, nat_tests)

-- an entry of a table is 1 to 2,000
entry_at_bounds : (entries : List ℕ) (n : ℕ) → AreEntries entries → (0 < entry_at entries n) × (entry_at entries n ≤ 2000)
entry_at_bounds entries n is =
    let last : ℕ = length entries - 1 in
    elim (cases_lt n (length entries)) [
      | inl lt ↦
          let at : entry_at entries n ≡ get_or entries n 0 = pick_lt n (length entries) (get_or entries n 0) (get_or entries last 0) lt in
          (omega (arith, at, is.least n lt), omega (arith, at, is.most n lt))
      | inr le ↦
          let at : entry_at entries n ≡ get_or entries last 0 = pick_le n (length entries) (get_or entries n 0) (get_or entries last 0) le in
          (omega (arith, at, is.least last (omega (arith, is.some))), omega (arith, at, is.most last (omega (arith, is.some))))
    ]

entry_bounds : (table : Table) (n : ℕ) → IsTable table → (0 < entry table n) × (entry table n ≤ 2000)
entry_bounds table n is = entry_at_bounds table.entries n is.entries

reached_some : (g : Certificates) (level : Level) (table : Table) (x : Node) (c n : ℕ) → IsTable table → IsCapacity g level table x c → Walk g level n x → 0 < c
reached_some g level table x c n is (inl (d, distance, at)) walk = omega (arith, at, (entry_bounds table d is).0)
reached_some g level table x c n is (inr (unreached, none)) walk = absurd (unreached n walk)

passes_from : (g : Certificates) (level : Level) (table : Table) (cap : Node → ℕ) (x : Node) (b c : ℕ) → IsTable table → AreCapacities g level table cap → HasEdge g level x b → IsCapacity g level table x c → 0 < c → 0 < cap (Account b)
passes_from g level table cap x b c is are edge (inl (n, distance, at)) some =
    reached_some g level table (Account b) (cap (Account b)) (suc n) is (are (Account b)) (x, distance.walk, edge)
passes_from g level table cap x b c is are edge (inr (unreached, none)) some = absurd (omega arith)

pub capacity_passes : (g : Certificates) (level : Level) (table : Table) (cap : Node → ℕ) → IsTable table → AreCapacities g level table cap → CapacityPasses g level cap
capacity_passes g level table cap is are = record {
  root = reached_some g level table Root (cap Root) 0 is (are Root) refl;
  along = λ x b edge some. passes_from g level table cap x b (cap x) is are edge (are x) some;
}

few_by : (g : Certificates) (level : Level) (table : Table) (x : Node) (c : ℕ) → IsTable table → IsCapacity g level table x c → c ≤ 2000
few_by g level table x c is (inl (n, distance, at)) = omega (arith, at, (entry_bounds table n is).1)
few_by g level table x c is (inr (unreached, none)) = omega (arith, none)

pub capacity_few : (g : Certificates) (level : Level) (table : Table) (cap : Node → ℕ) → IsTable table → AreCapacities g level table cap → (x : Node) → cap x ≤ 2000
capacity_few g level table cap is are x = few_by g level table x (cap x) is (are x)
