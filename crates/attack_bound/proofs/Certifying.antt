-- When an account certifies a member: by one certificate, and by none.
use Rattle.std.proofs.Common.{ℕ, Bool, true, false, ◌≡◌, ◌≤◌, ◌<◌, ◌&&◌, inl, inr, refl, arith, sym, if◌then◌else◌, nat_lt, nat_le}
use Rattle.std.proofs.lemmas.Bool.{le-leb, lt-ltb}
use Rattle.std.proofs.lemmas.Bool.Decides.{leb_tells}
use Rattle.trust_types.specs.declared.levels.Level.{Level}
use Rattle.trust_types.specs.declared.accounts.Node.TheVariants.{Account}
use Rattle.trust_types.specs.Levels.{rank}
use Rattle.trust_types.specs.Sum.{sum_below}
use Rattle.trust_types.specs.Graph.{Certificates, HasEdge}
use Rattle.trust_types.specs.Boundary.{Members, edges_into}
use Rattle.trust_types.proofs.Sums.{sum_below-eq, sum_below-zero, part-le-sum_below}

abbrev once : Bool → ℕ
once b = if b then 1 else 0

counted : (m e : Bool) → m ≡ true → e ≡ true → once (m && e) ≡ 1
counted true true _ _ = refl
counted true false _ e = absurd (cc)
counted false e m _ = absurd (cc)

uncounted : (m : Bool) (low high : ℕ) → (low ≤ high → m ≡ false) → once (m && nat_le low high) ≡ 0
uncounted false low high _ = refl
uncounted true low high none = elim (leb_tells low high) [
  | inl reaches ↦ absurd (let not : true ≡ false = none reaches.1 in cc)
  | inr below ↦ rw below.0 refl
]

pub certifies_one : (g : Certificates) (level : Level) (members : Members) (a b : ℕ) → HasEdge g level (Account a) b → members b ≡ true →
    true ≡ nat_lt 0 (edges_into g level members a)
certifies_one g level members a b edge member =
    let counts : ℕ → ℕ = λ b. once (members b && nat_le (rank level) (rank (g.standing a b))) in
    let one : counts b ≡ 1 = counted (members b) (nat_le (rank level) (rank (g.standing a b))) member (le-leb (rank level) (rank (g.standing a b)) edge.2) in
    let some : 0 < edges_into g level members a = omega (arith, one, part-le-sum_below g.accounts counts b edge.1) in
    sym (lt-ltb 0 (edges_into g level members a) some)

pub certifies_none : (g : Certificates) (level : Level) (members : Members) (a : ℕ) → a < g.accounts →
    ((b : ℕ) → HasEdge g level (Account a) b → members b ≡ false) → false ≡ nat_lt 0 (edges_into g level members a)
certifies_none g level members a within none =
    let counts : ℕ → ℕ = λ b. once (members b && nat_le (rank level) (rank (g.standing a b))) in
    let each : edges_into g level members a ≡ sum_below g.accounts (λ _. 0) =
    sum_below-eq g.accounts counts (λ _. 0) (λ b below. uncounted (members b) (rank level) (rank (g.standing a b)) (λ reaches. none b (within, below, reaches))) in
    rw (each, sum_below-zero g.accounts) refl
