-- Where an account's certificates stand among one another, which rise by taker.
use Rattle.std.proofs.Common.{ℕ, ◌≡◌, ◌<◌, ◌≤◌, inl, inr, ap, subst, arith}
use Rattle.std.proofs.lemmas.Bool.{cases_lt}
use Rattle.trust_types.specs.declared.levels.Level.{Level}
use Rattle.trust_types.specs.declared.accounts.Node.TheVariants.{Account}
use Rattle.trust_types.specs.declared.graphs.Cert.{Cert}
use Rattle.trust_types.specs.Levels.{rank, IsGrade}
use Rattle.trust_types.specs.Graph.{Certificates, HasEdge}
use Rattle.trust_types.specs.Rows.{GivesEachOnce}
use Rattle.trust_types.proofs.Walks.{cert_of_edge}
use Rattle.cut_check.specs.inner.Cursor.{AreLesser}

-- Certificates for lesser takers come before.
pub lesser_before : {g : Certificates} {degree : ℕ → ℕ} {given : ℕ → ℕ → Cert} → GivesEachOnce g degree given →
    (a i j : ℕ) → a < g.accounts → j < degree a → (given a j).to < (given a i).to → j < i
lesser_before {given = given} rows a i j giver within lesser = elim (cases_lt j i) [
  | inl before ↦ before
  | inr after ↦ elim (cases_lt i j) [
    | inl later ↦ absurd (omega (arith, rows.rises a i j giver later within))
    | inr same ↦ let at : j ≡ i = omega arith in let takers : (given a j).to ≡ (given a i).to = ap (λ k. (given a k).to) at in absurd (omega arith)
  ]
]

-- An edge to the taker can only be the certificate that stands where the lesser takers end.
pub cert_at_place : {g : Certificates} {degree : ℕ → ℕ} {given : ℕ → ℕ → Cert} → GivesEachOnce g degree given →
    (level : Level) → IsGrade level → (a taker k : ℕ) → AreLesser (degree a) (given a) taker k →
    (k < degree a → taker ≤ (given a k).to) → HasEdge g level (Account a) taker →
    (k < degree a) × ((given a k).to ≡ taker) × (rank level ≤ rank (given a k).level)
cert_at_place {degree = degree} {given = given} rows level grade a taker k passed all edge =
    let found = cert_of_edge _ degree given level a taker rows grade edge in
    let i : ℕ = found.0 in
    let takes : (given a i).to ≡ taker = found.2 in
    elim (cases_lt i k) [
      | inl before ↦ absurd (omega (arith, passed.lesser i before, takes))
      | inr after ↦ elim (cases_lt k i) [
        | inl later ↦ absurd (omega (arith, rows.rises a k i edge.0 later found.1, all (omega (arith, found.1)), takes))
        | inr last ↦
            let same : i ≡ k = omega arith in
            subst (λ (j : ℕ). (j < degree a) × ((given a j).to ≡ taker) × (rank level ≤ rank (given a j).level)) same (found.1, takes, found.3)
      ]
    ]
