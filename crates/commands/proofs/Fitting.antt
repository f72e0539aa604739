-- The text of an audit is no longer than what `check` takes: of its lines at most 100,000 are of accounts and as many of seeds, 2,000,000 of
-- certificates, one of the flow for each seed and certificate, and one of each side of the cut for each node.
use Rattle.std.proofs.Common.{ℕ, ◌≡◌, ◌<◌, ◌≤◌, ◌+◌, List, length, get_or, All, IsTrue, ap, sym, ◌∙◌, arith, inl, inr, false}
use Rattle.std.proofs.lemmas.Bool.{cases_lt, false≢true}
use Rattle.std.proofs.lemmas.List.Elements.{Contains-get_or}
use Rattle.std.proofs.lemmas.List.Kept.{AllPairs-from_increasing}
use Rattle.trust_types.specs.declared.levels.Level.{Level}
use Rattle.trust_types.specs.Levels.{IsGrade}
use Rattle.trust_types.specs.Lines.{place}
use Rattle.trust_types.specs.Proven.{Lists}
use Rattle.frozen.specs.Revision.{Revision, certificates}
use Rattle.roster_form.specs.Candidates.{IsSound}
use Rattle.audit_text.specs.Canonical.{site_words, claim_words, IsCanonical}
use Rattle.site_text.specs.View.{of_frozen}
use Rattle.commands.proofs.Counts.{rising_between, flow_few}
use Rattle.commands.proofs.Sizes.{size, size-append, site_short, claim_short}

seed_within : (f : Revision) → ((a : ℕ) → (certificates f).accounts ≤ a → (certificates f).is_seed a ≡ false) → (a : ℕ) → IsTrue ((certificates f).is_seed a) → a < (certificates f).accounts
seed_within f none a is = elim (cases_lt a (certificates f).accounts) [
  | inl below ↦ below
  | inr past ↦ absurd (false≢true (sym (none a (omega arith)) ∙ is))
]

pub audit_fits : (f : Revision) (level : Level) (r : Lists) (text : List ℕ) → IsGrade level → IsSound f level r → IsCanonical (of_frozen f) level r text →
    ((a : ℕ) → (certificates f).accounts ≤ a → (certificates f).is_seed a ≡ false) → length text ≤ 268435456
audit_fits f level r text grade sound canonical none =
    let n : ℕ = (certificates f).accounts in
    let count : n ≡ length f.names = canonical.graph.size in
    let seeds : length canonical.seeds + 0 ≤ n = rising_between (λ a. a) 0 n canonical.seeds (omega arith) (AllPairs-from_increasing canonical.seeds canonical.rises) (λ k d inside. omega arith) (λ k d inside.
    seed_within f none (get_or canonical.seeds k d) ((canonical.graph.seeded (get_or canonical.seeds k d)).1 (Contains-get_or canonical.seeds k d inside))) in
    let takers : All (λ l. l.to < length f.names) r.flow = λ k d inside. omega (arith, count, sound.among.takers k d inside) in
    let flow : length r.flow ≤ length canonical.seeds + length canonical.certs =
    flow_few (certificates f) level (length f.names) canonical.seeds canonical.certs r.flow canonical.few grade canonical.graph takers sound.proven.0.flow sound.proven.0.units sound.proven.1.2.feasible.edges in
    let pass : length r.pass + 0 ≤ n + 1 = rising_between place 0 (n + 1) r.pass (omega arith) sound.proven.0.pass (λ k d inside. omega arith) (λ k d inside. omega (arith, sound.among.pass k d inside)) in
    let full : length r.full + 0 ≤ n + 1 = rising_between place 0 (n + 1) r.full (omega arith) sound.proven.0.full (λ k d inside. omega arith) (λ k d inside. omega (arith, sound.among.full k d inside)) in
    let written : length text ≡ size (site_words f.caps f.names canonical.seeds canonical.certs) + size (claim_words f.names level r) =
    ap length canonical.written ∙ size-append (site_words f.caps f.names canonical.seeds canonical.certs) (claim_words f.names level r) in
    omega (
      arith,
      written,
      count,
      seeds,
      flow,
      pass,
      full,
      canonical.few,
      canonical.stand.few,
      site_short f.caps f.names canonical.seeds canonical.certs canonical.table canonical.named,
      claim_short f.names level r canonical.named canonical.units,
    )
