use Rattle.std.proofs.Common.{◌∙◌, ap, subst, List, length, ℕ}
use Rattle.trust_types.specs.declared.graphs.Cert.{Cert}
use Rattle.cert_log.specs.declared.logs.Kept.{Kept}
use Rattle.cert_log.specs.inner.Levels.{Keeps}
use Rattle.trust_types.specs.Changes.{standing_among}
use Rattle.trust_types.specs.declared.levels.Level.{Level}
use Rattle.cert_log.proofs.Standing.{standing_sorted}
use Rattle.cert_log.proofs.logs.CertLog.into_standing.Goals as goal

abbrev standing_at : ℕ → ℕ → List Cert → Level
standing_at a b certs = standing_among certs a b

pub returns-in_ok-sort_by_pair-in-Lines : goal.returns-in_ok-sort_by_pair-in-Lines
returns-in_ok-sort_by_pair-in-Lines c = λ cs is.
    let Kind : Kept → Type 0 = λ kept. Keeps kept cs in
    let keeps = subst Kind c.in-Lines.is is.keeps in
    let before = c.in_ok-sort_by_pair-in-Lines.ensures in
    standing_sorted cs c.sort_by_pair.new.certs.items _ (before.count ∙ ap length keeps.0) keeps.1 before.rises (λ a b. before.same a b ∙ ap (standing_at a b) keeps.0) c.keep_standing.ensures
