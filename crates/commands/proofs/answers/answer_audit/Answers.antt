use Rattle.std.proofs.Common.{ℕ, ◌≡◌, ◌≤◌, true, false, List, refl, sym, subst, arith}
use Rattle.trust_types.specs.declared.levels.Level.{Level}
use Rattle.trust_types.specs.Proven.{Lists}
use Rattle.trust_types.specs.Graph.{KeepsLevels}
use Rattle.trust_types.specs.Tables.{has_grade}
use Rattle.frozen.specs.Revision.{Revision, certificates}
use Rattle.roster_form.specs.Candidates.{IsSound}
use Rattle.roster_form.specs.LevelRosters.{lists_of}
use Rattle.site_text.specs.View.{View, of_text, of_frozen}
use Rattle.audit_text.specs.Canonical.{IsCanonical, IsReadAs}
use Rattle.commands.specs.declared.status.Status.TheVariants.{Done}
use Rattle.commands.specs.declared.outcome.Answer.{Answer}
use Rattle.commands.specs.Answers.{AnswersSite, IsAuditText}
use Rattle.commands.proofs.Told.{audit_of}
use Rattle.commands.proofs.Audited.{audited}
use Rattle.commands.proofs.Fitting.{audit_fits}
use Rattle.commands.proofs.answers.answer_audit.Goals as goal

pub returns-in_ok-proof_text-in-Ok : goal.returns-in_ok-proof_text-in-Ok
returns-in_ok-proof_text-in-Ok c =
    let read = c.in-Ok.ensures.read in
    let f : Revision = c.in-Ok.frozen.value in
    let none : (a : ℕ) → (certificates f).accounts ≤ a → (certificates f).is_seed a ≡ false =
    subst (λ (g : Revision). (a : ℕ) → (certificates g).accounts ≤ a → (certificates g).is_seed a ≡ false) c.deref.ensures (λ a past. c.accounts-accounts.ensures.no_seeds a (omega (arith, c.accounts-accounts.ensures.value, past))) in
    let roster = c.in_ok-roster-in-Ok.roster in
    let r : Lists = lists_of roster in
    let text : List ℕ = c.in_ok-proof_text-in-Ok.field-0.items in
    let at : roster.level ≡ c.args.level = c.in_ok-roster-in-Ok.ensures.level in
    let sound : IsSound f c.args.level r = subst (λ (g : Revision). IsSound g c.args.level r) c.deref-in-Ok.ensures c.in_ok-roster-in-Ok.ensures.sound in
    let canonical : IsCanonical (of_frozen f) c.args.level r text =
    subst (λ (l : Level). IsCanonical (of_frozen f) l r text) at
    (subst (λ (g : Revision). IsCanonical (of_frozen g) roster.level r text) c.deref-in-Ok-2.ensures c.in_ok-proof_text-in-Ok.ensures.canonical) in
    let has : has_grade f.caps roster.level ≡ true = subst (λ (l : Level). has_grade f.caps l ≡ true) (sym at) c.in-Ok.ensures.grade in
    let reads : KeepsLevels f.caps (certificates f) → has_grade f.caps roster.level ≡ true → IsReadAs (of_frozen f) roster.level r text =
    subst (λ (g : Revision). KeepsLevels g.caps (certificates g) → has_grade g.caps roster.level ≡ true → IsReadAs (of_frozen g) roster.level r text) c.deref-in-Ok-2.ensures c.in_ok-proof_text-in-Ok.ensures.readable in
    let readable : IsReadAs (of_frozen f) c.args.level r text = subst (λ (l : Level). IsReadAs (of_frozen f) l r text) at (reads c.in-Ok.ensures.levels has) in
    let told : IsAuditText c.args.level (of_text read.0) text =
    subst (λ (v : View). IsAuditText c.args.level v text) read.2.same (audited (audit_of f c.args.level r text sound canonical readable) (audit_fits f c.args.level r text c.requires.grade sound canonical none)) in
    let answer : Answer = record { status = Done; text = c.in_ok-proof_text-in-Ok.field-0 } in
    subst (λ said. AnswersSite (IsAuditText c.args.level) said answer) (sym read.1) (refl, told)
