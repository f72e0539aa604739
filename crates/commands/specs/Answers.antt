-- What the program answers to the bytes that it read.
use Rattle.std.specs.Prelude.{ℕ, ◌≡◌, ◌≤◌, ◌+◌, List, [], ◌∷◌, ◌++◌, codes, decimal, length, flat_map, Result, Ok, Err}
use Rattle.std.specs.List.Sorted.{IsStrictlyIncreasing}
use Rattle.trust_types.specs.declared.levels.Level.{Level}
use Rattle.trust_types.specs.Levels.{level_name}
use Rattle.trust_types.specs.Tables.{has_grade, grades_of}
use Rattle.trust_types.specs.Flow.{total}
use Rattle.trust_types.specs.Roster.{IsRoster}
use Rattle.trust_types.specs.Lines.{flow_of}
use Rattle.text_lines.specs.declared.faults.TextFault.{TextFault}
use Rattle.text_lines.specs.declared.faults.TextKind.TheVariants.{BadLevel}
use Rattle.text_lines.specs.Words.{lines}
use Rattle.text_lines.specs.Steps.{◌>>=◌, fault_unless, at_line}
use Rattle.text_lines.specs.Faults.{fault_line}
use Rattle.roster_form.specs.Bounded.{IsBounded}
use Rattle.cut_check.specs.declared.proofs.Proof.{Proof}
use Rattle.cut_check.specs.declared.verdicts.Verdict.{Verdict}
use Rattle.cut_check.specs.declared.verdicts.Verdict.TheVariants.{NoEdge, NoBalance, NoRoom, NoService, NoClosure, NoMatch, Greatest}
use Rattle.cut_check.specs.Check.{IsVerdictOn, ServesMost}
use Rattle.cut_check.specs.Line.{verdict_line}
use Rattle.trust_types.specs.NodeWords.{name_of}
use Rattle.site_text.specs.Site.{SiteText, ProofText, site, proof}
use Rattle.site_text.specs.View.{View, of_text, IsProofOf}
use Rattle.audit_text.specs.Canonical.{IsAudit}
use Rattle.commands.specs.Commands.{limit_of}
use Rattle.commands.specs.declared.status.Status.{Status}
use Rattle.commands.specs.declared.status.Status.TheVariants.{Done, No, Text}
use Rattle.commands.specs.declared.outcome.Answer.{Answer}
use Rattle.commands.specs.declared.command.Command.{Command}
use Rattle.commands.specs.declared.command.Command.TheVariants.{Check, Rosters, Audit}
use Rattle.commands.specs.declared.command.Asked.{Asked}
use Rattle.commands.specs.declared.command.Asked.TheVariants.{One, All}

-- Done for a greatest flow, and No for every other verdict.
abbrev pub status_for : Verdict → Status
status_for (NoEdge x b) = No
status_for (NoBalance a) = No
status_for (NoRoom x) = No
status_for (NoService a) = No
status_for (NoClosure x b) = No
status_for (NoMatch sent worth) = No
status_for (Greatest sent) = Done

-- The answer has the line of the verdict on the proof, and its status. Where that is a greatest flow of n units, the
-- proof's flow serves n accounts, and no feasible flow serves more.
pub record IsJudged (proof : Proof) (answer : Answer) : Type 0 where
  pub verdict : Verdict
  pub judged : IsVerdictOn proof verdict
  pub greatest : (n : ℕ) → verdict ≡ Greatest n → ServesMost proof n
  pub status : answer.status ≡ status_for verdict
  pub text : answer.text.items ≡ verdict_line proof.names.items verdict

-- The line of a roster: the grade, how many are accepted, and their names, each behind a space.
abbrev pub roster_line : List (List ℕ) → Level → List ℕ → List ℕ
roster_line names level served =
    level_name level ++ codes " " ++ decimal (length served) ++ flat_map (λ a. 32 ∷ name_of names a) served ++ codes "\n"

-- The line of a roster of the site at a grade: the accounts that a greatest flow with served conduits serves, in order. Of
-- every set of accounts without a seed at most its bound is among them.
pub record IsRosterLine (v : View) (level : Level) (line : List ℕ) : Type 0 where
  pub served : List ℕ
  pub roster : IsRoster v.graph level v.table served
  pub rises : IsStrictlyIncreasing served
  pub bounded : IsBounded v.graph level v.table served
  pub printed : line ≡ roster_line v.names level served

-- The lines of the rosters of these grades, one after another.
abbrev pub AreLinesOf : View → List Level → List ℕ → Type 0
AreLinesOf v [] text = text ≡ []
AreLinesOf v (level ∷ levels) text = (line others : List ℕ) × IsRosterLine v level line × AreLinesOf v levels others × (text ≡ line ++ others)

-- The lines of the rosters that are asked for: one grade's, or those of all grades of the site's table, lowest first.
abbrev pub AreRosterLines : Asked → View → List ℕ → Type 0
AreRosterLines (One level) v text = IsRosterLine v level text
AreRosterLines All v text = AreLinesOf v (grades_of v.table) text

-- The site of a text's bytes, whose table has a grade. A grade that it hasn't is a fault of the line after the last.
abbrev pub site_with : Level → List ℕ → Result SiteText TextFault
site_with level bytes = do
  s ← site bytes
  _ ← at_line (length (lines bytes) + 1) (fault_unless (has_grade s.table level) BadLevel)
  Ok s

-- The site of which rosters are asked.
abbrev pub site_for : Asked → List ℕ → Result SiteText TextFault
site_for (One level) bytes = site_with level bytes
site_for All bytes = site bytes

-- The fault of the text is told.
pub record TellsFault (fault : TextFault) (answer : Answer) : Type 0 where
  pub status : answer.status ≡ Text
  pub text : answer.text.items ≡ fault_line fault

-- The answer to a proof text, or to the fault that bytes have in place of one.
abbrev pub AnswersProof : Result ProofText TextFault → Answer → Type 0
AnswersProof (Err fault) answer = TellsFault fault answer
AnswersProof (Ok text) answer = (p : Proof) × IsProofOf text p × IsJudged p answer

-- The same of a site text, of which the output says this.
abbrev pub AnswersSite : (View → List ℕ → Type 0) → Result SiteText TextFault → Answer → Type 0
AnswersSite Says (Err fault) answer = TellsFault fault answer
AnswersSite Says (Ok s) answer = (answer.status ≡ Done) × Says (of_text s) answer.text.items

-- The canonical proof text of the site at a grade, with a flow and a cut that prove whom they serve. It is no longer than what
-- `check` takes, and whoever checks it gets `greatest`, with as many accounts as the flow serves.
pub record IsAuditText (level : Level) (v : View) (text : List ℕ) : Type 0 where
  pub audit : IsAudit level v text
  pub within : length text ≤ limit_of Check
  pub passes : (answer : Answer) → AnswersProof (proof text) answer →
      (answer.status ≡ Done) × (answer.text.items ≡ verdict_line v.names (Greatest (total v.graph.accounts (flow_of audit.lists.flow))))

-- The answer to the bytes. Each command gives one of just these for every input.
abbrev pub Answers : Command → List ℕ → Answer → Type 0
Answers Check bytes answer = AnswersProof (proof bytes) answer
Answers (Rosters asked) bytes answer = AnswersSite (AreRosterLines asked) (site_for asked bytes) answer
Answers (Audit level) bytes answer = AnswersSite (IsAuditText level) (site_with level bytes) answer
