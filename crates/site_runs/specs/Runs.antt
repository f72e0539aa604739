-- What a run comes to, over the keeper of a site's rows.
use Rattle.std.specs.Prelude.{ℕ, Bool, true, false, ◌≡◌, ◌⊎◌, ◌++◌, List, [], Option, Some, None, Result, Ok, Err, IfSome, codes, decimal}
use Rattle.trust_types.specs.Tables.{Table}
use Rattle.outside.specs.Causes.{HasCause}
use Rattle.outside.specs.KeptRows.{ToldRows}
use Rattle.text_lines.specs.declared.faults.TextFault.{TextFault}
use Rattle.commands.specs.declared.outcome.Answer.{Answer}
use Rattle.commands.specs.declared.outcome.Outcome.{Outcome}
use Rattle.commands.specs.declared.outcome.Outcome.TheVariants.{Answered, Misused, TooLong, Unread, OutOfMemory}
use Rattle.commands.specs.declared.status.Status.{Status}
use Rattle.commands.specs.declared.status.Status.TheVariants as status
use Rattle.commands.specs.Answers.{TellsFault}
use Rattle.commands.specs.Commands.{command_of}
use Rattle.commands.specs.Runs.{Input, Output, ComesWithin, ComesTo, IsTold}
use Rattle.trust_types.specs.declared.records.Record.{Record}
use Rattle.site_history.specs.Histories.{History, just_opened}
use Rattle.site_core.specs.declared.opening.OpenFault.{OpenFault}
use Rattle.site_core.specs.declared.opening.OpenFault.TheVariants as opens
use Rattle.site_core.specs.Books as books
use Rattle.site_core.specs.Opening.{Opens, RefusesRows, is_keeper_fault}
use Rattle.script_text.specs.declared.lines.ScriptLine.{ScriptLine}
use Rattle.script_text.specs.Scripts.{ScriptText, script}
use Rattle.script.specs.Runs as scripts
use Rattle.script.specs.Stages.{stage_at_first}
use Rattle.site_runs.specs.declared.ran.Kept.{Kept}
use Rattle.site_runs.specs.declared.ran.Kept.TheVariants.{Keeper, Book}
use Rattle.site_runs.specs.Words.{is_script, drill_of}
use Rattle.site_runs.specs.Drills.{ComesToDrill}

-- The most bytes of a script: 64 MiB.
abbrev pub MOST_SCRIPT_BYTES : ℕ
MOST_SCRIPT_BYTES = 67108864

-- The answer to rows over which no site is opened. Where memory ran out there is none.
abbrev pub TellsUnopened : OpenFault → Answer → Type 0
TellsUnopened opens.Keeper answer = (answer.status ≡ status.KeeperFault) × (answer.text.items ≡ codes "keeper fault\n")
TellsUnopened (opens.BadRow n) answer = (answer.status ≡ status.BadRow) × (answer.text.items ≡ codes "bad row " ++ decimal n ++ codes "\n")
TellsUnopened (opens.Full n) answer = (answer.status ≡ status.RowsFull) × (answer.text.items ≡ codes "row " ++ decimal n ++ codes " passes a limit\n")
TellsUnopened opens.NoMemory answer = ⊥

-- What a run comes to where no site was opened over the rows.
abbrev pub ComesToUnopened : OpenFault → Outcome → Type 0
ComesToUnopened fault (Answered answer) = TellsUnopened fault answer
ComesToUnopened fault Misused = ⊥
ComesToUnopened fault TooLong = ⊥
ComesToUnopened fault Unread = ⊥
ComesToUnopened fault OutOfMemory = Unit {0}

-- The answer has the output of the lines, which led from a history to another: of all of them, or of a first part, behind which memory ran out.
abbrev pub IsRunOf : List ScriptLine → History → History → Answer → Type 0
IsRunOf lines before after answer =
    ((answer.status ≡ status.Done) × scripts.RunsTo lines (stage_at_first before) after [] answer.text.items)
    ⊎ ((answer.status ≡ status.NoMemory) × scripts.PartRunsTo lines (stage_at_first before) after [] answer.text.items)

-- Where no script is played, a run makes a drill, for which it reads nothing, or does another command.
abbrev pub RunsApart : Option ℕ → List (List ℕ) → Input → Input → Outcome → Type 0
RunsApart (Some number) words before now outcome = ComesToDrill number outcome × (now ≡ before)
RunsApart None words before now outcome = ComesTo (command_of words) before now outcome

module _ {K : Type 0} (rows : K → ToldRows) (faults : K → ℕ) where
  -- No site was opened over the keeper, which has its rows as they were: its first row that is refused, or a fault that it counted.
  pub record IsUnopened (table : Table) (keeper back : K) (fault : OpenFault) : Type 0 where
    pub refused : IfSome (rows keeper) (λ told. RefusesRows table told fault)
    pub same : rows back ≡ rows keeper
    pub cause : HasCause (faults keeper) (faults back) (is_keeper_fault fault)

  -- The script was played on the site that the keeper's rows are, of which a book tells what came of it.
  pub record IsPlayed (said : ScriptText) (keeper : K) (book : books.Kept K) (answer : Answer) : Type 0 where
    pub found : book.found ≡ keeper
    pub sound : books.IsSound rows faults book
    pub opened : List Record
    pub opens : IfSome (rows keeper) (λ told. Opens said.table told opened)
    pub run : IsRunOf said.lines (just_opened said.table opened) book.history answer

  -- The answer to a script, by what became of the keeper.
  abbrev pub AnswersLines : ScriptText → K → Kept K → Answer → Type 0
  AnswersLines said keeper (Keeper back) answer = (fault : OpenFault) × IsUnopened said.table keeper back fault × TellsUnopened fault answer
  AnswersLines said keeper (Book book) answer = IsPlayed said keeper book answer

  -- The answer to a text in place of a script, or to the fault that it has.
  abbrev pub AnswersScript : Result ScriptText TextFault → K → Kept K → Answer → Type 0
  AnswersScript (Err fault) keeper kept answer = TellsFault fault answer × (kept ≡ Keeper keeper)
  AnswersScript (Ok said) keeper kept answer = AnswersLines said keeper kept answer

  -- No site was opened, and the keeper has its rows as they were.
  abbrev pub HasRows : K → Kept K → Type 0
  HasRows keeper (Keeper back) = rows back ≡ rows keeper
  HasRows keeper (Book book) = ⊥

  -- Where there was no answer, the keeper is as it was, but that memory may have run out over its rows.
  abbrev pub Leaves : K → Kept K → Outcome → Type 0
  Leaves keeper kept (Answered answer) = Unit {0}
  Leaves keeper kept Misused = kept ≡ Keeper keeper
  Leaves keeper kept TooLong = kept ≡ Keeper keeper
  Leaves keeper kept Unread = kept ≡ Keeper keeper
  Leaves keeper kept OutOfMemory = HasRows keeper kept

  -- What a whole input comes to.
  abbrev pub ComesAfter : Result ScriptText TextFault → K → Kept K → Outcome → Type 0
  ComesAfter said keeper kept (Answered answer) = AnswersScript said keeper kept answer
  ComesAfter said keeper kept Misused = ⊥
  ComesAfter said keeper kept TooLong = ⊥
  ComesAfter said keeper kept Unread = ⊥
  ComesAfter said keeper kept OutOfMemory = HasRows keeper kept

  -- What a script comes to, by what was taken from the source.
  abbrev pub ComesToScript : Input → Input → K → Kept K → Outcome → Type 0
  ComesToScript before now keeper kept outcome =
      ComesWithin MOST_SCRIPT_BYTES (λ bytes answer. AnswersScript (script bytes) keeper kept answer) before now outcome × Leaves keeper kept outcome

  -- A run plays a script where its words ask for one. No other command has to do with the keeper.
  abbrev pub RunsBy : Bool → List (List ℕ) → Input → Input → Output → Output → K → Kept K → Status → Type 0
  RunsBy true words before now held holds keeper kept ends = (outcome : Outcome) × ComesToScript before now keeper kept outcome × IsTold outcome held holds ends
  RunsBy false words before now held holds keeper kept ends =
      (outcome : Outcome) × RunsApart (drill_of words) words before now outcome × IsTold outcome held holds ends × (kept ≡ Keeper keeper)

  abbrev pub RunsTo : List (List ℕ) → Input → Input → Output → Output → K → Kept K → Status → Type 0
  RunsTo words before now held holds keeper kept ends = RunsBy (is_script words) words before now held holds keeper kept ends
