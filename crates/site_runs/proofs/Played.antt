-- A script that was read is played as what its text says.
use Rattle.std.proofs.Common.{◌≡◌, ℕ, List, IfSome, ap, ◌∙◌, subst}
use Rattle.trust_types.specs.declared.records.Record.{Record}
use Rattle.trust_types.specs.Tables.{Table}
use Rattle.outside.specs.KeptRows.{ToldRows}
use Rattle.commands.specs.declared.outcome.Answer.{Answer}
use Rattle.script_text.specs.declared.lines.ScriptLine.{ScriptLine}
use Rattle.script_text.specs.Scripts.{ScriptText}
use Rattle.site_history.specs.Histories.{History, just_opened}
use Rattle.site_core.specs.Books.{Kept, IsSound}
use Rattle.site_core.specs.Opening.{Opens}
use Rattle.site_runs.specs.Runs.{IsPlayed, IsRunOf}

module _ {K : Type 0} (rows : K → ToldRows) (faults : K → ℕ) where
  pub is_played : (said : ScriptText) (table : Table) (lines : List ScriptLine) (keeper : K) (opened : List Record) (before : History) (book : Kept K) (answer : Answer)
      → table ≡ said.table → lines ≡ said.lines → before ≡ just_opened table opened → book.found ≡ keeper → IsSound rows faults book
      → IfSome (rows keeper) (λ told. Opens table told opened) → IsRunOf lines before book.history answer → IsPlayed rows faults said keeper book answer
  is_played said table lines keeper opened before book answer same_table same_lines begins found sound opens run = record {
    found = found;
    sound = sound;
    opened = opened;
    opens = subst (λ (t : Table). IfSome (rows keeper) (λ told. Opens t told opened)) same_table opens;
    run = subst (λ (z : List ScriptLine × History). IsRunOf z.0 z.1 book.history answer)
        (λ i. (same_lines i, (begins ∙ ap (λ (t : Table). just_opened t opened) same_table) i)) run;
  }
