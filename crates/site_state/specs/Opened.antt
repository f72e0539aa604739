-- Which records a site may be opened with, one after another.
use Rattle.std.specs.Prelude.{◌≤◌, ◌+◌, List, sum_by}
use Rattle.trust_types.specs.declared.records.Record.{Record}
use Rattle.trust_types.specs.Kept.{Continues, Fits}
use Rattle.trust_types.specs.Tables.{Table}
use Rattle.site_history.specs.Legal.{MOST_TEXTS}
use Rattle.site_history.specs.Texts.{texts_in_record}
use Rattle.site_state.specs.declared.opening.RecordFault.{RecordFault}
use Rattle.site_state.specs.declared.opening.RecordFault.TheVariants.{Bad, Full, NoMemory}

-- With the record no limit is passed: on accounts, on standing certificates, on one text, and on all texts.
abbrev pub IsWithinLimits : List Record → Record → Type 0
IsWithinLimits k x = Fits k x × (sum_by texts_in_record k + texts_in_record x ≤ MOST_TEXTS)

-- Why a site that was opened with some records isn't opened with one more: the first of these that applies. Out of memory may come where neither
-- of the other two applies.
abbrev pub RefusesRecord : Table → List Record → Record → RecordFault → Type 0
RefusesRecord opening k x Bad = ¬ (Continues opening k x)
RefusesRecord opening k x Full = Continues opening k x × ¬ (IsWithinLimits k x)
RefusesRecord opening k x NoMemory = Continues opening k x × IsWithinLimits k x
