-- What follows from what a call of the server did.
use Rattle.std.specs.Prelude.{ℕ, ◌≡◌, ◌≢◌, ◌<◌, ◌-◌, ◌+◌, ◌^◌, ◌⊎◌, List, Option, Some, IfSome}
use Rattle.trust_types.specs.declared.records.Record.{Record}
use Rattle.trust_types.specs.Tables.{Table}
use Rattle.outside.specs.Causes.{HasCause}
use Rattle.outside.specs.KeptRows.{ToldRows}
use Rattle.site_core.specs.Opening.{Opens}
use Rattle.commands.specs.declared.status.Status.{Status}
use Rattle.commands.specs.declared.status.Status.TheVariants.{Done, NoMemory, PortFault}
use Rattle.serving.specs.Ports.{RoseBy}
use Rattle.serving.specs.Serving.{Around, Hosts, Serves, is_write_fault}

-- a count is as it was, and could have risen
abbrev pub IsStill : ℕ → ℕ → Type 0
IsStill before now = (now ≡ before) × (before < 2 ^ 64 - 1)

-- Of a server over rows that continue each other, where no fault was counted: it ends with Done, or memory ran out.
abbrev pub EndsWellWithoutFaults : {K : Type 0} → (K → ToldRows) → (K → ℕ) → Type 0
EndsWellWithoutFaults rows faults =
    (table : Table) (accept : ℕ) (keeper : _) (told : List (List ℕ)) (opened : List Record) (before now : Around) (tally : ℕ) (kept : Option _) (s : Status)
    → Serves rows faults table accept keeper before now tally kept s → HasCause before.sink.faults now.sink.faults (is_write_fault s)
    → rows keeper ≡ Some told → Opens table told opened
    → IfSome kept (λ back. IsStill (faults keeper) (faults back)) → IsStill before.port_faults now.port_faults → IsStill before.sink.faults now.sink.faults
    → (s ≡ Done) ⊎ (s ≡ NoMemory)

-- Where a server that had its site ends for a fault of its port, the port gave fewer links than were asked for, or its count stands at its last value.
abbrev pub PortFaultGaveFewer : Type 0
PortFaultGaveFewer =
    (accept tally given given' : ℕ) (before now : Around)
    → Hosts accept before now tally PortFault → RoseBy given given' tally → accept ≢ 0 → given' < 2 ^ 64 - 1 → given' < given + accept
