-- What a call of the server did, by how it ended.
use Rattle.std.specs.Prelude.{ℕ, Bool, true, false, ◌≡◌, ◌≢◌, ◌<◌, ◌⊎◌, ◌++◌, List, Option, Some, None, IfSome}
use Rattle.std.specs.Io.KnownBytes.{append_known}
use Rattle.trust_types.specs.declared.records.Record.{Record}
use Rattle.trust_types.specs.Tables.{Table}
use Rattle.outside.specs.Bytes.{Told, AppendsPart}
use Rattle.outside.specs.Causes.{one_more}
use Rattle.outside.specs.KeptRows.{ToldRows}
use Rattle.site_core.specs.declared.opening.OpenFault.{OpenFault}
use Rattle.site_core.specs.Opening.{Opens}
use Rattle.commands.specs.declared.outcome.Outcome.{Outcome}
use Rattle.commands.specs.declared.status.Status.{Status}
use Rattle.commands.specs.declared.status.Status.TheVariants.{Done, No, Usage, Text, InputFull, ReadFault, WriteFault, KeeperFault, BadRow, NoMemory, PortFault, RowsFull}
use Rattle.commands.specs.Runs.{Output, IsTold}
use Rattle.site_runs.specs.Runs.{IsUnopened, ComesToUnopened}
use Rattle.serving.specs.Lines.{listening, port_fault}

-- what a port and a sink tell: how many accepts failed, what the sink holds, and how many writes failed
pub record Around : Type 0 where
  pub port_faults : ℕ
  pub sink : Output

abbrev pub around : ℕ → Told → ℕ → Around
around port_faults held faults = record { port_faults = port_faults; sink = record { held = held; faults = faults } }

-- Fewer links than were asked for were served. Where 0 are asked for, there is no end to them.
abbrev pub IsFewer : ℕ → ℕ → Type 0
IsFewer accept tally = accept ≢ 0 → tally < accept

-- The first line was written.
abbrev pub Listens : Around → Around → Type 0
Listens before now = now.sink.held ≡ append_known before.sink.held listening

-- The server had its site, and ended so after it had served as many links as the tally has. A status that is told to be ⊥ never comes.
abbrev pub Hosts : ℕ → Around → Around → ℕ → Status → Type 0
Hosts accept before now tally Done = (accept ≢ 0) × (tally ≡ accept) × Listens before now × (now.port_faults ≡ before.port_faults)
Hosts accept before now tally PortFault =
    IsFewer accept tally
    × (now.sink.held ≡ append_known before.sink.held (listening ++ port_fault))
    × (now.port_faults ≡ one_more before.port_faults)
Hosts accept before now tally WriteFault =
    ((tally ≡ 0) × AppendsPart before.sink.held now.sink.held listening × (now.port_faults ≡ before.port_faults))
    ⊎ (IsFewer accept tally
    × AppendsPart (append_known before.sink.held listening) now.sink.held port_fault
    × (now.port_faults ≡ one_more before.port_faults))
Hosts accept before now tally NoMemory =
    (((tally ≡ 0) × (now.sink.held ≡ before.sink.held)) ⊎ (IsFewer accept tally × Listens before now)) × (now.port_faults ≡ before.port_faults)
Hosts accept before now tally No = ⊥
Hosts accept before now tally Usage = ⊥
Hosts accept before now tally Text = ⊥
Hosts accept before now tally InputFull = ⊥
Hosts accept before now tally ReadFault = ⊥
Hosts accept before now tally KeeperFault = ⊥
Hosts accept before now tally BadRow = ⊥
Hosts accept before now tally RowsFull = ⊥

module _ {K : Type 0} (rows : K → ToldRows) (faults : K → ℕ) where
  -- A call of the server, by what became of the keeper. Where it went with the site, its rows continue each other, all of them. Where it is handed back, no
  -- site was opened over it, and that is told; no link was served, and the port wasn't asked for any.
  abbrev pub Serves : Table → ℕ → K → Around → Around → ℕ → Option K → Status → Type 0
  Serves table accept keeper before now tally None status =
      (opened : List Record) × IfSome (rows keeper) (λ told. Opens table told opened) × Hosts accept before now tally status
  Serves table accept keeper before now tally (Some back) status =
      (fault : OpenFault) × (outcome : Outcome)
      × IsUnopened rows faults table keeper back fault × ComesToUnopened fault outcome × IsTold outcome before.sink now.sink status
      × (tally ≡ 0) × (now.port_faults ≡ before.port_faults)

-- Only WriteFault says that a write failed.
abbrev pub is_write_fault : Status → Bool
is_write_fault WriteFault = true
is_write_fault Done = false
is_write_fault No = false
is_write_fault Usage = false
is_write_fault Text = false
is_write_fault InputFull = false
is_write_fault ReadFault = false
is_write_fault KeeperFault = false
is_write_fault BadRow = false
is_write_fault NoMemory = false
is_write_fault PortFault = false
is_write_fault RowsFull = false
