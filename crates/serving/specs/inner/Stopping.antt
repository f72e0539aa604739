-- How accepting stops. The crate's own functions alone speak of it.
use Rattle.std.specs.Prelude.{ℕ, Bool, true, false, ◌≡◌, ◌≢◌}
use Rattle.outside.specs.Bytes.{AppendsPart}
use Rattle.outside.specs.Causes.{one_more}
use Rattle.commands.specs.declared.status.Status.{Status}
use Rattle.commands.specs.declared.status.Status.TheVariants as status
use Rattle.commands.specs.Runs.{Output, IsWritten}
use Rattle.serving.specs.declared.ending.End.{End}
use Rattle.serving.specs.declared.ending.End.TheVariants.{Done, PortFault, Unheard, Unready, NoMemory}
use Rattle.serving.specs.Lines.{listening, port_fault}
use Rattle.serving.specs.Serving.{Around, IsFewer, Listens}

-- After so many links the acceptor stopped, and the count of the port's faults went from one to the other.
abbrev pub Accepts : ℕ → ℕ → ℕ → ℕ → End → Type 0
Accepts accept faults faults' links Done = (accept ≢ 0) × (links ≡ accept) × (faults' ≡ faults)
Accepts accept faults faults' links PortFault = IsFewer accept links × (faults' ≡ one_more faults)
Accepts accept faults faults' links NoMemory = IsFewer accept links × (faults' ≡ faults)
Accepts accept faults faults' links Unheard = ⊥
Accepts accept faults faults' links Unready = ⊥

-- The same with what was written before.
abbrev pub Stops : ℕ → Around → Around → ℕ → End → Type 0
Stops accept before now links Done = Accepts accept before.port_faults now.port_faults links Done × Listens before now
Stops accept before now links PortFault = Accepts accept before.port_faults now.port_faults links PortFault × Listens before now
Stops accept before now links NoMemory = Accepts accept before.port_faults now.port_faults links NoMemory × Listens before now
Stops accept before now links Unheard =
    (links ≡ 0) × (now.port_faults ≡ before.port_faults) × AppendsPart before.sink.held now.sink.held listening
Stops accept before now links Unready = (links ≡ 0) × (now.port_faults ≡ before.port_faults) × (now.sink.held ≡ before.sink.held)

abbrev pub is_unheard : End → Bool
is_unheard Unheard = true
is_unheard Done = false
is_unheard PortFault = false
is_unheard Unready = false
is_unheard NoMemory = false

-- What is written last, for such an end, and the status then.
abbrev pub TellsEnd : End → Output → Output → Status → Type 0
TellsEnd PortFault before now s = IsWritten status.PortFault port_fault before now s
TellsEnd Done before now s = (s ≡ status.Done) × (now ≡ before)
TellsEnd Unheard before now s = (s ≡ status.WriteFault) × (now ≡ before)
TellsEnd Unready before now s = (s ≡ status.NoMemory) × (now ≡ before)
TellsEnd NoMemory before now s = (s ≡ status.NoMemory) × (now ≡ before)
