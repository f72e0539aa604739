-- How a server ends, by how accepting stopped and what was written last.
use Rattle.std.proofs.Common.{ℕ, ◌≡◌, sym, ap, ◌∙◌, subst, ⊎_elim, inl, inr}
use Rattle.std.specs.Io.KnownBytes.{append_known}
use Rattle.outside.specs.Bytes.{Told, AppendsPart}
use Rattle.outside.specs.Causes.{one_more}
use Rattle.outside.proofs.Known.{append_known-append}
use Rattle.commands.specs.declared.status.Status.{Status}
use Rattle.commands.specs.declared.status.Status.TheVariants as status
use Rattle.commands.specs.Runs.{Output}
use Rattle.serving.specs.declared.ending.End.{End}
use Rattle.serving.specs.declared.ending.End.TheVariants.{Done, PortFault, Unheard, Unready, NoMemory}
use Rattle.serving.specs.Lines.{listening, port_fault}
use Rattle.serving.specs.Serving.{Around, Hosts}
use Rattle.serving.specs.inner.Stopping.{Stops, TellsEnd}

-- the port is not asked for more while the last line is written
abbrev with_sink : Around → Output → Around
with_sink a out = record { port_faults = a.port_faults; sink = out }

module _ (accept links : ℕ) (before mid : Around) (now : Output) where
  -- what the status is, by an equation
  told_as : (s t : Status) → s ≡ t → Hosts accept before (with_sink mid now) links t → Hosts accept before (with_sink mid now) links s
  told_as s t is = subst (λ (u : Status). Hosts accept before (with_sink mid now) links u) (sym is)

  pub hosted : (end : End) (s : Status) → Stops accept before mid links end → TellsEnd end mid.sink now s → Hosts accept before (with_sink mid now) links s
  hosted Done s stops told = told_as s status.Done told.0 (stops.0.0, stops.0.1, ap (λ (out : Output). out.held) told.1 ∙ stops.1, stops.0.2)
  hosted Unheard s stops told =
      told_as s status.WriteFault told.0 (inl (stops.0, subst (λ (out : Output). AppendsPart before.sink.held out.held listening) (sym told.1) stops.2, stops.1))
  hosted Unready s stops told = told_as s status.NoMemory told.0 (inl (stops.0, ap (λ (out : Output). out.held) told.1 ∙ stops.2), stops.1)
  hosted NoMemory s stops told = told_as s status.NoMemory told.0 (inr (stops.0.0, ap (λ (out : Output). out.held) told.1 ∙ stops.1), stops.0.1)
  hosted PortFault s stops told =
      ⊎_elim
      (λ (is : (s ≡ status.PortFault) × (now.held ≡ append_known mid.sink.held port_fault) × (now.faults ≡ mid.sink.faults)).
      told_as s status.PortFault is.0 (
        stops.0.0,
        is.1 ∙ ap (λ (x : Told). append_known x port_fault) stops.1 ∙ append_known-append before.sink.held listening port_fault,
        stops.0.1,
      ))
      (λ (is : (s ≡ status.WriteFault) × AppendsPart mid.sink.held now.held port_fault × (now.faults ≡ one_more mid.sink.faults)).
      told_as s status.WriteFault is.0 (inr (stops.0.0, subst (λ (x : Told). AppendsPart x now.held port_fault) stops.1 is.1, stops.0.1)))
      told
