-- Without a fault a server ends well.
use Rattle.std.proofs.Common.{ℕ, ◌≡◌, ◌⊎◌, List, Some, None, IfSome, inl, inr, ⊎_elim, refl, subst, arith}
use Rattle.trust_types.specs.declared.records.Record.{Record}
use Rattle.trust_types.specs.Tables.{Table}
use Rattle.outside.specs.Causes.{HasCause, one_more}
use Rattle.outside.specs.KeptRows.{ToldRows}
use Rattle.site_core.specs.declared.opening.OpenFault.{OpenFault}
use Rattle.site_core.specs.declared.opening.OpenFault.TheVariants as opens
use Rattle.site_core.specs.Opening.{Opens, RefusesRows, is_keeper_fault}
use Rattle.site_core.specs.Laws.{OpenRowsPass}
use Rattle.commands.specs.declared.outcome.Outcome.{Outcome}
use Rattle.commands.specs.declared.outcome.Outcome.TheVariants.{Answered, Misused, TooLong, Unread, OutOfMemory}
use Rattle.commands.specs.declared.status.Status.{Status}
use Rattle.commands.specs.declared.status.Status.TheVariants.{Done, No, Usage, Text, InputFull, ReadFault, WriteFault, KeeperFault, BadRow, NoMemory, PortFault, RowsFull}
use Rattle.commands.specs.Runs.{Output, IsTold}
use Rattle.site_runs.specs.Runs.{IsUnopened, ComesToUnopened}
use Rattle.serving.specs.Serving.{Around, Hosts, is_write_fault}
use Rattle.serving.specs.Laws.{IsStill, EndsWellWithoutFaults}

still_rose : (before now : ℕ) → IsStill before now → now ≡ one_more before → ⊥
still_rose before now still rose = let same = still.0 in let room = still.1 in omega arith

hosts_well : (accept tally : ℕ) (before now : Around) (s : Status) → Hosts accept before now tally s → HasCause before.sink.faults now.sink.faults (is_write_fault s)
    → IsStill before.port_faults now.port_faults → IsStill before.sink.faults now.sink.faults → (s ≡ Done) ⊎ (s ≡ NoMemory)
hosts_well accept tally before now Done hosts cause port sink = inl refl
hosts_well accept tally before now NoMemory hosts cause port sink = inr refl
hosts_well accept tally before now PortFault hosts cause port sink = absurd (still_rose before.port_faults now.port_faults port hosts.2)
hosts_well accept tally before now WriteFault hosts cause port sink = absurd (still_rose before.sink.faults now.sink.faults sink cause)
hosts_well accept tally before now No hosts cause port sink = absurd hosts
hosts_well accept tally before now Usage hosts cause port sink = absurd hosts
hosts_well accept tally before now Text hosts cause port sink = absurd hosts
hosts_well accept tally before now InputFull hosts cause port sink = absurd hosts
hosts_well accept tally before now ReadFault hosts cause port sink = absurd hosts
hosts_well accept tally before now KeeperFault hosts cause port sink = absurd hosts
hosts_well accept tally before now BadRow hosts cause port sink = absurd hosts
hosts_well accept tally before now RowsFull hosts cause port sink = absurd hosts

-- what is told where memory ran out
told_well : (outcome : Outcome) (before now : Output) (s : Status) → ComesToUnopened opens.NoMemory outcome → IsTold outcome before now s
    → IsStill before.faults now.faults → (s ≡ Done) ⊎ (s ≡ NoMemory)
told_well (Answered answer) before now s comes told still = absurd comes
told_well Misused before now s comes told still = absurd comes
told_well TooLong before now s comes told still = absurd comes
told_well Unread before now s comes told still = absurd comes
told_well OutOfMemory before now s comes told still = ⊎_elim (λ is. inr is.0) (λ is. absurd (still_rose before.faults now.faults still is.2)) told

module _ {K : Type 0} (rows : K → ToldRows) (faults : K → ℕ) where
  unopened_well : (table : Table) (keeper back : K) (told : List (List ℕ)) (opened : List Record) (fault : OpenFault) (outcome : Outcome) (before now : Output) (s : Status)
      → OpenRowsPass → IsUnopened rows faults table keeper back fault → ComesToUnopened fault outcome → IsTold outcome before now s
      → rows keeper ≡ Some told → Opens table told opened → IsStill (faults keeper) (faults back) → IsStill before.faults now.faults
      → (s ≡ Done) ⊎ (s ≡ NoMemory)
  unopened_well table keeper back told opened fault outcome before now s pass un comes is_told rows_are opens_to still sink =
      ⊎_elim
      (λ (is : fault ≡ opens.Keeper). absurd (still_rose (faults keeper) (faults back) still (subst (λ f. HasCause (faults keeper) (faults back) (is_keeper_fault f)) is un.cause)))
      (λ (is : fault ≡ opens.NoMemory). told_well outcome before now s (subst (λ f. ComesToUnopened f outcome) is comes) is_told sink)
      (pass table told opened fault opens_to (subst (λ (r : ToldRows). IfSome r (λ t. RefusesRows table t fault)) rows_are un.refused))

  pub ends_well : OpenRowsPass → EndsWellWithoutFaults rows faults
  ends_well pass table accept keeper told opened before now tally None s serves cause rows_are opens_to still port sink =
      hosts_well accept tally before now s serves.2 cause port sink
  ends_well pass table accept keeper told opened before now tally (Some back) s serves cause rows_are opens_to still port sink =
      unopened_well table keeper back told opened serves.0 serves.1 before.sink now.sink s pass serves.2 serves.3 serves.4 rows_are opens_to still sink
