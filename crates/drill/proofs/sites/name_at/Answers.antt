use Rattle.std.proofs.Common.{ap, ◌∙◌}
use Rattle.trust_types.specs.Names.{is_name}
use Rattle.drill.proofs.Naming.{is_name-at, read-named}
use Rattle.drill.proofs.sites.name_at.Goals as goal

pub unreachable-requires : goal.unreachable-requires
unreachable-requires c =
    read-named c.as_bytes.result.now c.read.result (ap is_name (c.as_bytes.ensures.value ∙ c.in_ok-word.ensures.ok) ∙ is_name-at c.args.account c.requires) c.read.ensures c.in-None.is
