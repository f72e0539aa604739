use Rattle.std.proofs.Common.{◌∙◌}
use Rattle.roster_form.specs.LevelRosters.{lists_of}
use Rattle.http_pages.proofs.Serving.{accounts_within}
use Rattle.http_pages.proofs.rosters.names_of.Goals as goal

pub invariant_of-body : goal.invariant_of-body
invariant_of-body c = record {
  within = accounts_within c.args.publication.now.candidate.graph c.args.roster.now.level (lists_of c.args.roster.now) c.deref.result.now c.deref-2.result.now
      c.requires.sound (c.deref.ensures ∙ c.frozen.ensures) c.deref-2.ensures.value;
}
