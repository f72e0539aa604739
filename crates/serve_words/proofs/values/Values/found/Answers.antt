use Rattle.std.proofs.Common.{◌∙◌, codes}
use Rattle.clap.specs.Words.{found_of}
use Rattle.clap.proofs.WalkLemmas.{first_value-rows}
use Rattle.serve_words.proofs.values.Values.found.Goals as goal

pub returns : goal.returns
returns c = record {
  listen = c.get_str.ensures ∙ first_value-rows (found_of c.args.matches.now) (codes "listen");
  db = c.get_str-2.ensures ∙ first_value-rows (found_of c.args.matches.now) (codes "db");
  caps = c.get_str-3.ensures ∙ first_value-rows (found_of c.args.matches.now) (codes "caps");
  links = c.number_within.ensures.number;
  workers = c.number_within-2.ensures.number;
  accept = c.number_within-3.ensures.number;
}
