-- The values of the options, as they are taken from the words.
use Rattle.std.specs.Prelude.{◌≡◌, List, Option, option_map, codes}
use Rattle.clap.specs.Words.{Row, first_of, one_of}
use Rattle.serve_words.specs.Plans.{Plan, number_within, plan_with}
use Rattle.serve_words.specs.declared.values.Values.{Values}

-- Each is what its option has.
pub record AreValuesIn (rows : List Row) (values : Values) : Type 0 where
  pub listen : option_map (λ text. text.now) values.listen ≡ first_of (codes "listen") rows
  pub db : option_map (λ text. text.now) values.db ≡ first_of (codes "db") rows
  pub caps : option_map (λ text. text.now) values.caps ≡ first_of (codes "caps") rows
  pub links : values.links ≡ number_within 1 48 (one_of (codes "links") rows)
  pub workers : values.workers ≡ number_within 1 8 (one_of (codes "workers") rows)
  pub accept : values.accept ≡ number_within 0 4294967295 (one_of (codes "accept") rows)

-- The plan that they are.
abbrev pub planned : Values → Option Plan
planned values = plan_with (option_map (λ text. text.now) values.listen) (option_map (λ text. text.now) values.db) (option_map (λ text. text.now) values.caps)
    values.links values.workers values.accept
