-- The words behind `serve`, as the command line of a command whose options take one value each: `--listen ADDR`, without which there is none, and those
-- that have a default.
use Rattle.std.specs.Prelude.{ℕ, true, pos, List, [], ◌∷◌, Some, codes}
use Rattle.clap.specs.Words.{App, Row, Rule, Kinds, new_app, new_rule, with_rule, matches_of, fault_of}
use Rattle.clap.specs.Simple.{on_top}
use Rattle.clap.specs.declared.builder.value_parser.ValueParser.TheVariants as parser

-- An option that is given by its name behind two dashes.
abbrev pub option_of : List ℕ → Rule
option_of name = record (new_rule name) { long = Some name }

-- One whose value is a number within these bounds, and this one where it isn't given.
abbrev pub number_option : List ℕ → ℕ → ℕ → List ℕ → Rule
number_option name least most default =
    record (option_of name) { parser = Some (parser.Signed (pos least) (pos most)); defaults = default ∷ [] }

abbrev pub listen_rule : Rule
listen_rule = record (option_of (codes "listen")) { required = true }

abbrev pub db_rule : Rule
db_rule = option_of (codes "db")

abbrev pub caps_rule : Rule
caps_rule = option_of (codes "caps")

abbrev pub links_rule : Rule
links_rule = number_option (codes "links") 1 48 (codes "8")

abbrev pub workers_rule : Rule
workers_rule = number_option (codes "workers") 1 8 (codes "1")

abbrev pub accept_rule : Rule
accept_rule = number_option (codes "accept") 0 4294967295 (codes "0")

-- The command, whose words begin behind `serve`.
abbrev pub bare_app : App
bare_app = on_top (λ shape. record shape { no_binary_name = true }) (new_app (codes "serve"))

unfoldable pub serve_app : App
serve_app = with_rule (with_rule (with_rule (with_rule (with_rule (with_rule bare_app listen_rule) db_rule) caps_rule) links_rule) workers_rule) accept_rule

-- What is amiss with the words. Where there is nothing they parse.
abbrev pub faults : List (List ℕ) → Kinds
faults words = fault_of serve_app words

-- What each option then has: its value, or its default.
abbrev pub rows : List (List ℕ) → List Row
rows words = matches_of serve_app words
