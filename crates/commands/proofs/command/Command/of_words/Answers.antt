use Rattle.std.proofs.Common.{◌≤◌, map, subst, sym}
use Rattle.std.proofs.lemmas.List.{length-map}
use Rattle.commands.proofs.Words.{too_many}
use Rattle.commands.proofs.command.Command.of_words.Goals as goal

pub returns-in_default-2-clause-command : goal.returns-in_default-2-clause-command
returns-in_default-2-clause-command c =
    too_many (map (λ word. word.now) c.args.words.now) (subst (λ n. 3 ≤ n) (sym (length-map c.args.words.now (λ word. word.now))) c.in_default.len_at_least)
