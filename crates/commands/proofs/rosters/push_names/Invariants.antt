use Rattle.std.proofs.Common.{◌≡◌, ◌∷◌, ◌++◌, take, flat_map}
use Rattle.trust_types.specs.NodeWords.{name_of}
use Rattle.commands.proofs.rosters.push_names.Given as goal

abbrev pub invariant-loop-account : goal.invariant-loop-account
invariant-loop-account l =
    l.text.items ≡ l.initial.text.items ++ flat_map (λ a. 32 ∷ name_of l.frozen.names a) (take l.account-index l.accounts)
