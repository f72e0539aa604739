use Rattle.std.proofs.Common.{◌≡◌, ◌≤◌, ◌+◌, ◌*◌, ◌-◌, ◌∷◌, ◌++◌, length, take, flat_map, vec_len, vec_capacity}
use Rattle.trust_types.specs.NodeWords.{name_of}
use Rattle.script.proofs.looks.put_names.Given as goal

abbrev pub invariant-loop-account : goal.invariant-loop-account
invariant-loop-account l = record {
  names : l.out.items ≡ l.initial.out.items ++ flat_map (λ a. 32 ∷ name_of l.frozen.names a) (take l.account-index l.accounts);
  room : vec_len l.out + 21 * (length l.accounts - l.account-index) + 1 ≤ vec_capacity l.out;
}
