use Rattle.std.proofs.Common.{◌≡◌, ◌∷◌, ◌++◌, take, decimal, string_bytes}
use Rattle.std.specs.List.{flat_map}
use Rattle.site_records.proofs.writing.entries_text.Given as goal

abbrev pub invariant-loop-entry : goal.invariant-loop-entry
invariant-loop-entry l = string_bytes l.text ≡ string_bytes l.initial.text ++ flat_map (λ n. 32 ∷ decimal n) (take l.entry-index l.others)
