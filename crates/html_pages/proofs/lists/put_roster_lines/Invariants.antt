use Rattle.std.proofs.Common.{◌≡◌, take}
use Rattle.std.specs.List.{flat_map}
use Rattle.trust_types.specs.NodeWords.{name_of}
use Rattle.html_pages.specs.Lines.{roster_line}
use Rattle.html_pages.specs.Inks.{inked}
use Rattle.html_pages.proofs.lists.put_roster_lines.Given as goal

abbrev pub invariant-loop-account : goal.invariant-loop-account
invariant-loop-account l = l.pen ≡ inked l.initial.pen (flat_map (λ account. roster_line (name_of l.frozen.names account)) (take l.account-index l.served))
