use Rattle.std.proofs.Common.{◌≡◌, take}
use Rattle.std.specs.List.{flat_map}
use Rattle.html_pages.specs.Lines.{spaced}
use Rattle.html_pages.specs.Inks.{inked}
use Rattle.html_pages.proofs.lists.put_entries.Given as goal

abbrev pub invariant-loop-entry : goal.invariant-loop-entry
invariant-loop-entry l = l.pen ≡ inked l.initial.pen (flat_map spaced (take l.entry-index l.entries))
