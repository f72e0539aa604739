use Rattle.std.proofs.Common.{◌≡◌, map, take}
use Rattle.cert_book.specs.Books.{book, taken}
use Rattle.site_history.specs.Views.{name_of}
use Rattle.site_state.specs.inner.Parts.{site_in}
use Rattle.site_state.proofs.parts.Parts.taken.Given as goal

abbrev pub invariant-loop-i : goal.invariant-loop-i
invariant-loop-i l = l.lines.items ≡ map (λ c. (name_of (site_in l.self) c.from, c.level)) (take l.i (taken (book l.self.certs) l.account))
