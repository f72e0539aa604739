use Rattle.std.proofs.Common.{◌≡◌, map, take, filter}
use Rattle.std.specs.List.{range_with_len}
use Rattle.cert_book.specs.Books.{book}
use Rattle.site_history.specs.Views.{name_of}
use Rattle.site_state.specs.inner.Parts.{site_in}
use Rattle.site_state.proofs.parts.Parts.seeds.Given as goal

abbrev pub invariant-loop-account : goal.invariant-loop-account
invariant-loop-account l = l.seeds.items ≡ map (name_of (site_in l.self)) (take 200 (filter (book l.self.certs).is_seed (range_with_len 0 l.account)))
