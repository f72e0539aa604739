use Rattle.std.proofs.Common.{ℕ, List, subst}
use Rattle.std.specs.List.Sorted.{IsBinarySearchResult}
use Rattle.std.specs.Ordering.{nat_cmp}
use Rattle.roster_form.proofs.Sound.{found_accepted}
use Rattle.roster_form.proofs.level_rosters.LevelRoster.has.Goals as goal

pub returns : goal.returns
returns c =
    let a : ℕ = c.args.account in
    let searched : IsBinarySearchResult (λ y. nat_cmp y a) c.args.self.now.served.items c.binary_search.result =
    subst (λ (xs : List ℕ). IsBinarySearchResult (λ y. nat_cmp y a) xs c.binary_search.result) c.deref.ensures.value c.binary_search.ensures.position in
    let found = found_accepted c.args.self.now.served.items a c.binary_search.result c.is_ok.result c.args.self.now.in_order.served searched c.is_ok.ensures.value in
    record { value = found.0; contained = found.1 }
