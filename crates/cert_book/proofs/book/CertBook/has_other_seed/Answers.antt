use Rattle.std.proofs.Common.{sym, ap, ◌∙◌, nat_lt, ℕ}
use Rattle.cert_book.proofs.Seeding.{other_seed}
use Rattle.cert_book.proofs.book.CertBook.has_other_seed.Goals as goal

pub returns : goal.returns
returns c =
    let below = rw (← c.self.view_is) at c.requires.account in
    let seed = rw (← c.self.view_is) at c.requires.seed in
    rw (← c.self.view_is) (ap (λ (n : ℕ). nat_lt 1 n) c.self.invariant.kept.seeds ∙ sym (other_seed _ c.args.seed _ seed below))
