use Rattle.std.proofs.Common.{sym, ◌∙◌, ◌≡◌, true}
use Rattle.cert_book.specs.Books.{book}
use Rattle.cert_book.proofs.Passing.{passed_unless, unseeding_judged, unseeding_follows}
use Rattle.cert_book.proofs.book.CertBook.judge_unseeding.Goals as goal

pub has_other_seed-requires-clause-seed : goal.has_other_seed-requires-clause-seed
has_other_seed-requires-clause-seed c = sym c.is_seed.ensures ∙ passed_unless c.is_seed.result _ (sym c.fault_unless.ensures ∙ c.in_ok-fault_unless.was)

pub returns-clause-judged : goal.returns-clause-judged
returns-clause-judged c =
    let seed : (book c.args.self.now).is_seed c.args.subject ≡ true = sym c.is_seed.ensures ∙ passed_unless c.is_seed.result _ (sym c.fault_unless.ensures ∙ c.in_ok-fault_unless.was) in
    unseeding_judged (book c.args.self.now) c.args.subject _ seed (rw c.has_other_seed.ensures at c.fault_unless-2.ensures)

pub returns-clause-follows : goal.returns-clause-follows
returns-clause-follows c =
    let seed : (book c.args.self.now).is_seed c.args.subject ≡ true = sym c.is_seed.ensures ∙ passed_unless c.is_seed.result _ (sym c.fault_unless.ensures ∙ c.in_ok-fault_unless.was) in
    unseeding_follows (book c.args.self.now) c.args.subject _ c.requires (unseeding_judged (book c.args.self.now) c.args.subject _ seed (rw c.has_other_seed.ensures at c.fault_unless-2.ensures))
