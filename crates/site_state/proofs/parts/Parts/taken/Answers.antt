use Rattle.std.proofs.Common.{◌≡◌, ℕ, List, ap, arith}
use Rattle.trust_types.specs.declared.graphs.Cert.{Cert}
use Rattle.cert_book.specs.Books.{book, taken}
use Rattle.site_history.specs.Views.{name_of}
use Rattle.site_state.specs.inner.Parts.{site_in}
use Rattle.site_state.proofs.Listing.{one_more, all_shown, enough, giver_there, is_name}
use Rattle.site_state.proofs.parts.Parts.taken.Goals as goal

pub name-requires : goal.name-requires
name-requires c = giver_there (book c.args.self.now.certs) c.args.account c.loop-i.i c.taken-cert.result c.taken-cert.ensures

pub loop-i-preserved : goal.loop-i-preserved
loop-i-preserved c =
    one_more (λ (x : Cert). (name_of (site_in c.args.self.now) x.from, x.level)) (taken (book c.args.self.now.certs) c.args.account) c.loop-i.i c.taken-cert.result
    (c.name.result, c.taken-cert.result.level) c.loop-i.lines.items c.push.new.self.items c.loop-i.invariant c.taken-cert.ensures
    (ap (λ (n : List ℕ). (n, c.taken-cert.result.level)) (is_name (book c.args.self.now.certs).names c.taken-cert.result.from c.name.result c.name.ensures)) c.in_ok-push.ensures.items

pub returns : goal.returns
returns c =
    let end : c.loop-i.i ≡ c.min-shown.result = omega (arith, c.loop-i-test.false, c.loop-i.auto.i-end) in
    all_shown (λ (x : Cert). (name_of (site_in c.args.self.now) x.from, x.level)) (taken (book c.args.self.now.certs) c.args.account) 200 c.loop-i.i c.loop-i.lines.items
    (enough _ _ 200 c.min-shown.result c.loop-i.i end c.min-shown.ensures c.taken_count.ensures) c.loop-i.invariant
