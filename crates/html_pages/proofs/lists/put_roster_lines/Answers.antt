use Rattle.std.proofs.Common.{sym, arith}
use Rattle.std.proofs.lemmas.List.Folds.{flat_map-map}
use Rattle.trust_types.specs.NodeWords.{name_of}
use Rattle.html_pages.specs.Lines.{roster_line}
use Rattle.html_pages.proofs.Inking.{inked_nothing, line_more, lines_done}
use Rattle.html_pages.proofs.lists.put_roster_lines.Goals as goal

pub loop-account-init : goal.loop-account-init
loop-account-init c = inked_nothing c.args.pen.now

pub loop-account-preserved : goal.loop-account-preserved
loop-account-preserved c =
    line_more (λ account. roster_line (name_of c.args.frozen.now.names account)) c.args.pen.now c.loop-account.pen c.put_account.new.pen c.args.served.now c.loop-account.account-index c.account-item.result c.loop-account-test.true (sym c.account-item.is)
    c.loop-account.invariant c.in_ok-put_account.ensures

pub returns : goal.returns
returns c =
    rw (flat_map-map roster_line (name_of c.args.frozen.now.names) c.args.served.now)
    (lines_done (λ account. roster_line (name_of c.args.frozen.now.names account)) c.args.pen.now c.loop-account.pen c.args.served.now c.loop-account.account-index
    (omega (arith, c.loop-account-test.false, c.loop-account.auto.account-index-end)) c.loop-account.invariant)
