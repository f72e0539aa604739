use Rattle.std.proofs.Common.{sym}
use Rattle.html_pages.specs.Lines.{cert_line}
use Rattle.html_pages.proofs.Inking.{inked_nothing, line_more}
use Rattle.html_pages.proofs.lists.put_cert_lines.Goals as goal

pub loop-cert-init : goal.loop-cert-init
loop-cert-init c = inked_nothing c.args.pen.now

pub loop-cert-preserved : goal.loop-cert-preserved
loop-cert-preserved c =
    line_more cert_line c.args.pen.now c.loop-cert.pen c.put_cert_line.new.pen c.args.certs.now c.loop-cert.cert-index c.cert-item.result c.loop-cert-test.true (sym c.cert-item.is)
    c.loop-cert.invariant c.in_ok-put_cert_line.ensures
