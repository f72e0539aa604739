use Rattle.std.proofs.Common.{◌≡◌, take}
use Rattle.std.specs.List.{flat_map}
use Rattle.html_pages.specs.Lines.{cert_line}
use Rattle.html_pages.specs.Inks.{inked}
use Rattle.html_pages.proofs.lists.put_cert_lines.Given as goal

abbrev pub invariant-loop-cert : goal.invariant-loop-cert
invariant-loop-cert l = l.pen ≡ inked l.initial.pen (flat_map cert_line (take l.cert-index l.certs))
