use Rattle.std.proofs.Common.{List}
use Rattle.trust_types.specs.declared.graphs.Cert.{Cert}
use Rattle.cert_log.specs.Log.{IsLog}
use Rattle.drill.proofs.Drawing.{Drawn}
use Rattle.drill.proofs.sites.certs.Given as goal

abbrev pub invariant-loop : goal.invariant-loop
invariant-loop l = (made : List Cert) × IsLog l.log made × Drawn l.number l.counter l.draws.state made
