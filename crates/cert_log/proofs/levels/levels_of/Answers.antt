use Rattle.std.proofs.Common.{◌≡◌, ◌+◌, ◌∷◌, ◌++◌, [], ◌∙◌, sym, ap, List, ℕ, take, length, ◌≤◌, arith}
use Rattle.std.proofs.lemmas.List.{take_more, length-take-le}
use Rattle.trust_types.specs.declared.graphs.Cert.{Cert}
use Rattle.cert_log.proofs.Counting.{short_fits}
use Rattle.cert_log.proofs.levels.levels_of.Goals as goal

pub loop-cert-preserved : goal.loop-cert-preserved
loop-cert-preserved c = λ few.
    let certs : List Cert = c.args.certs.now in
    let i : ℕ = c.loop-cert.cert-index in
    let cert : Cert = c.cert-item.result in
    let seen : take (i + 1) certs ≡ take i certs ++ cert ∷ [] = take_more certs i cert c.loop-cert-test.true ∙ ap (λ (x : Cert). take i certs ++ x ∷ []) (sym c.cert-item.is) in
    let short : length (take i certs ++ cert ∷ []) ≤ 2000000 = omega (arith, length-take-le (i + 1) certs (omega arith), ap length seen, few) in
    let next = c.in_ok-_fits.ensures (take i certs) (c.loop-cert.invariant few) in
    rw seen (next.1 (next.0 ∙ sym (short_fits (take i certs ++ cert ∷ []) short)))
