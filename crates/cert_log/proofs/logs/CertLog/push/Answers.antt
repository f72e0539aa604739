use Rattle.std.proofs.Common.{◌≤◌, ◌<◌, ◌∷◌, ◌++◌, [], ◌∙◌, ap, subst, List, length, arith}
use Rattle.std.proofs.lemmas.List.{length_push}
use Rattle.trust_types.specs.declared.graphs.Cert.{Cert}
use Rattle.cert_log.specs.declared.logs.Kept.{Kept}
use Rattle.cert_log.specs.inner.Levels.{Keeps}
use Rattle.cert_log.proofs.Counting.{short_fits}
use Rattle.cert_log.proofs.logs.CertLog.push.Goals as goal

pub returns-then-len-lt-MOST : goal.returns-then-len-lt-MOST
returns-then-len-lt-MOST c = λ cs is.
    let cert : Cert = c.args.cert in
    let Kind : Kept → Type 0 = λ kept. Keeps kept cs in
    let keeps = subst Kind c.in-Lines.is is.keeps in
    let less : length cs < 2000000 = grind (arith, ap length keeps.0) in
    let few : length (cs ++ cert ∷ []) ≤ 2000000 = omega (arith, length_push cs cert) in
    (short_fits (cs ++ cert ∷ []) few, λ added. record { keeps = (c.in_ok-push-in-Lines.ensures.items ∙ ap (λ (front : List Cert). front ++ cert ∷ []) keeps.0, few) }, λ refused. cc)
