use Rattle.std.proofs.Common.{◌≡◌, sym, ◌∙◌, refl, true, ◌⊎◌, inl, inr, ◌<◌, arith, length, is_some, ◌∷◌, ◌++◌, []}
use Rattle.trust_types.specs.declared.graphs.Cert.{Cert}
use Rattle.pair_map.specs.Pairs.{value_at}
use Rattle.cert_log.specs.inner.Levels.{AreLevels}
use Rattle.cert_log.proofs.Counting.{few_fit}
use Rattle.cert_log.proofs.Listing.{tested}
use Rattle.cert_log.proofs.Mapping.{removed, inserted, full}
use Rattle.cert_log.proofs.levels.put.Goals as goal
use Rattle.cert_log.proofs.levels.put.Goals.{else-len-ge-MOST-via-then-len-ge-MOST+else-not-contains, else-len-ge-MOST-via-else-len-ge-MOST}

pub returns-then-not-is_grade : goal.returns-then-not-is_grade
returns-then-not-is_grade c = rw (← c.cert.view_is) (λ cs are.
    let cert : Cert = record { from = c.cert.inside.0.0.0; to = c.cert.inside.0.1.0.0; level = c.cert.inside.0.1.1.0 } in
    let next : AreLevels c.remove-before.new.self (cs ++ cert ∷ []) = removed c.args.levels.now _ cs cert _ are (tested cert.level _ c.is_grade.ensures ∙ c.if-not-is_grade.true)
    c.remove-before.ensures.before c.remove-before.ensures.set c.remove-before.ensures.count in
    (few_fit _ _ refl next.few, λ _. next, λ refused. cc))

pub returns-then-not-contains : goal.returns-then-not-contains
returns-then-not-contains c = rw (← c.cert.view_is) (λ cs are.
    let cert : Cert = record { from = c.cert.inside.0.0.0; to = c.cert.inside.0.1.0.0; level = c.cert.inside.0.1.1.0 } in
    (full c.args.levels.now cs cert are (tested cert.level _ c.is_grade.ensures ∙ c.if-not-is_grade.false) (sym c.contains.ensures ∙ c.if-not-contains.true) (omega arith), λ added. cc, λ refused. are))

pub returns : goal.returns
returns c = rw (← c.cert.view_is) (λ cs are.
    let cert : Cert = record { from = c.cert.inside.0.0.0; to = c.cert.inside.0.1.0.0; level = c.cert.inside.0.1.1.0 } in
    let room : (is_some (value_at c.args.levels.now cert.from cert.to) ≡ true) ⊎ (length c.args.levels.now < 2000000) = elim c.else-len-ge-MOST.branch [
      | else-len-ge-MOST-via-else-len-ge-MOST w ↦ inr (omega arith)
      | else-len-ge-MOST-via-then-len-ge-MOST+else-not-contains w ↦ inl (sym w.contains.ensures ∙ w.if-not-contains.false)
    ] in
    let next : AreLevels c.insert.new.self (cs ++ cert ∷ []) = inserted c.args.levels.now _ cs cert _ are (tested cert.level _ c.is_grade.ensures ∙ c.if-not-is_grade.false)
    c.in_ok-_before.ensures.before c.in_ok-_before.ensures.set c.in_ok-_before.ensures.count room in
    (few_fit _ _ refl next.few, λ _. next, λ refused. cc))
