use Rattle.std.proofs.Common.{◌≡◌, ◌++◌, ◌<◌, ◌∙◌, sym, ap, subst, length, arith, []}
use Rattle.std.proofs.lemmas.Bool.Decides.{nat_tests}
use Rattle.markup.specs.Cleaning.{cleaned, cleaned_from}
use Rattle.markup.specs.Safe.{IsSafeHtml}
use Rattle.markup.proofs.Fronts.{after-front}
use Rattle.markup.proofs.Cleaned.{cleaned-cons}
use Rattle.markup.proofs.Stepping.{next, ended}
use Rattle.markup.proofs.Safety.{cleaned-safe}
use Rattle.markup.proofs.cleaning.clean.Goals as goal

pub loop-rest-init : goal.loop-rest-init
loop-rest-init c =
    ap (λ opened. c.write_plain.new.html.items ++ cleaned_from opened 0 c.in_ok-rest.rest.now) c.new-opened.ensures
    ∙ after-front (cleaned_from [] 0) (cleaned-cons []) c.in_ok-html.html.items c.write_plain.new.html.items c.as_bytes.result.now c.in_ok-rest.rest.now (cleaned c.args.text.now)
    c.in_ok-rest.ensures.written c.in_ok-rest.ensures.rest
    (ap (λ html. html ++ cleaned c.as_bytes.result.now) c.in_ok-html.ensures.items ∙ ap cleaned c.as_bytes.ensures.value)

pub loop-rest-preserved : goal.loop-rest-preserved
loop-rest-preserved c =
    let more : 0 < length c.loop-rest.rest.now = grind (arith, nat_tests) in
    let opened = c.step.new.opened in
    after-front (cleaned_from opened 0) (cleaned-cons opened) c.step.new.html.items c.write_plain-in-loop-rest.new.html.items c.in_ok-behind.behind.now c.in_ok-rest-2.rest.now (cleaned c.args.text.now)
    c.in_ok-rest-2.ensures.written c.in_ok-rest-2.ensures.rest
    (next c.loop-rest.opened opened c.loop-rest.html.items c.step.new.html.items c.in_ok-behind.behind.now c.loop-rest.rest.now (cleaned c.args.text.now) more c.in_ok-behind.ensures.done c.loop-rest.invariant)

pub of-requires : goal.of-requires
of-requires c =
    let none : length c.loop-rest.rest.now ≡ 0 = grind (arith, nat_tests) in
    let whole : c.close_all.new.html.items ≡ cleaned c.args.text.now =
    c.in_ok-close_all.ensures ∙ ended c.loop-rest.opened c.loop-rest.html.items c.loop-rest.rest.now (cleaned c.args.text.now) none c.loop-rest.invariant in
    subst IsSafeHtml (sym whole) (cleaned-safe c.args.text.now c.utf8.text)

pub returns : goal.returns
returns c =
    let none : length c.loop-rest.rest.now ≡ 0 = grind (arith, nat_tests) in
    c.of.ensures ∙ c.in_ok-close_all.ensures ∙ ended c.loop-rest.opened c.loop-rest.html.items c.loop-rest.rest.now (cleaned c.args.text.now) none c.loop-rest.invariant
