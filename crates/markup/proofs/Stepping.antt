-- What the code's steps leave is what the rules say.
use Rattle.std.proofs.Common.{ℕ, Bool, true, ◌≡◌, ◌<◌, List, [], ◌∷◌, ◌++◌, length, refl, sym, ap, subst, ◌∙◌, arith, append_assoc}
use Rattle.std.specs.Prelude.{Option, Some, None}
use Rattle.markup.specs.declared.elements.Element.{Element}
use Rattle.markup.specs.Tags.{Found, tag_at}
use Rattle.markup.specs.Cleaning.{Step, end_tags, by_rule, step_at, cleaned_from}
use Rattle.markup.specs.inner.Steps.{Applies, Does}
use Rattle.markup.proofs.Cleaned.{cleaned-step}

step-is : (opened : List Element) (text : List ℕ) (found : Found) (step : Step) → tag_at text ≡ Some found → by_rule opened found ≡ Some step → step_at opened text ≡ step
unfolding step_at
step-is opened text found step tag rule = rw (tag, rule) refl

applied-by : (rest old new : List ℕ) (before after : List Element) (text : List ℕ) (found : Found) (r : Option Step) → tag_at text ≡ Some found → by_rule before found ≡ r →
    Applies true rest old new before after r → Does rest old new after (step_at before text)
applied-by rest old new before after text found None tag rule h = absurd h
applied-by rest old new before after text found (Some s) tag rule h = subst (Does rest old new after) (sym (step-is before text found s tag rule)) h

-- A rule that is applied is the step.
pub applied : (rest old new : List ℕ) (before after : List Element) (text : List ℕ) (found : Found) (b : Bool) → tag_at text ≡ Some found → b ≡ true →
    Applies b rest old new before after (by_rule before found) → Does rest old new after (step_at before text)
applied rest old new before after text found b tag is h =
    applied-by rest old new before after text found (by_rule before found) tag refl (subst (λ b. Applies b rest old new before after (by_rule before found)) is h)

-- After a step the rest is still to be written.
pub next : (opened after : List Element) (old new rest text whole : List ℕ) → 0 < length text → Does rest old new after (step_at opened text) →
    old ++ cleaned_from opened 0 text ≡ whole → new ++ cleaned_from after 0 rest ≡ whole
next opened after old new rest text whole more done so_far =
    let s : Step = step_at opened text in
    ap (λ rest. new ++ cleaned_from after 0 rest) done.0
    ∙ ap (λ html. html ++ cleaned_from after 0 s.rest) done.1
    ∙ ap (λ opened. (old ++ s.written) ++ cleaned_from opened 0 s.rest) done.2
    ∙ append_assoc old s.written (cleaned_from s.opened 0 s.rest)
    ∙ ap (λ out. old ++ out) (sym (cleaned-step opened text more))
    ∙ so_far

-- At the end what is open is closed.
pub ended : (opened : List Element) (html rest whole : List ℕ) → length rest ≡ 0 → html ++ cleaned_from opened 0 rest ≡ whole → html ++ end_tags opened ≡ whole
unfolding cleaned_from
ended opened html [] whole none so_far = so_far
ended opened html (b ∷ rest) whole none so_far = absurd (omega arith)
