use Rattle.std.proofs.Common.{rules, List, map, ap, sym, subst, inl, inr, ◌∙◌}
use Rattle.clap.specs.Words.{App, Text, Row, is_simple, is_simple_and_free, matches_of, fault_of, IsAmong}
use Rattle.serve_words.specs.inner.Values.{AreValuesIn}
use Rattle.serve_words.proofs.Simple.{is_free, is_plain}
use Rattle.serve_words.proofs.values.Values.of_words.Goals as goal

pub returns-in-Ok : goal.returns-in-Ok
returns-in-Ok c =
    let app = c.in_ok-command.ensures in
    let words : List Text = map (λ word. word.now) c.args.words.now in
    let rows = (c.in-Ok.ensures.matches (ap is_simple app ∙ is_plain)).0 ∙ ap (λ (a : App). matches_of a words) app in (
      sym (ap (λ (a : App). fault_of a words) app) ∙ c.in-Ok.ensures.kinds (ap is_simple_and_free app ∙ is_free),
      subst (λ (r : List Row). AreValuesIn r c.found.result) rows c.found.ensures,
    )

pub returns : goal.returns
returns c = λ none.
    let app = c.in_ok-command.ensures in
    let words : List Text = map (λ word. word.now) c.args.words.now in
    elim (c.in-Err.ensures.kinds (ap is_simple_and_free app ∙ is_free)) [
      | inl out ↦ absurd (search rules)
      | inr among ↦ subst (IsAmong _) (ap (λ (a : App). fault_of a words) app ∙ none) among
    ]
