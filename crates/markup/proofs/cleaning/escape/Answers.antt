use Rattle.std.proofs.Common.{◌≡◌, ◌++◌, ◌∙◌, true, sym, ap, subst}
use Rattle.std.specs.List.{list_all}
use Rattle.markup.specs.Reader.{is_value_byte}
use Rattle.markup.specs.Escapes.{escaped}
use Rattle.markup.specs.Safe.{IsSafeHtml}
use Rattle.markup.proofs.Safety.{escaped-safe}
use Rattle.markup.proofs.Reader.{escaped-value}
use Rattle.markup.proofs.cleaning.escape.Goals as goal

pub of-requires : goal.of-requires
of-requires c =
    let whole : c.write_escaped.new.html.items ≡ escaped c.args.text.now =
    c.in_ok-write_escaped.ensures ∙ ap (λ html. html ++ escaped c.as_bytes.result.now) c.in_ok-html.ensures.items ∙ ap escaped c.as_bytes.ensures.value in
    subst IsSafeHtml (sym whole) (escaped-safe c.args.text.now c.utf8.text)

pub returns-clause-quotable : goal.returns-clause-quotable
returns-clause-quotable c =
    let whole : c.of.result ≡ escaped c.args.text.now =
    c.of.ensures ∙ c.in_ok-write_escaped.ensures ∙ ap (λ html. html ++ escaped c.as_bytes.result.now) c.in_ok-html.ensures.items ∙ ap escaped c.as_bytes.ensures.value in
    subst (λ html. list_all is_value_byte html ≡ true) (sym whole) (escaped-value c.args.text.now)
