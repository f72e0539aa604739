use Rattle.std.proofs.Common.{◌∷◌, [], ◌++◌, ap, sym, ◌∙◌, take}
use Rattle.site_lines.specs.Site.{numbers}
use Rattle.site_lines.proofs.Entering.{after, after-first, after-more, take-twice}
use Rattle.site_lines.proofs.entries.FirstEntries.read.Goals as goal

pub loop-word-init : goal.loop-word-init
loop-word-init c = (
  c.in-Some.entry ∷ [],
  c.add.ensures ∙ ap (λ xs. take 17 (xs ++ c.in-Some.entry ∷ [])) c.new-entries.ensures,
  after-first c.args.first.now c.args.others.now c.in-Some.entry (sym c.in-Some.ensures),
)

pub loop-word-preserved : goal.loop-word-preserved
loop-word-preserved c =
    let read = c.loop-word.invariant.0 in (
      read ++ c.in-Some-number.entry ∷ [],
      c.add-in-Some-next_word.ensures ∙ ap (λ xs. take 17 (xs ++ c.in-Some-number.entry ∷ [])) c.loop-word.invariant.1 ∙ take-twice 17 read c.in-Some-number.entry,
      after-more read _ _ c.in-Some-number.entry (sym c.in-Some-number.ensures) ∙ ap (λ words. after read (numbers words)) (sym c.in-Some-next_word.ensures.word) ∙ c.loop-word.invariant.2,
    )
