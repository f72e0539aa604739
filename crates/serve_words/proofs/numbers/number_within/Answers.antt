use Rattle.std.proofs.Common.{ap, sym, ◌∙◌, arith}
use Rattle.clap.specs.Words.{found_of}
use Rattle.clap.proofs.WalkLemmas.{one_text-rows}
use Rattle.serve_words.specs.Plans.{number_within}
use Rattle.serve_words.proofs.Reading.{read_within, read_outside, read_none}
use Rattle.serve_words.proofs.numbers.number_within.Goals as goal
use Rattle.serve_words.proofs.numbers.number_within.Goals.{else-least-number-via-then-least-number+else-number-most, else-least-number-via-else-least-number}

pub returns-in_err-number-clause-number : goal.returns-in_err-number-clause-number
returns-in_err-number-clause-number c =
    c.from_residual.ensures ∙ sym (read_none c.args.least c.args.most c.ranges.most.fits _ (λ s e. (c.in_err-number.ensures.value s e).1.0))
    ∙ ap (number_within c.args.least c.args.most) (one_text-rows (found_of c.args.matches.now) c.args.id.now)

pub returns-then-number-most-clause-number : goal.returns-then-number-most-clause-number
returns-then-number-most-clause-number c =
    sym (read_within c.args.least c.args.most _ _ c.in_ok-number.ensures.none (λ s e. (c.in_ok-number.ensures.value s e).0) (omega arith) (omega arith))
    ∙ ap (number_within c.args.least c.args.most) (one_text-rows (found_of c.args.matches.now) c.args.id.now)

pub returns-else-least-number-clause-number : goal.returns-else-least-number-clause-number
returns-else-least-number-clause-number c =
    sym (read_outside c.args.least c.args.most _ _ (λ s e. (c.in_ok-number.ensures.value s e).0) (λ low high. elim c.else-least-number.branch [
      | else-least-number-via-then-least-number+else-number-most w ↦ absurd (omega (arith, w.if-number-most))
      | else-least-number-via-else-least-number w ↦ absurd (omega (arith, w.if-least-number))
    ]))
    ∙ ap (number_within c.args.least c.args.most) (one_text-rows (found_of c.args.matches.now) c.args.id.now)
