use Rattle.std.proofs.Common.{ap, sym, ◌∙◌, ℕ, ◌≡◌, arith}
use Rattle.trust_types.specs.Levels.{is_grade}
use Rattle.frozen.specs.Sites.{standing}
use Rattle.cert_book.specs.inner.Takings.{has}
use Rattle.cert_book.proofs.Reading.{taken_items, taken_below, taken_few}
use Rattle.cert_book.proofs.book.CertBook.givers.Goals as goal

pub returns-clause-count : goal.returns-clause-count
returns-clause-count c =
    let tells : (a : ℕ) → has c.of.result.now a ≡ is_grade (standing c.self.inside.blocks.parts a c.args.account) = λ a. ap (λ xs. has xs a) c.of.ensures.value ∙ c.self.invariant.kept.givers a c.args.account in
    rw (← c.self.view_is) (sym (taken_items _ c.of.result.now c.args.account c.accounts-accounts.ensures.parts c.of.ensures.rises tells).long)

pub returns-clause-each : goal.returns-clause-each
returns-clause-each c =
    let tells : (a : ℕ) → has c.of.result.now a ≡ is_grade (standing c.self.inside.blocks.parts a c.args.account) = λ a. ap (λ xs. has xs a) c.of.ensures.value ∙ c.self.invariant.kept.givers a c.args.account in
    λ i lt. rw (← c.self.view_is) ((taken_items _ c.of.result.now c.args.account c.accounts-accounts.ensures.parts c.of.ensures.rises tells).each i lt)

pub returns-clause-accounts : goal.returns-clause-accounts
returns-clause-accounts c =
    let tells : (a : ℕ) → has c.of.result.now a ≡ is_grade (standing c.self.inside.blocks.parts a c.args.account) = λ a. ap (λ xs. has xs a) c.of.ensures.value ∙ c.self.invariant.kept.givers a c.args.account in
    λ i lt. rw (← c.self.view_is) (taken_below _ c.of.result.now c.args.account i c.accounts-accounts.ensures.parts c.of.ensures.rises tells lt)

pub returns-clause-few : goal.returns-clause-few
returns-clause-few c =
    let tells : (a : ℕ) → has c.of.result.now a ≡ is_grade (standing c.self.inside.blocks.parts a c.args.account) = λ a. ap (λ xs. has xs a) c.of.ensures.value ∙ c.self.invariant.kept.givers a c.args.account in
    omega (arith, taken_few _ c.of.result.now c.args.account c.accounts-accounts.ensures.parts c.of.ensures.rises tells, c.accounts-accounts.ensures.value, c.accounts-accounts.ensures.few)
