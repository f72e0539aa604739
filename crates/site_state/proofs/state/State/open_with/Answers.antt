use Rattle.std.proofs.Common.{◌+◌, ◌-◌, ◌<◌, ◌≤◌, sym, ap, ◌∙◌, subst, arith}
use Rattle.site_history.specs.Histories.{History, records}
use Rattle.site_history.specs.Live.{live}
use Rattle.site_state.specs.Opened.{RefusesRecord}
use Rattle.site_state.specs.States.{Known}
use Rattle.site_state.specs.declared.opening.RecordFault.TheVariants.{Full, NoMemory}
use Rattle.site_state.specs.inner.States.{IsState}
use Rattle.site_state.proofs.Stating.{state_few, state_parts}
use Rattle.site_state.proofs.StateOpened.{passed_record, refused_record, err_by, opened_can_add, opened_texts, too_much, size_is, fits_texts, state_opened}
use Rattle.site_state.proofs.state.State.open_with.Goals as goal

pub returns-in_err-judge_record-clause-refused : goal.returns-in_err-judge_record-clause-refused
returns-in_err-judge_record-clause-refused g c =
    let s = c.self.inside in
    let needs = rw (← c.self.view_is) at c.requires in
    let fault = c.in_err-judge_record.field-0.0 in
    let refused = refused_record s.past.value s.parts s.places s.texts s.published s.last c.args.entry fault needs.begun c.self.invariant.state c.in_err-judge_record.ensures in
    err_by c.from_residual.result fault (RefusesRecord c.args.self.now.history.opening c.args.self.now.history.opened c.args.entry) c.from_residual.ensures.1
    (subst (λ (z : Known). RefusesRecord z.history.opening z.history.opened c.args.entry fault) c.self.view_is refused)

pub returns-then-bytes-self-clause-refused : goal.returns-then-bytes-self-clause-refused
returns-then-bytes-self-clause-refused g c =
    let s = c.self.inside in
    let h : History = s.past.value in
    let needs = rw (← c.self.view_is) at c.requires in
    let passed = passed_record h s.parts s.places s.texts s.published s.last c.args.entry c.in_ok-judge_record.field-0 needs.begun c.self.invariant.state c.in_ok-judge_record.ensures in
    let past : 536870912 - s.texts < c.texts_in_record-bytes.result = omega (arith, c.if-bytes-self.true) in
    subst (λ (z : Known). RefusesRecord z.history.opening z.history.opened c.args.entry Full) c.self.view_is
    (passed.0, too_much h.opened c.args.entry s.texts c.texts_in_record-bytes.result (c.self.invariant.state.bytes_are ∙ opened_texts h needs.begun) c.texts_in_record-bytes.ensures past)

pub reserve-requires : goal.reserve-requires
reserve-requires g c =
    let s = c.self.inside in
    let needs = rw (← c.self.view_is) at c.requires in
    let passed = passed_record s.past.value s.parts s.places s.texts s.published s.last c.args.entry c.in_ok-judge_record.field-0 needs.begun c.self.invariant.state c.in_ok-judge_record.ensures in
    opened_can_add s.past.value s.parts c.args.entry needs.begun c.self.invariant.state.parts_are passed.0 passed.1

pub invariant_of-self : goal.invariant_of-self
invariant_of-self g c =
    let s = c.self.inside in
    let h : History = s.past.value in
    record {
      state = state_parts h s.parts c.reserve.new.self s.places s.texts s.published s.last c.self.invariant.state (c.reserve.ensures.same h.opening (records h) (live h) c.self.invariant.state.parts_are);
      opening = c.self.invariant.opening;
      room = tt;
    }

pub returns-in_err-reserve-clause-refused : goal.returns-in_err-reserve-clause-refused
returns-in_err-reserve-clause-refused g c =
    let s = c.self.inside in
    let h : History = s.past.value in
    let bytes = c.texts_in_record-bytes.result in
    let needs = rw (← c.self.view_is) at c.requires in
    let passed = passed_record h s.parts s.places s.texts s.published s.last c.args.entry c.in_ok-judge_record.field-0 needs.begun c.self.invariant.state c.in_ok-judge_record.ensures in
    let few : s.texts ≤ 536870912 = omega (arith, c.self.invariant.state.bytes_are, c.self.invariant.state.legal.few_texts) in
    let within : bytes ≤ 536870912 - s.texts = omega (arith, c.if-bytes-self.false) in
    let size = size_is c.args.entry s.texts bytes few c.texts_in_record-bytes.ensures within in
    let fits = fits_texts h.opened c.args.entry s.texts bytes (c.self.invariant.state.bytes_are ∙ opened_texts h needs.begun) few size within in
    err_by c.from_residual-in_err-reserve.result NoMemory (RefusesRecord c.args.self.now.history.opening c.args.self.now.history.opened c.args.entry) c.from_residual-in_err-reserve.ensures.1
    (subst (λ (z : Known). RefusesRecord z.history.opening z.history.opened c.args.entry NoMemory) c.self.view_is (passed.0, (passed.1, fits)))

pub add-requires-clause-can : goal.add-requires-clause-can
add-requires-clause-can g c =
    let s = c.self.inside in
    let h : History = s.past.value in
    let needs = rw (← c.self.view_is) at c.requires in
    let passed = passed_record h s.parts s.places s.texts s.published s.last c.args.entry c.in_ok-judge_record.field-0 needs.begun c.self.invariant.state c.in_ok-judge_record.ensures in
    opened_can_add h c.reserve.new.self c.args.entry needs.begun (c.reserve.ensures.same h.opening (records h) (live h) c.self.invariant.state.parts_are) passed.0 passed.1

pub add-requires-clause-few : goal.add-requires-clause-few
add-requires-clause-few g c =
    let s = c.self.inside in
    let h : History = s.past.value in
    state_few h c.reserve.new.self s.places s.texts s.published s.last
    (state_parts h s.parts c.reserve.new.self s.places s.texts s.published s.last c.self.invariant.state (c.reserve.ensures.same h.opening (records h) (live h) c.self.invariant.state.parts_are))

pub invariant_of-self-2 : goal.invariant_of-self-2
invariant_of-self-2 g c =
    let s = c.self.inside in
    let h : History = s.past.value in
    let bytes = c.texts_in_record-bytes.result in
    let needs = rw (← c.self.view_is) at c.requires in
    let passed = passed_record h s.parts s.places s.texts s.published s.last c.args.entry c.in_ok-judge_record.field-0 needs.begun c.self.invariant.state c.in_ok-judge_record.ensures in
    let few : s.texts ≤ 536870912 = omega (arith, c.self.invariant.state.bytes_are, c.self.invariant.state.legal.few_texts) in
    let within : bytes ≤ 536870912 - s.texts = omega (arith, c.if-bytes-self.false) in
    let size = size_is c.args.entry s.texts bytes few c.texts_in_record-bytes.ensures within in
    record {
      state = subst (λ (g : History). IsState g c.add.new.self (s.places + 1) (s.texts + bytes) s.published s.last) (sym c.opened.ensures)
          (state_opened h s.parts c.add.new.self s.places s.texts s.published bytes s.last c.args.entry needs.begun c.self.invariant.state passed.0 passed.1 needs.moment needs.places size
          (omega (arith, within, few, c.self.invariant.state.bytes_are)) (c.add.ensures h.opening (records h) (live h) (c.reserve.ensures.same h.opening (records h) (live h) c.self.invariant.state.parts_are)));
      opening = c.self.invariant.opening ∙ sym (ap (λ (h : History). h.opening) c.opened.ensures);
      room = tt;
    }
