use Rattle.std.proofs.Common.{◌≡◌, ◌-◌, ℕ, List, Option, get_or, slice_set, subst, ◌∙◌, arith}
use Rattle.std.proofs.lemmas.List.{get_or_read}
use Rattle.std.proofs.lemmas.Result.{IfOk-weaker}
use Rattle.script.specs.Stages.{Holdings, held_by, nothing_held}
use Rattle.script.specs.inner.Ready.{Finds, HasFound}
use Rattle.script.proofs.actors.Actors.solve.Goals as goal

pub returns-clause-found : goal.returns-clause-found
returns-clause-found c =
    let items : List Holdings = c.self.inside.list.items in
    let own : Holdings = c.index_mut-own.result.now in
    let left : Holdings = c.solve.new.self in
    let view : items ≡ c.args.self.now = c.self.view_is in
    let place : c.place_of.result ≡ c.args.actor - 1 = omega (arith, c.place_of.ensures.place) in
    let read : own ≡ get_or items c.place_of.result nothing_held =
    get_or_read items c.place_of.result own (omega (arith, c.place_of.ensures.within, c.self.invariant, c.self.inside.list.ok.0)) c.index_mut-own.ensures.value nothing_held in
    let is : own ≡ held_by c.args.self.now c.args.actor = read ∙ (λ i. get_or (view i) (place i) nothing_held) in
    IfOk-weaker c.solve.result (λ (r : Option ℕ). Finds own r left) (λ (r : Option ℕ). HasFound c.args.self.now c.args.actor r (slice_set items c.place_of.result left))
    (λ (r : Option ℕ) (finds : Finds own r left). (left, subst (λ (held : Holdings). Finds held r left) is finds, λ i. slice_set (view i) (place i) left)) c.solve.ensures.found
