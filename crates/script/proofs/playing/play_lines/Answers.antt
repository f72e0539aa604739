use Rattle.std.proofs.Common.{◌≡◌, ◌∷◌, [], ◌++◌, ℕ, List, length, replicate, codes, refl, sym, ap, subst, ◌∙◌, append_assoc, arith, rules}
use Rattle.std.specs.Vec.Iter.{into_iter_items}
use Rattle.std.proofs.lemmas.List.{append-nil}
use Rattle.script_text.specs.declared.lines.ScriptLine.{ScriptLine}
use Rattle.script.specs.Stages.{Holdings, nothing_held, stage_of, stage_at_first}
use Rattle.script.specs.inner.Ready.{AreReady}
use Rattle.script.proofs.Growing.{ready_first}
use Rattle.script.proofs.Running.{run_more}
use Rattle.script.proofs.playing.play_lines.Goals as goal

pub loop-line-init : goal.loop-line-init
loop-line-init g c =
    let h = c.args.book.now.history in
    let nobody : c.in_ok-actors.actors ≡ replicate 64 nothing_held = c.in_ok-actors.ensures in
    record {
      lines = refl;
      long = search rules;
      ready = subst (λ (actors : List Holdings). AreReady h actors) (sym nobody) (ready_first h);
      moment = search rules;
      run = ([], (ap (λ (actors : List Holdings). stage_of h actors 0) nobody, refl), sym (append-nil c.args.out.now.items));
      found = refl;
    }

pub loop-line-preserved : goal.loop-line-preserved
loop-line-preserved g c =
    let at = c.loop-line in
    let x : ScriptLine = c.in-Some.line in
    let rest = into_iter_items c.next.new.self in
    let steps : into_iter_items at.line-iterator ≡ x ∷ rest = c.in-Some.ensures.steps.0 in
    let played = c.in_ok-play_line.ensures.played in
    let run = at.invariant.run in
    record {
      lines = append_assoc at.yielded (x ∷ []) rest ∙ (ap (λ (l : List ScriptLine). at.yielded ++ l) (sym steps) ∙ at.invariant.lines);
      long = let gone = c.in-Some.ensures.steps.1 in let short = ap length steps in omega (arith, at.invariant.long);
      ready = c.in_ok-play_line.ensures.ready;
      moment = c.in_ok-play_line.ensures.moment;
      run = (
        run.0 ++ (played.0 ++ codes "\n"),
        run_more at.yielded x (stage_at_first c.args.book.now.history) _ _ run.0 played.0 run.1 played.1,
        played.2 ∙ (ap (λ (bs : List ℕ). bs ++ (played.0 ++ codes "\n")) run.2 ∙ append_assoc c.args.out.now.items run.0 (played.0 ++ codes "\n")),
      );
      found = search rules;
    }
