-- Lines played after others.
use Rattle.std.proofs.Common.{List, [], ◌∷◌, ◌++◌, codes, refl, sym, ap, subst, ◌∙◌, append_assoc, ℕ}
use Rattle.std.proofs.lemmas.List.{append-nil}
use Rattle.script_text.specs.declared.lines.ScriptLine.{ScriptLine}
use Rattle.script.specs.Stages.{Stage}
use Rattle.script.specs.Runs.{Plays, Run}

run-append : (xs ys : List ScriptLine) (s m t : Stage) (a b : List ℕ) → Run xs s m a → Run ys m t b → Run (xs ++ ys) s t (a ++ b)
run-append [] ys s m t a b first more = subst (λ (z : Stage × List ℕ). Run ys z.0 t (z.1 ++ b)) (λ i. (first.0 i, sym first.1 i)) more
run-append (x ∷ xs) ys s m t a b first more = (
  first.0,
  first.1,
  first.2 ++ b,
  first.3,
  run-append xs ys first.0 m t first.2 b first.4 more,
  ap (λ (o : List ℕ). o ++ b) first.5 ∙ append_assoc (first.1 ++ codes "\n") first.2 b,
)

-- one line more
pub run_more : (xs : List ScriptLine) (x : ScriptLine) (s m t : Stage) (a answer : List ℕ) → Run xs s m a → Plays m x t answer
    → Run (xs ++ x ∷ []) s t (a ++ (answer ++ codes "\n"))
run_more xs x s m t a answer run plays =
    run-append xs (x ∷ []) s m t a (answer ++ codes "\n") run (t, answer, [], plays, (refl, refl), sym (append-nil (answer ++ codes "\n")))
