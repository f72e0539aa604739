use Rattle.std.proofs.Common.{◌≡◌, ◌++◌, List, ℕ, codes, option_map, ap, ◌∙◌}
use Rattle.std.proofs.lemmas.Result.{on_ok_weaker}
use Rattle.trust_types.specs.Proven.{Lists}
use Rattle.roster_form.specs.Candidates.{lists_at}
use Rattle.roster_form.specs.declared.publications.Publication.{Publication}
use Rattle.script.specs.Outputs.{shown_line}
use Rattle.script.proofs.Looking.{look_shown}
use Rattle.script.proofs.looks.look.Goals as goal

pub returns-in-Some-clause-shown : goal.returns-in-Some-clause-shown
returns-in-Some-clause-shown g c =
    let line : Publication → List ℕ = λ q. shown_line q.candidate.graph.names q.number q.revision c.args.level (option_map (λ (r : Lists). r.served) (lists_at q.candidate c.args.level)) in
    let q : Publication = c.in-Some.publication.now.value in
    on_ok_weaker c.show.result
    (λ (added : c.show.new.out.items ≡ c.args.out.now.items ++ (line c.deref.result.now ++ codes "\n")). (
      line q,
      look_shown c.args.book.now.history c.args.level q c.in-Some.ensures.0 c.in-Some.ensures.1 c.in-Some.ensures.2,
      added ∙ ap (λ (p : Publication). c.args.out.now.items ++ (line p ++ codes "\n")) c.deref.ensures,
    ))
    c.show.ensures.shown
