use Rattle.std.proofs.Common.{◌≡◌, ◌∙◌, sym, ap, append_assoc, ℕ, List, [], ◌∷◌, ◌++◌}
use Rattle.std.specs.Prelude.{codes, decimal}
use Rattle.text_lines.proofs.faults.TextFault.print.Goals as goal

joined : (number name : List ℕ) → number ++ (32 ∷ (name ++ 10 ∷ [])) ≡ number ++ 32 ∷ [] ++ name ++ 10 ∷ []
joined number name = sym (append_assoc (number ++ 32 ∷ []) name (10 ∷ []) ∙ append_assoc number (32 ∷ []) (name ++ 10 ∷ []))

pub returns : goal.returns
returns c =
    ap (λ v. v.items) c.into_bytes.ensures.value ∙ c.in_ok-line.ensures.ok ∙ ap (λ name. codes "fault line " ++ (decimal c.args.self.now.line ++ (32 ∷ (name ++ 10 ∷ [])))) c.name.ensures
    ∙ ap (λ rest. codes "fault line " ++ rest) (joined _ _)
