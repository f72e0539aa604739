-- What a line of a claim says by its first word.
use Rattle.std.proofs.Common.{◌≡◌, ℕ, true, false, List, [], ◌∷◌, Err, refl, codes}
use Rattle.std.specs.Str.{bytes_eq}
use Rattle.text_lines.specs.declared.faults.TextKind.TheVariants.{BadLine}
use Rattle.claim_lines.specs.Claim.{Claim, flow_line, node_line, claim_form}

pub form-none : (ns : List (List ℕ)) (c : Claim) (ws : List (List ℕ)) → ws ≡ [] → claim_form ns c ws ≡ Err BadLine
unfolding claim_form
form-none ns c ws e = rw e refl

pub form-pass : (ns : List (List ℕ)) (c : Claim) (ws others : List (List ℕ)) (word : List ℕ) → ws ≡ word ∷ others → bytes_eq word (codes "pass") ≡ true → claim_form ns c ws ≡ node_line ns true c others
unfolding claim_form
form-pass ns c ws others word e p = rw (e, p) refl

pub form-full : (ns : List (List ℕ)) (c : Claim) (ws others : List (List ℕ)) (word : List ℕ) → ws ≡ word ∷ others → bytes_eq word (codes "pass") ≡ false → bytes_eq word (codes "full") ≡ true →
    claim_form ns c ws ≡ node_line ns false c others
unfolding claim_form
form-full ns c ws others word e p f = rw (e, p, f) refl

pub form-flow : (ns : List (List ℕ)) (c : Claim) (ws others : List (List ℕ)) (word : List ℕ) → ws ≡ word ∷ others → bytes_eq word (codes "pass") ≡ false → bytes_eq word (codes "full") ≡ false →
    bytes_eq word (codes "flow") ≡ true → claim_form ns c ws ≡ flow_line ns c others
unfolding claim_form
form-flow ns c ws others word e p f l = rw (e, p, f, l) refl

pub form-other : (ns : List (List ℕ)) (c : Claim) (ws others : List (List ℕ)) (word : List ℕ) → ws ≡ word ∷ others → bytes_eq word (codes "pass") ≡ false → bytes_eq word (codes "full") ≡ false →
    bytes_eq word (codes "flow") ≡ false → claim_form ns c ws ≡ Err BadLine
unfolding claim_form
form-other ns c ws others word e p f l = rw (e, p, f, l) refl
