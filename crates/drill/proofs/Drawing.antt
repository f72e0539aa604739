-- Certificates, drawn one after another.
use Rattle.std.proofs.Common.{◌≡◌, ◌≢◌, ℕ, zero, suc, ◌+◌, ◌<◌, Bool, true, false, nat_eq, List, [], ◌∷◌, ◌++◌, refl, sym, ap, subst, ◌∙◌, arith, All, length}
use Rattle.std.proofs.lemmas.Bool.Decides.{nat_tests}
use Rattle.std.proofs.lemmas.List.{append_assoc, append-nil, length_push}
use Rattle.std.proofs.lemmas.List.Elements.{All-nil, All-cons}
use Rattle.trust_types.specs.declared.graphs.Cert.{Cert}
use Rattle.cert_log.specs.Standing.{IsBetween}
use Rattle.drill.specs.Draws.{next, drawn, taker, cert_from, certs_from}

-- What was drawn, and what is still to be drawn of so many.
pub record Drawn (number i state : ℕ) (made : List Cert) : Type 0 where
  pub left : ℕ
  pub all : i + left ≡ 20000
  pub count : length made ≡ i
  pub same : made ++ certs_from left state ≡ certs_from 20000 number

pub drawn-none : (number : ℕ) → Drawn number 0 number []
drawn-none number = record { left = 20000; all = refl; count = refl; same = refl }

more_by : (number i state left : ℕ) (made : List Cert) → i < 20000 → i + left ≡ 20000 → length made ≡ i → made ++ certs_from left state ≡ certs_from 20000 number →
    Drawn number (i + 1) (next (next (next state))) (made ++ cert_from state ∷ [])
unfolding certs_from
more_by number i state zero made lt all count same = absurd (omega (arith, all))
more_by number i state (suc left) made lt all count same = record {
  left = left;
  all = omega (arith, all);
  count = length_push made (cert_from state) ∙ ap (λ n. n + 1) count;
  same = append_assoc made (cert_from state ∷ []) (certs_from left (next (next (next state)))) ∙ same;
}

pub drawn-more : (number i state later : ℕ) (made : List Cert) (c : Cert) → i < 20000 → c ≡ cert_from state → later ≡ next (next (next state)) → Drawn number i state made →
    Drawn number (i + 1) later (made ++ c ∷ [])
drawn-more number i state later made c lt is then_is d =
    subst (λ s. Drawn number (i + 1) s (made ++ c ∷ [])) (sym then_is)
    (subst (λ x. Drawn number (i + 1) (next (next (next state))) (made ++ x ∷ [])) (sym is) (more_by number i state d.left made lt d.all d.count d.same))

all_by : (left state : ℕ) (made : List Cert) → left ≡ 0 → made ++ certs_from left state ≡ made
unfolding certs_from
all_by left state made e = rw e (append-nil made)

pub drawn-all : (number i state : ℕ) (made : List Cert) → i ≡ 20000 → Drawn number i state made → made ≡ certs_from 20000 number
drawn-all number i state made end d = sym (all_by d.left state made (omega (arith, d.all))) ∙ d.same

taker_by : (a b : ℕ) (same : Bool) → a < 2000 → b < 2000 → nat_eq a b ≡ same → (taker a b < 2000) × (a ≢ taker a b)
taker_by a b true small below e = rw e (omega arith, λ clash. omega arith)
taker_by a b false small below e = rw e (below, λ clash. grind (arith, nat_tests))

pub taker-other : (a b : ℕ) → a < 2000 → b < 2000 → (taker a b < 2000) × (a ≢ taker a b)
taker-other a b small below = taker_by a b (nat_eq a b) small below refl

drawn-below : (s : ℕ) → drawn 2000 s < 2000
drawn-below s = omega arith

pub cert-between : (s : ℕ) → IsBetween 2000 (cert_from s)
cert-between s =
    let other = taker-other (drawn 2000 (next s)) (drawn 2000 (next (next s))) (drawn-below (next s)) (drawn-below (next (next s))) in
    record { giver = drawn-below (next s); taker = other.0; others = other.1 }

pub certs-between : (n s : ℕ) → All (IsBetween 2000) (certs_from n s)
unfolding certs_from
certs-between zero s = All-nil (IsBetween 2000)
certs-between (suc n) s = All-cons (IsBetween 2000) (cert_from s) (certs_from n (next (next (next s)))) (cert-between s) (certs-between n (next (next (next s))))
