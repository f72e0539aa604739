-- What follows a front of a path.
use Rattle.std.proofs.Common.{◌≡◌, ◌≢◌, ℕ, Bool, true, false, cond, List, [], ◌++◌, length, take, drop, refl, sym, ap, ◌∙◌, arith}
use Rattle.std.proofs.lemmas.List.{take-append-drop, take-append-le, take_all}
use Rattle.std.proofs.lemmas.Slice.Eq.{bytes_eq-Decides}
use Rattle.http_paths.specs.Places.{begins_with}
use Rattle.http_requests.specs.Pages.{part_after}

front_is : (front rest : List ℕ) → take (length front) (front ++ rest) ≡ front
front_is front rest = take-append-le (length front) front rest (omega arith) ∙ take_all (length front) front (omega arith)

pub part-found : (front path part : List ℕ) (n : ℕ) → n ≡ length front → path ≡ front ++ drop n path → part ≡ drop n path → part ≡ part_after front path
part-found front path part n long begins is =
    let same : take (length front) path ≡ front = ap (take (length front)) begins ∙ front_is front (drop n path) in
    let starts : begins_with front path ≡ true = (bytes_eq-Decides (take (length front) path) front).1 same in
    is ∙ ap (λ k. drop k path) long ∙ sym (ap (λ v. cond v (drop (length front) path) []) starts)

pub part-none : (front path : List ℕ) → ((rest : List ℕ) → path ≢ front ++ rest) → [] ≡ part_after front path
part-none front path lacks = by (begins_with front path) refl
  where
    by : (v : Bool) → begins_with front path ≡ v → [] ≡ part_after front path
    by false e = sym (ap (λ v. cond v (drop (length front) path) []) e)
    by true e =
        let same : take (length front) path ≡ front = (bytes_eq-Decides (take (length front) path) front).0 e in
        let whole : path ≡ front ++ drop (length front) path = sym (take-append-drop (length front) path) ∙ ap (λ (l : List ℕ). l ++ drop (length front) path) same in
        absurd (lacks (drop (length front) path) whole)
