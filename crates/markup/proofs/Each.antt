-- What a test says of each element.
use Rattle.std.proofs.Common.{Bool, true, false, ◌≡◌, ◌∷◌, refl, lit<}
use Rattle.std.specs.Prelude.{not, Contains}
use Rattle.std.specs.List.{list_all}
use Rattle.std.proofs.lemmas.List.Elements.{All-contains}
use Rattle.std.proofs.lemmas.List.Sums.{AllPass-from_list_all}
use Rattle.markup.specs.declared.elements.Element.{Element}
use Rattle.markup.specs.declared.elements.Element.TheVariants.{A, B, I, Em, Strong, Tt, Code, Pre, P, Blockquote, Ul, Ol, Li}
use Rattle.markup.specs.Elements.{bare}

pub not-true : (b : Bool) → not b ≡ true → b ≡ false
not-true true e = absurd (cc)
not-true false e = refl

-- A test that holds of each element, by computing.
pub on-all : (p : Element → Bool) → list_all p (A ∷ bare) ≡ true → (x : Element) → p x ≡ true
on-all p e A = AllPass-from_list_all p (A ∷ bare) e 0 A (lit< tt)
on-all p e B = AllPass-from_list_all p (A ∷ bare) e 1 A (lit< tt)
on-all p e I = AllPass-from_list_all p (A ∷ bare) e 2 A (lit< tt)
on-all p e Em = AllPass-from_list_all p (A ∷ bare) e 3 A (lit< tt)
on-all p e Strong = AllPass-from_list_all p (A ∷ bare) e 4 A (lit< tt)
on-all p e Tt = AllPass-from_list_all p (A ∷ bare) e 5 A (lit< tt)
on-all p e Code = AllPass-from_list_all p (A ∷ bare) e 6 A (lit< tt)
on-all p e Pre = AllPass-from_list_all p (A ∷ bare) e 7 A (lit< tt)
on-all p e P = AllPass-from_list_all p (A ∷ bare) e 8 A (lit< tt)
on-all p e Blockquote = AllPass-from_list_all p (A ∷ bare) e 9 A (lit< tt)
on-all p e Ul = AllPass-from_list_all p (A ∷ bare) e 10 A (lit< tt)
on-all p e Ol = AllPass-from_list_all p (A ∷ bare) e 11 A (lit< tt)
on-all p e Li = AllPass-from_list_all p (A ∷ bare) e 12 A (lit< tt)

pub on-bare : (p : Element → Bool) → list_all p bare ≡ true → (x : Element) → Contains bare x → p x ≡ true
on-bare p e x is_one = All-contains (λ x. p x ≡ true) bare x (AllPass-from_list_all p bare e) is_one
