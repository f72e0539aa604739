-- What a text becomes, one step after another.
use Rattle.std.proofs.Common.{ℕ, zero, suc, Bool, true, false, ◌≡◌, ◌≤◌, ◌<◌, ◌-◌, ◌⊎◌, inl, inr, List, [], ◌∷◌, ◌++◌, length, length-drop, drop, refl, sym, ap, ◌∙◌, arith, lit<, cond, append-nil}
use Rattle.std.specs.Prelude.{Option, Some, None, not, ◌==◌, ◌||◌, unwrap_or}
use Rattle.std.specs.Option.{option_and_then}
use Rattle.std.proofs.lemmas.Bool.Decides.{nat_tests}
use Rattle.markup.specs.declared.elements.Element.{Element}
use Rattle.markup.specs.declared.elements.Element.TheVariants.{A}
use Rattle.markup.specs.Elements.{is_open}
use Rattle.markup.specs.Escapes.{is_plain, escape_of}
use Rattle.markup.specs.Tags.{Tag, LineBreak, PageLink, AnchorStart, Start, End, Found, tag_at}
use Rattle.markup.specs.Cleaning.{Step, is_full, by_rule, as_text, step_at, cleaned_from}
use Rattle.markup.proofs.Fronts.{escape_of-plain}
use Rattle.markup.proofs.Tagging.{found-tag}

-- The rest is what is left of the text behind some of its bytes.
pub record IsRest (text rest : List ℕ) : Type 0 where
  pub taken : ℕ
  pub some : 0 < taken
  pub fits : taken ≤ length text
  pub is : rest ≡ drop taken text

pub rest-shorter : (text rest : List ℕ) → IsRest text rest → length rest < length text
rest-shorter text rest h = omega (arith, h.some, h.fits, ap length h.is, length-drop h.taken text)

-- Bytes that are taken are passed over.
cleaned-taken : (opened : List Element) (taken : ℕ) (text : List ℕ) → cleaned_from opened taken text ≡ cleaned_from opened 0 (drop taken text)
unfolding cleaned_from
cleaned-taken opened zero text = refl
cleaned-taken opened (suc taken) [] = refl
cleaned-taken opened (suc taken) (byte ∷ text) = cleaned-taken opened taken text

drop-to_rest : (byte : ℕ) (text rest : List ℕ) (taken : ℕ) → 0 < taken → taken ≤ length (byte ∷ text) → rest ≡ drop taken (byte ∷ text) → drop (length text - length rest) text ≡ rest
drop-to_rest byte text rest zero some fits is = absurd (omega arith)
drop-to_rest byte text rest (suc taken) some fits is =
    let so_many : length text - length rest ≡ taken = omega (arith, ap length is, length-drop taken text) in
    ap (λ n. drop n text) so_many ∙ sym is

-- One step, and what becomes of the rest.
pub cleaned-step_at : (opened : List Element) (byte : ℕ) (text : List ℕ) (step : Step) → step_at opened (byte ∷ text) ≡ step → IsRest (byte ∷ text) step.rest →
    cleaned_from opened 0 (byte ∷ text) ≡ step.written ++ cleaned_from step.opened 0 step.rest
unfolding cleaned_from
cleaned-step_at opened byte text step same h =
    ap (λ s. s.written ++ cleaned_from s.opened (length text - length s.rest) text) same
    ∙ ap (λ out. step.written ++ out)
    (cleaned-taken step.opened (length text - length step.rest) text ∙ ap (λ rest. cleaned_from step.opened 0 rest) (drop-to_rest byte text step.rest h.taken h.some h.fits h.is))

-- A step is that of the tag that stands there, or it is text.
by-tag : (f : Found) (g : Found → Option Step) (d : Step) (r : Option Step) → g f ≡ r →
    ((found : Found) × (Some f ≡ Some found) × (g found ≡ Some (unwrap_or (g f) d))) ⊎ (unwrap_or (g f) d ≡ d)
by-tag f g d (Some s) e = inl (f, refl, e ∙ ap (λ r. Some (unwrap_or r d)) (sym e))
by-tag f g d None e = inr (ap (λ r. unwrap_or r d) e)

by-cases : (o : Option Found) (g : Found → Option Step) (d : Step) →
    ((found : Found) × (o ≡ Some found) × (g found ≡ Some (unwrap_or (option_and_then g o) d))) ⊎ (unwrap_or (option_and_then g o) d ≡ d)
by-cases None g d = inr refl
by-cases (Some f) g d = by-tag f g d (g f) refl

pub step-cases : (opened : List Element) (text : List ℕ) →
    ((found : Found) × (tag_at text ≡ Some found) × (by_rule opened found ≡ Some (step_at opened text))) ⊎ (step_at opened text ≡ as_text opened text)
unfolding step_at
step-cases opened text = by-cases (tag_at text) (by_rule opened) (as_text opened text)

-- A rule that applies leaves what is behind its tag.
pub unless : (b : Bool) (s t : Step) → cond b None (Some s) ≡ Some t → (b ≡ false) × (s ≡ t)
unless true s t e = absurd (cc)
unless false s t e = (refl, cc)

rest-by : (opened : List Element) (tag : Tag) (rest : List ℕ) (s : Step) → by_rule opened (record { tag = tag; rest = rest }) ≡ Some s → s.rest ≡ rest
unfolding by_rule
rest-by opened LineBreak rest s e = let same : rest ≡ s.rest = cc in sym same
rest-by opened (PageLink page name) rest s e = ap (λ t. t.rest) (sym (unless (is_open A opened) _ s e).1)
rest-by opened (AnchorStart url) rest s e = ap (λ t. t.rest) (sym (unless (is_open A opened || is_full opened) _ s e).1)
rest-by opened (Start x) rest s e = ap (λ t. t.rest) (sym (unless (is_full opened) _ s e).1)
rest-by opened (End x) rest s e = ap (λ t. t.rest) (sym (unless (not (is_open x opened)) _ s e).1)

pub by_rule-rest : (opened : List Element) (found : Found) (s : Step) → by_rule opened found ≡ Some s → s.rest ≡ found.rest
by_rule-rest opened found s e = rest-by opened found.tag found.rest s e

pub step-rest : (opened : List Element) (text : List ℕ) → 0 < length text → IsRest text (step_at opened text).rest
step-rest opened text more = elim (step-cases opened text) [
  | inl h ↦
      let behind = (found-tag text h.0 h.1).behind in
      record { taken = behind.taken; some = behind.cut.some; fits = behind.cut.fits; is = by_rule-rest opened h.0 (step_at opened text) h.2 ∙ behind.is }
  | inr is ↦ record { taken = 1; some = lit< tt; fits = omega arith; is = ap (λ s. s.rest) is }
]

pub cleaned-step : (opened : List Element) (text : List ℕ) → 0 < length text →
    cleaned_from opened 0 text ≡ (step_at opened text).written ++ cleaned_from (step_at opened text).opened 0 (step_at opened text).rest
cleaned-step opened [] more = absurd (omega arith)
cleaned-step opened (byte ∷ text) more = cleaned-step_at opened byte text (step_at opened (byte ∷ text)) refl (step-rest opened (byte ∷ text) more)

-- A plain byte is text.
not-bracket : (b : ℕ) → is_plain b ≡ true → (60 == b) ≡ false
not-bracket b e = grind (arith, nat_tests)

no-tag : (b : ℕ) (text : List ℕ) → is_plain b ≡ true → tag_at (b ∷ text) ≡ None
unfolding tag_at
no-tag b text plain = rw (not-bracket b plain) refl

pub cleaned-cons : (opened : List Element) (b : ℕ) (text : List ℕ) → is_plain b ≡ true → cleaned_from opened 0 (b ∷ text) ≡ b ∷ cleaned_from opened 0 text
unfolding step_at
cleaned-cons opened b text plain =
    let is : step_at opened (b ∷ text) ≡ as_text opened (b ∷ text) =
    ap (λ o. unwrap_or (option_and_then (by_rule opened) o) (as_text opened (b ∷ text))) (no-tag b text plain) in
    cleaned-step_at opened b text (as_text opened (b ∷ text)) is (record { taken = 1; some = lit< tt; fits = omega arith; is = refl })
    ∙ ap (λ front. front ++ cleaned_from opened 0 text) (append-nil (escape_of b) ∙ escape_of-plain b plain)
