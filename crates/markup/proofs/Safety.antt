-- Cleaned text is safe, and so is escaped text.
use Rattle.std.proofs.Common.{ℕ, zero, suc, Bool, true, false, ◌≡◌, ◌≤◌, ◌<◌, ◌+◌, ◌-◌, inl, inr, List, [], ◌∷◌, ◌++◌, length, length-append, get_or, refl, sym, ap, subst, ◌∙◌, arith, lit<, cond, append_assoc, append-nil}
use Rattle.std.specs.Prelude.{Some, not, ◌||◌, Contains, codes, encode_utf8}
use Rattle.std.specs.Str.{IsUtf8}
use Rattle.std.proofs.lemmas.Bool.{and_parts, cases_lt}
use Rattle.std.proofs.lemmas.Bool.Decides.{nat_tests}
use Rattle.std.proofs.lemmas.Str.{encode_ascii, inside_one, byte_from_char, length-encode, len_utf8_bounds}
use lib.Utf8.{scalar, scalars, encode, encodes, low_scalar}
use Rattle.markup.specs.declared.elements.Element.{Element}
use Rattle.markup.specs.declared.elements.Element.TheVariants.{A}
use Rattle.markup.specs.Elements.{bare, is_open, is_same, link, start_tag, end_tag, anchor_tag}
use Rattle.markup.specs.Escapes.{is_plain, escape_of, escaped}
use Rattle.markup.specs.Tags.{Tag, LineBreak, PageLink, AnchorStart, Start, End}
use Rattle.markup.specs.Cleaning.{Step, is_full, end_tags, end_tags_through, below, by_rule, step_at, cleaned_from, cleaned}
use Rattle.markup.specs.Safe.{IsSafe, Empty, Character, Escape, Anchor, Bare, IsSafeHtml}
use Rattle.markup.specs.Safe as safe
use Rattle.markup.proofs.Each.{not-true, on-bare}
use Rattle.markup.proofs.Fronts.{high-plain, high-then, escape_of-plain, escaped-cons}
use Rattle.markup.proofs.Tagging.{IsCut, IsSound, IsUtf8-behind, found-tag}
use Rattle.markup.proofs.Cleaned.{unless, cleaned-step_at, cleaned-cons, step-cases, step-rest, rest-shorter, by_rule-rest}

-- Whether an a is around what is written while these elements are open, and how many more may be opened.
abbrev in_anchor : List Element → Bool
in_anchor opened = is_open A opened

abbrev room : List Element → ℕ
room opened = 64 - length opened

-- Text that is safe within these elements, and a piece that may stand before such text.
abbrev IsSafeIn : List Element → List ℕ → Type 0
IsSafeIn opened text = IsSafe (in_anchor opened) (room opened) text

abbrev MayPrecede : List Element → List ℕ → Type 0
MayPrecede opened piece = (text : List ℕ) → IsSafeIn opened text → IsSafeIn opened (piece ++ text)

-- Bytes that may follow while these elements are open: safe text within the uppermost, its end tag, and what may follow then.
MayFollow : List Element → List ℕ → Type 0
MayFollow [] out = IsSafeHtml out
MayFollow (x ∷ opened) out = (inside : List ℕ) × (rest : List ℕ) × IsSafeIn (x ∷ opened) inside × MayFollow opened rest × (out ≡ inside ++ end_tag x ++ rest)

regroup : (p i e r : List ℕ) → p ++ ((i ++ e) ++ r) ≡ ((p ++ i) ++ e) ++ r
regroup p i e r = simp append_assoc

prepend : (opened : List Element) (piece out : List ℕ) → MayPrecede opened piece → MayFollow opened out → MayFollow opened (piece ++ out)
unfolding MayFollow
prepend [] piece out put h = put out h
prepend (x ∷ opened) piece out put h =
    (piece ++ h.0, h.1, put h.0 h.2, h.3, ap (λ o. piece ++ o) h.4 ∙ regroup piece h.0 (end_tag x) h.1)

-- A start tag, safe text and its end tag may stand before safe text.
abbrev Wraps : Bool → Bool → ℕ → Element → List ℕ → Type 0
Wraps inner outer room x tag = (inside text : List ℕ) → IsSafe inner room inside → IsSafe outer (suc room) text → IsSafe outer (suc room) (tag ++ inside ++ end_tag x ++ text)

opens : (opened : List Element) (x : Element) (tag out : List ℕ) → length opened < 64 → Wraps (in_anchor (x ∷ opened)) (in_anchor opened) (room (x ∷ opened)) x tag →
    MayFollow (x ∷ opened) out → MayFollow opened (tag ++ out)
unfolding MayFollow
opens opened x tag out more wraps h =
    let roomy : room opened ≡ suc (room (x ∷ opened)) = omega arith in
    let put : MayPrecede opened (tag ++ h.0 ++ end_tag x) = λ (text : List ℕ) (ok : IsSafeIn opened text).
    subst (λ r. IsSafe (in_anchor opened) r (tag ++ h.0 ++ end_tag x ++ text)) (sym roomy) (wraps h.0 text h.2 (subst (λ r. IsSafe (in_anchor opened) r text) roomy ok)) in
    subst (MayFollow opened) (sym (ap (λ o. tag ++ o) h.4 ∙ regroup tag h.0 (end_tag x) h.1)) (prepend opened (tag ++ h.0 ++ end_tag x) h.1 put h.3)

-- Elements that are closed.
closes-top : (opened : List Element) (x : Element) (out : List ℕ) → MayFollow opened out → MayFollow (x ∷ opened) (end_tag x ++ out)
unfolding MayFollow
closes-top opened x out h = ([], out, Empty, h, refl)

closes-by : (opened : List Element) (x top : Element) (out : List ℕ) (b : Bool) → MayFollow (cond b opened (below x opened)) out →
    (MayFollow (below x opened) out → MayFollow opened (end_tags_through x opened ++ out)) →
    MayFollow (top ∷ opened) ((end_tag top ++ cond b [] (end_tags_through x opened)) ++ out)
closes-by opened x top out true h others = subst (λ t. MayFollow (top ∷ opened) (t ++ out)) (sym (append-nil (end_tag top))) (closes-top opened top out h)
closes-by opened x top out false h others =
    subst (MayFollow (top ∷ opened)) (sym (append_assoc (end_tag top) (end_tags_through x opened) out)) (closes-top opened top (end_tags_through x opened ++ out) (others h))

closes : (x : Element) (opened : List Element) (out : List ℕ) → MayFollow (below x opened) out → MayFollow opened (end_tags_through x opened ++ out)
unfolding end_tags_through below
closes x [] out h = h
closes x (top ∷ opened) out h = closes-by opened x top out (is_same x top) h (closes x opened out)

closes-all : (opened : List Element) → MayFollow opened (end_tags opened)
unfolding MayFollow
closes-all [] = Empty
closes-all (x ∷ opened) = closes-top opened x (end_tags opened) (closes-all opened)

-- One character.
small-by : (in_anchor : Bool) (room : ℕ) (c : ℕ) (text : List ℕ) (b : Bool) → is_plain c ≡ b → c < 128 → IsSafe in_anchor room text → IsSafe in_anchor room (escape_of c ++ text)
small-by in_anchor room c text false e small ok = Escape c e ok
small-by in_anchor room c text true e small ok =
    let same : escape_of c ≡ encode_utf8 c = escape_of-plain c e ∙ sym (encode_ascii c small) in
    subst (λ p. IsSafe in_anchor room (p ++ text)) (sym same) (Character c (low_scalar c (omega arith)) e ok)

small-safe : (in_anchor : Bool) (room : ℕ) (c : ℕ) (text : List ℕ) → c < 128 → IsSafe in_anchor room text → IsSafe in_anchor room (escape_of c ++ text)
small-safe in_anchor room c text small ok = small-by in_anchor room c text (is_plain c) refl small ok

pub encode-high : (c : ℕ) → 128 ≤ c → (k : ℕ) → k < length (encode c) → 128 ≤ get_or (encode c) k 0
encode-high c big k below = elim (cases_lt (get_or (encode c) k 0) 128) [
  | inl low ↦ absurd (omega (arith, inside_one c [] (encode c) k (sym (append-nil (encode c))) below low))
  | inr h ↦ h
]

pub escaped-append : (xs ys : List ℕ) → escaped (xs ++ ys) ≡ escaped xs ++ escaped ys
escaped-append [] ys = refl
escaped-append (x ∷ xs) ys = ap (λ l. escape_of x ++ l) (escaped-append xs ys) ∙ sym (append_assoc (escape_of x) (escaped xs) (escaped ys))

-- Escaped text is safe.
pub escaped-safe_then : (c : ℕ) (text : List ℕ) → scalar c ≡ true → IsSafeHtml (escaped text) → IsSafeHtml (escaped (encode c ++ text))
escaped-safe_then c text ok rest = elim (cases_lt c 128) [
  | inl small ↦ subst (λ p. IsSafeHtml (escaped (p ++ text))) (sym (encode_ascii c small)) (small-safe false 64 c (escaped text) small rest)
  | inr big ↦ subst IsSafeHtml (sym (high-then escaped escaped-cons (encode c) text (encode-high c big))) (Character c ok (high-plain c big) rest)
]

all-safe : (cs : List ℕ) → scalars cs ≡ true → IsSafeHtml (escaped (encodes cs))
all-safe [] e = Empty
all-safe (c ∷ cs) e = let p = and_parts (scalar c) (scalars cs) e in escaped-safe_then c (encodes cs) p.0 (all-safe cs p.1)

pub escaped-safe : (text : List ℕ) → IsUtf8 text → IsSafeHtml (escaped text)
escaped-safe text utf8 = subst (λ t. IsSafeHtml (escaped t)) utf8.1.1 (all-safe utf8.0 utf8.1.0)

-- A rule leaves what may follow.
neither : (a b : Bool) → a || b ≡ false → (a ≡ false) × (b ≡ false)
neither true b e = absurd (cc)
neither false b e = (refl, e)

has-room : (opened : List Element) → is_full opened ≡ false → length opened < 64
has-room opened e = grind (arith, nat_tests)

in_anchor-a : (opened : List Element) → in_anchor (A ∷ opened) ≡ true
unfolding is_same
in_anchor-a opened = refl

in_anchor-bare : (x : Element) (opened : List Element) → Contains bare x → in_anchor (x ∷ opened) ≡ in_anchor opened
unfolding is_same
in_anchor-bare x opened is_one =
    ap (λ b. b || in_anchor opened) (not-true (is_same A x) (on-bare (λ x. not (is_same A x)) refl x is_one))

abbrev Leads : List Element → List ℕ → Step → Type 0
Leads opened out step = MayFollow step.opened out → MayFollow opened (step.written ++ out)

rule-safe : (opened : List Element) (text : List ℕ) (tag : Tag) (rest : List ℕ) (s : Step) (out : List ℕ) → by_rule opened (record { tag = tag; rest = rest }) ≡ Some s →
    IsUtf8 text → IsSound text tag → Leads opened out s
unfolding by_rule
rule-safe opened text LineBreak rest s out e utf8 sound =
    let same : record { written = codes "<br>"; opened = opened; rest = rest } ≡ s = cc in
    subst (Leads opened out) same (prepend opened (codes "<br>") out (λ text ok. safe.LineBreak ok))
rule-safe opened text (PageLink page name) rest s out e utf8 sound =
    let h = unless (is_open A opened) _ s e in
    let put : MayPrecede opened (link page name) =
    subst (λ b. (text : List ℕ) → IsSafe b (room opened) text → IsSafe b (room opened) (link page name ++ text)) (sym h.0) (λ text ok. safe.PageLink page name sound ok) in
    subst (Leads opened out) h.1 (prepend opened (link page name) out put)
rule-safe opened text (AnchorStart url) rest s out e utf8 sound =
    let h = unless (is_open A opened || is_full opened) _ s e in
    let free = neither (is_open A opened) (is_full opened) h.0 in
    let r : ℕ = room (A ∷ opened) in
    let wraps : Wraps (in_anchor (A ∷ opened)) (in_anchor opened) r A (anchor_tag url) =
    subst (λ b. Wraps b (in_anchor opened) r A (anchor_tag url)) (sym (in_anchor-a opened))
    (subst (λ b. Wraps true b r A (anchor_tag url)) (sym free.0) (λ inside text within ok. Anchor url (sound.1 utf8) sound.0 within ok)) in
    subst (Leads opened out) h.1 (opens opened A (anchor_tag url) out (has-room opened free.1) wraps)
rule-safe opened text (Start x) rest s out e utf8 sound =
    let h = unless (is_full opened) _ s e in
    let r : ℕ = room (x ∷ opened) in
    let wraps : Wraps (in_anchor (x ∷ opened)) (in_anchor opened) r x (start_tag x) =
    subst (λ b. Wraps b (in_anchor opened) r x (start_tag x)) (sym (in_anchor-bare x opened sound)) (λ inside text within ok. Bare x sound within ok) in
    subst (Leads opened out) h.1 (opens opened x (start_tag x) out (has-room opened h.0) wraps)
rule-safe opened text (End x) rest s out e utf8 sound =
    subst (Leads opened out) (unless (not (is_open x opened)) _ s e).1 (closes x opened out)

-- So does a step at an ASCII byte, and behind it the text goes on.
step-safe : (opened : List Element) (b : ℕ) (more out : List ℕ) → b < 128 → IsUtf8 (b ∷ more) → Leads opened out (step_at opened (b ∷ more))
step-safe opened b more out small utf8 = elim (step-cases opened (b ∷ more)) [
  | inl h ↦ rule-safe opened (b ∷ more) h.0.tag h.0.rest (step_at opened (b ∷ more)) out h.2 utf8 (found-tag (b ∷ more) h.0 h.1).sound
  | inr is ↦
      let put : MayPrecede opened (escaped (b ∷ [])) = λ (text : List ℕ) (ok : IsSafeIn opened text).
      subst (λ p. IsSafeIn opened (p ++ text)) (sym (append-nil (escape_of b))) (small-safe (in_anchor opened) (room opened) b text small ok) in
      subst (Leads opened out) (sym is) (prepend opened (escaped (b ∷ [])) out put)
]

step-utf8 : (opened : List Element) (b : ℕ) (more : List ℕ) → b < 128 → IsUtf8 (b ∷ more) → IsUtf8 (step_at opened (b ∷ more)).rest
step-utf8 opened b more small utf8 = elim (step-cases opened (b ∷ more)) [
  | inl h ↦
      let behind = (found-tag (b ∷ more) h.0 h.1).behind in
      subst IsUtf8 (sym (by_rule-rest opened h.0 (step_at opened (b ∷ more)) h.2 ∙ behind.is)) (IsUtf8-behind (b ∷ more) behind.taken behind.cut utf8)
  | inr is ↦
      let cut : IsCut (b ∷ more) 1 = record { some = lit< tt; fits = omega arith; last = small } in
      subst IsUtf8 (sym (ap (λ s. s.rest) is)) (IsUtf8-behind (b ∷ more) 1 cut utf8)
]

high-char : (b : ℕ) (more : List ℕ) (c : ℕ) (rest : List ℕ) → 128 ≤ b → b ∷ more ≡ encode c ++ rest → 128 ≤ c
high-char b more c rest high e = elim (cases_lt c 128) [
  | inl small ↦ let same : b ≡ c = byte_from_char (b ∷ more) rest c e small in absurd (omega arith)
  | inr big ↦ big
]

-- What is written from a place on may follow what was written before: one step, or one longer character, and then the rest.
module _ (n : ℕ) (before : (opened : List Element) (text : List ℕ) → length text ≤ n → IsUtf8 text → MayFollow opened (cleaned_from opened 0 text)) where
  safe-low : (opened : List Element) (b : ℕ) (more : List ℕ) → length more ≤ n → b < 128 → IsUtf8 (b ∷ more) → MayFollow opened (cleaned_from opened 0 (b ∷ more))
  safe-low opened b more long small utf8 =
      let step : Step = step_at opened (b ∷ more) in
      let rest = step-rest opened (b ∷ more) (omega arith) in
      let short : length step.rest ≤ n = omega (arith, rest-shorter (b ∷ more) step.rest rest) in
      subst (MayFollow opened) (sym (cleaned-step_at opened b more step refl rest))
      (step-safe opened b more (cleaned_from step.opened 0 step.rest) small utf8 (before step.opened step.rest short (step-utf8 opened b more small utf8)))

  safe-high : (opened : List Element) (b : ℕ) (more : List ℕ) → length more ≤ n → 128 ≤ b → (cs : List ℕ) → scalars cs ≡ true → encodes cs ≡ b ∷ more → MayFollow opened (cleaned_from opened 0 (b ∷ more))
  safe-high opened b more long high [] ok e = absurd (cc)
  safe-high opened b more long high (c ∷ cs) ok e =
      let p = and_parts (scalar c) (scalars cs) ok in
      let big : 128 ≤ c = high-char b more c (encodes cs) high (sym e) in
      let some : 0 < length (encode c) = omega (arith, length-encode c, (len_utf8_bounds c).0) in
      let lengths : length (encode c) + length (encodes cs) ≡ length (b ∷ more) = sym (length-append (encode c) (encodes cs)) ∙ ap length e in
      let short : length (encodes cs) ≤ n = omega (arith, some, lengths) in
      let fin : MayFollow opened (cleaned_from opened 0 (encodes cs)) = before opened (encodes cs) short (cs, (p.1, refl)) in
      let put : MayPrecede opened (encode c) = λ text ok. Character c p.0 (high-plain c big) ok in
      subst (λ t. MayFollow opened (cleaned_from opened 0 t)) e
      (subst (MayFollow opened) (sym (high-then (cleaned_from opened 0) (cleaned-cons opened) (encode c) (encodes cs) (encode-high c big))) (prepend opened (encode c) (cleaned_from opened 0 (encodes cs)) put fin))

safe-from : (n : ℕ) (opened : List Element) (text : List ℕ) → length text ≤ n → IsUtf8 text → MayFollow opened (cleaned_from opened 0 text)
unfolding cleaned_from
safe-from n opened [] long utf8 = closes-all opened
safe-from zero opened (b ∷ more) long utf8 = absurd (omega arith)
safe-from (suc n) opened (b ∷ more) long utf8 = elim (cases_lt b 128) [
  | inl small ↦ safe-low n (safe-from n) opened b more (omega arith) small utf8
  | inr high ↦ safe-high n (safe-from n) opened b more (omega arith) high utf8.0 utf8.1.0 utf8.1.1
]

pub cleaned-safe : (text : List ℕ) → IsUtf8 text → IsSafeHtml (cleaned text)
unfolding MayFollow
cleaned-safe text utf8 = safe-from (length text) [] text (omega arith) utf8
