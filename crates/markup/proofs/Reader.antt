-- A reader that knows nothing of the grammar finds no tags in safe markup but those that it may have.
use Rattle.std.proofs.Common.{ℕ, Bool, true, false, ◌≡◌, ◌<◌, ◌≤◌, suc, inl, inr, List, [], ◌∷◌, ◌++◌, length, get_or, drop, refl, sym, ap, subst, ◌∙◌, arith, rules, cond, append_assoc, append-nil}
use Rattle.std.specs.Prelude.{◌&&◌, ◌||◌, ◌==◌, not, nat_eq, codes, Some, None, Contains, All}
use Rattle.std.specs.List.{list_any, list_all, starts_with}
use Rattle.std.specs.Str.{bytes_eq}
use Rattle.std.proofs.lemmas.Bool.{and_parts, cases_lt}
use Rattle.std.proofs.lemmas.Bool.Decides.{nat_tests}
use Rattle.std.proofs.lemmas.Str.{encode_ascii}
use Rattle.std.proofs.lemmas.List.Elements.{All-cons, All-nil}
use Rattle.std.proofs.lemmas.List.Folds.{list_all-append}
use Rattle.std.proofs.lemmas.List.{take-append-drop}
use lib.Utf8.{encode}
use Rattle.trust_types.specs.Names.{IsName, is_name_byte}
use Rattle.markup.specs.declared.elements.Element.{Element}
use Rattle.markup.specs.declared.elements.Element.TheVariants.{A}
use Rattle.markup.specs.declared.elements.Page.{Page}
use Rattle.markup.specs.declared.elements.Page.TheVariants.{Person, Project}
use Rattle.markup.specs.Elements.{bare, name_of, start_tag, end_tag, link, anchor_tag}
use Rattle.markup.specs.Escapes.{is_plain, escape_of, escaped}
use Rattle.markup.specs.Urls.{is_url, is_url_byte, has_scheme}
use Rattle.markup.specs.Safe.{IsSafe, Empty, Character, Escape, PageLink, Anchor, Bare}
use Rattle.markup.specs.Safe as safe
use Rattle.markup.specs.Reader.{tags_from, tags, is_value_byte, is_target, element_names, IsAllowed, Start, End, Href, LineBreak}
use Rattle.markup.proofs.Each.{not-true, on-all, on-bare}
use Rattle.markup.proofs.Tagging.{starts-whole}
use Rattle.markup.proofs.Safety.{encode-high}

abbrev AreAllowed : List (List ℕ) → Type 0
AreAllowed = All IsAllowed

-- A byte that ends no tag, and one that begins none.
abbrev stays_within : ℕ → Bool
stays_within byte = not (byte == 62)

abbrev stays_outside : ℕ → Bool
stays_outside byte = not (byte == 60)

-- Text outside a tag is passed over.
outside : (text rest : List ℕ) → list_all stays_outside text ≡ true → tags (text ++ rest) ≡ tags rest
unfolding tags_from
outside [] rest e = refl
outside (b ∷ text) rest e =
    let p = and_parts (stays_outside b) (list_all stays_outside text) e in
    ap (λ t. cond t (tags_from (Some []) (text ++ rest)) (tags_from None (text ++ rest))) (not-true (b == 60) p.0) ∙ outside text rest p.1

-- Text within a tag is part of it.
within : (tag text rest : List ℕ) → list_all stays_within text ≡ true → tags_from (Some tag) (text ++ rest) ≡ tags_from (Some (tag ++ text)) rest
unfolding tags_from
within tag [] rest e = ap (λ t. tags_from (Some t) rest) (sym (append-nil tag))
within tag (b ∷ text) rest e =
    let p = and_parts (stays_within b) (list_all stays_within text) e in
    ap (λ t. cond t (tag ∷ tags_from None (text ++ rest)) (tags_from (Some (tag ++ b ∷ [])) (text ++ rest))) (not-true (b == 62) p.0)
    ∙ within (tag ++ b ∷ []) text rest p.1
    ∙ ap (λ t. tags_from (Some t) rest) (append_assoc tag (b ∷ []) text)

one-tag : (tag rest : List ℕ) → list_all stays_within tag ≡ true → tags (codes "<" ++ tag ++ codes ">" ++ rest) ≡ tag ∷ tags rest
unfolding tags_from
one-tag tag rest e = ap (λ text. tags (codes "<" ++ text)) (append_assoc tag (codes ">") rest) ∙ within [] tag (codes ">" ++ rest) e

-- What passes a test passes a weaker one.
all-weaker : (p q : ℕ → Bool) → ((b : ℕ) → p b ≡ true → q b ≡ true) → (xs : List ℕ) → list_all p xs ≡ true → list_all q xs ≡ true
all-weaker p q weaker [] e = refl
all-weaker p q weaker (x ∷ xs) e =
    let parts = and_parts (p x) (list_all p xs) e in
    ap (λ b. b && list_all q xs) (weaker x parts.0) ∙ all-weaker p q weaker xs parts.1

all-append : (p : ℕ → Bool) (xs ys : List ℕ) → list_all p xs ≡ true → list_all p ys ≡ true → list_all p (xs ++ ys) ≡ true
all-append p xs ys e f = list_all-append p xs ys ∙ ap (λ b. b && list_all p ys) e ∙ f

all-high : (p : ℕ → Bool) → ((b : ℕ) → 128 ≤ b → p b ≡ true) → (xs : List ℕ) → ((k : ℕ) → k < length xs → 128 ≤ get_or xs k 0) → list_all p xs ≡ true
all-high p passes [] high = refl
all-high p passes (x ∷ xs) high =
    ap (λ b. b && list_all p xs) (passes x (high 0 (omega arith))) ∙ all-high p passes xs (λ k below. high (suc k) (omega arith))

value-within : (b : ℕ) → is_value_byte b ≡ true → stays_within b ≡ true
value-within b e = grind (arith, nat_tests)

value-outside : (b : ℕ) → is_value_byte b ≡ true → stays_outside b ≡ true
value-outside b e = grind (arith, nat_tests)

-- A tag and what is behind it; text and what is behind it.
tag-then : (tag rest : List ℕ) → IsAllowed tag → list_all stays_within tag ≡ true → AreAllowed (tags rest) → AreAllowed (tags (codes "<" ++ tag ++ codes ">" ++ rest))
tag-then tag rest allowed whole others = subst AreAllowed (sym (one-tag tag rest whole)) (All-cons IsAllowed tag (tags rest) allowed others)

text-then : (text rest : List ℕ) → list_all stays_outside text ≡ true → AreAllowed (tags rest) → AreAllowed (tags (text ++ rest))
text-then text rest plain others = subst AreAllowed (sym (outside text rest plain)) others

-- Elements.
start-then : (x : Element) (rest : List ℕ) → Contains bare x → AreAllowed (tags rest) → AreAllowed (tags (start_tag x ++ rest))
unfolding start_tag
start-then x rest is_one others =
    tag-then (name_of x) rest (Start (name_of x) (on-bare (λ x. list_any (λ name. bytes_eq name (name_of x)) element_names) refl x is_one))
    (on-bare (λ x. list_all stays_within (name_of x)) refl x is_one) others

end-then : (x : Element) (rest : List ℕ) → AreAllowed (tags rest) → AreAllowed (tags (end_tag x ++ rest))
unfolding end_tag
end-then x rest others =
    tag-then (codes "/" ++ name_of x) rest (End (name_of x) (on-all (λ x. list_any (λ name. bytes_eq name (name_of x)) (codes "a" ∷ element_names)) refl x))
    (on-all (λ x. list_all stays_within (name_of x)) refl x) others

-- The start tag of a link.
href-then : (value rest : List ℕ) → list_all is_value_byte value ≡ true → is_target value ≡ true → AreAllowed (tags rest) →
    AreAllowed (tags (codes "<" ++ (codes "a href=\"" ++ value ++ codes "\"") ++ codes ">" ++ rest))
href-then value rest is_one leads others =
    tag-then (codes "a href=\"" ++ value ++ codes "\"") rest (Href value is_one leads)
    (all-append stays_within (codes "a href=\"" ++ value) (codes "\"") (all-append stays_within (codes "a href=\"") value refl (all-weaker is_value_byte stays_within value-within value is_one)) refl)
    others

-- Characters.
plain-outside : (c : ℕ) → is_plain c ≡ true → stays_outside c ≡ true
plain-outside c plain = grind (arith, nat_tests)

high-outside : (b : ℕ) → 128 ≤ b → stays_outside b ≡ true
high-outside b high = grind (arith, nat_tests)

plain-then : (c : ℕ) (rest : List ℕ) → is_plain c ≡ true → AreAllowed (tags rest) → AreAllowed (tags (encode c ++ rest))
plain-then c rest plain others = elim (cases_lt c 128) [
  | inl small ↦ subst (λ text. AreAllowed (tags (text ++ rest))) (sym (encode_ascii c small)) (text-then (c ∷ []) rest (ap (λ b. b && true) (plain-outside c plain)) others)
  | inr big ↦ text-then (encode c) rest (all-high stays_outside high-outside (encode c) (encode-high c big)) others
]

-- What is escaped has no quote and no bracket.
value-by : (c : ℕ) (a b d e : Bool) → b ≡ (c == 60) → d ≡ (c == 62) → e ≡ (c == 34) →
    list_all is_value_byte (cond a (codes "&amp;") (cond b (codes "&lt;") (cond d (codes "&gt;") (cond e (codes "&quot;") (c ∷ []))))) ≡ true
value-by c true b d e is_lt is_gt is_quote = refl
value-by c false true d e is_lt is_gt is_quote = refl
value-by c false false true e is_lt is_gt is_quote = refl
value-by c false false false true is_lt is_gt is_quote = refl
value-by c false false false false is_lt is_gt is_quote = rw (← is_lt, ← is_gt, ← is_quote) refl

escape-value : (c : ℕ) → list_all is_value_byte (escape_of c) ≡ true
unfolding escape_of
escape-value c = value-by c (c == 38) (c == 60) (c == 62) (c == 34) refl refl refl

pub escaped-value : (text : List ℕ) → list_all is_value_byte (escaped text) ≡ true
escaped-value [] = refl
escaped-value (c ∷ text) = all-append is_value_byte (escape_of c) (escaped text) (escape-value c) (escaped-value text)

escape-then : (c : ℕ) (rest : List ℕ) → AreAllowed (tags rest) → AreAllowed (tags (escape_of c ++ rest))
escape-then c rest others = text-then (escape_of c) rest (all-weaker is_value_byte stays_outside value-outside (escape_of c) (escape-value c)) others

-- A link to a page.
name-value : (b : ℕ) → is_name_byte b ≡ true → is_value_byte b ≡ true
name-value b e = grind (arith, nat_tests)

link-join : (front name rest : List ℕ) →
    (front ++ name ++ codes "\"") ++ codes ">" ++ (name ++ (codes "</a>" ++ rest)) ≡ (front ++ name ++ codes "\">" ++ name ++ codes "</a>") ++ rest
link-join front name rest = simp append_assoc

path-then : (path name rest : List ℕ) → list_all is_value_byte path ≡ true → is_target (path ++ name) ≡ true → IsName name → AreAllowed (tags rest) →
    AreAllowed (tags ((codes "<a href=\"" ++ path ++ name ++ codes "\">" ++ name ++ codes "</a>") ++ rest))
unfolding end_tag
path-then path name rest is_path leads is_one others =
    let each : list_all is_name_byte name ≡ true = search rules in
    let value : list_all is_value_byte name ≡ true = all-weaker is_name_byte is_value_byte name-value name each in
    let inner : AreAllowed (tags (name ++ (codes "</a>" ++ rest))) =
    text-then name (codes "</a>" ++ rest) (all-weaker is_value_byte stays_outside value-outside name value) (end-then A rest others) in
    subst (λ t. AreAllowed (tags t)) (link-join (codes "<a href=\"" ++ path) name rest)
    (href-then (path ++ name) (name ++ (codes "</a>" ++ rest)) (all-append is_value_byte path name is_path value) leads inner)

link-then : (page : Page) (name rest : List ℕ) → IsName name → AreAllowed (tags rest) → AreAllowed (tags (link page name ++ rest))
unfolding link
link-then Person name rest is_one others = path-then (codes "/person/") name rest refl refl is_one others
link-then Project name rest is_one others = path-then (codes "/project/") name rest refl refl is_one others

-- A URL leads where it led when it is escaped.
front-split : (text word : List ℕ) → starts_with nat_eq text word ≡ true → text ≡ word ++ drop (length word) text
front-split text word e = sym (take-append-drop (length word) text) ∙ ap (λ front. front ++ drop (length word) text) (sym (starts-whole text word e))

target-by : (text : List ℕ) (a b : Bool) → starts_with nat_eq text (codes "http://") ≡ a → starts_with nat_eq text (codes "https://") ≡ b → a || b ≡ true → is_target (escaped text) ≡ true
unfolding escape_of
target-by text true b e f h = subst (λ t. is_target (escaped t) ≡ true) (sym (front-split text (codes "http://") e)) refl
target-by text false true e f h = subst (λ t. is_target (escaped t) ≡ true) (sym (front-split text (codes "https://") f)) refl
target-by text false false e f h = absurd (cc)

url-target : (url : List ℕ) → has_scheme url ≡ true → is_target (escaped url) ≡ true
unfolding has_scheme
url-target url e = target-by url (starts_with nat_eq url (codes "http://")) (starts_with nat_eq url (codes "https://")) refl refl e

anchor-join : (value rest : List ℕ) → codes "<" ++ (codes "a href=\"" ++ value ++ codes "\"") ++ codes ">" ++ rest ≡ (codes "<a href=\"" ++ value ++ codes "\">") ++ rest
anchor-join value rest = ap (λ t. codes "<a href=\"" ++ t) (ap (λ t. t ++ rest) (append_assoc value (codes "\"") (codes ">")))

anchor-then : (url rest : List ℕ) → is_url url ≡ true → AreAllowed (tags rest) → AreAllowed (tags (anchor_tag url ++ rest))
unfolding anchor_tag
anchor-then url rest is_one others =
    let parts = and_parts (has_scheme url) (list_all is_url_byte url) is_one in
    subst (λ t. AreAllowed (tags t)) (anchor-join (escaped url) rest) (href-then (escaped url) rest (escaped-value url) (url-target url parts.0) others)

-- Safe markup, with any rest behind it.
regrouped : (a b c d e : List ℕ) → a ++ (b ++ (c ++ (d ++ e))) ≡ a ++ b ++ c ++ d ++ e
regrouped a b c d e = simp append_assoc

piece : (front text rest : List ℕ) → AreAllowed (tags (front ++ (text ++ rest))) → AreAllowed (tags ((front ++ text) ++ rest))
piece front text rest h = subst (λ t. AreAllowed (tags t)) (sym (append_assoc front text rest)) h

reads : {in_anchor : Bool} {room : ℕ} {html : List ℕ} → IsSafe in_anchor room html → (rest : List ℕ) → AreAllowed (tags rest) → AreAllowed (tags (html ++ rest))
reads Empty rest others = others
reads (Character {text = text} c ok plain more) rest others = piece (encode c) text rest (plain-then c (text ++ rest) plain (reads more rest others))
reads (Escape {text = text} c special more) rest others = piece (escape_of c) text rest (escape-then c (text ++ rest) (reads more rest others))
reads (safe.LineBreak {text = text} more) rest others = tag-then (codes "br") (text ++ rest) LineBreak refl (reads more rest others)
reads (PageLink {text = text} page name is_one more) rest others = piece (link page name) text rest (link-then page name (text ++ rest) is_one (reads more rest others))
reads (Anchor {inside = inside} {text = text} url utf8 is_one within more) rest others =
    subst (λ t. AreAllowed (tags t)) (regrouped (anchor_tag url) inside (end_tag A) text rest)
    (anchor-then url (inside ++ (end_tag A ++ (text ++ rest))) is_one (reads within (end_tag A ++ (text ++ rest)) (end-then A (text ++ rest) (reads more rest others))))
reads (Bare {inside = inside} {text = text} x is_one within more) rest others =
    subst (λ t. AreAllowed (tags t)) (regrouped (start_tag x) inside (end_tag x) text rest)
    (start-then x (inside ++ (end_tag x ++ (text ++ rest))) is_one (reads within (end_tag x ++ (text ++ rest)) (end-then x (text ++ rest) (reads more rest others))))

pub only-allowed : {in_anchor : Bool} {room : ℕ} (html : List ℕ) → IsSafe in_anchor room html → All IsAllowed (tags html)
unfolding tags_from
only-allowed html ok = subst (λ t. AreAllowed (tags t)) (append-nil html) (reads ok [] (All-nil IsAllowed))
