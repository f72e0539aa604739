-- Safe markup is UTF-8.
use Rattle.std.proofs.Common.{ℕ, Bool, true, false, ◌≡◌, ◌<◌, inl, inr, List, [], ◌∷◌, ◌++◌, refl, sym, subst, arith, cond, ltb-true}
use Rattle.std.specs.Prelude.{◌==◌, codes, nat_lt}
use Rattle.std.specs.List.{list_all}
use Rattle.std.specs.Str.{IsUtf8}
use Rattle.std.proofs.lemmas.Bool.{and_parts, cases_lt}
use Rattle.std.proofs.lemmas.Bool.Decides.{nat_tests}
use Rattle.std.proofs.lemmas.List.Sums.{AllPass-from_list_all}
use Rattle.std.proofs.lemmas.Str.{IsUtf8-append, IsUtf8-nil, IsUtf8-encode, IsUtf8-from_ascii, encode_ascii}
use Rattle.std.proofs.lemmas.Str.Ascii.{IsAscii-from_all}
use lib.Utf8.{scalar, scalars, encode, encodes, low_scalar}
use Rattle.trust_types.proofs.NameBytes.{IsUtf8-name}
use Rattle.markup.specs.declared.elements.Element.{Element}
use Rattle.markup.specs.declared.elements.Element.TheVariants.{A}
use Rattle.markup.specs.declared.elements.Page.{Page}
use Rattle.markup.specs.declared.elements.Page.TheVariants.{Person, Project}
use Rattle.markup.specs.Elements.{name_of, start_tag, end_tag, page_word, link, anchor_tag}
use Rattle.markup.specs.Escapes.{is_plain, escape_of, escaped}
use Rattle.markup.specs.Safe.{IsSafe, Empty, Character, Escape, LineBreak, PageLink, Anchor, Bare}
use Rattle.markup.proofs.Each.{on-all}
use Rattle.markup.proofs.Fronts.{high-then, escaped-cons}
use Rattle.markup.proofs.Safety.{encode-high}

-- A word of ASCII, by a test that computes.
ascii : (word : List ℕ) → list_all (λ b. nat_lt b 128) word ≡ true → IsUtf8 word
ascii word e = IsUtf8-from_ascii word (IsAscii-from_all word (λ k d inside. ltb-true _ _ (AllPass-from_list_all (λ b. nat_lt b 128) word e k d inside)))

IsUtf8-element : (x : Element) → IsUtf8 (name_of x)
IsUtf8-element x = ascii (name_of x) (on-all (λ x. list_all (λ b. nat_lt b 128) (name_of x)) refl x)

IsUtf8-page : (page : Page) → IsUtf8 (page_word page)
IsUtf8-page Person = ascii (codes "person") refl
IsUtf8-page Project = ascii (codes "project") refl

joined : (xs ys : List ℕ) → IsUtf8 xs → IsUtf8 ys → IsUtf8 (xs ++ ys)
joined xs ys = IsUtf8-append xs ys

around : (front bytes back : List ℕ) → IsUtf8 front → IsUtf8 bytes → IsUtf8 back → IsUtf8 (front ++ bytes ++ back)
around front bytes back f h b = joined (front ++ bytes) back (joined front bytes f h) b

IsUtf8-start : (x : Element) → IsUtf8 (start_tag x)
unfolding start_tag
IsUtf8-start x = around (codes "<") (name_of x) (codes ">") (ascii (codes "<") refl) (IsUtf8-element x) (ascii (codes ">") refl)

IsUtf8-end : (x : Element) → IsUtf8 (end_tag x)
unfolding end_tag
IsUtf8-end x = around (codes "</") (name_of x) (codes ">") (ascii (codes "</") refl) (IsUtf8-element x) (ascii (codes ">") refl)

IsUtf8-link : (page : Page) (name : List ℕ) → IsUtf8 name → IsUtf8 (link page name)
unfolding link
IsUtf8-link page name utf8 =
    around _ name (codes "</a>")
    (around _ name (codes "\">") (around (codes "<a href=\"/") (page_word page) (codes "/") (ascii (codes "<a href=\"/") refl) (IsUtf8-page page) (ascii (codes "/") refl)) utf8 (ascii (codes "\">") refl))
    utf8 (ascii (codes "</a>") refl)

escape-by : (c : ℕ) (a b d e : Bool) → IsUtf8 (c ∷ []) → IsUtf8 (cond a (codes "&amp;") (cond b (codes "&lt;") (cond d (codes "&gt;") (cond e (codes "&quot;") (c ∷ [])))))
escape-by c true b d e utf8 = ascii (codes "&amp;") refl
escape-by c false true d e utf8 = ascii (codes "&lt;") refl
escape-by c false false true e utf8 = ascii (codes "&gt;") refl
escape-by c false false false true utf8 = ascii (codes "&quot;") refl
escape-by c false false false false utf8 = utf8

special-ascii : (c : ℕ) → is_plain c ≡ false → c < 128
special-ascii c e = grind (arith, nat_tests)

IsUtf8-escape : (c : ℕ) → c < 128 → IsUtf8 (escape_of c)
unfolding escape_of
IsUtf8-escape c small =
    escape-by c (c == 38) (c == 60) (c == 62) (c == 34) (subst IsUtf8 (encode_ascii c small) (IsUtf8-encode c (low_scalar c (omega arith))))

IsUtf8-character : (c : ℕ) (text : List ℕ) → scalar c ≡ true → IsUtf8 (escaped text) → IsUtf8 (escaped (encode c ++ text))
IsUtf8-character c text ok rest = elim (cases_lt c 128) [
  | inl small ↦ subst (λ p. IsUtf8 (escaped (p ++ text))) (sym (encode_ascii c small)) (joined (escape_of c) (escaped text) (IsUtf8-escape c small) rest)
  | inr big ↦ subst IsUtf8 (sym (high-then escaped escaped-cons (encode c) text (encode-high c big))) (joined (encode c) (escaped text) (IsUtf8-encode c ok) rest)
]

IsUtf8-characters : (cs : List ℕ) → scalars cs ≡ true → IsUtf8 (escaped (encodes cs))
IsUtf8-characters [] e = IsUtf8-nil
IsUtf8-characters (c ∷ cs) e = let p = and_parts (scalar c) (scalars cs) e in IsUtf8-character c (encodes cs) p.0 (IsUtf8-characters cs p.1)

IsUtf8-anchor : (url : List ℕ) → IsUtf8 url → IsUtf8 (anchor_tag url)
unfolding anchor_tag
IsUtf8-anchor url utf8 =
    around (codes "<a href=\"") (escaped url) (codes "\">") (ascii (codes "<a href=\"") refl) (subst (λ u. IsUtf8 (escaped u)) utf8.1.1 (IsUtf8-characters utf8.0 utf8.1.0)) (ascii (codes "\">") refl)

element : (front inside back rest : List ℕ) → IsUtf8 front → IsUtf8 inside → IsUtf8 back → IsUtf8 rest → IsUtf8 (front ++ inside ++ back ++ rest)
element front inside back rest f i b r = joined (front ++ inside ++ back) rest (around front inside back f i b) r

pub IsUtf8-safe : {in_anchor : Bool} {room : ℕ} {html : List ℕ} → IsSafe in_anchor room html → IsUtf8 html
IsUtf8-safe Empty = IsUtf8-nil
IsUtf8-safe (Character c ok plain rest) = joined _ _ (IsUtf8-encode c ok) (IsUtf8-safe rest)
IsUtf8-safe (Escape c special rest) = joined _ _ (IsUtf8-escape c (special-ascii c special)) (IsUtf8-safe rest)
IsUtf8-safe (LineBreak rest) = joined _ _ (ascii (codes "<br>") refl) (IsUtf8-safe rest)
IsUtf8-safe (PageLink page name is_one rest) = joined _ _ (IsUtf8-link page name (IsUtf8-name name is_one)) (IsUtf8-safe rest)
IsUtf8-safe (Anchor url utf8 is_one inside rest) = element _ _ (end_tag A) _ (IsUtf8-anchor url utf8) (IsUtf8-safe inside) (IsUtf8-end A) (IsUtf8-safe rest)
IsUtf8-safe (Bare x is_one inside rest) = element _ _ (end_tag x) _ (IsUtf8-start x) (IsUtf8-safe inside) (IsUtf8-end x) (IsUtf8-safe rest)
