-- What is known of the tag that stands at the front of a text.
use Rattle.std.proofs.Common.{ℕ, suc, Bool, true, false, ◌≡◌, ◌≤◌, ◌<◌, ◌+◌, ◌-◌, ◌⊎◌, inl, inr, List, [], ◌∷◌, length, length-drop, length-take, add-zero, map, take, drop, get_or, refl, sym, ap, subst, ◌∙◌, arith, lit<, cond}
use Rattle.std.specs.Prelude.{◌&&◌, IsTrue, Option, Some, None, Contains, nat_eq, codes}
use Rattle.std.specs.Char.{to_ascii_lowercase, is_ascii_alphabetic}
use Rattle.std.specs.List.{find, list_all, starts_with, take_while}
use Rattle.std.specs.Option.{option_map}
use Rattle.std.specs.Str.{IsUtf8, IsCharBoundary, str_eq_ignore_ascii_case}
use Rattle.std.specs.Cmp.Lexicographic.{same_text}
use Rattle.std.proofs.lemmas.Bool.{and_parts}
use Rattle.std.proofs.lemmas.Bool.Decides.{nat_tests}
use Rattle.std.proofs.lemmas.List.{get_or-drop, get_or-take, get_or-map, length-map, drop-drop}
use Rattle.std.proofs.lemmas.List.Folds.{length-prefix_len}
use Rattle.std.proofs.lemmas.List.Sums.{take_while-cons}
use Rattle.std.proofs.lemmas.Str.{IsUtf8-drop, IsUtf8-take, IsCharBoundary-after_ascii, IsCharBoundary-before_ascii}
use Rattle.trust_types.specs.Names.{IsName, is_name, is_name_byte}
use Rattle.markup.specs.declared.elements.Element.{Element}
use Rattle.markup.specs.declared.elements.Element.TheVariants.{A}
use Rattle.markup.specs.declared.elements.Page.{Page}
use Rattle.markup.specs.declared.elements.Page.TheVariants.{Person, Project}
use Rattle.markup.specs.Elements.{bare, name_of, page_end}
use Rattle.markup.specs.Tags.{Tag, LineBreak, PageLink, AnchorStart, Start, End, Found, line_break_at, page_link_at, anchor_at, called, start_at, end_at, form_at, word_at, behind_word, tag_at}
use Rattle.markup.specs.Urls.{is_url, has_scheme, is_url_byte}
use Rattle.markup.proofs.Fronts.{length-front, front-passes}

-- The text is cut behind an ASCII byte, after so many bytes.
pub record IsCut (text : List ℕ) (taken : ℕ) : Type 0 where
  pub some : 0 < taken
  pub fits : taken ≤ length text
  pub last : get_or text (taken - 1) 0 < 128

-- What is behind a cut is UTF-8 where the text is.
pub IsUtf8-behind : (text : List ℕ) (n : ℕ) → IsCut text n → IsUtf8 text → IsUtf8 (drop n text)
IsUtf8-behind text n cut utf8 =
    let place : n - 1 < length text = omega (arith, cut.some, cut.fits) in
    let next : (n - 1) + 1 ≡ n = omega (arith, cut.some) in
    IsUtf8-drop text n utf8 (subst (IsCharBoundary text) next (IsCharBoundary-after_ascii text (n - 1) utf8 place cut.last))

-- What is behind ASCII bytes that pass a test, too.
behind-by : (p : ℕ → Bool) → ((b : ℕ) → p b ≡ true → b < 128) → (b : ℕ) (more : List ℕ) (c : Bool) → p b ≡ c →
    (IsUtf8 more → IsUtf8 (drop (length (take_while p more)) more)) → IsUtf8 (b ∷ more) → IsUtf8 (drop (length (cond c (b ∷ take_while p more) [])) (b ∷ more))
behind-by p ascii b more true e others utf8 =
    others (IsUtf8-behind (b ∷ more) 1 (record { some = lit< tt; fits = omega arith; last = ascii b e }) utf8)
behind-by p ascii b more false e others utf8 = utf8

IsUtf8-behind_front : (p : ℕ → Bool) → ((b : ℕ) → p b ≡ true → b < 128) → (text : List ℕ) → IsUtf8 text → IsUtf8 (drop (length (take_while p text)) text)
IsUtf8-behind_front p ascii [] utf8 = utf8
IsUtf8-behind_front p ascii (b ∷ more) utf8 =
    subst (λ front. IsUtf8 (drop (length front) (b ∷ more))) (sym (take_while-cons p b more)) (behind-by p ascii b more (p b) refl (IsUtf8-behind_front p ascii more) utf8)

letter-ascii : (b : ℕ) → is_ascii_alphabetic b ≡ true → b < 128
letter-ascii b e = grind (arith, nat_tests)

-- The rest is what is behind a cut.
pub record IsBehind (text rest : List ℕ) : Type 0 where
  pub taken : ℕ
  pub cut : IsCut text taken
  pub is : rest ≡ drop taken text

behind-later : (text rest : List ℕ) (n : ℕ) → n ≤ length text → IsBehind (drop n text) rest → IsBehind text rest
behind-later text rest n inside h =
    let some : 0 < n + h.taken = omega (arith, h.cut.some) in
    let fits : n + h.taken ≤ length text = omega (arith, h.cut.fits, length-drop n text) in
    let place : n + (h.taken - 1) ≡ (n + h.taken) - 1 = omega (arith, h.cut.some) in
    let last : get_or text (n + (h.taken - 1)) 0 < 128 = subst (λ b. b < 128) (get_or-drop n text (h.taken - 1) 0) h.cut.last in
    record {
      taken = n + h.taken;
      cut = record { some = some; fits = fits; last = subst (λ k. get_or text k 0 < 128) place last };
      is = h.is ∙ drop-drop h.taken n text;
    }

-- A text that begins with a word has its bytes.
pub starts-whole : (text word : List ℕ) → starts_with nat_eq text word ≡ true → word ≡ take (length word) text
starts-whole text word e = same_text word (take (length word) text) (sym e)

starts-length : (text word : List ℕ) → starts_with nat_eq text word ≡ true → length word ≤ length text
starts-length text word e = omega (arith, ap length (starts-whole text word e), length-take (length word) text)

starts-at : (text word : List ℕ) (i : ℕ) → starts_with nat_eq text word ≡ true → i < length word → get_or text i 0 ≡ get_or word i 0
starts-at text word i e h =
    sym (get_or-take (length word) text i 0 h) ∙ sym (ap (λ bytes. get_or bytes i 0) (starts-whole text word e))

cut-word : (text word : List ℕ) → starts_with nat_eq text word ≡ true → 0 < length word → get_or word (length word - 1) 0 < 128 → IsCut text (length word)
cut-word text word e some last =
    let place : length word - 1 < length word = omega arith in
    record { some = some; fits = starts-length text word e; last = subst (λ b. b < 128) (sym (starts-at text word (length word - 1) e place)) last }

behind-word : (text word : List ℕ) → starts_with nat_eq text word ≡ true → 0 < length word → get_or word (length word - 1) 0 < 128 → IsBehind text (drop (length word) text)
behind-word text word e some last = record { taken = length word; cut = cut-word text word e some last; is = refl }

-- The tag behind a page's name, in whatever case.
lower-ascii : (b : ℕ) → to_ascii_lowercase b ≡ 62 → b < 128
lower-ascii b e = grind (arith, nat_tests)

module _ (text word : List ℕ) (e : str_eq_ignore_ascii_case (take (length word) text) word ≡ true) where
  same-bytes : map to_ascii_lowercase (take (length word) text) ≡ map to_ascii_lowercase word
  same-bytes = same_text _ _ (sym e)

  spelled-length : length word ≤ length text
  spelled-length =
      omega (arith, ap length same-bytes, length-map (take (length word) text) to_ascii_lowercase, length-map word to_ascii_lowercase, length-take (length word) text)

  behind-spelled : 0 < length word → to_ascii_lowercase (get_or word (length word - 1) 0) ≡ 62 → IsBehind text (drop (length word) text)
  behind-spelled some last =
      let long : length word ≤ length text = spelled-length in
      let i : ℕ = length word - 1 in
      let short : i < length word = omega arith in
      let inside : i < length (take (length word) text) = omega (arith, length-take (length word) text) in
      let same : to_ascii_lowercase (get_or text i 0) ≡ to_ascii_lowercase (get_or word i 0) =
      ap to_ascii_lowercase (sym (get_or-take (length word) text i 0 short)) ∙ sym (get_or-map to_ascii_lowercase (take (length word) text) i 0 0 inside)
      ∙ ap (λ bytes. get_or bytes i 0) same-bytes ∙ get_or-map to_ascii_lowercase word i 0 0 short in
      record { taken = length word; cut = record { some = some; fits = long; last = lower-ascii _ (same ∙ last) }; is = refl }

behind-page : (page : Page) (text : List ℕ) → str_eq_ignore_ascii_case (take (length (page_end page)) text) (page_end page) ≡ true → IsBehind text (drop (length (page_end page)) text)
unfolding page_end
behind-page Person text e = behind-spelled text (codes "</person>") e (lit< tt) refl
behind-page Project text e = behind-spelled text (codes "</project>") e (lit< tt) refl

-- What a tag says of the text that has it.
abbrev pub IsSound : List ℕ → Tag → Type 0
IsSound text LineBreak = Unit {0}
IsSound text (PageLink page name) = IsName name
IsSound text (AnchorStart url) = IsTrue (is_url url) × (IsUtf8 text → IsUtf8 url)
IsSound text (Start x) = Contains bare x
IsSound text (End x) = Unit {0}

pub record IsFound (text : List ℕ) (found : Found) : Type 0 where
  pub behind : IsBehind text found.rest
  pub sound : IsSound text found.tag

sound-later : (text rest : List ℕ) (tag : Tag) → (IsUtf8 text → IsUtf8 rest) → IsSound rest tag → IsSound text tag
sound-later text rest LineBreak later h = h
sound-later text rest (PageLink page name) later h = h
sound-later text rest (AnchorStart url) later h = (h.0, λ utf8. h.1 (later utf8))
sound-later text rest (Start x) later h = h
sound-later text rest (End x) later h = h

-- What a chain of tests tells of its answer.
chosen : {X : Type 0} (b : Bool) (x y : X) (rest : Option X) → cond b (Some x) rest ≡ Some y → ((b ≡ true) × (x ≡ y)) ⊎ (rest ≡ Some y)
chosen true x y rest e = inl (refl, cc)
chosen false x y rest e = inr e

guarded : {X : Type 0} (b : Bool) (x y : X) → cond b (Some x) None ≡ Some y → (b ≡ true) × (x ≡ y)
guarded true x y e = (refl, cc)
guarded false x y e = absurd (cc)

allowed : {X : Type 0} (b : Bool) (o : Option X) (y : X) → cond b o None ≡ Some y → (b ≡ true) × (o ≡ Some y)
allowed true o y e = (refl, e)
allowed false o y e = absurd (cc)

mapped : {X Y : Type 0} (f : X → Y) (o : Option X) (y : Y) → option_map f o ≡ Some y → (x : X) × (o ≡ Some x) × (f x ≡ y)
mapped f (Some x) y e = (x, refl, cc)
mapped f None y e = absurd (cc)

-- What a search finds is in the list.
found-first : {X : Type 0} (p : X → Bool) (x : X) (xs : List X) (y : X) (b : Bool) → cond b (Some x) (find p xs) ≡ Some y →
    (find p xs ≡ Some y → Contains xs y) → Contains (x ∷ xs) y
found-first p x xs y true is later = (0, omega arith, cc)
found-first p x xs y false is later = let rest : Contains xs y = later is in (suc rest.0, omega (arith, rest.1), rest.2)

Contains-found : {X : Type 0} (p : X → Bool) (xs : List X) (y : X) → find p xs ≡ Some y → Contains xs y
Contains-found p [] y e = absurd (cc)
Contains-found p (x ∷ xs) y e = found-first p x xs y (p x) e (Contains-found p xs y)

-- Each form.
found-line_break : (text : List ℕ) (f : Found) → line_break_at text ≡ Some f → IsFound text f
unfolding line_break_at
found-line_break text f e =
    elim (chosen (starts_with nat_eq text (codes ">")) _ f _ e) [
      | inl h ↦ subst (IsFound text) h.1 (record { behind = behind-word text (codes ">") h.0 (lit< tt) (lit< tt); sound = tt })
      | inr later ↦ elim (chosen (starts_with nat_eq text (codes "/>")) _ f _ later) [
        | inl h ↦ subst (IsFound text) h.1 (record { behind = behind-word text (codes "/>") h.0 (lit< tt) (lit< tt); sound = tt })
        | inr last ↦ let h = guarded (starts_with nat_eq text (codes " />")) _ f last in
            subst (IsFound text) h.1 (record { behind = behind-word text (codes " />") h.0 (lit< tt) (lit< tt); sound = tt })
      ]
    ]

found-page_link : (page : Page) (text : List ℕ) (f : Found) → page_link_at page text ≡ Some f → IsFound text f
unfolding page_link_at
found-page_link page text f e =
    let name : List ℕ = take_while is_name_byte (drop 1 text) in
    let behind : List ℕ = drop (length name) (drop 1 text) in
    let first : Bool = starts_with nat_eq text (codes ">") in
    let last : Bool = str_eq_ignore_ascii_case (take (length (page_end page)) behind) (page_end page) in
    let h = guarded (first && is_name name && last) _ f e in
    let two = and_parts (first && is_name name) last h.0 in
    let one = and_parts first (is_name name) two.0 in
    subst (IsFound text) h.1 (record {
      behind = behind-later text _ 1 (starts-length text (codes ">") one.0) (behind-later (drop 1 text) _ (length name) (length-front is_name_byte (drop 1 text)) (behind-page page behind two.1));
      sound = one.1;
    })

found-anchor : (text : List ℕ) (f : Found) → anchor_at text ≡ Some f → IsFound text f
unfolding anchor_at
found-anchor text f e =
    let rest : List ℕ = drop 7 text in
    let url : List ℕ = take_while is_url_byte rest in
    let behind : List ℕ = drop (length url) rest in
    let first : Bool = starts_with nat_eq text (codes " href=\"") in
    let last : Bool = starts_with nat_eq behind (codes "\">") in
    let h = guarded (first && has_scheme url && last) _ f e in
    let two = and_parts (first && has_scheme url) last h.0 in
    let one = and_parts first (has_scheme url) two.0 in
    let head : IsCut text 7 = cut-word text (codes " href=\"") one.0 (lit< tt) (lit< tt) in
    let inside : length url ≤ length rest = length-front is_url_byte rest in
    let room : 2 ≤ length behind = starts-length behind (codes "\">") two.1 in
    let more : length url < length rest = omega (arith, room, length-drop (length url) rest) in
    let quote : get_or behind 0 0 < 128 = subst (λ b. b < 128) (sym (starts-at behind (codes "\">") 0 two.1 (lit< tt))) (lit< tt) in
    let end : get_or rest (length url) 0 < 128 = subst (λ k. get_or rest k 0 < 128) (add-zero (length url)) (subst (λ b. b < 128) (get_or-drop (length url) rest 0 0) quote) in
    let is_one : is_url url ≡ true = ap (λ b. b && list_all is_url_byte url) one.1 ∙ front-passes is_url_byte rest in
    let text_of : IsUtf8 text → IsUtf8 url = λ (utf8 : IsUtf8 text).
    subst IsUtf8 (ap (λ n. take n rest) (length-prefix_len is_url_byte rest))
    (IsUtf8-take rest (length url) (IsUtf8-behind text 7 head utf8) (IsCharBoundary-before_ascii rest (length url) more end)) in
    subst (IsFound text) h.1 (record {
      behind = behind-later text _ 7 head.fits (behind-later rest _ (length url) inside (behind-word behind (codes "\">") two.1 (lit< tt) (lit< tt)));
      sound = (is_one, text_of);
    })

found-start : (word text : List ℕ) (f : Found) → start_at word text ≡ Some f → IsFound text f
unfolding start_at
found-start word text f e =
    let h = allowed (starts_with nat_eq text (codes ">")) _ f e in
    let m = mapped (λ (x : Element). record { tag = Start x; rest = drop 1 text }) (called word bare) f h.1 in
    subst (IsFound text) m.2 (record { behind = behind-word text (codes ">") h.0 (lit< tt) (lit< tt); sound = Contains-found (λ x. str_eq_ignore_ascii_case word (name_of x)) bare m.0 m.1 })

found-end : (word text : List ℕ) (f : Found) → end_at word text ≡ Some f → IsFound text f
unfolding end_at
found-end word text f e =
    let h = allowed (starts_with nat_eq text (codes ">")) _ f e in
    let m = mapped (λ (x : Element). record { tag = End x; rest = drop 1 text }) (called word (A ∷ bare)) f h.1 in
    subst (IsFound text) m.2 (record { behind = behind-word text (codes ">") h.0 (lit< tt) (lit< tt); sound = tt })

form-by : (word text : List ℕ) (f : Found) (br person project a : Bool) →
    cond br (line_break_at text) (cond person (page_link_at Person text) (cond project (page_link_at Project text) (cond a (anchor_at text) (start_at word text)))) ≡ Some f → IsFound text f
form-by word text f true person project a e = found-line_break text f e
form-by word text f false true project a e = found-page_link Person text f e
form-by word text f false false true a e = found-page_link Project text f e
form-by word text f false false false true e = found-anchor text f e
form-by word text f false false false false e = found-start word text f e

found-form : (word text : List ℕ) (f : Found) → form_at word text ≡ Some f → IsFound text f
unfolding form_at
found-form word text f e =
    form-by word text f (str_eq_ignore_ascii_case word (codes "br")) (str_eq_ignore_ascii_case word (codes "person")) (str_eq_ignore_ascii_case word (codes "project")) (str_eq_ignore_ascii_case word (codes "a")) e

-- Behind a bracket and a word.
found-later : (text : List ℕ) (lead : ℕ) (f : Found) → IsCut text lead → IsFound (behind_word (drop lead text)) f → IsFound text f
found-later text lead f cut h =
    let rest : List ℕ = drop lead text in
    let later : IsUtf8 text → IsUtf8 (behind_word rest) = λ (utf8 : IsUtf8 text). IsUtf8-behind_front is_ascii_alphabetic letter-ascii rest (IsUtf8-behind text lead cut utf8) in
    record {
      behind = behind-later text f.rest lead cut.fits (behind-later rest f.rest (length (word_at rest)) (length-front is_ascii_alphabetic rest) h.behind);
      sound = sound-later text (behind_word rest) f.tag later h.sound;
    }

tag-by : (text : List ℕ) (f : Found) (end start : Bool) → starts_with nat_eq text (codes "</") ≡ end → starts_with nat_eq text (codes "<") ≡ start →
    cond end (end_at (word_at (drop 2 text)) (behind_word (drop 2 text))) (cond start (form_at (word_at (drop 1 text)) (behind_word (drop 1 text))) None) ≡ Some f → IsFound text f
tag-by text f true start at_end at_start e = found-later text 2 f (cut-word text (codes "</") at_end (lit< tt) (lit< tt)) (found-end _ _ f e)
tag-by text f false true at_end at_start e = found-later text 1 f (cut-word text (codes "<") at_start (lit< tt) (lit< tt)) (found-form _ _ f e)
tag-by text f false false at_end at_start e = absurd (cc)

pub found-tag : (text : List ℕ) (f : Found) → tag_at text ≡ Some f → IsFound text f
unfolding tag_at
found-tag text f e = tag-by text f (starts_with nat_eq text (codes "</")) (starts_with nat_eq text (codes "<")) refl refl e

pub found-shorter : (text : List ℕ) (f : Found) → tag_at text ≡ Some f → length f.rest < length text
found-shorter text f e =
    let h = (found-tag text f e).behind in
    omega (arith, h.cut.some, h.cut.fits, ap length h.is, length-drop h.taken text)
