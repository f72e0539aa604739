-- A text and the value that a form gives it.
use Rattle.std.proofs.Common.{◌≡◌, ℕ, ◌+◌, ◌/◌, ◌<◌, Bool, true, false, ◌&&◌, List, [], ◌∷◌, ◌++◌, length, take, drop, Ok, Err, All, refl, ⊎_elim, nat_lt, sym, ap, ◌∙◌, arith, subst, take-append-drop}
use Rattle.std.specs.Prelude.{◌↔◌, IsUtf8}
use Rattle.std.specs.Str.{bytes_eq, is_utf8}
use Rattle.std.proofs.lemmas.Bool.{and_parts, cond_both, false≢true}
use Rattle.std.proofs.lemmas.Bool.Decides.{nat_tests}
use Rattle.std.proofs.lemmas.List.{append_cancel_left}
use Rattle.std.proofs.lemmas.List.Elements.{All-nil, All-cons, All-append}
use Rattle.std.proofs.lemmas.Slice.Eq.{bytes_eq-Decides}
use Rattle.std.proofs.lemmas.Str.{is_utf8-from_IsUtf8, IsUtf8-from_is_utf8}
use lib.Utf8.{scalar, scalars, scalar_cases, encode, encodes, next}
use Rattle.percent_encoding.proofs.PercentLemmas.{IsByte}
use Rattle.form_urlencoded.specs.Form.{decode, byte_serialize, DecodesTo}
use Rattle.form_urlencoded.proofs.FormLemmas.{decode-byte_serialize}
use Rattle.site_records.specs.declared.faults.RowFault.TheVariants.{NotARow}
use Rattle.site_records.specs.inner.Reading.{text_in}
use Rattle.site_records.proofs.Steps.{if-ok, if-err}

-- ---- a loop over the pieces of a value

stripped : (rest piece behind : List ℕ) → bytes_eq (take (length piece) rest) piece ≡ true → behind ≡ drop (length piece) rest → rest ≡ piece ++ behind
stripped rest piece behind same is =
    sym (take-append-drop (length piece) rest) ∙ (λ i. (bytes_eq-Decides (take (length piece) rest) piece).0 same i ++ sym is i)

pub next_piece : (value whole rest piece behind before later : List ℕ) → (value ≡ whole) ↔ (rest ≡ before) → before ≡ piece ++ later →
    bytes_eq (take (length piece) rest) piece ≡ true → behind ≡ drop (length piece) rest → (value ≡ whole) ↔ (behind ≡ later)
next_piece value whole rest piece behind before later known is same cut =
    let r = stripped rest piece behind same cut in (
      λ e. append_cancel_left piece behind later (sym r ∙ known.0 e ∙ is),
      λ e. known.1 (r ∙ ap (λ l. piece ++ l) e ∙ sym is),
    )

pub front : (piece later : List ℕ) → take (length piece) (piece ++ later) ≡ piece
front [] later = refl
front (b ∷ piece) later = ap (λ l. b ∷ l) (front piece later)

pub other_piece : (value whole rest piece before later : List ℕ) → (value ≡ whole) ↔ (rest ≡ before) → before ≡ piece ++ later →
    bytes_eq (take (length piece) rest) piece ≡ false → value ≡ whole → ⊥
other_piece value whole rest piece before later known is other e =
    let same : take (length piece) rest ≡ piece = ap (take (length piece)) (known.0 e ∙ is) ∙ front piece later in
    false≢true (sym other ∙ (bytes_eq-Decides (take (length piece) rest) piece).1 same)

-- ---- UTF-8 is bytes

encode-bytes : (c : ℕ) → scalar c ≡ true → All IsByte (encode c)
unfolding encode
encode-bytes c ok =
    let high : c < 1114112 = ⊎_elim (λ h. omega (arith, h)) (λ h. h.1) (scalar_cases c ok) in
    let one = λ (a : ℕ) (h : a < 256). All-cons IsByte a [] h (All-nil IsByte) in
    let two = λ (a b : ℕ) (h : a < 256) (i : b < 256). All-cons IsByte a (b ∷ []) h (one b i) in
    let three = λ (a b d : ℕ) (h : a < 256) (i : b < 256) (j : d < 256). All-cons IsByte a (b ∷ d ∷ []) h (two b d i j) in
    cond_both (nat_lt c 128) _ _ (All IsByte)
    (λ e. let small : c < 128 = grind (arith, nat_tests) in one c (omega arith))
    (λ _. cond_both (nat_lt c 2048) _ _ (All IsByte)
    (λ e. let small : c < 2048 = grind (arith, nat_tests) in two (192 + c / 64) (next c) (omega arith) (omega arith))
    (λ _. cond_both (nat_lt c 65536) _ _ (All IsByte)
    (λ e. let small : c < 65536 = grind (arith, nat_tests) in three (224 + c / 4096) (next (c / 64)) (next c) (omega arith) (omega arith) (omega arith))
    (λ _. All-cons IsByte (240 + c / 262144) (next (c / 4096) ∷ next (c / 64) ∷ next c ∷ []) (omega arith)
    (three (next (c / 4096)) (next (c / 64)) (next c) (omega arith) (omega arith) (omega arith)))))

encodes-bytes : (cs : List ℕ) → scalars cs ≡ true → All IsByte (encodes cs)
encodes-bytes [] ok = All-nil IsByte
encodes-bytes (c ∷ cs) ok =
    let parts = and_parts (scalar c) (scalars cs) ok in
    All-append IsByte (encode c) (encodes cs) (encode-bytes c parts.0) (encodes-bytes cs parts.1)

pub utf8-bytes : (text : List ℕ) → IsUtf8 text → All IsByte text
utf8-bytes text utf8 = subst (All IsByte) utf8.1.1 (encodes-bytes utf8.0 utf8.1.0)

-- ---- a text read of its value

pub text_in-value : (text : List ℕ) → IsUtf8 text → text_in (byte_serialize text) ≡ Ok text
text_in-value text utf8 =
    let back : decode (byte_serialize text) ≡ text = decode-byte_serialize text (utf8-bytes text utf8) in
    rw (back, is_utf8-from_IsUtf8 text utf8, (bytes_eq-Decides (byte_serialize text) (byte_serialize text)).1 refl) refl

abbrev test : List ℕ → Bool
test value = is_utf8 (decode value) && bytes_eq (byte_serialize (decode value)) value

told : (value : List ℕ) → test value ≡ true → IsUtf8 (decode value) × (value ≡ byte_serialize (decode value))
told value e =
    let parts = and_parts (is_utf8 (decode value)) (bytes_eq (byte_serialize (decode value)) value) e in
    (IsUtf8-from_is_utf8 _ parts.0, sym ((bytes_eq-Decides (byte_serialize (decode value)) value).0 parts.1))

pub text_in-ok : (value text : List ℕ) → text_in value ≡ Ok text → (value ≡ byte_serialize text) × IsUtf8 text
text_in-ok value text e =
    let parts = if-ok (test value) (decode value) text e in
    let is = told value parts.0 in
    (is.1 ∙ ap byte_serialize parts.1, subst IsUtf8 parts.1 is.0)

pub text_in-other : (value text : List ℕ) → DecodesTo value text → (value ≡ byte_serialize text → ⊥) → text_in value ≡ Err NotARow
text_in-other value text decoded other =
    if-err (test value) (decode value) (λ e. let is = told value e in other (is.1 ∙ ap byte_serialize (sym (decoded.0 is.0))))
