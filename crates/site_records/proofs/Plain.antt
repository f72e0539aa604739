-- Values of letters and digits stand for themselves, and are read as what they stand for.
use Rattle.std.proofs.Common.{◌≡◌, ℕ, suc, ◌*◌, ◌/◌, ◌%◌, ◌<◌, ◌≤◌, ◌^◌, Bool, true, false, cond, List, [], ◌∷◌, ◌++◌, length, slice_index, Ok, Err, Some, None, refl, sym, ap, ◌∙◌, arith, decimal, ◌==◌, subst}
use Rattle.std.specs.Prelude.{IsUtf8}
use Rattle.std.specs.Option.{ok_or}
use Rattle.std.specs.Char.{is_ascii_digit}
use Rattle.std.specs.List.{find, list_all}
use Rattle.std.specs.Str.{bytes_eq}
use Rattle.std.proofs.lemmas.Bool.{and_parts, cond-true, cond-false}
use Rattle.std.proofs.lemmas.List.Sums.{AllPass-from_list_all}
use Rattle.std.specs.Prelude.{Option, Result}
use Rattle.hex.specs.declared.error.FromHexError.{FromHexError}
use Rattle.std.proofs.lemmas.Bool.Decides.{nat_tests}
use Rattle.std.proofs.lemmas.Fmt.{digits_decimal}
use Rattle.std.proofs.lemmas.Slice.Eq.{bytes_eq-Decides}
use Rattle.form_urlencoded.specs.Form.{is_unchanged, serialize_byte, byte_serialize}
use Rattle.form_urlencoded.proofs.FormLemmas.{byte_serialize-nil, byte_serialize-cons}
use Rattle.hex.specs.Hex.{IsBytes, lower_digits, encode_with, encode_lower, decode_sized}
use Rattle.hex.proofs.HexLemmas.{length-encode_with, decode_sized-encode_lower, decode_sized-ok, decode_of-ok, decode_sized-twice}
use Rattle.trust_types.specs.declared.levels.Level.{Level}
use Rattle.trust_types.specs.declared.levels.Level.TheVariants.{Observer, Apprentice, Journeyer, Master, Fellow, Warden, Elder}
use Rattle.trust_types.specs.declared.records.Secret.{Secret}
use Rattle.trust_types.specs.declared.records.Secret.TheVariants.{Absent, Digest}
use Rattle.trust_types.specs.Levels.{level_name, level_of, levels}
use Rattle.trust_types.specs.Names.{IsName, is_name, is_name_byte}
use Rattle.site_records.specs.declared.faults.RowFault.TheVariants.{NotARow}
use Rattle.site_records.specs.declared.versions.Version.{Version}
use Rattle.site_records.specs.declared.versions.Version.TheVariants.{One, Two}
use Rattle.site_records.specs.Records.{IsNumber, IsSecret}
use Rattle.site_records.specs.Rows.{secret_text}
use Rattle.site_records.specs.inner.Reading.{number_in, account_in, name_in, digest_from, digest_in, secret_in, unless_not, ◌>>=◌, text_in, has_level, level_in}
use Rattle.site_records.proofs.Steps.{if-ok, bind-ok, ok_same, ok_or-ok, unless_not-ok}
use Rattle.site_records.proofs.Numbers.{own, number_in-decimal, number_in-ok}
use Rattle.site_records.proofs.Pairs.{Reads}
use Rattle.site_records.proofs.Values.{text_in-value, text_in-ok}

pub plain : (bs : List ℕ) → list_all is_unchanged bs ≡ true → byte_serialize bs ≡ bs
plain [] each = byte_serialize-nil
plain (b ∷ bs) each =
    let parts = and_parts (is_unchanged b) (list_all is_unchanged bs) each in
    let first : serialize_byte b ≡ b ∷ [] = cond-true _ _ _ parts.0 in
    byte_serialize-cons b bs ∙ (λ i. first i ++ plain bs parts.1 i)

weaker : (p q : ℕ → Bool) → ((b : ℕ) → p b ≡ true → q b ≡ true) → (bs : List ℕ) → list_all p bs ≡ true → list_all q bs ≡ true
weaker p q more [] each = refl
weaker p q more (b ∷ bs) each =
    let parts = and_parts (p b) (list_all p bs) each in
    rw (more b parts.0, weaker p q more bs parts.1) refl

digit : (b : ℕ) → is_ascii_digit b ≡ true → is_unchanged b ≡ true
digit b h = grind (arith, nat_tests)

pub plain-decimal : (n : ℕ) → n < 2 ^ 64 → byte_serialize (decimal n) ≡ decimal n
plain-decimal n small = plain (decimal n) (weaker is_ascii_digit is_unchanged digit (decimal n) (digits_decimal own n small))

name_byte : (b : ℕ) → is_name_byte b ≡ true → is_unchanged b ≡ true
name_byte b h = grind (arith, nat_tests)

name_bytes : (name : List ℕ) → IsName name → list_all is_name_byte name ≡ true
name_bytes name is = (and_parts _ _ (and_parts _ _ is).0).1

pub plain-name : (name : List ℕ) → IsName name → byte_serialize name ≡ name
plain-name name is = plain name (weaker is_name_byte is_unchanged name_byte name (name_bytes name is))

pub plain-level : (level : Level) → byte_serialize (level_name level) ≡ level_name level
plain-level Observer = plain _ refl
plain-level Apprentice = plain _ refl
plain-level Journeyer = plain _ refl
plain-level Master = plain _ refl
plain-level Fellow = plain _ refl
plain-level Warden = plain _ refl
plain-level Elder = plain _ refl

-- ---- digits of a digest

lower : (k : ℕ) → k < 16 → is_unchanged (slice_index lower_digits k) ≡ true
lower k small = AllPass-from_list_all is_unchanged lower_digits refl k 0 small

plain_digits : (digest : List ℕ) → IsBytes digest → list_all is_unchanged (encode_lower digest) ≡ true
unfolding encode_with
plain_digits [] bytes = refl
plain_digits (b ∷ digest) bytes =
    let small : b < 256 = bytes 0 in
    let high : b / 16 < 16 = omega arith in
    let low : b % 16 < 16 = omega arith in
    rw (lower (b / 16) high, lower (b % 16) low, plain_digits digest (λ k. bytes (suc k))) refl

pub plain-digest : (digest : List ℕ) → IsBytes digest → byte_serialize (encode_lower digest) ≡ encode_lower digest
plain-digest digest bytes = plain (encode_lower digest) (plain_digits digest bytes)

-- ---- the readers

pub reads_number : (most : ℕ) → most < 2 ^ 64 → Reads ℕ (number_in most) decimal (λ n. n ≤ most)
reads_number most small = record {
  back = λ n within. ap (number_in most) (plain-decimal n (omega (arith, within))) ∙ number_in-decimal most n within (omega (arith, within));
  only = λ value n e. let is = number_in-ok most n value e in (is.0 ∙ sym (plain-decimal n (omega (arith, is.1))), is.1);
}

pub reads_account : Reads ℕ account_in decimal IsNumber
reads_account =
    let reads = reads_number 4294967295 (omega arith) in record {
      back = λ n small. reads.back n (omega (arith, small));
      only = λ value n e. let is = reads.only value n e in (is.0, omega (arith, is.1));
    }

name_value : (value name : List ℕ) (t : Bool) → is_name value ≡ t → cond t (Some value) None ≡ Some name → (value ≡ name) × IsName name
name_value value name true is e = let same : value ≡ name = cc in (same, subst (λ w. is_name w ≡ true) same is)
name_value value name false is e = absurd (cc e)

pub reads_name : Reads (List ℕ) name_in (λ name. name) IsName
reads_name = record {
  back = λ name is. ap name_in (plain-name name is) ∙ rw is refl;
  only = λ value name e. let is = name_value value name (is_name value) refl (ok_or-ok _ name e) in (is.0 ∙ sym (plain-name name is.1), is.1);
}

pub reads_text : Reads (List ℕ) text_in (λ text. text) IsUtf8
reads_text = record { back = text_in-value; only = text_in-ok }

level_back : (version : Version) (level : Level) → has_level version level ≡ true → level_in version (level_name level) ≡ Ok level
level_back One Observer has = refl
level_back One Apprentice has = refl
level_back One Journeyer has = refl
level_back One Master has = refl
level_back One Fellow has = absurd (cc has)
level_back One Warden has = absurd (cc has)
level_back One Elder has = absurd (cc has)
level_back Two Observer has = refl
level_back Two Apprentice has = refl
level_back Two Journeyer has = refl
level_back Two Master has = refl
level_back Two Fellow has = refl
level_back Two Warden has = refl
level_back Two Elder has = refl

some_same : {X : Type 0} (x y : X) → Some x ≡ Some y → x ≡ y
some_same x y e = cc

found_passes : {X : Type 0} (p : X → Bool) (y : X) (later : Option X) (x : X) (b : Bool) → p y ≡ b → cond b (Some y) later ≡ Some x → (later ≡ Some x → p x ≡ true) → p x ≡ true
found_passes p y later x true is e rest = let same : y ≡ x = some_same y x e in subst (λ z. p z ≡ true) same is
found_passes p y later x false is e rest = rest e

find_passes : {X : Type 0} (p : X → Bool) (xs : List X) (x : X) → find p xs ≡ Some x → p x ≡ true
find_passes p [] x e = absurd (cc e)
find_passes p (y ∷ xs) x e = found_passes p y (find p xs) x (p y) refl e (find_passes p xs x)

spelled : (value : List ℕ) (level : Level) → level_of value ≡ Some level → value ≡ level_name level
spelled value level e = sym ((bytes_eq-Decides (level_name level) value).0 (find_passes (λ level. bytes_eq (level_name level) value) levels level e))

level_only : (version : Version) (value : List ℕ) (level : Level) → level_in version value ≡ Ok level → (value ≡ byte_serialize (level_name level)) × (has_level version level ≡ true)
level_only version value level e =
    let found = bind-ok (ok_or (level_of value) NotARow) (λ level. unless_not (has_level version level) >>= λ _. Ok level) level e in
    let has = bind-ok (unless_not (has_level version found.0)) (λ _. Ok found.0) level found.2 in
    let same : found.0 ≡ level = ok_same _ _ has.2 in (
      spelled value level (ok_or-ok (level_of value) found.0 found.1 ∙ ap Some same) ∙ sym (plain-level level),
      subst (λ level. has_level version level ≡ true) same (unless_not-ok _ has.0 has.1),
    )

pub reads_level : (version : Version) → Reads Level (level_in version) level_name (λ level. has_level version level ≡ true)
reads_level version = record {
  back = λ level has. ap (level_in version) (plain-level level) ∙ level_back version level has;
  only = level_only version;
}

digest_back : (digest : List ℕ) → length digest ≡ 32 → IsBytes digest → digest_in (encode_lower digest) ≡ Ok (Digest digest)
digest_back digest long bytes =
    ap (digest_from (encode_lower digest)) (decode_sized-encode_lower digest 32 long bytes)
    ∙ rw ((bytes_eq-Decides (encode_lower digest) (encode_lower digest)).1 refl) refl

digest_only : (value : List ℕ) (secret : Secret) (r : Result (List ℕ) FromHexError) → decode_sized value 32 ≡ r → digest_from value r ≡ Ok secret →
    (value ≡ byte_serialize (secret_text secret)) × IsSecret secret
digest_only value secret (Err e) is h = absurd (cc h)
digest_only value secret (Ok digest) is h =
    let parts = if-ok (bytes_eq (encode_lower digest) value) (Digest digest) secret h in
    let same : encode_lower digest ≡ value = (bytes_eq-Decides (encode_lower digest) value).0 parts.0 in
    let long : length value ≡ 2 * 32 = decode_sized-ok value 32 digest is in
    let read = decode_of-ok value digest (sym (decode_sized-twice value 32 long) ∙ is) in
    subst (λ s. (value ≡ byte_serialize (secret_text s)) × IsSecret s) parts.1
    (sym same ∙ sym (plain-digest digest read.3), (omega (arith, read.2), read.3))

secret_only : (value : List ℕ) (secret : Secret) → secret_in value ≡ Ok secret → (value ≡ byte_serialize (secret_text secret)) × IsSecret secret
secret_only [] Absent e = (sym byte_serialize-nil, tt)
secret_only [] (Digest digest) e = absurd (cc e)
secret_only (b ∷ value) secret e =
    let some : (length (b ∷ value) == 0) ≡ false = grind (arith, nat_tests) in
    let other : secret_in (b ∷ value) ≡ digest_in (b ∷ value) = cond-false _ _ _ some in
    digest_only (b ∷ value) secret (decode_sized (b ∷ value) 32) refl (sym other ∙ e)

secret_back : (secret : Secret) → IsSecret secret → secret_in (byte_serialize (secret_text secret)) ≡ Ok secret
secret_back Absent is = ap secret_in byte_serialize-nil
secret_back (Digest digest) is =
    let some : (length (encode_lower digest) == 0) ≡ false = grind (arith, nat_tests, length-encode_with lower_digits digest, is.0) in
    ap secret_in (plain-digest digest is.1) ∙ rw some (digest_back digest is.0 is.1)

pub reads_secret : Reads Secret secret_in secret_text IsSecret
reads_secret = record {
  back = secret_back;
  only = secret_only;
}
