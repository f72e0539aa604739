-- The fields of a row, one behind another.
use Rattle.std.proofs.Common.{◌≡◌, ◌≢◌, ℕ, ◌<◌, true, List, [], ◌∷◌, ◌++◌, length, take, drop, Ok, All, refl, sym, ap, ◌∙◌, arith, append_assoc, append-nil, length-append, take-append-drop, one-add, ◌==◌, inl, inr, ⊎_elim}
use Rattle.std.specs.Prelude.{◌⊎◌}
use Rattle.std.specs.List.{position_or_len}
use Rattle.std.specs.Str.{bytes_eq}
use Rattle.std.proofs.lemmas.Bool.{cond-true, ne_eqb, lt-ltb}
use Rattle.std.proofs.lemmas.Bool.Decides.{nat_tests}
use Rattle.std.proofs.lemmas.List.Elements.{All-head, All-tail, All-weaker}
use Rattle.std.proofs.lemmas.Slice.Eq.{bytes_eq-Decides}
use Rattle.form_urlencoded.specs.Form.{byte_serialize, serialize_pair, separator, append_pair, extend_pairs}
use Rattle.form_urlencoded.proofs.FormLemmas.{IsSerializedByte, All-byte_serialize}
use Rattle.trust_types.specs.declared.records.Record.{Record}
use Rattle.site_records.specs.Rows.{Pair}
use Rattle.site_records.specs.inner.Reading.{Read, ◌>>=◌, behind_key, value_at, at_end, one_value, two_values, three_values, one_read, two_read, three_read}
use Rattle.site_records.proofs.Steps.{if-ok, bind-ok, ok_same}
use Rattle.site_records.proofs.Values.{front}

-- The pairs behind the first, each with its `&`.
abbrev pub fields : List Pair → List ℕ
fields [] = []
fields (pair ∷ pairs) = 38 ∷ serialize_pair pair ++ fields pairs

extended : (form : List ℕ) (pairs : List Pair) → 0 < length form → extend_pairs form pairs ≡ form ++ fields pairs
extended form [] some = sym (append-nil form)
extended form (pair ∷ pairs) some =
    let longer : 0 < length (append_pair form pair.0 pair.1) = simp length-append (omega arith) in
    let joined : separator form ≡ 38 ∷ [] = cond-true _ _ _ (lt-ltb 0 _ some) in
    extended (append_pair form pair.0 pair.1) pairs longer ∙ simp (joined, append_assoc)

pub row_fields : (first : Pair) (pairs : List Pair) → extend_pairs [] (first ∷ pairs) ≡ serialize_pair first ++ fields pairs
row_fields first pairs = extended (serialize_pair first) pairs (simp length-append (omega arith))

-- ---- the value behind a key

-- No `&`.
abbrev pub Plain : List ℕ → Type 0
Plain value = All (λ b. b ≢ 38) value

-- What may stand behind a value.
abbrev pub Behind : List ℕ → Type 0
Behind rest = (rest ≡ []) ⊎ ((more : List ℕ) × (rest ≡ 38 ∷ more))

pub behind_fields : (pairs : List Pair) → Behind (fields pairs)
behind_fields [] = inl refl
behind_fields (pair ∷ pairs) = inr (serialize_pair pair ++ fields pairs, refl)

behind_at : (rest : List ℕ) → Behind rest → behind_key rest ≡ ([], rest)
behind_at rest (inl end) = rw end refl
behind_at rest (inr more) = rw more.1 refl

behind_more : (b : ℕ) (xs : List ℕ) → b ≢ 38 → behind_key (b ∷ xs) ≡ (b ∷ (behind_key xs).0, (behind_key xs).1)
behind_more b xs other = rw (ne_eqb b 38 other, one-add) refl

behind_value : (value rest : List ℕ) → Plain value → Behind rest → behind_key (value ++ rest) ≡ (value, rest)
behind_value [] rest plain behind = behind_at rest behind
behind_value (b ∷ value) rest plain behind =
    let later = behind_value value rest (All-tail (λ b. b ≢ 38) b value plain) behind in
    behind_more b (value ++ rest) (All-head (λ b. b ≢ 38) b value plain) ∙ ap (λ (p : List ℕ × List ℕ). (b ∷ p.0, p.1)) later

behind_front : (key rest : List ℕ) → drop (length key) (key ++ rest) ≡ rest
behind_front [] rest = refl
behind_front (b ∷ key) rest = behind_front key rest

pub value_at-field : (key value rest : List ℕ) → Plain value → Behind rest → value_at key (key ++ (value ++ rest)) ≡ Ok (value, rest)
value_at-field key value rest plain behind =
    let same : bytes_eq (take (length key) (key ++ (value ++ rest))) key ≡ true = (bytes_eq-Decides _ key).1 (front key (value ++ rest)) in
    rw (same, behind_front key (value ++ rest), behind_value value rest plain behind) refl

pub value_at-ok : (key row : List ℕ) (found : List ℕ × List ℕ) → value_at key row ≡ Ok found → row ≡ key ++ (found.0 ++ found.1)
value_at-ok key row found e =
    let behind = drop (length key) row in
    let parts = if-ok (bytes_eq (take (length key) row) key) (behind_key behind) found e in
    let begins : take (length key) row ≡ key = (bytes_eq-Decides (take (length key) row) key).0 parts.0 in
    let whole : behind ≡ found.0 ++ found.1 = sym (take-append-drop (position_or_len (λ b. b == 38) behind) behind) ∙ ap (λ (p : List ℕ × List ℕ). p.0 ++ p.1) parts.1 in
    sym (take-append-drop (length key) row) ∙ (λ i. begins i ++ whole i)

pub plain_value : (text : List ℕ) → Plain (byte_serialize text)
plain_value text = All-weaker IsSerializedByte (λ b. b ≢ 38) other (byte_serialize text) (All-byte_serialize text)
  where
    other : (b : ℕ) → IsSerializedByte b → b ≢ 38
    other b allowed = ⊎_elim (λ kept. λ e. grind (arith, nat_tests)) (λ signs. λ e. grind arith) allowed.allowed

-- ---- one, two, three fields

-- A key is a name with the signs before and behind it.
pub record IsKey (name key : List ℕ) : Type 0 where
  pub is : 38 ∷ byte_serialize name ++ 61 ∷ [] ≡ key

pub field_key : (name key : List ℕ) (value : List ℕ) (pairs : List Pair) → IsKey name key → fields ((name, value) ∷ pairs) ≡ key ++ (byte_serialize value ++ fields pairs)
field_key name key value pairs is =
    append_assoc ((38 ∷ byte_serialize name) ++ 61 ∷ []) (byte_serialize value) (fields pairs) ∙ ap (λ front. front ++ (byte_serialize value ++ fields pairs)) is.is

pub at_field : (name key : List ℕ) (value : List ℕ) (pairs : List Pair) → IsKey name key → value_at key (fields ((name, value) ∷ pairs)) ≡ Ok (byte_serialize value, fields pairs)
at_field name key value pairs is =
    ap (value_at key) (field_key name key value pairs is) ∙ value_at-field key (byte_serialize value) (fields pairs) (plain_value value) (behind_fields pairs)

-- A reader of values reads just those that forms give to what it reads.
pub record Reads (A : Type 0) (in_value : List ℕ → Read A) (text : A → List ℕ) (Is : A → Type 0) : Type 0 where
  pub back : (a : A) → Is a → in_value (byte_serialize (text a)) ≡ Ok a
  pub only : (value : List ℕ) (a : A) → in_value value ≡ Ok a → (value ≡ byte_serialize (text a)) × Is a

pub one-back : (A : Type 0) (name key : List ℕ) (in_first : List ℕ → Read A) (text : A → List ℕ) (Is : A → Type 0) (record_of : A → Record) (a : A) →
    IsKey name key → Reads A in_first text Is → Is a → one_read key in_first record_of (fields ((name, text a) ∷ [])) ≡ Ok (record_of a)
one-back A name key in_first text Is record_of a is reads good =
    rw (at_field name key (text a) [] is, reads.back a good) refl

pub two-back : (A B : Type 0) (n₁ k₁ n₂ k₂ : List ℕ) (r₁ : List ℕ → Read A) (r₂ : List ℕ → Read B) (t₁ : A → List ℕ) (t₂ : B → List ℕ) (P₁ : A → Type 0) (P₂ : B → Type 0)
    (record_of : A → B → Record) (a : A) (b : B) → IsKey n₁ k₁ → IsKey n₂ k₂ → Reads A r₁ t₁ P₁ → Reads B r₂ t₂ P₂ → P₁ a → P₂ b →
    two_read k₁ k₂ r₁ r₂ record_of (fields ((n₁, t₁ a) ∷ (n₂, t₂ b) ∷ [])) ≡ Ok (record_of a b)
two-back A B n₁ k₁ n₂ k₂ r₁ r₂ t₁ t₂ P₁ P₂ record_of a b is₁ is₂ reads₁ reads₂ p₁ p₂ =
    rw (at_field n₁ k₁ (t₁ a) ((n₂, t₂ b) ∷ []) is₁, at_field n₂ k₂ (t₂ b) [] is₂, reads₁.back a p₁, reads₂.back b p₂) refl

pub three-back : (A B C : Type 0) (n₁ k₁ n₂ k₂ n₃ k₃ : List ℕ) (r₁ : List ℕ → Read A) (r₂ : List ℕ → Read B) (r₃ : List ℕ → Read C)
    (t₁ : A → List ℕ) (t₂ : B → List ℕ) (t₃ : C → List ℕ) (P₁ : A → Type 0) (P₂ : B → Type 0) (P₃ : C → Type 0)
    (record_of : A → B → C → Record) (a : A) (b : B) (c : C) → IsKey n₁ k₁ → IsKey n₂ k₂ → IsKey n₃ k₃ → Reads A r₁ t₁ P₁ → Reads B r₂ t₂ P₂ → Reads C r₃ t₃ P₃ →
    P₁ a → P₂ b → P₃ c → three_read k₁ k₂ k₃ r₁ r₂ r₃ record_of (fields ((n₁, t₁ a) ∷ (n₂, t₂ b) ∷ (n₃, t₃ c) ∷ [])) ≡ Ok (record_of a b c)
three-back A B C n₁ k₁ n₂ k₂ n₃ k₃ r₁ r₂ r₃ t₁ t₂ t₃ P₁ P₂ P₃ record_of a b c is₁ is₂ is₃ reads₁ reads₂ reads₃ p₁ p₂ p₃ =
    rw (
      at_field n₁ k₁ (t₁ a) ((n₂, t₂ b) ∷ (n₃, t₃ c) ∷ []) is₁,
      at_field n₂ k₂ (t₂ b) ((n₃, t₃ c) ∷ []) is₂,
      at_field n₃ k₃ (t₃ c) [] is₃,
      reads₁.back a p₁,
      reads₂.back b p₂,
      reads₃.back c p₃,
    ) refl

at_end-ok : (rest : List ℕ) (u : Unit {0}) → at_end rest ≡ Ok u → rest ≡ []
at_end-ok [] u e = refl
at_end-ok (b ∷ rest) u e = absurd (cc e)

one_value-ok : (key row value : List ℕ) → one_value key row ≡ Ok value → row ≡ key ++ (value ++ [])
one_value-ok key row value e =
    let found = bind-ok (value_at key row) (λ found. at_end found.1 >>= λ _. Ok found.0) value e in
    let end = bind-ok (at_end found.0.1) (λ _. Ok found.0.0) value found.2 in
    let is : found.0.0 ≡ value = ok_same _ _ end.2 in
    let rest : found.0.1 ≡ [] = at_end-ok found.0.1 end.0 end.1 in
    value_at-ok key row found.0 found.1 ∙ (λ i. key ++ (is i ++ rest i))

two_values-ok : (k₁ k₂ row : List ℕ) (values : List ℕ × List ℕ) → two_values k₁ k₂ row ≡ Ok values → row ≡ k₁ ++ (values.0 ++ (k₂ ++ (values.1 ++ [])))
two_values-ok k₁ k₂ row values e =
    let found = bind-ok (value_at k₁ row) (λ found. one_value k₂ found.1 >>= λ last. Ok (found.0, last)) values e in
    let last = bind-ok (one_value k₂ found.0.1) (λ last. Ok (found.0.0, last)) values found.2 in
    let is : (found.0.0, last.0) ≡ values = ok_same _ _ last.2 in
    let rest = one_value-ok k₂ found.0.1 last.0 last.1 in
    value_at-ok k₁ row found.0 found.1 ∙ (λ i. k₁ ++ (found.0.0 ++ rest i)) ∙ (λ i. k₁ ++ ((is i).0 ++ (k₂ ++ ((is i).1 ++ []))))

three_values-ok : (k₁ k₂ k₃ row : List ℕ) (values : List ℕ × List ℕ × List ℕ) → three_values k₁ k₂ k₃ row ≡ Ok values →
    row ≡ k₁ ++ (values.0 ++ (k₂ ++ (values.1 ++ (k₃ ++ (values.2 ++ [])))))
three_values-ok k₁ k₂ k₃ row values e =
    let found = bind-ok (value_at k₁ row) (λ found. two_values k₂ k₃ found.1 >>= λ others. Ok (found.0, others.0, others.1)) values e in
    let others = bind-ok (two_values k₂ k₃ found.0.1) (λ others. Ok (found.0.0, others.0, others.1)) values found.2 in
    let is : (found.0.0, others.0.0, others.0.1) ≡ values = ok_same _ _ others.2 in
    let rest = two_values-ok k₂ k₃ found.0.1 others.0 others.1 in
    value_at-ok k₁ row found.0 found.1 ∙ (λ i. k₁ ++ (found.0.0 ++ rest i)) ∙ (λ i. k₁ ++ ((is i).0 ++ (k₂ ++ ((is i).1 ++ (k₃ ++ ((is i).2 ++ []))))))

pub one-only : (A : Type 0) (name key : List ℕ) (in_first : List ℕ → Read A) (text : A → List ℕ) (Is : A → Type 0) (record_of : A → Record) (row : List ℕ) (x : Record) →
    IsKey name key → Reads A in_first text Is → one_read key in_first record_of row ≡ Ok x →
    (a : A) × Is a × (record_of a ≡ x) × (row ≡ fields ((name, text a) ∷ []))
one-only A name key in_first text Is record_of row x is reads e =
    let value = bind-ok (one_value key row) (λ value. in_first value >>= λ a. Ok (record_of a)) x e in
    let first = bind-ok (in_first value.0) (λ a. Ok (record_of a)) x value.2 in
    let told = reads.only value.0 first.0 first.1 in (
      first.0,
      told.1,
      ok_same _ _ first.2,
      one_value-ok key row value.0 value.1 ∙ (λ i. key ++ (told.0 i ++ [])) ∙ sym (field_key name key (text first.0) [] is),
    )

pub two-only : (A B : Type 0) (n₁ k₁ n₂ k₂ : List ℕ) (r₁ : List ℕ → Read A) (r₂ : List ℕ → Read B) (t₁ : A → List ℕ) (t₂ : B → List ℕ) (P₁ : A → Type 0) (P₂ : B → Type 0)
    (record_of : A → B → Record) (row : List ℕ) (x : Record) → IsKey n₁ k₁ → IsKey n₂ k₂ → Reads A r₁ t₁ P₁ → Reads B r₂ t₂ P₂ →
    two_read k₁ k₂ r₁ r₂ record_of row ≡ Ok x →
    (a : A) × (b : B) × P₁ a × P₂ b × (record_of a b ≡ x) × (row ≡ fields ((n₁, t₁ a) ∷ (n₂, t₂ b) ∷ []))
two-only A B n₁ k₁ n₂ k₂ r₁ r₂ t₁ t₂ P₁ P₂ record_of row x is₁ is₂ reads₁ reads₂ e =
    let values = bind-ok (two_values k₁ k₂ row) (λ values. r₁ values.0 >>= λ a. r₂ values.1 >>= λ b. Ok (record_of a b)) x e in
    let first = bind-ok (r₁ values.0.0) (λ a. r₂ values.0.1 >>= λ b. Ok (record_of a b)) x values.2 in
    let second = bind-ok (r₂ values.0.1) (λ b. Ok (record_of first.0 b)) x first.2 in
    let told₁ = reads₁.only values.0.0 first.0 first.1 in
    let told₂ = reads₂.only values.0.1 second.0 second.1 in (
      first.0,
      second.0,
      told₁.1,
      told₂.1,
      ok_same _ _ second.2,
      two_values-ok k₁ k₂ row values.0 values.1 ∙ (λ i. k₁ ++ (told₁.0 i ++ (k₂ ++ (told₂.0 i ++ []))))
          ∙ sym (field_key n₁ k₁ (t₁ first.0) ((n₂, t₂ second.0) ∷ []) is₁ ∙ ap (λ rest. k₁ ++ (byte_serialize (t₁ first.0) ++ rest)) (field_key n₂ k₂ (t₂ second.0) [] is₂)),
    )

pub three-only : (A B C : Type 0) (n₁ k₁ n₂ k₂ n₃ k₃ : List ℕ) (r₁ : List ℕ → Read A) (r₂ : List ℕ → Read B) (r₃ : List ℕ → Read C)
    (t₁ : A → List ℕ) (t₂ : B → List ℕ) (t₃ : C → List ℕ) (P₁ : A → Type 0) (P₂ : B → Type 0) (P₃ : C → Type 0)
    (record_of : A → B → C → Record) (row : List ℕ) (x : Record) → IsKey n₁ k₁ → IsKey n₂ k₂ → IsKey n₃ k₃ → Reads A r₁ t₁ P₁ → Reads B r₂ t₂ P₂ → Reads C r₃ t₃ P₃ →
    three_read k₁ k₂ k₃ r₁ r₂ r₃ record_of row ≡ Ok x →
    (a : A) × (b : B) × (c : C) × P₁ a × P₂ b × P₃ c × (record_of a b c ≡ x) × (row ≡ fields ((n₁, t₁ a) ∷ (n₂, t₂ b) ∷ (n₃, t₃ c) ∷ []))
three-only A B C n₁ k₁ n₂ k₂ n₃ k₃ r₁ r₂ r₃ t₁ t₂ t₃ P₁ P₂ P₃ record_of row x is₁ is₂ is₃ reads₁ reads₂ reads₃ e =
    let values = bind-ok (three_values k₁ k₂ k₃ row) (λ values. r₁ values.0 >>= λ a. r₂ values.1 >>= λ b. r₃ values.2 >>= λ c. Ok (record_of a b c)) x e in
    let first = bind-ok (r₁ values.0.0) (λ a. r₂ values.0.1 >>= λ b. r₃ values.0.2 >>= λ c. Ok (record_of a b c)) x values.2 in
    let second = bind-ok (r₂ values.0.1) (λ b. r₃ values.0.2 >>= λ c. Ok (record_of first.0 b c)) x first.2 in
    let third = bind-ok (r₃ values.0.2) (λ c. Ok (record_of first.0 second.0 c)) x second.2 in
    let told₁ = reads₁.only values.0.0 first.0 first.1 in
    let told₂ = reads₂.only values.0.1 second.0 second.1 in
    let told₃ = reads₃.only values.0.2 third.0 third.1 in (
      first.0,
      second.0,
      third.0,
      told₁.1,
      told₂.1,
      told₃.1,
      ok_same _ _ third.2,
      three_values-ok k₁ k₂ k₃ row values.0 values.1 ∙ (λ i. k₁ ++ (told₁.0 i ++ (k₂ ++ (told₂.0 i ++ (k₃ ++ (told₃.0 i ++ []))))))
          ∙ sym (field_key n₁ k₁ (t₁ first.0) ((n₂, t₂ second.0) ∷ (n₃, t₃ third.0) ∷ []) is₁
          ∙ ap (λ rest. k₁ ++ (byte_serialize (t₁ first.0) ++ rest)) (field_key n₂ k₂ (t₂ second.0) ((n₃, t₃ third.0) ∷ []) is₂
          ∙ ap (λ rest. k₂ ++ (byte_serialize (t₂ second.0) ++ rest)) (field_key n₃ k₃ (t₃ third.0) [] is₃))),
    )
