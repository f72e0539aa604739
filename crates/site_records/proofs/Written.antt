-- The row of a certificate: what its pairs come to, whose values a form writes as they are.
use Rattle.std.proofs.Common.{◌≡◌, ℕ, ◌<◌, ◌^◌, List, [], ◌∷◌, ◌++◌, refl, sym, ap, ◌∙◌, append_assoc, append-nil, codes, decimal}
use Rattle.form_urlencoded.specs.Form.{byte_serialize, serialize_pair}
use Rattle.trust_types.specs.declared.levels.Level.{Level}
use Rattle.trust_types.specs.declared.records.Record.TheVariants.{Cert}
use Rattle.trust_types.specs.Levels.{level_name}
use Rattle.site_records.specs.Rows.{Pair, row}
use Rattle.site_records.proofs.Pairs.{fields, field_key, row_fields}
use Rattle.site_records.proofs.Plain.{plain, plain-decimal, plain-level}
use Rattle.site_records.proofs.Recorded.{key_k, key_m, key_a, key_b, key_l}

-- The pairs from the level on, from the subject on, and so on.
by_level : (l : Level) → fields ((codes "l", level_name l) ∷ []) ≡ codes "&l=" ++ level_name l
by_level l = field_key (codes "l") (codes "&l=") (level_name l) [] key_l ∙ (λ i. codes "&l=" ++ (plain-level l i ++ [])) ∙ ap (λ (xs : List ℕ). codes "&l=" ++ xs) (append-nil (level_name l))

by_number : (name key rest : List ℕ) (n : ℕ) (pairs : List Pair) → n < 2 ^ 64 → fields ((name, decimal n) ∷ pairs) ≡ key ++ (byte_serialize (decimal n) ++ fields pairs) → fields pairs ≡ rest →
    fields ((name, decimal n) ∷ pairs) ≡ key ++ (decimal n ++ rest)
by_number name key rest n pairs small is others = is ∙ (λ i. key ++ (plain-decimal n small i ++ others i))

first : serialize_pair (codes "v", codes "2") ≡ codes "v=2"
first = λ i. (plain (codes "v") refl i ++ 61 ∷ []) ++ plain (codes "2") refl i

cert_pairs : (m a b : ℕ) (l : Level) → m < 2 ^ 64 → a < 2 ^ 64 → b < 2 ^ 64 →
    row (Cert m a b l) ≡ codes "v=2&k=cert&m=" ++ (decimal m ++ (codes "&a=" ++ (decimal a ++ (codes "&b=" ++ (decimal b ++ (codes "&l=" ++ level_name l))))))
cert_pairs m a b l small_m small_a small_b =
    let from_l : List Pair = (codes "l", level_name l) ∷ [] in
    let from_b : List Pair = (codes "b", decimal b) ∷ from_l in
    let from_a : List Pair = (codes "a", decimal a) ∷ from_b in
    let from_m : List Pair = (codes "m", decimal m) ∷ from_a in
    let subjects = by_number (codes "b") (codes "&b=") (codes "&l=" ++ level_name l) b from_l small_b (field_key (codes "b") (codes "&b=") (decimal b) from_l key_b) (by_level l) in
    let authors = by_number (codes "a") (codes "&a=") (codes "&b=" ++ (decimal b ++ (codes "&l=" ++ level_name l))) a from_b small_a (field_key (codes "a") (codes "&a=") (decimal a) from_b key_a) subjects in
    let moments = by_number (codes "m") (codes "&m=") (codes "&a=" ++ (decimal a ++ (codes "&b=" ++ (decimal b ++ (codes "&l=" ++ level_name l))))) m from_a small_m (field_key (codes "m") (codes "&m=") (decimal m) from_a key_m) authors in
    row_fields (codes "v", codes "2") ((codes "k", codes "cert") ∷ from_m) ∙ ap (λ (xs : List ℕ). serialize_pair (codes "v", codes "2") ++ xs) (field_key (codes "k") (codes "&k=") (codes "cert") from_m key_k)
    ∙ (λ i. first i ++ (codes "&k=" ++ (plain (codes "cert") refl i ++ moments i)))

behind : (v m a₁ a b₁ b l₁ l : List ℕ) → ((((((v ++ m) ++ a₁) ++ a) ++ b₁) ++ b) ++ l₁) ++ l ≡ v ++ (m ++ (a₁ ++ (a ++ (b₁ ++ (b ++ (l₁ ++ l))))))
behind v m a₁ a b₁ b l₁ l = simp append_assoc

-- One piece put behind another, from nothing on.
pub cert_written : (t₀ t₁ t₂ t₃ t₄ t₅ : List ℕ) (m a b : ℕ) (l : Level) → m < 2 ^ 64 → a < 2 ^ 64 → b < 2 ^ 64 → t₀ ≡ [] → t₁ ≡ (t₀ ++ codes "v=2&k=cert&m=") ++ decimal m →
    t₂ ≡ (t₁ ++ codes "&a=") ++ decimal a → t₃ ≡ (t₂ ++ codes "&b=") ++ decimal b → t₄ ≡ t₃ ++ codes "&l=" → t₅ ≡ t₄ ++ level_name l → t₅ ≡ row (Cert m a b l)
cert_written t₀ t₁ t₂ t₃ t₄ t₅ m a b l small_m small_a small_b none moments authors subjects key levels =
    levels ∙ ap (λ (xs : List ℕ). xs ++ level_name l) key ∙ ap (λ (xs : List ℕ). (xs ++ codes "&l=") ++ level_name l) subjects
    ∙ ap (λ (xs : List ℕ). (((xs ++ codes "&b=") ++ decimal b) ++ codes "&l=") ++ level_name l) authors
    ∙ ap (λ (xs : List ℕ). (((((xs ++ codes "&a=") ++ decimal a) ++ codes "&b=") ++ decimal b) ++ codes "&l=") ++ level_name l) moments
    ∙ ap (λ (xs : List ℕ). (((((((xs ++ codes "v=2&k=cert&m=") ++ decimal m) ++ codes "&a=") ++ decimal a) ++ codes "&b=") ++ decimal b) ++ codes "&l=") ++ level_name l) none
    ∙ behind (codes "v=2&k=cert&m=") (decimal m) (codes "&a=") (decimal a) (codes "&b=") (decimal b) (codes "&l=") (level_name l)
    ∙ sym (cert_pairs m a b l small_m small_a small_b)
