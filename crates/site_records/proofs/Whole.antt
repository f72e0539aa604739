-- Rows are read back, and what is read is a row.
use Rattle.std.proofs.Common.{◌≡◌, ℕ, ◌<◌, ◌≤◌, ◌^◌, Bool, true, false, cond, List, [], ◌∷◌, ◌++◌, Ok, Err, Some, None, refl, sym, ap, ◌∙◌, arith, codes, decimal, subst, inl, inr}
use Rattle.std.specs.Prelude.{◌⊎◌, ◌≢◌, IfOk, IfErr}
use Rattle.std.specs.Str.{bytes_eq}
use Rattle.std.proofs.lemmas.Slice.Eq.{bytes_eq-Decides}
use Rattle.form_urlencoded.specs.Form.{byte_serialize, serialize_pair, extend_pairs}
use Rattle.form_urlencoded.proofs.OnLiterals.{form_urlencoded_on_literals}
use Rattle.trust_types.specs.declared.limits.TheConstants.{LAST_MOMENT}
use Rattle.trust_types.specs.declared.records.Record.{Record}
use Rattle.trust_types.specs.declared.records.Record.TheVariants.{Join, Seed, Unseed, Cert, Table, Diary, Article, Reply, Project}
use Rattle.trust_types.specs.Kept.{IsMoment, moment_of}
use Rattle.site_records.specs.declared.faults.RowFault.{RowFault}
use Rattle.site_records.specs.declared.faults.RowFault.TheVariants.{NotARow, NoMemory}
use Rattle.site_records.specs.declared.versions.Version.{Version}
use Rattle.site_records.specs.declared.versions.Version.TheVariants.{One, Two}
use Rattle.site_records.specs.Records.{IsRecord}
use Rattle.site_records.specs.Rows.{of_kind, version_name, row_in, is_old, IsRowOf}
use Rattle.site_records.specs.inner.Reading.{Read, Reads, ◌>>=◌, value_at, version_in, number_in, record_in, read}
use Rattle.site_records.proofs.Steps.{bind-ok, ok_same}
use Rattle.site_records.proofs.Numbers.{number_in-decimal, number_in-ok}
use Rattle.site_records.proofs.Pairs.{fields, row_fields, field_key, Plain, plain_value, behind_fields, value_at-field, value_at-ok}
use Rattle.site_records.proofs.Plain.{plain, plain-decimal}
use Rattle.site_records.proofs.Recorded.{kind_of, own, pairs_are, plain-kind, has, key_k, key_m, record_back, record_only}

-- ---- a row, piece by piece

abbrev behind_moment : Record → List ℕ
behind_moment x = fields (own x)

abbrev behind_kind : Record → List ℕ
behind_kind x = codes "&m=" ++ (decimal (moment_of x) ++ behind_moment x)

abbrev behind_version : Record → List ℕ
behind_version x = codes "&k=" ++ (kind_of x ++ behind_kind x)

first_pair : (version : Version) → serialize_pair (codes "v", version_name version) ≡ codes "v=" ++ version_name version
unfolding form_urlencoded_on_literals
first_pair One = refl
first_pair Two = refl

small : (x : Record) → IsMoment (moment_of x) → moment_of x < 2 ^ 64
small x at = let within : moment_of x ≤ 253402300799 = at in omega arith

pub pieces : (version : Version) (x : Record) → IsMoment (moment_of x) → row_in version x ≡ codes "v=" ++ (version_name version ++ behind_version x)
pieces version x at =
    let m = decimal (moment_of x) in
    ap (λ ps. extend_pairs [] ((codes "v", version_name version) ∷ ps)) (pairs_are x)
    ∙ row_fields (codes "v", version_name version) (of_kind (kind_of x) (moment_of x) (own x))
    ∙ (λ i. first_pair version i ++ field_key (codes "k") (codes "&k=") (kind_of x) ((codes "m", m) ∷ own x) key_k i)
    ∙ (λ i. (codes "v=" ++ version_name version) ++ (codes "&k=" ++ (plain-kind x i ++ field_key (codes "m") (codes "&m=") m (own x) key_m i)))
    ∙ (λ i. (codes "v=" ++ version_name version) ++ (codes "&k=" ++ (kind_of x ++ (codes "&m=" ++ (plain-decimal (moment_of x) (small x at) i ++ behind_moment x)))))

-- ---- each row is read as its record

plain_as : (text : List ℕ) → byte_serialize text ≡ text → Plain text
plain_as text same = subst Plain same (plain_value text)

plain_version : (version : Version) → byte_serialize (version_name version) ≡ version_name version
plain_version One = plain _ refl
plain_version Two = plain _ refl

version_back : (version : Version) → version_in (version_name version) ≡ Ok version
version_back One = refl
version_back Two = refl

abbrev Found : Type 0
Found = List ℕ × List ℕ

-- The steps behind each of the values.
abbrev after_moment_number : Found → Found → Version → ℕ → Read Record
after_moment_number kind moment form at = record_in form kind.0 at moment.1

abbrev after_version_name : Found → Found → Version → Read Record
after_version_name kind moment form = number_in LAST_MOMENT moment.0 >>= λ at. after_moment_number kind moment form at

abbrev after_moment : Found → Found → Found → Read Record
after_moment version kind moment = version_in version.0 >>= λ form. after_version_name kind moment form

abbrev after_kind : Found → Found → Read Record
after_kind version kind = value_at (codes "&m=") kind.1 >>= λ moment. after_moment version kind moment

abbrev after_version : Found → Read Record
after_version version = value_at (codes "&k=") version.1 >>= λ kind. after_kind version kind

moment_is : (x : Record) → IsRecord x → IsMoment (moment_of x)
moment_is (Join moment name secret) is = is.0
moment_is (Seed moment subject) is = is.0
moment_is (Unseed moment subject) is = is.0
moment_is (Cert moment author subject level) is = is.0
moment_is (Table moment caps) is = is.0
moment_is (Diary moment author text) is = is.0
moment_is (Article moment author title text) is = is.0
moment_is (Reply moment author article text) is = is.0
moment_is (Project moment author name text) is = is.0

read_back : (version : Version) (x : Record) → IsRecord x → has version x ≡ true → read (row_in version x) ≡ Ok x
unfolding read
read_back version x is had =
    let at = moment_is x is in
    let name = version_name version in
    let m = decimal (moment_of x) in
    let v = value_at-field (codes "v=") name (behind_version x) (plain_as name (plain_version version)) (inr (_, refl)) in
    let k = value_at-field (codes "&k=") (kind_of x) (behind_kind x) (plain_as (kind_of x) (plain-kind x)) (inr (_, refl)) in
    let n = value_at-field (codes "&m=") m (behind_moment x) (plain_as m (plain-decimal (moment_of x) (small x at))) (behind_fields (own x)) in
    ap (λ bytes. value_at (codes "v=") bytes >>= after_version) (pieces version x at)
    ∙ ap (λ r. r >>= after_version) v
    ∙ ap (λ r. r >>= after_kind (name, behind_version x)) k
    ∙ ap (λ r. r >>= after_moment (name, behind_version x) (kind_of x, behind_kind x)) n
    ∙ ap (λ r. r >>= after_version_name (kind_of x, behind_kind x) (m, behind_moment x)) (version_back version)
    ∙ ap (λ r. r >>= after_moment_number (kind_of x, behind_kind x) (m, behind_moment x) version) (number_in-decimal LAST_MOMENT (moment_of x) at (small x at))
    ∙ record_back version x is had

old_row-some : (x : Record) (bytes : List ℕ) (b : Bool) → is_old x ≡ b → cond b (Some (row_in One x)) None ≡ Some bytes → (is_old x ≡ true) × (bytes ≡ row_in One x)
old_row-some x bytes true is e = let same : bytes ≡ row_in One x = cc in (is, same)
old_row-some x bytes false is e = absurd (cc e)

pub reads_row : (x : Record) (bytes : List ℕ) → IsRecord x → IsRowOf x bytes → read bytes ≡ Ok x
reads_row x bytes is (inl e) = ap read e ∙ read_back Two x is refl
reads_row x bytes is (inr e) = let old = old_row-some x bytes (is_old x) refl e in ap read old.1 ∙ read_back One x is old.0

pub one_record : (x y : Record) (bytes : List ℕ) → IsRecord x → IsRecord y → IsRowOf x bytes → IsRowOf y bytes → x ≡ y
one_record x y bytes is are first second = ok_same x y (sym (reads_row x bytes is first) ∙ reads_row y bytes are second)

-- ---- what is read is a row

version_only : (value : List ℕ) (version : Version) → version_in value ≡ Ok version → value ≡ version_name version
version_only value version e = by_test (bytes_eq value (codes "1")) (bytes_eq value (codes "2")) refl refl e
  where
    by_test : (one two : Bool) → bytes_eq value (codes "1") ≡ one → bytes_eq value (codes "2") ≡ two → cond one (Ok One) (cond two (Ok Two) (Err NotARow)) ≡ Ok version → value ≡ version_name version
    by_test true two is _ e = let same : One ≡ version = ok_same _ _ e in (bytes_eq-Decides value (codes "1")).0 is ∙ ap version_name same
    by_test false true _ is e = let same : Two ≡ version = ok_same _ _ e in (bytes_eq-Decides value (codes "2")).0 is ∙ ap version_name same
    by_test false false _ _ e = absurd (cc e)

row_of_version : (version : Version) (x : Record) (bytes : List ℕ) → has version x ≡ true → bytes ≡ row_in version x → IsRowOf x bytes
row_of_version One x bytes old is = inr (rw old (ap Some (sym is)))
row_of_version Two x bytes old is = inl is

pub row_read : (bytes : List ℕ) (x : Record) → read bytes ≡ Ok x → IsRecord x × IsRowOf x bytes
unfolding read
row_read bytes x e =
    let v = bind-ok (value_at (codes "v=") bytes) after_version x e in
    let k = bind-ok (value_at (codes "&k=") v.0.1) (after_kind v.0) x v.2 in
    let n = bind-ok (value_at (codes "&m=") k.0.1) (after_moment v.0 k.0) x k.2 in
    let f = bind-ok (version_in v.0.0) (after_version_name k.0 n.0) x n.2 in
    let a = bind-ok (number_in LAST_MOMENT n.0.0) (after_moment_number k.0 n.0 f.0) x f.2 in
    let told = record_only f.0 k.0.0 a.0 n.0.1 x a.2 in
    let moment = number_in-ok LAST_MOMENT a.0 n.0.0 a.1 in
    let is = told.is moment.1 in
    let name = version_only v.0.0 f.0 f.1 in
    let m : n.0.0 ≡ decimal (moment_of x) = moment.0 ∙ ap decimal told.moment_is in
    let e₁ = value_at-ok (codes "v=") bytes v.0 v.1 in
    let e₂ = value_at-ok (codes "&k=") v.0.1 k.0 k.1 in
    let e₃ = value_at-ok (codes "&m=") k.0.1 n.0 n.1 in
    let whole : bytes ≡ row_in f.0 x =
    e₁ ∙ (λ i. codes "v=" ++ (name i ++ e₂ i))
    ∙ (λ i. codes "v=" ++ (version_name f.0 ++ (codes "&k=" ++ (told.kind_is i ++ e₃ i))))
    ∙ (λ i. codes "v=" ++ (version_name f.0 ++ (codes "&k=" ++ (kind_of x ++ (codes "&m=" ++ (m i ++ told.row_is i))))))
    ∙ sym (pieces f.0 x (moment_is x is)) in
    (is, row_of_version f.0 x bytes told.had whole)

-- ---- what the reader answers

pub told_record : (bytes : List ℕ) (r : Read Record) → Reads r (read bytes) → IfOk r IsRecord
told_record bytes (Ok x) e = (row_read bytes x e).0
told_record bytes (Err fault) e = tt

pub told_moment : (bytes : List ℕ) (r : Read Record) → Reads r (read bytes) → IfOk r (λ x. IsMoment (moment_of x))
told_moment bytes (Ok x) e = moment_is x (row_read bytes x e).0
told_moment bytes (Err fault) e = tt

pub told_row : (bytes : List ℕ) (r : Read Record) → Reads r (read bytes) → IfOk r (λ x. IsRowOf x bytes)
told_row bytes (Ok x) e = (row_read bytes x e).1
told_row bytes (Err fault) e = tt

refused_row : (bytes : List ℕ) (fault : RowFault) (x : Record) → (fault ≡ NoMemory) ⊎ (read bytes ≡ Err fault) → fault ≡ NotARow → read bytes ≡ Ok x → ⊥
refused_row bytes fault x (inl e) is known = cc
refused_row bytes fault x (inr e) is known = cc (sym e ∙ known)

pub told_none : (bytes : List ℕ) (r : Read Record) → Reads r (read bytes) → IfErr r (λ fault. fault ≡ NotARow → (x : Record) → IsRecord x → ¬ (IsRowOf x bytes))
told_none bytes (Ok x) e = tt
told_none bytes (Err fault) e = λ is x good has. refused_row bytes fault x e is (reads_row x bytes good has)

exact_of : (bytes : List ℕ) (r : Read Record) (x : Record) → Reads r (read bytes) → read bytes ≡ Ok x → r ≢ Err NoMemory → r ≡ Ok x
exact_of bytes (Ok y) x e known some = sym e ∙ known
exact_of bytes (Err fault) x (inl e) known some = absurd (some (ap Err e))
exact_of bytes (Err fault) x (inr e) known some = absurd (cc (sym e ∙ known))

pub told_exact : (bytes : List ℕ) (r : Read Record) → Reads r (read bytes) → (x : Record) → IsRecord x → IsRowOf x bytes → r ≢ Err NoMemory → r ≡ Ok x
told_exact bytes r e x good has some = exact_of bytes r x e (reads_row x bytes good has) some
