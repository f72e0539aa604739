-- The text that was written is the canonical one, and reads back.
use Rattle.std.proofs.Common.{◌≡◌, ◌≢◌, ℕ, ◌<◌, ◌≤◌, ◌^◌, true, false, ◌%◌, List, [], ◌∷◌, ◌++◌, length, map, refl, ap, sym, subst, ◌∙◌, arith, inl, inr, All, IsTrue, append_assoc}
use Rattle.std.specs.List.{flat_map}
use Rattle.std.proofs.lemmas.Bool.{cases_lt, false≢true}
use Rattle.std.proofs.lemmas.Grind.{flat_map-append}
use Rattle.std.proofs.lemmas.List.Folds.{flat_map-map}
use Rattle.trust_types.specs.declared.limits.TheConstants.{MOST_ACCOUNTS, MOST_CERTS}
use Rattle.trust_types.specs.declared.levels.Level.{Level}
use Rattle.trust_types.specs.declared.levels.Level.TheVariants.{Observer}
use Rattle.trust_types.specs.declared.accounts.Node.{Node}
use Rattle.trust_types.specs.declared.accounts.Node.TheVariants.{Root}
use Rattle.trust_types.specs.declared.flows.FlowLine.{FlowLine}
use Rattle.trust_types.specs.declared.flows.Side.TheVariants.{Outside}
use Rattle.trust_types.specs.declared.graphs.Cert.{Cert}
use Rattle.trust_types.specs.Levels.{is_grade, IsGrade}
use Rattle.trust_types.specs.Graph.{KeepsLevels}
use Rattle.trust_types.specs.Lines.{sides_of}
use Rattle.frozen.specs.Parts.{Part, taker_in, level_in}
use Rattle.frozen.specs.Sites.{part_of, degree, given}
use Rattle.frozen.proofs.Among.{among-found}
use Rattle.trust_types.specs.NameLists.{AreApart}
use Rattle.trust_types.specs.Names.{IsName}
use Rattle.trust_types.specs.Proven.{Lists, AreInOrder}
use Rattle.trust_types.specs.Rows.{GivesEachOnce}
use Rattle.trust_types.specs.Sum.{sum_below}
use Rattle.trust_types.specs.Tables.{Table, IsTable, has_level, has_grade}
use Rattle.text_lines.proofs.Joining.{both}
use Rattle.frozen.specs.Revision.{Revision, certificates}
use Rattle.site_text.specs.View.{of_frozen}
use Rattle.roster_form.specs.LevelRosters.{AreAmong}
use Rattle.audit_text.specs.Canonical.{line, caps_words, levels_words, account_words, seed_words, cert_words, level_words, flow_words, pass_words, full_words, site_words, claim_words, IsCanonical, IsReadAs}
use Rattle.audit_text.specs.inner.Writing.{entries_words, seeds_below, certs_below, lines_for}
use Rattle.audit_text.proofs.GraphLists.{AreReaders, can-stand, made-of, seeds-rise}
use Rattle.audit_text.proofs.ReadingBack.{IsWritten, read_back}

three : (f : List (List ℕ) → List ℕ) (first : List (List ℕ)) (xs ys zs : List (List (List ℕ))) →
    flat_map f (((first ∷ xs) ++ ys) ++ zs) ≡ ((f first ++ flat_map f xs) ++ flat_map f ys) ++ flat_map f zs
three f first xs ys zs =
    flat_map-append f ((first ∷ xs) ++ ys) zs ∙ ap (λ text. text ++ flat_map f zs) (flat_map-append f (first ∷ xs) ys)

four : (f : List (List ℕ) → List ℕ) (first : List (List ℕ)) (ws xs ys zs : List (List (List ℕ))) →
    flat_map f ((((first ∷ ws) ++ xs) ++ ys) ++ zs) ≡ (((f first ++ flat_map f ws) ++ flat_map f xs) ++ flat_map f ys) ++ flat_map f zs
four f first ws xs ys zs = flat_map-append f (((first ∷ ws) ++ xs) ++ ys) zs ∙ ap (λ text. text ++ flat_map f zs) (three f first ws xs ys)

regroup : (a l b c d e f g h : List ℕ) → ((((a ++ l) ++ b) ++ c) ++ d) ++ (((e ++ f) ++ g) ++ h) ≡ (((((((a ++ l) ++ b) ++ c) ++ d) ++ e) ++ f) ++ g) ++ h
regroup a l b c d e f g h = simp append_assoc

-- the lines of a text, in order
in_order : (f : List (List ℕ) → List ℕ) (c l : List (List ℕ)) (count accounts seeds certs flow pass full : List (List (List ℕ))) →
    flat_map f (((((c ∷ count) ++ accounts) ++ seeds) ++ certs) ++ (((l ∷ flow) ++ pass) ++ full))
    ≡ (((((((f c ++ flat_map f count) ++ flat_map f accounts) ++ flat_map f seeds) ++ flat_map f certs) ++ f l) ++ flat_map f flow) ++ flat_map f pass) ++ flat_map f full
in_order f c l count accounts seeds certs flow pass full =
    flat_map-append f ((((c ∷ count) ++ accounts) ++ seeds) ++ certs) (((l ∷ flow) ++ pass) ++ full)
    ∙ ap (λ text. text ++ flat_map f (((l ∷ flow) ++ pass) ++ full)) (four f c count accounts seeds certs)
    ∙ ap (λ text. ((((f c ++ flat_map f count) ++ flat_map f accounts) ++ flat_map f seeds) ++ flat_map f certs) ++ text) (three f l flow pass full)
    ∙ regroup (f c) (flat_map f count) (flat_map f accounts) (flat_map f seeds) (flat_map f certs) (f l) (flat_map f flow) (flat_map f pass) (flat_map f full)

in_lines : (table : Table) (names : List (List ℕ)) (seeds : List ℕ) (certs : List Cert) (level : Level) (r : Lists) →
    flat_map line (site_words table names seeds certs ++ claim_words names level r)
    ≡ (((((((line (caps_words table) ++ flat_map line (levels_words table)) ++ lines_for account_words names) ++ lines_for (seed_words names) seeds) ++ lines_for (cert_words names) certs)
    ++ line (level_words level)) ++ lines_for (flow_words names) r.flow) ++ lines_for (pass_words names) r.pass) ++ lines_for (full_words names) r.full
in_lines table names seeds certs level r =
    in_order line (caps_words table) (level_words level) (levels_words table) (map account_words names) (map (seed_words names) seeds) (map (cert_words names) certs)
    (map (flow_words names) r.flow) (map (pass_words names) r.pass) (map (full_words names) r.full)
    ∙ rw (
      flat_map-map line account_words names,
      flat_map-map line (seed_words names) seeds,
      flat_map-map line (cert_words names) certs,
      flat_map-map line (flow_words names) r.flow,
      flat_map-map line (pass_words names) r.pass,
      flat_map-map line (full_words names) r.full,
    ) refl

-- What the calls tell of the graph and the lists that are written.
pub record AreTold (f : Revision) (level : Level) (r : Lists) : Type 0 where
  pub readers : GivesEachOnce (certificates f) (degree f.parts) (given f.parts)
  pub outside : (a b : ℕ) → (certificates f).accounts ≤ a → (certificates f).standing a b ≡ Observer
  pub no_seeds : (a : ℕ) → (certificates f).accounts ≤ a → (certificates f).is_seed a ≡ false
  pub accounts : (certificates f).accounts ≤ MOST_ACCOUNTS
  pub certs : sum_below (certificates f).accounts (degree f.parts) ≤ MOST_CERTS
  pub known : length f.names ≡ (certificates f).accounts
  pub named : All IsName f.names
  pub apart : AreApart f.names
  pub table : IsTable f.caps
  pub grade : IsGrade level
  pub among : AreAmong (certificates f).accounts r
  pub order : AreInOrder r
  pub small : All (λ l. l.units < 2 ^ 32) r.flow
  pub root : sides_of r.pass r.full Root ≢ Outside

abbrev seeds_of : Revision → List ℕ
seeds_of f = seeds_below (certificates f) (certificates f).accounts

abbrev certs_of : Revision → List Cert
certs_of f = certs_below (degree f.parts) (given f.parts) (certificates f).accounts

seeds-within : (f : Revision) (level : Level) (r : Lists) → AreTold f level r → (a : ℕ) → IsTrue ((certificates f).is_seed a) → a < (certificates f).accounts
seeds-within f level r told a is = elim (cases_lt a (certificates f).accounts) [
  | inl below ↦ below
  | inr past ↦ absurd (false≢true (sym (told.no_seeds a (omega arith)) ∙ is))
]

within : (f : Revision) (level : Level) (r : Lists) → AreTold f level r → (a b : ℕ) → IsGrade ((certificates f).standing a b) → (a < (certificates f).accounts) × (b < (certificates f).accounts)
within f level r told a b grade = elim (cases_lt a (certificates f).accounts) [
  | inl below ↦
      let p : Part = part_of f.parts a in
      let found = among-found (taker_in p (a % 64)) (level_in p (a % 64)) b (degree f.parts a) grade in
      (below, subst (λ (c : ℕ). c < (certificates f).accounts) found.2 (told.readers.taker a found.0 below found.1))
  | inr past ↦ absurd (grade (told.outside a b (omega arith)))
]

are-readers : (f : Revision) (level : Level) (r : Lists) → AreTold f level r → AreReaders (certificates f) (degree f.parts) (given f.parts)
are-readers f level r told = record { each = told.readers; seeds = seeds-within f level r told; within = within f level r told; few = told.certs }

-- The text that was written, part by part.
pub record Parts (f : Revision) (level : Level) (r : Lists) (text : List ℕ) : Type 0 where
  pub is : text
      ≡ (((((((line (caps_words f.caps) ++ flat_map line (levels_words f.caps)) ++ lines_for account_words f.names) ++ lines_for (seed_words f.names) (seeds_of f))
      ++ lines_for (cert_words f.names) (certs_of f)) ++ line (level_words level)) ++ lines_for (flow_words f.names) r.flow) ++ lines_for (pass_words f.names) r.pass)
      ++ lines_for (full_words f.names) r.full

chained : (t0 t1 t2 t3 t4 t5 t6 t7 t8 t9 a l b c d e f g h : List ℕ) → t0 ≡ [] → t1 ≡ t0 ++ a → t2 ≡ t1 ++ l → t3 ≡ t2 ++ b → t4 ≡ t3 ++ c → t5 ≡ t4 ++ d → t6 ≡ t5 ++ e → t7 ≡ t6 ++ f →
    t8 ≡ t7 ++ g → t9 ≡ t8 ++ h → t9 ≡ (((((((a ++ l) ++ b) ++ c) ++ d) ++ e) ++ f) ++ g) ++ h
chained t0 t1 t2 t3 t4 t5 t6 t7 t8 t9 a l b c d e f g h e0 e1 e2 e3 e4 e5 e6 e7 e8 e9 = rw (e9, e8, e7, e6, e5, e4, e3, e2, e1, e0) refl

-- It was, where each call appended its part.
pub parts_of : (f : Revision) (level : Level) (r : Lists) (table : Table) (entries : List ℕ) (names : List (List ℕ)) (flow : List FlowLine) (pass full : List Node)
    (t0 t1 t2 t3 t4 t5 t6 t7 t8 t9 : List ℕ) → table ≡ f.caps → entries ≡ table.entries → names ≡ f.names → flow ≡ r.flow → pass ≡ r.pass → full ≡ r.full → t0 ≡ [] →
    t1 ≡ t0 ++ line (entries_words entries) → t2 ≡ t1 ++ flat_map line (levels_words table) → t3 ≡ t2 ++ lines_for account_words names →
    t4 ≡ t3 ++ lines_for (seed_words f.names) (seeds_of f) → t5 ≡ t4 ++ lines_for (cert_words f.names) (certs_of f) →
    t6 ≡ t5 ++ line (level_words level) → t7 ≡ t6 ++ lines_for (flow_words names) flow → t8 ≡ t7 ++ lines_for (pass_words names) pass → t9 ≡ t8 ++ lines_for (full_words names) full →
    Parts f level r t9
parts_of f level r table entries names flow pass full t0 t1 t2 t3 t4 t5 t6 t7 t8 t9 et ee en ef ep eu e0 e1 e2 e3 e4 e5 e6 e7 e8 e9 =
    let all : entries ≡ f.caps.entries = ee ∙ ap (λ (t : Table). t.entries) et in
    record {
      is = chained t0 t1 t2 t3 t4 t5 t6 t7 t8 t9 _ _ _ _ _ _ _ _ _ e0 e1 e2 e3 e4 e5 e6 e7 e8 e9
          ∙ (λ i. (((((((line (entries_words (all i)) ++ flat_map line (levels_words (et i))) ++ lines_for account_words (en i)) ++ lines_for (seed_words f.names) (seeds_of f))
          ++ lines_for (cert_words f.names) (certs_of f)) ++ line (level_words level)) ++ lines_for (flow_words (en i)) (ef i)) ++ lines_for (pass_words (en i)) (ep i))
          ++ lines_for (full_words (en i)) (eu i));
    }

pub canonical : (f : Revision) (level : Level) (r : Lists) (text : List ℕ) → AreTold f level r → Parts f level r text → IsCanonical (of_frozen f) level r text
canonical f level r text told parts =
    let are : AreReaders (certificates f) (degree f.parts) (given f.parts) = are-readers f level r told in
    let stand = can-stand (certificates f) (degree f.parts) (given f.parts) are in
    let made = made-of (certificates f) (degree f.parts) (given f.parts) are in
    record {
      table = told.table;
      few = omega (arith, told.known, told.accounts);
      named = told.named;
      units = told.small;
      seeds = seeds_of f;
      certs = certs_of f;
      rises = seeds-rise (certificates f) (certificates f).accounts;
      stand = rw told.known stand;
      graph = rw told.known made;
      written = parts.is ∙ sym (in_lines f.caps f.names (seeds_of f) (certs_of f) level r);
    }

pub readable : (f : Revision) (level : Level) (r : Lists) (text : List ℕ) → AreTold f level r → Parts f level r text →
    KeepsLevels f.caps (certificates f) → has_grade f.caps level ≡ true → IsReadAs (of_frozen f) level r text
readable f level r text told parts keeps has =
    let written : IsWritten (of_frozen f) level r = record {
      table = told.table;
      names = record { named = told.named; apart = told.apart; few = omega (arith, told.known, told.accounts) };
      seeds = λ a is. omega (arith, told.known, seeds-within f level r told a is);
      keeps = keeps;
      grade = told.grade;
      has = (both (is_grade level) (has_level f.caps level) has).1;
      lists = record { among = rw told.known told.among; order = told.order; small = told.small };
      root = told.root;
    } in
    read_back (of_frozen f) level r text written (canonical f level r text told parts)
