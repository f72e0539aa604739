-- The records of a canonical text's site lines, and what they say.
use Rattle.std.proofs.Common.{◌≡◌, ℕ, ◌+◌, ◌≤◌, Bool, true, false, ◌||◌, List, [], ◌∷◌, ◌++◌, length, get_or, All, Contains, refl, ap, sym, ◌∙◌, arith, map, subst, inl, inr, ◌⊎◌, if◌then◌else◌, ◌==◌}
use Rattle.std.specs.Prelude.{fold}
use Rattle.std.specs.List.{list_any}
use Rattle.std.proofs.lemmas.Bool.{false≢true}
use Rattle.std.proofs.lemmas.List.{append-nil}
use Rattle.std.proofs.lemmas.List.Elements.{All-nil, All-cons, All-contains, Contains-append_right}
use Rattle.std.proofs.lemmas.List.Folds.{list_any_at, Any-from_list_any}
use Rattle.trust_types.specs.declared.levels.Level.{Level}
use Rattle.trust_types.specs.declared.levels.Level.TheVariants.{Observer, Apprentice, Journeyer, Master, Fellow, Warden, Elder}
use Rattle.trust_types.specs.declared.graphs.Cert.{Cert}
use Rattle.trust_types.specs.declared.records.Record.{Record}
use Rattle.trust_types.specs.Levels.{IsGrade}
use Rattle.trust_types.specs.Graph.{Certificates}
use Rattle.trust_types.specs.Certs.{IsMadeOf}
use Rattle.trust_types.specs.Changes.{seed_after, standing_among, level_after, is_of_pair, standing_count, stands}
use Rattle.trust_types.specs.Kept.{changes, accounts, is_seed, certs_of, kept_certificates, standing}
use Rattle.trust_types.proofs.Changing.{accounts-append, certs_of-append, is_seed-append}
use Rattle.site_lines.specs.Site.{join, seed, cert}

abbrev pub cert_record : Cert → Record
cert_record c = cert c.from c.to c.level

-- Accounts, then seeds, then certificates.
abbrev pub records : List (List ℕ) → List ℕ → List Cert → List Record
records names seeds certs = (map join names ++ map seed seeds) ++ map cert_record certs

accounts-joins : (names : List (List ℕ)) → accounts (map join names) ≡ names
accounts-joins [] = refl
accounts-joins (name ∷ names) = ap (λ others. name ∷ others) (accounts-joins names)

accounts-seeds : (seeds : List ℕ) → accounts (map seed seeds) ≡ []
accounts-seeds [] = refl
accounts-seeds (a ∷ seeds) = accounts-seeds seeds

accounts-certs : (certs : List Cert) → accounts (map cert_record certs) ≡ []
accounts-certs [] = refl
accounts-certs (c ∷ certs) = accounts-certs certs

pub accounts-records : (names : List (List ℕ)) (seeds : List ℕ) (certs : List Cert) → accounts (records names seeds certs) ≡ names
accounts-records names seeds certs =
    accounts-append (map join names ++ map seed seeds) (map cert_record certs)
    ∙ ap (λ x. x ++ accounts (map cert_record certs)) (accounts-append (map join names) (map seed seeds))
    ∙ rw (accounts-joins names, accounts-seeds seeds, accounts-certs certs) (append-nil (names ++ []) ∙ append-nil names)

certs-joins : (names : List (List ℕ)) → certs_of (map join names) ≡ []
certs-joins [] = refl
certs-joins (name ∷ names) = certs-joins names

certs-seeds : (seeds : List ℕ) → certs_of (map seed seeds) ≡ []
certs-seeds [] = refl
certs-seeds (a ∷ seeds) = certs-seeds seeds

certs-certs : (certs : List Cert) → certs_of (map cert_record certs) ≡ certs
certs-certs [] = refl
certs-certs (c ∷ certs) = ap (λ others. c ∷ others) (certs-certs certs)

pub certs-records : (names : List (List ℕ)) (seeds : List ℕ) (certs : List Cert) → certs_of (records names seeds certs) ≡ certs
certs-records names seeds certs =
    certs_of-append (map join names ++ map seed seeds) (map cert_record certs)
    ∙ ap (λ x. x ++ certs_of (map cert_record certs)) (certs_of-append (map join names) (map seed seeds))
    ∙ rw (certs-joins names, certs-seeds seeds, certs-certs certs) refl

abbrev pub is_among : ℕ → List ℕ → Bool
is_among a seeds = list_any (λ b. a == b) seeds

-- Whether an account is a seed after more records, from whether it was one before.
abbrev seed_behind : ℕ → Bool → List Record → Bool
seed_behind a before k = fold (seed_after a) before (changes k)

seeds-joins : (a : ℕ) (before : Bool) (names : List (List ℕ)) → seed_behind a before (map join names) ≡ before
seeds-joins a before [] = refl
seeds-joins a before (name ∷ names) = seeds-joins a before names

one_more : (same others before : Bool) → (others || (if same then true else before)) ≡ ((same || others) || before)
one_more true true before = refl
one_more true false before = refl
one_more false others before = refl

seeds-seeds : (a : ℕ) (before : Bool) (seeds : List ℕ) → seed_behind a before (map seed seeds) ≡ (is_among a seeds || before)
seeds-seeds a before [] = refl
seeds-seeds a before (b ∷ seeds) = seeds-seeds a (if a == b then true else before) seeds ∙ one_more (a == b) (is_among a seeds) before

seeds-certs : (a : ℕ) (before : Bool) (certs : List Cert) → seed_behind a before (map cert_record certs) ≡ before
seeds-certs a before [] = refl
seeds-certs a before (c ∷ certs) = seeds-certs a before certs

or_false : (b : Bool) → (b || false) ≡ b
or_false true = refl
or_false false = refl

pub is_seed-records : (names : List (List ℕ)) (seeds : List ℕ) (certs : List Cert) (a : ℕ) → is_seed (records names seeds certs) a ≡ is_among a seeds
is_seed-records names seeds certs a =
    is_seed-append (map join names ++ map seed seeds) (map cert_record certs) a
    ∙ seeds-certs a (is_seed (map join names ++ map seed seeds) a) certs
    ∙ is_seed-append (map join names) (map seed seeds) a
    ∙ seeds-seeds a (is_seed (map join names) a) seeds
    ∙ ap (λ before. is_among a seeds || before) (seeds-joins a false names)
    ∙ or_false (is_among a seeds)

-- No more certificates stand than there are.
count_by_one : (b : Bool) (n m : ℕ) → n ≤ m → (if b then 1 else 0) + n ≤ 1 + m
count_by_one true n m le = omega arith
count_by_one false n m le = omega arith

pub standing_count-le : (certs : List Cert) → standing_count certs ≤ length certs
standing_count-le [] = omega arith
standing_count-le (c ∷ certs) = omega (arith, count_by_one (stands c certs) (standing_count certs) (length certs) (standing_count-le certs))

-- The level of a pair is that of one of the certificates, or the one that it was where none is of the pair.
abbrev of_pair : ℕ → ℕ → Level → Cert
of_pair a b level = record { from = a; to = b; level = level }

level_by : (c : Cert) (certs : List Cert) (a b : ℕ) (z last : Level) (t : Bool) → is_of_pair a b c ≡ t → last ≡ (if t then c.level else z) →
    All (λ d. is_of_pair a b d ≡ false) certs →
    Contains (c ∷ certs) (of_pair a b last) ⊎ (All (λ d. is_of_pair a b d ≡ false) (c ∷ certs) × (last ≡ z))
level_by c certs a b z last true e is none =
    let giver : a ≡ c.from = grind arith in
    let taker : b ≡ c.to = grind arith in
    let same : c ≡ of_pair a b last = λ i. record { from = sym giver i; to = sym taker i; level = sym is i } in
    inl (0, omega arith, same)
level_by c certs a b z last false e is none = inr (All-cons (λ d. is_of_pair a b d ≡ false) c certs e none, is)

fold_cases : (certs : List Cert) (a b : ℕ) (z : Level) →
    Contains certs (of_pair a b (fold (level_after a b) z certs)) ⊎ (All (λ c. is_of_pair a b c ≡ false) certs × (fold (level_after a b) z certs ≡ z))
fold_cases [] a b z = inr (All-nil (λ c. is_of_pair a b c ≡ false), refl)
fold_cases (c ∷ certs) a b z = elim (fold_cases certs a b (level_after a b z c)) [
  | inl has ↦ inl (Contains-append_right (c ∷ []) certs _ has)
  | inr none ↦ level_by c certs a b z _ (is_of_pair a b c) refl none.1 none.0
]

same_test : (p q : Bool) → (p ≡ true → q ≡ true) → (q ≡ true → p ≡ true) → p ≡ q
same_test true q to from = sym (to refl)
same_test false true to from = from refl
same_test false false to from = refl

among_contains : (a : ℕ) (seeds : List ℕ) → is_among a seeds ≡ true → Contains seeds a
among_contains a seeds e =
    let found = Any-from_list_any (λ b. a == b) seeds e in
    let is : a ≡ found.1 = grind (arith, found.4) in
    subst (λ (b : ℕ). Contains seeds b) (sym is) (found.0, found.2, found.3)

contains_among : (a : ℕ) (seeds : List ℕ) → Contains seeds a → is_among a seeds ≡ true
contains_among a seeds has =
    let is : get_or seeds has.0 a ≡ a = has.2 in
    let test : (a == get_or seeds has.0 a) ≡ true = rw is (grind arith) in
    list_any_at (λ b. a == b) seeds has.0 a has.1 test

observer_by : (level : Level) → (IsGrade level → ⊥) → level ≡ Observer
observer_by Observer none = refl
observer_by Apprentice none = absurd (none (λ e. cc))
observer_by Journeyer none = absurd (none (λ e. cc))
observer_by Master none = absurd (none (λ e. cc))
observer_by Fellow none = absurd (none (λ e. cc))
observer_by Warden none = absurd (none (λ e. cc))
observer_by Elder none = absurd (none (λ e. cc))

of_itself : (a b : ℕ) (level : Level) → is_of_pair a b (of_pair a b level) ≡ true
of_itself a b level = grind arith

standing_is : (g : Certificates) (n : ℕ) (seeds : List ℕ) (certs : List Cert) → IsMadeOf g n seeds certs → (a b : ℕ) → standing_among certs a b ≡ g.standing a b
standing_is g n seeds certs made a b = elim (fold_cases certs a b Observer) [
  | inl has ↦ sym ((made.standing (of_pair a b (standing_among certs a b))).0 has).1
  | inr none ↦
      let unseen : IsGrade (g.standing a b) → ⊥ = λ grade.
      let has : Contains certs (of_pair a b (g.standing a b)) = (made.standing (of_pair a b (g.standing a b))).1 (grade, refl) in
      false≢true (sym (All-contains (λ c. is_of_pair a b c ≡ false) certs _ none.0 has) ∙ of_itself a b (g.standing a b)) in
      none.1 ∙ sym (observer_by (g.standing a b) unseen)
]

-- What the records say of the site is the graph that was written.
pub certificates-records : (g : Certificates) (names : List (List ℕ)) (seeds : List ℕ) (certs : List Cert) →
    IsMadeOf g (length names) seeds certs → kept_certificates (records names seeds certs) ≡ g
certificates-records g names seeds certs made =
    let size : length (accounts (records names seeds certs)) ≡ g.accounts = ap length (accounts-records names seeds certs) ∙ sym made.size in
    let seeded : (a : ℕ) → is_seed (records names seeds certs) a ≡ g.is_seed a = λ a.
    is_seed-records names seeds certs a
    ∙ same_test (is_among a seeds) (g.is_seed a) (λ e. (made.seeded a).1 (among_contains a seeds e)) (λ e. contains_among a seeds ((made.seeded a).0 e)) in
    let stands : (a b : ℕ) → standing (records names seeds certs) a b ≡ g.standing a b = λ a b.
    ap (λ cs. standing_among cs a b) (certs-records names seeds certs) ∙ standing_is g (length names) seeds certs made a b in
    λ i. record { accounts = size i; is_seed = λ a. seeded a i; standing = λ a b. stands a b i }
