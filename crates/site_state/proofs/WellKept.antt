-- What is true of records that are well kept.
use Rattle.std.proofs.Common.{◌≡◌, ℕ, Bool, true, false, ◌==◌, ◌≤◌, ◌+◌, if◌then◌else◌, List, [], ◌∷◌, ◌++◌, length, refl, sym, ap, ◌∙◌, subst, arith, length-append, inl, inr}
use Rattle.std.proofs.lemmas.List.{append-nil, append_assoc}
use Rattle.std.proofs.lemmas.Bool.{cases_eq}
use Rattle.std.proofs.lemmas.Bool.Decides.{nat_tests}
use Rattle.trust_types.specs.declared.records.Record.{Record}
use Rattle.trust_types.specs.declared.records.Record.TheVariants.{Join, Seed, Unseed, Cert, Table, Diary, Article, Reply, Project}
use Rattle.trust_types.specs.declared.limits.TheConstants.{MOST_CERTS}
use Rattle.trust_types.specs.Changes.{standing_count}
use Rattle.trust_types.specs.Kept.{Continues, Fits, IsWellKept, IsAccount, accounts, is_seed, certs_of}
use Rattle.trust_types.specs.Tables as tables
use Rattle.trust_types.proofs.Changing.{accounts-append, is_seed-append, certs_of-append}

-- an induction over records, one after another
pub by_records : (opening : tables.Table) (P : List Record → Type 0) → P [] → ((k : List Record) (x : Record) → Continues opening k x → Fits k x → P k → P (k ++ x ∷ []))
    → (k : List Record) → IsWellKept opening k → P k
by_records opening P none more k well = from [] k well none
  where
    from : (front rest : List Record) → IsWellKept opening (front ++ rest) → P front → P (front ++ rest)
    from front [] well is = subst P (sym (append-nil front)) is
    from front (x ∷ rest) well is =
        let step = well front x rest refl in
        let same : (front ++ x ∷ []) ++ rest ≡ front ++ x ∷ rest = append_assoc front (x ∷ []) rest in
        subst P same (from (front ++ x ∷ []) rest (subst (IsWellKept opening) (sym same) well) (more front x step.0 step.1 is))

abbrev HasFew : List Record → Type 0
HasFew k = standing_count (certs_of k) ≤ MOST_CERTS

few_more : (opening : tables.Table) (k : List Record) (x : Record) → Continues opening k x → Fits k x → HasFew k → HasFew (k ++ x ∷ [])
few_more opening k (Cert moment author subject level) continues fits few = fits
few_more opening k (Join moment name secret) continues fits few = subst (λ cs. standing_count cs ≤ MOST_CERTS) (sym (certs_of-append k (Join moment name secret ∷ []) ∙ append-nil (certs_of k))) few
few_more opening k (Seed moment a) continues fits few = subst (λ cs. standing_count cs ≤ MOST_CERTS) (sym (certs_of-append k (Seed moment a ∷ []) ∙ append-nil (certs_of k))) few
few_more opening k (Unseed moment a) continues fits few = subst (λ cs. standing_count cs ≤ MOST_CERTS) (sym (certs_of-append k (Unseed moment a ∷ []) ∙ append-nil (certs_of k))) few
few_more opening k (Table moment caps) continues fits few = subst (λ cs. standing_count cs ≤ MOST_CERTS) (sym (certs_of-append k (Table moment caps ∷ []) ∙ append-nil (certs_of k))) few
few_more opening k (Diary moment a text) continues fits few = subst (λ cs. standing_count cs ≤ MOST_CERTS) (sym (certs_of-append k (Diary moment a text ∷ []) ∙ append-nil (certs_of k))) few
few_more opening k (Article moment a title text) continues fits few = subst (λ cs. standing_count cs ≤ MOST_CERTS) (sym (certs_of-append k (Article moment a title text ∷ []) ∙ append-nil (certs_of k))) few
few_more opening k (Reply moment a n text) continues fits few = subst (λ cs. standing_count cs ≤ MOST_CERTS) (sym (certs_of-append k (Reply moment a n text ∷ []) ∙ append-nil (certs_of k))) few
few_more opening k (Project moment a name text) continues fits few = subst (λ cs. standing_count cs ≤ MOST_CERTS) (sym (certs_of-append k (Project moment a name text ∷ []) ∙ append-nil (certs_of k))) few

-- no more certificates stand than may
pub few_certs : (opening : tables.Table) (k : List Record) → IsWellKept opening k → standing_count (certs_of k) ≤ MOST_CERTS
few_certs opening k well = by_records opening HasFew (omega arith) (few_more opening) k well

-- the seeds are accounts
abbrev pub KnowsSeeds : List Record → Type 0
KnowsSeeds k = (a : ℕ) → is_seed k a ≡ true → IsAccount k a

longer : (k more : List Record) (a : ℕ) → IsAccount k a → IsAccount (k ++ more) a
longer k more a is = omega (arith, is, ap length (accounts-append k more), length-append (accounts k) (accounts more))

-- where the record leaves the seeds
same_seeds : (k : List Record) (x : Record) → ((a : ℕ) → is_seed (k ++ x ∷ []) a ≡ is_seed k a) → KnowsSeeds k → KnowsSeeds (k ++ x ∷ [])
same_seeds k x same known a is = longer k (x ∷ []) a (known a (sym (same a) ∙ is))

one_more : (a b : ℕ) (s : Bool) (P : Type 0) → (a ≡ b → P) → (s ≡ true → P) → (if a == b then true else s) ≡ true → P
one_more a b s P this before is = elim (cases_eq a b) [
  | inl same ↦ this same
  | inr apart ↦ before (grind (arith, nat_tests))
]

one_less : (a b : ℕ) (s : Bool) → (if a == b then false else s) ≡ true → s ≡ true
one_less a b s is = by_test (a == b) is
  where
    by_test : (t : Bool) → (if t then false else s) ≡ true → s ≡ true
    by_test true h = absurd (cc)
    by_test false h = h

seeds_more : (opening : tables.Table) (k : List Record) (x : Record) → Continues opening k x → Fits k x → KnowsSeeds k → KnowsSeeds (k ++ x ∷ [])
seeds_more opening k (Seed moment b) continues fits known a is =
    one_more a b (is_seed k a) (IsAccount (k ++ Seed moment b ∷ []) a) (λ same. longer k (Seed moment b ∷ []) a (subst (IsAccount k) (sym same) continues.0)) (λ s. longer k (Seed moment b ∷ []) a (known a s))
    (sym (is_seed-append k (Seed moment b ∷ []) a) ∙ is)
seeds_more opening k (Unseed moment b) continues fits known a is = longer k (Unseed moment b ∷ []) a (known a (one_less a b (is_seed k a) (sym (is_seed-append k (Unseed moment b ∷ []) a) ∙ is)))
seeds_more opening k (Join moment name secret) continues fits known a is = same_seeds k (Join moment name secret) (is_seed-append k (Join moment name secret ∷ [])) known a is
seeds_more opening k (Cert moment author subject level) continues fits known a is = same_seeds k (Cert moment author subject level) (is_seed-append k (Cert moment author subject level ∷ [])) known a is
seeds_more opening k (Table moment caps) continues fits known a is = same_seeds k (Table moment caps) (is_seed-append k (Table moment caps ∷ [])) known a is
seeds_more opening k (Diary moment author text) continues fits known a is = same_seeds k (Diary moment author text) (is_seed-append k (Diary moment author text ∷ [])) known a is
seeds_more opening k (Article moment author title text) continues fits known a is = same_seeds k (Article moment author title text) (is_seed-append k (Article moment author title text ∷ [])) known a is
seeds_more opening k (Reply moment author article text) continues fits known a is = same_seeds k (Reply moment author article text) (is_seed-append k (Reply moment author article text ∷ [])) known a is
seeds_more opening k (Project moment author name text) continues fits known a is = same_seeds k (Project moment author name text) (is_seed-append k (Project moment author name text ∷ [])) known a is

pub knows_seeds : (opening : tables.Table) (k : List Record) → IsWellKept opening k → KnowsSeeds k
knows_seeds opening k well = by_records opening KnowsSeeds (λ a is. absurd (cc)) (seeds_more opening) k well
