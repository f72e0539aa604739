-- What a list of records says after more of them: what each part says is put together.
use Rattle.std.proofs.Common.{◌≡◌, ℕ, Bool, true, false, if◌then◌else◌, ◌==◌, List, [], ◌∷◌, ◌++◌, Some, None, refl, ap, ◌∙◌}
use Rattle.std.specs.Prelude.{fold, filter_map}
use Rattle.std.proofs.lemmas.List.{append-nil}
use Rattle.std.proofs.lemmas.List.Elements.{filter_map-append}
use Rattle.std.proofs.lemmas.List.Sums.{fold-append}
use Rattle.trust_types.specs.declared.levels.Level.{Level}
use Rattle.trust_types.specs.declared.graphs.Cert.{Cert}
use Rattle.trust_types.specs.declared.records.Record.{Record}
use Rattle.trust_types.specs.Changes.{Joined, Seeded, Certified, joined_name, cert_of, seed_after}
use Rattle.trust_types.specs.Kept.{change_of, changes, accounts, is_seed, certs_of}

pub changes-append : (k more : List Record) → changes (k ++ more) ≡ changes k ++ changes more
changes-append k more = filter_map-append change_of k more

pub accounts-append : (k more : List Record) → accounts (k ++ more) ≡ accounts k ++ accounts more
accounts-append k more = ap (λ cs. filter_map joined_name cs) (changes-append k more) ∙ filter_map-append joined_name (changes k) (changes more)

pub certs_of-append : (k more : List Record) → certs_of (k ++ more) ≡ certs_of k ++ certs_of more
certs_of-append k more = ap (λ cs. filter_map cert_of cs) (changes-append k more) ∙ filter_map-append cert_of (changes k) (changes more)

-- Whether an account is a seed, from whether it was one before.
pub is_seed-append : (k more : List Record) (a : ℕ) → is_seed (k ++ more) a ≡ fold (seed_after a) (is_seed k a) (changes more)
is_seed-append k more a = ap (λ cs. fold (seed_after a) false cs) (changes-append k more) ∙ fold-append (seed_after a) false (changes k) (changes more)

-- One record more: an account joins,
pub accounts-join : (k : List Record) (x : Record) (name : List ℕ) → change_of x ≡ Some (Joined name) → accounts (k ++ x ∷ []) ≡ accounts k ++ name ∷ []
accounts-join k x name e = accounts-append k (x ∷ []) ∙ rw e refl

pub is_seed-join : (k : List Record) (x : Record) (name : List ℕ) (a : ℕ) → change_of x ≡ Some (Joined name) → is_seed (k ++ x ∷ []) a ≡ is_seed k a
is_seed-join k x name a e = is_seed-append k (x ∷ []) a ∙ rw e refl

pub certs_of-join : (k : List Record) (x : Record) (name : List ℕ) → change_of x ≡ Some (Joined name) → certs_of (k ++ x ∷ []) ≡ certs_of k
certs_of-join k x name e = certs_of-append k (x ∷ []) ∙ rw e (append-nil (certs_of k))

-- becomes a seed,
pub accounts-seed : (k : List Record) (x : Record) (b : ℕ) → change_of x ≡ Some (Seeded b) → accounts (k ++ x ∷ []) ≡ accounts k
accounts-seed k x b e = accounts-append k (x ∷ []) ∙ rw e (append-nil (accounts k))

pub is_seed-seed : (k : List Record) (x : Record) (b a : ℕ) → change_of x ≡ Some (Seeded b) → is_seed (k ++ x ∷ []) a ≡ (if a == b then true else is_seed k a)
is_seed-seed k x b a e = is_seed-append k (x ∷ []) a ∙ rw e refl

pub certs_of-seed : (k : List Record) (x : Record) (b : ℕ) → change_of x ≡ Some (Seeded b) → certs_of (k ++ x ∷ []) ≡ certs_of k
certs_of-seed k x b e = certs_of-append k (x ∷ []) ∙ rw e (append-nil (certs_of k))

-- or certifies another.
pub accounts-cert : (k : List Record) (x : Record) (c : Cert) → change_of x ≡ Some (Certified c) → accounts (k ++ x ∷ []) ≡ accounts k
accounts-cert k x c e = accounts-append k (x ∷ []) ∙ rw e (append-nil (accounts k))

pub is_seed-cert : (k : List Record) (x : Record) (c : Cert) (a : ℕ) → change_of x ≡ Some (Certified c) → is_seed (k ++ x ∷ []) a ≡ is_seed k a
is_seed-cert k x c a e = is_seed-append k (x ∷ []) a ∙ rw e refl

pub certs_of-cert : (k : List Record) (x : Record) (c : Cert) → change_of x ≡ Some (Certified c) → certs_of (k ++ x ∷ []) ≡ certs_of k ++ c ∷ []
certs_of-cert k x c e = certs_of-append k (x ∷ []) ∙ rw e refl
