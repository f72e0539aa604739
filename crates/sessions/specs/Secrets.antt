-- What is kept of a password.
use Rattle.std.specs.Prelude.{ℕ, Bool, false, List, ◌∷◌, ◌++◌}
use Rattle.std.specs.Str.{bytes_eq}
use Rattle.sha2.specs.Sha256.{sha256}
use Rattle.trust_types.specs.declared.records.Secret.{Secret}
use Rattle.trust_types.specs.declared.records.Secret.TheVariants.{Absent, Digest}

-- The SHA-256 digest (FIPS 180-4) of an account's name, a colon and the password. The name is a salt: accounts with one password have
-- different digests, since no name has a colon.
abbrev pub digest_of : List ℕ → List ℕ → List ℕ
digest_of name password = sha256 (name ++ 58 ∷ password)

-- Whether this is the digest that was kept.
abbrev pub is_proof : Secret → List ℕ → Bool
is_proof Absent proof = false
is_proof (Digest kept) proof = bytes_eq kept proof
