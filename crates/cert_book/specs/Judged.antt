-- Whether a book takes a change, or the first fault that it finds.
use Rattle.std.specs.Prelude.{ℕ, Bool, true, false, ◌==◌, ◌&&◌, List, Option, Some, None, Result, Ok, Err, length, nat_le, nat_lt, not}
use Rattle.std.specs.List.{list_any}
use Rattle.std.specs.Option.{ok_or}
use Rattle.std.specs.Str.{bytes_eq}
use Rattle.trust_types.specs.declared.levels.Level.{Level}
use Rattle.trust_types.specs.declared.graphs.Cert.{Cert}
use Rattle.trust_types.specs.declared.limits.TheConstants.{MOST_ACCOUNTS, MOST_CERTS}
use Rattle.trust_types.specs.Levels.{is_grade, rank}
use Rattle.trust_types.specs.Names.{is_name}
use Rattle.trust_types.specs.NameLists.{number_of}
use Rattle.trust_types.specs.Tables.{Table, has_level}
use Rattle.cert_book.specs.declared.judging.CertFault.{CertFault}
use Rattle.cert_book.specs.declared.judging.CertFault.TheVariants.{BadName, NameTaken, AccountsFull, NoSuchAccount, SelfCert, NoSuchLevel, Same, CertsFull, NotSeed, LastSeed, LevelsFall}
use Rattle.cert_book.specs.Books.{Book, accounts}

-- What a step gives, or the first fault: what a `do` stands for.
infixl 10 ◌>>=◌
abbrev pub ◌>>=◌ : {A B : Type 0} → Result A CertFault → (A → Result B CertFault) → Result B CertFault
(Ok x) >>= f = f x
(Err fault) >>= f = Err fault

abbrev pub Judged : Type 0
Judged = Result (Unit {0}) CertFault

abbrev pub fault_if : Bool → CertFault → Judged
fault_if true fault = Err fault
fault_if false fault = Ok record {}

abbrev pub fault_unless : Bool → CertFault → Judged
fault_unless true fault = Ok record {}
fault_unless false fault = Err fault

-- Nothing where no account was found, else that the name is taken, with the account's number.
abbrev pub not_taken : Option ℕ → Judged
not_taken (Some a) = Err (NameTaken a)
not_taken None = Ok record {}

-- The account whose name a word is.
abbrev pub known : Book → List ℕ → Result ℕ CertFault
known b word = ok_or (number_of b.names word) NoSuchAccount

-- Whether some account but this one is a seed.
abbrev pub has_other_seed : Book → ℕ → Bool
has_other_seed b a = list_any (λ other. b.is_seed other && not (other == a)) (accounts b)

abbrev pub same_level : Level → Level → Bool
same_level level other = rank level == rank other

abbrev pub same_table : Table → Table → Bool
same_table table other = (table.levels == other.levels) && bytes_eq table.entries other.entries

-- A change by names and numbers of which the form is known.
abbrev pub judged_name : Book → List ℕ → Judged
judged_name b name = do
  _ ← not_taken (number_of b.names name)
  fault_if (nat_le MOST_ACCOUNTS (length b.names)) AccountsFull

abbrev pub judged_seeding : Book → ℕ → Judged
judged_seeding b a = fault_if (b.is_seed a) Same

abbrev pub judged_unseeding : Book → ℕ → Judged
judged_unseeding b a = do
  _ ← fault_unless (b.is_seed a) NotSeed
  fault_unless (has_other_seed b a) LastSeed

abbrev pub judged_certifying : Book → Cert → Judged
judged_certifying b c = do
  _ ← fault_if (c.from == c.to) SelfCert
  _ ← fault_unless (has_level b.table c.level) (NoSuchLevel b.table.levels)
  _ ← fault_if (same_level c.level (b.standing c.from c.to)) Same
  fault_if (nat_le MOST_CERTS b.certs && not (is_grade (b.standing c.from c.to))) CertsFull

-- A new account by its name; it is accepted under that name.
abbrev pub judged_join : Book → List ℕ → Result (List ℕ) CertFault
judged_join b word = do
  _ ← fault_unless (is_name word) BadName
  _ ← judged_name b word
  Ok word

-- An account that becomes a seed, by its name; it is answered by its number, as are those that follow.
abbrev pub judged_seed : Book → List ℕ → Result ℕ CertFault
judged_seed b word = do
  a ← known b word
  _ ← judged_seeding b a
  Ok a

-- An account that is to be a seed no more.
abbrev pub judged_unseed : Book → List ℕ → Result ℕ CertFault
judged_unseed b word = do
  a ← known b word
  _ ← judged_unseeding b a
  Ok a

-- An account that the author certifies at a level, or at Observer not any more.
abbrev pub judged_cert : Book → ℕ → List ℕ → Level → Result ℕ CertFault
judged_cert b author word level = do
  c ← known b word
  _ ← judged_certifying b (record { from = author; to = c; level = level })
  Ok c

-- Another table.
abbrev pub judged_table : Book → Table → Judged
judged_table b table = do
  _ ← fault_if (nat_lt table.levels b.table.levels) (LevelsFall b.table.levels)
  fault_if (same_table table b.table) Same
