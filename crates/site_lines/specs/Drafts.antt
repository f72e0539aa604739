-- What is read of a site, against the records that its lines stand for.
use Rattle.std.specs.Prelude.{ℕ, Bool, false, List, [], ◌∷◌, ◌++◌, ◌≡◌, ◌≤◌, ◌<◌, ◌↔◌, length, slice_index_or, All, Contains, IsTrue, IfSome, Some, Result}
use Rattle.std.specs.List.Sorted.{IsStrictlyIncreasing}
use Rattle.trust_types.specs.declared.graphs.Cert.{Cert}
use Rattle.trust_types.specs.declared.limits.TheConstants.{MOST_ACCOUNTS}
use Rattle.trust_types.specs.declared.records.Record.{Record}
use Rattle.trust_types.specs.Levels.{IsGrade}
use Rattle.trust_types.specs.NameLists.{number_of, AreApart}
use Rattle.trust_types.specs.Kept.{accounts, is_seed, certs_of, standing}
use Rattle.trust_types.specs.Certs.{CanStand}
use Rattle.cert_log.specs.Log.{IsLog}
use Rattle.cert_log.specs.Standing.{IsBetween}
use Rattle.text_lines.specs.declared.faults.TextKind.{TextKind}
use Rattle.text_lines.specs.declared.faults.LineFault.{LineFault}
use Rattle.text_lines.specs.Reading.{Reads}
use Rattle.site_lines.specs.declared.drafts.SiteDraft.{SiteDraft}
use Rattle.site_lines.specs.declared.parts.SiteParts.{SiteParts}

-- An account's flag; past the end it is none.
abbrev pub flag : List Bool → ℕ → Bool
flag flags a = slice_index_or flags a false

-- The draft is one of these records.
pub record IsSiteDraft (draft : SiteDraft) (k : List Record) : Type 0 where
  pub named : draft.names ≡ accounts k
  pub few : length (accounts k) ≤ MOST_ACCOUNTS
  pub flags : length draft.seeds.items ≡ length (accounts k)
  pub seeded : (a : ℕ) → flag draft.seeds.items a ≡ is_seed k a
  pub logged : IsLog draft.certs (certs_of k)
  pub known : IfSome draft.giver (λ last. number_of (accounts k) last.name ≡ Some last.account)
  pub between : All (IsBetween (length (accounts k))) (certs_of k)

-- What became of a draft of these records, and what the line says: a record more, or the line's fault.
abbrev pub Adds : List Record → Result (Unit {0}) LineFault → SiteDraft → Result Record TextKind → Type 0
Adds k result new said = Reads (λ d x. IsSiteDraft d (k ++ x ∷ [])) result new said

-- The parts are those of the site of these records: its names, its seeds and the certificates that stand, and no others.
pub record ArePartsOf (k : List Record) (parts : SiteParts) : Type 0 where
  pub named : parts.names.items ≡ accounts k
  pub apart : AreApart parts.names.items
  pub few : length (accounts k) ≤ MOST_ACCOUNTS
  pub rises : IsStrictlyIncreasing parts.seeds.items
  pub among : All (λ a. a < length (accounts k)) parts.seeds.items
  pub seeded : (a : ℕ) → Contains parts.seeds.items a ↔ IsTrue (is_seed k a)
  pub stand : CanStand (length (accounts k)) parts.certs.items
  pub standing : (c : Cert) → Contains parts.certs.items c ↔ (IsGrade c.level × (standing k c.from c.to ≡ c.level))
