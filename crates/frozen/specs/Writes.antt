-- What one write leaves of a part of a site.
use Rattle.std.specs.Prelude.{ℕ, Bool, false, ◌≡◌, ◌+◌, ◌%◌, ◌==◌, ◌&&◌, if◌then◌else◌, List, [], ◌∷◌, ◌++◌, length, slice_set}
use Rattle.trust_types.specs.declared.levels.Level.{Level}
use Rattle.trust_types.specs.declared.graphs.Cert.{Cert}
use Rattle.trust_types.specs.Levels.{is_grade}
use Rattle.frozen.specs.Parts.{Part, standing_in}

-- One account more, which is no seed and gives nothing yet.
abbrev pub with_account : Part → List ℕ → Part
with_account p name = record {
  names = p.names ++ name ∷ [];
  seeds = p.seeds ++ false ∷ [];
  givers = p.givers ++ 0 ∷ [];
  starts = p.starts ++ length p.takers ∷ [];
  takers = p.takers;
  levels = p.levels;
}

-- Another seed mark for the account of a row.
abbrev pub with_seed : Part → ℕ → Bool → Part
with_seed p row seed = record p { seeds = slice_set p.seeds row seed }

-- How many certificates a pair has: 1 at a grade, 0 at Observer.
abbrev pub graded : Level → ℕ
graded level = if is_grade level then 1 else 0

-- The row in which a giver's certificates stand.
abbrev pub row_of : ℕ → ℕ
row_of giver = giver % 64

-- One level was written into a row, in place of the one for the same taker. Nothing else changed.
pub record IsWritten (old new : Part) (row to : ℕ) (level : Level) : Type 0 where
  pub names : new.names ≡ old.names
  pub seeds : new.seeds ≡ old.seeds
  pub givers : new.givers ≡ old.givers
  pub standing : (r b : ℕ) → standing_in new r b ≡ (if (r == row) && (b == to) then level else standing_in old r b)
  pub certs : length new.takers + graded (standing_in old row to) ≡ length old.takers + graded level

-- The row of a giver's certificates has this giver.
abbrev pub with_giver : Part → ℕ → Part
with_giver p giver = record p { givers = slice_set p.givers (row_of giver) giver }

-- One certificate was put in place of the one for the same taker, and its row has its giver now. Nothing else changed.
abbrev pub IsPut : Part → Part → Cert → Type 0
IsPut old new cert = IsWritten (with_giver old cert.from) new (row_of cert.from) cert.to cert.level
