-- The canonical text of a proof: its lines in one order, each with its words in one spelling.
use Rattle.std.specs.Prelude.{ℕ, ◌≡◌, ◌==◌, ◌<◌, ◌≤◌, ◌^◌, All, List, [], ◌∷◌, ◌++◌, length, map, flat_map, codes, decimal, if◌then◌else◌, Ok}
use Rattle.std.specs.List.{join_with_byte}
use Rattle.std.specs.List.Sorted.{IsStrictlyIncreasing}
use Rattle.trust_types.specs.declared.levels.Level.{Level}
use Rattle.trust_types.specs.declared.accounts.Node.{Node}
use Rattle.trust_types.specs.declared.graphs.Cert.{Cert}
use Rattle.trust_types.specs.declared.flows.FlowLine.{FlowLine}
use Rattle.trust_types.specs.declared.limits.TheConstants.{MOST_ACCOUNTS}
use Rattle.trust_types.specs.Levels.{level_name}
use Rattle.trust_types.specs.Names.{IsName}
use Rattle.trust_types.specs.Tables.{Table, IsTable}
use Rattle.trust_types.specs.Certs.{CanStand, IsMadeOf}
use Rattle.trust_types.specs.Proven.{Lists, IsProven}
use Rattle.trust_types.specs.NodeWords.{name_of, node_name}
use Rattle.site_text.specs.Site.{ProofText, proof}
use Rattle.site_text.specs.View.{View, of_text}

-- Words with a space between each two, ended by LF.
abbrev pub line : List (List ℕ) → List ℕ
line words = join_with_byte 32 words ++ 10 ∷ []

abbrev pub caps_words : Table → List (List ℕ)
caps_words table = codes "caps" ∷ map decimal table.entries

-- The line on the number of levels, where there aren't four.
abbrev pub levels_words : Table → List (List (List ℕ))
levels_words table = if table.levels == 4 then [] else (codes "levels" ∷ decimal table.levels ∷ []) ∷ []

abbrev pub account_words : List ℕ → List (List ℕ)
account_words name = codes "account" ∷ name ∷ []

abbrev pub seed_words : List (List ℕ) → ℕ → List (List ℕ)
seed_words names a = codes "seed" ∷ name_of names a ∷ []

abbrev pub cert_words : List (List ℕ) → Cert → List (List ℕ)
cert_words names c = codes "cert" ∷ name_of names c.from ∷ name_of names c.to ∷ level_name c.level ∷ []

abbrev pub level_words : Level → List (List ℕ)
level_words level = codes "level" ∷ level_name level ∷ []

abbrev pub flow_words : List (List ℕ) → FlowLine → List (List ℕ)
flow_words names l = codes "flow" ∷ node_name names l.from ∷ name_of names l.to ∷ decimal l.units ∷ []

abbrev pub pass_words : List (List ℕ) → Node → List (List ℕ)
pass_words names x = codes "pass" ∷ node_name names x ∷ []

abbrev pub full_words : List (List ℕ) → Node → List (List ℕ)
full_words names x = codes "full" ∷ node_name names x ∷ []

-- The lines of a site, and of what is claimed of it.
abbrev pub site_words : Table → List (List ℕ) → List ℕ → List Cert → List (List (List ℕ))
site_words table names seeds certs =
    (caps_words table ∷ levels_words table) ++ map account_words names ++ map (seed_words names) seeds ++ map (cert_words names) certs

abbrev pub claim_words : List (List ℕ) → Level → Lists → List (List (List ℕ))
claim_words names level r =
    (level_words level ∷ map (flow_words names) r.flow) ++ map (pass_words names) r.pass ++ map (full_words names) r.full

-- The text is the canonical one of these lists as a proof over a site, whose table and names are such: accounts in order, seeds in
-- rising order, standing certificates in rising order of giver and taker, and then the lists as they are.
pub record IsCanonical (v : View) (level : Level) (r : Lists) (text : List ℕ) : Type 0 where
  pub table : IsTable v.table
  pub few : length v.names ≤ MOST_ACCOUNTS
  pub named : All IsName v.names
  pub units : All (λ l. l.units < 2 ^ 32) r.flow
  pub seeds : List ℕ
  pub certs : List Cert
  pub rises : IsStrictlyIncreasing seeds
  pub stand : CanStand (length v.names) certs
  pub graph : IsMadeOf v.graph (length v.names) seeds certs
  pub written : text ≡ flat_map line (site_words v.table v.names seeds certs ++ claim_words v.names level r)

-- The text is read as a proof over the same site, of this level, flow and cut.
pub record IsReadAs (v : View) (level : Level) (r : Lists) (text : List ℕ) : Type 0 where
  pub claimed : ProofText
  pub read : proof text ≡ Ok claimed
  pub site : of_text claimed.site ≡ v
  pub at : claimed.level ≡ level
  pub flow : claimed.claim.flow ≡ r.flow
  pub pass : claimed.claim.pass ≡ r.pass
  pub full : claimed.claim.full ≡ r.full

-- The canonical proof text of the site at a level, with a flow and a cut that are proven over it, which is read again as these.
pub record IsAudit (level : Level) (v : View) (text : List ℕ) : Type 0 where
  pub lists : Lists
  pub proven : IsProven v.graph level v.table lists
  pub canonical : IsCanonical v level lists text
  pub readable : IsReadAs v level lists text
