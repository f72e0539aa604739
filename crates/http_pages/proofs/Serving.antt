-- The accounts of a sound roster are accounts of its graph.
use Rattle.std.proofs.Common.{◌≡◌, ◌<◌, ℕ, List, All, subst, sym}
use Rattle.std.specs.Prelude.{slice_index_or}
use Rattle.std.proofs.lemmas.List.Elements.{All-contains_itself}
use Rattle.trust_types.specs.declared.levels.Level.{Level}
use Rattle.trust_types.specs.Proven.{Lists}
use Rattle.frozen.specs.Revision.{Revision, certificates}
use Rattle.roster_form.specs.Candidates.{IsSound}

abbrev AreWithin : Revision → List ℕ → Type 0
AreWithin f accounts = All (λ account. account < (certificates f).accounts) accounts

served_within : (f : Revision) (level : Level) (r : Lists) → IsSound f level r → AreWithin f r.served
served_within f level r sound = λ k d within. ((sound.proven.1.2.serves (slice_index_or r.served k d)).1 (All-contains_itself r.served k d within)).0

-- The same of a graph and a list that are these.
pub accounts_within : (f : Revision) (level : Level) (r : Lists) (graph : Revision) (accounts : List ℕ) → IsSound f level r → graph ≡ f → accounts ≡ r.served →
    All (λ account. account < (certificates graph).accounts) accounts
accounts_within f level r graph accounts sound same are =
    subst (λ g. AreWithin g accounts) (sym same) (subst (AreWithin f) (sym are) (served_within f level r sound))
