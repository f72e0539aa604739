-- What a reader holds of a site, and that it is one of its publications.
use Rattle.std.specs.Prelude.{ℕ, ◌≡◌, ◌<◌, ◌-◌, Option, Some, None, length, slice_get}
use Rattle.std.specs.declared.sync.Arc.{Arc}
use Rattle.roster_form.specs.declared.publications.Publication.{Publication}
use Rattle.site_history.specs.Histories.{Published, History, publications, records}
use Rattle.site_history.specs.Legal.{StandsFor}

-- The publication that is shared, where there is one.
abbrev pub held_in : {Z : Type 0} → Option (Arc Publication Z) → Option Publication
held_in None = None
held_in (Some shared) = Some shared.value

-- The number of what is held; 0 of nothing.
abbrev pub number_of : Option Publication → ℕ
number_of None = 0
number_of (Some q) = q.number

-- It stands for the publication of its number, counted from 1.
pub record IsOneOf (h : History) (q : Publication) : Type 0 where
  pub counted : 0 < q.number
  pub published : Published
  pub is_there : slice_get (publications h) (q.number - 1) ≡ Some published
  pub stands : StandsFor h.opening (records h) q published

-- Nothing is held, or one of the history's publications.
abbrev pub IsCached : History → Option Publication → Type 0
IsCached h None = Unit {0}
IsCached h (Some q) = IsOneOf h q

-- It stands for the last publication.
abbrev pub IsLatest : History → Publication → Type 0
IsLatest h q = (q.number ≡ length (publications h)) × IsOneOf h q
