-- For the state of a site alone: what it keeps true.
use Rattle.std.specs.Prelude.{ℕ, ◌≡◌, ◌≤◌, Option, Some, None, IfSome, length}
use Rattle.std.specs.declared.sync.Arc.{Arc}
use Rattle.trust_types.specs.declared.levels.Level.{Level}
use Rattle.trust_types.specs.declared.records.Record.{Record}
use Rattle.trust_types.specs.Kept.{revision, upto}
use Rattle.cert_book.specs.Books.{book}
use Rattle.roster_form.specs.Candidates.{Rosters, IsSound, lists_at}
use Rattle.roster_form.specs.declared.publications.Publication.{Publication}
use Rattle.site_history.specs.Histories.{History, places, records, publications, last_published, published_of}
use Rattle.site_history.specs.Live.{live}
use Rattle.site_history.specs.Texts.{texts}
use Rattle.site_history.specs.Legal.{IsLegal, IsFrozenOf}
use Rattle.site_state.specs.declared.parts.Parts.{Parts}
use Rattle.site_state.specs.inner.Parts.{ArePartsOf, HasRoom, CanAdd}

-- The last publication has this number and these rosters, with the graph of the records up to its revision.
pub record IsLastOf (h : History) (number : ℕ) (c : Rosters) : Type 0 where
  pub published : last_published h ≡ Some (published_of number c)
  pub past : c.graph.number ≤ revision (records h)
  pub graph : IsFrozenOf h.opening (upto (records h) c.graph.number) c.graph
  pub sound : (level : Level) → IfSome (lists_at c level) (IsSound c.graph level)

abbrev pub LastIs : {Z : Type 0} → History → Option (Arc Publication Z) → Type 0
LastIs h None = last_published h ≡ None
LastIs h (Some q) = IsLastOf h q.value.number q.value.candidate

-- The history is legal, and the parts, the counts and the last publication are its own.
pub record IsState {Z : Type 0} (h : History) (parts : Parts) (count bytes published : ℕ) (last : Option (Arc Publication Z)) : Type 0 where
  pub legal : IsLegal h
  pub parts_are : ArePartsOf h.opening (records h) (live h) parts
  pub count_is : count ≡ places h
  pub bytes_are : bytes ≡ texts h
  pub published_are : published ≡ length (publications h)
  pub few : published ≤ 100000
  pub last_is : LastIs h last

-- A record has room wherever it is to be added, and may be added.
pub record HasRoomFor (parts : Parts) (x : Record) : Type 0 where
  pub room : HasRoom parts x
  pub can : CanAdd (book parts.certs) parts.posts.posts x
