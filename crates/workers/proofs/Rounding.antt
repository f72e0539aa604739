-- What a round comes to, out of its parts.
use Rattle.std.proofs.Common.{◌≡◌, ℕ, ◌+◌, List, [], ◌++◌, length, inl, inr, refl, sym, ap, subst, ◌∙◌, append_assoc}
use Rattle.trust_types.specs.Kept.{revision}
use Rattle.frozen.specs.Revision.{Revision}
use Rattle.roster_form.specs.Candidates.{Rosters}
use Rattle.site_history.specs.Histories.{Entry, Freeze, Publish, History, publications, published_of, records}
use Rattle.site_history.specs.Legal.{IsFrozenOf, IsLegal, IsOfPast}
use Rattle.turn_book.specs.Seats.{Seated, Looks, Adds, StartsWith}
use Rattle.turn_book.proofs.Keeps.{starts_self}
use Rattle.turn_book.proofs.Seats.{adds_begins}
use Rattle.turn_book.proofs.Suits.{frozen_suits}
use Rattle.workers.specs.declared.rounds.Round.{Round}
use Rattle.workers.specs.declared.rounds.Round.TheVariants.{Published, Stale, Same, HistoryFull, PublicationsFull, Stopped, NoMemory}
use Rattle.site_history.specs.declared.faults.PublishFault.TheVariants as publish
use Rattle.workers.specs.Rounds.{AfterFreeze, FreezesAtMost, Froze, IsRound, NotPublished, PublishedOnce}
use Rattle.workers.specs.inner.Parts.{IsAfterFreeze}

-- who only looks at what he has seen
pub looks_self : (s : Seated) → IsLegal s.seen → Looks s s
looks_self s legal = record {
  same = record { site = refl; id = refl; base = refl; low = refl; high = refl };
  legal = legal;
  begins = starts_self s.seen;
  none_made = refl;
}

-- a freeze that was made
pub froze : (s t : Seated) (f : Revision) → ((before : History) × IsFrozenOf before.opening (records before) f × Adds s before (Freeze s.low (revision (records before))) t) → Froze s f.number t
froze s t f is = record { before = is.0; newest = is.1.number; adds = subst (λ (r : ℕ). Adds s is.0 (Freeze s.low r) t) (sym is.1.number) is.2 }

-- its graph is one of the past of what the seat has seen then
pub frozen_past : (s t : Seated) (f : Revision) → ((before : History) × IsFrozenOf before.opening (records before) f × Adds s before (Freeze s.low (revision (records before))) t)
    → IsOfPast t.seen.opening (records t.seen) f
frozen_past s t f is = frozen_suits is.0 t.seen s.low f (record { graph = f; grades = [] }) is.1 is.2.ends refl

-- a publication that was made
pub published_once : (s t : Seated) (c : Rosters) (k : ℕ) → ((before : History) × (k ≡ length (publications before) + 1) × Adds s before (Publish s.low (published_of k c)) t) → PublishedOnce s c.graph.number k t
published_once s t c k is = record { before = is.0; rosters = c; of_revision = refl; next = is.1; adds = is.2 }

-- what follows a freeze makes a round
pub round_after : (s m t : Seated) (r : ℕ) (round : Round) → Froze s r m → IsAfterFreeze m r t round → IsRound s t round
round_after s m t r (Published k) froze is = (m, r, froze, is)
round_after s m t r (Stale last) froze is = (m, r, froze, is)
round_after s m t r (Same last) froze is = absurd is
round_after s m t r HistoryFull froze is = inr (m, r, froze, is)
round_after s m t r PublicationsFull froze is = (m, r, froze, is)
round_after s m t r Stopped froze is = inr (m, r, froze, is)
round_after s m t r NoMemory froze is = inr (m, r, froze, is)

starts_again : (h g f : History) → StartsWith h g → StartsWith g f → StartsWith h f
starts_again h g f s is = (is.0 ++ s.0, s.1 ∙ (ap (λ (x : History). record x { entries = x.entries ++ s.0 }) is.1 ∙ ap (λ (es : List Entry). record f { entries = es }) (append_assoc f.entries is.0 s.0)))

-- the seat is of the same site, and has seen a history that begins with what it had seen
abbrev IsLater : Seated → Seated → Type 0
IsLater s t = (t.site ≡ s.site) × StartsWith t.seen s.seen

later_again : (s m t : Seated) → IsLater s m → IsLater m t → IsLater s t
later_again s m t first second = (second.0 ∙ first.0, starts_again t.seen m.seen s.seen second.1 first.1)

looks_later : (s t : Seated) → Looks s t → IsLater s t
looks_later s t is = (is.same.site, is.begins)

adds_later : (s t : Seated) (before : History) (e : Entry) → Adds s before e t → IsLater s t
adds_later s t before e is = (is.same.site, adds_begins s t before e is)

froze_later : (s t : Seated) (r : ℕ) → Froze s r t → IsLater s t
froze_later s t r is = adds_later s t is.before (Freeze s.low r) is.adds

published_later : (s t : Seated) (r k : ℕ) → PublishedOnce s r k t → IsLater s t
published_later s t r k is = adds_later s t is.before (Publish s.low (published_of k is.rosters)) is.adds

after_later : (s t : Seated) (P : Seated → ℕ → Type 0) → ((m : Seated) (r : ℕ) → P m r → IsLater m t) → AfterFreeze s P → IsLater s t
after_later s t P goes is = later_again s is.0 t (froze_later s is.0 is.1 is.2) (goes is.0 is.1 is.3)

at_most_later : (s t : Seated) → FreezesAtMost s t → IsLater s t
at_most_later s t (inl looks) = looks_later s t looks
at_most_later s t (inr after) = after_later s t (λ m r. Looks m t) (λ m r is. looks_later m t is) after

-- after a round
pub round_later : (s t : Seated) (round : Round) → IsRound s t round → IsLater s t
round_later s t (Published k) is = after_later s t (λ m r. PublishedOnce m r k t) (λ m r is. published_later m t r k is) is
round_later s t (Stale last) is = after_later s t (λ m r. NotPublished m r (publish.Stale last) t) (λ m r is. looks_later m t is.looks) is
round_later s t (Same r) is = looks_later s t is.looks
round_later s t HistoryFull (inl is) = looks_later s t is.looks
round_later s t HistoryFull (inr is) = after_later s t (λ m r. NotPublished m r publish.HistoryFull t) (λ m r is. looks_later m t is.looks) is
round_later s t PublicationsFull is = after_later s t (λ m r. NotPublished m r publish.PublicationsFull t) (λ m r is. looks_later m t is.looks) is
round_later s t Stopped is = at_most_later s t is
round_later s t NoMemory is = at_most_later s t is
