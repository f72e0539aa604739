-- What a round asked a gate, out of its parts.
use Rattle.std.proofs.Common.{◌≡◌, ℕ, ◌≤◌, List, [], ◌∷◌, ◌++◌, Option, Some, None, take, inl, inr, refl, ap, ◌∙◌, append_assoc, arith}
use Rattle.std.specs.Option.{option_map}
use Rattle.turn_book.specs.Seats.{Seated}
use Rattle.workers.specs.declared.gate.RoundStep.{RoundStep}
use Rattle.workers.specs.declared.gate.RoundStep.TheVariants.{Freeze, Solve, Publish}
use Rattle.workers.specs.declared.rounds.Round.{Round}
use Rattle.workers.specs.declared.rounds.Round.TheVariants.{Published, Stale, Same, HistoryFull, PublicationsFull, Stopped, NoMemory}
use Rattle.workers.specs.Gates.{one_asked}
use Rattle.workers.specs.Rounds.{Asks, MayAsk}
use Rattle.workers.specs.inner.Parts.{AsksBehind, IsAfterFreeze, MayEndEarly}

two-asked : (asked : Option (List RoundStep)) (a b : RoundStep) → one_asked (one_asked asked a) b ≡ option_map (λ l. l ++ a ∷ b ∷ []) asked
two-asked None a b = refl
two-asked (Some l) a b = ap Some (append_assoc l (a ∷ []) (b ∷ []))

three-asked : (asked : Option (List RoundStep)) (a b c : RoundStep) → one_asked (one_asked (one_asked asked a) b) c ≡ option_map (λ l. l ++ a ∷ b ∷ c ∷ []) asked
three-asked None a b c = refl
three-asked (Some l) a b c = ap Some (append_assoc (l ++ a ∷ []) (b ∷ []) (c ∷ []) ∙ append_assoc l (a ∷ []) (b ∷ c ∷ []))

-- a round that ended at its first step
pub asks_once : (before now : Option (List RoundStep)) (round : Round) → now ≡ one_asked before Freeze → MayAsk round 1 → Asks before now round
asks_once before now round is may = (1, may, is)

early : (round : Round) → MayEndEarly round → MayAsk round 2
early (Published k) is = absurd is
early (Stale last) is = absurd is
early (Same last) is = absurd is
early HistoryFull is = absurd is
early PublicationsFull is = absurd is
early Stopped is = (omega arith, omega arith)
early NoMemory is = (omega arith, omega arith)

whole : (m t : Seated) (r : ℕ) (round : Round) → IsAfterFreeze m r t round → MayAsk round 3
whole m t r (Published k) is = refl
whole m t r (Stale last) is = refl
whole m t r (Same last) is = absurd is
whole m t r HistoryFull is = inr refl
whole m t r PublicationsFull is = refl
whole m t r Stopped is = (omega arith, omega arith)
whole m t r NoMemory is = (omega arith, omega arith)

-- a round that froze
pub asks_behind : (m t : Seated) (r : ℕ) (before middle now : Option (List RoundStep)) (round : Round) → IsAfterFreeze m r t round → middle ≡ one_asked before Freeze → AsksBehind middle now round → Asks before now round
asks_behind m t r before middle now round is asked (inl (ends, same)) = (2, early round ends, same ∙ (ap (λ (a : Option (List RoundStep)). one_asked a Solve) asked ∙ two-asked before Freeze Solve))
asks_behind m t r before middle now round is asked (inr same) = (3, whole m t r round is, same ∙ (ap (λ (a : Option (List RoundStep)). one_asked (one_asked a Solve) Publish) asked ∙ three-asked before Freeze Solve Publish))
