-- What comes of requests that are whole.
use Rattle.std.specs.Prelude.{ℕ, ◌≡◌, ◌<◌, List, [], ◌∷◌, length, Some}
use Rattle.outside_serving.specs.Links.{Line}
use Rattle.exchanges.specs.declared.logs.Exchange.{Exchange}
use Rattle.exchanges.specs.declared.logs.TheConstants.{MOST_EXCHANGES}
use Rattle.exchanges.specs.Exchanges.{Answered, AreRequests}
use Rattle.conversation.specs.declared.linking.Why.{Why}
use Rattle.conversation.specs.declared.linking.Why.TheVariants as why
use Rattle.conversation.specs.Ends.{World}
use Rattle.conversation.specs.Conversations.{Conversed, OnlyLastCloses}

-- The bytes that are left to read are these requests, one behind another, and nothing else. There are fewer than a link may have, and none but the last
-- asks to close. How they are answered isn't looked at.
pub record Sends (line : Line) (asked : List Answered) : Type 0 where
  pub bytes : List ℕ
  pub told : line.left ≡ Some bytes
  pub requests : AreRequests bytes asked []
  pub closing : OnlyLastCloses asked
  pub few : length asked < MOST_EXCHANGES

-- The same requests, however they are answered.
abbrev pub AskAlike : List Answered → List Answered → Type 0
AskAlike [] [] = Unit {0}
AskAlike [] (b ∷ others) = ⊥
AskAlike (a ∷ others) [] = ⊥
AskAlike (a ∷ others) (b ∷ more) = (a.request ≡ b.request) × AskAlike others more

-- All were answered, or there was a fault, or memory ran out.
abbrev pub EndsBehind : Why → List Answered → List Answered → Type 0
EndsBehind why.Closed asked all = AskAlike asked all
EndsBehind why.CutShort asked all = ⊥
EndsBehind why.Limit asked all = ⊥
EndsBehind (why.Bad status) asked all = ⊥
EndsBehind other asked all = Unit {0}

-- Whole requests are answered, and the conversation then ends as closed.
abbrev pub AnswersWhole : Type 0
AnswersWhole =
    (before now : World) (exchanges : List Exchange) (end : Why) (asked : List Answered) → Sends before.line asked → (c : Conversed before now exchanges end)
    → EndsBehind end asked c.all
