-- What comes of requests that are whole.
use Rattle.std.proofs.Common.{ℕ, ◌≡◌, ◌≢◌, true, false, List, [], ◌∷◌, ◌++◌, length, drop, Some, None, refl, sym, ap, ◌∙◌, arith, subst, inl, inr, length-append, suc}
use Rattle.std.specs.Io.KnownBytes.{prepend_known, IsAtEnd}
use Rattle.std.proofs.lemmas.List.{append-nil}
use Rattle.std.proofs.lemmas.Option.{same_Some}
use Rattle.outside.specs.Bytes.{Told}
use Rattle.http_requests.specs.declared.requests.Request.{Request}
use Rattle.http_requests.specs.declared.next.Next.{Next}
use Rattle.http_requests.specs.declared.next.Next.TheVariants.{Whole, NeedMore, Bad}
use Rattle.http_requests.specs.Requests.{IsRequest}
use Rattle.http_requests.proofs.Asking.{asks-once, is-stable, uses-some}
use Rattle.exchanges.specs.declared.logs.Exchange.{Exchange}
use Rattle.exchanges.specs.Exchanges.{Answered, AreRequests}
use Rattle.exchanges.proofs.Following.{requests_more}
use Rattle.conversation.specs.declared.linking.Why.{Why}
use Rattle.conversation.specs.declared.linking.Why.TheVariants as why
use Rattle.conversation.specs.Ends.{World, StaysOpen}
use Rattle.conversation.specs.Conversations.{Conversed, Exchanged, OnlyLastCloses}
use Rattle.conversation.specs.Laws.{AskAlike, EndsBehind, Sends}

-- requests that were read begin any reading of the bytes to their end
record Meets (asked all : List Answered) (rest : List ℕ) : Type 0 where
  more : List Answered
  left : AreRequests rest more []
  alike : AskAlike asked (all ++ more)

alike_self : (all : List Answered) → AskAlike all all
alike_self [] = tt
alike_self (a ∷ all) = (refl, alike_self all)

not_none : (a : Answered) → IsRequest [] (Whole a.request a.used) → ⊥
not_none a is = let used = uses-some [] a.request a.used is in omega (arith, used.0, used.1)

abbrev used_of : Next → ℕ
used_of (Whole q used) = used
used_of other = 0

meets : (bytes : List ℕ) (asked all : List Answered) (rest : List ℕ) → AreRequests bytes all rest → AreRequests bytes asked [] → Meets asked all rest
meets bytes asked [] rest is others = record { more = asked; left = subst (λ (z : List ℕ). AreRequests z asked []) is others; alike = alike_self asked }
meets bytes [] (a ∷ all) rest is others = absurd (not_none a (subst (λ (z : List ℕ). IsRequest z (Whole a.request a.used)) others is.0))
meets bytes (b ∷ asked) (a ∷ all) rest is others =
    let same : Whole b.request b.used ≡ Whole a.request a.used = asks-once bytes (Whole b.request b.used) (Whole a.request a.used) others.0 is.0 in
    let used : b.used ≡ a.used = ap used_of same in
    let request : b.request ≡ a.request = cc in
    let m = meets (drop a.used bytes) asked all rest is.1 (subst (λ (n : ℕ). AreRequests (drop n bytes) asked []) used others.1) in
    record { more = m.more; left = m.left; alike = (request, m.alike) }

-- the bytes that are left behind those that were read
record Unread (bytes read : List ℕ) (left : Told) : Type 0 where
  more : List ℕ
  told : left ≡ Some more
  whole : bytes ≡ read ++ more

unread : (bytes read : List ℕ) (left : Told) → Some bytes ≡ prepend_known read left → Unread bytes read left
unread bytes read None e = absurd (let no_ : Some bytes ≡ None = e in cc)
unread bytes read (Some more) e = record { more = more; told = refl; whole = same_Some bytes (read ++ more) e }

at_end : (left : Told) (more : List ℕ) → left ≡ Some more → IsAtEnd left → more ≡ []
at_end left more told is = subst IsAtEnd told is

alike_long : (xs ys : List Answered) → AskAlike xs ys → length xs ≡ length ys
alike_long [] [] is = refl
alike_long [] (y ∷ ys) is = absurd is
alike_long (x ∷ xs) [] is = absurd is
alike_long (x ∷ xs) (y ∷ ys) is = ap (λ (n : ℕ). suc n) (alike_long xs ys is.1)

closing_tail : (a : Answered) (all : List Answered) → OnlyLastCloses (a ∷ all) → OnlyLastCloses all
closing_tail a [] is = tt
closing_tail a (b ∷ all) is = is.1

-- what isn't the last one didn't ask to close
stays_before : (asked others : List Answered) (last next : Answered) (more : List Answered) → AskAlike asked ((others ++ last ∷ []) ++ next ∷ more) → OnlyLastCloses asked → StaysOpen last
stays_before [] [] last next more is closing = absurd is
stays_before [] (o ∷ others) last next more is closing = absurd is
stays_before (a ∷ []) [] last next more is closing = absurd is.1
stays_before (a ∷ b ∷ asked) [] last next more is closing = ap (λ (q : Request). q.close) (sym is.0) ∙ closing.0
stays_before (a ∷ asked) (o ∷ others) last next more is closing = stays_before asked others last next more is.1 (closing_tail a asked closing)

none_bad : (status : ℕ) → IsRequest [] (Bad status) → ⊥
none_bad status is = let no_ : Bad status ≡ NeedMore = is in cc

-- bytes that are no request don't begin whole requests
never_bad : (rest : List ℕ) (more : List Answered) (status : ℕ) → AreRequests rest more [] → IsRequest rest (Bad status) → ⊥
never_bad rest [] status is bad = none_bad status (subst (λ (z : List ℕ). IsRequest z (Bad status)) is bad)
never_bad rest (a ∷ more) status is bad = let no_ : Bad status ≡ Whole a.request a.used = asks-once rest (Bad status) (Whole a.request a.used) bad is.0 in cc

never_cut : (rest : List ℕ) (more : List Answered) → AreRequests rest more [] → rest ≢ [] → IsRequest rest NeedMore → ⊥
never_cut rest [] is some need = some is
never_cut rest (a ∷ more) is some need = let no_ : NeedMore ≡ Whole a.request a.used = asks-once rest NeedMore (Whole a.request a.used) need is.0 in cc

none_more : (more : List Answered) → AreRequests [] more [] → more ≡ []
none_more [] is = refl
none_more (a ∷ more) is = absurd (not_none a is.0)

all_alike : (asked all more : List Answered) → AskAlike asked (all ++ more) → more ≡ [] → AskAlike asked all
all_alike asked all more is none = subst (λ (z : List Answered). AskAlike asked z) (ap (λ (z : List Answered). all ++ z) none ∙ append-nil all) is

closed_last : (asked all others : List Answered) (last : Answered) (more : List Answered) → AskAlike asked (all ++ more) → OnlyLastCloses asked → all ≡ others ++ last ∷ [] → last.request.close ≡ true → AskAlike asked all
closed_last asked all others last [] is closing parts closes = all_alike asked all [] is refl
closed_last asked all others last (next ∷ more) is closing parts closes =
    let stays : last.request.close ≡ false = stays_before asked others last next more (subst (λ (z : List Answered). AskAlike asked (z ++ next ∷ more)) parts is) closing in
    absurd (let no_ : true ≡ false = sym closes ∙ stays in cc)

module _ (before now : World) (exchanges : List Exchange) (asked : List Answered) (s : Sends before.line asked) where
  module _ (rest said : List ℕ) (all : List Answered) (x : Exchanged before now exchanges rest said all) where
    behind : Unread s.bytes x.bytes now.line.left
    behind = unread s.bytes x.bytes now.line.left (sym s.told ∙ x.read)

    met : Meets asked all (rest ++ behind.more)
    met = meets (x.bytes ++ behind.more) asked all (rest ++ behind.more) (requests_more x.bytes behind.more all rest x.requests) (subst (λ (z : List ℕ). AreRequests z asked []) behind.whole s.requests)

    -- where nothing is left to read
    met_end : IsAtEnd now.line.left → Meets asked all rest
    met_end nothing =
        let none = at_end now.line.left behind.more behind.told nothing in
        subst (λ (z : List ℕ). Meets asked all z) (ap (λ (z : List ℕ). rest ++ z) none ∙ append-nil rest) met

  pub whole : (end : Why) (c : Conversed before now exchanges end) → EndsBehind end asked c.all
  whole why.Closed c = elim c.ends [
    | inl e ↦ (
        let m = met_end c.rest c.said c.all c.exchanged e.1.nothing in
        all_alike asked c.all m.more m.alike (none_more m.more (subst (λ (z : List ℕ). AreRequests z m.more []) e.0 m.left))
        )
    | inr e ↦ (
        let m = met c.rest c.said c.all c.exchanged in
        closed_last asked c.all e.0.0 e.0.1 m.more m.alike s.closing e.0.2 e.0.3
        )
  ]
  whole why.CutShort c = let m = met_end c.rest c.said c.all c.exchanged c.ends.2.nothing in never_cut c.rest m.more m.left c.ends.0 c.ends.1
  whole why.Limit c =
      let m = met c.rest c.said c.all c.exchanged in
      omega (arith, s.few, alike_long asked (c.all ++ m.more) m.alike, length-append c.all m.more, c.ends.0)
  whole (why.Bad status) c =
      let m = met c.rest c.said c.all c.exchanged in
      let l = (behind c.rest c.said c.all c.exchanged).more in
      never_bad (c.rest ++ l) m.more status m.left (is-stable c.rest l (Bad status) (λ e. cc) c.ends.0)
  whole why.ReadFault c = tt
  whole why.WriteFault c = tt
  whole why.ClockFault c = tt
  whole why.EntropyFault c = tt
  whole why.NoMemory c = tt
