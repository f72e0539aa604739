-- What a conversation has come to after each step.
use Rattle.std.proofs.Common.{ℕ, ◌≡◌, ◌+◌, ◌<◌, ◌⊎◌, List, [], ◌∷◌, ◌++◌, length, drop, get_or, Option, Some, None, refl, sym, ap, ◌∙◌, arith, subst, inl, inr, length-append, length-drop, append_assoc, Bool, true, false}
use Rattle.std.specs.Prelude.{is_some, option_to_list, replicate}
use Rattle.std.specs.Io.KnownBytes.{prepend_known, append_known}
use Rattle.std.proofs.lemmas.List.{append-nil, map-append, get_or_append_left, get_or-drop, drop-drop}
use Rattle.std.proofs.lemmas.Option.{slice_get_within, get_or_from_slice_get, slice_get_read}
use Rattle.std.proofs.Math.Seq.{get_or-append_seam}
use Rattle.http_requests.specs.declared.requests.Request.{Request}
use Rattle.http_requests.specs.declared.next.Next.TheVariants.{Whole}
use Rattle.http_requests.specs.Requests.{IsRequest}
use Rattle.outside_serving.specs.Clocks.{Dial, IsShown}
use Rattle.outside_serving.specs.Links.{Line}
use Rattle.outside_serving.specs.Words.{ToldWords, Pool, IsWord, after_draws}
use Rattle.trust_types.specs.Kept.{IsMoment}
use Rattle.turn_book.specs.Seats.{Seated, IsSame, Looks, StartsWith, mine}
use Rattle.exchanges.specs.declared.logs.Exchange.{Exchange}
use Rattle.exchanges.specs.declared.logs.Kind.{Kind}
use Rattle.exchanges.specs.Asked.{is_login}
use Rattle.exchanges.specs.Answering.{AnswersTo}
use Rattle.exchanges.specs.Exchanges.{AreRequests, Content, Answered, Answers, HasToken, answered, drawn, entries_of, logged, place_in}
use Rattle.exchanges.proofs.Following.{starts_twice, follow_later, follow_next, requests_more, requests_next, flat_next}
use Rattle.conversation.specs.Ends.{World, Each, StaysOpen, world}
use Rattle.conversation.specs.Conversations.{AreWords, Exchanged, OnlyLastCloses}
use Rattle.conversation.specs.inner.Hearing.{DrawnFor, Reads}
use Rattle.conversation.specs.inner.Talking.{Grows}
use Rattle.conversation.proofs.Bytes.{prepend_twice, append_twice}

pub each_next : {X : Type 0} (P : X → Type 0) (xs : List X) (x : X) → Each P xs → P x → Each P (xs ++ x ∷ [])
each_next P [] x h p = (p, tt)
each_next P (y ∷ ys) x h p = (h.0, each_next P ys x h.1 p)

closing_next : (all : List Answered) (a : Answered) → Each StaysOpen all → OnlyLastCloses (all ++ a ∷ [])
closing_next [] a h = tt
closing_next (b ∷ []) a h = (h.0, tt)
closing_next (b ∷ d ∷ all) a h = (h.0, closing_next (d ∷ all) a h.1)

get_or_drop : (words : List (List ℕ)) (n : ℕ) → get_or (drop n words) 0 (replicate 16 0) ≡ get_or words n (replicate 16 0)
get_or_drop words n = get_or-drop n words 0 (replicate 16 0) ∙ ap (λ (k : ℕ). get_or words k (replicate 16 0)) (omega arith)

word_on : (words : ToldWords) (n : ℕ) (w : List ℕ) → IsWord (after_draws n words) 0 w → IsWord words n w
word_on None n w h = h
word_on (Some words) n w h = h ∙ get_or_drop words n

below_or : (k n : ℕ) → k < n + 1 → (k < n) ⊎ (k ≡ n)
below_or k n h = grind arith

-- one token more is the next word
words_next : (words : ToldWords) (ds : List (List ℕ)) (t : List ℕ) → AreWords words ds → IsWord words (length ds) t → AreWords words (ds ++ t ∷ [])
words_next words ds t h is k w e =
    let l : k < length (ds ++ t ∷ []) = slice_get_within (ds ++ t ∷ []) k w e in
    let n : length (ds ++ t ∷ []) ≡ length ds + 1 = length-append ds (t ∷ []) in
    let at : get_or (ds ++ t ∷ []) k w ≡ w = get_or_from_slice_get (ds ++ t ∷ []) k w w e in
    elim (below_or k (length ds) (omega arith)) [
      | inl b ↦ h k w (slice_get_read ds (length ds) k w refl b (sym at ∙ get_or_append_left ds (t ∷ []) w k b))
      | inr b ↦ subst (λ (j : ℕ). IsWord words j w) (sym b) (subst (λ (x : List ℕ). IsWord words (length ds) x) (sym (get_or-append_seam ds t [] w) ∙ subst (λ (j : ℕ). get_or (ds ++ t ∷ []) j w ≡ w) b at) is)
    ]

-- the tokens, once one more was drawn, or none
pub record Draws (words : ToldWords) (before now : Pool) (ds more : List (List ℕ)) : Type 0 where
  pub are : AreWords words (ds ++ more)
  pub left : now.words ≡ after_draws (length (ds ++ more)) words
  pub faults : now.faults ≡ before.faults

drop_on : (words : ToldWords) (n m : ℕ) → m ≡ n + 1 → after_draws 1 (after_draws n words) ≡ after_draws m words
drop_on None n m e = refl
drop_on (Some words) n m e = ap Some (drop-drop 1 n words ∙ ap (λ (k : ℕ). drop k words) (sym e))

pub drew_on : (words : ToldWords) (login : Bool) (before now : Pool) (ds : List (List ℕ)) (token : Option (List ℕ)) → before.words ≡ after_draws (length ds) words → AreWords words ds → DrawnFor login before now token
    → Draws words before now ds (option_to_list token)
drew_on words true before now ds (Some w) l a d =
    record {
      are = words_next words ds w a (word_on words (length ds) w (subst (λ (o : ToldWords). IsWord o 0 w) l d.first));
      left = d.words ∙ (ap (after_draws 1) l ∙ drop_on words (length ds) (length (ds ++ w ∷ [])) (length-append ds (w ∷ [])));
      faults = d.faults;
    }
drew_on words true before now ds None l a d = absurd d
drew_on words false before now ds (Some w) l a d = absurd d
drew_on words false before now ds None l a d =
    record {
      are = rw append-nil a;
      left = ap (λ (p : Pool). p.words) d ∙ (l ∙ ap (λ (z : List (List ℕ)). after_draws (length z) words) (sym (append-nil ds)));
      faults = ap (λ (p : Pool). p.faults) d;
    }

pub has_token : (login : Bool) (before now : Pool) (token : Option (List ℕ)) → DrawnFor login before now token → is_some token ≡ login
has_token true before now (Some w) d = refl
has_token true before now None d = absurd d
has_token false before now (Some w) d = absurd d
has_token false before now None d = refl

-- a word was drawn for a login, or none
pub drawn_so : (words : ToldWords) (login : Bool) (before now : Pool) (ds : List (List ℕ)) (token : Option (List ℕ)) → before.words ≡ after_draws (length ds) words → AreWords words ds → DrawnFor login before now token
    → (now.words ≡ after_draws (length ds) words) ⊎ ((login ≡ true) × (now.words ≡ after_draws (length ds + 1) words))
drawn_so words true before now ds (Some w) l a d =
    inr (refl, (drew_on words true before now ds (Some w) l a d).left ∙ ap (λ (n : ℕ). after_draws n words) (length-append ds (w ∷ [])))
drawn_so words true before now ds None l a d = absurd d
drawn_so words false before now ds (Some w) l a d = absurd d
drawn_so words false before now ds None l a d = inl (ap (λ (p : Pool). p.words) d ∙ l)

pub drawn_faults : (login : Bool) (before now : Pool) (token : Option (List ℕ)) → DrawnFor login before now token → now.faults ≡ before.faults
drawn_faults true before now (Some w) d = d.faults
drawn_faults true before now None d = absurd d
drawn_faults false before now (Some w) d = absurd d
drawn_faults false before now None d = ap (λ (p : Pool). p.faults) d

-- the same seat, step by step
same_twice : (s t u : Seated) → IsSame s t → IsSame t u → IsSame s u
same_twice s t u a b = record { site = b.site ∙ a.site; id = b.id ∙ a.id; base = b.base ∙ a.base; low = b.low ∙ a.low; high = b.high ∙ a.high }

pub grows_twice : (s t u : Seated) → Grows s t → Grows t u → Grows s u
grows_twice s t u a b = record { same = same_twice s t u a.same b.same; legal = b.legal; begins = starts_twice u.seen t.seen s.seen b.begins a.begins }

pub looks_grows : (s t : Seated) → Looks s t → Grows s t
looks_grows s t l = record { same = l.same; legal = l.legal; begins = l.begins }

-- bytes were read behind the rest
pub reads_on : (v : World) (seat : Seated) (line next : Line) (dial : Dial) (pool : Pool) (log : List Exchange) (rest more said : List ℕ) (all : List Answered)
    → Exchanged v (world seat line dial pool) log rest said all → Reads line next rest more
    → Exchanged v (world seat next dial pool) log more said all
reads_on v seat line next dial pool log rest more said all x h =
    record {
      bytes = x.bytes ++ h.bytes;
      read = prepend_twice v.line.left line.left next.left x.bytes h.bytes x.read h.read;
      requests = subst (λ (z : List ℕ). AreRequests (x.bytes ++ h.bytes) all z) (sym h.grows) (requests_more x.bytes h.bytes all rest x.requests);
      closing = x.closing;
      few = h.few x.few;
      written = h.written ∙ x.written;
      log = x.log;
      follow = x.follow;
      made = x.made;
      tokens = x.tokens;
      words = x.words;
      moments = x.moments;
      shows = x.shows;
    }

-- a request was answered, and these bytes of its response written
pub answered_on : (v : World) (s t : Seated) (line next : Line) (dial dial' : Dial) (pool pool' : Pool) (log : List Exchange) (rest said piece : List ℕ) (all : List Answered)
    (q : Request) (used : ℕ) (kind : Kind) (token : Option (List ℕ)) (moment : ℕ) (content : Content)
    → Exchanged v (world s line dial pool) log rest said all → Grows v.seat s → Each StaysOpen all
    → IsRequest rest (Whole q used) → AnswersTo s t q token moment kind content
    → next.left ≡ line.left → next.written ≡ append_known line.written piece
    → IsMoment moment → IsShown v.dial.shows moment → dial'.shows ≡ dial.shows
    → is_some token ≡ is_login q.route → AreWords v.pool.words (drawn all ++ option_to_list token)
    → Exchanged v (world t next dial' pool') (log ++ record { used = used; kind = kind } ∷ []) (drop used rest) (said ++ piece) (all ++ answered q used kind token moment t.seen content ∷ [])
answered_on v s t line next dial dial' pool pool' log rest said piece all q used kind token moment content x grows stays is d left written m shown shows has words =
    let a = answered q used kind token moment t.seen content in
    record {
      bytes = x.bytes;
      read = x.read ∙ ap (prepend_known x.bytes) (sym left);
      requests = requests_next x.bytes all rest a x.requests is;
      closing = closing_next all a stays;
      few = omega (arith, x.few, length-drop used rest);
      written = append_twice v.line.written line.written next.written said piece x.written written;
      log = ap (λ (z : List Exchange). z ++ record { used = used; kind = kind } ∷ []) x.log ∙ sym (map-append logged all (a ∷ []));
      follow = follow_next v.seat.low v.seat.seen all s.seen a x.follow (subst (λ (n : ℕ). Answers n s.seen a kind) grows.same.low (d.answers used));
      made = d.made ∙ (ap (λ (z : List ℕ). z ++ place_in kind) x.made ∙ (append_assoc (mine v.seat) (entries_of all) (place_in kind) ∙ ap (λ (z : List ℕ). mine v.seat ++ z) (sym (flat_next (λ (b : Answered). place_in b.kind) all a))));
      tokens = each_next HasToken all a x.tokens has;
      words = subst (λ (z : List (List ℕ)). AreWords v.pool.words z) (sym (flat_next (λ (b : Answered). option_to_list b.token) all a)) words;
      moments = each_next (λ (b : Answered). IsMoment b.moment × IsShown v.dial.shows b.moment) all a x.moments (m, shown);
      shows = shows ∙ x.shows;
    }

-- the seat only looked on
pub looked_on : (v : World) (s t : Seated) (line : Line) (dial dial' : Dial) (pool pool' : Pool) (log : List Exchange) (rest said : List ℕ) (all : List Answered)
    → Exchanged v (world s line dial pool) log rest said all → StartsWith t.seen s.seen → mine t ≡ mine s → dial'.shows ≡ dial.shows
    → Exchanged v (world t line dial' pool') log rest said all
looked_on v s t line dial dial' pool pool' log rest said all x begins made shows =
    record {
      bytes = x.bytes;
      read = x.read;
      requests = x.requests;
      closing = x.closing;
      few = x.few;
      written = x.written;
      log = x.log;
      follow = follow_later v.seat.low v.seat.seen all s.seen t.seen begins x.follow;
      made = made ∙ x.made;
      tokens = x.tokens;
      words = x.words;
      moments = x.moments;
      shows = shows ∙ x.shows;
    }

-- bytes were written that answer no request
pub extra_on : (v : World) (s : Seated) (line next : Line) (dial dial' : Dial) (pool : Pool) (log : List Exchange) (rest said piece : List ℕ) (all : List Answered)
    → Exchanged v (world s line dial pool) log rest said all → next.left ≡ line.left → next.written ≡ append_known line.written piece → dial'.shows ≡ dial.shows
    → Exchanged v (world s next dial' pool) log rest (said ++ piece) all
extra_on v s line next dial dial' pool log rest said piece all x left written shows =
    record {
      bytes = x.bytes;
      read = x.read ∙ ap (prepend_known x.bytes) (sym left);
      requests = x.requests;
      closing = x.closing;
      few = x.few;
      written = append_twice v.line.written line.written next.written said piece x.written written;
      log = x.log;
      follow = x.follow;
      made = x.made;
      tokens = x.tokens;
      words = x.words;
      moments = x.moments;
      shows = shows ∙ x.shows;
    }
