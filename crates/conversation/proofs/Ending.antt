-- How a conversation goes on after a request, or ends.
use Rattle.std.proofs.Common.{ℕ, ◌≡◌, ◌≢◌, ◌-◌, ◌<◌, map, List, [], ◌∷◌, ◌++◌, length, take, drop, Option, Some, None, true, false, refl, sym, ap, ◌∙◌, arith, subst, inl, inr, length-drop, append_assoc}
use Rattle.std.specs.Prelude.{Contains, option_to_list, slice_index_or}
use Rattle.std.specs.Io.KnownBytes.{append_known, IsAtEnd}
use Rattle.std.proofs.lemmas.List.{append-nil, take-append-drop, length-map}
use Rattle.outside.specs.Causes.{one_more}
use Rattle.outside.proofs.Known.{append_known-nil, prepend_known-nil}
use Rattle.http_requests.specs.declared.requests.Request.{Request}
use Rattle.http_requests.specs.declared.next.Next.TheVariants.{Whole, NeedMore, Bad}
use Rattle.http_requests.specs.Laws.{IsRefusal}
use Rattle.http_requests.specs.Requests.{IsRequest}
use Rattle.http_pages.specs.Fixed.{fixed_response, fixed_statuses}
use Rattle.http_pages.specs.Responses.{bytes_of}
use Rattle.outside_serving.specs.Clocks.{Dial, IsShown}
use Rattle.outside_serving.specs.Links.{Line, Put}
use Rattle.outside_serving.specs.Words.{ToldWords, Missed, Pool, after_draws}
use Rattle.trust_types.specs.Kept.{IsMoment}
use Rattle.site_history.specs.Legal.{IsLegal}
use Rattle.turn_book.specs.Seats.{Seated, Looks, mine}
use Rattle.turn_book.proofs.Keeps.{starts_self}
use Rattle.exchanges.specs.declared.logs.Exchange.{Exchange}
use Rattle.exchanges.specs.declared.logs.Kind.{Kind}
use Rattle.exchanges.specs.declared.logs.TheConstants.{MOST_EXCHANGES}
use Rattle.exchanges.specs.Asked.{is_login}
use Rattle.exchanges.specs.Answering.{AnswersTo}
use Rattle.exchanges.specs.Exchanges.{Content, Answered, AreResponses, answered, drawn, logged}
use Rattle.exchanges.proofs.Following.{responses_next, flat_next}
use Rattle.conversation.specs.declared.linking.Why.{Why}
use Rattle.conversation.specs.declared.linking.Why.TheVariants as why
use Rattle.conversation.specs.Ends.{World, Each, IsOpen, IsPartOf, IsAtItsEnd, NeedsMoment, NeedsToken, StaysOpen, world}
use Rattle.conversation.specs.Conversations.{AreWords, Exchanged}
use Rattle.conversation.specs.inner.Hearing.{Delivers, DrawnFor, Reads, Stuck}
use Rattle.conversation.specs.inner.Talking.{Ended, Goes, Grows, Talking}
use Rattle.conversation.proofs.Talks.{Draws, answered_on, drawn_faults, drawn_so, drew_on, each_next, extra_on, grows_twice, has_token, looked_on, looks_grows, reads_on}

few : (all : List Answered) (log : List Exchange) → log ≡ map logged all → length log < MOST_EXCHANGES → length all < MOST_EXCHANGES
few all log e l = subst (λ (n : ℕ). n < MOST_EXCHANGES) (ap length e ∙ length-map all logged) l

-- some of a piece was written behind what was said
part : (said piece whole : List ℕ) (n : ℕ) → n < length piece → whole ≡ said ++ piece → IsPartOf (said ++ take n piece) whole
part said piece whole n short e = (
  drop n piece,
  (λ none. let long : length (drop n piece) ≡ length piece - n = length-drop n piece in omega (arith, ap length none)),
  e ∙ (ap (λ (z : List ℕ). said ++ z) (sym (take-append-drop n piece)) ∙ sym (append_assoc said (take n piece) (drop n piece))),
)

module _ (v : World) (s : Seated) (line : Line) (dial : Dial) (pool : Pool) (log : List Exchange) (rest : List ℕ) (k : Talking v (world s line dial pool) log rest) where
  open_so : length log < MOST_EXCHANGES → IsOpen k.said k.all
  open_so l = record { responses = k.responses; stays = k.stays; few = few k.all log k.exchanged.log l }

  -- the clock failed
  pub clock_failed : (dial' : Dial) → NeedsMoment rest → length log < MOST_EXCHANGES → dial'.shows ≡ dial.shows → dial'.faults ≡ one_more dial.faults → Ended v (world s line dial' pool) log why.ClockFault
  clock_failed dial' needs l shows cause = record {
    grows = k.grows;
    conversed = record {
      rest = rest;
      said = k.said;
      all = k.all;
      exchanged = looked_on v s s line dial dial' pool pool log rest k.said k.all k.exchanged (starts_self s.seen) refl shows;
      causes = record { link = k.link; clock = cause ∙ ap one_more k.clock; entropy = k.entropy };
      ends = (needs, record { is_open = open_so l; ends = k.ends });
      draws = k.draws;
    };
  }

  -- the source of words failed
  pub entropy_failed : (dial' : Dial) (pool' : Pool) → NeedsToken rest → length log < MOST_EXCHANGES → dial'.shows ≡ dial.shows → dial'.faults ≡ dial.faults → Missed pool pool' → Ended v (world s line dial' pool') log why.EntropyFault
  entropy_failed dial' pool' needs l shows same missed = record {
    grows = k.grows;
    conversed = record {
      rest = rest;
      said = k.said;
      all = k.all;
      exchanged = looked_on v s s line dial dial' pool pool' log rest k.said k.all k.exchanged (starts_self s.seen) refl shows;
      causes = record { link = k.link; clock = same ∙ k.clock; entropy = missed.faults ∙ ap one_more k.entropy };
      ends = (needs, record { is_open = open_so l; ends = k.ends });
      draws = missed.words ∙ k.draws;
    };
  }

  -- memory ran out before there was an answer
  pub wanted : (t : Seated) (dial' : Dial) (pool' : Pool) (q : Request) (used : ℕ) (token : Option (List ℕ)) → IsRequest rest (Whole q used) → Looks s t → dial'.shows ≡ dial.shows → dial'.faults ≡ dial.faults → DrawnFor (is_login q.route) pool pool' token → Ended v (world t line dial' pool') log why.NoMemory
  wanted t dial' pool' q used token is looks shows same w = record {
    grows = grows_twice v.seat s t k.grows (looks_grows s t looks);
    conversed = record {
      rest = rest;
      said = k.said;
      all = k.all;
      exchanged = looked_on v s t line dial dial' pool pool' log rest k.said k.all k.exchanged looks.begins looks.none_made shows;
      causes = record { link = k.link; clock = same ∙ k.clock; entropy = drawn_faults (is_login q.route) pool pool' token w ∙ k.entropy };
      ends = (k.ends, inl k.responses);
      draws = elim (drawn_so v.pool.words (is_login q.route) pool pool' (drawn k.all) token k.draws k.exchanged.words w) [
        | inl none ↦ inl none
        | inr one ↦ inr ((q, used, is, one.0), one.1)
      ];
    };
  }

  -- memory ran out before anything was answered, or for the page of what is no request
  pub wanted_here : (dial' : Dial) → dial'.shows ≡ dial.shows → dial'.faults ≡ dial.faults → Ended v (world s line dial' pool) log why.NoMemory
  wanted_here dial' shows same = record {
    grows = k.grows;
    conversed = record {
      rest = rest;
      said = k.said;
      all = k.all;
      exchanged = looked_on v s s line dial dial' pool pool log rest k.said k.all k.exchanged (starts_self s.seen) refl shows;
      causes = record { link = k.link; clock = same ∙ k.clock; entropy = k.entropy };
      ends = (k.ends, inl k.responses);
      draws = inl k.draws;
    };
  }

  -- a write failed in the page of what is no request
  pub stuck_bad : (next : Line) (dial' : Dial) (status moment : ℕ) → dial'.shows ≡ dial.shows → dial'.faults ≡ dial.faults → IsMoment moment → IsShown dial.shows moment → IsRequest rest (Bad status)
      → Stuck line next (bytes_of (fixed_response status) true false moment) → Ended v (world s next dial' pool) log why.WriteFault
  stuck_bad next dial' status moment shows same m shown is e =
      let page = bytes_of (fixed_response status) true false moment in
      record {
        grows = k.grows;
        conversed = record {
          rest = rest;
          said = k.said ++ take e.said page;
          all = k.all;
          exchanged = extra_on v s line next dial dial' pool log rest k.said (take e.said page) k.all k.exchanged e.left e.written shows;
          causes = record { link = e.faults ∙ ap one_more k.link; clock = same ∙ k.clock; entropy = k.entropy };
          ends = (
            e.ends ∙ k.ends,
            (
              k.said ++ page,
              inr (status, k.said, page, is, k.responses, (moment, m, subst (λ (o : Option ℕ). IsShown o moment) k.exchanged.shows shown, refl), refl),
              part k.said page (k.said ++ page) e.said e.short refl,
            ),
          );
          draws = k.draws;
        };
      }

  -- that page was written
  pub said_bad : (next : Line) (dial' : Dial) (status moment : ℕ) → length log < MOST_EXCHANGES → dial'.shows ≡ dial.shows → dial'.faults ≡ dial.faults → IsMoment moment → IsShown dial.shows moment → IsRequest rest (Bad status)
      → Put line next (bytes_of (fixed_response status) true false moment) → Ended v (world s next dial' pool) log (why.Bad status)
  said_bad next dial' status moment l shows same m shown is e =
      let page = bytes_of (fixed_response status) true false moment in
      record {
        grows = k.grows;
        conversed = record {
          rest = rest;
          said = k.said ++ page;
          all = k.all;
          exchanged = extra_on v s line next dial dial' pool log rest k.said page k.all k.exchanged e.left e.written shows;
          causes = record { link = e.faults ∙ k.link; clock = same ∙ k.clock; entropy = k.entropy };
          ends = (
            is,
            (
              k.said,
              page,
              refl,
              (moment, m, subst (λ (o : Option ℕ). IsShown o moment) k.exchanged.shows shown, refl),
              record { is_open = open_so l; ends = e.ends ∙ k.ends },
            ),
          );
          draws = k.draws;
        };
      }

  -- bytes were read, and the conversation goes on
  pub talk_heard : (next : Line) (more : List ℕ) → Reads line next rest more → next.faults ≡ line.faults → next.ends ≡ line.ends → Talking v (world s next dial pool) log more
  talk_heard next more h faults ends = record {
    said = k.said;
    all = k.all;
    grows = k.grows;
    exchanged = reads_on v s line next dial pool log rest more k.said k.all k.exchanged h;
    responses = k.responses;
    stays = k.stays;
    draws = k.draws;
    ends = ends ∙ k.ends;
    link = faults ∙ k.link;
    clock = k.clock;
    entropy = k.entropy;
  }

  at_end : (next : Line) → length log < MOST_EXCHANGES → IsAtEnd next.left → next.ends ≡ one_more line.ends → IsAtItsEnd v (world s next dial pool) k.said k.all
  at_end next l nothing ends = record { is_open = open_so l; ends = ends ∙ ap one_more k.ends; nothing = nothing }

  -- the input ended between two requests
  pub ended_empty : (next : Line) (more : List ℕ) → Reads line next rest more → length log < MOST_EXCHANGES → IsAtEnd next.left → next.faults ≡ line.faults → next.ends ≡ one_more line.ends → more ≡ []
      → Ended v (world s next dial pool) log why.Closed
  ended_empty next more h l nothing faults ends e = record {
    grows = k.grows;
    conversed = record {
      rest = more;
      said = k.said;
      all = k.all;
      exchanged = reads_on v s line next dial pool log rest more k.said k.all k.exchanged h;
      causes = record { link = faults ∙ k.link; clock = k.clock; entropy = k.entropy };
      ends = inl (e, at_end next l nothing ends);
      draws = k.draws;
    };
  }

  -- the input ended within a request
  pub ended_inside : (next : Line) (more : List ℕ) → Reads line next rest more → length log < MOST_EXCHANGES → IsAtEnd next.left → next.faults ≡ line.faults → next.ends ≡ one_more line.ends → more ≢ [] → IsRequest more NeedMore
      → Ended v (world s next dial pool) log why.CutShort
  ended_inside next more h l nothing faults ends e need = record {
    grows = k.grows;
    conversed = record {
      rest = more;
      said = k.said;
      all = k.all;
      exchanged = reads_on v s line next dial pool log rest more k.said k.all k.exchanged h;
      causes = record { link = faults ∙ k.link; clock = k.clock; entropy = k.entropy };
      ends = (e, need, at_end next l nothing ends);
      draws = k.draws;
    };
  }

  -- a read failed
  pub broken : (next : Line) (more : List ℕ) → Reads line next rest more → length log < MOST_EXCHANGES → next.faults ≡ one_more line.faults → next.ends ≡ line.ends → Ended v (world s next dial pool) log why.ReadFault
  broken next more h l faults ends = record {
    grows = k.grows;
    conversed = record {
      rest = more;
      said = k.said;
      all = k.all;
      exchanged = reads_on v s line next dial pool log rest more k.said k.all k.exchanged h;
      causes = record { link = faults ∙ ap one_more k.link; clock = k.clock; entropy = k.entropy };
      ends = record { is_open = open_so l; ends = ends ∙ k.ends };
      draws = k.draws;
    };
  }

  -- as many were answered as a link may have
  pub limited : length log ≡ MOST_EXCHANGES → Ended v (world s line dial pool) log why.Limit
  limited l = record {
    grows = k.grows;
    conversed = record {
      rest = rest;
      said = k.said;
      all = k.all;
      exchanged = k.exchanged;
      causes = record { link = k.link; clock = k.clock; entropy = k.entropy };
      ends = (sym (length-map k.all logged) ∙ (sym (ap length k.exchanged.log) ∙ l), k.stays, record { responses = k.responses; ends = k.ends });
      draws = k.draws;
    };
  }

-- what is exchanged once this much of a response is written
abbrev Saying : World → Seated → Line → Line → Dial → Pool → List Exchange → List ℕ → List ℕ → List Answered → Type 0
Saying v t line next dial pool log rest said all =
    (piece : List ℕ) → next.left ≡ line.left → next.written ≡ append_known line.written piece → Exchanged v (world t next dial pool) log rest (said ++ piece) all

-- the counts so far, and the words that are left
record Counts (v : World) (line : Line) (dial : Dial) (pool : Pool) (tokens : List (List ℕ)) : Type 0 where
  ends : line.ends ≡ v.line.ends
  link : line.faults ≡ v.line.faults
  clock : dial.faults ≡ v.dial.faults
  entropy : pool.faults ≡ v.pool.faults
  draws : pool.words ≡ after_draws (length tokens) v.pool.words

goes : (v : World) (t : Seated) (line next : Line) (dial : Dial) (pool : Pool) (log : List Exchange) (rest said : List ℕ) (all : List Answered) (a : Answered) (r : Option Why)
    → Grows v.seat t → Saying v t line next dial pool log rest said (all ++ a ∷ []) → AreResponses all said → Each StaysOpen all → Counts v line dial pool (drawn (all ++ a ∷ []))
    → Delivers line next a.request a.token a.content a.moment r
    → Goes v (world t next dial pool) log rest r
goes v t line next dial pool log rest said all a None g say responses stays n (open_, (bytes, sent, put)) = record {
  said = said ++ bytes;
  all = all ++ a ∷ [];
  grows = g;
  exchanged = say bytes put.left put.written;
  responses = responses_next all said a bytes responses sent;
  stays = each_next StaysOpen all a stays open_;
  draws = n.draws;
  ends = put.ends ∙ n.ends;
  link = put.faults ∙ n.link;
  clock = n.clock;
  entropy = n.entropy;
}
goes v t line next dial pool log rest said all a (Some why.Closed) g say responses stays n (closing, (bytes, sent, put)) = record {
  grows = g;
  conversed = record {
    rest = rest;
    said = said ++ bytes;
    all = all ++ a ∷ [];
    exchanged = say bytes put.left put.written;
    causes = record { link = put.faults ∙ n.link; clock = n.clock; entropy = n.entropy };
    ends = inr ((all, a, refl, closing), record { responses = responses_next all said a bytes responses sent; ends = put.ends ∙ n.ends });
    draws = n.draws;
  };
}
goes v t line next dial pool log rest said all a (Some why.WriteFault) g say responses stays n (bytes, sent, stuck) = record {
  grows = g;
  conversed = record {
    rest = rest;
    said = said ++ take stuck.said bytes;
    all = all ++ a ∷ [];
    exchanged = say (take stuck.said bytes) stuck.left stuck.written;
    causes = record { link = stuck.faults ∙ ap one_more n.link; clock = n.clock; entropy = n.entropy };
    ends = (stuck.ends ∙ n.ends, (said ++ bytes, inl (responses_next all said a bytes responses sent), part said bytes (said ++ bytes) stuck.said stuck.short refl));
    draws = n.draws;
  };
}
goes v t line next dial pool log rest said all a (Some why.NoMemory) g say responses stays n same = record {
  grows = g;
  conversed = record {
    rest = rest;
    said = said ++ [];
    all = all ++ a ∷ [];
    exchanged = say [] (ap (λ (l : Line). l.left) same) (ap (λ (l : Line). l.written) same ∙ sym (append_known-nil line.written));
    causes = record { link = ap (λ (l : Line). l.faults) same ∙ n.link; clock = n.clock; entropy = n.entropy };
    ends = (ap (λ (l : Line). l.ends) same ∙ n.ends, inr (all, a, refl, subst (λ (z : List ℕ). AreResponses all z) (sym (append-nil said)) responses));
    draws = inl n.draws;
  };
}
goes v t line next dial pool log rest said all a (Some why.CutShort) g say responses stays n e = absurd e
goes v t line next dial pool log rest said all a (Some why.Limit) g say responses stays n e = absurd e
goes v t line next dial pool log rest said all a (Some (why.Bad status)) g say responses stays n e = absurd e
goes v t line next dial pool log rest said all a (Some why.ReadFault) g say responses stays n e = absurd e
goes v t line next dial pool log rest said all a (Some why.ClockFault) g say responses stays n e = absurd e
goes v t line next dial pool log rest said all a (Some why.EntropyFault) g say responses stays n e = absurd e

-- a request was answered, and the response was written, or not
pub delivered : (v : World) (s t : Seated) (line next : Line) (dial dial' : Dial) (pool pool' : Pool) (log : List Exchange) (rest : List ℕ)
    (q : Request) (used : ℕ) (kind : Kind) (token : Option (List ℕ)) (moment : ℕ) (content : Content) (r : Option Why)
    → Talking v (world s line dial pool) log rest
    → IsRequest rest (Whole q used) → AnswersTo s t q token moment kind content → DrawnFor (is_login q.route) pool pool' token
    → IsMoment moment → IsShown dial.shows moment → dial'.shows ≡ dial.shows → dial'.faults ≡ dial.faults
    → Delivers line next q token content moment r
    → Goes v (world t next dial' pool') (log ++ record { used = used; kind = kind } ∷ []) (drop used rest) r
delivered v s t line next dial dial' pool pool' log rest q used kind token moment content r k is d w m shown shows same e =
    let x = k.exchanged in
    let a = answered q used kind token moment t.seen content in
    let dr : Draws v.pool.words pool pool' (drawn k.all) (option_to_list token) = drew_on v.pool.words (is_login q.route) pool pool' (drawn k.all) token k.draws x.words w in
    let seen : IsShown v.dial.shows moment = subst (λ (o : Option ℕ). IsShown o moment) x.shows shown in
    let g : Grows v.seat t = grows_twice v.seat s t k.grows (record { same = d.same; legal = d.legal; begins = d.begins }) in
    let say : Saying v t line next dial' pool' (log ++ record { used = used; kind = kind } ∷ []) (drop used rest) k.said (k.all ++ a ∷ []) =
    (λ piece left written. answered_on v s t line next dial dial' pool pool' log rest k.said piece k.all q used kind token moment content x k.grows k.stays is d left written m seen shows (has_token (is_login q.route) pool pool' token w) dr.are) in
    let n : Counts v line dial' pool' (drawn (k.all ++ a ∷ [])) = record {
      ends = k.ends;
      link = k.link;
      clock = same ∙ k.clock;
      entropy = dr.faults ∙ k.entropy;
      draws = dr.left ∙ ap (λ (z : List (List ℕ)). after_draws (length z) v.pool.words) (sym (flat_next (λ (b : Answered). option_to_list b.token) k.all a));
    } in
    goes v t line next dial' pool' (log ++ record { used = used; kind = kind } ∷ []) (drop used rest) k.said k.all a r g say k.responses k.stays n e

none_drawn : (words : ToldWords) → words ≡ after_draws 0 words
none_drawn None = refl
none_drawn (Some words) = refl

no_words : (words : ToldWords) → AreWords words []
no_words words k w e = absurd (let no_ : None ≡ Some w = e in cc)

-- nothing was said yet
pub begun : (s : Seated) (line : Line) (dial : Dial) (pool : Pool) → IsLegal s.seen → Talking (world s line dial pool) (world s line dial pool) [] []
begun s line dial pool legal = record {
  said = [];
  all = [];
  grows = record { same = record { site = refl; id = refl; base = refl; low = refl; high = refl }; legal = legal; begins = starts_self s.seen };
  exchanged = record {
    bytes = [];
    read = sym (prepend_known-nil line.left);
    requests = refl;
    closing = tt;
    few = omega arith;
    written = sym (append_known-nil line.written);
    log = refl;
    follow = starts_self s.seen;
    made = sym (append-nil (mine s));
    tokens = tt;
    words = no_words pool.words;
    moments = tt;
    shows = refl;
  };
  responses = refl;
  stays = tt;
  draws = none_drawn pool.words;
  ends = refl;
  link = refl;
  clock = refl;
  entropy = refl;
}

-- nothing happened
pub unbegun : (s : Seated) (line : Line) (dial : Dial) (pool : Pool) → IsLegal s.seen → Ended (world s line dial pool) (world s line dial pool) [] why.NoMemory
unbegun s line dial pool legal = wanted_here (world s line dial pool) s line dial pool [] [] (begun s line dial pool legal) dial refl refl

among : (s a k : ℕ) → k < 7 → slice_index_or fixed_statuses k s ≡ a → s ≡ a → Contains fixed_statuses s
among s a k less at e = (k, less, at ∙ sym e)

-- with what is no request a page is answered
pub is_among : (s : ℕ) → IsRefusal s → Contains fixed_statuses s
is_among s (inl e) = among s 400 1 (omega arith) refl e
is_among s (inr (inl e)) = among s 413 4 (omega arith) refl e
is_among s (inr (inr (inl e))) = among s 431 5 (omega arith) refl e
is_among s (inr (inr (inr e))) = among s 501 6 (omega arith) refl e
