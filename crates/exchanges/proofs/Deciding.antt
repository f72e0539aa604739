-- What each kind of answer is.
use Rattle.std.proofs.Common.{◌≡◌, ◌≢◌, ℕ, ◌+◌, ◌-◌, List, [], ◌∷◌, ◌++◌, length, Option, Some, None, Result, Ok, Err, refl, sym, ap, ◌∙◌, arith}
use Rattle.std.specs.Prelude.{IfOk, OnErr}
use Rattle.std.proofs.lemmas.List.{append-nil}
use Rattle.http_requests.specs.declared.requests.Request.{Request}
use Rattle.http_pages.specs.Rosters.{AsksForRoster}
use Rattle.roster_cell.specs.Caches.{IsCached, number_of}
use Rattle.roster_form.specs.declared.publications.Publication.{Publication}
use Rattle.site_history.specs.declared.acts.Act.{Act}
use Rattle.site_history.specs.declared.queries.Query.{Query}
use Rattle.site_history.specs.declared.replies.Reply.{Reply}
use Rattle.site_history.specs.declared.replies.Refusal.{Refusal}
use Rattle.site_history.specs.declared.replies.Refusal.TheVariants.{NoMemory}
use Rattle.site_history.specs.Answers.{IsReply, Refuses, entry_of}
use Rattle.site_history.specs.Histories.{History, places, publications}
use Rattle.site_history.specs.Legal.{IsLegal}
use Rattle.site_history.specs.Views.{Shown as ShownOf, shown}
use Rattle.site_history.proofs.Growing.{places-add}
use Rattle.turn_book.specs.Seats.{Seated, Adds, Looks, StartsWith, mine}
use Rattle.turn_book.proofs.Keeps.{starts_self}
use Rattle.turn_book.proofs.Seats.{adds_begins}
use Rattle.exchanges.specs.declared.logs.Kind.TheVariants.{Entry, Prefix, Shown, Fixed}
use Rattle.exchanges.specs.Asked.{IsActOf, fixed_status, query_of}
use Rattle.exchanges.specs.Exchanges.{Content, OfAct, OfView, OfRoster, OfStatus, Tells, IsLastOf}
use Rattle.exchanges.specs.declared.answering.Decision.{Decision}
use Rattle.exchanges.specs.Answering.{AnswersTo, CanBeSent, content_of}
use Rattle.exchanges.proofs.Following.{starts_twice}

-- by the entry of an act
pub entered : (s t : Seated) (q : Request) (token : Option (List ℕ)) (m : ℕ) (act : Act) (r : Reply) (before : History) (place : ℕ)
    → IsReply before act r → Adds s before (entry_of s.low act r m) t → fixed_status q ≡ None → IsActOf q token act → place ≡ places t.seen - 1
    → AnswersTo s t q token m (Entry place) (OfAct (Ok r))
entered s t q token m act r before place is_reply a open_ is_act at =
    let e = entry_of s.low act r m in
    let here : place ≡ places before = omega (arith, at, ap places a.ends, places-add before e) in
    record {
      same = a.same;
      legal = a.legal;
      begins = adds_begins s t before e a;
      made = a.one_made ∙ ap (λ (n : ℕ). mine s ++ n ∷ []) (sym here);
      answers = λ used. (open_, record { act = act; reply = r; history = before; is_act = is_act; begins = a.begins; is_reply = is_reply; here = here; seen = a.ends; content = refl });
    }

-- by what the seat has then seen
told : (s t : Seated) (q : Request) (token : Option (List ℕ)) (m long : ℕ) (content : Content) → Looks s t → fixed_status q ≡ None → long ≡ places t.seen → Tells q token t.seen content
    → AnswersTo s t q token m (Prefix long) content
told s t q token m long content l open_ at tells = record {
  same = l.same;
  legal = l.legal;
  begins = l.begins;
  made = l.none_made ∙ sym (append-nil (mine s));
  answers = λ used. (open_, l.begins, at, tells);
}

pub refused : (s t : Seated) (q : Request) (token : Option (List ℕ)) (m long : ℕ) (act : Act) (why : Refusal) → Looks s t → Refuses t.seen act why → why ≢ NoMemory → fixed_status q ≡ None → IsActOf q token act → long ≡ places t.seen
    → AnswersTo s t q token m (Prefix long) (OfAct (Err why))
refused s t q token m long act why l refuses other open_ is_act at = told s t q token m long (OfAct (Err why)) l open_ at (act, why, refl, other, is_act, refuses)

pub viewed : (s t : Seated) (q : Request) (token : Option (List ℕ)) (m long : ℕ) (query : Query) (view : ShownOf) → Looks s t → view ≡ shown t.seen query → fixed_status q ≡ None → query_of q.route ≡ Some query → long ≡ places t.seen
    → AnswersTo s t q token m (Prefix long) (OfView view)
viewed s t q token m long query view l shows open_ asks at = told s t q token m long (OfView view) l open_ at (query, asks, shows)

none_of : {X : Type 0} (l : List X) → 0 ≡ length l → l ≡ []
none_of [] is = refl
none_of (x ∷ l) is = absurd (omega arith)

last_of : (h : History) (held : Option Publication) → IsCached h held → number_of held ≡ length (publications h) → IsLastOf h held
last_of h None is number = none_of (publications h) number
last_of h (Some p) is number = (number, is)

-- by the last publication of that
pub listed : (s t : Seated) (q : Request) (token : Option (List ℕ)) (m number : ℕ) (held : Option Publication) → Looks s t → IsCached t.seen held → number_of held ≡ length (publications t.seen) → AsksForRoster q.route → number ≡ number_of held
    → AnswersTo s t q token m (Shown number) (OfRoster held)
listed s t q token m number held l cached current asks at = record {
  same = l.same;
  legal = l.legal;
  begins = l.begins;
  made = l.none_made ∙ sym (append-nil (mine s));
  answers = λ used. (asks, l.begins, at ∙ current, (held, last_of t.seen held cached current, refl));
}

-- by nothing of the site
pub fixed : (s : Seated) (q : Request) (token : Option (List ℕ)) (m status : ℕ) → IsLegal s.seen → fixed_status q ≡ Some status → AnswersTo s s q token m Fixed (OfStatus status)
fixed s q token m status legal is = record {
  same = record { site = refl; id = refl; base = refl; low = refl; high = refl };
  legal = legal;
  begins = starts_self s.seen;
  made = sym (append-nil (mine s));
  answers = λ used. (status, is, starts_self s.seen, refl);
}

-- two looks, one after the other
pub looks_twice : (s t u : Seated) → Looks s t → Looks t u → Looks s u
looks_twice s t u a b = record {
  same = record { site = b.same.site ∙ a.same.site; id = b.same.id ∙ a.same.id; base = b.same.base ∙ a.same.base; low = b.same.low ∙ a.same.low; high = b.same.high ∙ a.same.high };
  legal = b.legal;
  begins = starts_twice u.seen t.seen s.seen b.begins a.begins;
  none_made = b.none_made ∙ a.none_made;
}

-- what the seat has then seen begins with what it had seen
pub goes : {E : Type 0} (r : Result Decision E) (s t : Seated) (q : Request) (token : Option (List ℕ)) (m : ℕ) (held : Option Publication)
    → IfOk r (λ d. AnswersTo s t q token m d.kind (content_of d.page held) × CanBeSent q d.page) → OnErr r (Looks s t) → StartsWith t.seen s.seen
goes (Ok d) s t q token m held answers looks = answers.0.begins
goes (Err e) s t q token m held answers looks = looks.begins
