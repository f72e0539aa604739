-- What a seat knows between its calls, and what a call does to it.
use Rattle.std.proofs.Common.{◌≡◌, ℕ, ◌+◌, false, List, [], ◌∷◌, ◌++◌, length, Result, Ok, Err, IfOk, OnErr, refl, sym, ap, ◌∙◌, subst, arith}
use Rattle.atomic_table.specs.Seated.{TableId}
use Rattle.site_history.specs.declared.acts.Act.{Act}
use Rattle.site_history.specs.declared.replies.Reply.{Reply}
use Rattle.site_history.specs.declared.replies.Reply.TheVariants.{Joined, Revised, Posted, LoggedIn, LoggedOut, NoSession, NoSuchAuthor, BadName, NameTaken, AccountsFull, NoSuchAccount, SelfCert, NoSuchLevel, Same, CertsFull, NotSeed, LastSeed, LevelsFall, NoSuchArticle, LongText, WrongPassword, TokenTaken, SessionsFull, Denied, NotSteward, Fault}
use Rattle.site_history.specs.Answers.{entry_of}
use Rattle.site_history.specs.Histories.{Entry, History, places, with_entry}
use Rattle.site_history.specs.Legal.{IsLegal}
use Rattle.site_history.proofs.Growing.{places-add}
use Rattle.turn_book.specs.Seats.{Seated, Adds, Looks, StartsWith, caller_of, made_by}
use Rattle.turn_book.specs.inner.Known.{Known, knows, Later, IsIdle}
use Rattle.turn_book.specs.inner.Turns.{newcomer}
use Rattle.turn_book.proofs.Keeps.{starts_more}
use Rattle.turn_book.proofs.Places.{made-opened, made-own, made-other}

-- who acts made the entry, whatever the reply
pub entry_caller : (caller : ℕ) (act : Act) (reply : Reply) (moment : ℕ) → caller_of (entry_of caller act reply moment) ≡ caller
entry_caller caller act (Joined account) moment = refl
entry_caller caller act (Revised revision) moment = refl
entry_caller caller act (Posted kind number) moment = refl
entry_caller caller act (LoggedIn account) moment = refl
entry_caller caller act LoggedOut moment = refl
entry_caller caller act NoSession moment = refl
entry_caller caller act NoSuchAuthor moment = refl
entry_caller caller act BadName moment = refl
entry_caller caller act (NameTaken number) moment = refl
entry_caller caller act AccountsFull moment = refl
entry_caller caller act NoSuchAccount moment = refl
entry_caller caller act SelfCert moment = refl
entry_caller caller act (NoSuchLevel levels) moment = refl
entry_caller caller act Same moment = refl
entry_caller caller act CertsFull moment = refl
entry_caller caller act NotSeed moment = refl
entry_caller caller act LastSeed moment = refl
entry_caller caller act (LevelsFall levels) moment = refl
entry_caller caller act NoSuchArticle moment = refl
entry_caller caller act (LongText size) moment = refl
entry_caller caller act WrongPassword moment = refl
entry_caller caller act TokenTaken moment = refl
entry_caller caller act SessionsFull moment = refl
entry_caller caller act (Denied held needed) moment = refl
entry_caller caller act NotSteward moment = refl
entry_caller caller act Fault moment = refl

pub newcomer_idle : (h : History) → IsLegal h → IsIdle (newcomer h)
newcomer_idle h legal = record {
  some_number = omega arith;
  small = omega arith;
  off = refl;
  legal = legal;
  grown = omega arith;
  unborne = λ n _ _. made-opened n h;
}

pub looks_idle : (v : Known) (h : History) → IsIdle v → Later v h → IsIdle (knows h v.base v.low v.high false)
looks_idle v h is l = record { some_number = is.some_number; small = is.small; off = refl; legal = l.legal; grown = l.grown; unborne = l.unborne }

adds_idle : (v : Known) (h next : History) (e : Entry) → IsIdle v → Later v h → next ≡ with_entry h e → caller_of e ≡ v.low → IsLegal next → IsIdle (knows next v.base v.low v.high false)
adds_idle v h next e is l grows by legal = record {
  some_number = is.some_number;
  small = is.small;
  off = refl;
  legal = legal;
  grown = let a = l.grown in omega (arith, ap places grows, places-add h e);
  unborne = λ n above below. ap (made_by v.base n) grows ∙ (made-other v.base n h e (λ z. let a : v.low ≡ n = sym by ∙ z in absurd (omega arith)) ∙ l.unborne n above below);
}

adds_mine : (v : Known) (h next : History) (e : Entry) → Later v h → next ≡ with_entry h e → caller_of e ≡ v.low → made_by v.base v.low next ≡ made_by v.base v.low v.seen ++ places h ∷ []
adds_mine v h next e l grows by = ap (made_by v.base v.low) grows ∙ (made-own v.base v.low h e l.grown by ∙ ap (λ (ps : List ℕ). ps ++ places h ∷ []) l.mine)

module _ {C : Type 0} where
  -- a seat's numbers are those that it knows, it holds nothing, is between its calls, and has the length of what it has seen
  abbrev pub IsAtRest : ℕ → ℕ → ℕ → Known × List C → Type 0
  IsAtRest low high entries m = (low ≡ m.0.low) × (high ≡ m.0.high) × (m.1 ≡ []) × IsIdle m.0 × (entries ≡ places m.0.seen)

  -- the seat after a call that added an entry
  pub adds_rest : (low high entries : ℕ) (m : Known × List C) (v : Known) (h next : History) (e : Entry) → m ≡ (knows next v.base v.low v.high false, []) → low ≡ v.low → high ≡ v.high → IsIdle v
      → Later v h → next ≡ with_entry h e → caller_of e ≡ v.low → IsLegal next → entries ≡ places next → IsAtRest low high entries m
  adds_rest low high entries m v h next e is low_is high_is idle l grows by legal long =
      subst (IsAtRest low high entries) (sym is) (low_is, high_is, refl, adds_idle v h next e idle l grows by legal, long)

  -- the seat after a call that only looked
  pub looks_rest : (low high entries : ℕ) (m : Known × List C) (v : Known) (h : History) → m ≡ (knows h v.base v.low v.high false, []) → low ≡ v.low → high ≡ v.high → IsIdle v → Later v h → entries ≡ places h
      → IsAtRest low high entries m
  looks_rest low high entries m v h is low_is high_is idle l long = subst (IsAtRest low high entries) (sym is) (low_is, high_is, refl, looks_idle v h idle l, long)

  pub adds_seat : (site site' : TableId) (id id' low high : ℕ) (m : Known × List C) (v : Known) (h next : History) (e : Entry) → site' ≡ site → id' ≡ id → m ≡ (knows next v.base v.low v.high false, []) → low ≡ v.low
      → Later v h → next ≡ with_entry h e → caller_of e ≡ v.low → IsLegal next
      → Adds (record { site = site; id = id; seen = v.seen; base = v.base; low = low; high = high }) h e (record { site = site'; id = id'; seen = m.0.seen; base = m.0.base; low = low; high = high })
  adds_seat site site' id id' low high m v h next e same_site same_id is low_is l grows by legal =
      subst (λ (m : Known × List C). Adds (record { site = site; id = id; seen = v.seen; base = v.base; low = low; high = high }) h e (record { site = site'; id = id'; seen = m.0.seen; base = m.0.base; low = low; high = high })) (sym is) (record {
        same = record { site = same_site; id = same_id; base = refl; low = refl; high = refl };
        legal = legal;
        begins = l.begins;
        ends = grows;
        one_made = subst (λ (n : ℕ). made_by v.base n next ≡ made_by v.base n v.seen ++ places h ∷ []) (sym low_is) (adds_mine v h next e l grows by);
      })

-- After a call that adds an entry or only looks, a seat has seen a history that begins with what it had seen.
pub adds_begins : (s t : Seated) (before : History) (e : Entry) → Adds s before e t → StartsWith t.seen s.seen
adds_begins s t before e is = subst (λ (h : History). StartsWith h s.seen) (sym is.ends) (starts_more before s.seen e is.begins)

pub goes_on : {A B : Type 0} (P : History → A → Type 0) (result : Result A B) (s t : Seated) (entry : History → A → Entry)
    → IfOk result (λ a. (before : History) × P before a × Adds s before (entry before a) t) → OnErr result (Looks s t) → (t.site ≡ s.site) × StartsWith t.seen s.seen
goes_on P (Ok a) s t entry (before, because, is) none = (is.same.site, adds_begins s t before (entry before a) is)
goes_on P (Err fault) s t entry none is = (is.same.site, is.begins)
