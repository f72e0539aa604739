-- Each step keeps the rule.
use Rattle.std.proofs.Common.{◌≡◌, ◌≢◌, ◌⊎◌, ℕ, zero, suc, ◌+◌, ◌*◌, ◌<◌, ◌≤◌, eqb, Bool, true, false, true≢false, List, [], ◌∷◌, ◌++◌, length, get_or, set, Option, Some, None, refl, sym, ap, ◌∙◌, subst, ⊎_elim, inl, inr, arith, le_refl, length-append, append_assoc, eq-eqb, ne_eqb}
use Rattle.std.proofs.lemmas.List.{append-nil}
use mathlib.Core.Logic.{dite}
use mathlib.Core.Option.{some, none, some-injective, some-ne-none}
use mathlib.Core.Option as maybe
use native.Mathlib.Decide.{ℕ_discrete}
use lib.ListN.{get_elem?}
use lib.Seq.{set-get_or}
use prog.Atomic.{either}
use Rattle.atomic_table.specs.Table.{State, Me, step, Act, keeps, takes, gives, rest, put_back, stepped, Allows, Splits, Final, Seen, opening}
use Rattle.atomic_table.proofs.Lists.{at_set, set_else, set_again, at_longer}
use Rattle.outside.specs.KeptRows.{ToldRows}
use Rattle.site_core.specs.Books.{Kept, IsSound}
use Rattle.site_history.specs.Histories.{Entry, History, places, publications, with_entry}
use Rattle.site_history.specs.Legal.{IsLegal}
use Rattle.turn_book.specs.Seats.{StartsWith, caller_of, made_by}
use Rattle.turn_book.specs.inner.Known.{Known, knows, seeing, turning, middle, lower, upper, front, Unborne, Later, no_history}
use Rattle.turn_book.specs.inner.Turns.{Fits, Keeps, newcomer, Sat, took, stored, released, looked}
use Rattle.turn_book.proofs.Places.{made-opened, made-own, made-other, set_at, snoc_at}

pub starts_self : (h : History) → StartsWith h h
starts_self h = ([], ap (λ (es : List Entry). record h { entries = es }) (sym (append-nil h.entries)))

pub starts_more : (h g : History) (e : Entry) → StartsWith h g → StartsWith (with_entry h e) g
starts_more h g e s = (s.0 ++ e ∷ [], ap (λ (x : History). with_entry x e) s.1 ∙ ap (λ (es : List Entry). record g { entries = es }) (append_assoc g.entries s.0 (e ∷ [])))

pub starts_length : (h g : History) → StartsWith h g → places g ≤ places h
starts_length h g s = omega (arith, ap places s.1, length-append g.entries s.0)

module _ {K : Type 0} (rows : K → ToldRows) (faults : K → ℕ) (key : Kept K) where
  abbrev Slot : Type 0
  Slot = Option (Kept K)

  abbrev Seated : Type 0
  Seated = Sat rows faults

  -- the history of the book in the slot that was taken last
  abbrev in_slot : Slot → History
  in_slot None = no_history
  in_slot (Some b) = b.history

  abbrev held : List (ℕ × Slot) → History
  held [] = no_history
  held (c ∷ cs) = in_slot c.1

  abbrev St : Type 0
  St = State Slot Known

  abbrev Homes : Type 0
  Homes = List (maybe.Option Slot)

  abbrev Rule : St → Type 0
  Rule = Keeps rows faults key

  abbrev base : ℕ
  base = places key.history

  -- two views with a number in common are one
  same_seat : (s : St) (k : Rule s) (i j : ℕ) (v w : Known) → get_elem? s.views i ≡ some v → get_elem? s.views j ≡ some w → i ≢ j → v.low ≢ w.low
  same_seat s k i j v w at at' ne is = let a = (k.each i v at).some_number in let b = (k.each j w at').some_number in
      ⊎_elim (λ (t : v.high ≤ w.low). absurd (omega arith)) (λ (t : w.high ≤ v.low). absurd (omega arith)) (k.apart i j v w at at' ne)

  -- a step of one seat, which keeps its least number and gains none
  moves : (s : St) (k : Rule s) (id : ℕ) (v w : Known) (present : History) (turn : ℕ) (home : maybe.Option Slot) (ws : List ℕ) (hs : Homes) → get_elem? s.views id ≡ some v
      → w.low ≡ v.low → w.high ≤ v.high → ws ≡ front present ∷ turn ∷ [] → hs ≡ home ∷ [] → (turn ≡ 0 → (b : Kept K) × (home ≡ some (Some b)) × (b.history ≡ present) × IsSound rows faults b) → (turn ≢ 0 → home ≡ none)
      → (turn ≢ 0 → (w.turn ≡ true) ⊎ ((turn ≡ k.turn) × (w.turn ≡ v.turn))) → IsLegal present → Fits base present turn w
      → ((j : ℕ) (u : Known) → j ≢ id → get_elem? s.views j ≡ some u → Fits base present turn u) → ((n : ℕ) → n ≢ v.low → made_by base n present ≡ made_by base n k.present)
      → Rule record { words = ws; homes = hs; views = set s.views id w }
  moves s k id v w present turn home ws hs at lo hi words homes at_home away named legal fits others same = record {
    present = present;
    turn = turn;
    home = home;
    words = words;
    homes = homes;
    at_home = at_home;
    away = away;
    named = λ held. ⊎_elim (λ (on : w.turn ≡ true). (id, w, here, on)) (λ (t : (turn ≡ k.turn) × (w.turn ≡ v.turn)). still (λ z. held (t.0 ∙ z)) t.1) (named held);
    legal = legal;
    each = λ j u e. ⊎_elim (λ (t : (j ≡ id) × (w ≡ u)). subst (λ (z : Known). Fits base present turn z) t.1 fits) (λ (t : (j ≢ id) × (get_elem? s.views j ≡ some u)). others j u t.0 t.1) (at_set s.views id j w u e);
    apart = λ i j u x e f ne. let a = was i u e in let b = was j x f in let al = a.2 in let ah = a.3 in let bl = b.2 in let bh = b.3 in
        ⊎_elim (λ (t : a.0.high ≤ b.0.low). inl (omega arith)) (λ (t : b.0.high ≤ a.0.low). inr (omega arith)) (k.apart i j a.0 b.0 a.1 b.1 ne);
    strangers = λ n none_has. same n (λ e. none_has id w here (lo ∙ sym e)) ∙ k.strangers n (λ j u e. dite (ℕ_discrete j id)
        (λ is. λ l. none_has id w here (lo ∙ (ap (λ (z : Known). z.low) (some-injective v u (sym at ∙ (ap (get_elem? s.views) (sym is) ∙ e))) ∙ l)))
        (λ other. none_has j u (set_else s.views id j w other ∙ e)));
  }
    where
      here : get_elem? (set s.views id w) id ≡ some w
      here = set_at s.views id v w at

      was : (j : ℕ) (u : Known) → get_elem? (set s.views id w) j ≡ some u → (x : Known) × (get_elem? s.views j ≡ some x) × (x.low ≡ u.low) × (u.high ≤ x.high)
      was j u e = ⊎_elim (λ (t : (j ≡ id) × (w ≡ u)). (v, ap (get_elem? s.views) t.0 ∙ at, sym lo ∙ ap (λ (z : Known). z.low) t.1, subst (λ (z : Known). z.high ≤ v.high) t.1 hi))
          (λ (t : (j ≢ id) × (get_elem? s.views j ≡ some u)). (u, t.1, refl, le_refl u.high)) (at_set s.views id j w u e)

      still : k.turn ≢ 0 → w.turn ≡ v.turn → (j : ℕ) × (u : Known) × (get_elem? (set s.views id w) j ≡ some u) × (u.turn ≡ true)
      still held on = let t = k.named held in dite (ℕ_discrete t.0 id)
          (λ is. (id, w, here, on ∙ (ap (λ (z : Known). z.turn) (some-injective v t.1 (sym at ∙ (ap (get_elem? s.views) (sym is) ∙ t.2))) ∙ t.3)))
          (λ other. (t.0, t.1, set_else s.views id t.0 w other ∙ t.2, t.3))

  -- a step that changes nothing
  unmoved : (s : St) (k : Rule s) (i id : ℕ) (me : Seated) → get_elem? s.views id ≡ some me.0 → Rule (stepped s i (get_or s.words i 0) id me.1 me.0 keeps)
  unmoved s k i id me at = subst (λ (z : List ℕ × List Known). Rule record { words = z.0; homes = s.homes; views = z.1 }) (λ c. (sym (set-get_or s.words i 0) c, sym (set_again s.views id me.0 at) c)) k

  -- what a seat knows once it has seen the present history
  up_to_date : (s : St) (k : Rule s) (id : ℕ) (v : Known) (t : Bool) (turn : ℕ) → get_elem? s.views id ≡ some v → (t ≡ true → turn ≡ v.low + 1) → Fits base k.present turn (turning (seeing v k.present) t)
  up_to_date s k id v t turn at on = let f = k.each id v at in record {
    base_is = f.base_is;
    begins = starts_self k.present;
    grown = let a = starts_length k.present v.seen f.begins in let b = f.grown in omega arith;
    some_number = f.some_number;
    small = f.small;
    holder = λ is. (on is, refl);
    own = refl;
  }

  unborne : (s : St) (k : Rule s) (id : ℕ) (v : Known) → get_elem? s.views id ≡ some v → Unborne base v.low v.high k.present
  unborne s k id v at n above below = k.strangers n (λ j u e is. let b = (k.each j u e).some_number in dite (ℕ_discrete j id)
      (λ same. let l : u.low ≡ v.low = ap (λ (z : Known). z.low) (some-injective u v (sym e ∙ (ap (get_elem? s.views) same ∙ at))) in absurd (omega arith))
      (λ other. ⊎_elim (λ (t : u.high ≤ v.low). absurd (omega arith)) (λ (t : v.high ≤ u.low). absurd (omega arith)) (k.apart j id u v e at other)))

  later : (s : St) (k : Rule s) (id : ℕ) (v : Known) → get_elem? s.views id ≡ some v → Later v k.present
  later s k id v at = let f = k.each id v at in let is = f.base_is in record {
    legal = k.legal;
    begins = f.begins;
    grown = let a = starts_length k.present v.seen f.begins in let b = f.grown in omega arith;
    mine = subst (λ (z : ℕ). made_by z v.low k.present ≡ made_by z v.low v.seen) (sym is) f.own;
    unborne = subst (λ (z : ℕ). Unborne z v.low v.high k.present) (sym is) (unborne s k id v at);
  }

  pub opens : (n : ℕ) → IsSound rows faults key → n ≡ front key.history → Rule (opening (n ∷ 0 ∷ []) (Some key ∷ []) (newcomer key.history))
  opens n sound is = record {
    present = key.history;
    turn = 0;
    home = some (Some key);
    words = ap (λ (z : ℕ). z ∷ 0 ∷ []) is;
    homes = refl;
    at_home = λ _. (key, refl, refl, sound);
    away = λ no. absurd (no refl);
    named = λ no. absurd (no refl);
    legal = sound.legal;
    each = each;
    apart = apart;
    strangers = λ m _. made-opened m key.history;
  }
    where
      first : Fits base key.history 0 (newcomer key.history)
      first = record { base_is = refl; begins = starts_self key.history; grown = omega arith; some_number = omega arith; small = omega arith; holder = λ on. absurd (true≢false (sym on)); own = refl }

      each : (j : ℕ) (u : Known) → get_elem? (newcomer key.history ∷ []) j ≡ some u → Fits base key.history 0 u
      each zero u e = subst (Fits base key.history 0) (some-injective (newcomer key.history) u e) first
      each (suc j) u e = absurd (some-ne-none u (sym e))

      apart : (i j : ℕ) (v w : Known) → get_elem? (newcomer key.history ∷ []) i ≡ some v → get_elem? (newcomer key.history ∷ []) j ≡ some w → i ≢ j → (v.high ≤ w.low) ⊎ (w.high ≤ v.low)
      apart zero zero v w e f ne = absurd (ne refl)
      apart (suc i) j v w e f ne = absurd (some-ne-none v (sym e))
      apart zero (suc j) v w e f ne = absurd (some-ne-none w (sym f))

  -- what a view that stays knows, where the history stays
  stays : (present : History) (turn turn' : ℕ) (u : Known) → Fits base present turn u → (u.turn ≡ true → (turn' ≡ u.low + 1) × (u.seen ≡ present)) → Fits base present turn' u
  stays present turn turn' u g holder = record {
    base_is = g.base_is;
    begins = g.begins;
    grown = g.grown;
    some_number = g.some_number;
    small = g.small;
    holder = holder;
    own = g.own;
  }

  pub looking : (slots id : ℕ) (me : Seated) → me.0.turn ≡ false → Allows Rule slots id me 0 (λ x. x) (looked rows faults (step slots 0 0 0 none) me)
  looking slots id me off s k _ at _ = let w = seeing me.0 k.present in
      let no : me.0.turn ≡ true → k.turn ≡ me.0.low + 1 = λ on. absurd (true≢false (sym on ∙ off)) in (
        w,
        keeps,
        tt,
        moves s k id me.0 w k.present k.turn k.home (set s.words 0 (get_or s.words 0 0)) s.homes at refl (le_refl me.0.high) (set-get_or s.words 0 0 ∙ k.words) k.homes k.at_home k.away (λ _. inr (refl, refl)) k.legal
            (up_to_date s k id me.0 me.0.turn k.turn at no) (λ j u _ e. k.each j u e) (λ n _. refl),
        (k.present, later s k id me.0 at, ap (λ (ws : List ℕ). get_or ws 0 0) k.words, refl),
      )

  pub taking : (slots id n : ℕ) (me : Seated) → n ≡ me.0.low + 1 → Allows Rule slots id me 1 (λ x. either (eqb x 0) n x) (took rows faults (step slots 1 0 n none) me)
  taking slots id n me is s k _ at _ = let x : ℕ = get_or s.words 1 0 in let read : x ≡ k.turn = ap (λ (ws : List ℕ). get_or ws 1 0) k.words in dite (ℕ_discrete x 0)
      (λ free. let rests : k.turn ≡ 0 = sym read ∙ free in let home = k.at_home rests in let b = home.0 in let w = turning (seeing me.0 k.present) true in
      let l : Later me.0 b.history = subst (Later me.0) (sym home.2) (later s k id me.0 at) in (
        w,
        takes 0 (Some b),
        ap (λ (hs : Homes). get_elem? hs 0) k.homes ∙ ap some home.1,
        subst (λ b'. Rule (stepped s 1 (either b' n x) id me.1 w (takes 0 (Some b)))) (sym (eq-eqb x 0 free))
            (moves s k id me.0 w k.present n none (set s.words 1 n) (set s.homes 0 none) at refl (le_refl me.0.high) (ap (λ (ws : List ℕ). set ws 1 n) k.words) (ap (λ (hs : Homes). set hs 0 none) k.homes)
            (λ z. absurd (omega arith)) (λ _. refl) (λ _. inl refl) k.legal (up_to_date s k id me.0 true n at (λ _. is))
            (λ j u _ e. let g = k.each j u e in stays k.present k.turn n u g (λ on. let a = (g.holder on).0 in absurd (omega arith))) (λ m _. refl)),
        ((λ _. (b, l, home.3, ap (λ (h : History). (turning (seeing me.0 h) true, (0, Some b) ∷ me.1)) (sym home.2))), (λ no. absurd (no free))),
      ))
      (λ busy. (me.0, keeps, tt, subst (λ b'. Rule (stepped s 1 (either b' n x) id me.1 me.0 keeps)) (sym (ne_eqb x 0 busy)) (unmoved s k 1 id me at), ((λ z. absurd (busy z)), (λ _. refl))))

  -- no other view has the turn
  alone : (s : St) (k : Rule s) (id : ℕ) (v : Known) → get_elem? s.views id ≡ some v → v.turn ≡ true → (j : ℕ) (u : Known) → j ≢ id → get_elem? s.views j ≡ some u → u.turn ≡ true → ⊥
  alone s k id v at on j u ne e on' = let a = ((k.each id v at).holder on).0 in let b = ((k.each j u e).holder on').0 in same_seat s k j id u v e at ne (omega arith)

  pub storing : (slots id n : ℕ) (me : Seated) (b : Kept K) (e : Entry) → me.1 ≡ (0, Some b) ∷ [] → b.history ≡ with_entry me.0.seen e → caller_of e ≡ me.0.low → IsLegal b.history → me.0.turn ≡ true → n ≡ front b.history
      → Allows Rule slots id me 0 (λ _. n) (λ _. stored rows faults (step slots 0 n 0 none) me n)
  storing slots id n me b e has is by legal on is_front s k _ at _ = let f = k.each id me.0 at in let hold = f.holder on in let next = b.history in let w = seeing me.0 next in
      let grows : next ≡ with_entry k.present e = is ∙ ap (λ (h : History). with_entry h e) hold.1 in
      let others : (m : ℕ) → m ≢ me.0.low → made_by base m next ≡ made_by base m k.present = λ m ne. ap (made_by base m) grows ∙ made-other base m k.present e (λ z. ne (sym z ∙ by)) in (
        w,
        keeps,
        tt,
        moves s k id me.0 w next k.turn k.home (set s.words 0 n) s.homes at refl (le_refl me.0.high) (ap (λ (ws : List ℕ). set ws 0 n) k.words ∙ ap (λ (z : ℕ). z ∷ k.turn ∷ []) is_front) k.homes
            (λ z. let a = hold.0 in absurd (omega arith)) k.away (λ _. inl on) legal
            (record {
              base_is = f.base_is;
              begins = starts_self next;
              grown = let a = f.grown in omega (arith, ap places is, length-append me.0.seen.entries (e ∷ []));
              some_number = f.some_number;
              small = f.small;
              holder = λ _. (hold.0, refl);
              own = refl;
            })
            (λ j u ne at_j. let g = k.each j u at_j in record {
              base_is = g.base_is;
              begins = subst (λ (h : History). StartsWith h u.seen) (sym grows) (starts_more k.present u.seen e g.begins);
              grown = g.grown;
              some_number = g.some_number;
              small = g.small;
              holder = λ on'. absurd (alone s k id me.0 at on j u ne at_j on');
              own = others u.low (same_seat s k j id u me.0 at_j at ne) ∙ g.own;
            }) others,
        λ b' has'. let same : next ≡ b'.history = sym (ap held has) ∙ ap held has' in ap (λ (h : History). (seeing me.0 h, me.1)) same,
      )

  pub releasing : (slots id : ℕ) (me : Seated) (b : Kept K) → me.1 ≡ (0, Some b) ∷ [] → me.0.seen ≡ b.history → IsSound rows faults b → me.0.turn ≡ true
      → Allows Rule slots id me 1 (λ _. 0) (λ _. released rows faults (step slots 1 0 0 none) me 0)
  releasing slots id me b has is sound on s k _ at _ = let f = k.each id me.0 at in let hold = f.holder on in let w = turning me.0 false in (
    w,
    gives,
    tt,
    moves s k id me.0 w k.present 0 (some (Some b)) (set s.words 1 0) (put_back s.homes me.1) at refl (le_refl me.0.high) (ap (λ (ws : List ℕ). set ws 1 0) k.words) (λ c. put_back (k.homes c) (has c))
        (λ _. (b, refl, sym is ∙ hold.1, sound)) (λ no. absurd (no refl)) (λ no. absurd (no refl)) k.legal
        (record {
          base_is = f.base_is;
          begins = f.begins;
          grown = f.grown;
          some_number = f.some_number;
          small = f.small;
          holder = λ no. absurd (true≢false (sym no));
          own = f.own;
        })
        (λ j u ne at_j. let g = k.each j u at_j in stays k.present k.turn 0 u g (λ on'. absurd (alone s k id me.0 at on j u ne at_j on'))) (λ m _. refl),
    ap (λ (cs : List (ℕ × Slot)). (w, rest cs)) has,
  )

  -- a new view comes, whose numbers no other has
  comes : (s : St) (k : Rule s) (w : Known) → Fits base k.present k.turn w → ((j : ℕ) (u : Known) → get_elem? s.views j ≡ some u → (w.high ≤ u.low) ⊎ (u.high ≤ w.low))
      → Rule record { words = s.words; homes = s.homes; views = s.views ++ w ∷ [] }
  comes s k w fits free = record {
    present = k.present;
    turn = k.turn;
    home = k.home;
    words = k.words;
    homes = k.homes;
    at_home = k.at_home;
    away = k.away;
    named = λ held. let t = k.named held in (t.0, t.1, at_longer s.views (w ∷ []) t.0 t.1 t.2, t.3);
    legal = k.legal;
    each = λ j u e. ⊎_elim (k.each j u) (λ (t : (j ≡ length s.views) × (w ≡ u)). subst (Fits base k.present k.turn) t.1 fits) (snoc_at s.views w u j e);
    apart = λ i j u x e f ne. ⊎_elim
        (λ (a : get_elem? s.views i ≡ some u). ⊎_elim (λ (b : get_elem? s.views j ≡ some x). k.apart i j u x a b ne)
        (λ (b : (j ≡ length s.views) × (w ≡ x)). subst (λ (z : Known). (u.high ≤ z.low) ⊎ (z.high ≤ u.low)) b.1 (⊎_elim (λ (y : w.high ≤ u.low). inr y) (λ (y : u.high ≤ w.low). inl y) (free i u a)))
        (snoc_at s.views w x j f))
        (λ (a : (i ≡ length s.views) × (w ≡ u)). ⊎_elim (λ (b : get_elem? s.views j ≡ some x). subst (λ (z : Known). (z.high ≤ x.low) ⊎ (x.high ≤ z.low)) a.1 (free j x b))
        (λ (b : (j ≡ length s.views) × (w ≡ x)). absurd (ne (a.0 ∙ sym b.0))) (snoc_at s.views w x j f))
        (snoc_at s.views w u i e);
    strangers = λ n none_has. k.strangers n (λ j u e. none_has j u (at_longer s.views (w ∷ []) j u e));
  }

  pub splitting : (id : ℕ) (v : Known) → v.low + 1 < v.high → v.turn ≡ false → Unborne v.base v.low v.high v.seen → Splits Rule id v (lower v) (upper v)
  unfolding moves
  splitting id v room off fresh s k at =
      let f = k.each id v at in
      let some_left : v.low < middle v = omega arith in
      let some_right : middle v < v.high = omega arith in
      let high : middle v ≤ 9223372036854775808 = let a = f.small in omega arith in
      let kept : Fits base k.present k.turn (lower v) = record { base_is = f.base_is; begins = f.begins; grown = f.grown; some_number = some_left; small = high; holder = f.holder; own = f.own } in
      let here : Unborne base v.low v.high v.seen = subst (λ (z : ℕ). Unborne z v.low v.high v.seen) f.base_is fresh in
      let given : Fits base k.present k.turn (upper v) = record {
        base_is = f.base_is;
        begins = f.begins;
        grown = f.grown;
        some_number = some_right;
        small = f.small;
        holder = λ no. absurd (true≢false (sym no));
        own = unborne s k id v at (middle v) some_left some_right ∙ sym (here (middle v) some_left some_right);
      } in
      let left : Rule record { words = s.words; homes = s.homes; views = set s.views id (lower v) } =
      moves s k id v (lower v) k.present k.turn k.home s.words s.homes at refl (let a = some_right in omega arith) k.words k.homes k.at_home k.away (λ _. inr (refl, refl)) k.legal kept (λ j u _ e. k.each j u e) (λ n _. refl) in
      comes record { words = s.words; homes = s.homes; views = set s.views id (lower v) } left (upper v) given
      (λ j u e. ⊎_elim (λ (t : (j ≡ id) × (lower v ≡ u)). inr (subst (λ (z : Known). z.high ≤ middle v) t.1 (le_refl (middle v))))
      (λ (t : (j ≢ id) × (get_elem? s.views j ≡ some u)). ⊎_elim (λ (y : u.high ≤ v.low). inr (omega arith)) (λ (y : v.high ≤ u.low). inl y) (k.apart j id u v t.1 at t.0))
      (at_set s.views id j (lower v) u e))

  -- what is found at the end by a seat that has no turn: the words, and the value in the slot
  pub closing : (id : ℕ) (v : Known) (ws : List ℕ) (xs : List Slot) → v.turn ≡ false → Final (Seen Rule id v) ws xs
      → (turn : ℕ) × (get_elem? ws 1 ≡ some turn) × (turn ≢ v.low + 1) × (turn ≡ 0 → (b : Kept K) × (get_elem? xs 0 ≡ some (Some b)) × Later v b.history × IsSound rows faults b)
  closing id v ws xs off (s, (k, at), same, size, stay) = (
    k.turn,
    ap (λ (l : List ℕ). get_elem? l 1) (sym same ∙ k.words),
    (λ is. let t = k.named (λ z. absurd (omega arith)) in dite (ℕ_discrete t.0 id)
        (λ e. absurd (true≢false (sym t.3 ∙ (ap (λ (z : Known). z.turn) (some-injective t.1 v (sym t.2 ∙ (ap (get_elem? s.views) e ∙ at))) ∙ off))))
        (λ ne. let a = ((k.each t.0 t.1 t.2).holder t.3).0 in same_seat s k t.0 id t.1 v t.2 at ne (omega arith))),
    (λ free. let home = k.at_home free in (
      home.0,
      stay 0 (Some home.0) (ap (λ (hs : Homes). get_elem? hs 0) k.homes ∙ ap some home.1),
      subst (Later v) (sym home.2) (later s k id v at),
      home.3,
    )),
  )
