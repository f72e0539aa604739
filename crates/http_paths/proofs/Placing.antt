-- What a router finds is what the table of places names.
use Rattle.std.proofs.Common.{◌≡◌, ◌≢◌, ℕ, suc, ◌⊎◌, inl, inr, List, [], ◌∷◌, ◌++◌, length, drop, Option, Some, None, option_map, Bool, true, false, cond, not, ◌==◌, ◌&&◌, ◌||◌, nat_lt, refl, sym, ap, ◌∙◌, arith, subst}
use Rattle.std.specs.Prelude.{find}
use Rattle.std.specs.List.{list_any}
use Rattle.std.specs.Str.{bytes_eq}
use Rattle.std.proofs.lemmas.Bool.Decides.{nat_tests}
use Rattle.matchit.specs.Rows.{RowsOf}
use Rattle.matchit.specs.Router.{RouteOf}
use Rattle.matchit.specs.Seek.{own, step, or_else, has_slash}
use Rattle.matchit.specs.Level.{IsText}
use Rattle.http_paths.specs.Places.{Place, is_part, begins_with, is_of, named_in}
use Rattle.http_paths.proofs.Flat.{walk, takes, Has}
use Rattle.http_paths.proofs.FlatLemmas.{walk-sound}

-- whether some path may be of both patterns
abbrev pub overlaps : List ℕ → List ℕ → Bool
overlaps [] [] = true
overlaps [] (y ∷ u) = false
overlaps (x ∷ t) [] = false
overlaps (x ∷ t) (y ∷ u) = (x == 256) || (y == 256) || ((x == y) && overlaps t u)

module _ {K : Type 0} where
  abbrev pub is_apart : List ℕ → RowsOf K → Bool
  is_apart t [] = true
  is_apart t ((u, k) ∷ rows) = not (overlaps t u) && is_apart t rows

  abbrev pub all_apart : RowsOf K → Bool
  all_apart [] = true
  all_apart ((t, k) ∷ rows) = is_apart t rows && all_apart rows

split : (a b : Bool) → (a && b) ≡ true → (a ≡ true) × (b ≡ true)
split true b h = (refl, h)
split false b h = absurd (cc)

takes-overlaps : (t u p : List ℕ) → takes t p ≡ true → takes u p ≡ true → overlaps t u ≡ true
takes-overlaps [] [] p h g = refl
takes-overlaps [] (y ∷ u) [] h g = absurd (cc)
takes-overlaps [] (y ∷ u) (b ∷ p) h g = absurd (cc)
takes-overlaps (x ∷ t) [] [] h g = absurd (cc)
takes-overlaps (x ∷ t) [] (b ∷ p) h g = absurd (cc)
takes-overlaps (x ∷ t) (y ∷ u) [] h g = absurd (cc)
takes-overlaps (x ∷ t) (y ∷ u) (b ∷ p) h g = by (takes-overlaps t u p) (x == 256) refl (y == 256) refl (x == b) refl (y == b) refl h g
  where
    by : (takes t p ≡ true → takes u p ≡ true → overlaps t u ≡ true) → (v : Bool) → (x == 256) ≡ v → (w : Bool) → (y == 256) ≡ w → (r : Bool) → (x == b) ≡ r → (s : Bool) → (y == b) ≡ s
        → cond v (length t == 0 && not (has_slash (b ∷ p))) (r && takes t p) ≡ true → cond w (length u == 0 && not (has_slash (b ∷ p))) (s && takes u p) ≡ true
        → (v || w || ((x == y) && overlaps t u)) ≡ true
    by ih true e w f r i s j k l = refl
    by ih false e true f r i s j k l = refl
    by ih false e false f true i true j k l =
        let same : (x == y) ≡ true = grind (arith, nat_tests) in
        let both = ih k l in
        rw (same, both) refl
    by ih false e false f false i s j k l = absurd (cc)
    by ih false e false f true i false j k l = absurd (cc)

module _ {K : Type 0} where
  apart-has : (t u : List ℕ) (k : K) (rows : RowsOf K) → is_apart t rows ≡ true → Has u k rows → overlaps t u ≡ false
  apart-has t u k [] h g = absurd g
  apart-has t u k ((s, j) ∷ rows) h g = by (apart-has t u k rows) (overlaps t s) refl h g
    where
      by : (is_apart t rows ≡ true → Has u k rows → overlaps t u ≡ false) → (v : Bool) → overlaps t s ≡ v → (not v && is_apart t rows) ≡ true → ((u ≡ s) × (k ≡ j)) ⊎ Has u k rows → overlaps t u ≡ false
      by ih true e a b = absurd (cc)
      by ih false e a (inl q) = ap (overlaps t) q.0 ∙ e
      by ih false e a (inr q) = ih a q

  -- A path is of one row at most.
  pub one_row : (rows : RowsOf K) (t u p : List ℕ) (j k : K) → all_apart rows ≡ true → Has t j rows → Has u k rows → takes t p ≡ true → takes u p ≡ true → j ≡ k
  one_row [] t u p j k h a b x y = absurd a
  one_row ((s, i) ∷ rows) t u p j k h a b x y = by (one_row rows t u p j k) (split (is_apart s rows) (all_apart rows) h) a b
    where
      clash : (v : List ℕ) (n : K) → is_apart s rows ≡ true → Has v n rows → takes s p ≡ true → takes v p ≡ true → ⊥
      clash v n apart has c d = let no : true ≡ false = sym (takes-overlaps s v p c d) ∙ apart-has s v n rows apart has in cc

      by : (all_apart rows ≡ true → Has t j rows → Has u k rows → takes t p ≡ true → takes u p ≡ true → j ≡ k) → (is_apart s rows ≡ true) × (all_apart rows ≡ true)
          → ((t ≡ s) × (j ≡ i)) ⊎ Has t j rows → ((u ≡ s) × (k ≡ i)) ⊎ Has u k rows → j ≡ k
      by ih m (inl q) (inl r) = q.1 ∙ sym r.1
      by ih m (inl q) (inr r) = absurd (clash u k m.0 r (ap (λ (l : List ℕ). takes l p) (sym q.0) ∙ x) y)
      by ih m (inr q) (inl r) = absurd (clash t j m.0 q (ap (λ (l : List ℕ). takes l p) (sym r.0) ∙ y) x)
      by ih m (inr q) (inr r) = ih m.1 q r x y

  -- ---- a row that takes a path is found

  own-some : (k : K) (rows : RowsOf K) → Has [] k rows → own rows ≢ None
  own-some k [] g = absurd g
  own-some k (([], j) ∷ rows) g = λ z. cc
  own-some k ((x ∷ t, j) ∷ rows) (inl q) = absurd (nil_cons x t q.0)
    where
      nil_cons : (x : ℕ) (t : List ℕ) → [] ≡ x ∷ t → ⊥
      nil_cons x t z = cc
  own-some k ((x ∷ t, j) ∷ rows) (inr q) = own-some k rows q

  has-step : (b x : ℕ) (t : List ℕ) (k : K) (rows : RowsOf K) → (x == b) ≡ true → Has (x ∷ t) k rows → Has t k (step b rows)
  has-step b x t k [] e g = absurd g
  has-step b x t k (([], j) ∷ rows) e (inl q) = absurd (cons_nil x t q.0)
    where
      cons_nil : (x : ℕ) (t : List ℕ) → x ∷ t ≡ [] → ⊥
      cons_nil x t z = cc
  has-step b x t k (([], j) ∷ rows) e (inr q) = has-step b x t k rows e q
  has-step b x t k ((y ∷ s, j) ∷ rows) e g = by (has-step b x t k rows e) (y == b) refl g
    where
      by : (Has (x ∷ t) k rows → Has t k (step b rows)) → (v : Bool) → (y == b) ≡ v → ((x ∷ t ≡ y ∷ s) × (k ≡ j)) ⊎ Has (x ∷ t) k rows → Has t k (cond v ((s, j) ∷ step b rows) (step b rows))
      by ih true f (inl q) = let same : t ≡ s = cc (q.0) in inl (same, q.1)
      by ih true f (inr q) = inr (ih q)
      by ih false f (inl q) = let same : x ≡ y = cc (q.0) in let no : true ≡ false = sym e ∙ ap (λ n. n == b) same ∙ f in absurd (cc)
      by ih false f (inr q) = ih q

  or_else-some : (a b : Option K) → b ≢ None → or_else a b ≢ None
  or_else-some None b h = h
  or_else-some (Some k) b h = λ z. cc

  or_else-first : (a b : Option K) → a ≢ None → or_else a b ≢ None
  or_else-first None b h = absurd (h refl)
  or_else-first (Some k) b h = λ z. cc

  pub walk-finds : (rows : RowsOf K) (p t : List ℕ) (k : K) → Has t k rows → takes t p ≡ true → walk rows p ≢ None
  walk-finds rows [] [] k g h = own-some k rows g
  walk-finds rows [] (x ∷ t) k g h = absurd (cc)
  walk-finds rows (b ∷ p) [] k g h = absurd (cc)
  walk-finds rows (b ∷ p) (x ∷ t) k g h = by (λ (f : Has t k (step b rows)) e. walk-finds (step b rows) p t k f e) (x == 256) refl t refl (has_slash (b ∷ p)) refl (x == b) refl h g
    where
      by : (Has t k (step b rows) → takes t p ≡ true → walk (step b rows) p ≢ None) → (v : Bool) → (x == 256) ≡ v → (s : List ℕ) → t ≡ s → (c : Bool) → has_slash (b ∷ p) ≡ c → (w : Bool) → (x == b) ≡ w
          → cond v (length t == 0 && not (has_slash (b ∷ p))) (w && takes t p) ≡ true → Has (x ∷ t) k rows → walk rows (b ∷ p) ≢ None
      by ih true e [] f false n w m i a =
          let there : Has [] k (step 256 rows) = subst (λ (l : List ℕ). Has l k (step 256 rows)) f (has-step 256 x t k rows e a) in
          let some : (cond (has_slash (b ∷ p)) None (own (step 256 rows))) ≢ None = rw n (own-some k (step 256 rows) there) in
          or_else-some (walk (step b rows) p) (cond (has_slash (b ∷ p)) None (own (step 256 rows))) some
      by ih true e [] f true n w m i a = let no : (length t == 0 && false) ≡ true = rw n at i in absurd (never (length t == 0) no)
        where
          never : (z : Bool) → (z && false) ≡ true → ⊥
          never true q = cc
          never false q = cc
      by ih true e (y ∷ s) f c n w m i a =
          let long : (length t == 0) ≡ false = let more : length t ≡ suc (length s) = ap length f in grind (arith, nat_tests) in
          let no : (false && not (has_slash (b ∷ p))) ≡ true = rw long at i in absurd (cc)
      by ih false e s f c n true m i a = or_else-first (walk (step b rows) p) (cond (has_slash (b ∷ p)) None (own (step 256 rows))) (ih (has-step b x t k rows m a) i)
      by ih false e s f c n false m i a = absurd (cc)

-- ---- the table of places

abbrev pub pattern : {A : Type 0} → Place A → List ℕ
pattern place = place.front ++ cond place.has_part (256 ∷ []) []

-- each is a byte
abbrev pub are_bytes : List ℕ → Bool
are_bytes [] = true
are_bytes (b ∷ bytes) = nat_lt b 256 && are_bytes bytes

-- The rows of a router are those of a table of places, in order.
module _ {A : Type 0} where
  abbrev pub AreRows : RowsOf (RouteOf A) → List (Place A) → Type 0
  AreRows [] [] = Unit {0}
  AreRows [] (place ∷ places) = ⊥
  AreRows (row ∷ rows) [] = ⊥
  AreRows ((t, r) ∷ rows) (place ∷ places) = (t ≡ pattern place) × (r.value ≡ place.meaning) × AreRows rows places

  abbrev pub fronts_are_bytes : List (Place A) → Bool
  fronts_are_bytes [] = true
  fronts_are_bytes (place ∷ places) = are_bytes place.front && fronts_are_bytes places

flip : (a b : ℕ) → (a == b) ≡ (b == a)
flip a b = grind (arith, nat_tests)

takes-literal : (front path : List ℕ) → are_bytes front ≡ true → takes (front ++ []) path ≡ bytes_eq path front
takes-literal [] [] h = refl
takes-literal [] (b ∷ p) h = refl
takes-literal (x ∷ front) [] h = refl
takes-literal (x ∷ front) (b ∷ p) h =
    let parts = split (nat_lt x 256) (are_bytes front) h in
    let small = parts.0 in
    let other : (x == 256) ≡ false = grind (arith, nat_tests) in
    rw (other, takes-literal front p parts.1, flip x b) refl

has_slash-any : (bytes : List ℕ) → has_slash bytes ≡ list_any (λ byte. byte == 47) bytes
has_slash-any [] = refl
has_slash-any (b ∷ bytes) = by (b == 47) (has_slash-any bytes)
  where
    by : (v : Bool) → has_slash bytes ≡ list_any (λ byte. byte == 47) bytes → cond v true (has_slash bytes) ≡ (v || list_any (λ byte. byte == 47) bytes)
    by true ih = refl
    by false ih = ih

and_assoc : (a b c : Bool) → (a && (b && c)) ≡ ((a && b) && c)
and_assoc true b c = refl
and_assoc false b c = refl

takes-part : (front path : List ℕ) → are_bytes front ≡ true → takes (front ++ 256 ∷ []) path ≡ (begins_with front path && is_part (drop (length front) path))
takes-part [] [] h = refl
takes-part [] (b ∷ p) h =
    let some : nat_lt 0 (length (b ∷ p)) ≡ true = grind (arith, nat_tests) in
    rw (some, has_slash-any (b ∷ p)) refl
takes-part (x ∷ front) [] h = refl
takes-part (x ∷ front) (b ∷ p) h =
    let parts = split (nat_lt x 256) (are_bytes front) h in
    let small = parts.0 in
    let other : (x == 256) ≡ false = grind (arith, nat_tests) in
    rw (other, takes-part front p parts.1, flip x b) (and_assoc (b == x) (begins_with front p) (is_part (drop (length front) p)))

takes-pattern : {A : Type 0} (place : Place A) (path : List ℕ) → are_bytes place.front ≡ true → takes (pattern place) path ≡ is_of path place
takes-pattern place path h = by place.has_part refl
  where
    by : (v : Bool) → place.has_part ≡ v → takes (pattern place) path ≡ is_of path place
    by true e = rw e (takes-part place.front path h)
    by false e = rw e (takes-literal place.front path h)

-- What a table of places names is what the rows take.
module _ {A : Type 0} where
  is_taken : (rows : RowsOf (RouteOf A)) (places : List (Place A)) (path : List ℕ) (place : Place A) → AreRows rows places → fronts_are_bytes places ≡ true
      → find (is_of path) places ≡ Some place → (t : List ℕ) × (r : RouteOf A) × Has t r rows × (takes t path ≡ true) × (r.value ≡ place.meaning)
  is_taken [] [] path place are h f = absurd (cc)
  is_taken [] (q ∷ places) path place are h f = absurd are
  is_taken (row ∷ rows) [] path place are h f = absurd are
  is_taken ((t, r) ∷ rows) (q ∷ places) path place are h f = by (λ k g. is_taken rows places path place are.2 k g) (split (are_bytes q.front) (fronts_are_bytes places) h) (is_of path q) refl f
    where
      by : (fronts_are_bytes places ≡ true → find (is_of path) places ≡ Some place → (t : List ℕ) × (r : RouteOf A) × Has t r rows × (takes t path ≡ true) × (r.value ≡ place.meaning))
          → (are_bytes q.front ≡ true) × (fronts_are_bytes places ≡ true) → (v : Bool) → is_of path q ≡ v → cond v (Some q) (find (is_of path) places) ≡ Some place
          → (u : List ℕ) × (n : RouteOf A) × Has u n ((t, r) ∷ rows) × (takes u path ≡ true) × (n.value ≡ place.meaning)
      by ih m true e g =
          let same : q ≡ place = cc in
          (t, r, inl (refl, refl), ap (λ (l : List ℕ). takes l path) are.0 ∙ takes-pattern q path m.0 ∙ e, are.1 ∙ ap (λ (p : Place A). p.meaning) same)
      by ih m false e g = let deep = ih m.1 g in (deep.0, deep.1, inr deep.2, deep.3, deep.4)

  -- where the table names nothing, no row takes the path
  is_free : (rows : RowsOf (RouteOf A)) (places : List (Place A)) (path t : List ℕ) (r : RouteOf A) → AreRows rows places → fronts_are_bytes places ≡ true
      → find (is_of path) places ≡ None → Has t r rows → takes t path ≡ true → ⊥
  is_free [] places path t r are h f has takes_it = has
  is_free (row ∷ rows) [] path t r are h f has takes_it = are
  is_free ((s, n) ∷ rows) (q ∷ places) path t r are h f has takes_it = by (λ k g has. is_free rows places path t r are.2 k g has takes_it) (split (are_bytes q.front) (fronts_are_bytes places) h) (is_of path q) refl f has
    where
      by : (fronts_are_bytes places ≡ true → find (is_of path) places ≡ None → Has t r rows → ⊥) → (are_bytes q.front ≡ true) × (fronts_are_bytes places ≡ true) → (v : Bool) → is_of path q ≡ v
          → cond v (Some q) (find (is_of path) places) ≡ None → ((t ≡ s) × (r ≡ n)) ⊎ Has t r rows → ⊥
      by ih m true e g has = cc
      by ih m false e g (inr k) = ih m.1 g k
      by ih m false e g (inl k) =
          let no : true ≡ false = sym takes_it ∙ ap (λ (l : List ℕ). takes l path) (k.0 ∙ are.0) ∙ takes-pattern q path m.0 ∙ e in cc

  -- A router whose rows are those of a table finds what the table names.
  pub walk-named : (rows : RowsOf (RouteOf A)) (places : List (Place A)) (path : List ℕ) → AreRows rows places → fronts_are_bytes places ≡ true → all_apart rows ≡ true → IsText path
      → option_map (λ (r : RouteOf A). r.value) (walk rows path) ≡ named_in places path
  walk-named rows places path are h apart text = by (find (is_of path) places) refl (walk rows path) refl
    where
      by : (f : Option (Place A)) → find (is_of path) places ≡ f → (w : Option (RouteOf A)) → walk rows path ≡ w → option_map (λ (r : RouteOf A). r.value) (walk rows path) ≡ named_in places path
      by None e None g = rw (e, g) refl
      by None e (Some r) g = let taken = walk-sound rows path r text g in absurd (is_free rows places path taken.0 r are h e taken.1 taken.2)
      by (Some place) e None g = let taken = is_taken rows places path place are h e in absurd (walk-finds rows path taken.0 taken.1 taken.2 taken.3 g)
      by (Some place) e (Some r) g =
          let one = is_taken rows places path place are h e in
          let other = walk-sound rows path r text g in
          let same : r ≡ one.1 = one_row rows other.0 one.0 path r one.1 apart other.1 one.2 other.2 one.3 in
          let value : r.value ≡ place.meaning = ap (λ (n : RouteOf A). n.value) same ∙ one.4 in
          rw (e, g) (ap (λ x. Some x) value)
