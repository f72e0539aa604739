-- Certificates in order of giver and taker.
use Rattle.std.proofs.Common.{◌≡◌, ℕ, ◌<◌, Bool, true, false, cond, List, [], ◌∷◌, refl, sym, ◌∙◌, ap, arith, filter, ◌||◌, ◌+◌, ◌-◌, suc, add-one, ◌⊎◌, ◌≤◌, get_or, length, drop}
use Rattle.std.specs.List.{list_any}
use Rattle.std.specs.List.Sorted.{ties}
use Rattle.std.proofs.lemmas.List.{get_or-drop, length-drop}
use Rattle.trust_types.specs.declared.levels.Level.{Level}
use Rattle.trust_types.specs.declared.levels.Level.TheVariants.{Observer}
use Rattle.trust_types.specs.declared.graphs.Cert.{Cert}
use Rattle.trust_types.specs.Changes.{is_of_pair, standing_among}
use Rattle.trust_types.specs.Certs.{IsBefore}
use Rattle.cert_log.specs.inner.Order.{pair_lt, RisesByPair, begins_with_pair}
use Rattle.cert_log.proofs.Leaving.{level_behind}

-- only the certificates of the pair count
own_by : (a b : ℕ) (l : Level) (c : Cert) (cs : List Cert) (is : Bool) → is_of_pair a b c ≡ is → ((m : Level) → level_behind a b m (filter (is_of_pair a b) cs) ≡ level_behind a b m cs)
    → level_behind a b l (cond is (c ∷ filter (is_of_pair a b) cs) (filter (is_of_pair a b) cs)) ≡ level_behind a b (cond is c.level l) cs
own_by a b l c cs true is ih = ap (λ x. level_behind a b (cond x c.level l) (filter (is_of_pair a b) cs)) is ∙ ih c.level
own_by a b l c cs false is ih = ih l

own_count : (a b : ℕ) (l : Level) (cs : List Cert) → level_behind a b l (filter (is_of_pair a b) cs) ≡ level_behind a b l cs
own_count a b l [] = refl
own_count a b l (c ∷ cs) = own_by a b l c cs (is_of_pair a b c) refl (λ m. own_count a b m cs)

ties_pair : (a b : ℕ) (l : Level) (c : Cert) → ties pair_lt (record { from = a; to = b; level = l }) c ≡ is_of_pair a b c
ties_pair a b l c = grind arith

filter_agrees : (p q : Cert → Bool) (cs : List Cert) → ((c : Cert) → p c ≡ q c) → filter p cs ≡ filter q cs
filter_agrees p q [] h = refl
filter_agrees p q (c ∷ cs) h = rw (h c, filter_agrees p q cs h) refl

-- In another order, in which those of each pair keep theirs, certificates leave each pair at the same level.
pub same_levels : (xs ys : List Cert) → ((x : Cert) → filter (ties pair_lt x) ys ≡ filter (ties pair_lt x) xs) → (a b : ℕ) → standing_among ys a b ≡ standing_among xs a b
same_levels xs ys stable a b =
    let x : Cert = record { from = a; to = b; level = Observer } in
    let agree = filter_agrees (ties pair_lt x) (is_of_pair a b) in
    let same : filter (is_of_pair a b) ys ≡ filter (is_of_pair a b) xs = sym (agree ys (ties_pair a b Observer)) ∙ stable x ∙ agree xs (ties_pair a b Observer) in
    sym (own_count a b Observer ys) ∙ ap (level_behind a b Observer) same ∙ own_count a b Observer xs

pub tail_rises : (c : Cert) (cs : List Cert) → RisesByPair (c ∷ cs) → RisesByPair cs
tail_rises c cs h = λ k d low high.
    let e : k + 1 ≡ suc k = add-one k in
    let e2 : suc k + 1 ≡ suc (k + 1) = omega arith in
    let at : pair_lt (get_or (c ∷ cs) (suc k + 1) d) (get_or (c ∷ cs) (suc k) d) ≡ false = h (suc k) d (omega arith) (omega arith) in
    rw e2 at at

pub drop_rises : (n : ℕ) (cs : List Cert) → RisesByPair cs → RisesByPair (drop n cs)
drop_rises n cs h = λ k d low high.
    let l : k + 1 < length cs - n = rw (sym (length-drop n cs)) high in
    let at : pair_lt (get_or cs (n + k + 1) d) (get_or cs (n + k) d) ≡ false = h (n + k) d (omega arith) (omega arith) in
    let e : n + (k + 1) ≡ n + k + 1 = omega arith in
    rw (get_or-drop n cs (k + 1) d, get_or-drop n cs k d, e) at

lt_before : (c d : Cert) → pair_lt c d ≡ true → IsBefore c d
lt_before c d h = grind arith

before_lt : (c d : Cert) → IsBefore c d → pair_lt c d ≡ true
before_lt c d h = grind arith

pub later : (d e : Cert) → pair_lt e d ≡ false → (d.from < e.from) ⊎ ((d.from ≡ e.from) × (d.to ≤ e.to))
later d e h = grind arith

before_later : (a b x y m n : ℕ) → (a < x) ⊎ ((a ≡ x) × (b < y)) → (x < m) ⊎ ((x ≡ m) × (y ≤ n)) → (a < m) ⊎ ((a ≡ m) × (b < n))
before_later a b x y m n h g = grind arith

none_less : (c d : Cert) (ds : List Cert) → pair_lt c d ≡ true → RisesByPair (d ∷ ds) → list_any (is_of_pair c.from c.to) (d ∷ ds) ≡ false
none_less c d [] l h = let apart : is_of_pair c.from c.to d ≡ false = grind arith in rw apart refl
none_less c d (e ∷ ds) l h =
    let apart : is_of_pair c.from c.to d ≡ false = grind arith in
    let step : pair_lt e d ≡ false = h 0 d (omega arith) (omega arith) in
    let more : pair_lt c e ≡ true = before_lt c e (before_later c.from c.to d.from d.to e.from e.to (lt_before c d l) (later d e step)) in
    rw apart (none_less c e ds more (tail_rises d (e ∷ ds) h))

next_by : (c d : Cert) (ds : List Cert) (is : Bool) → is_of_pair c.from c.to d ≡ is → pair_lt d c ≡ false → RisesByPair (d ∷ ds) → (is || list_any (is_of_pair c.from c.to) ds) ≡ is
next_by c d ds true is step h = refl
next_by c d ds false is step h =
    let less : pair_lt c d ≡ true = grind arith in
    let none : (is_of_pair c.from c.to d || list_any (is_of_pair c.from c.to) ds) ≡ false = none_less c d ds less h in
    rw is at none

-- A later one of the pair comes just where the next one is of the pair.
pub next_any : (c : Cert) (cs : List Cert) → RisesByPair (c ∷ cs) → list_any (is_of_pair c.from c.to) cs ≡ begins_with_pair c.from c.to cs
next_any c [] h = refl
next_any c (d ∷ ds) h =
    let step : pair_lt d c ≡ false = h 0 d (omega arith) (omega arith) in
    next_by c d ds (is_of_pair c.from c.to d) refl step (tail_rises c (d ∷ ds) h)
