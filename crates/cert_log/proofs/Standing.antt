-- What a log gives at its end stands, and what stands can stand beside one another.
use Rattle.std.proofs.Common.{◌≡◌, ◌≢◌, ℕ, ◌<◌, ◌≤◌, Bool, true, false, cond, List, [], ◌∷◌, length, get_or, refl, sym, ◌∙◌, ap, subst, arith, ◌||◌, ◌⊎◌, All, AllPairs, Contains, Some, map}
use Rattle.std.specs.List.{list_any}
use Rattle.std.proofs.Math.ListN.{get_or-map}
use Rattle.std.proofs.lemmas.Bool.{false≢true}
use Rattle.std.proofs.lemmas.List.{length-map}
use Rattle.std.proofs.lemmas.List.Elements.{All-cons, All-tail, All-head, Contains-get_or}
use Rattle.std.proofs.lemmas.List.Kept.{AllPairs-cons}
use Rattle.trust_types.specs.declared.levels.Level.{Level}
use Rattle.trust_types.specs.declared.levels.Level.TheVariants.{Observer, Apprentice, Journeyer, Master, Fellow, Warden, Elder}
use Rattle.trust_types.specs.declared.graphs.Cert.{Cert}
use Rattle.trust_types.specs.Levels.{is_grade, IsGrade}
use Rattle.trust_types.specs.Changes.{is_of_pair, stands, standing_among}
use Rattle.trust_types.specs.Certs.{IsBefore}
use Rattle.pair_map.specs.Pairs.{Pairs, Rises}
use Rattle.pair_map.proofs.Entries.{Contains-value_at, value_at-Contains}
use Rattle.cert_log.specs.Standing.{AreStanding, IsBetween, StandingCanStand}
use Rattle.cert_log.specs.inner.Order.{standing_list, RisesByPair, pair_lt}
use Rattle.cert_log.specs.inner.Levels.{AreLevels, grade_of, cert_at}
use Rattle.cert_log.proofs.Counting.{same_pair}
use Rattle.cert_log.proofs.Ordered.{tail_rises, later}
use Rattle.cert_log.proofs.Listing.{listed_stands, stands_listed, length-standing_list, some_of_pair, and_right}

-- ---- of a list in order

numbers_on : (a b x y m n : ℕ) → (a < x) ⊎ ((a ≡ x) × (b ≤ y)) → (x < m) ⊎ ((x ≡ m) × (y ≤ n)) → (a < m) ⊎ ((a ≡ m) × (b ≤ n))
numbers_on a b x y m n h g = grind arith

not_before : (d x : Cert) → (d.from < x.from) ⊎ ((d.from ≡ x.from) × (d.to ≤ x.to)) → pair_lt x d ≡ false
not_before d x h = grind arith

not_less : (d e x : Cert) → pair_lt e d ≡ false → pair_lt x e ≡ false → pair_lt x d ≡ false
not_less d e x first second = not_before d x (numbers_on d.from d.to e.from e.to x.from x.to (later d e first) (later e x second))

-- none of a list that rises is less than the one before it
none_less : (d : Cert) (cs : List Cert) → RisesByPair (d ∷ cs) → All (λ x. pair_lt x d ≡ false) cs
none_less d [] rises = λ k x inside. absurd (omega arith)
none_less d (e ∷ es) rises =
    let step : pair_lt e d ≡ false = rises 0 d (omega arith) (omega arith) in
    let rest = none_less e es (tail_rises d (e ∷ es) rises) in
    All-cons (λ x. pair_lt x d ≡ false) e es step (λ k x inside. not_less d e (get_or es k x) step (rest k x inside))

or_none : (a b : Bool) → (a || b) ≡ false → (a ≡ false) × (b ≡ false)
or_none true b e = absurd (false≢true (sym e))
or_none false b e = (refl, e)

none_passes : (p : Cert → Bool) (cs : List Cert) → list_any p cs ≡ false → All (λ x. p x ≡ false) cs
none_passes p [] none = λ k x inside. absurd (omega arith)
none_passes p (c ∷ cs) none =
    let both = or_none (p c) (list_any p cs) none in
    All-cons (λ x. p x ≡ false) c cs both.0 (none_passes p cs both.1)

before_by : (d x : Cert) → pair_lt x d ≡ false → is_of_pair d.from d.to x ≡ false → IsBefore d x
before_by d x not_less apart = grind arith

All-kept : (P : Cert → Type 0) (d : Cert) (xs : List Cert) (s : Bool) → P d → All P xs → All P (cond s (d ∷ xs) xs)
All-kept P d xs true here rest = All-cons P d xs here rest
All-kept P d xs false here rest = rest

All-standing_list : (P : Cert → Type 0) (cs : List Cert) → All P cs → All P (standing_list cs)
All-standing_list P [] all = λ k x inside. absurd (omega arith)
All-standing_list P (c ∷ cs) all = All-kept P c (standing_list cs) (stands c cs) (All-head P c cs all) (All-standing_list P cs (All-tail P c cs all))

rises_by : (d : Cert) (cs : List Cert) (s : Bool) → stands d cs ≡ s → RisesByPair (d ∷ cs) → AllPairs IsBefore (standing_list cs)
    → AllPairs IsBefore (cond s (d ∷ standing_list cs) (standing_list cs))
rises_by d cs false e rises rest = rest
rises_by d cs true e rises rest =
    let others = none_passes (is_of_pair d.from d.to) cs (and_right (is_grade d.level) _ e) in
    let above = none_less d cs rises in
    AllPairs-cons IsBefore d (standing_list cs) (All-standing_list (IsBefore d) cs (λ k x inside. before_by d (get_or cs k x) (above k x inside) (others k x inside))) rest

standing_rises : (cs : List Cert) → RisesByPair cs → AllPairs IsBefore (standing_list cs)
standing_rises [] rises = λ i j x less inside. absurd (omega arith)
standing_rises (d ∷ cs) rises = rises_by d cs (stands d cs) refl rises (standing_rises cs (tail_rises d cs rises))

-- Those kept of the certificates in order stand.
pub standing_sorted : (cs sorted kept : List Cert) → length sorted ≡ length cs → length cs ≤ 2000000 → RisesByPair sorted
    → ((a b : ℕ) → standing_among sorted a b ≡ standing_among cs a b) → kept ≡ standing_list sorted → AreStanding cs kept
standing_sorted cs sorted kept long few rises same is =
    let of_sorted : AreStanding cs (standing_list sorted) = record {
      few = omega (arith, length-standing_list sorted);
      rises = standing_rises sorted rises;
      just = λ c. (
        λ found. let st = listed_stands sorted c found in (st.0, sym (same c.from c.to) ∙ st.1),
        λ st. stands_listed sorted c (st.0, same c.from c.to ∙ st.1),
      );
    } in
    subst (AreStanding cs) (sym is) of_sorted

-- ---- of a map

graded_is : (l m : Level) → grade_of l ≡ Some m → IsGrade m × (l ≡ m)
graded_is Observer m e = cc
graded_is Apprentice m e = let is : Apprentice ≡ m = cc in (λ none. let apart : Apprentice ≡ Observer = is ∙ none in cc, is)
graded_is Journeyer m e = let is : Journeyer ≡ m = cc in (λ none. let apart : Journeyer ≡ Observer = is ∙ none in cc, is)
graded_is Master m e = let is : Master ≡ m = cc in (λ none. let apart : Master ≡ Observer = is ∙ none in cc, is)
graded_is Fellow m e = let is : Fellow ≡ m = cc in (λ none. let apart : Fellow ≡ Observer = is ∙ none in cc, is)
graded_is Warden m e = let is : Warden ≡ m = cc in (λ none. let apart : Warden ≡ Observer = is ∙ none in cc, is)
graded_is Elder m e = let is : Elder ≡ m = cc in (λ none. let apart : Elder ≡ Observer = is ∙ none in cc, is)

is_graded : (l m : Level) → IsGrade m → l ≡ m → grade_of l ≡ Some m
is_graded Observer m grade e = absurd (grade (sym e))
is_graded Apprentice m grade e = ap Some e
is_graded Journeyer m grade e = ap Some e
is_graded Master m grade e = ap Some e
is_graded Fellow m grade e = ap Some e
is_graded Warden m grade e = ap Some e
is_graded Elder m grade e = ap Some e

abbrev entry : Cert → (ℕ × ℕ) × Level
entry c = ((c.from, c.to), c.level)

listed : (levels : Pairs Level) (c : Cert) → Contains levels (entry c) → Contains (map cert_at levels) c
listed levels c (k, inside, is) = (k, omega (arith, length-map levels cert_at), get_or-map cert_at levels k (entry c) ∙ ap cert_at is)

unlisted : (levels : Pairs Level) (c : Cert) → Contains (map cert_at levels) c → Contains levels (entry c)
unlisted levels c (k, inside, is) = (k, omega (arith, length-map levels cert_at), ap entry (sym (get_or-map cert_at levels k (entry c)) ∙ is))

-- The certificates of a map's entries stand.
pub standing_mapped : (levels : Pairs Level) (cs kept : List Cert) → kept ≡ map cert_at levels → Rises levels → AreLevels levels cs → AreStanding cs kept
standing_mapped levels cs kept is rises are =
    let of_map : AreStanding cs (map cert_at levels) = record {
      few = omega (arith, length-map levels cert_at, are.count, are.few);
      rises = λ i j x less inside.
          rw (get_or-map cert_at levels i (entry x), get_or-map cert_at levels j (entry x)) (rises i j (entry x) less (omega (arith, length-map levels cert_at)));
      just = λ c. (
        λ found. graded_is _ c.level (sym (are.at c.from c.to) ∙ value_at-Contains levels (entry c) rises (unlisted levels c found)),
        λ st. listed levels c (Contains-value_at levels c.from c.to c.level (are.at c.from c.to ∙ is_graded _ c.level st.0 st.1)),
      );
    } in
    subst (AreStanding cs) (sym is) of_map

-- ---- beside one another

between_by : (accounts a b : ℕ) (c : Cert) (cs : List Cert) (is : Bool) → is_of_pair a b c ≡ is → IsBetween accounts c
    → (list_any (is_of_pair a b) cs ≡ true → (a < accounts) × (b < accounts) × (a ≢ b)) → (is || list_any (is_of_pair a b) cs) ≡ true → (a < accounts) × (b < accounts) × (a ≢ b)
between_by accounts a b c cs true is here rest any =
    let same = same_pair a b c.from c.to is in
    (omega (arith, here.giver, same.0), omega (arith, here.taker, same.1), λ e. here.others (same.0 ∙ e ∙ sym same.1))
between_by accounts a b c cs false is here rest any = rest any

between : (accounts a b : ℕ) (cs : List Cert) → All (IsBetween accounts) cs → list_any (is_of_pair a b) cs ≡ true → (a < accounts) × (b < accounts) × (a ≢ b)
between accounts a b [] all any = cc
between accounts a b (c ∷ cs) all any =
    between_by accounts a b c cs (is_of_pair a b c) refl (All-head (IsBetween accounts) c cs all) (between accounts a b cs (All-tail (IsBetween accounts) c cs all)) any

-- What stands can stand beside one another.
pub can_stand : StandingCanStand
can_stand accounts cs kept all are = record {
  few = are.few;
  among = λ k d inside.
      let c : Cert = get_or kept k d in
      let st = (are.just c).0 (Contains-get_or kept k d inside) in
      let any = some_of_pair c.from c.to cs (list_any (is_of_pair c.from c.to) cs) refl (λ none. st.0 (sym st.1 ∙ none)) in
      let found = between accounts c.from c.to cs all any in
      record { giver = found.0; taker = found.1; others = found.2; grade = st.0 };
  rises = are.rises;
}
