-- The seeds and certificates that a graph's readers give are lists of which it is made.
use Rattle.std.proofs.Common.{◌≡◌, ℕ, zero, suc, ◌+◌, ◌-◌, ◌<◌, ◌≤◌, Bool, true, false, List, [], ◌∷◌, ◌++◌, length, get_or, refl, ap, sym, subst, ◌∙◌, ◌⊎◌, inl, inr, arith, add-one, AllPairs, Contains, IsTrue}
use Rattle.std.specs.List.Sorted.{IsStrictlyIncreasing}
use Rattle.std.proofs.lemmas.Bool.{cases_lt, cases_eq, false≢true}
use Rattle.std.proofs.lemmas.List.{length-append, get_or_append_left, get_or-append_right}
use Rattle.std.proofs.lemmas.List.Elements.{All-contains, filter_passes, Contains-append_left, Contains-append_right, Contains-append_cases, Contains-push, Contains-get_or}
use Rattle.std.proofs.lemmas.List.FromFn.{length-range_with_len, get_or-range_with_len, length-map-range_with_len, get_or-map-range_with_len}
use Rattle.std.proofs.lemmas.List.Kept.{IsStrictlyIncreasing-filter}
use Rattle.trust_types.specs.declared.limits.TheConstants.{MOST_CERTS}
use Rattle.trust_types.specs.declared.graphs.Cert.{Cert}
use Rattle.trust_types.specs.Levels.{IsGrade}
use Rattle.trust_types.specs.Graph.{Certificates}
use Rattle.trust_types.specs.Sum.{sum_below}
use Rattle.trust_types.specs.Rows.{GivesEachOnce}
use Rattle.trust_types.specs.Certs.{IsCertAmong, IsBefore, CanStand, IsMadeOf}
use Rattle.audit_text.specs.inner.Writing.{below, seeds_below, first_given, certs_below}
use Rattle.audit_text.proofs.Written.{certs_more, more_seeds, same_seeds}

below-rises : (n : ℕ) → IsStrictlyIncreasing (below n)
below-rises n k inside =
    let long : length (below n) ≡ n = length-range_with_len 0 n in
    omega (arith, get_or-range_with_len 0 n k 0 (omega arith), get_or-range_with_len 0 n (k + 1) 0 (omega arith))

pub seeds-rise : (g : Certificates) (n : ℕ) → IsStrictlyIncreasing (seeds_below g n)
seeds-rise g n = IsStrictlyIncreasing-filter g.is_seed (below n) (below-rises n)

seeds-seeded : (g : Certificates) (n a : ℕ) → Contains (seeds_below g n) a → IsTrue (g.is_seed a)
seeds-seeded g n a has = All-contains (λ x. g.is_seed x ≡ true) (seeds_below g n) a (filter_passes g.is_seed (below n)) has

seeds-by : (g : Certificates) (n a : ℕ) (t : Bool) → g.is_seed n ≡ t → g.is_seed a ≡ true → (a ≡ n) ⊎ Contains (seeds_below g n) a → Contains (seeds_below g (n + 1)) a
seeds-by g n a true e is (inl same) =
    let P : List ℕ → Type 0 = λ seeds. Contains seeds a in
    let Q : ℕ → Type 0 = λ x. Contains (seeds_below g n ++ n ∷ []) x in
    subst P (sym (more_seeds g n e)) (subst Q (sym same) (Contains-push (seeds_below g n) n))
seeds-by g n a true e is (inr has) =
    let P : List ℕ → Type 0 = λ seeds. Contains seeds a in
    subst P (sym (more_seeds g n e)) (Contains-append_left (seeds_below g n) (n ∷ []) a has)
seeds-by g n a false e is (inl same) = absurd (false≢true (sym e ∙ ap g.is_seed (sym same) ∙ is))
seeds-by g n a false e is (inr has) =
    let P : List ℕ → Type 0 = λ seeds. Contains seeds a in
    subst P (sym (same_seeds g n e)) has

seeded-seeds : (g : Certificates) (n a : ℕ) → g.is_seed a ≡ true → a < n → Contains (seeds_below g n) a
seeded-seeds g zero a is less = absurd (omega arith)
seeded-seeds g (suc n) a is less =
    let P : ℕ → Type 0 = λ m. Contains (seeds_below g m) a in
    let next : Contains (seeds_below g (n + 1)) a = elim (cases_eq a n) [
      | inl same ↦ seeds-by g n a (g.is_seed n) refl is (inl same)
      | inr other ↦ seeds-by g n a (g.is_seed n) refl is (inr (seeded-seeds g n a is (omega (arith, other))))
    ] in
    subst P (add-one n) next

-- Two lists of which each item of the one comes before each of the other.
pairs-append : {X : Type 0} (R : X → X → Type 0) (xs ys : List X) → AllPairs R xs → AllPairs R ys → ((x y : X) → Contains xs x → Contains ys y → R x y) → AllPairs R (xs ++ ys)
pairs-append {X} R xs ys of_xs of_ys across i j d before inside =
    let long : length (xs ++ ys) ≡ length xs + length ys = length-append xs ys in
    elim (cases_lt j (length xs)) [
      | inl j_left ↦
          rw (get_or_append_left xs ys d i (omega arith), get_or_append_left xs ys d j j_left) (of_xs i j d before j_left)
      | inr j_right ↦
          rw (get_or-append_right xs ys (length xs) j d refl (omega arith)) (elim (cases_lt i (length xs)) [
            | inl i_left ↦
                rw (get_or_append_left xs ys d i i_left)
                (across (get_or xs i d) (get_or ys (j - length xs) d) (Contains-get_or xs i d i_left) (Contains-get_or ys (j - length xs) d (omega arith)))
            | inr i_right ↦
                rw (get_or-append_right xs ys (length xs) i d refl (omega arith)) (of_ys (i - length xs) (j - length xs) d (omega arith) (omega arith))
          ])
    ]

module _ (g : Certificates) (degree : ℕ → ℕ) (given : ℕ → ℕ → Cert) where
  length-certs : (n : ℕ) → length (certs_below degree given n) ≡ sum_below n degree
  length-certs zero = refl
  length-certs (suc n) =
      let step : length (certs_below degree given (n + 1)) ≡ length (certs_below degree given n) + degree n =
      ap length (certs_more degree given n) ∙ length-append (certs_below degree given n) (first_given given n (degree n))
      ∙ ap (λ m. length (certs_below degree given n) + m) (length-map-range_with_len (given n) 0 (degree n)) in
      rw add-one at step ∙ ap (λ m. m + degree n) (length-certs n)

  -- a certificate of an account's is one that it gives
  from-given : (a : ℕ) (c : Cert) → Contains (first_given given a (degree a)) c → (i : ℕ) × (i < degree a) × (given a i ≡ c)
  from-given a c has =
      let long : length (first_given given a (degree a)) ≡ degree a = length-map-range_with_len (given a) 0 (degree a) in
      let inside : has.0 < degree a = omega (arith, has.1) in
      (has.0, inside, sym (get_or-map-range_with_len (given a) 0 (degree a) has.0 has.0 c inside (omega arith)) ∙ has.2)

  into-given : (a i : ℕ) → i < degree a → Contains (first_given given a (degree a)) (given a i)
  into-given a i inside =
      let long : length (first_given given a (degree a)) ≡ degree a = length-map-range_with_len (given a) 0 (degree a) in
      (i, omega arith, get_or-map-range_with_len (given a) 0 (degree a) i i (given a i) inside (omega arith))

  certs-suc : (n : ℕ) → certs_below degree given (suc n) ≡ certs_below degree given n ++ first_given given n (degree n)
  certs-suc n = rw add-one at (certs_more degree given n)

  from-certs : (n : ℕ) (c : Cert) → Contains (certs_below degree given n) c → (a i : ℕ) × (a < n) × (i < degree a) × (given a i ≡ c)
  from-certs zero c has = absurd (omega (arith, has.1))
  from-certs (suc n) c has =
      elim (Contains-append_cases (certs_below degree given n) (first_given given n (degree n)) c (subst (λ (certs : List Cert). Contains certs c) (certs-suc n) has)) [
        | inl old ↦ let r = from-certs n c old in (r.0, r.1, omega (arith, r.2), r.3, r.4)
        | inr new ↦ let r = from-given n c new in (n, r.0, omega arith, r.1, r.2)
      ]

  into-certs : (n a i : ℕ) → a < n → i < degree a → Contains (certs_below degree given n) (given a i)
  into-certs zero a i less inside = absurd (omega arith)
  into-certs (suc n) a i less inside =
      let P : List Cert → Type 0 = λ certs. Contains certs (given a i) in
      subst P (sym (certs-suc n)) (elim (cases_eq n a) [
        | inl same ↦
            let Q : ℕ → Type 0 = λ b. Contains (certs_below degree given n ++ first_given given b (degree b)) (given a i) in
            subst Q (sym same) (Contains-append_right (certs_below degree given n) (first_given given a (degree a)) (given a i) (into-given a i inside))
        | inr other ↦ Contains-append_left (certs_below degree given n) (first_given given n (degree n)) (given a i) (into-certs n a i (omega (arith, other)) inside)
      ])

  -- the certificates of one account rise by taker
  given-rises : GivesEachOnce g degree given → (a : ℕ) → a < g.accounts → AllPairs IsBefore (first_given given a (degree a))
  given-rises each a below i j d before inside =
      let long : length (first_given given a (degree a)) ≡ degree a = length-map-range_with_len (given a) 0 (degree a) in
      let within : j < degree a = omega arith in
      let first : get_or (first_given given a (degree a)) i d ≡ given a i = get_or-map-range_with_len (given a) 0 (degree a) i i d (omega arith) (omega arith) in
      let second : get_or (first_given given a (degree a)) j d ≡ given a j = get_or-map-range_with_len (given a) 0 (degree a) j j d within (omega arith) in
      let giver : (given a i).from ≡ (given a j).from = each.giver a i below (omega arith) ∙ sym (each.giver a j below within) in
      let P : Cert → Type 0 = λ x. IsBefore x (get_or (first_given given a (degree a)) j d) in
      let Q : Cert → Type 0 = λ y. IsBefore (given a i) y in
      subst P (sym first) (subst Q (sym second) (inr (giver, each.rises a i j below before within)))

  certs-rise : GivesEachOnce g degree given → (n : ℕ) → n ≤ g.accounts → AllPairs IsBefore (certs_below degree given n)
  certs-rise each zero within = λ i j d before inside. absurd (omega arith)
  certs-rise each (suc n) within =
      let P : List Cert → Type 0 = λ certs. AllPairs IsBefore certs in
      subst P (sym (certs-suc n)) (pairs-append IsBefore (certs_below degree given n) (first_given given n (degree n)) (certs-rise each n (omega arith)) (given-rises each n (omega arith))
      (λ x y has_x has_y.
      let r = from-certs n x has_x in
      let s = from-given n y has_y in
      let giver_x : x.from ≡ r.0 = ap (λ (c : Cert). c.from) (sym r.4) ∙ each.giver r.0 r.1 (omega (arith, r.2)) r.3 in
      let giver_y : y.from ≡ n = ap (λ (c : Cert). c.from) (sym s.2) ∙ each.giver n s.0 (omega arith) s.1 in
      inl (omega (arith, r.2))))

  -- What is known of a graph's readers: the certificates that they give are all that stand, and only accounts are seeds.
  pub record AreReaders : Type 0 where
    pub each : GivesEachOnce g degree given
    pub seeds : (a : ℕ) → IsTrue (g.is_seed a) → a < g.accounts
    pub within : (a b : ℕ) → IsGrade (g.standing a b) → (a < g.accounts) × (b < g.accounts)
    pub few : sum_below g.accounts degree ≤ MOST_CERTS

  pub can-stand : AreReaders → CanStand g.accounts (certs_below degree given g.accounts)
  can-stand are = record {
    few = omega (arith, length-certs g.accounts, are.few);
    among = λ k d inside.
        let r = from-certs g.accounts (get_or (certs_below degree given g.accounts) k d) (Contains-get_or (certs_below degree given g.accounts) k d inside) in
        let giver : (given r.0 r.1).from ≡ r.0 = are.each.giver r.0 r.1 r.2 r.3 in
        subst (IsCertAmong g.accounts) r.4 (record {
          giver = omega (arith, r.2);
          taker = are.each.taker r.0 r.1 r.2 r.3;
          others = λ same. are.each.others r.0 r.1 r.2 r.3 (sym same ∙ giver);
          grade = are.each.grade r.0 r.1 r.2 r.3;
        });
    rises = certs-rise are.each g.accounts (omega arith);
  }

  abbrev StandsAs : Cert → Type 0
  StandsAs c = IsGrade c.level × (g.standing c.from c.to ≡ c.level)

  stands-given : AreReaders → (c : Cert) → Contains (certs_below degree given g.accounts) c → StandsAs c
  stands-given are c has =
      let r = from-certs g.accounts c has in
      let giver : (given r.0 r.1).from ≡ r.0 = are.each.giver r.0 r.1 r.2 r.3 in
      subst StandsAs r.4 (are.each.grade r.0 r.1 r.2 r.3, ap (λ a. g.standing a (given r.0 r.1).to) giver ∙ are.each.stands r.0 r.1 r.2 r.3)

  given-stands : AreReaders → (c : Cert) → StandsAs c → Contains (certs_below degree given g.accounts) c
  given-stands are c stands =
      let grade : IsGrade (g.standing c.from c.to) = subst IsGrade (sym stands.1) stands.0 in
      let within = are.within c.from c.to grade in
      let found = are.each.complete c.from c.to within.0 within.1 grade in
      let giver : (given c.from found.0).from ≡ c.from = are.each.giver c.from found.0 within.0 found.1 in
      let level : (given c.from found.0).level ≡ c.level =
      sym (are.each.stands c.from found.0 within.0 found.1) ∙ ap (λ b. g.standing c.from b) found.2 ∙ stands.1 in
      let same : given c.from found.0 ≡ c = λ i. record { from = giver i; to = found.2 i; level = level i } in
      let P : Cert → Type 0 = λ d. Contains (certs_below degree given g.accounts) d in
      subst P same (into-certs g.accounts c.from found.0 within.0 found.1)

  pub made-of : AreReaders → IsMadeOf g g.accounts (seeds_below g g.accounts) (certs_below degree given g.accounts)
  made-of are = record {
    size = refl;
    seeded = λ a. (λ is. seeded-seeds g g.accounts a is (are.seeds a is), seeds-seeded g g.accounts a);
    standing = λ c. (stands-given are c, given-stands are c);
  }
