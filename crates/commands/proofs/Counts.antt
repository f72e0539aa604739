-- How many lines of each kind the canonical text of a proof has at most.
use Rattle.std.proofs.Common.{ℕ, ◌≡◌, ◌<◌, ◌≤◌, ◌+◌, ◌*◌, suc, true, false, ◌==◌, ◌&&◌, ◌||◌, List, [], ◌∷◌, ◌++◌, length, get_or, map, All, Contains, if◌then◌else◌, nat_lt, nat_eq, sym, subst, ◌∙◌, ap, refl, arith, zero-add, inl, inr}
use Rattle.std.specs.List.{AllPairs, list_any}
use Rattle.std.proofs.lemmas.Bool.{cases_lt}
use Rattle.std.proofs.lemmas.Bool.Decides.{nat_tests}
use Rattle.std.proofs.lemmas.Cmp.{nat_eq_equiv}
use Rattle.std.proofs.lemmas.List.{length-map, length-append, get_or-map}
use Rattle.std.proofs.lemmas.List.Elements.{All-head, All-tail, Contains-append_left, Contains-append_right}
use Rattle.std.proofs.lemmas.List.Folds.{Any-from_list_any, list_any_at}
use Rattle.std.proofs.lemmas.List.Sums.{get_or-le-sum_by}
use Rattle.std.proofs.lemmas.Map.Keys.{IsDistinct-from_apart}
use Rattle.std.proofs.lemmas.Map.Made.{length-le_from_is_member}
use Rattle.trust_types.specs.declared.levels.Level.{Level}
use Rattle.trust_types.specs.declared.levels.Level.TheVariants.{Observer, Apprentice, Journeyer, Master, Fellow, Warden, Elder}
use Rattle.trust_types.specs.declared.accounts.Node.{Node}
use Rattle.trust_types.specs.declared.accounts.Node.TheVariants.{Root, Account}
use Rattle.trust_types.specs.declared.graphs.Cert.{Cert}
use Rattle.trust_types.specs.declared.flows.FlowLine.{FlowLine}
use Rattle.trust_types.specs.Levels.{rank, IsGrade}
use Rattle.trust_types.specs.Graph.{Certificates, HasEdge}
use Rattle.trust_types.specs.Certs.{IsMadeOf}
use Rattle.trust_types.specs.Lines.{place, same_node, flow_of, is_before}

-- Items whose numbers rise from one bound and stay below another.
pub rising_between : {X : Type 0} (key : X → ℕ) (least bound : ℕ) (xs : List X) → least ≤ bound → AllPairs (λ x y. key x < key y) xs →
    All (λ x. least ≤ key x) xs → All (λ x. key x < bound) xs → length xs + least ≤ bound
rising_between key least bound [] order rises low high = omega arith
rising_between {X} key least bound (x ∷ xs) order rises low high =
    let here : least ≤ key x = All-head (λ x. least ≤ key x) x xs low in
    let below : key x < bound = All-head (λ x. key x < bound) x xs high in
    let later : (k : ℕ) (d : X) → k < length xs → least + 1 ≤ key (get_or xs k d) = λ k d inside.
    let less : key x < key (get_or xs k d) = rises 0 (suc k) d (omega arith) (omega arith) in omega arith in
    let rest : length xs + (least + 1) ≤ bound =
    rising_between key (least + 1) bound xs (omega arith) (λ i j d less inside. rises (suc i) (suc j) d (omega arith) (omega arith)) later (All-tail (λ x. key x < bound) x xs high) in
    omega arith

-- A number for the edge of a line, and for that of a certificate. Those of seeds are their own.
abbrev edge_of : FlowLine → ℕ
edge_of l = place l.from * 100000 + l.to

abbrev edge_by : Cert → ℕ
edge_by c = (c.from + 1) * 100000 + c.to

abbrev edges : List ℕ → List Cert → List ℕ
edges seeds certs = seeds ++ map edge_by certs

edge_rises : (p q b d : ℕ) → b < 100000 → (nat_lt p q || ((p == q) && nat_lt b d)) ≡ true → p * 100000 + b < q * 100000 + d
edge_rises p q b d few before = elim (cases_lt p q) [
  | inl less ↦ omega arith
  | inr past ↦
      let same : p ≡ q = grind (arith, nat_tests) in
      let less : b < d = grind (arith, nat_tests) in
      omega arith
]

-- A line whose units are some goes along an edge.
carries : (lines : List FlowLine) (k : ℕ) (d : FlowLine) → k < length lines → 0 < (get_or lines k d).units →
    0 < flow_of lines (get_or lines k d).from (get_or lines k d).to
carries lines k d inside some =
    let l : FlowLine = get_or lines k d in
    let share : FlowLine → ℕ = λ m. if same_node m.from l.from && (m.to == l.to) then m.units else 0 in
    let own : share l ≡ l.units = grind (arith, nat_tests) in
    omega (arith, get_or-le-sum_by share lines k d inside, own, some)

grade_by : (level given : Level) → IsGrade level → rank level ≤ rank given → IsGrade given
grade_by Observer given grade most = absurd (grade refl)
grade_by Apprentice given grade most = λ e. let none : rank given ≡ 0 = ap rank e in omega arith
grade_by Journeyer given grade most = λ e. let none : rank given ≡ 0 = ap rank e in omega arith
grade_by Master given grade most = λ e. let none : rank given ≡ 0 = ap rank e in omega arith
grade_by Fellow given grade most = λ e. let none : rank given ≡ 0 = ap rank e in omega arith
grade_by Warden given grade most = λ e. let none : rank given ≡ 0 = ap rank e in omega arith
grade_by Elder given grade most = λ e. let none : rank given ≡ 0 = ap rank e in omega arith

-- An edge at a level is a seed's or a certificate's.
edge_among : (g : Certificates) (level : Level) (n : ℕ) (seeds : List ℕ) (certs : List Cert) → IsGrade level → IsMadeOf g n seeds certs → (x : Node) (b : ℕ) →
    HasEdge g level x b → Contains (edges seeds certs) (place x * 100000 + b)
edge_among g level n seeds certs grade made Root b edge =
    subst (Contains (edges seeds certs)) (sym (zero-add b)) (Contains-append_left seeds (map edge_by certs) b ((made.seeded b).0 edge.1))
edge_among g level n seeds certs grade made (Account a) b edge =
    let c : Cert = record { from = a; to = b; level = g.standing a b } in
    let has : Contains certs c = (made.standing c).1 (grade_by level (g.standing a b) grade edge.2, refl) in
    let at : Contains (map edge_by certs) (edge_by c) =
    (has.0, omega (arith, has.1, length-map certs edge_by), get_or-map edge_by certs has.0 c (edge_by c) has.1 ∙ ap edge_by has.2) in
    Contains-append_right seeds (map edge_by certs) (edge_by c) at

found_among : (numbers : List ℕ) (q e : ℕ) → q ≡ e → Contains numbers e → list_any (nat_eq q) numbers ≡ true
found_among numbers q e same has =
    let is : get_or numbers has.0 e ≡ e = has.2 in
    list_any_at (nat_eq q) numbers has.0 e has.1 (grind (arith, nat_tests))

-- Lines in order that go along edges are no more than the seeds and the certificates.
pub flow_few : (g : Certificates) (level : Level) (n : ℕ) (seeds : List ℕ) (certs : List Cert) (flow : List FlowLine) → n ≤ 100000 → IsGrade level → IsMadeOf g n seeds certs →
    All (λ l. l.to < n) flow → AllPairs (λ l m. is_before l m ≡ true) flow → All (λ l. 0 < l.units) flow → ((x : Node) (b : ℕ) → 0 < flow_of flow x b → HasEdge g level x b) →
    length flow ≤ length seeds + length certs
flow_few g level n seeds certs flow few grade made takers order units kept =
    let numbers : List ℕ = map edge_of flow in
    let size : length numbers ≡ length flow = length-map flow edge_of in
    let is : (k : ℕ) (d : ℕ) (e : FlowLine) → k < length flow → get_or numbers k d ≡ edge_of (get_or flow k e) = λ k d e inside. get_or-map edge_of flow k e d inside in
    let apart : (i j d : ℕ) → i < j → j < length numbers → nat_eq (get_or numbers i d) (get_or numbers j d) ≡ false = λ i j d less inside.
    let e : FlowLine = record { from = Root; to = 0; units = 0 } in
    let taker : (get_or flow i e).to < n = takers i e (omega arith) in
    let rises : edge_of (get_or flow i e) < edge_of (get_or flow j e) =
    edge_rises (place (get_or flow i e).from) (place (get_or flow j e).from) (get_or flow i e).to (get_or flow j e).to (omega arith) (order i j e less (omega arith)) in
    let differ : get_or numbers i d < get_or numbers j d = rw (is i d e (omega arith), is j d e (omega arith)) rises in
    grind (arith, nat_tests) in
    let within : (q : ℕ) → list_any (nat_eq q) numbers ≡ true → list_any (nat_eq q) (edges seeds certs) ≡ true = λ q member.
    let found = Any-from_list_any (nat_eq q) numbers member in
    let e : FlowLine = record { from = Root; to = 0; units = 0 } in
    let l : FlowLine = get_or flow found.0 e in
    let inside : found.0 < length flow = omega (arith, found.2, size) in
    let same : q ≡ edge_of l =
    let equal : q ≡ found.1 = grind (arith, nat_tests, found.4) in equal ∙ sym found.3 ∙ is found.0 found.1 e inside in
    let has : Contains (edges seeds certs) (edge_of l) =
    edge_among g level n seeds certs grade made l.from l.to (kept l.from l.to (carries flow found.0 e inside (units found.0 e inside))) in
    found_among (edges seeds certs) q (edge_of l) same has in
    omega (
      arith,
      size,
      length-append seeds (map edge_by certs),
      length-map certs edge_by,
      length-le_from_is_member nat_eq_equiv numbers (edges seeds certs) (IsDistinct-from_apart nat_eq numbers apart) within,
    )
