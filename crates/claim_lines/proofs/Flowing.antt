-- The units that the lines of a flow have on a pair.
use Rattle.std.proofs.Common.{◌≡◌, ℕ, zero, suc, ◌+◌, ◌<◌, Bool, true, false, cond, List, [], ◌∷◌, ◌++◌, get_or, map, Option, Some, None, refl, sym, ap, subst, ◌∙◌, arith, nat_eq, nat_lt, ◌&&◌, ◌||◌, ◌⊎◌, is_some, AllPairs, Contains}
use Rattle.std.specs.Prelude.{unwrap_or}
use Rattle.std.specs.List.{list_any}
use Rattle.std.proofs.lemmas.List.{get_or-map, length-map}
use Rattle.std.proofs.lemmas.List.Folds.{list_any_none}
use Rattle.std.proofs.lemmas.List.Sums.{sum_by-cons}
use Rattle.std.proofs.lemmas.Map.Entries.{lookup_head, lookup_tail}
use Rattle.trust_types.specs.declared.accounts.Node.{Node}
use Rattle.trust_types.specs.declared.accounts.Node.TheVariants.{Root, Account}
use Rattle.trust_types.specs.declared.flows.FlowLine.{FlowLine}
use Rattle.trust_types.specs.Lines.{place, is_before, flow_of}
use Rattle.pair_map.specs.Pairs.{Pairs, Rises}
use Rattle.claim_lines.specs.Claim.{is_of_pair}
use Rattle.claim_lines.specs.inner.Flows.{node_at, line_of, entry_of, units_at}

-- No pair has two lines.
abbrev pub Differ : List FlowLine → Type 0
Differ lines = AllPairs (λ l m. is_of_pair l.from l.to m ≡ false) lines

pub same_place : (x y : Node) → place x ≡ place y → x ≡ y
same_place Root Root e = refl
same_place Root (Account b) e = absurd (omega arith)
same_place (Account a) Root e = absurd (omega arith)
same_place (Account a) (Account b) e = ap Account (omega arith)

pub turned : (p b q d : ℕ) → (nat_eq p q && nat_eq b d) ≡ (nat_eq q p && nat_eq d b)
turned p b q d = grind arith

same_pair : (p b q d : ℕ) → (nat_eq p q && nat_eq b d) ≡ true → (p ≡ q) × (b ≡ d)
same_pair p b q d e = (grind arith, grind arith)

own_pair : (p b : ℕ) → (nat_eq p p && nat_eq b b) ≡ true
own_pair p b = grind arith

some_or : {A : Type 0} (t : Bool) (v : A) (o : Option A) → is_some (cond t (Some v) o) ≡ (t || is_some o)
some_or true v o = refl
some_or false v o = refl

pub some_units : (lines : List FlowLine) (x : Node) (b : ℕ) → is_some (units_at lines (place x) b) ≡ list_any (is_of_pair x b) lines
some_units [] x b = refl
some_units (l ∷ ls) x b = some_or (is_of_pair x b l) l.units (units_at ls (place x) b) ∙ ap (λ (r : Bool). is_of_pair x b l || r) (some_units ls x b)

none_of : {A : Type 0} (o : Option A) → is_some o ≡ false → o ≡ None
none_of None e = refl
none_of (Some x) e = cc

pub no_units : (lines : List FlowLine) (x : Node) (b : ℕ) → list_any (is_of_pair x b) lines ≡ false → units_at lines (place x) b ≡ None
no_units lines x b e = none_of (units_at lines (place x) b) (some_units lines x b ∙ e)

none_parts : {A : Type 0} (t : Bool) (v : A) (o : Option A) → cond t (Some v) o ≡ None → (t ≡ false) × (o ≡ None)
none_parts true v o e = cc
none_parts false v o e = (refl, e)

not_both : (p b q d s e : ℕ) → (nat_eq q s && nat_eq d e) ≡ false → (nat_eq p s && nat_eq b e) ≡ true → (nat_eq q p && nat_eq d b) ≡ false
not_both p b q d s e none here = grind arith

step_by : {A : Type 0} (t u : Bool) (v w : A) (o r : Option A) → (t ≡ true → u ≡ false) → r ≡ cond u (Some v) o → cond t (Some w) r ≡ cond u (Some v) (cond t (Some w) o)
step_by true u v w o r apart ih = rw (apart refl) refl
step_by false u v w o r apart ih = ih

-- A new pair's line at the end.
pub units-push : (lines : List FlowLine) (l : FlowLine) → units_at lines (place l.from) l.to ≡ None → (p b : ℕ) →
    units_at (lines ++ l ∷ []) p b ≡ cond (nat_eq (place l.from) p && nat_eq l.to b) (Some l.units) (units_at lines p b)
units-push [] l none p b = ap (λ (t : Bool). cond t (Some l.units) None) (turned p b (place l.from) l.to)
units-push (m ∷ ms) l none p b =
    let parts = none_parts (is_of_pair l.from l.to m) m.units (units_at ms (place l.from) l.to) none in
    step_by (nat_eq p (place m.from) && nat_eq b m.to) (nat_eq (place l.from) p && nat_eq l.to b) l.units m.units (units_at ms p b) (units_at (ms ++ l ∷ []) p b) (not_both p b (place l.from) l.to (place m.from) m.to parts.0)
    (units-push ms l parts.1 p b)

line_is : (m l : FlowLine) → m.from ≡ l.from → m.to ≡ l.to → m.units ≡ l.units → m ≡ l
line_is m l giver taker units =
    let from : Node → FlowLine = λ x. record { from = x; to = m.to; units = m.units } in
    let to : ℕ → FlowLine = λ b. record { from = l.from; to = b; units = m.units } in
    let by : ℕ → FlowLine = λ n. record { from = l.from; to = l.to; units = n } in
    ap from giver ∙ ap to taker ∙ ap by units

found_by : (m : FlowLine) (ms : List FlowLine) (l : FlowLine) (t : Bool) → is_of_pair l.from l.to m ≡ t → cond t (Some m.units) (units_at ms (place l.from) l.to) ≡ Some l.units →
    (units_at ms (place l.from) l.to ≡ Some l.units → Contains ms l) → Contains (m ∷ ms) l
found_by m ms l true e found behind =
    let both = same_pair (place l.from) l.to (place m.from) m.to e in
    let units : m.units ≡ l.units = cc in
    (zero, omega arith, line_is m l (same_place m.from l.from (sym both.0)) (sym both.1) units)
found_by m ms l false e found behind = let rest = behind found in (suc rest.0, omega (arith, rest.1), rest.2)

found : (lines : List FlowLine) (l : FlowLine) → units_at lines (place l.from) l.to ≡ Some l.units → Contains lines l
found [] l e = cc
found (m ∷ ms) l e = found_by m ms l (is_of_pair l.from l.to m) refl e (found ms l)

tail_differs : (m : FlowLine) (ms : List FlowLine) → Differ (m ∷ ms) → Differ ms
tail_differs m ms differ = λ i j d less inside. differ (suc i) (suc j) d (omega arith) (omega arith)

kept : (lines : List FlowLine) (l : FlowLine) → Differ lines → Contains lines l → units_at lines (place l.from) l.to ≡ Some l.units
kept [] l differ (k, inside, is) = absurd (omega arith)
kept (m ∷ ms) l differ (zero, inside, is) =
    let Found : FlowLine → Type 0 = λ x. units_at (m ∷ ms) (place x.from) x.to ≡ Some x.units in
    subst Found is (lookup_head (λ (k : ℕ × ℕ). nat_eq (place m.from) k.0 && nat_eq m.to k.1) (entry_of m) (map entry_of ms) (own_pair (place m.from) m.to))
kept (m ∷ ms) l differ (suc k, inside, is) =
    let before : is_of_pair m.from m.to l ≡ false = rw is at (differ 0 (suc k) l (omega arith) inside) in
    lookup_tail (λ (k : ℕ × ℕ). nat_eq (place l.from) k.0 && nat_eq l.to k.1) (entry_of m) (map entry_of ms) (turned (place l.from) l.to (place m.from) m.to ∙ before)
    ∙ kept ms l (tail_differs m ms differ) (k, omega arith, is)

-- A line is in the list where the list has its units on its pair.
pub contained : (lines : List FlowLine) (l : FlowLine) → Differ lines → (units_at lines (place l.from) l.to ≡ Some l.units → Contains lines l) × (Contains lines l → units_at lines (place l.from) l.to ≡ Some l.units)
contained lines l differ = (found lines l, kept lines l differ)

flow_by : (x : Node) (b : ℕ) (m : FlowLine) (ms : List FlowLine) (t : Bool) → (nat_eq (place m.from) (place x) && nat_eq m.to b) ≡ t → flow_of ms x b ≡ unwrap_or (units_at ms (place x) b) 0 →
    (t ≡ true → units_at ms (place x) b ≡ None) → flow_of (m ∷ ms) x b ≡ unwrap_or (cond t (Some m.units) (units_at ms (place x) b)) 0
flow_by x b m ms true e behind none =
    let here : flow_of (m ∷ ms) x b ≡ m.units + flow_of ms x b = sum_by-cons _ m ms ∙ ap (λ (t : Bool). cond t m.units 0 + flow_of ms x b) e in
    let rest : flow_of ms x b ≡ 0 = behind ∙ ap (λ (o : Option ℕ). unwrap_or o 0) (none refl) in
    omega arith
flow_by x b m ms false e behind none =
    let here : flow_of (m ∷ ms) x b ≡ 0 + flow_of ms x b = sum_by-cons _ m ms ∙ ap (λ (t : Bool). cond t m.units 0 + flow_of ms x b) e in
    let rest : 0 + flow_of ms x b ≡ flow_of ms x b = omega arith in
    here ∙ rest ∙ behind

none_behind : (m : FlowLine) (ms : List FlowLine) → Differ (m ∷ ms) → units_at ms (place m.from) m.to ≡ None
none_behind m ms differ = no_units ms m.from m.to (list_any_none (is_of_pair m.from m.to) ms (λ k d inside. differ 0 (suc k) d (omega arith) (omega arith)))

none_at : (m : FlowLine) (ms : List FlowLine) (p b : ℕ) → Differ (m ∷ ms) → (nat_eq (place m.from) p && nat_eq m.to b) ≡ true → units_at ms p b ≡ None
none_at m ms p b differ e =
    let both = same_pair (place m.from) m.to p b e in
    ap (λ (q : ℕ). units_at ms q b) (sym both.0) ∙ ap (λ (d : ℕ). units_at ms (place m.from) d) (sym both.1) ∙ none_behind m ms differ

-- The flow of lines that differ.
pub flow_by_units : (lines : List FlowLine) (x : Node) (b : ℕ) → Differ lines → flow_of lines x b ≡ unwrap_or (units_at lines (place x) b) 0
flow_by_units [] x b differ = refl
flow_by_units (m ∷ ms) x b differ =
    flow_by x b m ms (nat_eq (place m.from) (place x) && nat_eq m.to b) refl (flow_by_units ms x b (tail_differs m ms differ)) (none_at m ms (place x) b differ)
    ∙ ap (λ (t : Bool). unwrap_or (cond t (Some m.units) (units_at ms (place x) b)) 0) (turned (place m.from) m.to (place x) b)

place_at : (p : ℕ) → place (node_at p) ≡ p
place_at zero = refl
place_at (suc a) = omega arith

entry-line : (e : (ℕ × ℕ) × ℕ) → entry_of (line_of e) ≡ e
entry-line e = let entry : ℕ → (ℕ × ℕ) × ℕ = λ p. ((p, e.0.1), e.1) in ap entry (place_at e.0.0)

pub entries-lines : (es : Pairs ℕ) → map entry_of (map line_of es) ≡ es
entries-lines [] = refl
entries-lines (e ∷ es) = rw (entry-line e, entries-lines es) refl

before : (p b q d : ℕ) → (p < q) ⊎ ((p ≡ q) × (b < d)) → (nat_lt p q || (nat_eq p q && nat_lt b d)) ≡ true
before p b q d less = grind arith

pub lines_rise : (es : Pairs ℕ) → Rises es → AllPairs (λ l m. is_before l m ≡ true) (map line_of es)
lines_rise es rise = λ i j d less inside.
    let long = length-map es line_of in
    let e : (ℕ × ℕ) × ℕ = ((0, 0), 0) in
    let first : get_or (map line_of es) i d ≡ line_of (get_or es i e) = get_or-map line_of es i e d (omega arith) in
    let second : get_or (map line_of es) j d ≡ line_of (get_or es j e) = get_or-map line_of es j e d (omega arith) in
    rw (first, second, place_at (get_or es i e).0.0, place_at (get_or es j e).0.0) (before _ _ _ _ (rise i j e less (omega arith)))

apart : (p b q d : ℕ) → (nat_lt p q || (nat_eq p q && nat_lt b d)) ≡ true → (nat_eq p q && nat_eq b d) ≡ false
apart p b q d less = grind arith

pub rising_differ : (lines : List FlowLine) → AllPairs (λ l m. is_before l m ≡ true) lines → Differ lines
rising_differ lines rise = λ i j d less inside.
    let l : FlowLine = get_or lines i d in
    let m : FlowLine = get_or lines j d in apart (place l.from) l.to (place m.from) m.to (rise i j d less inside)
