-- What a draft tells of the claim so far, and the draft after one line more.
use Rattle.std.proofs.Common.{◌≡◌, ◌≢◌, ℕ, ◌<◌, Bool, true, false, cond, List, [], ◌∷◌, ◌++◌, length, get_or, set, Option, Some, refl, sym, ap, ◌∙◌, arith, nat_eq, ◌&&◌, ◌||◌, inl, inr, is_some, AllPairs, Contains}
use Rattle.std.specs.Prelude.{vec_len}
use Rattle.std.specs.List.{list_any}
use Rattle.std.proofs.lemmas.Bool.{false≢true, or_parts, eq-eqb}
use Rattle.std.proofs.lemmas.List.{get_or-set_same, get_or-set_other, get_or_default}
use Rattle.std.proofs.lemmas.List.Elements.{All-push, Contains-push_cases}
use Rattle.std.proofs.lemmas.List.Folds.{list_any-append, list_any_at}
use Rattle.std.proofs.lemmas.List.Quantifiers.{all_pairs_push}
use Rattle.trust_types.specs.declared.accounts.Node.{Node}
use Rattle.trust_types.specs.declared.flows.FlowLine.{FlowLine}
use Rattle.trust_types.specs.Lines.{place, same_node}
use Rattle.pair_map.specs.Pairs.{IsSet, value_at}
use Rattle.claim_lines.specs.declared.drafts.ClaimDraft.{ClaimDraft}
use Rattle.claim_lines.specs.Claim.{Claim, is_of_pair, is_placed}
use Rattle.claim_lines.specs.Drafts.{IsClaimDraft}
use Rattle.trust_types.specs.Lines.{IsNodeAmong, IsLineAmong}
use Rattle.claim_lines.proofs.Flowing.{Differ, turned, some_units, no_units, units-push}

-- whether a pair has a line, as the map tells it
pub has_line : (n : ℕ) (d : ClaimDraft) (c : Claim) (x : Node) (b : ℕ) → IsClaimDraft n d c → is_some (value_at d.units (place x) b) ≡ list_any (is_of_pair x b) c.flow
has_line n d c x b is = ap is_some (is.units (place x) b) ∙ some_units c.flow x b

-- whether a node is placed, as the flag at its place tells it
pub is_marked : (n : ℕ) (d : ClaimDraft) (c : Claim) (x : Node) (p : ℕ) (t : Bool) → IsClaimDraft n d c → IsNodeAmong n x → p ≡ place x → t ≡ get_or d.placed.items p t → is_placed c x ≡ t
is_marked n d c x p t is among at read =
    sym (is.placed x) ∙ get_or_default d.placed.items (place x) false t (omega (arith, is.made_for, d.placed.ok.0))
    ∙ ap (λ (q : ℕ). get_or d.placed.items q t) (sym at) ∙ sym read

other_pair : (lines : List FlowLine) (l : FlowLine) (k : ℕ) (d : FlowLine) (t : Bool) → is_of_pair l.from l.to (get_or lines k d) ≡ t → k < length lines → list_any (is_of_pair l.from l.to) lines ≡ false →
    is_of_pair (get_or lines k d).from (get_or lines k d).to l ≡ false
other_pair lines l k d true e inside none = absurd (false≢true (sym none ∙ list_any_at (is_of_pair l.from l.to) lines k d inside e))
other_pair lines l k d false e inside none = turned (place (get_or lines k d).from) (get_or lines k d).to (place l.from) l.to ∙ e

differ-push : (lines : List FlowLine) (l : FlowLine) → Differ lines → list_any (is_of_pair l.from l.to) lines ≡ false → Differ (lines ++ l ∷ [])
differ-push lines l differ none =
    all_pairs_push (λ l m. is_of_pair l.from l.to m ≡ false) lines l differ (λ k d inside. other_pair lines l k d (is_of_pair l.from l.to (get_or lines k d)) refl inside none)

-- The draft after a line of a pair that had none.
pub draft-flow : (n : ℕ) (d new : ClaimDraft) (c : Claim) (l : FlowLine) → IsClaimDraft n d c → IsLineAmong n l → list_any (is_of_pair l.from l.to) c.flow ≡ false
    → IsSet d.units new.units (place l.from) l.to (Some l.units) → new.placed ≡ d.placed → new.pass ≡ d.pass → new.full ≡ d.full
    → IsClaimDraft n new (record { flow = c.flow ++ l ∷ []; pass = c.pass; full = c.full })
draft-flow n d new c l is among none written placed_is pass_is full_is = record {
  claim = record {
    lines = All-push (IsLineAmong n) c.flow l is.claim.lines among;
    lines_differ = differ-push c.flow l is.claim.lines_differ none;
    pass = is.claim.pass;
    full = is.claim.full;
    pass_differ = is.claim.pass_differ;
    full_differ = is.claim.full_differ;
    apart = is.claim.apart;
  };
  made_for = ap vec_len placed_is ∙ is.made_for;
  units = λ p b. written p b ∙ ap (λ (o : Option ℕ). cond (nat_eq (place l.from) p && nat_eq l.to b) (Some l.units) o) (is.units p b)
      ∙ sym (units-push c.flow l (no_units c.flow l.from l.to none) p b);
  placed = λ x. ap (λ v. get_or v.items (place x) false) placed_is ∙ is.placed x;
  pass = ap (λ v. v.items) pass_is ∙ is.pass;
  full = ap (λ v. v.items) full_is ∙ is.full;
}

listed : (nodes : List Node) (x y : Node) → Contains nodes y → x ≡ y → list_any (same_node x) nodes ≡ true
listed nodes x y found same =
    list_any_at (same_node x) nodes found.0 y found.1 (eq-eqb (place x) (place (get_or nodes found.0 y)) (ap place (same ∙ sym found.2)))

unlisted : (nodes : List Node) (x : Node) (k : ℕ) (d : Node) → list_any (same_node x) nodes ≡ false → k < length nodes → get_or nodes k d ≢ x
unlisted nodes x k d none inside same =
    false≢true (sym none ∙ list_any_at (same_node x) nodes k d inside (eq-eqb (place x) (place (get_or nodes k d)) (ap place (sym same))))

nodes-push : (nodes : List Node) (x : Node) → AllPairs (λ y z. y ≢ z) nodes → list_any (same_node x) nodes ≡ false → AllPairs (λ y z. y ≢ z) (nodes ++ x ∷ [])
nodes-push nodes x differ none = all_pairs_push (λ y z. y ≢ z) nodes x differ (λ k d inside. unlisted nodes x k d none inside)

marked_by : (flags : List Bool) (i a : ℕ) (t : Bool) → i < length flags → nat_eq a i ≡ t → get_or (set flags i true) a false ≡ (t || get_or flags a false)
marked_by flags i a true inside e = let same : a ≡ i = grind arith in rw (same, get_or-set_same flags i true false inside) refl
marked_by flags i a false inside e = let other : a ≢ i = grind arith in get_or-set_other flags i a true false other

first : (p f t : Bool) → (t || (p || f)) ≡ ((p || (t || false)) || f)
first true true true = refl
first true true false = refl
first true false true = refl
first true false false = refl
first false true true = refl
first false true false = refl
first false false true = refl
first false false false = refl

-- what both lines of a node do to the places
placed-more : (n : ℕ) (d new : ClaimDraft) (c : Claim) (x y : Node) → IsClaimDraft n d c → IsNodeAmong n x → new.placed.items ≡ set d.placed.items (place x) true →
    get_or new.placed.items (place y) false ≡ (nat_eq (place y) (place x) || is_placed c y)
placed-more n d new c x y is among written =
    ap (λ (flags : List Bool). get_or flags (place y) false) written
    ∙ marked_by d.placed.items (place x) (place y) (nat_eq (place y) (place x)) (omega (arith, is.made_for, d.placed.ok.0)) refl
    ∙ ap (λ (t : Bool). nat_eq (place y) (place x) || t) (is.placed y)

-- The draft after a line `pass NODE`.
pub draft-pass : (n : ℕ) (d new : ClaimDraft) (c : Claim) (x : Node) → IsClaimDraft n d c → IsNodeAmong n x → is_placed c x ≡ false
    → vec_len new.placed ≡ vec_len d.placed → new.placed.items ≡ set d.placed.items (place x) true → new.units ≡ d.units → new.pass.items ≡ d.pass.items ++ x ∷ [] → new.full ≡ d.full
    → IsClaimDraft n new (record { flow = c.flow; pass = c.pass ++ x ∷ []; full = c.full })
draft-pass n d new c x is among none long placed_is units_is pass_is full_is =
    let parts = or_parts (list_any (same_node x) c.pass) (list_any (same_node x) c.full) none in record {
      claim = record {
        lines = is.claim.lines;
        lines_differ = is.claim.lines_differ;
        pass = All-push (IsNodeAmong n) c.pass x is.claim.pass among;
        full = is.claim.full;
        pass_differ = nodes-push c.pass x is.claim.pass_differ parts.0;
        full_differ = is.claim.full_differ;
        apart = λ y passes full. elim (Contains-push_cases c.pass x y passes) [
          | inl old ↦ is.claim.apart y old full
          | inr same ↦ false≢true (sym parts.1 ∙ listed c.full x y full same)
        ];
      };
      made_for = long ∙ is.made_for;
      units = λ p b. ap (λ es. value_at es p b) units_is ∙ is.units p b;
      placed = λ y. placed-more n d new c x y is among placed_is ∙ first (list_any (same_node y) c.pass) (list_any (same_node y) c.full) (same_node y x)
          ∙ ap (λ (t : Bool). t || list_any (same_node y) c.full) (sym (list_any-append (same_node y) c.pass (x ∷ [])));
      pass = pass_is ∙ ap (λ (xs : List Node). xs ++ x ∷ []) is.pass;
      full = ap (λ v. v.items) full_is ∙ is.full;
    }

-- The same with the sides of the cut exchanged.
abbrev turned_claim : Claim → Claim
turned_claim c = record { flow = c.flow; pass = c.full; full = c.pass }

abbrev turned_draft : ClaimDraft → ClaimDraft
turned_draft d = record { units = d.units; placed = d.placed; pass = d.full; full = d.pass; root = d.root; few = d.few }

or-turned : (p f : Bool) → (p || f) ≡ (f || p)
or-turned true true = refl
or-turned true false = refl
or-turned false true = refl
or-turned false false = refl

turned_is : (n : ℕ) (d : ClaimDraft) (c : Claim) → IsClaimDraft n d c → IsClaimDraft n (turned_draft d) (turned_claim c)
turned_is n d c is = record {
  claim = record {
    lines = is.claim.lines;
    lines_differ = is.claim.lines_differ;
    pass = is.claim.full;
    full = is.claim.pass;
    pass_differ = is.claim.full_differ;
    full_differ = is.claim.pass_differ;
    apart = λ x fills passes. is.claim.apart x passes fills;
  };
  made_for = is.made_for;
  units = is.units;
  placed = λ x. is.placed x ∙ or-turned (list_any (same_node x) c.pass) (list_any (same_node x) c.full);
  pass = is.full;
  full = is.pass;
}

-- The draft after a line `full NODE`.
pub draft-full : (n : ℕ) (d new : ClaimDraft) (c : Claim) (x : Node) → IsClaimDraft n d c → IsNodeAmong n x → is_placed c x ≡ false
    → vec_len new.placed ≡ vec_len d.placed → new.placed.items ≡ set d.placed.items (place x) true → new.units ≡ d.units → new.full.items ≡ d.full.items ++ x ∷ [] → new.pass ≡ d.pass
    → IsClaimDraft n new (record { flow = c.flow; pass = c.pass; full = c.full ++ x ∷ [] })
draft-full n d new c x is among none long placed_is units_is full_is pass_is =
    turned_is n (turned_draft new) (record { flow = c.flow; pass = c.full ++ x ∷ []; full = c.pass })
    (draft-pass n (turned_draft d) (turned_draft new) (turned_claim c) x (turned_is n d c is) among (or-turned (list_any (same_node x) c.full) (list_any (same_node x) c.pass) ∙ none)
    long placed_is units_is full_is pass_is)
