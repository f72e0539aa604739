-- The arcs that were laid out are those of the split graph, in their places.
use Rattle.std.proofs.Common.{ℕ, zero, suc, Bool, true, false, ◌+◌, ◌*◌, ◌^◌, ◌≡◌, ◌≤◌, ◌<◌, refl, arith, ap, sym, subst, ◌∙◌, if◌then◌else◌, List, [], ◌∷◌, ◌++◌, length, get_or, length-append}
use Rattle.std.proofs.lemmas.List.{length-replicate}
use Rattle.trust_types.specs.declared.accounts.Node.{Node}
use Rattle.trust_types.specs.declared.accounts.Node.TheVariants.{Root, Account}
use Rattle.trust_types.specs.Rows.{GivesEachOnce}
use Rattle.trust_types.specs.Sum.{sum_below}
use Rattle.trust_types.proofs.Sums.{sum_below-eq}
use Rattle.frozen.specs.Sites.{Parts, accounts, degree, taker, given, certificates_of}
use Rattle.frozen.specs.Revision.{Revision, certificates}
use Rattle.split_graph.specs.declared.split_arcs.SplitArc.{SplitArc}
use Rattle.split_flow.specs.Split.{SplitNode, InHalf, OutHalf, Supersink, IsNode}
use Rattle.split_graph.specs.Numbers.{node_number, node_count}
use Rattle.split_graph.specs.Arcs.{blank, AreArcs, LeadsTo}
use Rattle.split_graph.specs.inner.SplitArcs.{joined_below, arc_from, through_arc, own_arcs, edge_arc, seed_arcs, cert_arcs, row_arcs, split_arcs}
use Rattle.split_graph.specs.inner.Layout.{Table, arc_at, ends_at, Joins, AreSplitArcs, IsLaidOut, IsArcAt, ArePlaced}
use Rattle.split_graph.specs.Network.{AreInPlace, seeds_before, given_count, IsTaker}
use Rattle.split_graph.specs.inner.Held.{arcs_in}
use Rattle.split_graph.proofs.Places.{first_more, place_of, placed_before}
use Rattle.split_graph.proofs.Counts.{places-all}
use Rattle.split_graph.proofs.Lists.{StandsAt, all_ends}
use Rattle.split_graph.proofs.Listed.{Listing, listed, are_split_arcs, root_at, through_at, end_at, seed_at, cert_at, ends-root}
use Rattle.split_graph.proofs.Filled.{none_rests}

-- what holds once all arcs were placed
pub record Built : Type 0 where
  pub n : ℕ
  pub arcs : List SplitArc
  pub t : Table
  pub fits : n ≤ 100000
  pub few : length arcs < 2 ^ 30
  pub long : node_count n < length t.first
  pub enough : 2 * length arcs ≤ length t.rest
  pub are : AreSplitArcs (node_count n) arcs
  pub laid : IsLaidOut (node_count n) arcs t.first
  pub placed : ArePlaced (node_count n) arcs (length arcs) t

-- the node of each arc, and its facts
arc_of_place : (b : Built) (e : ℕ) → e < get_or b.t.first (node_count b.n) 0 →
    (v : ℕ) × (v < node_count b.n) × (get_or b.t.first v 0 ≤ e) × (e < get_or b.t.first (v + 1) 0) × IsArcAt (node_count b.n) b.arcs (length b.arcs) b.t v e
arc_of_place b e below =
    let v = place_of (node_count b.n) b.arcs b.t.first b.laid (node_count b.n) e (omega arith) below in
    (v.0, v.1, v.2, v.3, b.placed.residual v.0 e v.1 v.2 (omega (arith, b.placed.next v.0 v.1, b.laid.goes_on v.0 v.1, v.3)))

-- no two residual arcs have both ends in common
simple_at : (b : Built) (v w d e : ℕ) → IsArcAt (node_count b.n) b.arcs (length b.arcs) b.t v d → IsArcAt (node_count b.n) b.arcs (length b.arcs) b.t w e →
    v ≡ w → get_or b.t.head d 0 ≡ get_or b.t.head e 0 → d ≡ e
simple_at b v w d e one other tail head =
    let same : one.number ≡ other.number =
    b.are.simple one.number other.number w (get_or b.t.head e 0) one.before other.before
    (subst (λ (k : ℕ). Joins (arc_at b.arcs one.number) w k) head (subst (λ (u : ℕ). Joins (arc_at b.arcs one.number) u (get_or b.t.head d 0)) tail one.joins))
    other.joins in
    let place : ℕ → ℕ → ℕ = λ u k. get_or b.t.first u 0 + ends_at b.arcs k u in
    one.at ∙ ap (λ (u : ℕ). place u one.number) tail ∙ ap (place w) same ∙ sym other.at

are_arcs : (b : Built) → AreArcs (blank (arcs_in b.n b.t))
are_arcs b =
    let nodes : ℕ = node_count b.n in
    let first : List ℕ = b.t.first in
    record {
      few = omega (arith, b.few, places-all nodes b.arcs first b.are b.laid);
      accounts_fit = b.fits;
      first_long = b.long;
      head_long = b.placed.head_long;
      twin_long = b.placed.twin_long;
      rest_long = omega (arith, b.enough, places-all nodes b.arcs first b.are b.laid, length-replicate {A = ℕ} (length b.t.rest) 0);
      first_within = λ u le. first_more nodes b.arcs first b.laid u nodes le (omega arith);
      rising = λ u below. omega (arith, b.laid.goes_on u below);
      head_within = λ e below. (arc_of_place b e below).4.within;
      twin_within = λ e below.
          let v = arc_of_place b e below in
          let h : ℕ = get_or b.t.head e 0 in
          omega (arith, v.4.twin_before, b.placed.next h v.4.within, b.laid.goes_on h v.4.within, first_more nodes b.arcs first b.laid (h + 1) nodes (omega (arith, v.4.within)) (omega arith));
      twin_back = λ e below. (arc_of_place b e below).4.back;
      apart = λ e below same. let v = arc_of_place b e below in v.4.apart (sym same ∙ v.4.turn);
      simple = λ d e d_below e_below tail head.
          let v = arc_of_place b d d_below in
          let w = arc_of_place b e e_below in
          simple_at b v.0 w.0 d e v.4 w.4 (sym v.4.turn ∙ tail ∙ w.4.turn) head;
      from_first = λ e below. let v = arc_of_place b e below in omega (arith, ap (λ (i : ℕ). get_or first i 0) v.4.turn, v.2);
      before_next = λ e below. let v = arc_of_place b e below in omega (arith, ap (λ (i : ℕ). get_or first (i + 1) 0) v.4.turn, v.3);
      leaves = λ u e u_in from before. (b.placed.residual u e u_in from (omega (arith, b.placed.next u u_in, b.laid.goes_on u u_in))).turn;
      room = λ e below. omega (arith, none_rests (length b.t.rest) e, none_rests (length b.t.rest) (get_or b.t.twin e 0));
    }

-- where an arc of the list is
leads_to : (b : Built) (u v : SplitNode) (i : ℕ) → node_number u < node_count b.n → StandsAt b.arcs (arc_from u v) i → LeadsTo (arcs_in b.n b.t) u v (get_or b.t.first (node_number u) 0 + i)
leads_to b u v i below at =
    let first : List ℕ = b.t.first in
    let from : ℕ = node_number u in
    let are : AreArcs (blank (arcs_in b.n b.t)) = are_arcs b in
    let from_is : (arc_at b.arcs at.number).from ≡ from = ap (λ (y : SplitArc). y.from) at.is in
    let before : get_or first from 0 + i < get_or first (from + 1) 0 = placed_before (node_count b.n) b.arcs first b.laid at.number from i at.within below from_is at.before in
    let place : get_or first (arc_at b.arcs at.number).from 0 + ends_at b.arcs at.number (arc_at b.arcs at.number).from ≡ get_or first from 0 + i =
    ap (λ (k : ℕ). get_or first k 0 + ends_at b.arcs at.number k) from_is ∙ ap (λ (k : ℕ). get_or first from 0 + k) at.before in
    record {
      within = omega (arith, before, are.first_within (from + 1) (omega arith));
      tail = are.leaves from (get_or first from 0 + i) below (omega arith) before;
      head = ap (λ (k : ℕ). get_or b.t.head k 0) (sym place) ∙ b.placed.at at.number at.within ∙ ap (λ (y : SplitArc). y.to) at.is;
    }

-- a table of the arcs that were listed for a graph
pub record Loading : Type 0 where
  pub graph : Revision
  pub readers : GivesEachOnce (certificates graph) (degree graph.parts) (given graph.parts)
  pub n : ℕ
  pub arcs : List SplitArc
  pub t : Table
  pub size : n ≡ (certificates graph).accounts
  pub fits : n ≤ 100000
  pub few : length arcs < 2 ^ 30
  pub listed : arcs ≡ split_arcs graph.parts
  pub long : node_count n < length t.first
  pub enough : 2 * length arcs ≤ length t.rest
  pub laid : IsLaidOut (node_count n) arcs t.first
  pub placed : ArePlaced (node_count n) arcs (length arcs) t

abbrev listing : Loading → Listing
listing l = record { r = l.graph.parts; readers = l.readers }

are_listed : (l : Loading) → AreSplitArcs (node_count l.n) l.arcs
are_listed l =
    subst (λ (k : ℕ). AreSplitArcs (node_count k) l.arcs) (sym l.size)
    (subst (λ (arcs : List SplitArc). AreSplitArcs (node_count (certificates l.graph).accounts) arcs) (sym l.listed) (are_split_arcs (listing l)))

abbrev built : Loading → Built
built l = record { n = l.n; arcs = l.arcs; t = l.t; fits = l.fits; few = l.few; long = l.long; enough = l.enough; are = are_listed l; laid = l.laid; placed = l.placed }

pub laid_arcs : (l : Loading) → AreArcs (blank (arcs_in l.n l.t))
laid_arcs l = are_arcs (built l)

leads_at : (l : Loading) (u v : SplitNode) (i : ℕ) → node_number u < node_count (certificates l.graph).accounts → StandsAt (listed (listing l)) (arc_from u v) i → LeadsTo (arcs_in l.n l.t) u v (get_or l.t.first (node_number u) 0 + i)
leads_at l u v i below at = leads_to (built l) u v i (omega (arith, below, l.size)) (subst (λ (arcs : List SplitArc). StandsAt arcs (arc_from u v) i) (sym l.listed) at)

through_place : (l : Loading) (x : Node) → node_number (InHalf x) < node_count (certificates l.graph).accounts → StandsAt (listed (listing l)) (through_arc x) 0 → LeadsTo (arcs_in l.n l.t) (InHalf x) (OutHalf x) (get_or l.t.first (node_number (InHalf x)) 0)
through_place l x below at =
    let e : get_or l.t.first (node_number (InHalf x)) 0 + 0 ≡ get_or l.t.first (node_number (InHalf x)) 0 = omega arith in
    subst (λ (i : ℕ). LeadsTo (arcs_in l.n l.t) (InHalf x) (OutHalf x) i) e (leads_at l (InHalf x) (OutHalf x) 0 below at)

through_each : (l : Loading) (x : Node) → IsNode (certificates l.graph).accounts x → LeadsTo (arcs_in l.n l.t) (InHalf x) (OutHalf x) (get_or l.t.first (node_number (InHalf x)) 0)
through_each l Root is = through_place l Root (omega arith) (root_at (listing l))
through_each l (Account a) is = through_place l (Account a) (omega arith) (through_at (listing l) a is)

along_place : (l : Loading) (x : Node) (i b : ℕ) → IsTaker l.graph.parts x i b → LeadsTo (arcs_in l.n l.t) (OutHalf x) (InHalf (Account b)) (get_or l.t.first (node_number (OutHalf x)) 0 + (i + 1))
along_place l Root i b taken =
    subst (λ (k : ℕ). LeadsTo (arcs_in l.n l.t) (OutHalf Root) (InHalf (Account b)) (get_or l.t.first 2 0 + (k + 1))) taken.2
    (leads_at l (OutHalf Root) (InHalf (Account b)) (seeds_before l.graph.parts b + 1) (omega arith) (seed_at (listing l) b taken.0 taken.1))
along_place l (Account a) i b taken =
    subst (λ (k : ℕ). LeadsTo (arcs_in l.n l.t) (OutHalf (Account a)) (InHalf (Account k)) (get_or l.t.first (node_number (OutHalf (Account a))) 0 + (i + 1))) taken.2
    (leads_at l (OutHalf (Account a)) (InHalf (Account (taker l.graph.parts a i))) (i + 1) (omega (arith, taken.0)) (cert_at (listing l) a i taken.0 taken.1))

length-joined : (n : ℕ) (f : ℕ → List SplitArc) → length (joined_below n f) ≡ sum_below n (λ i. length (f i))
length-joined zero f = refl
length-joined (suc n) f = omega (arith, length-append (joined_below n f) (f n), length-joined n f)

own_two : (n : ℕ) → sum_below n (λ a. length (own_arcs a)) ≡ 2 * n
own_two zero = refl
own_two (suc n) = omega (arith, own_two n)

cert_one : (r : Parts) (a n : ℕ) → sum_below n (λ i. length (cert_arcs r a i)) ≡ n
cert_one r a zero = refl
cert_one r a (suc n) = omega (arith, cert_one r a n)

seed_one : (p : Bool) (x : SplitArc) → length (if p then x ∷ [] else []) ≡ (if p then 1 else 0)
seed_one true x = refl
seed_one false x = refl

-- how many arcs are listed
length-split_arcs : (r : Parts) → length (split_arcs r) ≡ 2 * accounts r + given_count r Root + sum_below (accounts r) (degree r) + 1
length-split_arcs r =
    let n : ℕ = accounts r in
    let own : List SplitArc = joined_below n own_arcs in
    let seeds : List SplitArc = joined_below n (seed_arcs r) in
    let certs : List SplitArc = joined_below n (row_arcs r) in
    let root : List SplitArc = through_arc Root ∷ [] in
    let seed_lengths : length seeds ≡ given_count r Root =
    length-joined n (seed_arcs r) ∙ sum_below-eq n (λ b. length (seed_arcs r b)) (λ b. if (certificates_of r).is_seed b then 1 else 0) (λ b below. seed_one ((certificates_of r).is_seed b) (edge_arc Root b)) in
    let cert_lengths : length certs ≡ sum_below n (degree r) =
    length-joined n (row_arcs r) ∙ sum_below-eq n (λ a. length (row_arcs r a)) (degree r) (λ a below. length-joined (degree r a) (cert_arcs r a) ∙ cert_one r a (degree r a)) in
    let own_lengths : length own ≡ 2 * n = length-joined n own_arcs ∙ own_two n in
    omega (arith, length-append ((root ++ own) ++ seeds) certs, length-append (root ++ own) seeds, length-append root own, own_lengths, seed_lengths, cert_lengths)

pub in_place : (l : Loading) → AreInPlace l.graph.parts (arcs_in l.n l.t)
in_place l = record {
  through = through_each l;
  only =
      let all : List SplitArc → ℕ = λ arcs. all_ends arcs 1 in
      omega (arith, l.laid.goes_on 1 (omega arith), ap all l.listed, ends-root (listing l));
  ends = λ b below. leads_at l (InHalf (Account b)) Supersink 1 (omega arith) (end_at (listing l) b below);
  number = places-all (node_count l.n) l.arcs l.t.first (are_listed l) l.laid ∙ omega (arith, ap length l.listed, length-split_arcs l.graph.parts);
  along = along_place l;
}
