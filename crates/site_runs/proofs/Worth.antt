-- A roster that is proven has as many accounts as its cut is worth, and no flow serves more.
use Rattle.std.proofs.Common.{ℕ, ◌≡◌, List, [], ◌++◌, length, sym, ap, subst, ◌∙◌}
use Rattle.trust_types.specs.declared.levels.Level.{Level}
use Rattle.trust_types.specs.declared.levels.Level.TheVariants.{Apprentice, Journeyer, Master}
use Rattle.trust_types.specs.declared.accounts.Node.{Node}
use Rattle.trust_types.specs.declared.flows.Side.{Side}
use Rattle.trust_types.specs.Tables.{Table}
use Rattle.trust_types.specs.Graph.{Certificates}
use Rattle.trust_types.specs.Capacity.{AreCapacities, entry, cap_by}
use Rattle.trust_types.specs.Flow.{total}
use Rattle.trust_types.specs.Cut.{Sides, value}
use Rattle.trust_types.specs.Lines.{flow_of, sides_of}
use Rattle.trust_types.specs.Proven.{Lists}
use Rattle.trust_types.proofs.Walks.{capacities_unique}
use Rattle.trust_types.proofs.ProvenRosters.{proven_is_greatest}
use Rattle.frozen.specs.Revision.{Revision, certificates}
use Rattle.roster_form.specs.Candidates.{IsSound}
use Rattle.cut_check.specs.Sides.{side_by}
use Rattle.drill.specs.Drill.{IsDrill}
use Rattle.site_runs.specs.Drills.{IsGreatestTotal, IsDrillLine, AreDrillLines, line_of}
use Rattle.site_runs.specs.inner.Summaries.{AddsTotal, IsWorth}
use Rattle.site_runs.proofs.Counting.{served_count}

-- What the cut of these lists is worth, by the sides and the capacities that were worked out.
pub worked_out : (f : Revision) (level : Level) (pass full : List Node) (table : Table) (root : Side) (first : ℕ) (caps : List ℕ) (sides : List Side) (worth : ℕ)
    → table ≡ f.caps → first ≡ entry table 0 → length sides ≡ (certificates f).accounts
    → AreCapacities (certificates f) level table (cap_by (entry table 0) caps) → ((x : Node) → side_by root sides x ≡ sides_of pass full x)
    → ((g : Certificates) → g.accounts ≡ length sides → worth ≡ value g (cap_by first caps) (side_by root sides)) → IsWorth f level pass full worth
worked_out f level pass full table root first caps sides worth is_table is_first long are lie is = (
  cap_by (entry table 0) caps,
  subst (λ (t : Table). AreCapacities (certificates f) level t (cap_by (entry table 0) caps)) is_table are,
  subst (λ (z : ℕ × Sides). worth ≡ value (certificates f) (cap_by z.0 caps) z.1) (λ i. (is_first i, λ x. lie x i)) (is (certificates f) (sym long)),
)

-- How many accounts the roster's flow serves.
many : (f : Revision) (level : Level) (r : Lists) → IsSound f level r → length r.served ≡ total (certificates f).accounts (flow_of r.flow)
many f level r sound = served_count (certificates f).accounts (flow_of r.flow) r.served sound.proven.0.served sound.proven.1.2.serves

greatest : (f : Revision) (level : Level) (r : Lists) → IsSound f level r → IsGreatestTotal (certificates f) level f.caps (length r.served)
greatest f level r sound = record {
  capacity = sound.proven.1.0;
  capacities = sound.proven.1.1;
  flow = flow_of r.flow;
  greatest = proven_is_greatest (certificates f) level sound.proven.1.0 r.served (flow_of r.flow) (sides_of r.pass r.full) sound.proven.1.2;
  serves = sym (many f level r sound);
}

same_worth : (f : Revision) (level : Level) (r : Lists) (worth : ℕ) → IsSound f level r → IsWorth f level r.pass r.full worth → worth ≡ length r.served
same_worth f level r worth sound is =
    let same : (x : Node) → is.0 x ≡ sound.proven.1.0 x = capacities_unique (certificates f) level f.caps is.0 sound.proven.1.0 is.1 sound.proven.1.1 in
    subst (λ (cap : Node → ℕ). worth ≡ value (certificates f) cap (sides_of r.pass r.full)) (λ i x. same x i) is.2
    ∙ sound.proven.1.2.equal ∙ sym (many f level r sound)

pub total_added : (f : Revision) (level : Level) (r : Lists) (pass full : List Node) (worth accepted : ℕ) (before after : List ℕ) → IsSound f level r
    → pass ≡ r.pass → full ≡ r.full → IsWorth f level pass full worth → accepted ≡ length r.served → after ≡ before ++ line_of level accepted worth → AddsTotal f level before after
total_added f level r pass full worth accepted before after sound is_pass is_full is count added =
    let here : IsWorth f level r.pass r.full worth = subst (λ (z : List Node × List Node). IsWorth f level z.0 z.1 worth) (λ i. (is_pass i, is_full i)) is in (
      length r.served,
      greatest f level r sound,
      added ∙ ap (λ (z : ℕ × ℕ). before ++ line_of level z.0 z.1) (λ i. (count i, same_worth f level r worth sound here i)),
    )

-- A line that was added over the drill's site is a line of the drill.
drilled : (number : ℕ) (f g : Revision) (level : Level) (before after : List ℕ) → IsDrill number f → g ≡ f → AddsTotal g level before after →
    (line : List ℕ) × IsDrillLine number level line × (after ≡ before ++ line)
drilled number f g level before after is same adds =
    let over : AddsTotal f level before after = subst (λ (r : Revision). AddsTotal r level before after) same adds in (
      line_of level over.0 over.0,
      (over.0, subst (λ (z : Certificates × Table). IsGreatestTotal z.0 level z.1 over.0) (λ i. (is.graph i, is.table i)) over.1, λ _. line_of level over.0 over.0),
      over.2,
    )

pub all_drilled : (number : ℕ) (f g h k : Revision) (start a b c : List ℕ) → IsDrill number f → g ≡ f → h ≡ f → k ≡ f → start ≡ []
    → AddsTotal g Apprentice start a → AddsTotal h Journeyer a b → AddsTotal k Master b c → AreDrillLines number c
all_drilled number f g h k start a b c is same_g same_h same_k empty one two three =
    let x = drilled number f g Apprentice start a is same_g one in
    let y = drilled number f h Journeyer a b is same_h two in
    let z = drilled number f k Master b c is same_k three in
    record {
      first = x.0;
      second = y.0;
      third = z.0;
      apprentice = x.1;
      journeyer = y.1;
      master = z.1;
      whole = z.2 ∙ ap (λ t. t ++ z.0) (y.2 ∙ ap (λ t. t ++ y.0) (x.2 ∙ ap (λ t. t ++ x.0) empty));
    }
