-- What holds of layers, of cuts by layers, and of phases.
use Rattle.std.specs.Prelude.{ℕ, Bool, ◌≡◌, ◌≤◌, ◌<◌, ◌+◌, ◌*◌, ◌/◌}
use Rattle.trust_types.specs.declared.levels.Level.{Level}
use Rattle.trust_types.specs.declared.accounts.Node.{Node}
use Rattle.trust_types.specs.Tables.{Table, IsTable}
use Rattle.trust_types.specs.Graph.{Certificates}
use Rattle.trust_types.specs.Capacity.{AreCapacities}
use Rattle.split_flow.specs.Split.{SplitNode, Supersink, source, Rests, IsSplitGraph}
use Rattle.split_flow.specs.Moved.{IsMoved, leaving, out_of}
use Rattle.split_flow.specs.Laws.{NoneToItself}
use Rattle.layers.specs.Layers.{WalkTo, IsDistanceTo, AreLayers, AreByDistance, AreSpent, ArePhases, up_to}
use Rattle.layers.specs.PhaseBound.{capacity_sum, phase_bound, most_phases, most_steps}

-- Once no shortest way is left, every way to the supersink has more arcs than its layer's number
abbrev pub WaysAreLonger : Type 0
WaysAreLonger = (r : Rests) (layer : SplitNode → ℕ) (spent : SplitNode → Bool) → AreLayers r layer → AreSpent r layer spent →
    (m : ℕ) → WalkTo r m Supersink → layer Supersink < m

-- So the residual distance of the supersink rises with each phase
abbrev pub DistanceRises : Type 0
DistanceRises = (before after : Rests) (layer : SplitNode → ℕ) (spent : SplitNode → Bool) →
    AreByDistance before layer → AreLayers after layer → AreSpent after layer spent →
    (k m : ℕ) → IsDistanceTo before Supersink k → IsDistanceTo after Supersink m → k < m

-- Where the supersink's layer is beyond d + 1, little can leave the set up to one of the first d layers: at most the d-th part of all
-- capacities
abbrev pub LayerCut : Type 0
LayerCut = (g : Certificates) (level : Level) (table : Table) (cap : Node → ℕ) (c r : Rests) (layer : SplitNode → ℕ) (d : ℕ) →
    IsTable table → AreCapacities g level table cap → NoneToItself g level → IsSplitGraph g level cap c → IsMoved g.accounts c r →
    AreByDistance r layer → 0 < d → d + 1 < layer Supersink →
    (i : ℕ) × (0 < i) × (i ≤ d) × (leaving g.accounts (up_to layer i) r ≤ capacity_sum g.accounts cap / d)

-- So another flow sends at most the d-th part of all capacities more than this one
abbrev pub FewAreMissing : Type 0
FewAreMissing = (g : Certificates) (level : Level) (table : Table) (cap : Node → ℕ) (c r more : Rests) (layer : SplitNode → ℕ) (d sent sent_more : ℕ) →
    IsTable table → AreCapacities g level table cap → NoneToItself g level → IsSplitGraph g level cap c →
    IsMoved g.accounts c r → IsMoved g.accounts c more → AreByDistance r layer → 0 < d → d + 1 < layer Supersink →
    out_of g.accounts r source + sent ≡ out_of g.accounts c source → out_of g.accounts more source + sent_more ≡ out_of g.accounts c source →
    sent_more ≤ sent + capacity_sum g.accounts cap / d

-- So phases are few, each of which sends a unit: they and one more search, which finds no way, are at most the lesser of phase_bound and
-- of the number of units sent and one
abbrev pub PhasesAreFew : Type 0
PhasesAreFew = (g : Certificates) (level : Level) (table : Table) (cap : Node → ℕ) (c r : Rests) (phases sent : ℕ) →
    IsTable table → AreCapacities g level table cap → NoneToItself g level → IsSplitGraph g level cap c →
    ArePhases g.accounts c phases r → out_of g.accounts r source + sent ≡ out_of g.accounts c source →
    phases + 1 ≤ most_phases (capacity_sum g.accounts cap) sent

-- And so are steps, where each phase, the last search and what is read in the end take at most three an arc, beside 2 * accounts + 4 for each
-- unit sent
abbrev pub StepsAreFew : Type 0
StepsAreFew = (g : Certificates) (level : Level) (table : Table) (cap : Node → ℕ) (c r : Rests) (phases sent arcs steps : ℕ) →
    IsTable table → AreCapacities g level table cap → NoneToItself g level → IsSplitGraph g level cap c →
    ArePhases g.accounts c phases r → out_of g.accounts r source + sent ≡ out_of g.accounts c source →
    steps ≤ 3 * arcs * (phases + 2) + sent * (2 * g.accounts + 4) →
    steps ≤ most_steps g.accounts arcs (capacity_sum g.accounts cap) sent

-- At a site whose one seed certifies 1,999 others, with the table 2000 2000 1, the capacities add up to 9,998, and phases are at most 200:
-- of 12,002 arcs and 1,999 units
abbrev pub WideStarIsBounded : Type 0
WideStarIsBounded = (phase_bound 9998 ≡ 200) × (most_steps 2000 12002 9998 1999 ≡ 15241202)
