-- How far the phases have come. The crate's own functions alone speak of it.
use Rattle.std.specs.Prelude.{ℕ, ◌≤◌, ◌+◌, ◌-◌, ◌*◌}
use Rattle.split_flow.specs.Split.{Rests, source}
use Rattle.split_flow.specs.Moved.{out_of}
use Rattle.split_graph.specs.Arcs.{arc_count, between}
use Rattle.split_graph.specs.Network.{Network}
use Rattle.layers.specs.Layers.{ArePhases}

-- How many units were sent from the source.
abbrev pub sent_by : ℕ → Rests → Rests → ℕ
sent_by n c r = out_of n c source - out_of n r source

-- Some phases are over, and took three steps an arc at most and some more for each unit sent, where so many times three steps an arc were
-- taken beside.
pub record HavePassed (before now : Network) (old new beside : ℕ) : Type 0 where
  pub phases : ℕ
  pub are : ArePhases before.arcs.accounts (between before.arcs) phases (between now.arcs)
  pub most : new ≤ old + 3 * arc_count before.arcs * (phases + beside) + sent_by before.arcs.accounts (between before.arcs) (between now.arcs) * (2 * before.arcs.accounts + 4)
