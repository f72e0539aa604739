-- The arcs of a split graph, one after another, as they are listed to be laid out. The crate's own functions alone speak of it.
use Rattle.std.specs.Prelude.{ℕ, zero, suc, if◌then◌else◌, List, [], ◌∷◌, ◌++◌}
use Rattle.trust_types.specs.declared.accounts.Node.{Node}
use Rattle.trust_types.specs.declared.accounts.Node.TheVariants.{Root, Account}
use Rattle.frozen.specs.Sites.{Parts, accounts, degree, taker, certificates_of}
use Rattle.split_graph.specs.declared.split_arcs.SplitArc.{SplitArc}
use Rattle.split_flow.specs.Split.{SplitNode, InHalf, OutHalf, Supersink}
use Rattle.split_graph.specs.Numbers.{node_number}

-- f 0, f 1, .., f (n - 1), one behind the other.
abbrev pub joined_below : ℕ → (ℕ → List SplitArc) → List SplitArc
joined_below zero f = []
joined_below (suc n) f = joined_below n f ++ f n

-- An arc from a split node to another.
abbrev pub arc_from : SplitNode → SplitNode → SplitArc
arc_from u v = record { from = node_number u; to = node_number v }

-- The arc through a node.
abbrev pub through_arc : Node → SplitArc
through_arc x = arc_from (InHalf x) (OutHalf x)

abbrev pub end_arc : ℕ → SplitArc
end_arc a = arc_from (InHalf (Account a)) Supersink

-- An account's own arcs, through it and to the supersink.
abbrev pub own_arcs : ℕ → List SplitArc
own_arcs a = through_arc (Account a) ∷ end_arc a ∷ []

-- The arc along an edge.
abbrev pub edge_arc : Node → ℕ → SplitArc
edge_arc x b = arc_from (OutHalf x) (InHalf (Account b))

abbrev pub seed_arcs : Parts → ℕ → List SplitArc
seed_arcs r b = if (certificates_of r).is_seed b then edge_arc Root b ∷ [] else []

abbrev pub cert_arcs : Parts → ℕ → ℕ → List SplitArc
cert_arcs r a i = edge_arc (Account a) (taker r a i) ∷ []

abbrev pub row_arcs : Parts → ℕ → List SplitArc
row_arcs r a = joined_below (degree r a) (cert_arcs r a)

-- The arcs through the nodes and to the supersink, those to the seeds, and those of the certificates of all levels.
abbrev pub split_arcs : Parts → List SplitArc
split_arcs r =
    (((through_arc Root ∷ []) ++ joined_below (accounts r) own_arcs)
    ++ joined_below (accounts r) (seed_arcs r))
    ++ joined_below (accounts r) (row_arcs r)
