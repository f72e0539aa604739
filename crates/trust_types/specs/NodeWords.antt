-- How nodes are written: an account by its name, the root by a dash.
use Rattle.std.specs.Prelude.{ℕ, Bool, ◌||◌, List, [], Option, Some, None, codes, slice_index_or, if◌then◌else◌}
use Rattle.std.specs.Str.{bytes_eq}
use Rattle.trust_types.specs.declared.accounts.Node.{Node}
use Rattle.trust_types.specs.declared.accounts.Node.TheVariants.{Root, Account}
use Rattle.trust_types.specs.Names.{is_name}
use Rattle.trust_types.specs.NameLists.{number_of}

-- The name of the account of that number.
abbrev pub name_of : List (List ℕ) → ℕ → List ℕ
name_of names a = slice_index_or names a []

-- The root is written as a dash, an account by its name.
abbrev pub node_name : List (List ℕ) → Node → List ℕ
node_name names Root = codes "-"
node_name names (Account a) = name_of names a

abbrev pub is_dash : List ℕ → Bool
is_dash word = bytes_eq word (codes "-")

-- A word that may stand for a node: a dash, which is the root, or a name.
abbrev pub is_node : List ℕ → Bool
is_node word = is_dash word || is_name word

-- The node of that word, where it is the root or an account has the name.
abbrev pub node_of : List (List ℕ) → List ℕ → Option Node
node_of names word = if is_dash word then Some Root else (elim (number_of names word) [ None ↦ None | Some a ↦ Some (Account a) ])
