-- The table of hide sets as the nodes that it is kept in: each is a name before the set of another number.
use Rattle.std.specs.Prelude.{◌≡◌, ℕ, ◌<◌, ◌≤◌, List, [], ◌∷◌, ◌++◌, Option, Some, None, length, slice_get}
use Rattle.macros_substitution.specs.declared.hide_sets.Node.{Node}
use Rattle.macros_substitution.specs.HideSets.{Sets, members}

abbrev pub with_node : Sets → Node → Sets
with_node sets node = sets ++ (node.name ∷ members sets node.parent) ∷ []

abbrev pub with_nodes : Sets → List Node → Sets
with_nodes sets [] = sets
with_nodes sets (node ∷ nodes) = with_nodes (with_node sets node) nodes

abbrev pub sets_of : List Node → Sets
sets_of nodes = with_nodes [] nodes

-- the set in which a name is put came before
abbrev pub Ordered : List Node → Type 0
Ordered nodes = (n : ℕ) (node : Node) → slice_get nodes n ≡ Some node → node.parent ≤ n

-- the first name of a set, and the number of the others, which is less
abbrev pub FirstIs : Sets → ℕ → Option (ℕ × ℕ) → Type 0
FirstIs sets n None = members sets n ≡ []
FirstIs sets n (Some first) = (members sets n ≡ first.0 ∷ members sets first.1) × (first.1 < n) × (first.1 ≤ length sets)
