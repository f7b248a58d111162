-- For a set a subset of it, so that a walk along two sets need not go beyond it.
use Rattle.std.specs.Prelude.{◌≡◌, ℕ, ◌≤◌, Some, List, length}
use Rattle.macros_substitution.specs.declared.hide_sets.Node.{Node}
use Rattle.macros_substitution.specs.HideSets.{Sets}
use Rattle.macros_substitution.specs.inside.Nodes.{sets_of}
use Rattle.macros_substitution.specs.inside.Firsts.{Firsts, first_of, Stand}
use Rattle.macros_substitution.specs.inside.Both.{Holds}

-- under a set a subset of it is stored
pub record AreWhole (sets : Sets) (wholes : Firsts) : Type 0 where
  pub is_set : (set whole : ℕ) → first_of wholes set ≡ Some whole → set ≤ length sets
  pub is_whole : (set whole : ℕ) → first_of wholes set ≡ Some whole → whole ≤ length sets
  pub holds : (set whole : ℕ) → first_of wholes set ≡ Some whole → Holds sets whole set

-- the invariants that a table keeps of its nodes
pub record Sound (nodes : List Node) (firsts wholes : Firsts) : Type 0 where
  pub stand : Stand nodes firsts
  pub whole : AreWhole (sets_of nodes) wholes
