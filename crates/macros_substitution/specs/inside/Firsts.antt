-- For each name the least number of a node that has it, so that most names are known to be in no set of a smaller number.
use Rattle.std.specs.Prelude.{◌≡◌, ℕ, ◌≤◌, cond, nat_eq, false, List, Option, Some, None, length, slice_get}
use Rattle.std.specs.List.{list_any}
use Rattle.std.specs.Map.{lookup}
use Rattle.macros_substitution.specs.declared.hide_sets.Node.{Node}
use Rattle.macros_substitution.specs.HideSets.{Sets, members}
use Rattle.macros_substitution.specs.inside.Nodes.{Ordered}

abbrev pub Firsts : Type 0
Firsts = List (ℕ × ℕ)

abbrev pub first_of : Firsts → ℕ → Option ℕ
first_of firsts name = lookup (nat_eq name) firsts

-- the number is stored under the name, if none was
abbrev pub NotesBy : Option ℕ → Firsts → ℕ → ℕ → Firsts → Type 0
NotesBy None old name number new = (q : ℕ) → first_of new q ≡ cond (nat_eq name q) (Some number) (first_of old q)
NotesBy (Some f) old name number new = new ≡ old

abbrev pub Notes : Firsts → ℕ → ℕ → Firsts → Type 0
Notes old name number new = NotesBy (first_of old name) old name number new

-- there is a number, at most this one
abbrev pub IsBy : Option ℕ → ℕ → Type 0
IsBy None n = ⊥
IsBy (Some f) n = f ≤ n

-- a number that is there is at most this one
abbrev pub IsWithin : Option ℕ → ℕ → Type 0
IsWithin None n = Unit {0}
IsWithin (Some f) n = f ≤ n

-- the nodes are in order, and each has its name's least number before it
pub record Stand (nodes : List Node) (firsts : Firsts) : Type 0 where
  pub ordered : Ordered nodes
  pub known : (n : ℕ) (node : Node) → slice_get nodes n ≡ Some node → IsBy (first_of firsts node.name) n
  pub small : (name : ℕ) → IsWithin (first_of firsts name) (length nodes)

-- the name is in no set up to this number, or in none at all
abbrev pub IsAbsent : Sets → ℕ → Option ℕ → Type 0
IsAbsent sets name None = (n : ℕ) → list_any (nat_eq name) (members sets n) ≡ false
IsAbsent sets name (Some f) = (n : ℕ) → n ≤ f → list_any (nat_eq name) (members sets n) ≡ false
