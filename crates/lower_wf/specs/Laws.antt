-- The guarantees of a unit that breaks no constraint, of all that lowering requires (`IsChecked`).
use Rattle.std.specs.Prelude.{◌≡◌, ◌≤◌, ◌<◌, ℕ, List, [], length, slice_get, Some}
use Rattle.srcset.specs.declared.refusal.Pos.{Pos}
use Rattle.ctypes.specs.declared.types.IntType.TheVariants as ty
use Rattle.tree.specs.Tree.{ExternalTree, FunctionTree, definition}
use Rattle.tree.specs.Counts.{function_nodes, weight_of}
use Rattle.typing_spec.specs.Program.{Function, Program}
use Rattle.typing_spec.specs.Nodes.{typed_nodes}
use Rattle.typing_spec.specs.Verdict.{fine}
use Rattle.typing_spec.specs.Units.{unit_typed, weight_limit, function_limit, static_limit}
use Rattle.tac_code.specs.Sound.{AreBytes, data_bytes}
use Rattle.tac_code.specs.Spans.{own_bytes}
use Rattle.tree.specs.Limits.{function_node_limit}

-- ---- the facts known of a unit

-- the characters of names and literals are bytes (5.1.1.2, 6.4.5p6)
abbrev pub AreTexts : List (List ℕ) → Type 0
AreTexts texts = (k : ℕ) (text : List ℕ) → slice_get texts k ≡ Some text → AreBytes text

-- no function has more nodes than a tree may have (5.2.4.1)
abbrev pub IsWithinNodes : List ExternalTree → Type 0
IsWithinNodes unit = (k : ℕ) (f : FunctionTree) → slice_get unit k ≡ Some (definition f) → function_nodes f ≤ function_node_limit

-- ---- the measures of its program

-- the weight is that of the tree's nodes and of the objects, the typed nodes are no more than the tree's
pub record FunctionIsMeasured (f : Function) : Type 0 where
  pub weight : f.weight ≡ weight_of f.nodes (own_bytes f)
  pub light : f.weight ≤ weight_limit
  pub counted : typed_nodes f ≤ f.nodes
  pub nodes : f.nodes ≤ function_node_limit

pub record IsMeasured (p : Program) : Type 0 where
  pub main_is_there : p.main < length p.functions
  pub main_takes_nothing : (f : Function) → slice_get p.functions p.main ≡ Some f → f.type.parameters ≡ []
  pub main_gives_int : (f : Function) → slice_get p.functions p.main ≡ Some f → f.type.result ≡ Some ty.Int
  pub each : (k : ℕ) (f : Function) → slice_get p.functions k ≡ Some f → FunctionIsMeasured f
  pub literals : (n : ℕ) (text : List ℕ) → slice_get p.literals n ≡ Some text → AreBytes text
  pub few : length p.functions ≤ function_limit
  pub small : data_bytes p.literals p.statics ≤ static_limit

abbrev pub ProgramIsMeasured : Type 0
ProgramIsMeasured = (stack : ℕ) (texts : List (List ℕ)) (whole : Pos) (unit : List ExternalTree) (p : Program) → stack ≤ weight_limit → AreTexts texts → IsWithinNodes unit
    → unit_typed stack texts whole unit ≡ fine p → IsMeasured p
