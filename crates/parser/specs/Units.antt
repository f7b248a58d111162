-- The tree of a whole list of tokens, its limits, and why a list is refused (ISO/IEC 9899:2011 6.9; the limits are of
-- this compiler, 5.2.4.1).
use Rattle.std.specs.Prelude.{◌≡◌, ◌≤◌, None, Some, ◌⊎◌, List, [], ◌∷◌}
use Rattle.srcset.specs.declared.refusal.Pos.{Pos}
use Rattle.srcset.specs.declared.refusal.Refusal.{Refusal}
use Rattle.srcset.specs.declared.refusal.Refusal.TheVariants.{Memory, At, Told}
use Rattle.srcset.specs.declared.code.Code.{Code}
use Rattle.srcset.specs.declared.code.Code.TheVariants.{SyntaxError, DepthLimit, FunctionNodeLimit, ProgramNodeLimit}
use Rattle.srcset.specs.declared.fault.Fault.{Fault}
use Rattle.srcset.specs.NameTable.{Texts}
use Rattle.srcset.specs.Refusal.{IsFaultOfRefusal}
use Rattle.lexer.specs.declared.token.Token.{Token}
use Rattle.lexer.specs.declared.token.Kind.{Kind}
use Rattle.tree.specs.Tree.{ExternalTree, definition, declaration}
use Rattle.tree.specs.Counts.{function_nodes, unit_nodes, unit_depth}
use Rattle.parser_grammar.specs.Statements.{SpellsUnit}
use Rattle.parser_grammar.specs.Tokens.{Reaches}
use Rattle.tree.specs.Limits.{depth_limit, function_node_limit, program_node_limit}

-- the whole list is this unit
abbrev pub IsUnitOf : List Token → List ExternalTree → Type 0
IsUnitOf ts es = SpellsUnit None es ts []

-- ---- limits

pub data Limit : Type 0 where
  of_depth : Limit
  of_function : Limit
  of_program : Limit

abbrev pub code_of : Limit → Code
code_of of_depth = DepthLimit
code_of of_function = FunctionNodeLimit
code_of of_program = ProgramNodeLimit

abbrev pub IsSmall : ExternalTree → Type 0
IsSmall (definition f) = function_nodes f ≤ function_node_limit
IsSmall (declaration d) = Unit {0}

abbrev pub AreSmall : List ExternalTree → Type 0
AreSmall [] = Unit {0}
AreSmall (e ∷ es) = IsSmall e × AreSmall es

-- the unit, whole or begun, keeps the limit
abbrev pub Keeps : Limit → List ExternalTree → Type 0
Keeps of_depth es = unit_depth es ≤ depth_limit
Keeps of_function es = AreSmall es
Keeps of_program es = unit_nodes es ≤ program_node_limit

-- ---- results

-- the unit is a tree of the list, and keeps each limit
pub record IsTreeWithin (ts : List Token) (es : List ExternalTree) : Type 0 where
  pub spelled : IsUnitOf ts es
  pub within : (l : Limit) → Keeps l es

-- no tree of the list is another, whether it keeps the limits or not
abbrev pub IsOnly : List Token → List ExternalTree → Type 0
IsOnly ts es = (us : List ExternalTree) → IsUnitOf ts us → us ≡ es

-- the list has no tree
abbrev pub HasNoTree : List Token → Type 0
HasNoTree ts = (es : List ExternalTree) → IsUnitOf ts es → ⊥

-- some token of the list is at this place
abbrev pub HasTokenAt : List Token → Pos → Type 0
HasTokenAt ts at = (kind : Kind) × (behind : List Token) × Reaches ts (record { kind = kind; pos = at } ∷ behind)

-- no tree of the list keeps the limit, and a begun one, whose front ends at this place, passes it
pub record Exceeds (l : Limit) (ts : List Token) (at : Pos) : Type 0 where
  pub none : (es : List ExternalTree) → IsUnitOf ts es → Keeps l es → ⊥
  pub tree : List ExternalTree
  pub cut : List Token
  pub last : Kind
  pub begun : SpellsUnit (Some cut) tree ts cut
  pub reaches : Reaches ts (record { kind = last; pos = at } ∷ cut)
  pub passes : Keeps l tree → ⊥

-- the refusal of the list is correct; none adds a text
abbrev pub IsRefused : List Token → Refusal → Type 0
IsRefused ts Memory = Unit {0}
IsRefused ts (At code at) = ((code ≡ SyntaxError) × HasNoTree ts × HasTokenAt ts at) ⊎ ((l : Limit) × (code ≡ code_of l) × Exceeds l ts at)
IsRefused ts (Told code at text) = ⊥

-- the fault of such a refusal, under the names of these texts
pub record IsFaultOfUnit (fault : Fault) (texts : Texts) (ts : List Token) : Type 0 where
  pub refusal : Refusal
  pub refused : IsRefused ts refusal
  pub shown : IsFaultOfRefusal fault texts refusal
