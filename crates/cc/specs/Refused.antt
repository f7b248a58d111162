-- The promise of the compiler for a fault that it returns: it is in the sources, in the first phase that fails.
use Rattle.std.specs.Prelude.{◌≡◌, ℕ, List, Some, ◌⊎◌, slice_get}
use Rattle.srcset.specs.Files.{Files}
use Rattle.srcset.specs.declared.fault.Fault.{Fault}
use Rattle.srcset.specs.Fault.{IsMemoryFault}
use Rattle.srcset.specs.NameTable.{Texts}
use Rattle.srcset.specs.Refusal.{IsFaultOfRefusal}
use Rattle.srcset.specs.declared.refusal.Refusal.{Refusal}
use Rattle.phases.specs.Token.{Token as PpToken}
use Rattle.pp.specs.Preprocessed.{IsPreprocessFault}
use Rattle.lexer.specs.CTokens.{ctokens}
use Rattle.lexer.specs.declared.token.Token.{Token}
use Rattle.tree.specs.Tree.{ExternalTree}
use Rattle.parser.specs.Units.{IsFaultOfUnit}
use Rattle.typing.specs.Told.{IsFaultOfVerdict}
use Rattle.cc.specs.Compiled.{Numbers, HasList, HasTokens, HasTree, typed_at}

-- the fault of phases 1 to 4: 103; 111 to 113, 703; 201 to 214, 704 to 706, 708; 221 to 223, 231 to 235, 707
pub record FailsPreprocessing (set : Files) (name : List ℕ) (fault : Fault) : Type 0 where
  pub texts : Texts
  pub numbers : Numbers texts name
  pub fault_is : IsPreprocessFault fault set texts name

-- 301 to 303, 601 to 609: the fault of the first token that has one
pub record FailsTokens (set : Files) (name : List ℕ) (fault : Fault) : Type 0 where
  pub texts : Texts
  pub list : List PpToken
  pub has_list : HasList set name texts list
  pub refusal : Refusal
  pub first : (ctokens list).fault ≡ Some refusal
  pub fault_is : IsFaultOfRefusal fault texts refusal

-- 401, 709 to 711: why the tokens have no tree within the limits
pub record FailsTree (set : Files) (name : List ℕ) (fault : Fault) : Type 0 where
  pub texts : Texts
  pub tokens : List Token
  pub has_tokens : HasTokens set name texts tokens
  pub fault_is : IsFaultOfUnit fault texts tokens

-- 501 to 553, 620 to 623, 712 to 715: a constraint that the tree breaks, at its place
pub record BreaksConstraint (stack : ℕ) (name : List ℕ) (texts : Texts) (unit : List ExternalTree) (fault : Fault) : Type 0 where
  pub file : ℕ
  pub named : slice_get texts file ≡ Some name
  pub fault_is : IsFaultOfVerdict fault texts (typed_at stack texts file unit)

pub record FailsCheck (stack : ℕ) (set : Files) (name : List ℕ) (fault : Fault) : Type 0 where
  pub texts : Texts
  pub unit : List ExternalTree
  pub has_tree : HasTree set name texts unit
  pub breaks : BreaksConstraint stack name texts unit fault

-- why there is no program: the fault of the first phase that fails; or out of memory, which may hide any of them
abbrev pub IsRefused : (stack : ℕ) → Files → List ℕ → Fault → Type 0
IsRefused stack set name fault =
    FailsPreprocessing set name fault
    ⊎ FailsTokens set name fault
    ⊎ FailsTree set name fault
    ⊎ FailsCheck stack set name fault
    ⊎ IsMemoryFault fault
