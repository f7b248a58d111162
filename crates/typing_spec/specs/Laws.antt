-- Laws of the definitions.
use Rattle.std.specs.Prelude.{◌≡◌}
use Rattle.srcset.specs.declared.code.Code.{Code}
use Rattle.srcset.specs.declared.refusal.Pos.{Pos}
use Rattle.tree.specs.Tree.{DeclarationTree}
use Rattle.typing_spec.specs.Verdict.{fine, IfFine, Stands}
use Rattle.typing_spec.specs.Scope.{Scope}
use Rattle.typing_spec.specs.Declarations.{scope_after, declaration_typed}

-- a declaration that is fine leaves the scope that its declarators alone give, whose initialisers are examined only for sizes
abbrev pub ScopeIsOfDeclarators : Type 0
ScopeIsOfDeclarators = (s : Scope) (t : DeclarationTree) → IfFine (λ d. scope_after s t ≡ fine d.scope) (declaration_typed s t)

-- a constraint violated in its declarators and in the sizes that its initialisers give is violated in the declaration
abbrev pub FaultsOfDeclaratorsStand : Type 0
FaultsOfDeclaratorsStand = (code : Code) (at : Pos) (s : Scope) (t : DeclarationTree) → Stands code at (scope_after s t) → Stands code at (declaration_typed s t)
