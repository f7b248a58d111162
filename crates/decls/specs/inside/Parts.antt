-- Parts of declarations.
use Rattle.std.specs.Prelude.{ℕ, Option, Some, None}
use Rattle.srcset.specs.declared.refusal.Pos.{Pos}
use Rattle.tree.specs.Tree.{Init, ItemTree, object, function}
use Rattle.typing_spec.specs.Types.{ObjectType}
use Rattle.typing_spec.specs.Verdict.{Verdict, then_check}
use Rattle.typing_spec.specs.Scope.{Scope}
use Rattle.typing_spec.specs.Specifiers.{BaseType}
use Rattle.typing_spec.specs.Initialisers.{past_init}
use Rattle.typing_spec.specs.Linkage.{StorageClass}
use Rattle.typing_spec.specs.Declarations.{length_from, sized, begun, finished, function_at}

-- the scope after an initialiser, if there is one
abbrev pub past_given : Scope → Option Init → Scope
past_given s None = s
past_given s (Some i) = past_init s i

-- an array of the size that its initialiser gives
abbrev pub size_given : Scope → Pos → ℕ → ObjectType → Init → Verdict Scope
size_given s at name t i = then_check (length_from s at t i) (sized (past_init s i) at name t)

-- one declarator
abbrev pub item_read : Scope → StorageClass → BaseType → ItemTree → Verdict Scope
item_read s class b (object at n sizes init) = then_check (begun s class b at n sizes init) finished
item_read s class b (function at n ps) = function_at s.level s class b at n ps
