-- Initialisers after a number of string literals.
use Rattle.std.specs.Prelude.{ℕ, Bool, List}
use Rattle.srcset.specs.declared.refusal.Pos.{Pos}
use Rattle.ctypes.specs.declared.types.IntType.{IntType}
use Rattle.tree.specs.Tree.{Init}
use Rattle.typing_spec.specs.Verdict.{Verdict}
use Rattle.typing_spec.specs.Program.{Initialiser}
use Rattle.typing_spec.specs.Scope.{Scope}
use Rattle.typing_spec.specs.Initialisers as typed
use Rattle.typing_expressions.specs.Numbered.{numbered}

abbrev pub initialiser_at : List (List ℕ) → ℕ → Scope → Pos → IntType → typed.Wanted → Bool → Init → Verdict Initialiser
initialiser_at texts n s at t w top i = typed.initialiser (numbered texts n s) at t w top i
