-- Typing after a number of string literals.
use Rattle.std.specs.Prelude.{ℕ, List, Option, replicate}
use Rattle.tree.specs.Tree.{Tree, Trees, TypeTree}
use Rattle.typing_spec.specs.Types.{ObjectType, ParameterType}
use Rattle.typing_spec.specs.Verdict.{Verdict, both, then_check}
use Rattle.typing_spec.specs.Program.{Arguments}
use Rattle.typing_spec.specs.Scope.{Scope, past}
use Rattle.typing_spec.specs.Constants.{constant_form}
use Rattle.typing_spec.specs.Expressions as typed
use Rattle.typing_expressions.specs.Forms.{seen}
use Rattle.srcset.specs.declared.refusal.Pos.{Pos}

-- a scope with the unit's texts, after n string literals
abbrev pub numbered : List (List ℕ) → ℕ → Scope → Scope
numbered texts n s = seen texts (replicate n 0) s

abbrev pub typing_at : List (List ℕ) → ℕ → Scope → Tree → Verdict typed.Checked
typing_at texts n s e = typed.typing (numbered texts n s) e

abbrev pub arguments_at : List (List ℕ) → ℕ → Scope → Pos → List ParameterType → Trees → Verdict Arguments
arguments_at texts n s at ps es = typed.arguments (numbered texts n s) at ps es

abbrev pub named_at : List (List ℕ) → ℕ → Scope → TypeTree → Verdict (Option ObjectType)
named_at texts n s t = typed.named_in (numbered texts n s) t

abbrev pub lengths_at : List (List ℕ) → ℕ → Scope → Pos → Trees → Verdict (List ℕ)
lengths_at texts n s at es = typed.lengths_in (numbered texts n s) at es

-- two operands, and a size in the name of a type
abbrev pub operands_at : List (List ℕ) → ℕ → Scope → Tree → Tree → Verdict typed.Arms
operands_at texts n s a b = both (typed.typing (numbered texts n s) a) (typed.typing (past (numbered texts n s) a) b) typed.arms

abbrev pub size_at : List (List ℕ) → ℕ → Scope → Pos → Tree → Verdict ℕ
size_at texts n s at e = then_check (constant_form (numbered texts n s) e) (λ u. then_check (typed.typing (numbered texts n s) e) (typed.size_in at))
