-- Lists and string literals in braces, after a number of string literals.
use Rattle.std.specs.Prelude.{ℕ, Bool, true, false, List, Option, Some, None}
use Rattle.srcset.specs.declared.refusal.Pos.{Pos}
use Rattle.ctypes.specs.declared.types.IntType.{IntType}
use Rattle.tree.specs.Tree.{Tree, string, Inits}
use Rattle.typing_spec.specs.Verdict.{Verdict, fine, then_check}
use Rattle.typing_spec.specs.Program as program
use Rattle.typing_spec.specs.Program.{Initialiser, Initialisers}
use Rattle.typing_spec.specs.Scope.{Scope}
use Rattle.typing_spec.specs.Initialisers as typed
use Rattle.typing_expressions.specs.Numbered.{numbered}

-- a string literal, not in parentheses
abbrev pub string_in : Tree → Option (Pos × ℕ)
string_in (string at n) = Some (at, n)
string_in e = None

abbrev pub initialisers_at : List (List ℕ) → ℕ → Scope → Pos → IntType → List ℕ → Inits → Verdict Initialisers
initialisers_at texts n s at t lengths is = typed.initialisers (numbered texts n s) at t lengths is

-- a list in braces, and a string literal alone in braces
abbrev pub list_at : List (List ℕ) → ℕ → Scope → Pos → IntType → Option ℕ → List ℕ → Inits → Verdict Initialiser
list_at texts n s at t room lengths parts = typed.in_list at room parts (initialisers_at texts n s at t lengths parts)

abbrev pub braced_text_at : List (List ℕ) → ℕ → Scope → Pos → Option ℕ → ℕ → Verdict Initialiser
braced_text_at texts n s own room name = then_check (typed.text_from (numbered texts n s) own room name) (λ i. fine (program.in_braces i))

-- the string literal alone, where the elements are characters
abbrev pub braced_string : Bool → Option Tree → Option Tree
braced_string true e = e
braced_string false e = None
