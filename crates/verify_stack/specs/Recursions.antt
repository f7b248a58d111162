-- The evidence that a program may recurse.
use Rattle.std.specs.Prelude.{◌≡◌, ◌<◌, ℕ, List, [], ◌∷◌, Option, Some, None, Contains, length, slice_get}
use Rattle.typing_spec.specs.Program.{Function, Program}
use Rattle.verify_stack.specs.Calls.{statement_calls}
use Rattle.verify_stack.specs.declared.bounds.Recursion.{Recursion}

abbrev pub option_body_calls : Option Function → List ℕ
option_body_calls None = []
option_body_calls (Some g) = statement_calls g.body

-- the functions that the body of function f calls
abbrev pub calls_in : Program → (f : ℕ) → List ℕ
calls_in p f = option_body_calls (slice_get p.functions f)

-- f calls the first of these functions, each of them the next, and the last one is g
abbrev pub Leads : Program → (f : ℕ) → List ℕ → (g : ℕ) → Type 0
Leads p f [] g = f ≡ g
Leads p f (h ∷ more) g = Contains (calls_in p f) h × Leads p h more g

-- calls lead from main to a function, and from it to itself
pub record Recurses (p : Program) (r : Recursion) : Type 0 where
  pub reached : Leads p p.main r.way.items r.function
  pub again : Leads p r.function r.cycle.items r.function
  pub some : 0 < length r.cycle.items
