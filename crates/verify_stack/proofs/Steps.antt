-- Steps of functions of the code.
use Rattle.std.proofs.Common.{◌≡◌, ℕ, List, Some, sym, ap, ◌∙◌, subst}
use Rattle.std.specs.Prelude.{Contains, slice_get}
use Rattle.typing_spec.specs.Program.{Function, Program}
use Rattle.verify_stack.specs.Calls.{statement_calls}
use Rattle.verify_stack.specs.Recursions.{option_body_calls, calls_in}

pub called_in : (p : Program) (f h : ℕ) (g : Function) (calls : List ℕ) → slice_get p.functions f ≡ Some g → calls ≡ statement_calls g.body → Contains calls h
    → Contains (calls_in p f) h
called_in p f h g calls e d m =
    let same : calls ≡ calls_in p f = d ∙ sym (ap option_body_calls e) in
    subst (λ xs. Contains xs h) same m
