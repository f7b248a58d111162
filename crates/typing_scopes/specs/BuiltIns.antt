-- The models of the code's built-in functions.
use Rattle.std.specs.Prelude.{false, [], ◌∷◌, Option, Some, None}
use Rattle.ctypes.specs.declared.types.IntType.TheVariants as ty
use Rattle.typing_spec.specs.Types as type
use Rattle.typing_spec.specs.Program as program
use Rattle.typing_spec.specs.Scope as scope
use Rattle.typing_scopes.specs.declared.built_ins.BuiltIn.{BuiltIn}
use Rattle.typing_scopes.specs.declared.built_ins.BuiltIn.TheVariants as built_in

-- int rv_getbyte(void), void rv_putbyte(int c), void rv_exit(int status)
abbrev pub built_in_of : BuiltIn → scope.BuiltIn
built_in_of built_in.GetByte = record { callee = program.get_byte; type = record { result = Some ty.Int; constant = false; parameters = [] } }
built_in_of built_in.PutByte = record { callee = program.put_byte; type = record { result = None; constant = false; parameters = type.number ty.Int ∷ [] } }
built_in_of built_in.Exit = record { callee = program.exit; type = record { result = None; constant = false; parameters = type.number ty.Int ∷ [] } }

abbrev pub option_built_in : Option BuiltIn → Option scope.BuiltIn
option_built_in None = None
option_built_in (Some b) = Some (built_in_of b)
