-- Three-address code. Its instructions are those of `src/code.rt`.
use Rattle.std.specs.Prelude.{ℕ, List, [], ◌∷◌, map, Option, Some, None, slice_get}
use Rattle.ctypes.specs.declared.types.IntType.{IntType}
use Rattle.typing_spec.specs.Types.{ObjectType}
use Rattle.typing_spec.specs.Program.{Static}
use Rattle.typed_ast.specs.View.{object_type_of, static_of}
use Rattle.tac_code.specs.declared.code.Instruction.{Instruction}
use Rattle.tac_code.specs.declared.code.Parameter.{Parameter}
use Rattle.tac_code.specs.declared.code.Function.{Function as Held}
use Rattle.tac_code.specs.declared.code.TacProgram.{TacProgram}

-- its instructions, its parameters, its objects (the parameters that are numbers first), the type of its result if it has one, how many temporaries and slots it has
pub record Function : Type 0 where
  pub code : List Instruction
  pub parameters : List Parameter
  pub objects : List ObjectType
  pub result : Option IntType
  pub temporaries : ℕ
  pub kept : ℕ

-- the functions, the characters of each string literal, the objects with static storage, and the number of main
pub record Program : Type 0 where
  pub functions : List Function
  pub literals : List (List ℕ)
  pub statics : List Static
  pub main : ℕ

abbrev pub function_of : Held → Function
function_of f = record {
  code = f.code.items;
  parameters = f.parameters.items;
  objects = map object_type_of f.objects.items;
  result = f.result;
  temporaries = f.temporaries;
  kept = f.kept;
}

abbrev pub program_of : TacProgram → Program
program_of p = record {
  functions = map function_of p.functions.items;
  literals = map (λ text. text.items) p.literals.items;
  statics = map static_of p.statics.items;
  main = p.main;
}

-- the function of a number
abbrev pub or_no_function : Option Function → Function
or_no_function None = record { code = []; parameters = []; objects = []; result = None; temporaries = 0; kept = 0 }
or_no_function (Some f) = f

abbrev pub function_at : Program → ℕ → Function
function_at p f = or_no_function (slice_get p.functions f)

-- the type of an object that is no array
abbrev pub type_if_scalar : List ℕ → IntType → Option IntType
type_if_scalar [] t = Some t
type_if_scalar (n ∷ lengths) t = None

abbrev pub scalar_type : Option ObjectType → Option IntType
scalar_type None = None
scalar_type (Some t) = type_if_scalar t.lengths t.element
