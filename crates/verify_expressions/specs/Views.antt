-- What the code's values stand for.
use Rattle.std.specs.Prelude.{ℕ, List, ◌++◌, map, Option, Some, None, slice_get}
use Rattle.std.specs.declared.vec.Vec.{Vec}
use Rattle.std.specs.declared.alloc.Global.{Global}
use Rattle.typed_ast.specs.declared.types.ObjectType as held
use Rattle.typed_ast.specs.View.{object_type_of, program_of}
use Rattle.verify_logic.specs.States as logic
use Rattle.verify_logic.specs.States.{Known, Frame, lengths_in, or_scalar}
use Rattle.verify_expressions.specs.declared.state.AbsState.{AbsState}
use Rattle.verify_expressions.specs.declared.state.Known as code
use Rattle.verify_expressions.specs.declared.scope.Summary.{Summary}
use Rattle.verify_expressions.specs.declared.scope.Scope.{Scope}

abbrev pub known_of : code.Known → Known
known_of k = record { objects = k.objects.items; facts = k.facts.items }

abbrev pub known_or_none : Option code.Known → Option Known
known_or_none None = None
known_or_none (Some k) = Some (known_of k)

abbrev pub state_of : AbsState → Option Known
state_of s = known_or_none s.objects

abbrev pub items_of : Vec ℕ Global → List ℕ
items_of xs = xs.items

abbrev pub shapes_in : List (Vec ℕ Global) → List (List ℕ)
shapes_in outer = map items_of outer

abbrev pub summary_of : Summary → logic.Summary
summary_of a = record { function = a.function; outer = shapes_in a.outer.items; arrays = a.arrays.items; entry = known_of a.entry; value = a.value; left = known_or_none a.left }

abbrev pub frame_of : Scope → Frame
frame_of sc = record {
  program = program_of sc.program.now;
  listed = sc.listed.now;
  summaries = map summary_of sc.summaries.now;
  outer = shapes_in sc.outer.now;
  objects = map object_type_of sc.objects.now;
  arrays = sc.arrays.now;
}

-- the lengths of object x
abbrev pub shape_in : List (Vec ℕ Global) → List held.ObjectType → ℕ → List ℕ
shape_in outer objects x = or_scalar (slice_get (shapes_in outer ++ map lengths_in (map object_type_of objects)) x)

-- of object n of the call
abbrev pub own_shape_in : List held.ObjectType → ℕ → List ℕ
own_shape_in objects n = or_scalar (slice_get (map lengths_in (map object_type_of objects)) n)

-- of all objects
abbrev pub shapes_at : List (Vec ℕ Global) → List held.ObjectType → List (List ℕ)
shapes_at outer objects = shapes_in outer ++ map lengths_in (map object_type_of objects)
