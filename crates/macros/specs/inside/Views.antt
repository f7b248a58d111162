-- The fields of a macro as its numbered parameters.
use Rattle.std.specs.Prelude.{ℕ, Bool, Option, Some, None, Vec}
use Rattle.std.specs.declared.alloc.Global.{Global}
use Rattle.macros.specs.Table.{NumberedParameters}

abbrev pub numbered_parameters : Option (Vec ℕ Global) → Bool → Option NumberedParameters
numbered_parameters None variadic = None
numbered_parameters (Some names) variadic = Some (record { names = names.items; variadic = variadic })
