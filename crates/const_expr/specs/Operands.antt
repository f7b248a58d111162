-- Two operands.
use Rattle.const_expr.specs.declared.typing.Operands.{Operands}
use Rattle.typing_expressions.specs.Forms.{checked_of}
use Rattle.typing_spec.specs.Expressions.{Arms}

abbrev pub operands_of : Operands → Arms
operands_of x = record { first = checked_of x.first; second = checked_of x.second }
