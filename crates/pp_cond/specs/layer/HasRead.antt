-- What is known of the tokens of a condition while they are read, and not kept.
use Rattle.std.specs.Prelude.{◌≡◌, Bool, true, false, List, ◌++◌, Option, None}
use Rattle.std.specs.List.{list_any}
use Rattle.phases.specs.Token.{Token}
use Rattle.pp_cond.specs.declared.condition.ConditionReader.{ConditionReader}
use Rattle.pp_cond.specs.declared.reader.Reader.{Reader}
use Rattle.pp_cond.specs.Condition.{is_defined_word}
use Rattle.pp_cond.specs.inside.Operands.{Known}
use Rattle.pp_cond.specs.inside.Reading.{state_of, start, run}

-- the whole condition with these tokens after those that are read, where it is one
abbrev pub whole_with : Bool → Reader → List Token → Option Known
whole_with true reader ys = None
whole_with false reader ys = run ys (state_of reader)

-- these are the tokens that are read
pub record HasRead (reader : ConditionReader) (xs : List Token) : Type 0 where
  pub has_defined_is : reader.has_defined ≡ list_any is_defined_word xs
  pub whole_is : (ys : List Token) → run (xs ++ ys) start ≡ whole_with reader.is_broken reader.reader ys
