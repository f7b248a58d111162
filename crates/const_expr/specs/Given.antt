-- Arguments that are typed, for their parameters (6.5.2.2).
use Rattle.std.specs.Prelude.{List, [], ◌∷◌}
use Rattle.srcset.specs.declared.code.Code.TheVariants as code
use Rattle.srcset.specs.declared.refusal.Pos.{Pos}
use Rattle.typing_spec.specs.Types.{ParameterType}
use Rattle.typing_spec.specs.Program.{Arguments, no_arguments}
use Rattle.typing_spec.specs.Verdict.{Verdict, fine, breaks, then_check}
use Rattle.typing_spec.specs.Expressions.{Checked, argument}

-- as many as parameters, each assigned to its own
abbrev pub given_for : Pos → List ParameterType → List Checked → Verdict Arguments
given_for at [] [] = fine no_arguments
given_for at [] (x ∷ xs) = breaks code.ArgumentCount at
given_for at (p ∷ ps) [] = breaks code.ArgumentCount at
given_for at (p ∷ ps) (x ∷ xs) = then_check (given_for at ps xs) (argument at p x)
