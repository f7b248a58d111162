-- The opposite of a comparison.
use Rattle.std.proofs.lemmas.Bool.Decides.{nat_tests}
use Rattle.std.proofs.Common.{ℕ, ◌≡◌, Bool, true, false, refl, arith, eqb}
use Rattle.std.specs.Prelude.{not, nat_lt, nat_le, int_lt}
use Rattle.rv32.specs.declared.instr.Test.TheVariants as test
use Rattle.rv32.specs.Arithmetic.{signed}
use Rattle.asm.specs.Placed.{OppositeHoldsWhereNot}

not_not : (b : Bool) → b ≡ not (not b)
not_not true = refl
not_not false = refl

at_least : (a b : ℕ) → nat_le b a ≡ not (nat_lt a b)
at_least a b = grind (arith, nat_tests)

below : (a b : ℕ) → nat_lt a b ≡ not (nat_le b a)
below a b = grind (arith, nat_tests)

pub opposite_is_not : OppositeHoldsWhereNot
opposite_is_not test.Equal a b = refl
opposite_is_not test.NotEqual a b = not_not (eqb a b)
opposite_is_not test.Less a b = refl
opposite_is_not test.GreaterEqual a b = not_not (int_lt (signed a) (signed b))
opposite_is_not test.LessUnsigned a b = at_least a b
opposite_is_not test.GreaterEqualUnsigned a b = below a b
