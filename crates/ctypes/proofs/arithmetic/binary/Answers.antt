use Rattle.std.proofs.Common.{sym, subst, to_z, of_z, w64}
use Rattle.ctypes.specs.declared.operators.Undef.TheVariants.{U1}
use Rattle.ctypes.specs.Types.{IsValueOf}
use Rattle.ctypes.proofs.Uses.{Gives, range_fits, divided_fits, shifted_fits}
use Rattle.ctypes.proofs.arithmetic.binary.Goals as goal

pub returns-in-Mul-clause-range : goal.returns-in-Mul-clause-range
returns-in-Mul-clause-range c = rw c.in-Mul.is (subst (Gives (IsValueOf c.args.ty)) (sym c.multiply.ensures) (range_fits U1 c.args.ty _ _))

pub returns-in-Div-clause-range : goal.returns-in-Div-clause-range
returns-in-Div-clause-range c = rw c.in-Div.is (subst (Gives (IsValueOf c.args.ty)) (sym c.divide.ensures) (divided_fits c.args.ty _ _ _))

pub returns-in-Rem-clause-range : goal.returns-in-Rem-clause-range
returns-in-Rem-clause-range c = rw c.in-Rem.is (subst (Gives (IsValueOf c.args.ty)) (sym c.remainder.ensures) (divided_fits c.args.ty _ _ _))

pub returns-in-Add-clause-range : goal.returns-in-Add-clause-range
returns-in-Add-clause-range c = rw c.in-Add.is (subst (Gives (IsValueOf c.args.ty)) (sym c.add.ensures) (range_fits U1 c.args.ty _ _))

pub returns-in-Sub-clause-range : goal.returns-in-Sub-clause-range
returns-in-Sub-clause-range c = rw c.in-Sub.is (subst (Gives (IsValueOf c.args.ty)) (sym c.subtract.ensures) (range_fits U1 c.args.ty _ _))

pub returns-in-Shl-clause-range : goal.returns-in-Shl-clause-range
returns-in-Shl-clause-range c = rw c.in-Shl.is (subst (Gives (IsValueOf c.args.ty)) (sym c.shift_left.ensures) (shifted_fits c.args.ty (to_z w64 (of_z w64 c.args.a)) (to_z w64 (of_z w64 c.args.b))))
