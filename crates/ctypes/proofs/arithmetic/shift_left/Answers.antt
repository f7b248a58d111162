use Rattle.std.proofs.Common.{rules, sym, ◌∙◌, FitsSigned, w64}
use Rattle.std.proofs.lemmas.Int.{to_z-of_z}
use Rattle.ctypes.proofs.Exact.{shifted_left_is}
use Rattle.ctypes.proofs.arithmetic.shift_left.Goals as goal

pub returns : goal.returns
returns c =
    let shifted = c.times_power-shifted.result in
    let fits : FitsSigned w64 shifted = search rules in
    shifted_left_is c.args.ty c.args.a c.args.b _ _ shifted _ c.in_range.result (to_z-of_z w64 c.args.a c.ranges.a) (to_z-of_z w64 c.args.b c.ranges.b) (to_z-of_z w64 shifted fits) c.times_power-shifted.ensures (sym c.is_shift_count.ensures ∙ c.if-not-is_shift_count.false) c.if-a-lt0.false c.in_range.ensures
