use Rattle.std.proofs.Common.{sym, ap, ◌∙◌, int_div, Err}
use Rattle.std.specs.Prelude.{if◌then◌else◌}
use Rattle.ctypes.specs.declared.operators.Undef.TheVariants.{U1, U2}
use Rattle.ctypes.specs.Arithmetic.{in_range}
use Rattle.ctypes.proofs.Exact.{near, quotient_is, is_truth}
use Rattle.ctypes.proofs.arithmetic.divide.Goals as goal

pub returns-else-b-eq0 : goal.returns-else-b-eq0
returns-else-b-eq0 c =
    let q = int_div c.args.a c.args.b in
    let e = quotient_is c.args.a c.args.b (near c.args.ty c.args.a c.requires.left) c.ranges.a c.ranges.b in
    c.in_range.ensures ∙ ap (λ v. in_range U1 c.args.ty v v) e ∙ ap (λ t. if t then in_range U1 c.args.ty q q else Err U2) (sym (is_truth c.args.b c.if-b-eq0.false))
