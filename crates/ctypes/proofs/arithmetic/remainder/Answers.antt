use Rattle.std.proofs.Common.{sym, ap, ◌∙◌, int_div, int_rem, to_z, of_z, w64, Err}
use Rattle.std.specs.Prelude.{if◌then◌else◌}
use Rattle.std.proofs.lemmas.Int.{rem_is}
use Rattle.ctypes.specs.declared.operators.Undef.TheVariants.{U1, U2}
use Rattle.ctypes.specs.Arithmetic.{in_range}
use Rattle.ctypes.proofs.Exact.{near, quotient_is, is_truth}
use Rattle.ctypes.proofs.arithmetic.remainder.Goals as goal

pub returns-else-b-eq0 : goal.returns-else-b-eq0
returns-else-b-eq0 c =
    let a = c.args.a in
    let b = c.args.b in
    let given = to_z w64 (of_z w64 (int_rem (to_z w64 (of_z w64 a)) (to_z w64 (of_z w64 b)))) in
    let quotient = quotient_is a b (near c.args.ty a c.requires.left) c.ranges.a c.ranges.b in
    c.in_range.ensures ∙ ap (λ q. in_range U1 c.args.ty q given) quotient ∙ ap (λ r. in_range U1 c.args.ty (int_div a b) r) (rem_is w64 a b c.ranges.a c.ranges.b) ∙ ap (λ t. if t then in_range U1 c.args.ty (int_div a b) (int_rem a b) else Err U2) (sym (is_truth b c.if-b-eq0.false))
