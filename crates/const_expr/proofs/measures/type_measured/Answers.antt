use Rattle.std.proofs.Common.{◌≡◌, ◌*◌, ◌%◌, ◌^◌, subst}
use Rattle.ctypes.specs.Types.{bytes_of}
use Rattle.typing_spec.specs.Types.{elements_in, size_of_object}
use Rattle.const_expr.specs.Typings.{named_of}
use Rattle.const_expr.proofs.measures.type_measured.Goals as goal

pub returns-in-Some-clause-ok : goal.returns-in-Some-clause-ok
returns-in-Some-clause-ok c =
    let n = c.in-Some.named in
    rw c.in-Some.is (c.size_is.ensures (size_of_object (named_of n)) (subst (λ x. c.bytes_named.result ≡ (bytes_of n.element * elements_in x) % 2 ^ 64) c.deref.ensures.value c.bytes_named.ensures))
