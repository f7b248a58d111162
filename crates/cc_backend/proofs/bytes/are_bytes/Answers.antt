use Rattle.std.proofs.Common.{arith}
use Rattle.std.proofs.lemmas.Option.{get_or_from_slice_get}
use Rattle.cc_backend.proofs.bytes.are_bytes.Goals as goal

pub returns : goal.returns
returns c = λ k x there.
    let fits = c.type_inv.bytes k in
    let same = get_or_from_slice_get c.args.bytes.now k x 0 there in
    omega (arith, fits, same)
