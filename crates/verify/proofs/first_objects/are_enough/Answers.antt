use Rattle.std.proofs.Common.{rules, ◌≡◌, ◌∷◌, ◌*◌}
use Rattle.verify.proofs.FirstValues.{counted}
use Rattle.verify.proofs.first_objects.are_enough.Goals as goal

pub loop-n-preserved : goal.loop-n-preserved
loop-n-preserved c =
    let product : c.in-Some-checked_mul.product ≡ c.loop-n.rows * c.in-Some.n.now = search rules in
    let rest : c.loop-n.rest.now ≡ c.in-Some.n.now ∷ c.in-Some.more.now = search rules in
    counted _ _ _ _ _ _ rest product c.loop-n.invariant
