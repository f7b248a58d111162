use Rattle.std.proofs.Common.{◌≡◌, ℕ, get_or, ◌+◌, ◌-◌, ◌<◌, ◌^◌, length, rules, arith}
use Rattle.std.specs.Prelude.{min}
use Rattle.interp_transitions.proofs.Tallies.{one_more}
use Rattle.interp_transitions.proofs.tally.with_one_more.Goals as goal

pub returns : goal.returns
returns c = λ w fs e f.
    let each : (k : ℕ) → get_or c.args.weights.now k 0 < 2 ^ 64 = λ k. let fits = c.type_inv.weights k in omega (arith, fits) in
    let is : c.saturating_add.result ≡ min (c.args.before + c.args.weight) (2 ^ 128 - 1) = search rules in
    let short : length c.args.weights.now < 2 ^ 64 = search rules in
    let small : c.args.weight < 2 ^ 64 = search rules in
    one_more w fs c.args.weights.now c.args.before c.args.weight c.saturating_add.result each short small is e f
