use Rattle.std.proofs.Common.{◌≡◌, ◌+◌, ◌*◌, drop, length}
use Rattle.interp_store.specs.layer.Digits.{number_of}
use Rattle.interp_steps.proofs.Weights.{weight}
use Rattle.interp_steps.proofs.digits.take_one.Given as goal

abbrev pub invariant-loop-k : goal.invariant-loop-k
invariant-loop-k l = record {
  size : length l.digits.items ≡ length l.initial.digits.items;
  rest : drop l.k l.digits.items ≡ drop l.k l.initial.digits.items;
  is : number_of l.digits.items + 1 ≡ number_of l.initial.digits.items + weight l.k;
  none : number_of l.initial.digits.items ≡ weight l.k * number_of (drop l.k l.initial.digits.items);
}
