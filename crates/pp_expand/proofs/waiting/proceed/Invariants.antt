use Rattle.std.proofs.Common.{◌≡◌, ℕ, ◌-◌, ◌≤◌, length}
use Rattle.macros_substitution.specs.HideSets.{Sets}
use Rattle.pp_expand.specs.Expansion.{Known}
use Rattle.pp_expand.specs.inside.Waits.{Onward, WaitingIn, waiting_going}
use Rattle.pp_expand.proofs.waiting.proceed.Given as goal

abbrev pub invariant-loop-at : goal.invariant-loop-at
invariant-loop-at l = record {
  waiting : l.waiting.items ≡ l.initial.waiting.items;
  sets : l.sets ≡ l.initial.sets;
  known : WaitingIn (length l.sets) l.at;
  count : length l.at.arguments.items ≡ length l.initial.at.arguments.items;
  more : length l.initial.at.full.items ≤ length l.at.full.items;
  same : (known : Known) (later : Sets) (onward : Onward) (left : ℕ) → waiting_going known onward later l.initial.at left ≡ waiting_going known onward later l.at left;
}

abbrev pub decreases-loop-at : goal.decreases-loop-at
decreases-loop-at l = length l.initial.at.arguments.items - length l.at.full.items
