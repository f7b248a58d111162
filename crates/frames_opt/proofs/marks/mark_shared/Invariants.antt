use Rattle.std.proofs.Common.{◌≡◌, ℕ, true}
use Rattle.frames_opt.specs.inside.Passes as passes
use Rattle.frames_opt.proofs.marks.mark_shared.Given as goal

abbrev pub invariant-loop-number : goal.invariant-loop-number
invariant-loop-number l = (k : ℕ) → passes.is_marked l.initial.marks k ≡ true → passes.is_marked l.marks k ≡ true
