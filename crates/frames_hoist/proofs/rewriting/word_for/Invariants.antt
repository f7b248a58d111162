use Rattle.std.proofs.Common.{◌≡◌, drop, zero}
use Rattle.frames_hoist.specs.layer.Hoisting as hoisting
use Rattle.frames_hoist.proofs.rewriting.word_for.Given as goal

abbrev pub invariant-loop-number : goal.invariant-loop-number
invariant-loop-number l = hoisting.word_for l.home l.number (drop l.number l.pool) l.value ≡ hoisting.word_for l.home zero l.pool l.value
