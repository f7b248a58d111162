use Rattle.std.proofs.Common.{◌≡◌, ◌<◌, ℕ, List, Some, slice_get}
use Rattle.tac_code.specs.Sound.{AreBytes}
use Rattle.cc.proofs.front.texts_are_bytes.Given as goal

abbrev pub invariant-loop-number : goal.invariant-loop-number
invariant-loop-number l = (k : ℕ) (text : List ℕ) → k < l.number → slice_get l.names k ≡ Some text → AreBytes text
