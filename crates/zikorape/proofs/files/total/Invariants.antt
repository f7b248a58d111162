use Rattle.std.proofs.Common.{◌≡◌, ◌+◌, drop}
use Rattle.zikorape.specs.Given.{total}
use Rattle.zikorape.proofs.files.total.Given as goal

abbrev pub invariant-loop-file : goal.invariant-loop-file
invariant-loop-file l = l.sum + total (drop l.file-index l.files) ≡ total l.files
