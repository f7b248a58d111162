use Rattle.std.proofs.Common.{◌≡◌, take}
use Rattle.decls_declarators.proofs.objects.narrowed.Given as goal

abbrev pub invariant-loop-length : goal.invariant-loop-length
invariant-loop-length l = l.narrow.items ≡ take l.length-index l.lengths
