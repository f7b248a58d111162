use Rattle.std.proofs.Common.{◌≡◌, ◌++◌, take}
use Rattle.elf_out.specs.Written as written
use Rattle.elf_out.proofs.writer.push_halves.Given as goal

abbrev pub invariant-loop-half : goal.invariant-loop-half
invariant-loop-half l = l.file.items ≡ l.initial.file.items ++ written.halves (take l.half-index l.halves)
