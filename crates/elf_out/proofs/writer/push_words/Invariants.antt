use Rattle.std.proofs.Common.{◌≡◌, ◌++◌, take}
use Rattle.elf_out.specs.Written as written
use Rattle.elf_out.proofs.writer.push_words.Given as goal

abbrev pub invariant-loop-word : goal.invariant-loop-word
invariant-loop-word l = l.file.items ≡ l.initial.file.items ++ written.words (take l.word-index l.words)
