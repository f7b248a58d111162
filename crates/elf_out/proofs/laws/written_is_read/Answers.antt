use Rattle.elf_out.proofs.Memory.{written_image}
use Rattle.elf_out.proofs.laws.written_is_read.Goals as goal

pub returns : goal.returns
returns c = written_image
