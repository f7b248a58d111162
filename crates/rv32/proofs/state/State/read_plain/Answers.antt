use Rattle.std.proofs.Common.{rules}
use Rattle.rv32.proofs.Registers.{plain_read}
use Rattle.rv32.proofs.state.State.read_plain.Goals as goal

pub returns : goal.returns
returns c = rw (plain_read c.args.self.now.registers c.args.register c.requires) (search rules)
