use Rattle.std.proofs.Common.{rules}
use Rattle.rv32.proofs.Spaces.{shows_at, bare_space}
use Rattle.rv32.proofs.memory.map.Memory.holder.Goals as goal

pub returns-in-Some-clause-shows : goal.returns-in-Some-clause-shows
returns-in-Some-clause-shows c = λ d. shows_at _ _ d c.args.self.now.laid_out (search rules)

pub returns-in-None-clause-bare : goal.returns-in-None-clause-bare
returns-in-None-clause-bare c = bare_space _ _ (λ k lt. c.in-None.ensures.bare k (search rules))
