use Rattle.rv32.proofs.Uses.{bytes_are_apart, halves_are_apart, words_are_apart}
use Rattle.rv32.proofs.laws.different_addresses.Goals as goal

pub returns-clause-bytes : goal.returns-clause-bytes
returns-clause-bytes c = bytes_are_apart

pub returns-clause-halves : goal.returns-clause-halves
returns-clause-halves c = halves_are_apart

pub returns-clause-words : goal.returns-clause-words
returns-clause-words c = words_are_apart
