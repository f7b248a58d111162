use Rattle.rv32.proofs.Uses.{loads_stored_byte, loads_stored_half, loads_stored_word}
use Rattle.rv32.proofs.laws.load_after_store.Goals as goal

pub returns-clause-byte : goal.returns-clause-byte
returns-clause-byte c = loads_stored_byte

pub returns-clause-half : goal.returns-clause-half
returns-clause-half c = loads_stored_half

pub returns-clause-word : goal.returns-clause-word
returns-clause-word c = loads_stored_word
