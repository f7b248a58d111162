use Rattle.rv32.proofs.Uses.{byte_keeps, half_keeps, word_keeps, loads_kept_byte, loads_kept_half, loads_kept_word, fetches_kept}
use Rattle.rv32.proofs.laws.load_elsewhere.Goals as goal

pub returns-clause-byte_keeps : goal.returns-clause-byte_keeps
returns-clause-byte_keeps c = byte_keeps

pub returns-clause-half_keeps : goal.returns-clause-half_keeps
returns-clause-half_keeps c = half_keeps

pub returns-clause-word_keeps : goal.returns-clause-word_keeps
returns-clause-word_keeps c = word_keeps

pub returns-clause-kept_byte : goal.returns-clause-kept_byte
returns-clause-kept_byte c = loads_kept_byte

pub returns-clause-kept_half : goal.returns-clause-kept_half
returns-clause-kept_half c = loads_kept_half

pub returns-clause-kept_word : goal.returns-clause-kept_word
returns-clause-kept_word c = loads_kept_word

pub returns-clause-kept_fetch : goal.returns-clause-kept_fetch
returns-clause-kept_fetch c = fetches_kept
