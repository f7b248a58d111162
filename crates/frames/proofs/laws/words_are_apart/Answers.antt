use Rattle.frames.proofs.Apart as apart
use Rattle.frames.proofs.laws.words_are_apart.Goals as goal

pub returns : goal.returns
returns c = record { objects = apart.words_are_apart; first = apart.words_come_first; references = apart.references_come_next; slots = apart.slots_come_last }
