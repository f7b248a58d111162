use Rattle.lexer.proofs.ReadingLemmas.{fault_law, told_law, finished_law}
use Rattle.lexer.proofs.laws.a_front.Goals as goal

pub returns : goal.returns
returns c = record { fault = fault_law; told = told_law; finished = finished_law }
