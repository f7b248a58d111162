-- The laws of the tokens read, for proofs to cite.
use Rattle.lexer.specs.Laws.{FaultStays, ToldStays, FinishedStay, ReadIsKept, ReadIsTakenUp}
use Rattle.lexer.proofs.ReadingLemmas.{fault_law, told_law, finished_law, kept_law, taken_up_law}

pub fault_stays : FaultStays
fault_stays = fault_law

pub told_stays : ToldStays
told_stays = told_law

pub finished_stay : FinishedStay
finished_stay = finished_law

pub read_is_kept : ReadIsKept
read_is_kept = kept_law

pub read_is_taken_up : ReadIsTakenUp
read_is_taken_up = taken_up_law
