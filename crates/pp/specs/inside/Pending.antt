-- A run that precedes the rest of a file.
use Rattle.std.specs.Prelude.{List, [], ◌∷◌, Bool, true, false}
use Rattle.srcset.specs.NameTable.{Texts}
use Rattle.phases.specs.Token.{Token}
use Rattle.macros.specs.Macro.{is_hash}
use Rattle.pp.specs.Phase4.{State, Outcome, goes, run_done}

abbrev pub is_directive : List Token → Bool
is_directive [] = false
is_directive (x ∷ xs) = is_hash x

abbrev pub run_ended : Texts → Bool → List Token → State → Outcome State
run_ended texts false xs s = goes s
run_ended texts true xs s = run_done texts xs s
