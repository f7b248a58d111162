-- How a stream goes on.
use Rattle.std.specs.Prelude.{◌≡◌, ◌++◌, ◌&&◌, ◌⊎◌, ℕ, suc, List, Bool, true, false, Result, Ok, Err, Option, Some, None, is_some}
use Rattle.srcset.specs.declared.refusal.Refusal.{Refusal}
use Rattle.srcset.specs.NameTable.{Texts, KeepsNumbers}
use Rattle.phases.specs.Token.{Token}
use Rattle.pp.specs.declared.stream.Pp.{Pp}
use Rattle.pp.specs.declared.stream.Stage.{Stage}
use Rattle.pp.specs.declared.stream.Stage.TheVariants.{Reads, Pulls, Ended, Refused}
use Rattle.pp.specs.Phase4.{Phase4}
use Rattle.pp.specs.Held.{IsSound}
use Rattle.pp.specs.Left.{AreOpen, ends_run}
use Rattle.pp.specs.Stream.{taken_of, IsRest, Refuses, IsFirst}
use Rattle.pp.specs.inside.Including.{size_of}

-- a step left more lines, or none, or was refused
abbrev pub stage_after : Result Bool Refusal → Stage
stage_after (Ok true) = Reads
stage_after (Ok false) = Ended
stage_after (Err refusal) = Refused refusal

abbrev pub is_reading : Stage → Bool
is_reading Reads = true
is_reading Pulls = false
is_reading Ended = false
is_reading (Refused refusal) = false

abbrev pub is_pulling : Stage → Bool
is_pulling Reads = false
is_pulling Pulls = true
is_pulling Ended = false
is_pulling (Refused refusal) = false

-- lines are read, and a run ends before the next
abbrev pub run_ends : Pp → Bool
run_ends pp = is_reading pp.stage && ends_run pp.files.innermost

-- how the stream ends, where no lines are left
abbrev pub end_of : Stage → Result (Option Token) Refusal
end_of Reads = Ok None
end_of Pulls = Ok None
end_of Ended = Ok None
end_of (Refused refusal) = Err refusal

-- how much is left
abbrev pub size_by : Stage → Pp → ℕ
size_by Reads pp = suc (size_of pp.files.innermost pp.files.includers.items)
size_by Pulls pp = suc (size_of pp.files.innermost pp.files.includers.items)
size_by Ended pp = 0
size_by (Refused refusal) pp = 0

-- the invariant of a stream while lines are read, whether or not a run ends before the next
abbrev pub OpenBy : Stage → Texts → Pp → Type 0
OpenBy Reads names pp = IsSound names pp.state × AreOpen names pp.files.innermost pp.files.includers.items
OpenBy Pulls names pp = ⊥
OpenBy Ended names pp = Unit {0}
OpenBy (Refused refusal) names pp = Unit {0}

-- what stays the same of a stream while no token is given
pub record Stays (names after : Texts) (old new : Pp) : Type 0 where
  pub rest : (texts : Texts) (rest : Phase4) → KeepsNumbers after texts → IsRest names texts old rest → IsRest after texts new rest
  pub taken : taken_of new ≡ taken_of old
  pub still : (refusal : Refusal) → Refuses old refusal → Refuses new refusal

-- the pulled item: a token of the run, or none
abbrev pub IsPulled : Option Token → Texts → Pp → Pp → Type 0
IsPulled None names old new = Stays names names old new
IsPulled (Some x) names old new =
    ((texts : Texts) (rest : Phase4) → KeepsNumbers names texts → IsRest names texts old rest → IsFirst x names texts new rest)
    × (taken_of new ≡ suc (taken_of old)) × (is_pulling old.stage ≡ true)

-- tokens that were collected, and the rest of the whole after them
pub record Collects (names texts : Texts) (pp : Pp) (list : List Token) (whole : Phase4) : Type 0 where
  pub rest : Phase4
  pub is_rest : IsRest names texts pp rest
  pub fault_is : whole.fault ≡ rest.fault
  pub tokens_are : (whole.tokens ≡ list ++ rest.tokens) ⊎ (is_some rest.fault ≡ true)
