-- Phase 4 as a stream that gives one token after the other.
use Rattle.std.specs.Prelude.{◌≡◌, ◌≤◌, ◌⊎◌, ℕ, suc, List, [], ◌∷◌, drop, true, false, Option, Some, None, is_some, Result, Ok, Err, IfErr}
use Rattle.srcset.specs.declared.fault.Fault.{Fault as ToldFault}
use Rattle.srcset.specs.declared.refusal.Refusal.{Refusal}
use Rattle.srcset.specs.declared.refusal.Refusal.TheVariants.{Memory, At, Told}
use Rattle.srcset.specs.NameTable.{Texts, KeepsNumbers, shown_text}
use Rattle.srcset.specs.Refusal.{IsFaultOfRefusal}
use Rattle.phases.specs.Token.{Token}
use Rattle.pp.specs.declared.stream.Pp.{Pp}
use Rattle.pp.specs.declared.stream.Stage.{Stage}
use Rattle.pp.specs.declared.stream.Stage.TheVariants.{Reads, Pulls, Ended, Refused}
use Rattle.pp.specs.Phase4.{Fault, State, Outcome, Phase4, ending_of, max_tokens}
use Rattle.pp.specs.Left.{around_with, AreOpen, ends_run, Left, left_of, Pulling, resumed_all, room_of}
use Rattle.pp.specs.Held.{IsSound}

-- ---- the rest

-- how many tokens it gave
abbrev pub taken_of : Pp → ℕ
taken_of pp = pp.state.given

-- the rest after this number of tokens
abbrev pub left_behind : ℕ → Phase4 → Phase4
left_behind n whole = record { tokens = drop n whole.tokens; fault = whole.fault }

-- the fault that a refusal names, where texts are numbered as in this table
abbrev pub fault_meant : Texts → Refusal → Option Fault
fault_meant texts Memory = None
fault_meant texts (At c at) = Some (record { code = c; at = at; text = [] })
fault_meant texts (Told c at n) = Some (record { code = c; at = at; text = shown_text texts n })

-- the rest of the open files results in this phase 4
pub record ComesTo (names texts : Texts) (pp : Pp) (rest : Phase4) : Type 0 where
  pub outcome : Outcome State
  pub left : Left names pp.state pp.set.now texts pp.files.innermost pp.files.includers.items outcome
  pub rest_is : rest ≡ left_behind (taken_of pp) (ending_of outcome)

-- the rest of the pulled run, and of the open files after it, results in this phase 4
pub record PullsTo (names texts : Texts) (pp : Pp) (rest : Phase4) : Type 0 where
  pub outcome : Outcome State
  pub inner : Outcome State
  pub pulls : Pulling names pp.state pp.run (around_with (room_of pp.files.includers.items) pp.set.now texts) pp.files.innermost.file.conditionals (left_of pp.files.innermost) inner
  pub whole : outcome ≡ resumed_all pp.set.now texts (room_of pp.files.includers.items) pp.files.includers.items inner
  pub rest_is : rest ≡ left_behind (taken_of pp) (ending_of outcome)

-- no token, and this end
abbrev pub ends_with : Option Fault → Phase4
ends_with fault = record { tokens = []; fault = fault }

-- a stream without memory only says so
abbrev pub RestBy : Stage → Texts → Texts → Pp → Phase4 → Type 0
RestBy Reads names texts pp rest = ComesTo names texts pp rest
RestBy Pulls names texts pp rest = PullsTo names texts pp rest
RestBy Ended names texts pp rest = rest ≡ ends_with None
RestBy (Refused Memory) names texts pp rest = Unit {0}
RestBy (Refused (At c at)) names texts pp rest = rest ≡ ends_with (fault_meant texts (At c at))
RestBy (Refused (Told c at n)) names texts pp rest = rest ≡ ends_with (fault_meant texts (Told c at n))

-- This is left of phase 4: the tokens of the runs that are whole, and how it ends. Nothing is said of the tokens of a run that ends in a
-- fault. Names have these numbers now, and those of
-- `texts` once all is read.
abbrev pub IsRest : Texts → Texts → Pp → Phase4 → Type 0
IsRest names texts pp rest = RestBy pp.stage names texts pp rest

-- ---- the invariant of a stream

-- the files that are read have numbers among these
abbrev pub ReadsBy : Stage → Texts → Pp → Type 0
ReadsBy Reads names pp = IsSound names pp.state × AreOpen names pp.files.innermost pp.files.includers.items × (ends_run pp.files.innermost ≡ false)
ReadsBy Pulls names pp = IsSound names pp.state × AreOpen names pp.files.innermost pp.files.includers.items × (pp.files.innermost.file.run.begun ≡ false)
ReadsBy Ended names pp = Unit {0}
ReadsBy (Refused refusal) names pp = Unit {0}

-- names have these numbers, or later ones
pub record IsStream (names : Texts) (pp : Pp) : Type 0 where
  pub few : taken_of pp ≤ max_tokens
  pub reads : ReadsBy pp.stage names pp

-- ---- its results

-- it refuses each further token like this
pub record Refuses (pp : Pp) (refusal : Refusal) : Type 0 where
  pub stage_is : pp.stage ≡ Refused refusal

-- the first token of the rest; or a token of a run that ends in a fault, before that fault is reported
abbrev pub IsFirst : Token → Texts → Texts → Pp → Phase4 → Type 0
IsFirst x names texts pp rest =
    ((more : List Token) × (rest.tokens ≡ x ∷ more) × IsRest names texts pp (record { tokens = more; fault = rest.fault }))
    ⊎ ((rest.tokens ≡ []) × (is_some rest.fault ≡ true) × IsRest names texts pp rest)

-- The result of this rest: its first token, and the others are left; none, where it is the end alone; its fault, where no token is
-- left.
abbrev pub IsNext : Result (Option Token) Refusal → Texts → Texts → Pp → Phase4 → Type 0
IsNext (Ok (Some x)) names texts pp rest = IsFirst x names texts pp rest
IsNext (Ok None) names texts pp rest = (rest ≡ record { tokens = []; fault = None }) × IsRest names texts pp rest
IsNext (Err Memory) names texts pp rest = Unit {0}
IsNext (Err (At c at)) names texts pp rest = (rest ≡ record { tokens = []; fault = fault_meant texts (At c at) }) × IsRest names texts pp rest
IsNext (Err (Told c at n)) names texts pp rest = (rest ≡ record { tokens = []; fault = fault_meant texts (Told c at n) }) × IsRest names texts pp rest

-- each token counts
abbrev pub taken_after : Result (Option Token) Refusal → ℕ → ℕ
taken_after (Ok (Some x)) n = suc n
taken_after (Ok None) n = n
taken_after (Err refusal) n = n

-- The result of a stream where the names had the first numbers, and have the second ones afterwards. A refused stream stays refused.
pub record IsAnswer (answer : Result (Option Token) Refusal) (names after : Texts) (old new : Pp) : Type 0 where
  pub next : (texts : Texts) (rest : Phase4) → KeepsNumbers after texts → IsRest names texts old rest → IsNext answer after texts new rest
  pub taken : taken_of new ≡ taken_after answer (taken_of old)
  pub refuses : IfErr answer (Refuses new)
  pub again : (refusal : Refusal) → Refuses old refusal → answer ≡ Err refusal

-- the same result, reported as a fault
abbrev pub IsTold : Result (Option Token) ToldFault → Texts → Result (Option Token) Refusal → Type 0
IsTold (Ok given) texts answer = answer ≡ Ok given
IsTold (Err fault) texts answer = (refusal : Refusal) × IsFaultOfRefusal fault texts refusal × (answer ≡ Err refusal)

pub record IsToldAnswer (result : Result (Option Token) ToldFault) (names after : Texts) (old new : Pp) : Type 0 where
  pub answer : Result (Option Token) Refusal
  pub told : IsTold result after answer
  pub is_answer : IsAnswer answer names after old new
