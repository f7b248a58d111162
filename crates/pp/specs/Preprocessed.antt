-- The result of a call that preprocesses.
use Rattle.std.specs.Prelude.{◌≡◌, ◌⊎◌, ℕ, List, [], Option, Some, None, Err}
use Rattle.srcset.specs.declared.refusal.Pos.{Pos}
use Rattle.srcset.specs.declared.refusal.Refusal.{Refusal}
use Rattle.srcset.specs.declared.refusal.Refusal.TheVariants.{Memory, At, Told}
use Rattle.srcset.specs.declared.code.Code.{Code}
use Rattle.srcset.specs.declared.code.Code.TheVariants as code
use Rattle.srcset.specs.declared.fault.Fault.{Fault}
use Rattle.srcset.specs.Files.{Files, file_of}
use Rattle.srcset.specs.NameTable.{Texts, KeepsNumbers, shown_text}
use Rattle.srcset.specs.Refusal.{IsFaultOfRefusal}
use Rattle.phases.specs.Token.{Token}
use Rattle.phases.specs.Lines.{scanned}
use Rattle.pp.specs.Phase4.{number_in, phase4}

-- phase 4 of the set is done, and these are its tokens
pub record IsDone (files : Files) (texts : Texts) (main : List ℕ) (list : List Token) : Type 0 where
  pub done : phase4 files texts main ≡ record { tokens = list; fault = None }

-- phase 4 ends with this fault, which adds this text
pub record IsStopped (files : Files) (texts : Texts) (main : List ℕ) (c : Code) (at : Pos) (text : List ℕ) : Type 0 where
  pub stops : (phase4 files texts main).fault ≡ Some (record { code = c; at = at; text = text })

-- why there are no tokens
abbrev pub IsRefused : Files → Texts → List ℕ → Refusal → Type 0
IsRefused files texts main Memory = Unit {0}
IsRefused files texts main (At c at) = IsStopped files texts main c at []
IsRefused files texts main (Told c at text) = IsStopped files texts main c at (shown_text texts text)

-- The fault of that refusal, whose file's name these texts give. Later tables have the same numbers.
pub record IsPreprocessFault (fault : Fault) (files : Files) (names : Texts) (main : List ℕ) : Type 0 where
  pub refusal : Refusal
  pub fault_is : IsFaultOfRefusal fault names refusal
  pub refused : (texts : Texts) → KeepsNumbers names texts → IsRefused files texts main refusal

-- ---- a call that begins phase 4, and does none of it

-- why it does not begin: there is no main file, or phases 1 to 3 refuse the main file
abbrev pub IsUnread : Texts → List ℕ → Option (List ℕ) → Refusal → Type 0
IsUnread texts main None refusal = refusal ≡ At code.NoMainFile (record { file = number_in texts main; line = 0 })
IsUnread texts main (Some bytes) refusal = scanned (number_in texts main) bytes ≡ Err refusal

-- or memory ran out
abbrev pub IsUnbegun : Files → Texts → List ℕ → Refusal → Type 0
IsUnbegun files texts main refusal = (refusal ≡ Memory) ⊎ IsUnread texts main (file_of files main) refusal

-- the fault of such a refusal, as of one of all that phase 4 is
pub record IsUnbegunFault (fault : Fault) (files : Files) (names : Texts) (main : List ℕ) : Type 0 where
  pub refusal : Refusal
  pub fault_is : IsFaultOfRefusal fault names refusal
  pub unbegun : (texts : Texts) → KeepsNumbers names texts → IsUnbegun files texts main refusal
