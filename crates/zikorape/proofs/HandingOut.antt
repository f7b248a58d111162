-- The part of a text that is written to the caller's buffers.
use Rattle.std.proofs.Common.{◌≡◌, List, [], ℕ, subst, inl, inr}
use Rattle.srcset.specs.Files.{Files}
use Rattle.srcset.specs.declared.fault.Fault.{Fault}
use Rattle.zikorape.specs.declared.files.FileLengths.{FileLengths}
use Rattle.zikorape.specs.declared.refusing.Refusal.{Refusal}
use Rattle.zikorape.specs.declared.refusing.Refusal.TheVariants.{Told}
use Rattle.zikorape.specs.Given.{AreGiven, FailsToGive}
use Rattle.zikorape.specs.Answered.{FilesGiven, NoSet, OverFiles}
use Rattle.zikorape.specs.Got.{Buffer, Got, HandsOut}
use Rattle.zikorape.specs.inside.Refusing.{IsRefusal}

pub hands_out : (P Q : List ℕ → List ℕ → Type 0) (out message : Buffer) → HandsOut P out message → ((output line : List ℕ) → P output line → Q output line) → HandsOut Q out message
hands_out P Q out message h f = record { output = h.output; line = h.line; meets = f h.output h.line h.meets; output_got = h.output_got; line_got = h.line_got }

pub told : (texts : List ℕ) (lengths : List FileLengths) (refusal : Refusal) (fault : Fault) → refusal ≡ Told fault → IsRefusal texts lengths refusal → FailsToGive texts lengths fault
told texts lengths refusal fault e h =
    let P : Refusal → Type 0 = λ r. IsRefusal texts lengths r in
    subst P e h

-- ---- over files

pub no_set : (given : FilesGiven) (status : ℕ) (Does : Files → List ℕ → List ℕ → Type 0) (out message : Buffer) → HandsOut (NoSet given status) out message → HandsOut (OverFiles given status Does) out message
no_set given status Does out message h = hands_out _ _ out message h (λ output line m. inl m)

-- the result for a text that is the name
pub over_set : (given : FilesGiven) (status : ℕ) (Does : List ℕ → Files → List ℕ → List ℕ → Type 0) (text name : List ℕ) (set : Files) (out message : Buffer)
    → AreGiven given.texts given.lengths set → text ≡ name → HandsOut (Does text set) out message → HandsOut (OverFiles given status (Does name)) out message
over_set given status Does text name set out message g e h = hands_out _ _ out message h (λ output line m. inr (set, g, subst (λ n. Does n set output line) e m))

-- the result without files
pub over_none : (Does : List ℕ → Files → List ℕ → List ℕ → Type 0) (text name : List ℕ) (set : Files) (out message : Buffer)
    → text ≡ name → set ≡ [] → HandsOut (Does text set) out message → HandsOut (Does name []) out message
over_none Does text name set out message e f h = hands_out _ _ out message h (λ output line m. subst (λ n. Does n [] output line) e (subst (λ s. Does text s output line) f m))

-- ---- the output and the line handed out

-- an output that is this text, and a line
pub handed : (P : List ℕ → List ℕ → Type 0) (out message : Buffer) (output text line : List ℕ) → output ≡ text → Got out output → Got message line → P text line → HandsOut P out message
handed P out message output text line e g h m = record { output = text; line = line; meets = m; output_got = subst (Got out) e g; line_got = h }
