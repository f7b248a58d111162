-- The theorem about the compiler, with both premises met.
use Rattle.std.proofs.Common.{◌≤◌, ℕ, zero, suc, List, [], ◌∷◌, refl, arith}
use Rattle.csem.specs.Machine.{Ending, Ended, Undefined, TicksUsed}
use Rattle.csem.specs.History.{greatest_sum}
use Rattle.csem.specs.Meaning.{answer, cstep, last_of}
use Rattle.cc_backend.specs.Runs.{IsInput}
use Rattle.cc_laws.specs.Laws as laws
use Rattle.cc_laws.specs.Frames.{frame_in}
use Rattle.cc_theorem.proofs.Joined as compiler
use Rattle.verify_logic.specs.States.{AreBytes}
use Rattle.verify_logic.specs.Whole.{NotUndefined}
use Rattle.verify_theorem.specs.Theorem.{VerifiedTheorem, VerifiedByFrames}

are_bytes : (input : List ℕ) → IsInput input → AreBytes input
are_bytes [] h = tt
are_bytes (b ∷ input) h = (h zero b refl, are_bytes input (λ k c e. h (suc k) c e))

is_defined : (e : Ending) → NotUndefined e → laws.IsDefined e
is_defined (Ended status) h = tt
is_defined (Undefined act at) h = h
is_defined TicksUsed h = tt

pub theorem : VerifiedTheorem
theorem stack most set name built made defined within fits =
    let out = compiler.theorem stack set name built made in
    let p = made.compiles.program in (
      out.0,
      out.1,
      λ input bytes. (
        (out.2.2 input bytes).within_stack (λ n.
            let below : (answer n p input).greatest ≤ stack = omega (arith, within n input, fits) in
            (is_defined (answer n p input).ending (defined n input (are_bytes input bytes)), below)),
        λ n. within n input,
      ),
    )

pub theorem_by_frames : VerifiedByFrames
theorem_by_frames stack most set name built made defined within fits =
    let out = compiler.theorem stack set name built made in
    let p = made.compiles.program in
    let frames = made.compiles.builds.frames in (
      out.0,
      out.1,
      λ input bytes. (
        (out.2.2 input bytes).within_frames (λ n.
            let below : greatest_sum (frame_in frames) (last_of (cstep n p input)).history ≤ stack = omega (arith, within n input, fits) in
            (is_defined (answer n p input).ending (defined n input (are_bytes input bytes)), below)),
        λ n. within n input,
      ),
    )
