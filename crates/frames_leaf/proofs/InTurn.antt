-- A program that was optimised, and then had registers allocated, is optimised.
use Rattle.std.proofs.Common.{◌≡◌, ◌≤◌, ℕ, ◌+◌, List, Option, Some, None, refl, sym, ap, ◌∙◌, arith}
use Rattle.std.specs.Prelude.{slice_get, option_map}
use Rattle.std.proofs.lemmas.Option.{slice_get-map}
use Rattle.frames_code.specs.Code.{Function, Program, frame_bytes}
use Rattle.frames_code.specs.Run.{run, start}
use Rattle.frames_code.specs.Costs.{entry_cost, spent, spent_with_entry}
use Rattle.frames.specs.Costs.{function_bytes, function_bytes_in}
use Rattle.frames_opt.specs.Simplified.{IsDefined}
use Rattle.frames_opt.proofs.InTurn.{alike_in_turn, defined_alike}
use Rattle.frames_hoist.specs.Optimised.{IsOptimised}
use Rattle.frames_leaf.specs.Allocated.{IsAllocated, AllocatedInTurn}

module _ (p q r : Program) (better : IsOptimised p q) (allocated : IsAllocated q r) where
  costs : (n : ℕ) (input : List ℕ) → IsDefined (run p n (start p input)) → spent_with_entry r n (start r input) ≤ entry_cost + spent p n (start p input)
  costs n input defined =
      let middle = defined_alike p q better.runs n input defined in
      omega (arith, better.costs n input defined, allocated.costs n input middle)

  same_frames : (k : ℕ) → option_map frame_bytes (slice_get q.functions k) ≡ option_map frame_bytes (slice_get p.functions k)
  same_frames k = sym (slice_get-map frame_bytes q.functions k) ∙ (ap (λ xs. slice_get xs k) better.frames ∙ slice_get-map frame_bytes p.functions k)

  bytes : (k : ℕ) (f h : Function) → slice_get p.functions k ≡ Some f → slice_get r.functions k ≡ Some h → function_bytes_in h ≤ function_bytes f
  bytes k f h ef eh = on (slice_get q.functions k) refl
    where
      on : (o : Option Function) → slice_get q.functions k ≡ o → function_bytes_in h ≤ function_bytes f
      on None e = let no : None ≡ Some (frame_bytes f) = ap (option_map frame_bytes) (sym e) ∙ (same_frames k ∙ ap (option_map frame_bytes) ef) in absurd (let z : ⊥ = cc in z)
      on (Some g) e = omega (arith, better.bytes k f g ef e, allocated.bytes k g h e eh)

pub allocated_in_turn : AllocatedInTurn
allocated_in_turn p q r better allocated =
    let both = alike_in_turn p q r better.runs better.at_calls allocated.runs allocated.at_calls in
    record {
      runs = both.0;
      at_calls = both.1;
      costs = costs p q r better allocated;
      frames = allocated.frames ∙ better.frames;
      bytes = bytes p q r better allocated;
      sound = λ sound. allocated.sound (better.sound sound);
      statics = allocated.statics ∙ better.statics;
      main = allocated.main ∙ better.main;
    }
