-- A program that was simplified, and then optimised, is optimised.
use Rattle.std.proofs.Common.{◌≡◌, ◌≤◌, ℕ, ◌+◌, List, Option, Some, None, refl, sym, ap, ◌∙◌, arith}
use Rattle.std.specs.Prelude.{slice_get, option_map}
use Rattle.std.proofs.lemmas.Option.{slice_get-map}
use Rattle.frames_code.specs.Code.{Function, Program, frame_bytes}
use Rattle.frames_code.specs.Run.{run, start}
use Rattle.frames_code.specs.Costs.{entry_cost, spent, spent_with_entry}
use Rattle.frames.specs.Costs.{function_bytes, function_bytes_in}
use Rattle.frames_opt.specs.Simplified.{IsDefined, IsSimplified}
use Rattle.frames_opt.proofs.InTurn.{alike_in_turn, defined_alike}
use Rattle.frames_hoist.specs.Optimised.{IsOptimised, OptimisedInTurn}

module _ (p q r : Program) (simple : IsSimplified p q) (better : IsOptimised q r) where
  costs : (n : ℕ) (input : List ℕ) → IsDefined (run p n (start p input)) → spent_with_entry r n (start r input) ≤ entry_cost + spent p n (start p input)
  costs n input defined =
      let middle = defined_alike p q simple.runs n input defined in
      omega (arith, simple.costs n input defined, better.costs n input middle)

  same_frames : (k : ℕ) → option_map frame_bytes (slice_get q.functions k) ≡ option_map frame_bytes (slice_get p.functions k)
  same_frames k = sym (slice_get-map frame_bytes q.functions k) ∙ (ap (λ xs. slice_get xs k) simple.frames ∙ slice_get-map frame_bytes p.functions k)

  bytes : (k : ℕ) (f h : Function) → slice_get p.functions k ≡ Some f → slice_get r.functions k ≡ Some h → function_bytes_in h ≤ function_bytes f
  bytes k f h ef eh = on (slice_get q.functions k) refl
    where
      on : (o : Option Function) → slice_get q.functions k ≡ o → function_bytes_in h ≤ function_bytes f
      on None e = let no : None ≡ Some (frame_bytes f) = ap (option_map frame_bytes) (sym e) ∙ (same_frames k ∙ ap (option_map frame_bytes) ef) in absurd (let z : ⊥ = cc in z)
      on (Some g) e = omega (arith, simple.bytes k f g ef e, better.bytes k g h e eh)

pub optimised_in_turn : OptimisedInTurn
optimised_in_turn p q r simple better =
    let both = alike_in_turn p q r simple.runs simple.at_calls better.runs better.at_calls in
    record {
      runs = both.0;
      at_calls = both.1;
      costs = costs p q r simple better;
      frames = better.frames ∙ simple.frames;
      bytes = bytes p q r simple better;
      sound = λ sound. better.sound (simple.sound sound);
      statics = better.statics ∙ simple.statics;
      main = better.main ∙ simple.main;
    }
