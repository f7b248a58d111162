-- What was simplified twice is simplified.
use Rattle.std.proofs.Common.{◌≡◌, ◌≤◌, ℕ, List, Option, Some, None, refl, sym, ap, ◌∙◌, arith}
use Rattle.std.specs.Prelude.{slice_get, option_map, sum_by}
use Rattle.std.proofs.lemmas.Option.{slice_get-map}
use Rattle.frames_code.specs.Code.{Function, Program, frame_bytes}
use Rattle.frames_code.specs.Run.{run, start}
use Rattle.frames_code.specs.Costs.{spent}
use Rattle.frames.specs.Costs.{code_bytes}
use Rattle.frames_opt.specs.Simplified.{IsDefined, IsSimplified}
use Rattle.frames_opt.proofs.InTurn.{alike_in_turn, defined_alike}
use Rattle.frames_reach.specs.layer.Functions.{SimplifiedInTurn}

module _ (p q r : Program) (first : IsSimplified p q) (second : IsSimplified q r) where
  costs : (n : ℕ) (input : List ℕ) → IsDefined (run p n (start p input)) → spent r n (start r input) ≤ spent p n (start p input)
  costs n input defined = omega (arith, first.costs n input defined, second.costs n input (defined_alike p q first.runs n input defined))

  same_frames : (k : ℕ) → option_map frame_bytes (slice_get q.functions k) ≡ option_map frame_bytes (slice_get p.functions k)
  same_frames k = sym (slice_get-map frame_bytes q.functions k) ∙ (ap (λ xs. slice_get xs k) first.frames ∙ slice_get-map frame_bytes p.functions k)

  bytes : (k : ℕ) (f h : Function) → slice_get p.functions k ≡ Some f → slice_get r.functions k ≡ Some h → sum_by code_bytes h.code ≤ sum_by code_bytes f.code
  bytes k f h ef eh = on (slice_get q.functions k) refl
    where
      on : (o : Option Function) → slice_get q.functions k ≡ o → sum_by code_bytes h.code ≤ sum_by code_bytes f.code
      on None e = let no : None ≡ Some (frame_bytes f) = ap (option_map frame_bytes) (sym e) ∙ (same_frames k ∙ ap (option_map frame_bytes) ef) in absurd (let z : ⊥ = cc in z)
      on (Some g) e = omega (arith, first.bytes k f g ef e, second.bytes k g h e eh)

pub simplified_in_turn : SimplifiedInTurn
simplified_in_turn p q r first second =
    let both = alike_in_turn p q r first.runs first.at_calls second.runs second.at_calls in
    record {
      runs = both.0;
      at_calls = both.1;
      costs = costs p q r first second;
      frames = second.frames ∙ first.frames;
      bytes = bytes p q r first second;
      sound = λ sound. second.sound (first.sound sound);
      statics = second.statics ∙ first.statics;
      main = second.main ∙ first.main;
    }
