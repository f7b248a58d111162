-- A flat program that is made of a sound three-address program.
use Rattle.std.proofs.Common.{◌≡◌, ℕ, zero, suc, ◌+◌, List, [], ◌∷◌, map, Option, Some, None, true, false, refl, sym, ap, ◌∙◌}
use Rattle.std.specs.Prelude.{is_some, slice_get}
use Rattle.tac_code.specs.Code as tac
use Rattle.tac_code.specs.Code.{Program, or_no_function}
use Rattle.tac_code.specs.Run.{State, open_calls}
use Rattle.tac_code.specs.Sound.{IsSoundProgram}
use Rattle.frames_code.specs.Code as flat_code
use Rattle.frames_code.specs.Code.{Function, frame_bytes}
use Rattle.frames_code.specs.Run as flat
use Rattle.frames_code.specs.Run.{Frame, function_at, bytes_of, name_of}
use Rattle.frames.specs.Data.{data_of}
use Rattle.frames.specs.Layout.{starts_of}
use Rattle.frames.specs.Translated.{flat_function, flat_program}
use Rattle.frames_correct.specs.Matched.{Matched, function_for, stack_bytes}
use Rattle.frames_correct.proofs.Lists.{get_map}
use Rattle.frames_correct.proofs.Frames.{functions_same}

pub record IsMadeOf (q : Program) (f : flat_code.Program) : Type 0 where
  pub sound : IsSoundProgram q
  pub functions : (k : ℕ) → function_at f k ≡ function_for q k
  pub statics : f.statics ≡ data_of q
  pub main : f.main ≡ q.main

known_in : (p : flat_code.Program) (k : ℕ) (g : Function) → slice_get p.functions k ≡ Some g → g ≡ function_at p k
known_in p k g e = rw e refl

unknown_in : (p : flat_code.Program) (k : ℕ) → slice_get p.functions k ≡ None → record { code = []; cells = 0; resident = 0; area = 0; outgoing = 0; gives = false } ≡ function_at p k
unknown_in p k e = rw e refl

none_in_map : {A B : Type 0} (f : A → B) (xs : List A) (k : ℕ) → slice_get xs k ≡ None → slice_get (map f xs) k ≡ None
none_in_map f [] k e = refl
none_in_map f (x ∷ xs) zero e = absurd (let z : ⊥ = cc in z)
none_in_map f (x ∷ xs) (suc k) e = none_in_map f xs k e

flat_functions : (q : Program) (k : ℕ) → function_at (flat_program q) k ≡ function_for q k
flat_functions q k = by_case (slice_get q.functions k) refl
  where
    by_case : (o : Option tac.Function) → slice_get q.functions k ≡ o → function_at (flat_program q) k ≡ function_for q k
    by_case None e =
        sym (unknown_in (flat_program q) k (none_in_map (flat_function (starts_of q)) q.functions k e))
        ∙ ap (λ o. flat_function (starts_of q) (or_no_function o)) (sym e)
    by_case (Some g) e =
        sym (known_in (flat_program q) k (flat_function (starts_of q) g) (get_map (flat_function (starts_of q)) q.functions k g e))
        ∙ ap (λ o. flat_function (starts_of q) (or_no_function o)) (sym e)

pub is_made : (q : Program) → IsSoundProgram q → IsMadeOf q (flat_program q)
is_made q sound = record { sound = sound; functions = flat_functions q; statics = refl; main = refl }

-- ---- names of frames

pub stack_is : (q : Program) (f : flat_code.Program) → IsMadeOf q f → (fs : List Frame) → bytes_of f fs ≡ stack_bytes q (map (λ x. x.function) fs)
stack_is q f g [] = refl
stack_is q f g (x ∷ fs) =
    ap (λ h. frame_bytes h + bytes_of f fs) (g.functions x.function) ∙ ap (λ n. frame_bytes (function_for q x.function) + n) (stack_is q f g fs)

pub name_is : (q : Program) (f : flat_code.Program) → IsMadeOf q f → (t : State) (s : flat.State) → Matched q f t s → name_of f s.frame s.waiting ≡ stack_bytes q (open_calls t)
name_is q f g t s m = stack_is q f g (s.frame ∷ s.waiting) ∙ ap (stack_bytes q) (functions_same q (t.call ∷ t.waiting) (s.frame ∷ s.waiting) t.store m.frames)

pub function_is : (q : Program) (f : flat_code.Program) → IsMadeOf q f → (t : State) (s : flat.State) → Matched q f t s → function_at f s.frame.function ≡ function_for q t.call.function
function_is q f g t s m = g.functions s.frame.function ∙ ap (function_for q) m.frames.0.function

-- where the function has a result, that of flat code is in temporary 0
pub result_held : (q : Program) (f : flat_code.Program) → IsMadeOf q f → (t : State) (s : flat.State) → Matched q f t s → is_some (tac.function_at q t.call.function).result ≡ true → flat.result_of f s ≡ s.temporaries 0
result_held q f g t s m some = ap (λ b. flat.result_if b (s.temporaries 0)) (ap (λ (h : Function). h.gives) (function_is q f g t s m) ∙ some)
