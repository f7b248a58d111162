-- A renumbered program: its runs, costs, frames, soundness.
use Rattle.std.proofs.Common.{◌≡◌, ℕ, zero, suc, List, [], ◌∷◌, map, Option, Some, None, refl, sym, ap, ◌∙◌, subst, arith}
use Rattle.std.specs.Prelude.{slice_get, option_map}
use Rattle.frames_code.specs.declared.code.Instruction.{Instruction}
use Rattle.frames_code.specs.declared.code.Instruction.TheVariants as instruction
use Rattle.frames_code.specs.Code.{Function, Program, frame_bytes}
use Rattle.frames_code.specs.Run.{run, start, function_at}
use Rattle.frames_code.specs.Costs.{entry_cost_of, next_of, spent_in}
use Rattle.frames_regalloc.specs.Renumbered.{renumbered, renumbered_function, AreRenumbered, IsRenumbered}
use Rattle.frames_regalloc.specs.Laws.{words_of, moved, RunsAlike, CallsAlike, CostsAlike, FramesAlike}
use Rattle.frames_regalloc.proofs.Words.{Alike}
use Rattle.frames_regalloc.proofs.Steps.{next_same, result_is, run_same, entry_same, spent_same, start_same}

-- ---- functions by their numbers

-- which number a word gets, in each function
abbrev pub numbers_of : (fs gs : List Function) → AreRenumbered fs gs → ℕ → ℕ → ℕ
numbers_of [] [] each k c = c
numbers_of [] (g ∷ gs) each k c = c
numbers_of (f ∷ fs) [] each k c = c
numbers_of (f ∷ fs) (g ∷ gs) each zero c = each.0.to c
numbers_of (f ∷ fs) (g ∷ gs) each (suc k) c = numbers_of fs gs each.1 k c

from_to : (fs gs : List Function) (each : AreRenumbered fs gs) (k c : ℕ) → words_of fs gs each k (numbers_of fs gs each k c) ≡ c
from_to [] [] each k c = refl
from_to [] (g ∷ gs) each k c = refl
from_to (f ∷ fs) [] each k c = refl
from_to (f ∷ fs) (g ∷ gs) each zero c = each.0.from_to c
from_to (f ∷ fs) (g ∷ gs) each (suc k) c = from_to fs gs each.1 k c

to_from : (fs gs : List Function) (each : AreRenumbered fs gs) (k c : ℕ) → numbers_of fs gs each k (words_of fs gs each k c) ≡ c
to_from [] [] each k c = refl
to_from [] (g ∷ gs) each k c = refl
to_from (f ∷ fs) [] each k c = refl
to_from (f ∷ fs) (g ∷ gs) each zero c = each.0.to_from c
to_from (f ∷ fs) (g ∷ gs) each (suc k) c = to_from fs gs each.1 k c

-- both have a function of this number, or neither has
abbrev IsPair : (to : ℕ → ℕ) → Option Function → Option Function → Type 0
IsPair to None None = Unit {0}
IsPair to None (Some g) = ⊥
IsPair to (Some f) None = ⊥
IsPair to (Some f) (Some g) = g ≡ renumbered_function to g.resident f

pair_at : (fs gs : List Function) (each : AreRenumbered fs gs) (k : ℕ) → IsPair (numbers_of fs gs each k) (slice_get fs k) (slice_get gs k)
pair_at [] [] each k = tt
pair_at [] (g ∷ gs) each k = absurd each
pair_at (f ∷ fs) [] each k = absurd each
pair_at (f ∷ fs) (g ∷ gs) each zero = each.0.is
pair_at (f ∷ fs) (g ∷ gs) each (suc k) = pair_at fs gs each.1 k

module _ (p q : Program) (same : IsRenumbered p q) where
  abbrev to : ℕ → ℕ → ℕ
  to = numbers_of p.functions q.functions same.functions

  abbrev from : ℕ → ℕ → ℕ
  from = words_of p.functions q.functions same.functions

  function_of_pair : (k : ℕ) (o o2 : Option Function) → slice_get p.functions k ≡ o → slice_get q.functions k ≡ o2 → IsPair (to k) o o2 → function_at q k ≡ renumbered_function (to k) (function_at q k).resident (function_at p k)
  function_of_pair k None None e e2 is = rw (e, e2) refl
  function_of_pair k None (Some g) e e2 is = absurd is
  function_of_pair k (Some f) None e e2 is = absurd is
  function_of_pair k (Some f) (Some g) e e2 is = rw (e, e2) is

  pub alike : Alike p q to from
  alike = record {
    at = λ k. function_of_pair k (slice_get p.functions k) (slice_get q.functions k) refl refl (pair_at p.functions q.functions same.functions k);
    from_to = from_to p.functions q.functions same.functions;
    to_from = to_from p.functions q.functions same.functions;
    statics = same.statics;
    main = same.main;
  }

pub runs_alike : RunsAlike
runs_alike p q same n input =
    let r = alike p q same in
    ap (run q n) (start_same p q (to p q same) (from p q same) r input) ∙ run_same p q (to p q same) (from p q same) r n (start p input)

-- it calls, or returns
abbrev Leaves : Instruction → Type 0
Leaves instruction.Nothing = ⊥
Leaves (instruction.Move d x) = ⊥
Leaves (instruction.Compute o d x y) = ⊥
Leaves (instruction.Convert c d x) = ⊥
Leaves (instruction.Load w d l) = ⊥
Leaves (instruction.Store w x l) = ⊥
Leaves (instruction.Address d l) = ⊥
Leaves (instruction.Element d x y size) = ⊥
Leaves (instruction.Jump k) = ⊥
Leaves (instruction.Branch t x y k) = ⊥
Leaves (instruction.Call f) = Unit {0}
Leaves instruction.PutByte = ⊥
Leaves instruction.GetByte = ⊥
Leaves instruction.Exit = ⊥
Leaves instruction.Return = Unit {0}

-- no other instruction becomes one of these
stays : (to : ℕ → ℕ) (x : Instruction) → Leaves (renumbered to x) → renumbered to x ≡ x
stays to instruction.Nothing h = absurd h
stays to (instruction.Move d x) h = absurd h
stays to (instruction.Compute o d x y) h = absurd h
stays to (instruction.Convert c d x) h = absurd h
stays to (instruction.Load w d l) h = absurd h
stays to (instruction.Store w x l) h = absurd h
stays to (instruction.Address d l) h = absurd h
stays to (instruction.Element d x y size) h = absurd h
stays to (instruction.Jump k) h = absurd h
stays to (instruction.Branch t x y k) h = absurd h
stays to (instruction.Call f) h = refl
stays to instruction.PutByte h = absurd h
stays to instruction.GetByte h = absurd h
stays to instruction.Exit h = absurd h
stays to instruction.Return h = refl

was : (to : ℕ → ℕ) (o : Option Instruction) (y : Instruction) → Leaves y → option_map (renumbered to) o ≡ Some y → o ≡ Some y
was to None y leaves e = absurd (let z : ⊥ = cc in z)
was to (Some x) y leaves e = let same : renumbered to x ≡ y = cc in ap Some (sym (stays to x (subst Leaves (sym same) leaves)) ∙ same)

pub calls_alike : CallsAlike
calls_alike p q same s =
    let next = next_same p q (to p q same) (from p q same) (alike p q same) s in
    let before : (y : Instruction) → Leaves y → next_of q (moved (from p q same) s) ≡ Some y → next_of p s ≡ Some y =
    λ y leaves e. was (to p q same s.frame.function) (next_of p s) y leaves (sym next ∙ e) in
    (λ g e. before (instruction.Call g) tt e, λ e. (before instruction.Return tt e, result_is p q (to p q same) (from p q same) (alike p q same) s))

pub costs_alike : CostsAlike
costs_alike p q same n input =
    let r = alike p q same in
    let entry : entry_cost_of (function_at q q.main) ≡ entry_cost_of (function_at p p.main) =
    ap (λ m. entry_cost_of (function_at q m)) same.main ∙ entry_same p q (to p q same) (from p q same) r p.main in
    let rest : spent_in q n (start q input) ≡ spent_in p n (start p input) =
    ap (spent_in q n) (start_same p q (to p q same) (from p q same) r input) ∙ spent_same p q (to p q same) (from p q same) r n (start p input) in
    omega (arith, entry, rest)

frames_in : (fs gs : List Function) → AreRenumbered fs gs → map frame_bytes gs ≡ map frame_bytes fs
frames_in [] [] each = refl
frames_in [] (g ∷ gs) each = absurd each
frames_in (f ∷ fs) [] each = absurd each
frames_in (f ∷ fs) (g ∷ gs) each = ap (λ n. n ∷ map frame_bytes gs) (ap frame_bytes each.0.is) ∙ ap (λ (ns : List ℕ). frame_bytes f ∷ ns) (frames_in fs gs each.1)

pub frames_alike : FramesAlike
frames_alike p q same = frames_in p.functions q.functions same.functions
