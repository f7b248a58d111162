-- The results of the functions, where there is memory.
use Rattle.std.proofs.Common.{◌≡◌, ◌≤◌, ℕ, zero, suc, Bool, true, List, [], ◌∷◌, ◌++◌, length, take, drop, Option, Some, None, Ok, refl, sym, ap, ◌∙◌, subst, arith}
use Rattle.std.specs.Prelude.{Result, Err, IfOk, sum_by}
use Rattle.std.proofs.lemmas.List.{length-set}
use Rattle.frames_code.specs.declared.code.Instruction.{Instruction}
use Rattle.frames.specs.Costs.{code_bytes}
use Rattle.frames_opt.specs.declared.room.Room.{Room}
use Rattle.frames_opt.specs.inside.Facts.{nothing}
use Rattle.frames_opt.specs.inside.Passes.{jump_of, marked_by, marked, is_marked, all_marked, AreMarked, forward}
use Rattle.frames_opt.specs.declared.facts.Known.{Known}
use Rattle.frames_opt.specs.declared.rows.Row.{Row}
use Rattle.frames_opt.specs.inside.Sweep.{offers, swept, are_right}
use Rattle.frames_opt.specs.layer.Functions.{IsImproved, IsSimplerCode, stayed, improved}
use Rattle.frames_opt.proofs.Positions.{all_are_marked}

marked_length : (marks : List Bool) (code : List Instruction) → length (all_marked marks code) ≡ length marks
marked_length marks [] = refl
marked_length marks (x ∷ xs) = marked_length (marked marks x) xs ∙ one (jump_of x)
  where
    one : (o : Option ℕ) → length (marked_by marks o) ≡ length marks
    one None = refl
    one (Some k) = length-set marks k true

take_front : (s t : List Bool) (n : ℕ) → n ≡ length s → take n (s ++ t) ≡ s
take_front [] t n e = ap (λ k. take k t) e
take_front (x ∷ xs) t zero e = absurd (omega (arith, e))
take_front (x ∷ xs) t (suc n) e = ap (λ ys. x ∷ ys) (take_front xs t n (omega (arith, e)))

-- marks that only become more
pub marks_stay : (before middle marks : List Bool) (code : List Instruction) → middle ≡ all_marked before code → ((k : ℕ) → is_marked middle k ≡ true → is_marked marks k ≡ true) → AreMarked marks code
marks_stay before middle marks code e h k to x is j = h to (subst (λ m. AreMarked m code) (sym e) (all_are_marked before code) k to x is j)

-- marks that were put through a slice of their list
pub marks_kept : (size : ℕ) (list marks : List Bool) (code : List Instruction) → AreMarked marks code → length marks ≡ size → AreMarked (take size (marks ++ drop (length marks) list)) code
marks_kept size list marks code are l =
    let whole : take size (marks ++ drop (length marks) list) ≡ marks = take_front marks (drop (length marks) list) size (omega (arith, l)) in
    subst (λ m. AreMarked m code) (sym whole) are

module _ {V E : Type 0} (items : V → List Instruction) (room : Room) (code : List Instruction) where
  pub improved_in : (middle : List Instruction) (list : List Known) (marks : List Bool) (states : List Row) → AreMarked marks code → middle ≡ forward room marks 0 nothing code
      → list ≡ offers room marks 0 nothing code → are_right room states list 0 middle ≡ true → (r : Result V E) → IfOk r (λ m. items m ≡ swept states 0 middle) → IfOk r (λ m. IsImproved room code (items m))
  improved_in middle list marks states are e e2 right (Ok m) h = record {
    marks = marks;
    are = are;
    states = states;
    right = ap (λ l. are_right room states l 0 (forward room marks 0 nothing code)) (sym e2) ∙ (ap (are_right room states list 0) (sym e) ∙ right);
    is = h ∙ ap (swept states 0) e;
  }
  improved_in middle list marks states are e e2 right (Err x) h = tt

  -- by what stands in for each of them
  pub improved_from : (middle m5 m7 : List Instruction) (list list4 : List Known) (marks marks1 marks2 : List Bool) (states states6 : List Row) → AreMarked marks code → marks1 ≡ marks → marks2 ≡ marks
      → middle ≡ forward room marks1 0 nothing code → list ≡ offers room marks2 0 nothing code → list4 ≡ list → m5 ≡ middle → are_right room states list4 0 m5 ≡ true → states6 ≡ states → m7 ≡ middle
      → (r : Result V E) → IfOk r (λ m. items m ≡ swept states6 0 m7) → IfOk r (λ m. IsImproved room code (items m))
  improved_from middle m5 m7 list list4 marks marks1 marks2 states states6 are one two e eo four five right six seven r h =
      let right2 : are_right room states list 0 middle ≡ true = ap (λ l. are_right room states l 0 middle) (sym four) ∙ (ap (are_right room states list4 0) (sym five) ∙ right) in
      improved_in middle list marks states are (e ∙ ap (λ m. forward room m 0 nothing code) one) (eo ∙ ap (λ m. offers room m 0 nothing code) two) right2 r
      (subst (λ x. IfOk r (λ m. items m ≡ swept x 0 middle)) six (subst (λ x. IfOk r (λ m. items m ≡ swept states6 0 x)) seven h))

  pub stayed_in : (r : Result V E) → IfOk r (λ m. items m ≡ code) → IfOk r (λ m. IsSimplerCode room code (items m))
  stayed_in (Ok m) h = stayed h
  stayed_in (Err x) h = tt

  pub stayed_bytes : (r : Result V E) → IfOk r (λ m. items m ≡ code) → IfOk r (λ m. sum_by code_bytes (items m) ≤ sum_by code_bytes code)
  stayed_bytes (Ok m) h = let same : sum_by code_bytes (items m) ≡ sum_by code_bytes code = ap (sum_by code_bytes) h in omega (arith, same)
  stayed_bytes (Err x) h = tt

pub improved_code : (room : Room) (code made : List Instruction) → IsImproved room code made → IsSimplerCode room code made
improved_code room code made is = improved is
