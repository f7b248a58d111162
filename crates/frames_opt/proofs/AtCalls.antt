-- A program that was made simpler calls and returns only where the program does, with the same in its temporaries.
use Rattle.std.proofs.Common.{◌≡◌, ⊎_elim, ℕ, zero, suc, List, [], ◌∷◌, length, Option, Some, None, Bool, true, refl, sym, ap, ◌∙◌, subst, arith}
use Rattle.std.specs.Prelude.{◌==◌, ◌&&◌, slice_get}
use Rattle.frames_code.specs.declared.code.Instruction.{Instruction}
use Rattle.frames_code.specs.declared.code.Instruction.TheVariants as instruction
use Rattle.frames_code.specs.Code.{Program}
use Rattle.frames_code.specs.Costs.{next_of}
use Rattle.frames_code.specs.Run.{Values, State, running, run, start, result_of, function_at}
use Rattle.frames_code.proofs.Results.{result_same}
use Rattle.frames_opt.specs.declared.facts.Known.{Known}
use Rattle.frames_opt.specs.Simplified.{IsAtCall}
use Rattle.frames_opt.specs.inside.Facts.{known_of, room_of}
use Rattle.frames_opt.specs.inside.Rules.{simpler_operand, simpler}
use Rattle.frames_opt.specs.declared.statuses.Status.{Status}
use Rattle.frames_opt.specs.declared.rows.Row.{Row}
use Rattle.frames_opt.specs.inside.Liveness.{reads}
use Rattle.frames_opt.specs.inside.Sweep.{placed}
use Rattle.frames_opt.proofs.Acts.{name_in, home_in, gives_in}
use Rattle.frames_opt.proofs.Steps.{now_in}
use Rattle.frames_opt.proofs.Alike.{same_some, gives_at, over, Agree, same_where_read}
use Rattle.frames_opt.proofs.Positions.{carried_form, compute_form, element_form}
use Rattle.frames_opt.proofs.Runs.{Position, IsSimpler, reached}

-- it calls, or returns
abbrev Leaves : Instruction → Type 0
Leaves instruction.Nothing = ⊥
Leaves (instruction.Move d x) = ⊥
Leaves (instruction.Compute o d x y) = ⊥
Leaves (instruction.Convert c d x) = ⊥
Leaves (instruction.Load w d l) = ⊥
Leaves (instruction.Store w x l) = ⊥
Leaves (instruction.Address d l) = ⊥
Leaves (instruction.Element d x y size) = ⊥
Leaves (instruction.Jump to) = ⊥
Leaves (instruction.Branch t x y to) = ⊥
Leaves (instruction.Call f) = Unit {0}
Leaves instruction.PutByte = ⊥
Leaves instruction.GetByte = ⊥
Leaves instruction.Exit = ⊥
Leaves instruction.Return = Unit {0}

abbrev Stays : Instruction → Type 0
Stays x = Leaves x → ⊥

-- no other instruction becomes one of these
stays : (area : ℕ) (facts : List Known) (x : Instruction) → Leaves (simpler area facts x) → simpler area facts x ≡ x
stays area facts instruction.Nothing h = absurd h
stays area facts (instruction.Move d x) h = absurd (carried_form Stays d (simpler_operand facts x) (λ no. no) (λ no. no) h)
stays area facts (instruction.Compute o d x y) h = absurd (compute_form Stays o d (λ o2 x2 y2 no. no) (simpler_operand facts x) (simpler_operand facts y) h)
stays area facts (instruction.Convert c d x) h = absurd h
stays area facts (instruction.Load w d l) h = absurd h
stays area facts (instruction.Store w x l) h = absurd h
stays area facts (instruction.Address d l) h = absurd h
stays area facts (instruction.Element d x y size) h = absurd (element_form Stays d x size (λ no. no) (λ no. no) (λ y2 no. no) (λ o no. no) (λ o no. no) area (known_of facts x) (simpler_operand facts y) h)
stays area facts (instruction.Jump to) h = absurd h
stays area facts (instruction.Branch t x y to) h = absurd h
stays area facts (instruction.Call f) h = refl
stays area facts instruction.PutByte h = absurd h
stays area facts instruction.GetByte h = absurd h
stays area facts instruction.Exit h = absurd h
stays area facts instruction.Return h = refl

-- nor by an index that stayed
placed_stays : (states : List Row) (i : ℕ) (x : Instruction) → Leaves (placed states i x) → placed states i x ≡ x
placed_stays states i instruction.Nothing h = absurd h
placed_stays states i (instruction.Move d x) h = absurd h
placed_stays states i (instruction.Compute o d x y) h = absurd h
placed_stays states i (instruction.Convert c d x) h = absurd h
placed_stays states i (instruction.Load w d l) h = absurd h
placed_stays states i (instruction.Store w x l) h = absurd h
placed_stays states i (instruction.Address d l) h = absurd h
placed_stays states i (instruction.Element d x y size) h = absurd h
placed_stays states i (instruction.Jump to) h = absurd h
placed_stays states i (instruction.Branch t x y to) h = absurd h
placed_stays states i (instruction.Call f) h = refl
placed_stays states i instruction.PutByte h = absurd h
placed_stays states i instruction.GetByte h = absurd h
placed_stays states i instruction.Exit h = absurd h
placed_stays states i instruction.Return h = refl

-- the second has what the first has in the temporaries that it reads
abbrev HasWhatIsRead : Bool → (ℕ → Status) → Instruction → State → State → Type 0
HasWhatIsRead has here y s t = (k : ℕ) → reads has (here k) k y ≡ true → t.temporaries k ≡ s.temporaries k

none_too : (xs ys : List Instruction) (i : ℕ) → length ys ≡ length xs → slice_get xs i ≡ None → slice_get ys i ≡ None
none_too xs [] i count e = refl
none_too [] (y ∷ ys) i count e = absurd (omega (arith, count))
none_too (x ∷ xs) (y ∷ ys) zero count e = absurd (let z : ⊥ = cc in z)
none_too (x ∷ xs) (y ∷ ys) (suc i) count e = none_too xs ys i (omega (arith, count)) e

module _ (p q : Program) (kn : ℕ → ℕ → List Known) (states : ℕ → List Row) (simple : IsSimpler p q kn states) (s : State) (u a : Values) (agree : Agree (name_in p s) (home_in p s) (now_in p states s) s u a) where
  abbrev k : ℕ
  k = s.frame.function

  abbrev i : ℕ
  i = s.frame.at

  module _ (x : Instruction) (is : slice_get (function_at p k).code i ≡ Some x) where
    abbrev c : Position (room_of (function_at p k)) (kn k) (states k) (function_at q k).code i x
    c = simple.each k i x is

    half_is : Leaves c.done → c.done ≡ c.half
    half_is leaves = ⊎_elim (λ e. e.is ∙ placed_stays (states k) i c.half (subst Leaves e.is leaves)) (λ d. absurd (subst Leaves d.is leaves)) c.out

    simplified : (half : Instruction) → half ≡ simpler (function_at p k).area (kn k i) x → Leaves half → half ≡ x
    simplified half e leaves = e ∙ stays (function_at p k).area (kn k i) x (subst Leaves e leaves)

    first_is : Leaves c.half → c.half ≡ x
    first_is leaves = ⊎_elim (λ e. e) (λ e. simplified c.half e leaves) c.by

    whole : Leaves c.done → c.done ≡ x
    whole leaves = half_is leaves ∙ first_is (subst Leaves (half_is leaves) leaves)

    values : Leaves c.done → HasWhatIsRead (gives_in p s) (now_in p states s) c.half s (over u a s)
    values leaves =
        ⊎_elim (λ e j read. same_where_read (gives_in p s) (name_in p s) (home_in p s) c.half (now_in p states s) s u a e.same agree j read) (λ d. absurd (subst Leaves d.is leaves)) c.out

    -- the next instruction of the second is y
    met : (y : Instruction) → Leaves y → next_of q (over u a s) ≡ Some y → (next_of p s ≡ Some y) × HasWhatIsRead (gives_in p s) (now_in p states s) y s (over u a s)
    met y leaves e =
        let same : c.done ≡ y = same_some c.done y (sym c.done_is ∙ e) in
        let here : Leaves c.done = subst Leaves (sym same) leaves in
        (is ∙ ap Some (sym (whole here) ∙ same), subst (λ z. HasWhatIsRead (gives_in p s) (now_in p states s) z s (over u a s)) (sym (half_is here) ∙ same) (values here))

  on : (o : Option Instruction) → slice_get (function_at p k).code i ≡ o → (y : Instruction) → Leaves y → next_of q (over u a s) ≡ Some y → (next_of p s ≡ Some y) × HasWhatIsRead (gives_in p s) (now_in p states s) y s (over u a s)
  on None e y leaves h =
      let none : slice_get (function_at q k).code i ≡ None = none_too (function_at p k).code (function_at q k).code i (simple.count k) e in
      let no : None ≡ Some y = sym none ∙ h in
      absurd (let z : ⊥ = cc in z)
  on (Some x) e y leaves h = met x e y leaves h

  -- so it has the same result
  result_too : HasWhatIsRead (gives_in p s) (now_in p states s) instruction.Return s (over u a s) → result_of q (over u a s) ≡ result_of p s
  result_too read = result_same (gives_in p s) (gives_in q s) (s.temporaries 0) (u 0) (gives_at p q simple.sized k) (λ has. read 0 (ap (λ b. b && (0 == 0)) has))

  pub at_call : IsAtCall p q s (over u a s)
  at_call = record {
    calls = λ g e. let r = on (slice_get (function_at p k).code i) refl (instruction.Call g) tt e in (r.0, λ j v h. r.1 j refl ∙ h);
    returns = λ e. let r = on (slice_get (function_at p k).code i) refl instruction.Return tt e in (r.0, λ v h. result_too r.1 ∙ h);
  }

same_running : (s t : State) → running s ≡ running t → s ≡ t
same_running s t e = cc

pub at_calls : (p q : Program) (kn : ℕ → ℕ → List Known) (states : ℕ → List Row) → IsSimpler p q kn states → (n : ℕ) (input : List ℕ) (s t : State) → run p n (start p input) ≡ running s → run q n (start q input) ≡ running t → IsAtCall p q s t
at_calls p q kn states simple n input s t e h =
    let r = reached p q kn states simple n input s e in
    subst (IsAtCall p q s) (same_running (over r.others r.given s) t (sym r.is ∙ h)) (at_call p q kn states simple s r.others r.given r.agree)
