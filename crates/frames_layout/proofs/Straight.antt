-- An instruction that the next one follows leads on to it.
use Rattle.std.proofs.Common.{◌≡◌, ℕ, zero, suc, ◌+◌, ◌*◌, List, [], ◌∷◌, Option, Some, None, Bool, true, false, refl}
use Rattle.std.specs.Prelude.{◌==◌, if◌then◌else◌}
use Rattle.frames_code.specs.declared.code.Operand.TheVariants as operand
use Rattle.frames_code.specs.declared.code.Target.{Target}
use Rattle.frames_code.specs.declared.code.Target.TheVariants as target
use Rattle.frames_code.specs.declared.code.Width.{Width}
use Rattle.frames_code.specs.declared.code.Instruction.{Instruction}
use Rattle.frames_code.specs.declared.code.Instruction.TheVariants as instruction
use Rattle.frames_code.specs.Code.{Program}
use Rattle.frames_code.specs.Run.{Value, Bytes, Frame, State, Reference, Progress, running, ended, stuck, word, reference, value, word_at, reference_in, set, next, past, place, memory, with_memory, with_element, element_in, fits, gives, gives_word, operate, converted, loaded, stored, put, got, name_of, changed_among, with_frames, act, ◌>>=◌}
use Rattle.frames_opt.proofs.Stands.{Sat}
use Rattle.frames_layout.proofs.Moving.{IsStraight}
use Rattle.frames_layout.proofs.Walking.{Clear, unset_clear}

pub record After (s s1 : State) : Type 0 where
  pub function_is : s1.frame.function ≡ s.frame.function
  pub at_is : s1.frame.at ≡ s.frame.at + 1
  pub clear : Clear s.arguments → Clear s1.arguments

sat_bind : {A : Type 0} (P : State → Type 0) (o : Option A) (go : A → Progress) → ((x : A) → Sat P (go x)) → Sat P (o >>= go)
sat_bind P None go each = tt
sat_bind P (Some x) go each = each x

sat_if : (P : State → Type 0) (t : Bool) (x y : Progress) → Sat P x → Sat P y → Sat P (if t then x else y)
sat_if P true x y a b = a
sat_if P false x y a b = b

module _ (p : Program) (s : State) where
  next_after : After s (next s)
  next_after = record { function_is = refl; at_is = refl; clear = λ c. unset_clear }

  set_after : (d : Target) (v : Value) → After s (set d v (next s))
  set_after (target.Temporary k) v = record { function_is = refl; at_is = refl; clear = λ c. unset_clear }
  set_after (target.Cell k) v = record { function_is = refl; at_is = refl; clear = λ c. unset_clear }

  past_after : (d : Target) (v : Value) → After s (set d v (past s))
  past_after (target.Temporary k) v = record { function_is = refl; at_is = refl; clear = λ c. c }
  past_after (target.Cell k) v = record { function_is = refl; at_is = refl; clear = λ c. c }

  memory_after : (l : ℕ) (b : Bytes) → After s (with_memory p (next s) l b)
  memory_after zero b = record { function_is = refl; at_is = refl; clear = λ c. unset_clear }
  memory_after (suc l) b = on (name_of p (next s).frame s.waiting == suc l)
    where
      on : (t : Bool) → After s (with_frames (next s) (if t then record (next s).frame { area = b } ∷ s.waiting else (next s).frame ∷ changed_among p s.waiting (suc l) b))
      on true = record { function_is = refl; at_is = refl; clear = λ c. unset_clear }
      on false = record { function_is = refl; at_is = refl; clear = λ c. unset_clear }

  loaded_after : (w : Width) (d : Target) (r : Reference) → Sat (After s) (loaded p s w d r)
  loaded_after w d r =
      sat_bind (After s) (memory p s r.list) (λ m. if fits w r.offset m then element_in w m.bytes r.offset >>= gives_word d s else stuck)
      (λ m. sat_if (After s) (fits w r.offset m) (element_in w m.bytes r.offset >>= gives_word d s) stuck
      (sat_bind (After s) (element_in w m.bytes r.offset) (gives_word d s) (λ v. set_after d (word v))) tt)

  stored_after : (w : Width) (v : ℕ) (r : Reference) → Sat (After s) (stored p s w v r)
  stored_after w v r =
      sat_bind (After s) (memory p s r.list) (λ m. if fits w r.offset m then running (with_memory p (next s) r.list (with_element w m.bytes r.offset v)) else stuck)
      (λ m. sat_if (After s) (fits w r.offset m) (running (with_memory p (next s) r.list (with_element w m.bytes r.offset v))) stuck (memory_after r.list (with_element w m.bytes r.offset v)) tt)

  got_after : (input : List ℕ) → Sat (After s) (got s input)
  got_after [] = record { function_is = refl; at_is = refl; clear = λ c. unset_clear }
  got_after (b ∷ rest) = record { function_is = refl; at_is = refl; clear = λ c. unset_clear }

  pub straight_after : (x : Instruction) → IsStraight x → Sat (After s) (act p s x)
  straight_after instruction.Nothing is = record { function_is = refl; at_is = refl; clear = λ c. c }
  straight_after (instruction.Move d x) is = sat_bind (After s) (value s x) (λ v. running (set d v (past s))) (λ v. past_after d v)
  straight_after (instruction.Compute o d x y) is =
      sat_bind (After s) (word_at s x) (λ a. word_at s y >>= λ b. gives_word d s (operate o a b))
      (λ a. sat_bind (After s) (word_at s y) (λ b. gives_word d s (operate o a b)) (λ b. set_after d (word (operate o a b))))
  straight_after (instruction.Convert c d x) is = sat_bind (After s) (word_at s x) (λ a. gives_word d s (converted c a)) (λ a. set_after d (word (converted c a)))
  straight_after (instruction.Load w d l) is = sat_bind (After s) (place p s l) (loaded p s w d) (λ r. loaded_after w d r)
  straight_after (instruction.Store w x l) is =
      sat_bind (After s) (word_at s x) (λ a. place p s l >>= stored p s w a) (λ a. sat_bind (After s) (place p s l) (stored p s w a) (λ r. stored_after w a r))
  straight_after (instruction.Address d l) is = sat_bind (After s) (place p s l) (λ r. gives d s (reference r.list r.offset)) (λ r. set_after d (reference r.list r.offset))
  straight_after (instruction.Element d x y size) is =
      sat_bind (After s) (reference_in (value s x)) (λ r. word_at s y >>= λ n. gives d s (reference r.list (r.offset + n * size)))
      (λ r. sat_bind (After s) (word_at s y) (λ n. gives d s (reference r.list (r.offset + n * size))) (λ n. set_after d (reference r.list (r.offset + n * size))))
  straight_after (instruction.Jump to) is = absurd is
  straight_after (instruction.Branch c x y to) is = absurd is
  straight_after (instruction.Call f) is = absurd is
  straight_after instruction.PutByte is = sat_bind (After s) (word_at s (operand.Temporary 0)) (put s) (λ v. record { function_is = refl; at_is = refl; clear = λ c. unset_clear })
  straight_after instruction.GetByte is = got_after s.input
  straight_after instruction.Exit is = absurd is
  straight_after instruction.Return is = absurd is
