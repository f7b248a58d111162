-- Where flat code is about to call or to return, three-address code is too.
use Rattle.std.proofs.Common.{◌≡◌, ℕ, ◌+◌, List, ◌++◌, length, map, Option, Some, None, refl, sym, ap, ◌∙◌}
use Rattle.std.specs.Prelude.{slice_get, option_map}
use Rattle.std.proofs.lemmas.Option.{slice_get-map}
use Rattle.ctypes.specs.declared.types.IntType.{IntType}
use Rattle.ctypes.specs.declared.types.IntType.TheVariants as ty
use Rattle.tac_code.specs.declared.code.Instruction.{Instruction}
use Rattle.tac_code.specs.declared.code.Instruction.TheVariants as instruction
use Rattle.tac_code.specs.Code.{Program, Function, function_at}
use Rattle.tac_code.specs.Run.{State, word, instruction_at}
use Rattle.frames_code.specs.Code as flat_code
use Rattle.frames_code.specs.Costs.{next_of}
use Rattle.frames_code.specs.Run as flat
use Rattle.frames_code.specs.declared.code.Target as flat_target
use Rattle.frames_code.specs.declared.code.Operand as flat_operand
use Rattle.frames_code.specs.declared.code.Instruction as flat_instruction
use Rattle.frames_code.specs.declared.code.Instruction.TheVariants as flat_instructions
use Rattle.frames.specs.Layout.{Starts, Layout, layout_of, starts_of}
use Rattle.frames.specs.Translated.{translated, moves_from, conversion_of, target_of, operand_of}
use Rattle.frames.specs.Flattened.{IsAtCall, HasItsWords}
use Rattle.frames.proofs.Sound.{length_moves}
use Rattle.frames_correct.specs.Matched.{Matched}
use Rattle.frames_correct.proofs.Lists.{get_right}
use Rattle.frames_correct.proofs.Ground.{IsMadeOf, function_is, result_held}

-- ---- only a call is translated to a call, and only a return to a return

converts : (e : IntType) (d : flat_target.Target) (x : flat_operand.Operand) (n : ℕ) → conversion_of e d x ≡ flat_instructions.Call n → ⊥
converts ty.Bool d x n e = cc
converts ty.Char d x n e = cc
converts ty.SChar d x n e = cc
converts ty.UChar d x n e = cc
converts ty.Short d x n e = cc
converts ty.UShort d x n e = cc
converts ty.Int d x n e = cc
converts ty.UInt d x n e = cc
converts ty.Long d x n e = cc
converts ty.ULong d x n e = cc

converts_too : (e : IntType) (d : flat_target.Target) (x : flat_operand.Operand) → conversion_of e d x ≡ flat_instructions.Return → ⊥
converts_too ty.Bool d x e = cc
converts_too ty.Char d x e = cc
converts_too ty.SChar d x e = cc
converts_too ty.UChar d x e = cc
converts_too ty.Short d x e = cc
converts_too ty.UShort d x e = cc
converts_too ty.Int d x e = cc
converts_too ty.UInt d x e = cc
converts_too ty.Long d x e = cc
converts_too ty.ULong d x e = cc

is_call : (u : Starts) (l : Layout) (x : Instruction) (n : ℕ) → translated u l x ≡ flat_instructions.Call n → x ≡ instruction.Call n
is_call u l instruction.Nothing n e = absurd (let z : ⊥ = cc in z)
is_call u l (instruction.Move d x) n e = absurd (let z : ⊥ = cc in z)
is_call u l (instruction.Compute o r d x y) n e = absurd (let z : ⊥ = cc in z)
is_call u l (instruction.Convert t d x) n e = absurd (converts t (target_of l d) (operand_of l x) n e)
is_call u l (instruction.Load t d p) n e = absurd (let z : ⊥ = cc in z)
is_call u l (instruction.Store t x p) n e = absurd (let z : ⊥ = cc in z)
is_call u l (instruction.Address d p) n e = absurd (let z : ⊥ = cc in z)
is_call u l (instruction.Part d x y size) n e = absurd (let z : ⊥ = cc in z)
is_call u l (instruction.Element t d x y) n e = absurd (let z : ⊥ = cc in z)
is_call u l (instruction.Forget i k) n e = absurd (let z : ⊥ = cc in z)
is_call u l (instruction.Jump to) n e = absurd (let z : ⊥ = cc in z)
is_call u l (instruction.Branch c r x y to) n e = absurd (let z : ⊥ = cc in z)
is_call u l (instruction.Call m) n e = let same : m ≡ n = cc in ap instruction.Call same
is_call u l instruction.PutByte n e = absurd (let z : ⊥ = cc in z)
is_call u l instruction.GetByte n e = absurd (let z : ⊥ = cc in z)
is_call u l instruction.Exit n e = absurd (let z : ⊥ = cc in z)
is_call u l instruction.Return n e = absurd (let z : ⊥ = cc in z)

is_return : (u : Starts) (l : Layout) (x : Instruction) → translated u l x ≡ flat_instructions.Return → x ≡ instruction.Return
is_return u l instruction.Nothing e = absurd (let z : ⊥ = cc in z)
is_return u l (instruction.Move d x) e = absurd (let z : ⊥ = cc in z)
is_return u l (instruction.Compute o r d x y) e = absurd (let z : ⊥ = cc in z)
is_return u l (instruction.Convert t d x) e = absurd (converts_too t (target_of l d) (operand_of l x) e)
is_return u l (instruction.Load t d p) e = absurd (let z : ⊥ = cc in z)
is_return u l (instruction.Store t x p) e = absurd (let z : ⊥ = cc in z)
is_return u l (instruction.Address d p) e = absurd (let z : ⊥ = cc in z)
is_return u l (instruction.Part d x y size) e = absurd (let z : ⊥ = cc in z)
is_return u l (instruction.Element t d x y) e = absurd (let z : ⊥ = cc in z)
is_return u l (instruction.Forget i k) e = absurd (let z : ⊥ = cc in z)
is_return u l (instruction.Jump to) e = absurd (let z : ⊥ = cc in z)
is_return u l (instruction.Branch c r x y to) e = absurd (let z : ⊥ = cc in z)
is_return u l (instruction.Call m) e = absurd (let z : ⊥ = cc in z)
is_return u l instruction.PutByte e = absurd (let z : ⊥ = cc in z)
is_return u l instruction.GetByte e = absurd (let z : ⊥ = cc in z)
is_return u l instruction.Exit e = absurd (let z : ⊥ = cc in z)
is_return u l instruction.Return e = refl

module _ (q : Program) (f : flat_code.Program) (g : IsMadeOf q f) (t : State) (s : flat.State) (m : Matched q f t s) where
  abbrev the : Function
  the = function_at q t.call.function

  abbrev flat_of : Instruction → flat_instruction.Instruction
  flat_of x = translated (starts_of q) (layout_of the) x

  pub next_is : next_of f s ≡ option_map flat_of (instruction_at q t)
  next_is =
      let moves = moves_from (layout_of the) 0 0 0 the.parameters in
      let rest = map flat_of the.code in
      let at : s.frame.at ≡ length moves + t.call.at = m.frames.0.at ∙ ap (λ k. k + t.call.at) (sym (length_moves (layout_of the) 0 0 0 the.parameters)) in
      ap (λ (h : flat_code.Function). slice_get h.code s.frame.at) (function_is q f g t s m)
      ∙ (ap (slice_get (moves ++ rest)) at ∙ (get_right moves rest t.call.at ∙ slice_get-map flat_of the.code t.call.at))

  words : HasItsWords s t
  words k w e = (m.temporaries k (word w) e).1

  -- what becomes an instruction
  called : (o : Option Instruction) (n : ℕ) → option_map flat_of o ≡ Some (flat_instructions.Call n) → o ≡ Some (instruction.Call n)
  called None n e = absurd (let z : ⊥ = cc in z)
  called (Some x) n e = let same : flat_of x ≡ flat_instructions.Call n = cc in ap Some (is_call (starts_of q) (layout_of the) x n same)

  returned : (o : Option Instruction) → option_map flat_of o ≡ Some flat_instructions.Return → o ≡ Some instruction.Return
  returned None e = absurd (let z : ⊥ = cc in z)
  returned (Some x) e = let same : flat_of x ≡ flat_instructions.Return = cc in ap Some (is_return (starts_of q) (layout_of the) x same)

  pub at_call : IsAtCall q f t s
  at_call = record {
    calls = λ n e. (called (instruction_at q t) n (sym next_is ∙ e), words);
    returns = λ e. (returned (instruction_at q t) (sym next_is ∙ e), λ some w ew. result_held q f g t s m some ∙ words 0 w ew);
  }
