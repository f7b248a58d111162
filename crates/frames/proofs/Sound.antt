-- The flat code of a sound program is sound.
use Rattle.std.proofs.Common.{◌≡◌, ℕ, zero, suc, ◌+◌, ◌-◌, ◌*◌, ◌/◌, ◌^◌, ◌<◌, ◌≤◌, List, [], ◌∷◌, length, map, Bool, true, false, Some, None, refl, sym, ap, ◌∙◌, subst, length-append, arith}
use Rattle.std.specs.Prelude.{slice_get, nat_lt, if◌then◌else◌}
use Rattle.std.proofs.lemmas.Bool.Decides.{nat_tests}
use Rattle.std.proofs.lemmas.List.{length-map}
use Rattle.ctypes.specs.declared.types.IntType.{IntType}
use Rattle.ctypes.specs.declared.types.IntType.TheVariants as ty
use Rattle.ctypes.specs.Types.{bytes_of}
use Rattle.typing_spec.specs.Types.{ObjectType, elements_in, size_of_object}
use Rattle.typing_spec.specs.Units.{in_words, bytes_of_objects}
use Rattle.frames_code.specs.declared.code.Operand as flat_operand
use Rattle.frames_code.specs.declared.code.Operand.TheVariants as source
use Rattle.frames_code.specs.declared.code.Target as flat_target
use Rattle.frames_code.specs.declared.code.Instruction as flat_instruction
use Rattle.frames_code.specs.Code as frames
use Rattle.frames_code.specs.Sound as flat_sound
use Rattle.frames_code.specs.Sound.{places_of}
use Rattle.tac_code.specs.declared.code.Operand.{Operand}
use Rattle.tac_code.specs.declared.code.Operand.TheVariants as operand
use Rattle.tac_code.specs.declared.code.Target.{Target}
use Rattle.tac_code.specs.declared.code.Target.TheVariants as target
use Rattle.tac_code.specs.declared.code.Place.{Place}
use Rattle.tac_code.specs.declared.code.Place.TheVariants as place
use Rattle.tac_code.specs.declared.code.Parameter.{Parameter}
use Rattle.tac_code.specs.declared.code.Parameter.TheVariants as parameter
use Rattle.tac_code.specs.declared.code.Instruction.{Instruction}
use Rattle.tac_code.specs.declared.code.Instruction.TheVariants as instruction
use Rattle.tac_code.specs.Code.{Function, Program, type_if_scalar, scalar_type}
use Rattle.tac_code.specs.Costs.{array_parameters, call_bytes}
use Rattle.tac_code.specs.Sound as tac_sound
use Rattle.tac_code.specs.Sound.{number_parameters, IsSoundProgram}
use Rattle.frames.specs.Layout.{Layout, layout_of, cells_of, is_scalar, words_for, words_of, words_in, bytes_in, cell_in, offset_in, Starts, start_in}
use Rattle.frames.specs.Translated.{operand_of, target_of, location_of, conversion_of, translated, moves_from, code_of, flat_function}
use Rattle.frames.proofs.Elements.{each_in_both, each_in_map, same_some, got_below}
use Rattle.frames.proofs.Places.{of_objects, frame_is_call, cell_of_scalar, bytes_of_one}

-- offsets in the statics are such as an item may name
pub record AreNear (s : Starts) : Type 0 where
  pub literals : (n : ℕ) → start_in (slice_get s.literals n) < 0x10000000
  pub statics : (n : ℕ) → start_in (slice_get s.statics n) < 0x10000000

some_bytes : (n : ℕ) → 0 < n → 0 < (n + 3) / 4 * 4
some_bytes n h = omega arith

rounded_up : (n : ℕ) → n ≤ (n + 15) / 16 * 16
rounded_up n = omega arith

words_in_call : (t w r k a b c : ℕ) → 4 * w + a ≡ b → (4 * t + (8 + (4 * k + (4 * r + b))) + 15) / 16 * 16 ≡ c → c ≤ 2 ^ 24 → 4 * (w + r) ≤ 2 ^ 24
words_in_call t w r k a b c e h l =
    omega (arith, rounded_up (4 * t + (8 + (4 * k + (4 * r + b)))))

pub length_moves : (l : Layout) (k n m : ℕ) (ps : List Parameter) → length (moves_from l k n m ps) ≡ length ps
length_moves l k n m [] = refl
length_moves l k n m (parameter.Number ∷ ps) = ap suc (length_moves l (k + 1) (n + 1) m ps)
length_moves l k n m (parameter.Array ∷ ps) = ap suc (length_moves l (k + 1) n (m + 1) ps)

pub length_code : (s : Starts) (f : Function) → length (code_of s f) ≡ length f.parameters + length f.code
length_code s f =
    length-append (moves_from (layout_of f) 0 0 0 f.parameters) (map (translated s (layout_of f)) f.code)
    ∙ ap (λ n. n + length (map (translated s (layout_of f)) f.code)) (length_moves (layout_of f) 0 0 0 f.parameters)
    ∙ ap (λ n. length f.parameters + n) (length-map f.code (translated s (layout_of f)))

both_kinds : (ps : List Parameter) → length ps ≡ number_parameters ps + array_parameters ps
both_kinds [] = refl
both_kinds (parameter.Number ∷ ps) = omega (arith, both_kinds ps)
both_kinds (parameter.Array ∷ ps) = omega (arith, both_kinds ps)

one_word : (ls : List ℕ) (e t : IntType) → type_if_scalar ls e ≡ Some t → words_for (is_scalar ls) ≡ 1
one_word [] e t h = refl
one_word (n ∷ ls) e t h = absurd (let x : ⊥ = cc in x)

scalars_are_words : (ts : List ObjectType) (m : ℕ) → ((n : ℕ) → n < m → (t : IntType) × (scalar_type (slice_get ts n) ≡ Some t)) → m ≤ words_in ts
scalars_are_words ts zero each = omega arith
scalars_are_words [] (suc m) each = absurd (no_type (each 0 (omega arith)))
  where
    no_type : ((t : IntType) × (scalar_type None ≡ Some t)) → ⊥
    no_type h = let e : scalar_type None ≡ Some h.0 = h.1 in cc
scalars_are_words (t ∷ ts) (suc m) each =
    let first = each 0 (omega arith) in
    let one : words_of t ≡ 1 = one_word t.lengths t.element first.0 first.1 in
    omega (arith, one, scalars_are_words ts m (λ n lt. each (suc n) (omega (arith, lt))))

pub few_words : (p : Program) (f : Function) → tac_sound.FunctionFits p f → 4 * (words_in f.objects + array_parameters f.parameters) ≤ 2 ^ 24
few_words p f fits =
    words_in_call (f.temporaries - 8) (words_in f.objects) (array_parameters f.parameters) f.kept (bytes_in f.objects) (bytes_of_objects f.objects) (call_bytes f) (of_objects f.objects) refl fits.small

pub few_parameters : (p : Program) (f : Function) → tac_sound.FunctionFits p f → 4 * length f.parameters ≤ 2 ^ 24
few_parameters p f fits =
    let words : number_parameters f.parameters ≤ words_in f.objects = scalars_are_words f.objects (number_parameters f.parameters) fits.parameters in
    omega (arith, words, few_words p f fits, both_kinds f.parameters)

within : (t : IntType) (e i : ℕ) → i < e → i * bytes_of t < in_words (bytes_of t * e)
within ty.Bool e i h = omega (arith, h)
within ty.Char e i h = omega (arith, h)
within ty.SChar e i h = omega (arith, h)
within ty.UChar e i h = omega (arith, h)
within ty.Short e i h = omega (arith, h)
within ty.UShort e i h = omega (arith, h)
within ty.Int e i h = omega (arith, h)
within ty.UInt e i h = omega (arith, h)
within ty.Long e i h = omega (arith, h)
within ty.ULong e i h = omega (arith, h)

bytes_small : (t : IntType) → bytes_of t < 2 ^ 32
bytes_small ty.Bool = omega arith
bytes_small ty.Char = omega arith
bytes_small ty.SChar = omega arith
bytes_small ty.UChar = omega arith
bytes_small ty.Short = omega arith
bytes_small ty.UShort = omega arith
bytes_small ty.Int = omega arith
bytes_small ty.UInt = omega arith
bytes_small ty.Long = omega arith
bytes_small ty.ULong = omega arith

-- an element lies within the frame's arrays
pub element_fits : (f : Function) (n i : ℕ) (t : IntType) → tac_sound.HasElement f n i t → offset_in (slice_get (layout_of f).homes n) + i * bytes_of t < bytes_in f.objects
element_fits f n i t h =
    let b = bytes_of_one f.objects 0 0 n h.0 h.1 h.2 in
    let small : i * bytes_of t < in_words (size_of_object h.0) = subst (λ u. i * bytes_of u < in_words (size_of_object h.0)) (sym h.4) (within h.0.element (elements_in h.0.lengths) i h.3) in
    subst (λ o. offset_in o + i * bytes_of t < bytes_in f.objects) (sym b.is) (omega (arith, b.below, small))

module _ (p : Program) (f : Function) (s : Starts) (fits : tac_sound.FunctionFits p f) (near : AreNear s) where
  abbrev l : Layout
  l = layout_of f

  abbrev g : frames.Function
  g = flat_function s f

  operand_fits : (x : Operand) → tac_sound.OperandFits f x → flat_sound.OperandFits g (operand_of l x)
  operand_fits (operand.Temporary k) h = omega (arith, h)
  operand_fits (operand.Kept k) h = omega (arith, h)
  operand_fits (operand.Object n) h =
      let c = cell_of_scalar f.objects 0 0 n h.0 h.1 in
      subst (λ o. cell_in o < cells_of f) (sym c.is) (omega (arith, c.below))
  operand_fits (operand.Parameter n) h = omega (arith, h)
  operand_fits (operand.Constant v) h = h

  target_fits : (d : Target) → tac_sound.TargetFits f d → flat_sound.TargetFits g (target_of l d)
  target_fits (target.Temporary k) h = omega (arith, h)
  target_fits (target.Kept k) h = omega (arith, h)
  target_fits (target.Object n) h =
      let c = cell_of_scalar f.objects 0 0 n h.0 h.1 in
      subst (λ o. cell_in o < cells_of f) (sym c.is) (omega (arith, c.below))

  array_fits : (n : ℕ) → tac_sound.IsArray f n → offset_in (slice_get l.homes n) < bytes_in f.objects
  array_fits n h =
      let t = got_below f.objects n h.0 in
      let none : scalar_type (Some t.element) ≡ None = ap scalar_type (sym t.is) ∙ h.1 in
      let b = bytes_of_one f.objects 0 0 n t.element t.is none in
      subst (λ o. offset_in o < bytes_in f.objects) (sym b.is) (omega (arith, b.below, some_bytes (size_of_object t.element) (fits.sized n t.element t.is)))

  place_fits : (at : Place) → tac_sound.PlaceFits p f at → flat_sound.LocationFits g (location_of s l at)
  place_fits (place.Literal n) h = near.literals n
  place_fits (place.Static n) h = near.statics n
  place_fits (place.Array n) h = array_fits n h
  place_fits (place.Element n i t) h = element_fits f n i t h
  place_fits (place.At x) h = operand_fits x h

  conversion_fits : (n : ℕ) (t : IntType) (d : flat_target.Target) (x : flat_operand.Operand) → flat_sound.TargetFits g d → flat_sound.OperandFits g x → flat_sound.InstructionFits n g (conversion_of t d x)
  conversion_fits n ty.Bool d x a b = (a, b)
  conversion_fits n ty.Char d x a b = (a, b)
  conversion_fits n ty.SChar d x a b = (a, b)
  conversion_fits n ty.UChar d x a b = (a, b)
  conversion_fits n ty.Short d x a b = (a, b)
  conversion_fits n ty.UShort d x a b = (a, b)
  conversion_fits n ty.Int d x a b = (a, b)
  conversion_fits n ty.UInt d x a b = (a, b)
  conversion_fits n ty.Long d x a b = (a, b)
  conversion_fits n ty.ULong d x a b = (a, b)

  jump_fits : (to : ℕ) → to < length f.code → length f.parameters + to < length (code_of s f)
  jump_fits to h = omega (arith, h, length_code s f)

  instruction_fits : (x : Instruction) → tac_sound.InstructionFits p f x → flat_sound.InstructionFits (length p.functions) g (translated s l x)
  instruction_fits instruction.Nothing h = tt
  instruction_fits (instruction.Move d x) h = (target_fits d h.0, operand_fits x h.1)
  instruction_fits (instruction.Compute o r d x y) h = (target_fits d h.0, operand_fits x h.1, operand_fits y h.2)
  instruction_fits (instruction.Convert t d x) h = conversion_fits (length p.functions) t (target_of l d) (operand_of l x) (target_fits d h.0) (operand_fits x h.1)
  instruction_fits (instruction.Load t d at) h = (target_fits d h.0, place_fits at h.1)
  instruction_fits (instruction.Store t x at) h = (operand_fits x h.0, place_fits at h.1)
  instruction_fits (instruction.Address d at) h = (target_fits d h.0, place_fits at h.1)
  instruction_fits (instruction.Part d x y size) h = (target_fits d h.0, operand_fits x h.1, operand_fits y h.2, h.3)
  instruction_fits (instruction.Element t d x y) h = (target_fits d h.0, operand_fits x h.1, operand_fits y h.2, bytes_small t)
  instruction_fits (instruction.Forget n k) h = tt
  instruction_fits (instruction.Jump to) h = jump_fits to h
  instruction_fits (instruction.Branch c r x y to) h = (operand_fits x h.0, operand_fits y h.1, jump_fits to h.2)
  instruction_fits (instruction.Call k) h = h.0
  instruction_fits instruction.PutByte h = tt
  instruction_fits instruction.GetByte h = tt
  instruction_fits instruction.Exit h = tt
  instruction_fits instruction.Return h = tt

  -- ---- the moves of the parameters

  argument_by : (k : ℕ) (b : Bool) → nat_lt k 8 ≡ b → 4 * k ≤ 2 ^ 24 → flat_sound.OperandFits g (if b then source.Temporary k else source.Argument k)
  argument_by k true e h = let lt : k < 8 = grind (arith, nat_tests) in omega (arith, lt)
  argument_by k false e h = let le : 8 ≤ k = grind (arith, nat_tests) in (le, omega (arith, le, h))

  moves_fit : (ps : List Parameter) (k n m : ℕ) → k + length ps ≤ length f.parameters → n + number_parameters ps ≤ number_parameters f.parameters → m + array_parameters ps ≤ array_parameters f.parameters → (j : ℕ) (x : flat_instruction.Instruction) → slice_get (moves_from l k n m ps) j ≡ Some x → flat_sound.InstructionFits (length p.functions) g x
  moves_fit [] k n m a b c j x e = absurd (let z : ⊥ = cc in z)
  moves_fit (parameter.Number ∷ ps) k n m a b c zero x e =
      subst (flat_sound.InstructionFits (length p.functions) g) (same_some _ x e)
      (target_fits (target.Object n) (fits.parameters n (omega (arith, b))), argument_by k (nat_lt k 8) refl (omega (arith, a, few_parameters p f fits)))
  moves_fit (parameter.Number ∷ ps) k n m a b c (suc j) x e =
      moves_fit ps (k + 1) (n + 1) m (omega (arith, a)) (omega (arith, b)) c j x e
  moves_fit (parameter.Array ∷ ps) k n m a b c zero x e =
      subst (flat_sound.InstructionFits (length p.functions) g) (same_some _ x e)
      (operand_fits (operand.Parameter m) (omega (arith, c)), argument_by k (nat_lt k 8) refl (omega (arith, a, few_parameters p f fits)))
  moves_fit (parameter.Array ∷ ps) k n m a b c (suc j) x e =
      moves_fit ps (k + 1) n (m + 1) (omega (arith, a)) b (omega (arith, c)) j x e

  pub function_fits : flat_sound.FunctionFits (length p.functions) g
  function_fits = record {
    small = subst (λ n. n ≤ 2 ^ 24) (sym (frame_is_call s f)) fits.small;
    few = omega arith;
    all = omega arith;
    each = each_in_both (flat_sound.InstructionFits (length p.functions) g) (moves_from l 0 0 0 f.parameters) (map (translated s l) f.code)
        (moves_fit f.parameters 0 0 0 (omega arith) (omega arith) (omega arith))
        (each_in_map (flat_sound.InstructionFits (length p.functions) g) (translated s l) f.code (λ k x e. instruction_fits x (fits.each k x e)));
  }
