-- The flat code of a sound program: sound, and within the bounds of three-address code.
use Rattle.std.proofs.Common.{◌≡◌, ℕ, zero, suc, ◌+◌, ◌*◌, ◌^◌, ◌<◌, ◌≤◌, max, List, [], ◌∷◌, ◌++◌, length, map, Bool, true, false, Some, refl, sym, ap, ◌∙◌, subst, length-append, arith}
use Rattle.std.specs.Prelude.{slice_get, sum_by, nat_lt, ◌==◌, if◌then◌else◌}
use Rattle.std.proofs.Math.Nat.{max-le}
use Rattle.std.proofs.lemmas.List.{length-map, length-take}
use Rattle.std.proofs.lemmas.List.Sums.{sum_by-cons, sum_by-append}
use Rattle.ctypes.specs.declared.types.IntType.{IntType}
use Rattle.ctypes.specs.declared.types.IntType.TheVariants as ty
use Rattle.ctypes.specs.Types.{bytes_of}
use Rattle.typing_spec.specs.Types.{size_of_object}
use Rattle.typing_spec.specs.Program.{Static}
use Rattle.typing_spec.specs.Units.{in_words}
use Rattle.frames_code.specs.Code as frames
use Rattle.frames_code.specs.Sound as flat_sound
use Rattle.frames_code.specs.Sound.{places_of}
use Rattle.frames_code.specs.declared.code.Operand as flat_operand
use Rattle.frames_code.specs.declared.code.Operand.TheVariants as source
use Rattle.frames_code.specs.declared.code.Target as flat_target
use Rattle.frames_code.specs.declared.code.Target.TheVariants as into
use Rattle.frames_code.specs.declared.code.Instruction as flat_instruction
use Rattle.frames_code.specs.declared.code.Instruction.TheVariants as flat
use Rattle.tac_code.specs.declared.code.Operand.{Operand}
use Rattle.tac_code.specs.declared.code.Operand.TheVariants as operand
use Rattle.tac_code.specs.declared.code.Target.{Target}
use Rattle.tac_code.specs.declared.code.Target.TheVariants as target
use Rattle.tac_code.specs.declared.code.Place.{Place}
use Rattle.tac_code.specs.declared.code.Place.TheVariants as place
use Rattle.tac_code.specs.declared.code.Parameter.{Parameter}
use Rattle.tac_code.specs.declared.code.Parameter.TheVariants as parameter
use Rattle.tac_code.specs.declared.code.Instruction.{Instruction}
use Rattle.tac_code.specs.declared.code.Instruction.TheVariants as instruction
use Rattle.tac_code.specs.Code.{Function, Program}
use Rattle.tac_code.specs.Costs as tac_costs
use Rattle.tac_code.specs.Sound.{IsSoundProgram, static_bytes, data_bytes}
use Rattle.frames.specs.Data.{zeros, filled_up, if_defined, bytes_of_values, bytes_of_static, bytes_of_literals, bytes_of_statics, data_of}
use Rattle.frames.specs.Sizes.{literal_sizes, static_sizes, literal_bytes, statics_bytes}
use Rattle.frames.specs.Layout.{Layout, layout_of, Starts, starts_of, cell_in}
use Rattle.frames.specs.Translated.{conversion_of, target_of, operand_of, location_of, translated, argument, moves_from, code_of, flat_function, flat_program}
use Rattle.frames.specs.Costs as flat_costs
use Rattle.frames.specs.Flattened.{IsCodeOf}
use Rattle.frames.proofs.Elements.{each_in_map, got_in_map, sum_by_map, sum_by_map_le, same_some}
use Rattle.frames.proofs.Places.{frame_is_call, total, start_within}
use Rattle.frames.proofs.Sound.{AreNear, length_code, function_fits}
use Rattle.frames.specs.Laws.{DataBytesAre, DataHaveTheirSize}

-- ---- the data

total_literals : (ls : List (List ℕ)) → total (literal_sizes ls) ≡ literal_bytes ls
total_literals [] = refl
total_literals (text ∷ ls) = ap (λ n. in_words (length text) + n) (total_literals ls)

total_statics : (os : List Static) → total (static_sizes os) ≡ statics_bytes os
total_statics [] = refl
total_statics (o ∷ os) = ap (λ n. static_bytes o.defined (size_of_object o.type) + n) (total_statics os)

abbrev text_size : List ℕ → ℕ
text_size text = in_words (length text)

abbrev static_size : Static → ℕ
static_size o = static_bytes o.defined (size_of_object o.type)

sum_literals : (ls : List (List ℕ)) → sum_by text_size ls ≡ literal_bytes ls
sum_literals [] = refl
sum_literals (text ∷ ls) = sum_by-cons text_size text ls ∙ ap (λ n. text_size text + n) (sum_literals ls)

sum_statics : (os : List Static) → sum_by static_size os ≡ statics_bytes os
sum_statics [] = refl
sum_statics (o ∷ os) = sum_by-cons static_size o os ∙ ap (λ n. static_size o + n) (sum_statics os)

pub data_bytes_are : DataBytesAre
data_bytes_are ls os = ap (λ n. n + sum_by static_size os) (sum_literals ls) ∙ ap (λ n. literal_bytes ls + n) (sum_statics os)

pub starts_near : (p : Program) → data_bytes p.literals p.statics ≤ 2 ^ 24 → AreNear (starts_of p)
starts_near p h = record {
  literals = λ n. omega (arith, h, data_bytes_are p.literals p.statics, total_literals p.literals, start_within (literal_sizes p.literals) 16 n);
  statics = λ n. omega (arith, h, data_bytes_are p.literals p.statics, total_statics p.statics, start_within (static_sizes p.statics) (16 + literal_bytes p.literals) n);
}

length_zeros : (n : ℕ) → length (zeros n) ≡ n
length_zeros zero = refl
length_zeros (suc n) = ap suc (length_zeros n)

pub length_filled : (n : ℕ) (bytes : List ℕ) → length (filled_up n bytes) ≡ n
length_filled n bytes = omega (arith, length-take n (bytes ++ zeros n), length-append bytes (zeros n), length_zeros n)

length_if_defined : (b : Bool) (n : ℕ) (bytes : List ℕ) → length (if_defined b (filled_up (in_words n) bytes)) ≡ static_bytes b n
length_if_defined true n bytes = length_filled (in_words n) bytes
length_if_defined false n bytes = refl

pub length_static : (o : Static) → length (bytes_of_static o) ≡ static_bytes o.defined (size_of_object o.type)
length_static o = length_if_defined o.defined (size_of_object o.type) (bytes_of_values o.type.element o.values)

pub length_literals : (ls : List (List ℕ)) → length (bytes_of_literals ls) ≡ literal_bytes ls
length_literals [] = refl
length_literals (text ∷ ls) =
    length-append (filled_up (in_words (length text)) text) (bytes_of_literals ls)
    ∙ ap (λ n. n + length (bytes_of_literals ls)) (length_filled (in_words (length text)) text) ∙ ap (λ n. in_words (length text) + n) (length_literals ls)

pub length_statics : (os : List Static) → length (bytes_of_statics os) ≡ statics_bytes os
length_statics [] = refl
length_statics (o ∷ os) =
    length-append (bytes_of_static o) (bytes_of_statics os)
    ∙ ap (λ n. n + length (bytes_of_statics os)) (length_static o) ∙ ap (λ n. static_size o + n) (length_statics os)

pub length_data : DataHaveTheirSize
length_data p =
    length-append (zeros 16) (bytes_of_literals p.literals ++ bytes_of_statics p.statics)
    ∙ ap (λ n. 16 + n) (length-append (bytes_of_literals p.literals) (bytes_of_statics p.statics)
    ∙ ap (λ n. n + length (bytes_of_statics p.statics)) (length_literals p.literals) ∙ ap (λ n. literal_bytes p.literals + n) (length_statics p.statics))

-- ---- soundness

abbrev three_address_places : Function → ℕ
three_address_places f = length f.code + (length f.parameters + 1)

one_place : (s : Starts) (f : Function) → length (code_of s f) + 1 ≡ three_address_places f
one_place s f = omega (arith, length_code s f)

all_places : (s : Starts) (fs : List Function) → places_of (map (flat_function s) fs) ≡ sum_by three_address_places fs
all_places s fs = sum_by_map (λ (f : frames.Function). length f.code + 1) (flat_function s) three_address_places (one_place s) fs

pub flat_is_sound : (p : Program) → IsSoundProgram p → flat_sound.IsSoundProgram (flat_program p)
flat_is_sound p sound =
    let s = starts_of p in
    let count : length p.functions ≡ length (map (flat_function s) p.functions) = sym (length-map p.functions (flat_function s)) in
    let bytes : length (data_of p) ≤ 0x10000000 = omega (arith, length_data p, data_bytes_are p.literals p.statics, sound.small) in
    record {
      has_main = subst (λ n. p.main < n) count sound.has_main;
      each = each_in_map (flat_sound.FunctionFits (length (map (flat_function s) p.functions))) (flat_function s) p.functions
          (λ k f e. subst (λ n. flat_sound.FunctionFits n (flat_function s f)) count (function_fits p f s (sound.each k f e) (starts_near p sound.small)));
      statics = bytes;
      countable = omega (arith, sound.countable, all_places s p.functions, count);
    }

-- ---- bytes of code

same_le : (a b : ℕ) → a ≡ b → a ≤ b
same_le a b e = omega (arith, e)

fetch_same : (l : Layout) (x : Operand) → flat_costs.fetch_bytes (operand_of l x) ≡ tac_costs.fetch_bytes x
fetch_same l (operand.Temporary k) = refl
fetch_same l (operand.Kept k) = refl
fetch_same l (operand.Object n) = refl
fetch_same l (operand.Parameter n) = refl
fetch_same l (operand.Constant v) = refl

keep_same : (l : Layout) (d : Target) → flat_costs.keep_bytes (target_of l d) ≡ tac_costs.keep_bytes d
keep_same l (target.Temporary k) = refl
keep_same l (target.Kept k) = refl
keep_same l (target.Object n) = refl

move_same : (l : Layout) (d : Target) (x : Operand) → flat_costs.move_bytes (target_of l d) (operand_of l x) ≡ tac_costs.move_bytes d x
move_same l d x =
    ap (λ n. max 4 (n + flat_costs.keep_bytes (target_of l d))) (fetch_same l x) ∙ ap (λ n. max 4 (tac_costs.fetch_bytes x + n)) (keep_same l d)

reach_same : (s : Starts) (l : Layout) (at : Place) → flat_costs.reach_bytes (location_of s l at) ≡ tac_costs.reach_bytes at
reach_same s l (place.Literal n) = refl
reach_same s l (place.Static n) = refl
reach_same s l (place.Array n) = refl
reach_same s l (place.Element n i t) = refl
reach_same s l (place.At x) = fetch_same l x

reference_same : (s : Starts) (l : Layout) (d : Target) (at : Place) → flat_costs.reference_bytes (target_of l d) (location_of s l at) ≡ tac_costs.reference_bytes d at
reference_same s l d (place.Literal n) = ap (λ k. 8 + k) (keep_same l d)
reference_same s l d (place.Static n) = ap (λ k. 8 + k) (keep_same l d)
reference_same s l d (place.Array n) = ap (λ k. 12 + k) (keep_same l d)
reference_same s l d (place.Element n i t) = ap (λ k. 12 + k) (keep_same l d)
reference_same s l d (place.At x) = move_same l d x

scale_same : (t : IntType) → flat_costs.scale_bytes (bytes_of t) ≡ tac_costs.scale_bytes (bytes_of t)
scale_same ty.Bool = refl
scale_same ty.Char = refl
scale_same ty.SChar = refl
scale_same ty.UChar = refl
scale_same ty.Short = refl
scale_same ty.UShort = refl
scale_same ty.Int = refl
scale_same ty.UInt = refl
scale_same ty.Long = refl
scale_same ty.ULong = refl

-- a move takes no more than a conversion
move_within : (a b : ℕ) → max 4 (a + b) ≤ a + (8 + b)
move_within a b = let x : 4 ≤ a + (8 + b) = omega arith in let y : a + b ≤ a + (8 + b) = omega arith in max-le x y

conversion_bytes : (t : IntType) (d : flat_target.Target) (x : flat_operand.Operand) → flat_costs.code_bytes (conversion_of t d x) ≤ flat_costs.fetch_bytes x + (8 + flat_costs.keep_bytes d)
conversion_bytes ty.Bool d x = omega arith
conversion_bytes ty.Char d x = omega arith
conversion_bytes ty.SChar d x = omega arith
conversion_bytes ty.UChar d x = omega arith
conversion_bytes ty.Short d x = omega arith
conversion_bytes ty.UShort d x = omega arith
conversion_bytes ty.Int d x = move_within (flat_costs.fetch_bytes x) (flat_costs.keep_bytes d)
conversion_bytes ty.UInt d x = move_within (flat_costs.fetch_bytes x) (flat_costs.keep_bytes d)
conversion_bytes ty.Long d x = move_within (flat_costs.fetch_bytes x) (flat_costs.keep_bytes d)
conversion_bytes ty.ULong d x = move_within (flat_costs.fetch_bytes x) (flat_costs.keep_bytes d)

pub instruction_bytes : (s : Starts) (l : Layout) (x : Instruction) → flat_costs.code_bytes (translated s l x) ≤ tac_costs.code_bytes x
instruction_bytes s l instruction.Nothing = omega arith
instruction_bytes s l (instruction.Move d x) = same_le _ _ (move_same l d x)
instruction_bytes s l (instruction.Compute o r d x y) = omega (arith, fetch_same l x, fetch_same l y, keep_same l d)
instruction_bytes s l (instruction.Convert t d x) = omega (arith, conversion_bytes t (target_of l d) (operand_of l x), fetch_same l x, keep_same l d)
instruction_bytes s l (instruction.Load t d at) = omega (arith, reach_same s l at, keep_same l d)
instruction_bytes s l (instruction.Store t x at) = omega (arith, fetch_same l x, reach_same s l at)
instruction_bytes s l (instruction.Address d at) = same_le _ _ (reference_same s l d at)
instruction_bytes s l (instruction.Part d x y size) = omega (arith, fetch_same l x, fetch_same l y, keep_same l d, part_scale size)
  where
    small : (a b c : Bool) → (if a then 4 else (if b then 8 else (if c then 8 else 16))) ≤ 16
    small true b c = omega arith
    small false true c = omega arith
    small false false true = omega arith
    small false false false = omega arith

    part_scale : (n : ℕ) → flat_costs.scale_bytes n ≤ 16
    part_scale n = small (n == 1) (n == 2) (n == 4)
instruction_bytes s l (instruction.Element t d x y) = omega (arith, fetch_same l x, fetch_same l y, keep_same l d, scale_same t)
instruction_bytes s l (instruction.Forget n k) = omega arith
instruction_bytes s l (instruction.Jump to) = omega arith
instruction_bytes s l (instruction.Branch c r x y to) = omega (arith, fetch_same l x, fetch_same l y)
instruction_bytes s l (instruction.Call k) = omega arith
instruction_bytes s l instruction.PutByte = omega arith
instruction_bytes s l instruction.GetByte = omega arith
instruction_bytes s l instruction.Exit = omega arith
instruction_bytes s l instruction.Return = omega arith

in_register : (b : Bool) → (if b then 0 else 12) ≤ 12
in_register true = omega arith
in_register false = omega arith

fetch_small : (x : flat_operand.Operand) → flat_costs.fetch_bytes x ≤ 12
fetch_small (source.Temporary k) = in_register (nat_lt k 8)
fetch_small (source.Cell c) = omega arith
fetch_small (source.Constant v) = omega arith
fetch_small (source.Argument k) = omega arith

move_small : (a : ℕ) → a ≤ 12 → max 4 (a + 12) ≤ 24
move_small a h = let x : 4 ≤ 24 = omega arith in let y : a + 12 ≤ 24 = omega (arith, h) in max-le x y

one_more : (a b c n : ℕ) → c ≡ a + b → a ≤ 24 → b ≤ 24 * n → c ≤ 24 * suc n
one_more a b c n e h k = omega (arith, e, h, k)

one_move : (c : ℕ) (x : flat_operand.Operand) (more : List flat_instruction.Instruction) (n : ℕ) → sum_by flat_costs.code_bytes more ≤ 24 * n → sum_by flat_costs.code_bytes (flat.Move (into.Cell c) x ∷ more) ≤ 24 * suc n
one_move c x more n h =
    one_more (flat_costs.move_bytes (into.Cell c) x) (sum_by flat_costs.code_bytes more) (sum_by flat_costs.code_bytes (flat.Move (into.Cell c) x ∷ more)) n
    (sum_by-cons flat_costs.code_bytes (flat.Move (into.Cell c) x) more) (move_small (flat_costs.fetch_bytes x) (fetch_small x)) h

moves_bytes : (l : Layout) (k n m : ℕ) (ps : List Parameter) → sum_by flat_costs.code_bytes (moves_from l k n m ps) ≤ 24 * length ps
moves_bytes l k n m [] = omega arith
moves_bytes l k n m (parameter.Number ∷ ps) =
    one_move (cell_in (slice_get l.homes n)) (argument k) (moves_from l (k + 1) (n + 1) m ps) (length ps) (moves_bytes l (k + 1) (n + 1) m ps)
moves_bytes l k n m (parameter.Array ∷ ps) =
    one_move (l.references + m) (argument k) (moves_from l (k + 1) n (m + 1) ps) (length ps) (moves_bytes l (k + 1) n (m + 1) ps)

function_bytes_within : (s : Starts) (f : Function) → flat_costs.function_bytes (flat_function s f) ≤ tac_costs.function_bytes f
function_bytes_within s f =
    let l = layout_of f in
    omega (
      arith,
      sum_by-append flat_costs.code_bytes (moves_from l 0 0 0 f.parameters) (map (translated s l) f.code),
      moves_bytes l 0 0 0 f.parameters,
      sum_by_map_le flat_costs.code_bytes (translated s l) tac_costs.code_bytes (instruction_bytes s l) f.code,
    )

pub is_code_of : (s : Starts) (f : Function) → IsCodeOf f (flat_function s f)
is_code_of s f = record {
  frame = (let e : frames.frame_bytes (flat_function s f) ≡ tac_costs.call_bytes f = frame_is_call s f in omega (arith, e));
  code = function_bytes_within s f;
}

pub each_is_code : (p : Program) (k : ℕ) (f : Function) (h : frames.Function) → slice_get p.functions k ≡ Some f → slice_get (map (flat_function (starts_of p)) p.functions) k ≡ Some h → IsCodeOf f h
each_is_code p k f h e g =
    let there : Some (flat_function (starts_of p) f) ≡ Some h = sym (got_in_map (flat_function (starts_of p)) p.functions k f e) ∙ g in
    subst (λ x. IsCodeOf f x) (same_some (flat_function (starts_of p) f) h there) (is_code_of (starts_of p) f)
