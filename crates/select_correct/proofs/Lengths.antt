-- The rows of the table of costs are the lengths of the items, with all branches long.
use Rattle.std.proofs.Common.{◌≡◌, ℕ, zero, suc, ◌+◌, ◌-◌, ◌*◌, ◌%◌, ◌^◌, Bool, true, false, List, [], ◌∷◌, ◌++◌, Option, Some, None, refl, arith}
use Rattle.std.specs.Prelude.{if◌then◌else◌, nat_lt, ◌==◌}
use Rattle.std.proofs.lemmas.List.Sums.{sum_by-append}
use Rattle.rv32.specs.declared.instr.Instr.{Instr}
use Rattle.rv32.specs.declared.instr.Instr.TheVariants as instr
use Rattle.rv32.specs.declared.instr.RegisterOp.TheVariants as register_op
use Rattle.asm.specs.declared.item.Item.{Item}
use Rattle.asm.specs.declared.item.Item.TheVariants as item
use Rattle.asm.specs.Layout.{size, longest}
use Rattle.frames_code.specs.declared.code.Base.{Base}
use Rattle.frames_code.specs.declared.code.Location.{Location}
use Rattle.frames_code.specs.declared.code.Location.TheVariants as location
use Rattle.frames_code.specs.declared.code.Operation.{Operation}
use Rattle.frames_code.specs.declared.code.Operation.TheVariants as operation
use Rattle.frames_code.specs.declared.code.Conversion.{Conversion}
use Rattle.frames_code.specs.declared.code.Conversion.TheVariants as conversion
use Rattle.frames_code.specs.declared.code.Instruction.{Instruction}
use Rattle.frames_code.specs.declared.code.Instruction.TheVariants as instruction
use Rattle.frames_code.specs.Code.{Function, cell_home, area_home, frame_bytes}
use Rattle.select.specs.declared.places.Source.{Source}
use Rattle.select.specs.declared.places.Source.TheVariants as source
use Rattle.select.specs.declared.places.Home.{Home}
use Rattle.select.specs.declared.places.Home.TheVariants as home
use Rattle.select.specs.Selected.{is_near_gp, static_address, source_of, home_of, kept, machine_of, constant_form, fetch, into, keep, made_in, register_of, load_constant, far, load_word, store_word, address_of, move, ending, operate, form_or, combine, narrow, operate_on, reach, reach_base, reach_offset, load_of, reference, log2_of, shift_or_multiply, scale, scaled_in, add_to, base_offset, indexed, counted, element, put_byte, change_sp, saves, restores, calls, keep_return, take_return, entry, leave, return_home, byte_home, items_of, set_to}
use Rattle.select_correct.specs.Costs.{far_cost, word_cost, constant_cost, address_cost, set_cost, fetch_cost, keep_cost, into_cost, move_cost, form_cost, second_cost, ending_cost, compute_cost, narrow_cost, reach_cost, reference_cost, product_cost, scale_cost, counted_cost, element_cost, frame_cost, saved_cost, return_cost, opening_cost, row, RowsAreLengths, item_count}

both : (xs ys : List Item) (a b : ℕ) → longest xs ≡ 4 * a → longest ys ≡ 4 * b → longest (xs ++ ys) ≡ 4 * (a + b)
both xs ys a b p q = let sum : longest (xs ++ ys) ≡ longest xs + longest ys = sum_by-append (size true) xs ys in omega (arith, p, q, sum)

either : (t : Bool) (xs ys : List Item) (a b : ℕ) → longest xs ≡ 4 * a → longest ys ≡ 4 * b → longest (if t then xs else ys) ≡ 4 * (if t then a else b)
either true xs ys a b p q = p
either false xs ys a b p q = q

one_of : (t : Bool) (x y : Item) (a b : ℕ) → longest (x ∷ []) ≡ 4 * a → longest (y ∷ []) ≡ 4 * b → longest ((if t then x else y) ∷ []) ≡ 4 * (if t then a else b)
one_of true x y a b p q = p
one_of false x y a b p q = q

far_long : (x o : ℕ) → longest (far x o) ≡ 4 * far_cost o
far_long x o = either (nat_lt o 0x800) [] _ 0 2 refl refl

load_long : (rd o : ℕ) → longest (load_word rd o) ≡ 4 * word_cost o
load_long rd o = let all : longest (load_word rd o) ≡ 4 * (far_cost o + 1) = both (far rd o) _ (far_cost o) 1 (far_long rd o) refl in omega (arith, all)

store_long : (s o : ℕ) → longest (store_word s o) ≡ 4 * word_cost o
store_long s o = let all : longest (store_word s o) ≡ 4 * (far_cost o + 1) = both (far 7 o) _ (far_cost o) 1 (far_long 7 o) refl in omega (arith, all)

constant_long : (rd v : ℕ) → longest (load_constant rd v ∷ []) ≡ 4 * constant_cost v
constant_long rd v = one_of (v % 0x1000 == 0) _ _ 1 2 refl refl

address_long : (rd o : ℕ) → longest (address_of rd o) ≡ 4 * address_cost o
address_long rd o = either (nat_lt o 0x800) _ _ 1 _ refl (both (load_constant rd o ∷ []) (operate_on register_op.Add rd rd 2 ∷ []) (constant_cost o) 1 (constant_long rd o) refl)

change_long : (by : ℕ) → longest (change_sp by) ≡ 4 * frame_cost by
change_long by =
    either (nat_lt ((by + 0x800) % 2 ^ 32) 0x1000) _ _ 1 _ refl
    (both (load_constant 7 by ∷ []) (operate_on register_op.Add 2 2 7 ∷ []) (constant_cost by) 1 (constant_long 7 by) refl)

set_long : (rd v : ℕ) → longest (set_to rd v ∷ []) ≡ 4 * set_cost v
set_long rd v = one_of (nat_lt ((v + 0x800) % 2 ^ 32) 0x1000) _ _ 1 _ refl (constant_long rd v)

fetch_long : (x : ℕ) (s : Source) → longest (fetch x s) ≡ 4 * fetch_cost s
fetch_long x (source.Register r) = refl
fetch_long x (source.Frame o) = load_long x o
fetch_long x (source.Constant v) = set_long x v

into_long : (rd : ℕ) (s : Source) → longest (into rd s) ≡ 4 * into_cost s
into_long rd (source.Register r) = refl
into_long rd (source.Frame o) = load_long rd o
into_long rd (source.Constant v) = set_long rd v

keep_long : (d : Home) → longest (keep d) ≡ 4 * keep_cost d
keep_long (home.Register r) = refl
keep_long (home.Frame o) = store_long 5 o

move_long : (d : Home) (s : Source) → longest (move d s) ≡ 4 * move_cost d s
move_long (home.Register r) s = into_long r s
move_long (home.Frame o) s = both (fetch 5 s) _ _ _ (fetch_long 5 s) (store_long (register_of 5 s) o)

ending_long : (o : Operation) (rd : ℕ) → longest (ending o rd) ≡ 4 * ending_cost o
ending_long (operation.Machine o) rd = refl
ending_long operation.Equal rd = refl
ending_long operation.NotEqual rd = refl

operate_long : (o : Operation) (rd a b : ℕ) → longest (operate o rd a b) ≡ 4 * (1 + ending_cost o)
operate_long o rd a b = both (item.Plain (instr.Op (machine_of o) rd a b) ∷ []) (ending o rd) 1 _ refl (ending_long o rd)

form_long : (t : Option Instr) (xs ys : List Item) (a n : ℕ) → longest xs ≡ 4 * a → longest ys ≡ 4 * (n + (1 + a)) → longest (form_or t xs ys) ≡ 4 * (form_cost t n + (1 + a))
form_long (Some i) xs ys a n p q = let all : longest (item.Plain i ∷ xs) ≡ 4 * (1 + a) = both (item.Plain i ∷ []) xs 1 a refl p in omega (arith, all)
form_long None xs ys a n p q = q

combine_long : (o : Operation) (rd a : ℕ) (y : Source) → longest (combine o rd a y) ≡ 4 * (second_cost o rd a y + (1 + ending_cost o))
combine_long o rd a (source.Register r) = omega (arith, operate_long o rd a r)
combine_long o rd a (source.Frame p) = both (load_word 6 p) (operate o rd a 6) _ _ (load_long 6 p) (operate_long o rd a 6)
combine_long o rd a (source.Constant v) =
    form_long (constant_form (machine_of o) rd a v) (ending o rd) (set_to 6 v ∷ operate o rd a 6) (ending_cost o) (set_cost v) (ending_long o rd)
    (both (set_to 6 v ∷ []) (operate o rd a 6) (set_cost v) _ (set_long 6 v) (operate_long o rd a 6))

compute_long : (o : Operation) (d : Home) (x y : Source) → longest (fetch 5 x ++ (combine o (made_in d) (register_of 5 x) y ++ keep d)) ≡ 4 * compute_cost o d x y
compute_long o d x y =
    let tail = combine o (made_in d) (register_of 5 x) y ++ keep d in
    let n = second_cost o (made_in d) (register_of 5 x) y + (1 + ending_cost o) + keep_cost d in
    let end : longest tail ≡ 4 * n = both (combine o (made_in d) (register_of 5 x) y) (keep d) _ _ (combine_long o (made_in d) (register_of 5 x) y) (keep_long d) in
    let all : longest (fetch 5 x ++ tail) ≡ 4 * (fetch_cost x + n) = both (fetch 5 x) tail _ n (fetch_long 5 x) end in
    omega (arith, all)

narrow_long : (c : Conversion) (rd a : ℕ) → longest (narrow c rd a) ≡ 4 * narrow_cost c
narrow_long conversion.ToByte rd a = refl
narrow_long conversion.ToSignedByte rd a = refl
narrow_long conversion.ToHalf rd a = refl
narrow_long conversion.ToSignedHalf rd a = refl
narrow_long conversion.ToTruth rd a = refl

product_long : (o : Option ℕ) (a n : ℕ) → longest (shift_or_multiply o a n) ≡ 4 * product_cost o n
product_long (Some k) a n = refl
product_long None a n = both (set_to 7 n ∷ []) (operate_on register_op.Mul 6 a 7 ∷ []) (set_cost n) 1 (set_long 7 n) refl

scale_long : (a n : ℕ) → longest (scale a n) ≡ 4 * scale_cost n
scale_long a n = either (n == 1) [] _ 0 _ refl (product_long (log2_of n) a n)

indexed_long : (b : Base) (y : Source) (n : ℕ) → longest (indexed b y n) ≡ 4 * (fetch_cost y + (scale_cost n + 1))
indexed_long b y n = both (fetch 6 y) _ _ _ (fetch_long 6 y) (both (scale (register_of 6 y) n) _ _ 1 (scale_long (register_of 6 y) n) refl)

reach_long : (f : Function) (l : Location) → longest (reach f l) ≡ 4 * reach_cost f l
reach_long f (location.Statics o) = either (is_near_gp o) [] _ 0 2 refl refl
reach_long f (location.Frame o) = far_long 6 (area_home f + o)
reach_long f (location.At x) = fetch_long 6 (source_of f x)
reach_long f (location.Indexed b y n) = indexed_long b (source_of f y) n

reference_long : (f : Function) (d : Home) (l : Location) → longest (reference f d l) ≡ 4 * reference_cost f d l
reference_long f d (location.Statics o) = both (static_address (made_in d) o ∷ []) (keep d) _ _ (one_of (is_near_gp o) _ _ 1 2 refl refl) (keep_long d)
reference_long f d (location.Frame o) = both (address_of (made_in d) (area_home f + o)) (keep d) _ _ (address_long (made_in d) (area_home f + o)) (keep_long d)
reference_long f d (location.At x) = move_long d (source_of f x)
reference_long f d (location.Indexed b y n) =
    both (indexed b (source_of f y) n) _ _ _ (indexed_long b (source_of f y) n)
    (both (add_to (made_in d) 6 (base_offset f b) ∷ []) (keep d) 1 _ refl (keep_long d))

counted_long : (d : Home) (x y : Source) (n : ℕ) → longest (counted d x y n) ≡ 4 * counted_cost d x y n
counted_long d x y n =
    both (fetch 5 x) _ _ _ (fetch_long 5 x)
    (both (fetch 6 y) _ _ _ (fetch_long 6 y)
    (both (scale (register_of 6 y) n) _ _ _ (scale_long (register_of 6 y) n)
    (both (operate_on register_op.Add (made_in d) (register_of 5 x) (scaled_in (register_of 6 y) n) ∷ []) (keep d) 1 _ refl (keep_long d))))

element_long : (d : Home) (x y : Source) (n : ℕ) → longest (element d x y n) ≡ 4 * element_cost d x y n
element_long d x (source.Register q) n = either (q == 0) (move d x) (counted d x (source.Register q) n) _ _ (move_long d x) (counted_long d x (source.Register q) n)
element_long d x (source.Frame o) n = counted_long d x (source.Frame o) n
element_long d x (source.Constant v) n = compute_long (operation.Machine register_op.Add) d x (source.Constant (v * n % 2 ^ 32))

saves_long : (f : Function) (n : ℕ) → longest (saves f n) ≡ 4 * saved_cost f n
saves_long f zero = refl
saves_long f (suc n) = both (saves f n) _ _ _ (saves_long f n) (store_long (kept n) (cell_home f n))

restores_long : (f : Function) (n : ℕ) → longest (restores f n) ≡ 4 * saved_cost f n
restores_long f zero = refl
restores_long f (suc n) = both (restores f n) _ _ _ (restores_long f n) (load_long (kept n) (cell_home f n))

keep_return_long : (f : Function) → longest (keep_return f) ≡ 4 * return_cost f
keep_return_long f = either (calls f.code) (store_word 1 (return_home f)) [] _ 0 (store_long 1 (return_home f)) refl

take_return_long : (f : Function) → longest (take_return f) ≡ 4 * return_cost f
take_return_long f = either (calls f.code) (load_word 1 (return_home f)) [] _ 0 (load_long 1 (return_home f)) refl

entry_long : (f : Function) → longest (entry f) ≡ 4 * opening_cost f
entry_long f =
    both (change_sp (2 ^ 32 - frame_bytes f)) _ _ _ (change_long (2 ^ 32 - frame_bytes f))
    (both (keep_return f) _ _ _ (keep_return_long f) (saves_long f f.resident))

leave_long : (f : Function) → longest (leave f) ≡ 4 * row f instruction.Return
leave_long f =
    both (restores f f.resident) _ _ _ (restores_long f f.resident)
    (both (take_return f) _ _ _ (take_return_long f)
    (both (change_sp (frame_bytes f)) _ _ 1 (change_long (frame_bytes f)) refl))

items_long : (f : Function) (first : ℕ) (x : Instruction) → longest (items_of f first x) ≡ 4 * item_count f x
items_long f first instruction.Nothing = refl
items_long f first (instruction.Move d x) = move_long (home_of f d) (source_of f x)
items_long f first (instruction.Compute o d x y) = compute_long o (home_of f d) (source_of f x) (source_of f y)
items_long f first (instruction.Convert c d x) =
    both (fetch 5 (source_of f x)) _ _ _ (fetch_long 5 (source_of f x))
    (both (narrow c (made_in (home_of f d)) (register_of 5 (source_of f x))) _ _ _ (narrow_long c (made_in (home_of f d)) (register_of 5 (source_of f x))) (keep_long (home_of f d)))
items_long f first (instruction.Load w d l) =
    both (reach f l) _ _ _ (reach_long f l)
    (both (item.Plain (instr.Load (load_of w) (made_in (home_of f d)) (reach_base f l) (reach_offset f l)) ∷ []) (keep (home_of f d)) 1 _ refl (keep_long (home_of f d)))
items_long f first (instruction.Store w x l) =
    both (fetch 5 (source_of f x)) _ _ _ (fetch_long 5 (source_of f x)) (both (reach f l) _ _ 1 (reach_long f l) refl)
items_long f first (instruction.Address d l) = reference_long f (home_of f d) l
items_long f first (instruction.Element d x y n) = element_long (home_of f d) (source_of f x) (source_of f y) n
items_long f first (instruction.Jump to) = refl
items_long f first (instruction.Branch t x y to) =
    both (fetch 5 (source_of f x)) _ _ _ (fetch_long 5 (source_of f x)) (both (fetch 6 (source_of f y)) _ _ 2 (fetch_long 6 (source_of f y)) refl)
items_long f first (instruction.Call g) = refl
items_long f first instruction.PutByte =
    let all : longest (put_byte f) ≡ 4 * (address_cost (byte_home f) + 10) = both (address_of 11 (byte_home f)) _ _ 10 (address_long 11 (byte_home f)) refl in omega (arith, all)
items_long f first instruction.GetByte = both (address_of 11 (byte_home f)) _ _ 9 (address_long 11 (byte_home f)) refl
items_long f first instruction.Exit = refl
items_long f first instruction.Return = leave_long f

pub rows_are_lengths : RowsAreLengths
rows_are_lengths f first = (entry_long f, items_long f first)
