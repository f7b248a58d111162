-- How long the selected items are.
use Rattle.std.proofs.Common.{◌≡◌, ◌≤◌, ℕ, zero, suc, ◌+◌, ◌-◌, ◌*◌, ◌%◌, ◌^◌, Bool, true, false, List, [], ◌∷◌, ◌++◌, Option, Some, None, refl, sym, subst, arith}
use Rattle.std.specs.Prelude.{if◌then◌else◌, nat_lt, ◌==◌, sum_by}
use Rattle.std.specs.Int.Count.{count_trailing_zeros}
use Rattle.std.proofs.lemmas.Bool.{eqb-true}
use Rattle.std.proofs.lemmas.List.Sums.{sum_by-append, sum_by-cons}
use Rattle.rv32.specs.declared.instr.Instr.{Instr}
use Rattle.rv32.specs.declared.instr.Instr.TheVariants as instr
use Rattle.rv32.specs.declared.instr.ImmediateOp.TheVariants as immediate_op
use Rattle.rv32.specs.declared.instr.RegisterOp.TheVariants as register_op
use Rattle.asm.specs.declared.item.Item.{Item}
use Rattle.asm.specs.declared.item.Item.TheVariants as item
use Rattle.asm.specs.Layout.{size, longest}
use Rattle.frames_code.specs.declared.code.Base.{Base}
use Rattle.frames_code.specs.declared.code.Location.{Location}
use Rattle.frames_code.specs.declared.code.Location.TheVariants as location
use Rattle.frames_code.specs.declared.code.Operation.{Operation}
use Rattle.frames_code.specs.declared.code.Operation.TheVariants as operation
use Rattle.frames_code.specs.declared.code.Conversion.{Conversion}
use Rattle.frames_code.specs.declared.code.Conversion.TheVariants as conversion
use Rattle.frames_code.specs.declared.code.Instruction.{Instruction}
use Rattle.frames_code.specs.declared.code.Instruction.TheVariants as instruction
use Rattle.frames_code.specs.Code.{Function, cell_home, area_home, frame_bytes}
use Rattle.select.specs.declared.places.Source.{Source}
use Rattle.select.specs.declared.places.Source.TheVariants as source
use Rattle.select.specs.declared.places.Home.{Home}
use Rattle.select.specs.declared.places.Home.TheVariants as home
use Rattle.select.specs.Selected as selected
use Rattle.select.specs.Selected.{is_near_gp, static_address, source_of, home_of, fetch, into, keep, made_in, register_of, load_constant, far, load_word, store_word, address_of, move, ending, operate, form_or, combine, narrow, reach, reference, log2_of, shift_or_multiply, scale, operate_on, put_byte, get_byte, change_sp, saves, restores, calls, keep_return, take_return, entry, leave, return_home, byte_home, items_of, set_to, shortened}
use Rattle.select.specs.Program.{code_items, function_items}
use Rattle.select.proofs.Shortened.{shortened_bytes}
use Rattle.select.specs.Bytes.{word_bytes, fetch_bytes, keep_bytes, into_bytes, move_bytes, reach_bytes, reference_bytes, scale_bytes, saved_bytes, entry_bytes, instruction_bytes, CodeIsShort}

both : (xs ys : List Item) (a b : ℕ) → longest xs ≤ a → longest ys ≤ b → longest (xs ++ ys) ≤ a + b
both xs ys a b p q = let sum : longest (xs ++ ys) ≡ longest xs + longest ys = sum_by-append (size true) xs ys in omega (arith, p, q, sum)

either : (t : Bool) (xs ys : List Item) (a : ℕ) → longest xs ≤ a → longest ys ≤ a → longest (if t then xs else ys) ≤ a
either true xs ys a p q = p
either false xs ys a p q = q

one_of : (t : Bool) (x y : Item) (a : ℕ) → longest (x ∷ []) ≤ a → longest (y ∷ []) ≤ a → longest ((if t then x else y) ∷ []) ≤ a
one_of true x y a p q = p
one_of false x y a p q = q

more : (xs : List Item) (a b : ℕ) → a ≤ b → longest xs ≤ a → longest xs ≤ b
more xs a b le p = omega (arith, le, p)

with_one : (i : Instr) (ys : List Item) (b : ℕ) → longest ys ≤ b → longest (item.Plain i ∷ ys) ≤ 4 + b
with_one i ys b p = both (item.Plain i ∷ []) ys 4 b (omega arith) p

far_short : (x o : ℕ) → longest (far x o) ≤ 8
far_short x o = either (nat_lt o 0x800) [] _ 8 (omega arith) (omega arith)

word_short : (t : Bool) (xs : List Item) (y : Item) → size true y ≡ 4 → longest xs ≡ 8 → longest ((if t then [] else xs) ++ (y ∷ [])) ≤ (if t then 4 else 12)
word_short true xs y one two = omega (arith, one)
word_short false xs y one two = both xs (y ∷ []) 8 4 (omega (arith, two)) (omega (arith, one))

load_word_short : (rd o : ℕ) → longest (load_word rd o) ≤ word_bytes o
load_word_short rd o = word_short (nat_lt o 0x800) _ _ refl refl

store_word_short : (s o : ℕ) → longest (store_word s o) ≤ word_bytes o
store_word_short s o = word_short (nat_lt o 0x800) _ _ refl refl

constant_short : (rd v : ℕ) → longest (load_constant rd v ∷ []) ≤ 8
constant_short rd v = one_of (v % 0x1000 == 0) _ _ 8 (omega arith) (omega arith)

address_short : (rd o : ℕ) → longest (address_of rd o) ≤ 12
address_short rd o = either (nat_lt o 0x800) _ _ 12 (omega arith) (both (load_constant rd o ∷ []) (operate_on register_op.Add rd rd 2 ∷ []) 8 4 (constant_short rd o) (omega arith))

set_short : (rd v : ℕ) → longest (set_to rd v ∷ []) ≤ 8
set_short rd v = one_of (nat_lt ((v + 0x800) % 2 ^ 32) 0x1000) _ _ 8 (omega arith) (constant_short rd v)

fetch_short : (x : ℕ) (s : Source) → longest (fetch x s) ≤ fetch_bytes s
fetch_short x (source.Register r) = omega arith
fetch_short x (source.Frame o) = load_word_short x o
fetch_short x (source.Constant v) = set_short x v

into_short : (rd : ℕ) (s : Source) → longest (into rd s) ≤ into_bytes s
into_short rd (source.Register r) = omega arith
into_short rd (source.Frame o) = load_word_short rd o
into_short rd (source.Constant v) = set_short rd v

keep_short : (d : Home) → longest (keep d) ≤ keep_bytes d
keep_short (home.Register r) = omega arith
keep_short (home.Frame o) = store_word_short 5 o

move_short : (d : Home) (s : Source) → longest (move d s) ≤ move_bytes d s
move_short (home.Register r) s = into_short r s
move_short (home.Frame o) s = both (fetch 5 s) _ _ _ (fetch_short 5 s) (store_word_short (register_of 5 s) o)

ending_short : (o : Operation) (rd : ℕ) → longest (ending o rd) ≤ 4
ending_short (operation.Machine o) rd = omega arith
ending_short operation.Equal rd = omega arith
ending_short operation.NotEqual rd = omega arith

operate_short : (o : Operation) (rd a b : ℕ) → longest (operate o rd a b) ≤ 8
operate_short o rd a b = with_one (instr.Op (selected.machine_of o) rd a b) (ending o rd) 4 (ending_short o rd)

form_short : (t : Option Instr) (xs ys : List Item) (a b : ℕ) → 4 + a ≤ b → longest xs ≤ a → longest ys ≤ b → longest (form_or t xs ys) ≤ b
form_short (Some i) xs ys a b le p q = more (item.Plain i ∷ xs) (4 + a) b le (with_one i xs a p)
form_short None xs ys a b le p q = q

combine_short : (o : Operation) (rd a : ℕ) (y : Source) → longest (combine o rd a y) ≤ fetch_bytes y + 8
combine_short o rd a (source.Register r) = operate_short o rd a r
combine_short o rd a (source.Frame p) = both (load_word 6 p) (operate o rd a 6) (word_bytes p) 8 (load_word_short 6 p) (operate_short o rd a 6)
combine_short o rd a (source.Constant v) =
    form_short (selected.constant_form (selected.machine_of o) rd a v) (ending o rd) (set_to 6 v ∷ operate o rd a 6) 4 16 (omega arith) (ending_short o rd)
    (both (set_to 6 v ∷ []) (operate o rd a 6) 8 8 (set_short 6 v) (operate_short o rd a 6))

narrow_short : (c : Conversion) (rd a : ℕ) → longest (narrow c rd a) ≤ 8
narrow_short conversion.ToByte rd a = omega arith
narrow_short conversion.ToSignedByte rd a = omega arith
narrow_short conversion.ToHalf rd a = omega arith
narrow_short conversion.ToSignedHalf rd a = omega arith
narrow_short conversion.ToTruth rd a = omega arith

product_short : (o : Option ℕ) (a n : ℕ) → longest (shift_or_multiply o a n) ≤ 12
product_short (Some k) a n = omega arith
product_short None a n = both (set_to 7 n ∷ []) (operate_on register_op.Mul 6 a 7 ∷ []) 8 4 (set_short 7 n) (omega arith)

scale_by : (t u v : Bool) (xs : List Item) → (u ≡ true → longest xs ≤ 4) → (v ≡ true → longest xs ≤ 4) → longest xs ≤ 12
    → longest (if t then [] else xs) + 4 ≤ (if t then 4 else (if u then 8 else (if v then 8 else 16)))
scale_by true u v xs two four other = omega arith
scale_by false true v xs two four other = omega (arith, two refl)
scale_by false false true xs two four other = omega (arith, four refl)
scale_by false false false xs two four other = omega (arith, other)

-- a power of two takes a shift
abbrev TakesOne : ℕ → ℕ → Type 0
TakesOne a n = longest (shift_or_multiply (log2_of n) a n) ≤ 4

two_takes_one : (a : ℕ) → TakesOne a 2
unfolding count_trailing_zeros
two_takes_one a = omega arith

four_takes_one : (a : ℕ) → TakesOne a 4
unfolding count_trailing_zeros
four_takes_one a = omega arith

scale_short : (a n : ℕ) → longest (scale a n) + 4 ≤ scale_bytes n
scale_short a n =
    scale_by (n == 1) (n == 2) (n == 4) (shift_or_multiply (log2_of n) a n)
    (λ e. subst (TakesOne a) (sym (eqb-true n 2 e)) (two_takes_one a)) (λ e. subst (TakesOne a) (sym (eqb-true n 4 e)) (four_takes_one a)) (product_short (log2_of n) a n)

-- ---- an element

into_more : (s : Source) → into_bytes s ≤ fetch_bytes s + 4
into_more (source.Register r) = omega arith
into_more (source.Frame o) = omega arith
into_more (source.Constant v) = omega arith

move_more : (d : Home) (s : Source) → move_bytes d s ≤ fetch_bytes s + (4 + keep_bytes d)
move_more (home.Register r) s = omega (arith, into_more s)
move_more (home.Frame o) s = omega arith

-- a sum with a constant
sum_short : (rd a v : ℕ) → longest (combine (operation.Machine register_op.Add) rd a (source.Constant v)) ≤ 12
sum_short rd a v =
    form_short (selected.constant_form register_op.Add rd a v) [] (set_to 6 v ∷ operate_on register_op.Add rd a 6 ∷ []) 0 12 (omega arith) (omega arith)
    (both (set_to 6 v ∷ []) (operate_on register_op.Add rd a 6 ∷ []) 8 4 (set_short 6 v) (omega arith))

with_sum : (xs ys : List Item) (a b : ℕ) → longest xs + 4 ≤ a → longest ys ≤ 4 + b → longest (xs ++ ys) ≤ a + b
with_sum xs ys a b p q = let sum : longest (xs ++ ys) ≡ longest xs + longest ys = sum_by-append (size true) xs ys in omega (arith, p, q, sum)

counted_short : (d : Home) (x y : Source) (n : ℕ) → longest (selected.counted d x y n) ≤ fetch_bytes x + (fetch_bytes y + (scale_bytes n + keep_bytes d))
counted_short d x y n =
    let sum = instr.Op register_op.Add (made_in d) (register_of 5 x) (selected.scaled_in (register_of 6 y) n) in
    both (fetch 5 x) _ _ _ (fetch_short 5 x)
    (both (fetch 6 y) _ _ _ (fetch_short 6 y)
    (with_sum (scale (register_of 6 y) n) (item.Plain sum ∷ keep d) (scale_bytes n) (keep_bytes d) (scale_short (register_of 6 y) n) (with_one sum (keep d) _ (keep_short d))))

element_short : (d : Home) (x y : Source) (n : ℕ) → longest (selected.element d x y n) ≤ fetch_bytes x + (fetch_bytes y + (scale_bytes n + keep_bytes d))
element_short d x (source.Register q) n =
    let moved : longest (move d x) ≤ fetch_bytes x + (0 + (scale_bytes n + keep_bytes d)) = omega (arith, move_short d x, move_more d x, scale_short 6 n) in
    either (q == 0) (move d x) (selected.counted d x (source.Register q) n) _ moved (counted_short d x (source.Register q) n)
element_short d x (source.Frame o) n = counted_short d x (source.Frame o) n
element_short d x (source.Constant v) n =
    let sum = combine (operation.Machine register_op.Add) (made_in d) (register_of 5 x) (source.Constant (v * n % 2 ^ 32)) in
    let last : longest (sum ++ keep d) ≤ 12 + keep_bytes d = both sum (keep d) 12 _ (sum_short (made_in d) (register_of 5 x) (v * n % 2 ^ 32)) (keep_short d) in
    both (fetch 5 x) (sum ++ keep d) _ _ (fetch_short 5 x) (more (sum ++ keep d) (12 + keep_bytes d) (8 + (scale_bytes n + keep_bytes d)) (omega (arith, scale_short 6 n)) last)

-- ---- an element by an index, and all locations

indexed_short : (b : Base) (y : Source) (n : ℕ) → longest (selected.indexed b y n) ≤ fetch_bytes y + scale_bytes n
indexed_short b y n =
    let bytes = scale (register_of 6 y) n in
    let sum = instr.Op register_op.Add 6 (selected.base_register b) (selected.scaled_in (register_of 6 y) n) in
    let last : longest (bytes ++ (item.Plain sum ∷ [])) ≤ scale_bytes n + 0 = with_sum bytes (item.Plain sum ∷ []) (scale_bytes n) 0 (scale_short (register_of 6 y) n) (omega arith) in
    both (fetch 6 y) (bytes ++ (item.Plain sum ∷ [])) _ _ (fetch_short 6 y) (more (bytes ++ (item.Plain sum ∷ [])) (scale_bytes n + 0) (scale_bytes n) (omega arith) last)

reach_short : (f : Function) (l : Location) → longest (reach f l) ≤ reach_bytes f l
reach_short f (location.Statics o) = either (is_near_gp o) [] _ 8 (omega arith) (omega arith)
reach_short f (location.Frame o) = far_short 6 (area_home f + o)
reach_short f (location.At x) = fetch_short 6 (source_of f x)
reach_short f (location.Indexed b y size) = indexed_short b (source_of f y) size

reference_short : (f : Function) (d : Home) (l : Location) → longest (reference f d l) ≤ reference_bytes f d l
reference_short f d (location.Statics o) = both (static_address (made_in d) o ∷ []) (keep d) 8 _ (one_of (is_near_gp o) _ _ 8 (omega arith) (omega arith)) (keep_short d)
reference_short f d (location.Frame o) = both (address_of (made_in d) (area_home f + o)) (keep d) 12 _ (address_short (made_in d) (area_home f + o)) (keep_short d)
reference_short f d (location.At x) = move_short d (source_of f x)
reference_short f d (location.Indexed b y size) =
    let all = selected.indexed b (source_of f y) size ++ (selected.add_to (made_in d) 6 (selected.base_offset f b) ∷ keep d) in
    let sum = both (selected.indexed b (source_of f y) size) _ _ _ (indexed_short b (source_of f y) size) (with_one (instr.Immediate immediate_op.Add (made_in d) 6 (selected.base_offset f b)) (keep d) _ (keep_short d)) in
    more all (fetch_bytes (source_of f y) + scale_bytes size + (4 + keep_bytes d)) _ (omega arith) sum

change_short : (by : ℕ) → longest (change_sp by) ≤ 12
change_short by =
    either (nat_lt ((by + 0x800) % 2 ^ 32) 0x1000) _ _ 12 (omega arith)
    (both (load_constant 7 by ∷ []) (operate_on register_op.Add 2 2 7 ∷ []) 8 4 (constant_short 7 by) (omega arith))

saves_short : (f : Function) (n : ℕ) → longest (saves f n) ≤ saved_bytes f n
saves_short f zero = omega arith
saves_short f (suc n) = both (saves f n) _ _ _ (saves_short f n) (store_word_short (selected.kept n) (cell_home f n))

restores_short : (f : Function) (n : ℕ) → longest (restores f n) ≤ saved_bytes f n
restores_short f zero = omega arith
restores_short f (suc n) = both (restores f n) _ _ _ (restores_short f n) (load_word_short (selected.kept n) (cell_home f n))

keep_return_short : (f : Function) → longest (keep_return f) ≤ word_bytes (return_home f)
keep_return_short f = either (calls f.code) (store_word 1 (return_home f)) [] _ (store_word_short 1 (return_home f)) (omega arith)

take_return_short : (f : Function) → longest (take_return f) ≤ word_bytes (return_home f)
take_return_short f = either (calls f.code) (load_word 1 (return_home f)) [] _ (load_word_short 1 (return_home f)) (omega arith)

entry_short : (f : Function) → longest (entry f) ≤ entry_bytes f
entry_short f =
    both (change_sp (2 ^ 32 - frame_bytes f)) _ 12 _ (change_short (2 ^ 32 - frame_bytes f))
    (both (keep_return f) _ _ _ (keep_return_short f) (saves_short f f.resident))

leave_short : (f : Function) → longest (leave f) ≤ saved_bytes f f.resident + (word_bytes (return_home f) + 16)
leave_short f =
    both (restores f f.resident) _ _ _ (restores_short f f.resident)
    (both (take_return f) _ _ 16 (take_return_short f)
    (both (change_sp (frame_bytes f)) _ 12 4 (change_short (frame_bytes f)) (omega arith)))

items_short : (f : Function) (first : ℕ) (x : Instruction) → longest (items_of f first x) ≤ instruction_bytes f x
items_short f first instruction.Nothing = omega arith
items_short f first (instruction.Move d x) = move_short (home_of f d) (source_of f x)
items_short f first (instruction.Compute o d x y) =
    both (fetch 5 (source_of f x)) _ _ _ (fetch_short 5 (source_of f x))
    (let whole = combine o (made_in (home_of f d)) (register_of 5 (source_of f x)) (source_of f y) in
    let last = keep (home_of f d) in
    more (whole ++ last) ((fetch_bytes (source_of f y) + 8) + keep_bytes (home_of f d)) _ (omega arith)
    (both whole last _ _ (combine_short o _ _ (source_of f y)) (keep_short (home_of f d))))
items_short f first (instruction.Convert c d x) =
    both (fetch 5 (source_of f x)) _ _ _ (fetch_short 5 (source_of f x))
    (both (narrow c (made_in (home_of f d)) (register_of 5 (source_of f x))) _ 8 _ (narrow_short c _ _) (keep_short (home_of f d)))
items_short f first (instruction.Load w d l) =
    both (reach f l) _ _ _ (reach_short f l) (with_one (instr.Load (selected.load_of w) (made_in (home_of f d)) (selected.reach_base f l) (selected.reach_offset f l)) (keep (home_of f d)) _ (keep_short (home_of f d)))
items_short f first (instruction.Store w x l) =
    both (fetch 5 (source_of f x)) _ _ _ (fetch_short 5 (source_of f x)) (both (reach f l) _ _ 4 (reach_short f l) (omega arith))
items_short f first (instruction.Address d l) = reference_short f (home_of f d) l
items_short f first (instruction.Element d x y n) = element_short (home_of f d) (source_of f x) (source_of f y) n
items_short f first (instruction.Jump to) = omega arith
items_short f first (instruction.Branch t x y to) =
    both (fetch 5 (source_of f x)) _ _ _ (fetch_short 5 (source_of f x)) (both (fetch 6 (source_of f y)) _ _ 8 (fetch_short 6 (source_of f y)) (omega arith))
items_short f first (instruction.Call g) = omega arith
items_short f first instruction.PutByte = both (address_of 11 (byte_home f)) _ 12 40 (address_short 11 (byte_home f)) (omega arith)
items_short f first instruction.GetByte = both (address_of 11 (byte_home f)) _ 12 36 (address_short 11 (byte_home f)) (omega arith)
items_short f first instruction.Exit = omega arith
items_short f first instruction.Return = leave_short f

code_short : (f : Function) (first k : ℕ) (xs : List Instruction) → longest (code_items f first k xs) ≤ sum_by (instruction_bytes f) xs
code_short f first k [] = omega arith
code_short f first k (x ∷ xs) =
    let sum : sum_by (instruction_bytes f) (x ∷ xs) ≡ instruction_bytes f x + sum_by (instruction_bytes f) xs = sum_by-cons (instruction_bytes f) x xs in
    let here = more (items_of f first (shortened f.code k x)) (instruction_bytes f (shortened f.code k x)) (instruction_bytes f x) (shortened_bytes f f.code k x) (items_short f first (shortened f.code k x)) in
    let rest = both (item.Mark (first + k) ∷ []) (items_of f first (shortened f.code k x) ++ code_items f first (k + 1) xs) 0 _ (omega arith)
    (both (items_of f first (shortened f.code k x)) (code_items f first (k + 1) xs) (instruction_bytes f x) _ here (code_short f first (k + 1) xs)) in
    more (code_items f first k (x ∷ xs)) (0 + (instruction_bytes f x + sum_by (instruction_bytes f) xs)) _ (omega (arith, sum)) rest

pub code_is_short : CodeIsShort
code_is_short f k first =
    more (function_items k first f) (0 + (entry_bytes f + sum_by (instruction_bytes f) f.code)) _ (omega arith)
    (both (item.Mark k ∷ []) (entry f ++ code_items f first 0 f.code) 0 _ (omega arith) (both (entry f) (code_items f first 0 f.code) _ _ (entry_short f) (code_short f first 0 f.code)))
