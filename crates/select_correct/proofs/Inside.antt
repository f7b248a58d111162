-- Each jump of a function's items names the label of one of its instructions.
use Rattle.std.proofs.Common.{◌≡◌, ℕ, zero, suc, ◌+◌, ◌*◌, ◌-◌, ◌%◌, ◌^◌, ◌<◌, ◌≤◌, Bool, true, false, List, [], ◌∷◌, ◌++◌, length, Option, Some, None, refl, arith}
use Rattle.std.specs.Prelude.{if◌then◌else◌, nat_lt, ◌==◌, slice_get}
use Rattle.rv32.specs.declared.instr.Instr.{Instr}
use Rattle.rv32.specs.declared.instr.RegisterOp.TheVariants as register_op
use Rattle.asm.specs.declared.item.Item.{Item}
use Rattle.asm.specs.declared.item.Item.TheVariants.{Mark, Plain, Branch, Jump, Call, NearCall, Constant, LabelAddress, DataAddress}
use Rattle.asm.specs.Layout.{item_at}
use Rattle.frames_code.specs.declared.code.Base.{Base}
use Rattle.frames_code.specs.declared.code.Location.{Location}
use Rattle.frames_code.specs.declared.code.Location.TheVariants as location
use Rattle.frames_code.specs.declared.code.Operation.{Operation}
use Rattle.frames_code.specs.declared.code.Operation.TheVariants as operation
use Rattle.frames_code.specs.declared.code.Conversion.{Conversion}
use Rattle.frames_code.specs.declared.code.Conversion.TheVariants as conversion
use Rattle.frames_code.specs.declared.code.Instruction.{Instruction}
use Rattle.frames_code.specs.declared.code.Instruction.TheVariants as instruction
use Rattle.frames_code.specs.Code.{Function, cell_home, area_home, frame_bytes}
use Rattle.frames_code.specs.Sound.{InstructionFits}
use Rattle.select.specs.declared.places.Source.{Source}
use Rattle.select.specs.declared.places.Source.TheVariants as source
use Rattle.select.specs.declared.places.Home.{Home}
use Rattle.select.specs.declared.places.Home.TheVariants as home
use Rattle.select.specs.Selected as selected
use Rattle.select.specs.Selected.{is_near_gp, static_address, source_of, home_of, fetch, into, keep, made_in, register_of, load_constant, far, load_word, store_word, address_of, move, ending, operate, form_or, combine, narrow, reach, reference, log2_of, shift_or_multiply, scale, element, put_byte, get_byte, change_sp, saves, restores, calls, keep_return, take_return, entry, leave, return_home, byte_home, items_of, set_to, shortened}
use Rattle.select.specs.Program.{code_items}
use Rattle.select.proofs.Shortened.{shortened_fits}

-- a jump to a label from a up to b
abbrev pub Names : ℕ → ℕ → Item → Type 0
Names a b (Branch t l r to) = (a ≤ to) × (to < b)
Names a b (Jump to) = (a ≤ to) × (to < b)
Names a b (Mark l) = Unit {0}
Names a b (Plain i) = Unit {0}
Names a b (Call to) = Unit {0}
Names a b (NearCall to) = (a ≤ to) × (to < b)
Names a b (Constant rd v) = Unit {0}
Names a b (LabelAddress rd l) = Unit {0}
Names a b (DataAddress rd o) = Unit {0}

-- the jumps of a list
abbrev pub Inside : ℕ → ℕ → List Item → Type 0
Inside a b [] = Unit {0}
Inside a b (Branch t l r to ∷ xs) = ((a ≤ to) × (to < b)) × Inside a b xs
Inside a b (Jump to ∷ xs) = ((a ≤ to) × (to < b)) × Inside a b xs
Inside a b (Mark l ∷ xs) = Inside a b xs
Inside a b (Plain i ∷ xs) = Inside a b xs
Inside a b (Call to ∷ xs) = Inside a b xs
Inside a b (NearCall to ∷ xs) = ((a ≤ to) × (to < b)) × Inside a b xs
Inside a b (Constant rd v ∷ xs) = Inside a b xs
Inside a b (LabelAddress rd l ∷ xs) = Inside a b xs
Inside a b (DataAddress rd o ∷ xs) = Inside a b xs

module _ (a b : ℕ) where
  one_in : (x : Item) (xs : List Item) → Inside a b (x ∷ xs) → Names a b x × Inside a b xs
  one_in (Branch t l r to) xs p = (p.0, p.1)
  one_in (Jump to) xs p = (p.0, p.1)
  one_in (Mark l) xs p = (tt, p)
  one_in (Plain i) xs p = (tt, p)
  one_in (Call to) xs p = (tt, p)
  one_in (NearCall to) xs p = (p.0, p.1)
  one_in (Constant rd v) xs p = (tt, p)
  one_in (LabelAddress rd l) xs p = (tt, p)
  one_in (DataAddress rd o) xs p = (tt, p)

  pub named : (xs : List Item) (k : ℕ) → k < length xs → Inside a b xs → Names a b (item_at xs k)
  named [] k lt p = absurd (omega (arith, lt))
  named (x ∷ xs) zero lt p = (one_in x xs p).0
  named (x ∷ xs) (suc k) lt p = named xs k (omega (arith, lt)) (one_in x xs p).1

  both : (xs ys : List Item) → Inside a b xs → Inside a b ys → Inside a b (xs ++ ys)
  both [] ys p q = q
  both (Branch t l r to ∷ xs) ys p q = (p.0, both xs ys p.1 q)
  both (Jump to ∷ xs) ys p q = (p.0, both xs ys p.1 q)
  both (Mark l ∷ xs) ys p q = both xs ys p q
  both (Plain i ∷ xs) ys p q = both xs ys p q
  both (Call to ∷ xs) ys p q = both xs ys p q
  both (NearCall to ∷ xs) ys p q = (p.0, both xs ys p.1 q)
  both (Constant rd v ∷ xs) ys p q = both xs ys p q
  both (LabelAddress rd l ∷ xs) ys p q = both xs ys p q
  both (DataAddress rd o ∷ xs) ys p q = both xs ys p q

  either : (t : Bool) (xs ys : List Item) → Inside a b xs → Inside a b ys → Inside a b (if t then xs else ys)
  either true xs ys p q = p
  either false xs ys p q = q

  one_of : (t : Bool) (x y : Item) → Inside a b (x ∷ []) → Inside a b (y ∷ []) → Inside a b ((if t then x else y) ∷ [])
  one_of true x y p q = p
  one_of false x y p q = q

  far_in : (x o : ℕ) → Inside a b (far x o)
  far_in x o = either (nat_lt o 0x800) [] _ tt tt

  load_word_in : (rd o : ℕ) → Inside a b (load_word rd o)
  load_word_in rd o = both (far rd o) _ (far_in rd o) tt

  store_word_in : (s o : ℕ) → Inside a b (store_word s o)
  store_word_in s o = both (far 7 o) _ (far_in 7 o) tt

  constant_in : (rd v : ℕ) → Inside a b (load_constant rd v ∷ [])
  constant_in rd v = one_of (v % 0x1000 == 0) _ _ tt tt

  address_in : (rd o : ℕ) → Inside a b (address_of rd o)
  address_in rd o = either (nat_lt o 0x800) _ _ tt (both (load_constant rd o ∷ []) _ (constant_in rd o) tt)

  set_in : (rd v : ℕ) → Inside a b (set_to rd v ∷ [])
  set_in rd v = one_of (nat_lt ((v + 0x800) % 2 ^ 32) 0x1000) _ _ tt (constant_in rd v)

  fetch_in : (x : ℕ) (s : Source) → Inside a b (fetch x s)
  fetch_in x (source.Register r) = tt
  fetch_in x (source.Frame o) = load_word_in x o
  fetch_in x (source.Constant v) = set_in x v

  into_in : (rd : ℕ) (s : Source) → Inside a b (into rd s)
  into_in rd (source.Register r) = tt
  into_in rd (source.Frame o) = load_word_in rd o
  into_in rd (source.Constant v) = set_in rd v

  keep_in : (d : Home) → Inside a b (keep d)
  keep_in (home.Register r) = tt
  keep_in (home.Frame o) = store_word_in 5 o

  move_in : (d : Home) (s : Source) → Inside a b (move d s)
  move_in (home.Register r) s = into_in r s
  move_in (home.Frame o) s = both (fetch 5 s) _ (fetch_in 5 s) (store_word_in (register_of 5 s) o)

  ending_in : (o : Operation) (rd : ℕ) → Inside a b (ending o rd)
  ending_in (operation.Machine o) rd = tt
  ending_in operation.Equal rd = tt
  ending_in operation.NotEqual rd = tt

  form_in : (t : Option Instr) (xs ys : List Item) → Inside a b xs → Inside a b ys → Inside a b (form_or t xs ys)
  form_in (Some i) xs ys p q = p
  form_in None xs ys p q = q

  combine_in : (o : Operation) (rd x : ℕ) (y : Source) → Inside a b (combine o rd x y)
  combine_in o rd x (source.Register r) = ending_in o rd
  combine_in o rd x (source.Frame q) = both (load_word 6 q) (operate o rd x 6) (load_word_in 6 q) (ending_in o rd)
  combine_in o rd x (source.Constant v) =
      form_in (selected.constant_form (selected.machine_of o) rd x v) (ending o rd) (set_to 6 v ∷ operate o rd x 6) (ending_in o rd)
      (both (set_to 6 v ∷ []) (operate o rd x 6) (set_in 6 v) (ending_in o rd))

  narrow_in : (c : Conversion) (rd x : ℕ) → Inside a b (narrow c rd x)
  narrow_in conversion.ToByte rd x = tt
  narrow_in conversion.ToSignedByte rd x = tt
  narrow_in conversion.ToHalf rd x = tt
  narrow_in conversion.ToSignedHalf rd x = tt
  narrow_in conversion.ToTruth rd x = tt

  product_in : (o : Option ℕ) (x size : ℕ) → Inside a b (shift_or_multiply o x size)
  product_in (Some k) x size = tt
  product_in None x size = both (set_to 7 size ∷ []) _ (set_in 7 size) tt

  scale_in : (x size : ℕ) → Inside a b (scale x size)
  scale_in x size = either (size == 1) [] _ tt (product_in (log2_of size) x size)

  indexed_in : (c : Base) (y : Source) (size : ℕ) → Inside a b (selected.indexed c y size)
  indexed_in c y size = both (fetch 6 y) _ (fetch_in 6 y) (both (scale (register_of 6 y) size) _ (scale_in (register_of 6 y) size) tt)

  reach_in : (f : Function) (l : Location) → Inside a b (reach f l)
  reach_in f (location.Statics o) = either (is_near_gp o) [] _ tt tt
  reach_in f (location.Frame o) = far_in 6 (area_home f + o)
  reach_in f (location.At x) = fetch_in 6 (source_of f x)
  reach_in f (location.Indexed c y size) = indexed_in c (source_of f y) size

  reference_in : (f : Function) (d : Home) (l : Location) → Inside a b (reference f d l)
  reference_in f d (location.Statics o) = both (static_address (made_in d) o ∷ []) _ (one_of (is_near_gp o) _ _ tt tt) (keep_in d)
  reference_in f d (location.Frame o) = both (address_of (made_in d) (area_home f + o)) _ (address_in (made_in d) (area_home f + o)) (keep_in d)
  reference_in f d (location.At x) = move_in d (source_of f x)
  reference_in f d (location.Indexed c y size) = both (selected.indexed c (source_of f y) size) _ (indexed_in c (source_of f y) size) (keep_in d)

  counted_in : (d : Home) (x y : Source) (size : ℕ) → Inside a b (selected.counted d x y size)
  counted_in d x y size = both (fetch 5 x) _ (fetch_in 5 x) (both (fetch 6 y) _ (fetch_in 6 y) (both (scale (register_of 6 y) size) _ (scale_in (register_of 6 y) size) (keep_in d)))

  element_in : (d : Home) (x y : Source) (size : ℕ) → Inside a b (element d x y size)
  element_in d x (source.Register q) size = either (q == 0) (move d x) (selected.counted d x (source.Register q) size) (move_in d x) (counted_in d x (source.Register q) size)
  element_in d x (source.Frame o) size = counted_in d x (source.Frame o) size
  element_in d x (source.Constant v) size =
      let bytes = source.Constant (v * size % 2 ^ 32) in
      both (fetch 5 x) _ (fetch_in 5 x)
      (both (combine (operation.Machine register_op.Add) (made_in d) (register_of 5 x) bytes) (keep d)
      (combine_in (operation.Machine register_op.Add) (made_in d) (register_of 5 x) bytes) (keep_in d))

  change_in : (by : ℕ) → Inside a b (change_sp by)
  change_in by = either (nat_lt ((by + 0x800) % 2 ^ 32) 0x1000) _ _ tt (both (load_constant 7 by ∷ []) _ (constant_in 7 by) tt)

  saves_in : (f : Function) (k : ℕ) → Inside a b (saves f k)
  saves_in f zero = tt
  saves_in f (suc k) = both (saves f k) _ (saves_in f k) (store_word_in (selected.kept k) (cell_home f k))

  restores_in : (f : Function) (k : ℕ) → Inside a b (restores f k)
  restores_in f zero = tt
  restores_in f (suc k) = both (restores f k) _ (restores_in f k) (load_word_in (selected.kept k) (cell_home f k))

  pub entry_in : (f : Function) → Inside a b (entry f)
  entry_in f =
      both (change_sp (2 ^ 32 - frame_bytes f)) _ (change_in (2 ^ 32 - frame_bytes f))
      (both (keep_return f) _ (either (calls f.code) _ _ (store_word_in 1 (return_home f)) tt) (saves_in f f.resident))

  leave_in : (f : Function) → Inside a b (leave f)
  leave_in f =
      both (restores f f.resident) _ (restores_in f f.resident)
      (both (take_return f) _ (either (calls f.code) _ _ (load_word_in 1 (return_home f)) tt)
      (both (change_sp (frame_bytes f)) _ (change_in (frame_bytes f)) tt))

  put_in : (f : Function) → Inside a b (put_byte f)
  put_in f = both (address_of 11 (byte_home f)) _ (address_in 11 (byte_home f)) tt

  get_in : (f : Function) → Inside a b (get_byte f)
  get_in f = both (address_of 11 (byte_home f)) _ (address_in 11 (byte_home f)) tt

  module _ (f : Function) (first : ℕ) (from : a ≤ first) (until : first + length f.code ≤ b) where
    items_in : (m : ℕ) (x : Instruction) → InstructionFits m f x → Inside a b (items_of f first x)
    items_in m instruction.Nothing fit = tt
    items_in m (instruction.Move d x) fit = move_in (home_of f d) (source_of f x)
    items_in m (instruction.Compute o d x y) fit =
        both (fetch 5 (source_of f x)) _ (fetch_in 5 (source_of f x))
        (both (combine o (made_in (home_of f d)) (register_of 5 (source_of f x)) (source_of f y)) _ (combine_in o _ _ (source_of f y)) (keep_in (home_of f d)))
    items_in m (instruction.Convert c d x) fit =
        both (fetch 5 (source_of f x)) _ (fetch_in 5 (source_of f x))
        (both (narrow c (made_in (home_of f d)) (register_of 5 (source_of f x))) _ (narrow_in c _ _) (keep_in (home_of f d)))
    items_in m (instruction.Load w d l) fit = both (reach f l) _ (reach_in f l) (keep_in (home_of f d))
    items_in m (instruction.Store w x l) fit =
        both (fetch 5 (source_of f x)) _ (fetch_in 5 (source_of f x)) (both (reach f l) _ (reach_in f l) tt)
    items_in m (instruction.Address d l) fit = reference_in f (home_of f d) l
    items_in m (instruction.Element d x y size) fit = element_in (home_of f d) (source_of f x) (source_of f y) size
    items_in m (instruction.Jump to) fit = ((omega (arith, from), omega (arith, until, fit)), tt)
    items_in m (instruction.Branch t x y to) fit =
        both (fetch 5 (source_of f x)) _ (fetch_in 5 (source_of f x))
        (both (fetch 6 (source_of f y)) _ (fetch_in 6 (source_of f y)) ((omega (arith, from), omega (arith, until, fit.2)), tt))
    items_in m (instruction.Call g) fit = tt
    items_in m instruction.PutByte fit = put_in f
    items_in m instruction.GetByte fit = get_in f
    items_in m instruction.Exit fit = tt
    items_in m instruction.Return fit = leave_in f

    pub code_in : (m k : ℕ) (xs : List Instruction) → ((j : ℕ) (x : Instruction) → slice_get xs j ≡ Some x → InstructionFits m f x) → Inside a b (code_items f first k xs)
    code_in m k [] each = tt
    code_in m k (x ∷ xs) each = both (items_of f first (shortened f.code k x)) _ (items_in m (shortened f.code k x) (shortened_fits m f f.code k x (each 0 x refl))) (code_in m (k + 1) xs (λ j y g. each (suc j) y g))
