-- The items of a sound flat program can be assembled: each label is marked once, and no other is named.
use Rattle.std.proofs.Common.{◌≡◌, ◌⊎◌, inl, inr, ⊎_elim, ℕ, zero, suc, ◌+◌, ◌*◌, ◌-◌, ◌<◌, ◌≤◌, ◌%◌, ◌^◌, Bool, true, false, List, [], ◌∷◌, ◌++◌, length, Option, Some, None, refl, sym, ap, ◌∙◌, subst, arith}
use Rattle.std.specs.Prelude.{if◌then◌else◌, nat_lt, ◌==◌, slice_get}
use Rattle.std.proofs.lemmas.Bool.{cases_lt}
use Rattle.std.proofs.lemmas.List.{length-append}
use Rattle.std.proofs.lemmas.List.Sums.{sum_by-cons}
use Rattle.rv32.specs.declared.instr.Instr.{Instr}
use Rattle.rv32.specs.declared.instr.RegisterOp.TheVariants as register_op
use Rattle.asm.specs.declared.item.Item.{Item}
use Rattle.asm.specs.declared.item.Item.TheVariants.{Mark, Plain, Branch, Jump, Call, NearCall, Constant, LabelAddress, DataAddress}
use Rattle.asm.specs.Layout.{item_at, Refers, IsSound}
use Rattle.frames_code.specs.declared.code.Operand.{Operand}
use Rattle.frames_code.specs.declared.code.Operand.TheVariants as operand
use Rattle.frames_code.specs.declared.code.Base.{Base}
use Rattle.frames_code.specs.declared.code.Location.{Location}
use Rattle.frames_code.specs.declared.code.Location.TheVariants as location
use Rattle.frames_code.specs.declared.code.Operation.{Operation}
use Rattle.frames_code.specs.declared.code.Operation.TheVariants as operation
use Rattle.frames_code.specs.declared.code.Conversion.{Conversion}
use Rattle.frames_code.specs.declared.code.Conversion.TheVariants as conversion
use Rattle.frames_code.specs.declared.code.Instruction.{Instruction}
use Rattle.frames_code.specs.declared.code.Instruction.TheVariants as instruction
use Rattle.frames_code.specs.Code.{Function, Program, cell_home, area_home, frame_bytes}
use Rattle.frames_code.specs.Sound.{OperandFits, LocationFits, InstructionFits, FunctionFits, IsSoundProgram, places_of, most_bytes}
use Rattle.select.specs.declared.places.Source.{Source}
use Rattle.select.specs.declared.places.Source.TheVariants as source
use Rattle.select.specs.declared.places.Home.{Home}
use Rattle.select.specs.declared.places.Home.TheVariants as home
use Rattle.select.specs.Selected as selected
use Rattle.select.specs.Selected.{is_near_gp, static_address, source_of, home_of, fetch, into, keep, made_in, register_of, load_constant, far, load_word, store_word, address_of, move, ending, operate, form_or, combine, compute, narrow, convert, reach, load, store, reference, log2_of, shift_or_multiply, scale, element, branch, put_byte, get_byte, exit, change_sp, saves, restores, calls, keep_return, take_return, entry, leave, return_home, byte_home, items_of, set_to, shortened}
use Rattle.select.specs.Program.{code_items, function_items, functions_items, start_items, far_items, labels_of}
use Rattle.select.proofs.Shortened.{shortened_fits}
use Rattle.select.proofs.Powers.{power_small, index_fits}

bool_cases : {A : Type 0} (b : Bool) → (b ≡ true → A) → (b ≡ false → A) → A
bool_cases true on_true on_false = on_true refl
bool_cases false on_true on_false = on_false refl

below_word : (v : ℕ) → v % 2 ^ 32 < 2 ^ 32
below_word v = omega arith

-- ---- items that mark no label, and name only labels below n

abbrev pub Unmarked : ℕ → List Item → Type 0
Unmarked n [] = Unit {0}
Unmarked n (Plain i ∷ xs) = Unmarked n xs
Unmarked n (Constant rd v ∷ xs) = (v < 2 ^ 32) × Unmarked n xs
Unmarked n (Mark l ∷ xs) = ⊥
Unmarked n (Branch t l r to ∷ xs) = (to < n) × Unmarked n xs
Unmarked n (Jump to ∷ xs) = (to < n) × Unmarked n xs
Unmarked n (Call to ∷ xs) = (to < n) × Unmarked n xs
Unmarked n (NearCall to ∷ xs) = (to < n) × Unmarked n xs
Unmarked n (LabelAddress rd l ∷ xs) = (l < n) × Unmarked n xs
Unmarked n (DataAddress rd o ∷ xs) = (o < 0x10000000) × Unmarked n xs

module _ (n : ℕ) where
  both : (xs ys : List Item) → Unmarked n xs → Unmarked n ys → Unmarked n (xs ++ ys)
  both [] ys p q = q
  both (Plain i ∷ xs) ys p q = both xs ys p q
  both (Constant rd v ∷ xs) ys p q = (p.0, both xs ys p.1 q)
  both (Mark l ∷ xs) ys p q = absurd p
  both (Branch t l r to ∷ xs) ys p q = (p.0, both xs ys p.1 q)
  both (Jump to ∷ xs) ys p q = (p.0, both xs ys p.1 q)
  both (Call to ∷ xs) ys p q = (p.0, both xs ys p.1 q)
  both (NearCall to ∷ xs) ys p q = (p.0, both xs ys p.1 q)
  both (LabelAddress rd l ∷ xs) ys p q = (p.0, both xs ys p.1 q)
  both (DataAddress rd o ∷ xs) ys p q = (p.0, both xs ys p.1 q)

  either : (t : Bool) (xs ys : List Item) → Unmarked n xs → Unmarked n ys → Unmarked n (if t then xs else ys)
  either true xs ys p q = p
  either false xs ys p q = q

  one_of : (t : Bool) (x y : Item) → Unmarked n (x ∷ []) → Unmarked n (y ∷ []) → Unmarked n ((if t then x else y) ∷ [])
  one_of true x y p q = p
  one_of false x y p q = q

  far_un : (x o : ℕ) → Unmarked n (far x o)
  far_un x o = either (nat_lt o 0x800) [] _ tt tt

  load_word_un : (rd o : ℕ) → Unmarked n (load_word rd o)
  load_word_un rd o = both (far rd o) _ (far_un rd o) tt

  store_word_un : (s o : ℕ) → Unmarked n (store_word s o)
  store_word_un s o = both (far 7 o) _ (far_un 7 o) tt

  constant_un : (rd v : ℕ) → v < 2 ^ 32 → Unmarked n (load_constant rd v ∷ [])
  constant_un rd v lt = one_of (v % 0x1000 == 0) _ _ tt (lt, tt)

  address_un : (rd o : ℕ) → o < 2 ^ 32 → Unmarked n (address_of rd o)
  address_un rd o lt = either (nat_lt o 0x800) _ _ tt (both (load_constant rd o ∷ []) _ (constant_un rd o lt) tt)

  set_un : (rd v : ℕ) → v < 2 ^ 32 → Unmarked n (set_to rd v ∷ [])
  set_un rd v lt = one_of (nat_lt ((v + 0x800) % 2 ^ 32) 0x1000) _ _ tt (constant_un rd v lt)

  abbrev SmallSource : Source → Type 0
  SmallSource (source.Register r) = Unit {0}
  SmallSource (source.Frame o) = Unit {0}
  SmallSource (source.Constant v) = v < 2 ^ 32

  if_small : (t : Bool) (x y : Source) → SmallSource x → SmallSource y → SmallSource (if t then x else y)
  if_small true x y p q = p
  if_small false x y p q = q

  small_source : (f : Function) (x : Operand) → OperandFits f x → SmallSource (source_of f x)
  small_source f (operand.Temporary k) fit = if_small (nat_lt k 8) _ _ tt tt
  small_source f (operand.Cell c) fit = if_small (nat_lt c f.resident) _ _ tt tt
  small_source f (operand.Constant v) fit = if_small (v == 0) _ _ tt fit
  small_source f (operand.Argument k) fit = tt

  fetch_un : (x : ℕ) (s : Source) → SmallSource s → Unmarked n (fetch x s)
  fetch_un x (source.Register r) p = tt
  fetch_un x (source.Frame o) p = load_word_un x o
  fetch_un x (source.Constant v) p = set_un x v p

  into_un : (rd : ℕ) (s : Source) → SmallSource s → Unmarked n (into rd s)
  into_un rd (source.Register r) p = tt
  into_un rd (source.Frame o) p = load_word_un rd o
  into_un rd (source.Constant v) p = set_un rd v p

  keep_un : (d : Home) → Unmarked n (keep d)
  keep_un (home.Register r) = tt
  keep_un (home.Frame o) = store_word_un 5 o

  move_un : (d : Home) (s : Source) → SmallSource s → Unmarked n (move d s)
  move_un (home.Register r) s p = into_un r s p
  move_un (home.Frame o) s p = both (fetch 5 s) _ (fetch_un 5 s p) (store_word_un (register_of 5 s) o)

  ending_un : (o : Operation) (rd : ℕ) → Unmarked n (ending o rd)
  ending_un (operation.Machine o) rd = tt
  ending_un operation.Equal rd = tt
  ending_un operation.NotEqual rd = tt

  form_un : (t : Option Instr) (xs ys : List Item) → Unmarked n xs → Unmarked n ys → Unmarked n (form_or t xs ys)
  form_un (Some i) xs ys p q = p
  form_un None xs ys p q = q

  combine_un : (o : Operation) (rd a : ℕ) (y : Source) → SmallSource y → Unmarked n (combine o rd a y)
  combine_un o rd a (source.Register r) p = ending_un o rd
  combine_un o rd a (source.Frame q) p = both (load_word 6 q) (operate o rd a 6) (load_word_un 6 q) (ending_un o rd)
  combine_un o rd a (source.Constant v) p =
      form_un (selected.constant_form (selected.machine_of o) rd a v) (ending o rd) (set_to 6 v ∷ operate o rd a 6) (ending_un o rd)
      (both (set_to 6 v ∷ []) (operate o rd a 6) (set_un 6 v p) (ending_un o rd))

  narrow_un : (c : Conversion) (rd a : ℕ) → Unmarked n (narrow c rd a)
  narrow_un conversion.ToByte rd a = tt
  narrow_un conversion.ToSignedByte rd a = tt
  narrow_un conversion.ToHalf rd a = tt
  narrow_un conversion.ToSignedHalf rd a = tt
  narrow_un conversion.ToTruth rd a = tt

  static_un : (rd o : ℕ) → o < 0x10000000 → Unmarked n (static_address rd o ∷ [])
  static_un rd o fit = one_of (is_near_gp o) _ _ tt (fit, tt)

  product_un : (o : Option ℕ) (a size : ℕ) → size < 2 ^ 32 → Unmarked n (shift_or_multiply o a size)
  product_un (Some k) a size lt = tt
  product_un None a size lt = both (set_to 7 size ∷ []) _ (set_un 7 size lt) tt

  scale_un : (a size : ℕ) → size < 2 ^ 32 → Unmarked n (scale a size)
  scale_un a size lt = either (size == 1) _ _ tt (product_un (log2_of size) a size lt)

  indexed_un : (b : Base) (y : Source) (size : ℕ) → SmallSource y → size < 2 ^ 32 → Unmarked n (selected.indexed b y size)
  indexed_un b y size p lt = both (fetch 6 y) _ (fetch_un 6 y p) (both (scale (register_of 6 y) size) _ (scale_un (register_of 6 y) size lt) tt)

  indexed_fits : (f : Function) (b : Base) (x : Operand) (size : ℕ) → LocationFits f (location.Indexed b x size) → Unmarked n (selected.indexed b (source_of f x) size)
  indexed_fits f b x size fit = indexed_un b (source_of f x) size (small_source f x (index_fits f x fit.1)) (power_small size fit.2)

  reach_un : (f : Function) (l : Location) → LocationFits f l → Unmarked n (reach f l)
  reach_un f (location.Statics o) fit = either (is_near_gp o) [] _ tt (fit, tt)
  reach_un f (location.Frame o) fit = far_un 6 (area_home f + o)
  reach_un f (location.At x) fit = fetch_un 6 (source_of f x) (small_source f x fit)
  reach_un f (location.Indexed b x size) fit = indexed_fits f b x size fit

  reference_un : (f : Function) (d : Home) (l : Location) → frame_bytes f ≤ most_bytes → LocationFits f l → Unmarked n (reference f d l)
  reference_un f d (location.Statics o) small fit = both (static_address (made_in d) o ∷ []) _ (static_un (made_in d) o fit) (keep_un d)
  reference_un f d (location.Frame o) small fit = both (address_of (made_in d) (area_home f + o)) _ (address_un (made_in d) (area_home f + o) (omega (arith, small, fit))) (keep_un d)
  reference_un f d (location.At x) small fit = move_un d (source_of f x) (small_source f x fit)
  reference_un f d (location.Indexed b x size) small fit = both (selected.indexed b (source_of f x) size) _ (indexed_fits f b x size fit) (keep_un d)

  counted_un : (d : Home) (x y : Source) (size : ℕ) → SmallSource x → SmallSource y → size < 2 ^ 32 → Unmarked n (selected.counted d x y size)
  counted_un d x y size p q lt = both (fetch 5 x) _ (fetch_un 5 x p) (both (fetch 6 y) _ (fetch_un 6 y q) (both (scale (register_of 6 y) size) _ (scale_un (register_of 6 y) size lt) (keep_un d)))

  element_un : (d : Home) (x y : Source) (size : ℕ) → SmallSource x → SmallSource y → size < 2 ^ 32 → Unmarked n (element d x y size)
  element_un d x (source.Register q) size p u lt = either (q == 0) (move d x) (selected.counted d x (source.Register q) size) (move_un d x p) (counted_un d x (source.Register q) size p u lt)
  element_un d x (source.Frame o) size p u lt = counted_un d x (source.Frame o) size p u lt
  element_un d x (source.Constant v) size p q lt =
      let bytes = source.Constant (v * size % 2 ^ 32) in
      both (fetch 5 x) _ (fetch_un 5 x p)
      (both (combine (operation.Machine register_op.Add) (made_in d) (register_of 5 x) bytes) (keep d) (combine_un (operation.Machine register_op.Add) (made_in d) (register_of 5 x) bytes (below_word (v * size))) (keep_un d))

  change_un : (by : ℕ) → by < 2 ^ 32 → Unmarked n (change_sp by)
  change_un by lt = either (nat_lt ((by + 0x800) % 2 ^ 32) 0x1000) _ _ tt (both (load_constant 7 by ∷ []) _ (constant_un 7 by lt) tt)

  saves_un : (f : Function) (k : ℕ) → Unmarked n (saves f k)
  saves_un f zero = tt
  saves_un f (suc k) = both (saves f k) _ (saves_un f k) (store_word_un (selected.kept k) (cell_home f k))

  restores_un : (f : Function) (k : ℕ) → Unmarked n (restores f k)
  restores_un f zero = tt
  restores_un f (suc k) = both (restores f k) _ (restores_un f k) (load_word_un (selected.kept k) (cell_home f k))

  module _ (f : Function) (small : frame_bytes f ≤ most_bytes) where
    entry_un : Unmarked n (entry f)
    entry_un =
        both (change_sp (2 ^ 32 - frame_bytes f)) _ (change_un (2 ^ 32 - frame_bytes f) (omega (arith, small)))
        (both (keep_return f) _ (either (calls f.code) _ _ (store_word_un 1 (return_home f)) tt) (saves_un f f.resident))

    leave_un : Unmarked n (leave f)
    leave_un =
        both (restores f f.resident) _ (restores_un f f.resident)
        (both (take_return f) _ (either (calls f.code) _ _ (load_word_un 1 (return_home f)) tt)
        (both (change_sp (frame_bytes f)) _ (change_un (frame_bytes f) (omega (arith, small))) tt))

    put_un : Unmarked n (put_byte f)
    put_un = both (address_of 11 (byte_home f)) _ (address_un 11 (byte_home f) (omega (arith, small))) tt

    get_un : Unmarked n (get_byte f)
    get_un = both (address_of 11 (byte_home f)) _ (address_un 11 (byte_home f) (omega (arith, small))) tt

    items_un : (first m : ℕ) → m ≤ n → first + length f.code < n → (x : Instruction) → InstructionFits m f x → Unmarked n (items_of f first x)
    items_un first m le lt instruction.Nothing fit = tt
    items_un first m le lt (instruction.Move d x) fit = move_un (home_of f d) (source_of f x) (small_source f x fit.1)
    items_un first m le lt (instruction.Compute o d x y) fit =
        both (fetch 5 (source_of f x)) _ (fetch_un 5 (source_of f x) (small_source f x fit.1))
        (both (combine o (made_in (home_of f d)) (register_of 5 (source_of f x)) (source_of f y)) _ (combine_un o _ _ (source_of f y) (small_source f y fit.2)) (keep_un (home_of f d)))
    items_un first m le lt (instruction.Convert c d x) fit =
        both (fetch 5 (source_of f x)) _ (fetch_un 5 (source_of f x) (small_source f x fit.1))
        (both (narrow c (made_in (home_of f d)) (register_of 5 (source_of f x))) _ (narrow_un c _ _) (keep_un (home_of f d)))
    items_un first m le lt (instruction.Load w d l) fit = both (reach f l) _ (reach_un f l fit.1) (keep_un (home_of f d))
    items_un first m le lt (instruction.Store w x l) fit =
        both (fetch 5 (source_of f x)) _ (fetch_un 5 (source_of f x) (small_source f x fit.0)) (both (reach f l) _ (reach_un f l fit.1) tt)
    items_un first m le lt (instruction.Address d l) fit = reference_un f (home_of f d) l small fit.1
    items_un first m le lt (instruction.Element d x y size) fit =
        element_un (home_of f d) (source_of f x) (source_of f y) size (small_source f x fit.1) (small_source f y fit.2) fit.3
    items_un first m le lt (instruction.Jump to) fit = (omega (arith, lt, fit), tt)
    items_un first m le lt (instruction.Branch t x y to) fit =
        both (fetch 5 (source_of f x)) _ (fetch_un 5 (source_of f x) (small_source f x fit.0))
        (both (fetch 6 (source_of f y)) _ (fetch_un 6 (source_of f y) (small_source f y fit.1)) (omega (arith, lt, fit.2), tt))
    items_un first m le lt (instruction.Call g) fit = (omega (arith, le, fit), tt)
    items_un first m le lt instruction.PutByte fit = put_un
    items_un first m le lt instruction.GetByte fit = get_un
    items_un first m le lt instruction.Exit fit = tt
    items_un first m le lt instruction.Return fit = leave_un

-- ---- the labels that a list of items marks

-- just those of P, each once; and only labels below n are named
pub record Marks (n : ℕ) (P : ℕ → Type 0) (xs : List Item) : Type 0 where
  pub refers : (k : ℕ) → k < length xs → Refers n (item_at xs k)
  pub all : (l : ℕ) → P l → (k : ℕ) × (k < length xs) × (item_at xs k ≡ Mark l)
  pub only : (k l : ℕ) → k < length xs → item_at xs k ≡ Mark l → P l
  pub once : (j k l : ℕ) → j < length xs → k < length xs → item_at xs j ≡ Mark l → item_at xs k ≡ Mark l → j ≡ k

item_before : (xs ys : List Item) (k : ℕ) → k < length xs → item_at (xs ++ ys) k ≡ item_at xs k
item_before [] ys k lt = absurd (omega (arith, lt))
item_before (x ∷ xs) ys zero lt = refl
item_before (x ∷ xs) ys (suc k) lt = item_before xs ys k (omega (arith, lt))

item_behind : (xs ys : List Item) (k : ℕ) → item_at (xs ++ ys) (length xs + k) ≡ item_at ys k
item_behind [] ys k = ap (item_at ys) (let e : 0 + k ≡ k = omega arith in e)
item_behind (x ∷ xs) ys k =
    let e : length (x ∷ xs) + k ≡ suc (length xs + k) = omega arith in
    ap (item_at (x ∷ (xs ++ ys))) e ∙ item_behind xs ys k

module _ (n : ℕ) where
  unmarked_refers : (xs : List Item) (k : ℕ) → Unmarked n xs → k < length xs → Refers n (item_at xs k)
  unmarked_refers [] k p lt = absurd (omega (arith, lt))
  unmarked_refers (Plain i ∷ xs) zero p lt = tt
  unmarked_refers (Plain i ∷ xs) (suc k) p lt = unmarked_refers xs k p (omega (arith, lt))
  unmarked_refers (Constant rd v ∷ xs) zero p lt = p.0
  unmarked_refers (Constant rd v ∷ xs) (suc k) p lt = unmarked_refers xs k p.1 (omega (arith, lt))
  unmarked_refers (Mark l ∷ xs) k p lt = absurd p
  unmarked_refers (Branch t l r to ∷ xs) zero p lt = p.0
  unmarked_refers (Branch t l r to ∷ xs) (suc k) p lt = unmarked_refers xs k p.1 (omega (arith, lt))
  unmarked_refers (Jump to ∷ xs) zero p lt = p.0
  unmarked_refers (Jump to ∷ xs) (suc k) p lt = unmarked_refers xs k p.1 (omega (arith, lt))
  unmarked_refers (Call to ∷ xs) zero p lt = p.0
  unmarked_refers (NearCall to ∷ xs) zero p lt = p.0
  unmarked_refers (Call to ∷ xs) (suc k) p lt = unmarked_refers xs k p.1 (omega (arith, lt))
  unmarked_refers (NearCall to ∷ xs) (suc k) p lt = unmarked_refers xs k p.1 (omega (arith, lt))
  unmarked_refers (LabelAddress rd l ∷ xs) zero p lt = p.0
  unmarked_refers (LabelAddress rd l ∷ xs) (suc k) p lt = unmarked_refers xs k p.1 (omega (arith, lt))
  unmarked_refers (DataAddress rd o ∷ xs) zero p lt = p.0
  unmarked_refers (DataAddress rd o ∷ xs) (suc k) p lt = unmarked_refers xs k p.1 (omega (arith, lt))

  unmarked_marks : (xs : List Item) (k l : ℕ) → Unmarked n xs → k < length xs → item_at xs k ≡ Mark l → ⊥
  unmarked_marks [] k l p lt e = omega (arith, lt)
  unmarked_marks (Plain i ∷ xs) zero l p lt e = cc
  unmarked_marks (Plain i ∷ xs) (suc k) l p lt e = unmarked_marks xs k l p (omega (arith, lt)) e
  unmarked_marks (Constant rd v ∷ xs) zero l p lt e = cc
  unmarked_marks (Constant rd v ∷ xs) (suc k) l p lt e = unmarked_marks xs k l p.1 (omega (arith, lt)) e
  unmarked_marks (Mark m ∷ xs) k l p lt e = absurd p
  unmarked_marks (Branch t a r to ∷ xs) zero l p lt e = cc
  unmarked_marks (Branch t a r to ∷ xs) (suc k) l p lt e = unmarked_marks xs k l p.1 (omega (arith, lt)) e
  unmarked_marks (Jump to ∷ xs) zero l p lt e = cc
  unmarked_marks (Jump to ∷ xs) (suc k) l p lt e = unmarked_marks xs k l p.1 (omega (arith, lt)) e
  unmarked_marks (Call to ∷ xs) zero l p lt e = cc
  unmarked_marks (NearCall to ∷ xs) zero l p lt e = cc
  unmarked_marks (Call to ∷ xs) (suc k) l p lt e = unmarked_marks xs k l p.1 (omega (arith, lt)) e
  unmarked_marks (NearCall to ∷ xs) (suc k) l p lt e = unmarked_marks xs k l p.1 (omega (arith, lt)) e
  unmarked_marks (LabelAddress rd m ∷ xs) zero l p lt e = cc
  unmarked_marks (LabelAddress rd m ∷ xs) (suc k) l p lt e = unmarked_marks xs k l p.1 (omega (arith, lt)) e
  unmarked_marks (DataAddress rd o ∷ xs) zero l p lt e = cc
  unmarked_marks (DataAddress rd o ∷ xs) (suc k) l p lt e = unmarked_marks xs k l p.1 (omega (arith, lt)) e

  -- no label
  abbrev None_ : ℕ → Type 0
  None_ l = ⊥

  unmarked : (xs : List Item) → Unmarked n xs → Marks n None_ xs
  unmarked xs u = record {
    refers = λ k lt. unmarked_refers xs k u lt;
    all = λ l p. absurd p;
    only = λ k l lt e. unmarked_marks xs k l u lt e;
    once = λ j k l jl kl e f. absurd (unmarked_marks xs j l u jl e);
  }

  at_zero : (k : ℕ) → k < 1 → 0 ≡ k
  at_zero k lt = omega (arith, lt)

  marked : (m : ℕ) → m < n → Marks n (λ l. l ≡ m) (Mark m ∷ [])
  marked m lt = record {
    refers = λ k kl. subst (λ j. Refers n (item_at (Mark m ∷ []) j)) (at_zero k kl) lt;
    all = λ l p. (0, omega arith, ap Mark (sym p));
    only = λ k l kl e. let here : Mark m ≡ Mark l = ap (item_at (Mark m ∷ [])) (at_zero k kl) ∙ e in cc;
    once = λ j k l jl kl e f. sym (at_zero j jl) ∙ at_zero k kl;
  }

  -- an item of two lists is one of the first or of the second
  module _ (P Q : ℕ → Type 0) (xs ys : List Item) (p : Marks n P xs) (q : Marks n Q ys) (apart : (l : ℕ) → P l → Q l → ⊥) where
    total : length (xs ++ ys) ≡ length xs + length ys
    total = length-append xs ys

    back : (k : ℕ) → length xs ≤ k → item_at (xs ++ ys) k ≡ item_at ys (k - length xs)
    back k le = let e : length xs + (k - length xs) ≡ k = omega (arith, le) in ap (item_at (xs ++ ys)) (sym e) ∙ item_behind xs ys (k - length xs)

    refers_in : (k : ℕ) → k < length (xs ++ ys) → Refers n (item_at (xs ++ ys) k)
    refers_in k lt =
        ⊎_elim
        (λ h. subst (Refers n) (sym (item_before xs ys k h)) (p.refers k h))
        (λ h. subst (Refers n) (sym (back k h)) (q.refers (k - length xs) (omega (arith, total, lt, h))))
        (cases_lt k (length xs))

    all_in : (l : ℕ) → P l ⊎ Q l → (k : ℕ) × (k < length (xs ++ ys)) × (item_at (xs ++ ys) k ≡ Mark l)
    all_in l (inl a) = let m = p.all l a in (m.0, omega (arith, m.1, total), item_before xs ys m.0 m.1 ∙ m.2)
    all_in l (inr a) = let m = q.all l a in (length xs + m.0, omega (arith, m.1, total), item_behind xs ys m.0 ∙ m.2)

    only_in : (k l : ℕ) → k < length (xs ++ ys) → item_at (xs ++ ys) k ≡ Mark l → P l ⊎ Q l
    only_in k l lt e =
        ⊎_elim
        (λ h. inl (p.only k l h (sym (item_before xs ys k h) ∙ e)))
        (λ h. inr (q.only (k - length xs) l (omega (arith, total, lt, h)) (sym (back k h) ∙ e)))
        (cases_lt k (length xs))

    once_in : (j k l : ℕ) → j < length (xs ++ ys) → k < length (xs ++ ys) → item_at (xs ++ ys) j ≡ Mark l → item_at (xs ++ ys) k ≡ Mark l → j ≡ k
    once_in j k l jl kl e f =
        ⊎_elim
        (λ hj. ⊎_elim
        (λ hk. p.once j k l hj hk (sym (item_before xs ys j hj) ∙ e) (sym (item_before xs ys k hk) ∙ f))
        (λ hk. absurd (apart l (p.only j l hj (sym (item_before xs ys j hj) ∙ e)) (q.only (k - length xs) l (omega (arith, total, kl, hk)) (sym (back k hk) ∙ f))))
        (cases_lt k (length xs)))
        (λ hj. ⊎_elim
        (λ hk. absurd (apart l (p.only k l hk (sym (item_before xs ys k hk) ∙ f)) (q.only (j - length xs) l (omega (arith, total, jl, hj)) (sym (back j hj) ∙ e))))
        (λ hk. let same = q.once (j - length xs) (k - length xs) l (omega (arith, total, jl, hj)) (omega (arith, total, kl, hk)) (sym (back j hj) ∙ e) (sym (back k hk) ∙ f) in omega (arith, hj, hk, same))
        (cases_lt k (length xs)))
        (cases_lt j (length xs))

    joined : Marks n (λ l. P l ⊎ Q l) (xs ++ ys)
    joined = record { refers = refers_in; all = all_in; only = only_in; once = once_in }

  -- the same labels, said otherwise
  said : (P Q : ℕ → Type 0) (xs : List Item) → ((l : ℕ) → P l → Q l) → ((l : ℕ) → Q l → P l) → Marks n P xs → Marks n Q xs
  said P Q xs to from p = record { refers = p.refers; all = λ l q. p.all l (from l q); only = λ k l lt e. to l (p.only k l lt e); once = p.once }

  -- items without marks in front
  behind : (P : ℕ → Type 0) (xs ys : List Item) → Unmarked n xs → Marks n P ys → Marks n P (xs ++ ys)
  behind P xs ys u p =
      said (λ l. None_ l ⊎ P l) P (xs ++ ys) (λ l a. ⊎_elim (λ x. absurd x) (λ x. x) a) (λ l a. inr a)
      (joined None_ P xs ys (unmarked xs u) p (λ l a b. a))

  -- the labels from a up to b
  abbrev Span : ℕ → ℕ → ℕ → Type 0
  Span a b l = (a ≤ l) × (l < b)

  module _ (f : Function) (m first : ℕ) (fits : FunctionFits m f) (le : m ≤ n) (lt : first + length f.code < n) where
    code_marks : (k : ℕ) (xs : List Instruction) → k + length xs ≡ length f.code → ((j : ℕ) (x : Instruction) → slice_get xs j ≡ Some x → InstructionFits m f x) → Marks n (Span (first + k) (first + length f.code + 1)) (code_items f first k xs)
    code_marks k [] e each =
        said (λ l. l ≡ first + k) (Span (first + k) (first + length f.code + 1)) (Mark (first + k) ∷ []) (λ l a. (omega (arith, a), omega (arith, a, e))) (λ l a. omega (arith, a.0, a.1, e)) (marked (first + k) (omega (arith, lt, e)))
    code_marks k (x ∷ xs) e each =
        let rest = code_marks (k + 1) xs (omega (arith, e)) (λ j y g. each (suc j) y g) in
        let later = behind (Span (first + (k + 1)) (first + length f.code + 1)) (items_of f first (shortened f.code k x)) (code_items f first (k + 1) xs) (items_un n f fits.small first m le lt (shortened f.code k x) (shortened_fits m f f.code k x (each 0 x refl))) rest in
        said (λ l. (l ≡ first + k) ⊎ Span (first + (k + 1)) (first + length f.code + 1) l) (Span (first + k) (first + length f.code + 1)) (code_items f first k (x ∷ xs))
        (λ l a. ⊎_elim (λ y. (omega (arith, y), omega (arith, y, e))) (λ y. (omega (arith, y.0), y.1)) a)
        (λ l a. ⊎_elim (λ y. inl (omega (arith, y, a.0))) (λ y. inr (omega (arith, y), a.1)) (cases_lt l (first + k + 1)))
        (joined (λ l. l ≡ first + k) (Span (first + (k + 1)) (first + length f.code + 1)) (Mark (first + k) ∷ []) (items_of f first (shortened f.code k x) ++ code_items f first (k + 1) xs) (marked (first + k) (omega (arith, lt, e))) later (λ l a b. omega (arith, a, b.0)))

    function_marks : (k : ℕ) → k < first → Marks n (λ l. (l ≡ k) ⊎ Span first (first + length f.code + 1) l) (function_items k first f)
    function_marks k below =
        let body = code_marks 0 f.code (omega arith) fits.each in
        let begun = behind (Span (first + 0) (first + length f.code + 1)) (entry f) (code_items f first 0 f.code) (entry_un n f fits.small) body in
        said (λ l. (l ≡ k) ⊎ Span (first + 0) (first + length f.code + 1) l) (λ l. (l ≡ k) ⊎ Span first (first + length f.code + 1) l) (function_items k first f)
        (λ l a. ⊎_elim (λ y. inl y) (λ y. inr (omega (arith, y.0), y.1)) a)
        (λ l a. ⊎_elim (λ y. inl y) (λ y. inr (omega (arith, y.0), y.1)) a)
        (joined (λ l. l ≡ k) (Span (first + 0) (first + length f.code + 1)) (Mark k ∷ []) (entry f ++ code_items f first 0 f.code) (marked k (omega (arith, below, lt))) begun (λ l a b. omega (arith, a, b.0, below)))

  functions_marks : (m : ℕ) → m ≤ n → (k first : ℕ) (fs : List Function) → k + length fs ≤ first → first + places_of fs ≤ n → ((j : ℕ) (f : Function) → slice_get fs j ≡ Some f → FunctionFits m f)
      → Marks n (λ l. Span k (k + length fs) l ⊎ Span first (first + places_of fs) l) (functions_items k first fs)
  functions_marks m le k first [] below top fits =
      said None_ (λ l. Span k (k + 0) l ⊎ Span first (first + 0) l) [] (λ l a. absurd a) (λ l a. ⊎_elim (λ y. omega (arith, y.0, y.1)) (λ y. omega (arith, y.0, y.1)) a) (unmarked [] tt)
  functions_marks m le k first (f ∷ fs) below top fits =
      let past = first + (length f.code + 1) in
      let sum : places_of (f ∷ fs) ≡ length f.code + 1 + places_of fs = sum_by-cons (λ g. length g.code + 1) f fs in
      let one = function_marks f m first (fits 0 f refl) le (omega (arith, top, sum)) k (omega (arith, below)) in
      let rest = functions_marks m le (k + 1) past fs (omega (arith, below)) (omega (arith, top, sum)) (λ j g e. fits (suc j) g e) in
      said (λ l. ((l ≡ k) ⊎ Span first (first + length f.code + 1) l) ⊎ (Span (k + 1) (k + 1 + length fs) l ⊎ Span past (past + places_of fs) l))
      (λ l. Span k (k + length (f ∷ fs)) l ⊎ Span first (first + places_of (f ∷ fs)) l) (functions_items k first (f ∷ fs))
      (λ l a. ⊎_elim
      (λ y. ⊎_elim (λ z. inl (omega (arith, z), omega (arith, z))) (λ z. inr (z.0, omega (arith, z.1, sum))) y)
      (λ y. ⊎_elim (λ z. inl (omega (arith, z.0), omega (arith, z.1))) (λ z. inr (omega (arith, z.0), omega (arith, z.1, sum))) y) a)
      (λ l a. ⊎_elim
      (λ y. ⊎_elim (λ z. inl (inl (omega (arith, z, y.0)))) (λ z. inr (inl (omega (arith, z), omega (arith, y.1)))) (cases_lt l (k + 1)))
      (λ y. ⊎_elim (λ z. inl (inr (y.0, omega (arith, z)))) (λ z. inr (inr (omega (arith, z), omega (arith, y.1, sum)))) (cases_lt l past)) a)
      (joined (λ l. (l ≡ k) ⊎ Span first (first + length f.code + 1) l) (λ l. Span (k + 1) (k + 1 + length fs) l ⊎ Span past (past + places_of fs) l) (function_items k first f) (functions_items (k + 1) past fs) one rest
      (λ l a b. ⊎_elim
      (λ y. ⊎_elim (λ z. omega (arith, y, z.0)) (λ z. omega (arith, y, z.0, below)) b)
      (λ y. ⊎_elim (λ z. omega (arith, y.0, z.1, below)) (λ z. omega (arith, y.1, z.0)) b) a))

pub is_sound : (p : Program) → IsSoundProgram p → IsSound (labels_of p) (far_items p)
is_sound p s =
    let n = labels_of p in
    let count = length p.functions in
    let functions = functions_marks n count (omega arith) 0 count p.functions (omega arith) (omega arith) s.each in
    let whole = behind n (λ l. Span n 0 (0 + count) l ⊎ Span n count (count + places_of p.functions) l) (start_items p.main) (functions_items 0 count p.functions) (omega arith, (omega arith, (omega (arith, s.has_main), tt))) functions in
    record {
      refers = whole.refers;
      marked = λ l lt. whole.all l (⊎_elim (λ y. inl (omega arith, omega (arith, y))) (λ y. inr (y, omega (arith, lt))) (cases_lt l count));
      once = whole.once;
    }
