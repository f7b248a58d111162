-- No instruction of a file writes tp, and none but two of its start write gp.
use Rattle.std.proofs.Common.{◌≡◌, ◌⊎◌, inl, inr, ⊎_elim, ◌≤◌, ◌<◌, ℕ, zero, suc, ◌+◌, ◌-◌, ◌*◌, ◌%◌, ◌^◌, ◌&&◌, List, [], ◌∷◌, ◌++◌, length, map, Bool, true, false, Option, Some, None, Ok, refl, sym, ap, ◌∙◌, subst, arith}
use Rattle.std.specs.Prelude.{◌==◌, if◌then◌else◌, nat_lt, replicate, slice_index, slice_set}
use Rattle.std.proofs.lemmas.Bool.{cases_lt}
use Rattle.std.proofs.lemmas.Bool.Decides.{nat_tests}
use Rattle.std.proofs.lemmas.List.{get_or-set_other, get_or-replicate}
use Rattle.rv32.specs.declared.instr.Instr.{Instr}
use Rattle.rv32.specs.declared.instr.Instr.TheVariants.{Lui, Auipc, Jal, Jalr, Branch, Load, Store, Immediate, Shift, Op, Fence, Ecall, Ebreak}
use Rattle.rv32.specs.declared.instr.LoadKind.{LoadKind}
use Rattle.rv32.specs.declared.instr.LoadKind.TheVariants as load_kind
use Rattle.rv32.specs.declared.instr.StoreKind.{StoreKind}
use Rattle.rv32.specs.declared.instr.StoreKind.TheVariants as store_kind
use Rattle.rv32.specs.declared.instr.ImmediateOp.{ImmediateOp}
use Rattle.rv32.specs.declared.instr.ImmediateOp.TheVariants as immediate_op
use Rattle.rv32.specs.declared.instr.RegisterOp.{RegisterOp}
use Rattle.rv32.specs.declared.instr.RegisterOp.TheVariants as register_op
use Rattle.rv32.specs.declared.state.Cause.{Cause}
use Rattle.rv32.specs.declared.state.Cause.TheVariants as cause
use Rattle.rv32.specs.declared.state.StepResult.{StepResult}
use Rattle.rv32.specs.declared.state.StepResult.TheVariants.{Went, Call as Called, Trap}
use Rattle.rv32.specs.Words.{decode_of}
use Rattle.rv32.specs.Space.{all_four, word_at}
use Rattle.rv32.specs.Step.{Machine, Stepped, register, with_register, next, step_of, execute_of, decoded, fetched, trapped, gives, jumps, links, loaded, load_of, stored, store_of}
use Rattle.asm.specs.declared.item.Item.{Item}
use Rattle.asm.specs.declared.item.Item.TheVariants as item
use Rattle.asm.specs.Layout.{nearer}
use Rattle.asm.specs.Placed.{Stands}
use Rattle.memory_map.specs.MemoryMap.{text_start}
use Rattle.loader.specs.File.{file_image}
use Rattle.elf_out.specs.Layout.{Parts}
use Rattle.elf_out.specs.Program.{program_space, program_image}
use Rattle.elf_out.proofs.Memory.{written_image}
use Rattle.frames_code.specs.declared.code.Base.{Base}
use Rattle.frames_code.specs.declared.code.Location.{Location}
use Rattle.frames_code.specs.declared.code.Location.TheVariants as location
use Rattle.frames_code.specs.declared.code.Operation.{Operation}
use Rattle.frames_code.specs.declared.code.Operation.TheVariants as operation
use Rattle.frames_code.specs.declared.code.Conversion.{Conversion}
use Rattle.frames_code.specs.declared.code.Conversion.TheVariants as conversion
use Rattle.frames_code.specs.declared.code.Target.{Target}
use Rattle.frames_code.specs.declared.code.Target.TheVariants as target
use Rattle.frames_code.specs.declared.code.Instruction.{Instruction}
use Rattle.frames_code.specs.declared.code.Instruction.TheVariants as instruction
use Rattle.frames_code.specs.Code.{Function, Program, cell_home, area_home, frame_bytes}
use Rattle.sim.specs.Runs.{World, Progress, Running, Ended, Trapped, answered, with_space, gets, puts, call_of, result_of, tick_of, rvrun, start_world}
use Rattle.select.specs.declared.places.Source.{Source}
use Rattle.select.specs.declared.places.Source.TheVariants as source
use Rattle.select.specs.declared.places.Home.{Home}
use Rattle.select.specs.declared.places.Home.TheVariants as home
use Rattle.select.specs.Selected as selected
use Rattle.select.specs.Selected.{is_near_gp, exit, source_of, home_of, fetch, into, keep, made_in, register_of, load_constant, far, load_word, store_word, address_of, move, ending, operate, form_or, combine, narrow, reach, reference, log2_of, shift_or_multiply, scale, counted, element, put_byte, get_byte, change_sp, saves, restores, calls, keep_return, take_return, entry, leave, return_home, byte_home, items_of, set_to, shortened, kept}
use Rattle.select.specs.Program.{code_items, function_items, functions_items, shorten_calls, calls_are_near, program_items}
use Rattle.cc_backend.specs.FlatImages.{IsImageOf}
use Rattle.cc_backend.proofs.FlatImages as whole
use Rattle.cc_backend.proofs.FlatImages.{within_low}
use Rattle.cc_backend.proofs.Plain.{and_left, and_right}
use Rattle.cc_laws.specs.Laws.{instruction_at}
use Rattle.cc_laws.specs.Reserved.{SetsGp, FilesLeaveReserved}
use Rattle.cc_laws.proofs.Composed.{rvrun_more}
use Rattle.cc_laws.proofs.Permissions.{Permits, world_of, run_permits}
use Rattle.cc_laws.proofs.Steps.{inside_now, step_traps_not}
use Rattle.cc_laws.proofs.Whole.{kept_four}
use Rattle.cc_laws.proofs.Loosening.{NoTrap}
use Rattle.cc_laws.proofs.Following.{text_apart}
use Rattle.cc_laws.proofs.Touching.{goes_before}

-- all but the two items that set sp and gp
abbrev rest_items : Program → List Item
rest_items p = item.Call p.main ∷ (exit ++ shorten_calls (calls_are_near p) (functions_items 0 (length p.functions) p.functions))

-- ---- a register that is not written: gp or tp

module _ (g : ℕ) (above : 2 < g) (below : g < 5) where
  -- ---- instructions and items

  abbrev IsFree : ℕ → Type 0
  IsFree rd = rd ≡ g → ⊥

  abbrev Frees : Instr → Type 0
  Frees (Lui rd v) = IsFree rd
  Frees (Auipc rd v) = IsFree rd
  Frees (Jal rd v) = IsFree rd
  Frees (Jalr rd base v) = IsFree rd
  Frees (Branch t l r v) = Unit {0}
  Frees (Load kind rd base v) = IsFree rd
  Frees (Store kind r base v) = Unit {0}
  Frees (Immediate o rd l v) = IsFree rd
  Frees (Shift o rd l k) = IsFree rd
  Frees (Op o rd l r) = IsFree rd
  Frees (Fence rd s v) = Unit {0}
  Frees Ecall = Unit {0}
  Frees Ebreak = Unit {0}

  abbrev FreesItem : Item → Type 0
  FreesItem (item.Mark l) = Unit {0}
  FreesItem (item.Plain i) = Frees i
  FreesItem (item.Branch t l r to) = Unit {0}
  FreesItem (item.Jump to) = Unit {0}
  FreesItem (item.Call to) = Unit {0}
  FreesItem (item.NearCall to) = Unit {0}
  FreesItem (item.Constant rd v) = IsFree rd
  FreesItem (item.LabelAddress rd l) = IsFree rd
  FreesItem (item.DataAddress rd o) = IsFree rd

  abbrev FreesAll : List Item → Type 0
  FreesAll [] = Unit {0}
  FreesAll (x ∷ xs) = FreesItem x × FreesAll xs

  low : (rd : ℕ) → rd < 3 → IsFree rd
  low rd lt e = omega (arith, lt, e, above)

  high : (rd : ℕ) → 4 < rd → IsFree rd
  high rd lt e = omega (arith, lt, e, below)

  five : IsFree 5
  five = high 5 (omega arith)

  six : IsFree 6
  six = high 6 (omega arith)

  seven : IsFree 7
  seven = high 7 (omega arith)

  pick : (t : Bool) (a b : ℕ) → IsFree a → IsFree b → IsFree (if t then a else b)
  pick true a b p q = p
  pick false a b p q = q

  kept_free : (j : ℕ) → IsFree (kept j)
  kept_free j = pick (nat_lt j 2) (8 + j) (16 + j) (high (8 + j) (omega arith)) (high (16 + j) (omega arith))

  both : (xs ys : List Item) → FreesAll xs → FreesAll ys → FreesAll (xs ++ ys)
  both [] ys p q = q
  both (x ∷ xs) ys p q = (p.0, both xs ys p.1 q)

  either : (t : Bool) (xs ys : List Item) → FreesAll xs → FreesAll ys → FreesAll (if t then xs else ys)
  either true xs ys p q = p
  either false xs ys p q = q

  one_of : (t : Bool) (x y : Item) → FreesItem x → FreesItem y → FreesItem (if t then x else y)
  one_of true x y p q = p
  one_of false x y p q = q

  -- ---- what is selected

  far_free : (x o : ℕ) → IsFree x → FreesAll (far x o)
  far_free x o f = either (nat_lt o 0x800) [] _ tt (f, (f, tt))

  load_word_free : (rd o : ℕ) → IsFree rd → FreesAll (load_word rd o)
  load_word_free rd o f = both (far rd o) _ (far_free rd o f) (f, tt)

  store_word_free : (s o : ℕ) → FreesAll (store_word s o)
  store_word_free s o = both (far 7 o) _ (far_free 7 o seven) (tt, tt)

  long_free : (rd v : ℕ) → IsFree rd → FreesItem (load_constant rd v)
  long_free rd v f = one_of (v % 0x1000 == 0) _ _ f f

  address_free : (rd o : ℕ) → IsFree rd → FreesAll (address_of rd o)
  address_free rd o f = either (nat_lt o 0x800) _ _ (f, tt) (long_free rd o f, (f, tt))

  set_free : (rd v : ℕ) → IsFree rd → FreesItem (set_to rd v)
  set_free rd v f = one_of (nat_lt ((v + 0x800) % 2 ^ 32) 0x1000) _ _ f (long_free rd v f)

  fetch_free : (x : ℕ) (s : Source) → IsFree x → FreesAll (fetch x s)
  fetch_free x (source.Register r) f = tt
  fetch_free x (source.Frame o) f = load_word_free x o f
  fetch_free x (source.Constant v) f = (set_free x v f, tt)

  into_free : (rd : ℕ) (s : Source) → IsFree rd → FreesAll (into rd s)
  into_free rd (source.Register r) f = (f, tt)
  into_free rd (source.Frame o) f = load_word_free rd o f
  into_free rd (source.Constant v) f = (set_free rd v f, tt)

  keep_free : (d : Home) → FreesAll (keep d)
  keep_free (home.Register r) = tt
  keep_free (home.Frame o) = store_word_free 5 o

  move_free : (d : Home) (s : Source) → IsFree (made_in d) → FreesAll (move d s)
  move_free (home.Register r) s f = into_free r s f
  move_free (home.Frame o) s f = both (fetch 5 s) _ (fetch_free 5 s five) (store_word_free (register_of 5 s) o)

  made_either : (t : Bool) (h i : Home) → IsFree (made_in h) → IsFree (made_in i) → IsFree (made_in (if t then h else i))
  made_either true h i p q = p
  made_either false h i p q = q

  home_free : (f : Function) (d : Target) → IsFree (made_in (home_of f d))
  home_free f (target.Temporary k) = made_either (nat_lt k 8) (home.Register (10 + k)) (home.Frame (4 * (k - 8))) (high (10 + k) (omega arith)) five
  home_free f (target.Cell c) = made_either (nat_lt c f.resident) (home.Register (kept c)) (home.Frame (cell_home f c)) (kept_free c) five

  ending_free : (o : Operation) (rd : ℕ) → IsFree rd → FreesAll (ending o rd)
  ending_free (operation.Machine o) rd f = tt
  ending_free operation.Equal rd f = (f, tt)
  ending_free operation.NotEqual rd f = (f, tt)

  operate_free : (o : Operation) (rd a b : ℕ) → IsFree rd → FreesAll (operate o rd a b)
  operate_free o rd a b f = (f, ending_free o rd f)

  abbrev FreesWhere : Option Instr → Type 0
  FreesWhere None = Unit {0}
  FreesWhere (Some i) = Frees i

  short_either : (t : Bool) (i : Instr) → Frees i → FreesWhere (if t then Some i else None)
  short_either true i f = f
  short_either false i f = tt

  short_free : (o : ImmediateOp) (rd a v : ℕ) → IsFree rd → FreesWhere (selected.short_form o rd a v)
  short_free o rd a v f = short_either (nat_lt ((v + 0x800) % 2 ^ 32) 0x1000) (Immediate o rd a v) f

  constant_free : (o : RegisterOp) (rd a v : ℕ) → IsFree rd → FreesWhere (selected.constant_form o rd a v)
  constant_free register_op.Add rd a v f = short_free immediate_op.Add rd a v f
  constant_free register_op.Sub rd a v f = short_free immediate_op.Add rd a _ f
  constant_free register_op.ShiftLeft rd a v f = f
  constant_free register_op.Less rd a v f = short_free immediate_op.Less rd a v f
  constant_free register_op.LessUnsigned rd a v f = short_free immediate_op.LessUnsigned rd a v f
  constant_free register_op.Xor rd a v f = short_free immediate_op.Xor rd a v f
  constant_free register_op.ShiftRight rd a v f = f
  constant_free register_op.ShiftRightArithmetic rd a v f = f
  constant_free register_op.Or rd a v f = short_free immediate_op.Or rd a v f
  constant_free register_op.And rd a v f = short_free immediate_op.And rd a v f
  constant_free register_op.Mul rd a v f = tt
  constant_free register_op.MulHigh rd a v f = tt
  constant_free register_op.MulHighSignedUnsigned rd a v f = tt
  constant_free register_op.MulHighUnsigned rd a v f = tt
  constant_free register_op.Div rd a v f = tt
  constant_free register_op.DivUnsigned rd a v f = tt
  constant_free register_op.Rem rd a v f = tt
  constant_free register_op.RemUnsigned rd a v f = tt

  form_free : (t : Option Instr) (xs ys : List Item) → FreesWhere t → FreesAll xs → FreesAll ys → FreesAll (form_or t xs ys)
  form_free (Some i) xs ys e p q = (e, p)
  form_free None xs ys e p q = q

  combine_free : (o : Operation) (rd x : ℕ) (y : Source) → IsFree rd → FreesAll (combine o rd x y)
  combine_free o rd x (source.Register r) f = operate_free o rd x r f
  combine_free o rd x (source.Frame q) f = both (load_word 6 q) (operate o rd x 6) (load_word_free 6 q six) (operate_free o rd x 6 f)
  combine_free o rd x (source.Constant v) f =
      form_free (selected.constant_form (selected.machine_of o) rd x v) (ending o rd) (set_to 6 v ∷ operate o rd x 6) (constant_free (selected.machine_of o) rd x v f) (ending_free o rd f)
      (set_free 6 v six, operate_free o rd x 6 f)

  narrow_free : (c : Conversion) (rd x : ℕ) → IsFree rd → FreesAll (narrow c rd x)
  narrow_free conversion.ToByte rd x f = (f, tt)
  narrow_free conversion.ToSignedByte rd x f = (f, (f, tt))
  narrow_free conversion.ToHalf rd x f = (f, (f, tt))
  narrow_free conversion.ToSignedHalf rd x f = (f, (f, tt))
  narrow_free conversion.ToTruth rd x f = (f, tt)

  product_free : (o : Option ℕ) (x size : ℕ) → FreesAll (shift_or_multiply o x size)
  product_free (Some k) x size = (six, tt)
  product_free None x size = (set_free 7 size seven, (six, tt))

  scale_free : (x size : ℕ) → FreesAll (scale x size)
  scale_free x size = either (size == 1) [] _ tt (product_free (log2_of size) x size)

  indexed_free : (b : Base) (y : Source) (size : ℕ) → FreesAll (selected.indexed b y size)
  indexed_free b y size = both (fetch 6 y) _ (fetch_free 6 y six) (both (scale (register_of 6 y) size) _ (scale_free (register_of 6 y) size) (six, tt))

  reach_free : (f : Function) (l : Location) → FreesAll (reach f l)
  reach_free f (location.Statics o) = either (is_near_gp o) [] _ tt (six, tt)
  reach_free f (location.Frame o) = far_free 6 (area_home f + o) six
  reach_free f (location.At x) = fetch_free 6 (source_of f x) six
  reach_free f (location.Indexed b y size) = indexed_free b (source_of f y) size

  reference_free : (f : Function) (d : Home) (l : Location) → IsFree (made_in d) → FreesAll (reference f d l)
  reference_free f d (location.Statics o) p = (one_of (is_near_gp o) _ _ p p, keep_free d)
  reference_free f d (location.Frame o) p = both (address_of (made_in d) (area_home f + o)) _ (address_free (made_in d) (area_home f + o) p) (keep_free d)
  reference_free f d (location.At x) p = move_free d (source_of f x) p
  reference_free f d (location.Indexed b y size) p = both (selected.indexed b (source_of f y) size) _ (indexed_free b (source_of f y) size) (p, keep_free d)

  counted_free : (d : Home) (x y : Source) (size : ℕ) → IsFree (made_in d) → FreesAll (counted d x y size)
  counted_free d x y size p =
      both (fetch 5 x) _ (fetch_free 5 x five) (both (fetch 6 y) _ (fetch_free 6 y six) (both (scale (register_of 6 y) size) _ (scale_free (register_of 6 y) size) (p, keep_free d)))

  element_free : (d : Home) (x y : Source) (size : ℕ) → IsFree (made_in d) → FreesAll (element d x y size)
  element_free d x (source.Register q) size p = either (q == 0) (move d x) (counted d x (source.Register q) size) (move_free d x p) (counted_free d x (source.Register q) size p)
  element_free d x (source.Frame o) size p = counted_free d x (source.Frame o) size p
  element_free d x (source.Constant v) size p =
      let bytes = source.Constant (v * size % 2 ^ 32) in
      both (fetch 5 x) _ (fetch_free 5 x five)
      (both (combine (operation.Machine register_op.Add) (made_in d) (register_of 5 x) bytes) (keep d)
      (combine_free (operation.Machine register_op.Add) (made_in d) (register_of 5 x) bytes p) (keep_free d))

  change_free : (by : ℕ) → FreesAll (change_sp by)
  change_free by = either (nat_lt ((by + 0x800) % 2 ^ 32) 0x1000) _ _ (low 2 (omega arith), tt) (long_free 7 by seven, (low 2 (omega arith), tt))

  saves_free : (f : Function) (k : ℕ) → FreesAll (saves f k)
  saves_free f zero = tt
  saves_free f (suc k) = both (saves f k) _ (saves_free f k) (store_word_free (kept k) (cell_home f k))

  restores_free : (f : Function) (k : ℕ) → FreesAll (restores f k)
  restores_free f zero = tt
  restores_free f (suc k) = both (restores f k) _ (restores_free f k) (load_word_free (kept k) (cell_home f k) (kept_free k))

  entry_free : (f : Function) → FreesAll (entry f)
  entry_free f =
      both (change_sp (2 ^ 32 - frame_bytes f)) _ (change_free (2 ^ 32 - frame_bytes f))
      (both (keep_return f) _ (either (calls f.code) _ _ (store_word_free 1 (return_home f)) tt) (saves_free f f.resident))

  leave_free : (f : Function) → FreesAll (leave f)
  leave_free f =
      both (restores f f.resident) _ (restores_free f f.resident)
      (both (take_return f) _ (either (calls f.code) _ _ (load_word_free 1 (return_home f) (low 1 (omega arith))) tt)
      (both (change_sp (frame_bytes f)) _ (change_free (frame_bytes f)) (low 0 (omega arith), tt)))

  put_free : (f : Function) → FreesAll (put_byte f)
  put_free f =
      both (address_of 11 (byte_home f)) _ (address_free 11 (byte_home f) (high 11 (omega arith)))
      (tt, (high 10 (omega arith), (high 12 (omega arith), (high 17 (omega arith), (tt, (high 10 (omega arith), (tt, (high 10 (omega arith), (high 17 (omega arith), (tt, tt))))))))))

  get_free : (f : Function) → FreesAll (get_byte f)
  get_free f =
      both (address_of 11 (byte_home f)) _ (address_free 11 (byte_home f) (high 11 (omega arith)))
      (high 10 (omega arith), (high 12 (omega arith), (high 17 (omega arith), (tt, (high 11 (omega arith), (high 10 (omega arith), (high 10 (omega arith), (high 10 (omega arith), (high 10 (omega arith), tt)))))))))

  module _ (f : Function) (first : ℕ) where
    items_free : (x : Instruction) → FreesAll (items_of f first x)
    items_free instruction.Nothing = tt
    items_free (instruction.Move d x) = move_free (home_of f d) (source_of f x) (home_free f d)
    items_free (instruction.Compute o d x y) =
        both (fetch 5 (source_of f x)) _ (fetch_free 5 (source_of f x) five)
        (both (combine o (made_in (home_of f d)) (register_of 5 (source_of f x)) (source_of f y)) _ (combine_free o _ _ (source_of f y) (home_free f d)) (keep_free (home_of f d)))
    items_free (instruction.Convert c d x) =
        both (fetch 5 (source_of f x)) _ (fetch_free 5 (source_of f x) five)
        (both (narrow c (made_in (home_of f d)) (register_of 5 (source_of f x))) _ (narrow_free c _ _ (home_free f d)) (keep_free (home_of f d)))
    items_free (instruction.Load w d l) = both (reach f l) _ (reach_free f l) (home_free f d, keep_free (home_of f d))
    items_free (instruction.Store w x l) =
        both (fetch 5 (source_of f x)) _ (fetch_free 5 (source_of f x) five) (both (reach f l) _ (reach_free f l) (tt, tt))
    items_free (instruction.Address d l) = reference_free f (home_of f d) l (home_free f d)
    items_free (instruction.Element d x y size) = element_free (home_of f d) (source_of f x) (source_of f y) size (home_free f d)
    items_free (instruction.Jump to) = (tt, tt)
    items_free (instruction.Branch t x y to) =
        both (fetch 5 (source_of f x)) _ (fetch_free 5 (source_of f x) five) (both (fetch 6 (source_of f y)) _ (fetch_free 6 (source_of f y) six) (tt, tt))
    items_free (instruction.Call k) = (tt, tt)
    items_free instruction.PutByte = put_free f
    items_free instruction.GetByte = get_free f
    items_free instruction.Exit = (high 17 (omega arith), (tt, tt))
    items_free instruction.Return = leave_free f

    code_free : (k : ℕ) (xs : List Instruction) → FreesAll (code_items f first k xs)
    code_free k [] = (tt, tt)
    code_free k (x ∷ xs) = (tt, both (items_of f first (shortened f.code k x)) _ (items_free (shortened f.code k x)) (code_free (k + 1) xs))

  functions_free : (k first : ℕ) (fs : List Function) → FreesAll (functions_items k first fs)
  functions_free k first [] = tt
  functions_free k first (f ∷ fs) =
      both (function_items k first f) _ (tt, both (entry f) _ (entry_free f) (code_free f first 0 f.code)) (functions_free (k + 1) (first + (length f.code + 1)) fs)

  nearer_free : (x : Item) → FreesItem x → FreesItem (nearer x)
  nearer_free (item.Mark l) f = f
  nearer_free (item.Plain i) f = f
  nearer_free (item.Branch t l r to) f = f
  nearer_free (item.Jump to) f = f
  nearer_free (item.Call to) f = f
  nearer_free (item.NearCall to) f = f
  nearer_free (item.Constant rd v) f = f
  nearer_free (item.LabelAddress rd l) f = f
  nearer_free (item.DataAddress rd o) f = f

  all_nearer_free : (xs : List Item) → FreesAll xs → FreesAll (map nearer xs)
  all_nearer_free [] f = f
  all_nearer_free (x ∷ xs) f = (nearer_free x f.0, all_nearer_free xs f.1)

  shortened_free : (near : Bool) (xs : List Item) → FreesAll xs → FreesAll (shorten_calls near xs)
  shortened_free true xs f = all_nearer_free xs f
  shortened_free false xs f = f

  rest_free : (p : Program) → FreesAll (rest_items p)
  rest_free p = (tt, (high 17 (omega arith), (tt, shortened_free (calls_are_near p) (functions_items 0 (length p.functions) p.functions) (functions_free 0 (length p.functions) p.functions))))

  -- ---- the text

  module _ (T : ℕ → Option Instr) (env : ℕ → ℕ) (seg : ℕ) where
    one_word : (a x : ℕ) (i k : Instr) → T a ≡ Some i → Frees i → a ≡ x → T x ≡ Some k → Frees k
    one_word a x i k t f e u =
        let both_are : Some i ≡ Some k = sym t ∙ (ap T e ∙ u) in
        let same : i ≡ k = cc in
        subst Frees same f

    -- at the first word, or after it
    word_if : (a x : ℕ) (i k : Instr) → T a ≡ Some i → (a ≡ x → Frees i) → a % 4 ≡ 0 → x % 4 ≡ 0 → a ≤ x → T x ≡ Some k → (a + 4 ≤ x → Frees k) → Frees k
    word_if a x i k t f al ax le u more =
        ⊎_elim (λ lt. more (omega (arith, lt, al, ax))) (λ ge. let same : a ≡ x = omega (arith, ge, le) in one_word a x i k t (f same) same u) (cases_lt a x)

    word : (a x : ℕ) (i k : Instr) → T a ≡ Some i → Frees i → a % 4 ≡ 0 → x % 4 ≡ 0 → a ≤ x → T x ≡ Some k → (a + 4 ≤ x → Frees k) → Frees k
    word a x i k t f al ax le u more = word_if a x i k t (λ e. f) al ax le u more

    text_free : (xs : List Item) (a e : ℕ) → FreesAll xs → Stands T env seg xs a e → a % 4 ≡ 0 → (x : ℕ) → x % 4 ≡ 0 → a ≤ x → x < e → (k : Instr) → T x ≡ Some k → Frees k
    text_free [] a e f st al x ax le lt k u = absurd (omega (arith, st, le, lt))
    text_free (item.Mark l ∷ xs) a e f st al x ax le lt k u =
        text_free xs st.0 e f.1 st.2 (omega (arith, st.1.1, al)) x ax (omega (arith, st.1.1, le)) lt k u
    text_free (item.Plain i ∷ xs) a e f st al x ax le lt k u =
        word a x i k st.1.0 f.0 al ax le u (λ on. text_free xs st.0 e f.1 st.2 (omega (arith, st.1.1, al)) x ax (omega (arith, st.1.1, on)) lt k u)
    text_free (item.Branch t l r to ∷ xs) a e f st al x ax le lt k u =
        elim st.1 [
          | inl s ↦ word a x _ k s.at tt al ax le u (λ on. text_free xs st.0 e f.1 st.2 (omega (arith, s.next_is, al)) x ax (omega (arith, s.next_is, on)) lt k u)
          | inr s ↦ word a x _ k s.at tt al ax le u (λ on.
              word (a + 4) x _ k s.jump (low 0 (omega arith)) (omega (arith, al)) ax on u (λ past. text_free xs st.0 e f.1 st.2 (omega (arith, s.next_is, al)) x ax (omega (arith, s.next_is, past)) lt k u))
        ]
    text_free (item.Jump to ∷ xs) a e f st al x ax le lt k u =
        word a x _ k st.1.at (low 0 (omega arith)) al ax le u (λ on. text_free xs st.0 e f.1 st.2 (omega (arith, st.1.next_is, al)) x ax (omega (arith, st.1.next_is, on)) lt k u)
    text_free (item.Call to ∷ xs) a e f st al x ax le lt k u =
        word a x _ k st.1.first (low 1 (omega arith)) al ax le u (λ on.
        word (a + 4) x _ k st.1.second (low 1 (omega arith)) (omega (arith, al)) ax on u (λ past. text_free xs st.0 e f.1 st.2 (omega (arith, st.1.next_is, al)) x ax (omega (arith, st.1.next_is, past)) lt k u))
    text_free (item.NearCall to ∷ xs) a e f st al x ax le lt k u =
        word a x _ k st.1.at (low 1 (omega arith)) al ax le u (λ on. text_free xs st.0 e f.1 st.2 (omega (arith, st.1.next_is, al)) x ax (omega (arith, st.1.next_is, on)) lt k u)
    text_free (item.Constant rd v ∷ xs) a e f st al x ax le lt k u =
        word a x _ k st.1.first f.0 al ax le u (λ on.
        word (a + 4) x _ k st.1.second f.0 (omega (arith, al)) ax on u (λ past. text_free xs st.0 e f.1 st.2 (omega (arith, st.1.next_is, al)) x ax (omega (arith, st.1.next_is, past)) lt k u))
    text_free (item.LabelAddress rd l ∷ xs) a e f st al x ax le lt k u =
        word a x _ k st.1.first f.0 al ax le u (λ on.
        word (a + 4) x _ k st.1.second f.0 (omega (arith, al)) ax on u (λ past. text_free xs st.0 e f.1 st.2 (omega (arith, st.1.next_is, al)) x ax (omega (arith, st.1.next_is, past)) lt k u))
    text_free (item.DataAddress rd o ∷ xs) a e f st al x ax le lt k u =
        word a x _ k st.1.first f.0 al ax le u (λ on.
        word (a + 4) x _ k st.1.second f.0 (omega (arith, al)) ax on u (λ past. text_free xs st.0 e f.1 st.2 (omega (arith, st.1.next_is, al)) x ax (omega (arith, st.1.next_is, past)) lt k u))

    -- in a whole program, where the two instructions that set gp do not write the register, or are elsewhere
    program_free : (p : Program) (a e : ℕ) → Stands T env seg (program_items p) a e → a % 4 ≡ 0 → (x : ℕ) → x % 4 ≡ 0 → a ≤ x → x < e → (k : Instr) → T x ≡ Some k → ((x ≡ a + 8) ⊎ (x ≡ a + 12) → IsFree 3) → Frees k
    program_free p a e st al x ax le lt k u off =
        let b = st.0 in
        let c = st.2.0 in
        let one = st.1 in
        let two = st.2.1 in
        word a x _ k one.first (low 2 (omega arith)) al ax le u (λ on.
        word (a + 4) x _ k one.second (low 2 (omega arith)) (omega (arith, al)) ax on u (λ past.
        word_if b x _ k two.first (λ same. off (inl (omega (arith, same, one.next_is)))) (omega (arith, one.next_is, al)) ax (omega (arith, one.next_is, past)) u (λ second.
        word_if (b + 4) x _ k two.second (λ same. off (inr (omega (arith, same, one.next_is)))) (omega (arith, one.next_is, al)) ax second u (λ after.
        text_free (rest_items p) c e (rest_free p) st.2.2 (omega (arith, two.next_is, one.next_is, al)) x ax (omega (arith, two.next_is, after)) lt k u))))

  module _ (held : ℕ) where
    -- ---- a step, where the register has this value before it

    abbrev Keeps : Machine → Type 0
    Keeps m = slice_index m.registers g ≡ held

    set_other : (list : List ℕ) (rd r v : ℕ) → (rd ≡ r → ⊥) → slice_index (with_register list rd v) r ≡ slice_index list r
    set_other list rd r v ne = on_zero (rd == 0)
      where
        on_zero : (t : Bool) → slice_index (if t then list else slice_set list rd v) r ≡ slice_index list r
        on_zero true = refl
        on_zero false = get_or-set_other list rd r v 0 (λ e. ne (sym e))

    with_free : (list : List ℕ) (rd v : ℕ) → IsFree rd → slice_index list g ≡ held → slice_index (with_register list rd v) g ≡ held
    with_free list rd v f h = set_other list rd g v f ∙ h

    gives_free : (m : Machine) (rd v : ℕ) → IsFree rd → Keeps m → Keeps (gives m rd v).machine
    unfolding gives
    gives_free m rd v f h = with_free m.registers rd v f h

    jumps_either : (t : Bool) (m n : Machine) → Keeps n → Keeps m → Keeps (if t then record { machine = n; result = Went } else trapped m cause.Target).machine
    jumps_either true m n h k = h
    jumps_either false m n h k = k

    jumps_free : (m : Machine) (a : ℕ) → Keeps m → Keeps (jumps m a).machine
    unfolding jumps
    jumps_free m a h = jumps_either (a % 4 == 0) m _ h h

    links_free : (m : Machine) (rd a : ℕ) → IsFree rd → Keeps m → Keeps (links m rd a).machine
    unfolding links
    links_free m rd a f h = jumps_either (a % 4 == 0) m (record { registers = with_register m.registers rd (next m); pc = a; space = m.space }) (with_free m.registers rd (next m) f h) h

    loaded_free : (m : Machine) (rd : ℕ) (o : Option ℕ) → IsFree rd → Keeps m → Keeps (loaded m rd o).machine
    loaded_free m rd None f h = h
    loaded_free m rd (Some v) f h = gives_free m rd v f h

    stored_free : (m : Machine) (t : Bool) (put : ℕ → ℕ → ℕ) → Keeps m → Keeps (stored m t put).machine
    unfolding stored
    stored_free m true put h = h
    stored_free m false put h = h

    step_either : (t : Bool) (s u : Stepped) → Keeps s.machine → Keeps u.machine → Keeps (if t then s else u).machine
    step_either true s u h k = h
    step_either false s u h k = k

    load_free : (m : Machine) (kind : LoadKind) (rd a : ℕ) → IsFree rd → Keeps m → Keeps (load_of m kind rd a).machine
    load_free m load_kind.Byte rd a f h = loaded_free m rd _ f h
    load_free m load_kind.ByteUnsigned rd a f h = loaded_free m rd _ f h
    load_free m load_kind.Half rd a f h = step_either (a % 2 == 0) _ _ (loaded_free m rd _ f h) h
    load_free m load_kind.HalfUnsigned rd a f h = step_either (a % 2 == 0) _ _ (loaded_free m rd _ f h) h
    load_free m load_kind.Word rd a f h = step_either (a % 4 == 0) _ _ (loaded_free m rd _ f h) h

    store_free : (m : Machine) (kind : StoreKind) (a v : ℕ) → Keeps m → Keeps (store_of m kind a v).machine
    store_free m store_kind.Byte a v h = stored_free m _ _ h
    store_free m store_kind.Half a v h = step_either (a % 2 == 0) _ _ (stored_free m _ _ h) h
    store_free m store_kind.Word a v h = step_either (a % 4 == 0) _ _ (stored_free m _ _ h) h

    execute_free : (m : Machine) (i : Instr) → Frees i → Keeps m → Keeps (execute_of m i).machine
    execute_free m (Lui rd v) f h = gives_free m rd _ f h
    execute_free m (Auipc rd v) f h = gives_free m rd _ f h
    execute_free m (Jal rd v) f h = links_free m rd _ f h
    execute_free m (Jalr rd base v) f h = links_free m rd _ f h
    execute_free m (Branch b l r v) f h = jumps_free m _ h
    execute_free m (Load kind rd base v) f h = load_free m kind rd _ f h
    execute_free m (Store kind r base v) f h = store_free m kind _ _ h
    execute_free m (Immediate o rd l v) f h = gives_free m rd _ f h
    execute_free m (Shift o rd l k) f h = gives_free m rd _ f h
    execute_free m (Op o rd l r) f h = gives_free m rd _ f h
    execute_free m (Fence rd s v) f h = h
    execute_free m Ecall f h = h
    execute_free m Ebreak f h = h

    decoded_free : (m : Machine) (o : Option Instr) → ((i : Instr) → o ≡ Some i → Frees i) → Keeps m → Keeps (decoded m o).machine
    decoded_free m None f h = h
    decoded_free m (Some i) f h = execute_free m i (f i refl) h

    fetch_either : (m : Machine) (t : Bool) (x : ℕ) → ((i : Instr) → decode_of x ≡ Some i → Frees i) → Keeps m → Keeps (fetched m (if t then Some x else None)).machine
    fetch_either m true x f h = decoded_free m (decode_of x) f h
    fetch_either m false x f h = h

    -- if the instruction at the pc writes neither
    step_free : (m : Machine) → ((i : Instr) → instruction_at m ≡ Some i → Frees i) → Keeps m → Keeps (step_of m).machine
    step_free m f h = step_either (m.pc % 4 == 0) _ _ (fetch_either m (all_four m.space.can_execute m.pc) (word_at m.space.byte m.pc) f h) h

    -- ---- an environment call

    abbrev KeepsIn : Progress → Type 0
    KeepsIn x = Keeps (world_of x).machine

    if_free : (t : Bool) (x y : Progress) → KeepsIn x → KeepsIn y → KeepsIn (if t then x else y)
    if_free true x y h k = h
    if_free false x y h k = k

    answered_free : (m : Machine) (n : ℕ) → Keeps m → Keeps (answered m n)
    unfolding answered
    answered_free m n h = with_free m.registers 10 n (high 10 (omega arith)) h

    gets_free : (w : World) (xs : List ℕ) (a : ℕ) → Keeps w.machine → KeepsIn (gets w xs a)
    gets_free w [] a h = answered_free w.machine 0 h
    gets_free w (x ∷ xs) a h = answered_free (with_space w.machine _) 1 h

    call_free : (w : World) → Keeps w.machine → KeepsIn (call_of w)
    call_free w h =
        let m = w.machine in
        let a = register m 11 in
        let is_read = register m 17 == 63 && (register m 10 == 0 && register m 12 == 1) in
        let is_write = register m 17 == 64 && (register m 10 == 1 && register m 12 == 1) in
        let last = if is_write then (if m.space.can_read a then puts w a else Trapped cause.LoadFault w) else Trapped cause.BadCall w in
        if_free (register m 17 == 93) (Ended (register m 10 % 2 ^ 8) w) (if is_read then (if m.space.can_write a then gets w w.input a else Trapped cause.StoreFault w) else last) h
        (if_free is_read (if m.space.can_write a then gets w w.input a else Trapped cause.StoreFault w) last
        (if_free (m.space.can_write a) (gets w w.input a) (Trapped cause.StoreFault w) (gets_free w w.input a h) h)
        (if_free is_write (if m.space.can_read a then puts w a else Trapped cause.LoadFault w) (Trapped cause.BadCall w)
        (if_free (m.space.can_read a) (puts w a) (Trapped cause.LoadFault w) (answered_free m 1 h) h) h))

    result_free : (w : World) (m : Machine) (r : StepResult) → Keeps w.machine → Keeps m → KeepsIn (result_of w m r)
    result_free w m Went h k = k
    result_free w m Called h k = call_free w h
    result_free w m (Trap c) h k = h

    tick_free : (w : World) → ((i : Instr) → instruction_at w.machine ≡ Some i → Frees i) → Keeps w.machine → KeepsIn (tick_of w)
    unfolding tick_of
    tick_free w f h = let s = step_of w.machine in result_free w s.machine s.result h (step_free w.machine f h)

-- ---- a file

module _ (p : Program) (parts : Parts) (q : IsImageOf p parts) (input : List ℕ) where
  abbrev begin : World
  begin = start_world (program_image parts) input

  abbrev first_bytes : ℕ → ℕ
  first_bytes = (program_space parts).byte

  -- a step that does not trap begins at a multiple of 4
  aligned_if : (m : Machine) (t : Bool) (s : Stepped) → NoTrap (if t then s else trapped m cause.Target) → t ≡ true
  aligned_if m true s h = refl
  aligned_if m false s h = absurd (h cause.Target refl)

  text_at : (x : ℕ) → x % 4 ≡ 0 → all_four (program_space parts).can_execute x ≡ true → (whole.F p parts q).text x ≡ decode_of (word_at first_bytes x)
  text_at x al e = let t : (x % 4 == 0) ≡ true = rw al refl in rw (t, e) refl

  same_word : (b : ℕ → ℕ) (x : ℕ) → ((a : ℕ) → (program_space parts).can_execute a ≡ true → b a ≡ first_bytes a) → all_four (program_space parts).can_execute x ≡ true → word_at first_bytes x ≡ word_at b x
  same_word b x same e =
      let p3 = and_right _ _ e in
      let r = and_left _ _ e in
      let p2 = and_right _ _ r in
      let r2 = and_left _ _ r in
      let p1 = and_right _ _ r2 in
      let p0 = and_left _ _ r2 in
      rw (same x p0, same (x + 1) p1, same (x + 2) p2, same (x + 3) p3) refl

  in_text : (x : ℕ) → all_four (program_space parts).can_execute x ≡ true → (text_start ≤ x) × (x < text_start + length parts.text)
  unfolding program_space
  in_text x e =
      let r = and_left _ _ e in
      let r2 = and_left _ _ r in
      within_low text_start (length parts.text) x (and_left _ _ r2)

  -- if the run goes on, the word at the pc is one of the text's
  free_at : (g : ℕ) (above : 2 < g) (below : g < 5) (k : ℕ) (v u : World) → rvrun k begin ≡ Running v → tick_of v ≡ Running u → (SetsGp v.machine.pc → IsFree g above below 3) → (i : Instr) → instruction_at v.machine ≡ Some i → Frees g above below i
  free_at g above below k v u e t off i at =
      let m = v.machine in
      let never : (c : Cause) (x : World) → tick_of v ≡ Trapped c x → ⊥ = λ c x traps. let both_are = sym t ∙ traps in cc in
      let now = inside_now v never in
      let keeps = subst (λ x. Permits (program_space parts) (world_of x).machine.space) e (run_permits k begin) in
      let executes = kept_four (program_space parts).can_execute m.space.can_execute keeps.can_execute m.pc now.fetches in
      let tested = aligned_if m (m.pc % 4 == 0) _ (step_traps_not v never) in
      let al : m.pc % 4 ≡ 0 = grind (arith, nat_tests) in
      let bytes : (a : ℕ) → (program_space parts).can_execute a ≡ true → m.space.byte a ≡ first_bytes a = λ a yes. keeps.bytes a (text_apart p parts q a yes) in
      let here : (whole.F p parts q).text m.pc ≡ Some i = text_at m.pc al executes ∙ (ap decode_of (same_word m.space.byte m.pc bytes executes) ∙ at) in
      let within = in_text m.pc executes in
      program_free g above below (whole.F p parts q).text q.assembled.env (whole.data_at p parts q) p text_start (whole.past_text p parts q) (whole.laid p parts q).stands refl m.pc al within.0 within.1 i here off

  zero_register : (r : ℕ) → r < 32 → slice_index (replicate 32 0) r ≡ 0
  zero_register r lt = get_or-replicate {A = ℕ} 32 r 0 0 lt

  ticks : (k : ℕ) (w u : World) → rvrun k begin ≡ Running w → rvrun (suc k) begin ≡ Running u → tick_of w ≡ Running u
  ticks k w u e f = let one_more : suc k ≡ k + 1 = omega arith in sym (rvrun_more k begin w e) ∙ (ap (λ j. rvrun j begin) (sym one_more) ∙ f)

  tp_is_zero : (k : ℕ) (v : World) → rvrun k begin ≡ Running v → register v.machine 4 ≡ 0
  tp_is_zero zero v e = subst (KeepsIn 4 (omega arith) (omega arith) 0) e (zero_register 4 (omega arith))
  tp_is_zero (suc k) v e =
      let from = goes_before k (suc k) begin v (omega arith) e in
      let ticked = ticks k from.0 v from.1 e in
      subst (KeepsIn 4 (omega arith) (omega arith) 0) ticked (tick_free 4 (omega arith) (omega arith) 0 from.0 (free_at 4 (omega arith) (omega arith) k from.0 v from.1 ticked (λ sets same. omega (arith, same))) (tp_is_zero k from.0 from.1))

  gp_stays : (k : ℕ) (w u : World) → rvrun k begin ≡ Running w → rvrun (suc k) begin ≡ Running u → (SetsGp w.machine.pc → ⊥) → register u.machine 3 ≡ register w.machine 3
  gp_stays k w u e f elsewhere =
      let ticked = ticks k w u e f in
      let held = register w.machine 3 in
      subst (KeepsIn 3 (omega arith) (omega arith) held) ticked (tick_free 3 (omega arith) (omega arith) held w (free_at 3 (omega arith) (omega arith) k w u e ticked (λ sets. absurd (elsewhere sets))) refl)

pub files_leave_reserved : FilesLeaveReserved
files_leave_reserved stack p file frames made =
    let image = program_image made.parts in (
      image,
      subst (λ f. file_image f ≡ Ok image) (sym made.file_is) (written_image made.parts made.image_is.size made.image_is.stack.2),
      λ input k w e. (tp_is_zero made.code made.parts made.image_is input k w e, λ u f elsewhere. gp_stays made.code made.parts made.image_is input k w u e f elsewhere),
    )
