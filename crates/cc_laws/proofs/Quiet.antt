-- Items that do not change the stack pointer, and go on from each word to the next.
use Rattle.std.proofs.Common.{◌≡◌, ◌<◌, ℕ, zero, suc, ◌+◌, ◌-◌, ◌*◌, ◌%◌, ◌^◌, List, [], ◌∷◌, ◌++◌, Bool, true, false, Option, Some, None, refl, subst, arith}
use Rattle.std.specs.Prelude.{◌==◌, if◌then◌else◌, nat_lt}
use Rattle.std.proofs.lemmas.List.Sums.{sum_by-append}
use Rattle.rv32.specs.declared.instr.Instr.{Instr}
use Rattle.rv32.specs.declared.instr.Instr.TheVariants.{Lui, Auipc, Jal, Jalr, Branch, Load, Store, Immediate, Shift, Op, Fence, Ecall, Ebreak}
use Rattle.rv32.specs.declared.instr.ImmediateOp.{ImmediateOp}
use Rattle.rv32.specs.declared.instr.ImmediateOp.TheVariants as immediate_op
use Rattle.rv32.specs.declared.instr.RegisterOp.{RegisterOp}
use Rattle.rv32.specs.declared.instr.RegisterOp.TheVariants as register_op
use Rattle.asm.specs.declared.item.Item.{Item}
use Rattle.asm.specs.declared.item.Item.TheVariants as item
use Rattle.asm.specs.Layout.{size, longest}
use Rattle.asm.specs.Placed.{Loads}
use Rattle.select_exec.specs.Standing.{Stands}
use Rattle.frames_code.specs.declared.code.Base.{Base}
use Rattle.frames_code.specs.declared.code.Location.{Location}
use Rattle.frames_code.specs.declared.code.Location.TheVariants as location
use Rattle.frames_code.specs.declared.code.Operation.{Operation}
use Rattle.frames_code.specs.declared.code.Operation.TheVariants as operation
use Rattle.frames_code.specs.declared.code.Conversion.{Conversion}
use Rattle.frames_code.specs.declared.code.Conversion.TheVariants as conversion
use Rattle.frames_code.specs.declared.code.Target.{Target}
use Rattle.frames_code.specs.declared.code.Target.TheVariants as target
use Rattle.frames_code.specs.Code.{Function, cell_home, area_home}
use Rattle.select.specs.declared.places.Source.{Source}
use Rattle.select.specs.declared.places.Source.TheVariants as source
use Rattle.select.specs.declared.places.Home.{Home}
use Rattle.select.specs.declared.places.Home.TheVariants as home
use Rattle.select.specs.Selected as selected
use Rattle.select.specs.Selected.{is_near_gp, source_of, home_of, fetch, into, keep, made_in, register_of, load_constant, far, load_word, store_word, address_of, move, ending, operate, form_or, combine, narrow, reach, reference, log2_of, shift_or_multiply, scale, counted, element, change_sp, saves, restores, calls, keep_return, take_return, return_home, byte_home, set_to, kept}

-- ---- words from an address on

-- the word at x is an instruction of which this holds
abbrev pub Word : (Instr → Type 0) → (ℕ → Option Instr) → ℕ → Type 0
Word Q T x = (k : Instr) × (T x ≡ Some k) × Q k

abbrev pub Words : (Instr → Type 0) → (ℕ → Option Instr) → (a n : ℕ) → Type 0
Words Q T a n = (m : ℕ) → m < n → Word Q T (a + 4 * m)

-- of each form that an item may take; a jump is not covered
abbrev pub OfItem : (Instr → Type 0) → Item → Type 0
OfItem Q (item.Mark l) = Unit {0}
OfItem Q (item.Plain i) = Q i
OfItem Q (item.Branch t l r to) = ⊥
OfItem Q (item.Jump to) = ⊥
OfItem Q (item.Call to) = ⊥
OfItem Q (item.NearCall to) = ⊥
OfItem Q (item.Constant rd v) = ((h : ℕ) → Q (Lui rd h)) × ((l : ℕ) → Q (Immediate immediate_op.Add rd rd l))
OfItem Q (item.LabelAddress rd l) = ((h : ℕ) → Q (Lui rd h)) × ((l : ℕ) → Q (Immediate immediate_op.Add rd rd l))
OfItem Q (item.DataAddress rd o) = ((h : ℕ) → Q (Lui rd h)) × ((l : ℕ) → Q (Immediate immediate_op.Add rd rd l))

abbrev pub OfAll : (Instr → Type 0) → List Item → Type 0
OfAll Q [] = Unit {0}
OfAll Q (x ∷ xs) = OfItem Q x × OfAll Q xs

-- items with this property are words with this property
pub record AreWords (Q : Instr → Type 0) (T : ℕ → Option Instr) (xs : List Item) (a e : ℕ) : Type 0 where
  pub count : ℕ
  pub length_is : longest xs ≡ 4 * count
  pub end_is : e ≡ a + 4 * count
  pub each : Words Q T a count

module _ (Q : Instr → Type 0) where
  pub both : (xs ys : List Item) → OfAll Q xs → OfAll Q ys → OfAll Q (xs ++ ys)
  both [] ys p q = q
  both (x ∷ xs) ys p q = (p.0, both xs ys p.1 q)

  pub either : (t : Bool) (xs ys : List Item) → OfAll Q xs → OfAll Q ys → OfAll Q (if t then xs else ys)
  either true xs ys p q = p
  either false xs ys p q = q

  pub one_of : (t : Bool) (x y : Item) → OfItem Q x → OfItem Q y → OfItem Q (if t then x else y)
  one_of true x y p q = p
  one_of false x y p q = q

module _ (Q : Instr → Type 0) (T : ℕ → Option Instr) where
  one_more : (a b n : ℕ) → b ≡ a + 4 → Word Q T a → Words Q T b n → Words Q T a (suc n)
  one_more a b n e w ws zero lt = let here : a ≡ a + 4 * zero = omega arith in subst (Word Q T) here w
  one_more a b n e w ws (suc m) lt = let there : b + 4 * m ≡ a + 4 * suc m = omega (arith, e) in subst (Word Q T) there (ws m (omega (arith, lt)))

  from_here : (x : Item) (xs : List Item) (a b e : ℕ) → size true x ≡ 4 → b ≡ a + 4 → Word Q T a → AreWords Q T xs b e → AreWords Q T (x ∷ xs) a e
  from_here x xs a b e sz eb w ws =
      let sum : longest (x ∷ xs) ≡ longest (x ∷ []) + longest xs = sum_by-append (size true) (x ∷ []) xs in
      let one : longest (x ∷ []) ≡ size true x = omega arith in
      record {
        count = suc ws.count;
        length_is = omega (arith, sz, sum, one, ws.length_is);
        end_is = omega (arith, eb, ws.end_is);
        each = one_more a b ws.count eb w ws.each;
      }

  two_from_here : (x : Item) (xs : List Item) (a b e rd v : ℕ) → size true x ≡ 8 → Loads T a rd v b → ((h : ℕ) → Q (Lui rd h)) → ((l : ℕ) → Q (Immediate immediate_op.Add rd rd l)) → AreWords Q T xs b e → AreWords Q T (x ∷ xs) a e
  two_from_here x xs a b e rd v sz q lui add ws =
      let next : b ≡ a + 4 + 4 = omega (arith, q.next_is) in
      let sum : longest (x ∷ xs) ≡ longest (x ∷ []) + longest xs = sum_by-append (size true) (x ∷ []) xs in
      let one : longest (x ∷ []) ≡ size true x = omega arith in
      record {
        count = suc (suc ws.count);
        length_is = omega (arith, sz, sum, one, ws.length_is);
        end_is = omega (arith, q.next_is, ws.end_is);
        each = one_more a (a + 4) (suc ws.count) refl (Lui rd q.high, q.first, lui q.high) (one_more (a + 4) b ws.count next (Immediate immediate_op.Add rd rd q.low, q.second, add q.low) ws.each);
      }

  pub words : (env : ℕ → ℕ) (seg : ℕ) (xs : List Item) (a e : ℕ) → OfAll Q xs → Stands T env seg xs a e → AreWords Q T xs a e
  words env seg [] a e all st = record { count = 0; length_is = refl; end_is = omega (arith, st); each = λ m lt. absurd (omega (arith, lt)) }
  words env seg (item.Mark l ∷ xs) a e all st =
      let ws = words env seg xs st.0 e all.1 st.2 in
      let same : st.0 ≡ a = st.1.1 in
      record { count = ws.count; length_is = ws.length_is; end_is = omega (arith, same, ws.end_is); each = λ m lt. subst (λ z. Word Q T (z + 4 * m)) same (ws.each m lt) }
  words env seg (item.Plain i ∷ xs) a e all st = from_here (item.Plain i) xs a st.0 e refl st.1.1 (i, st.1.0, all.0) (words env seg xs st.0 e all.1 st.2)
  words env seg (item.Branch t l r to ∷ xs) a e all st = absurd all.0
  words env seg (item.Jump to ∷ xs) a e all st = absurd all.0
  words env seg (item.Call to ∷ xs) a e all st = absurd all.0
  words env seg (item.NearCall to ∷ xs) a e all st = absurd all.0
  words env seg (item.Constant rd v ∷ xs) a e all st = two_from_here (item.Constant rd v) xs a st.0 e rd v refl st.1 all.0.0 all.0.1 (words env seg xs st.0 e all.1 st.2)
  words env seg (item.LabelAddress rd l ∷ xs) a e all st = two_from_here (item.LabelAddress rd l) xs a st.0 e rd (env l) refl st.1 all.0.0 all.0.1 (words env seg xs st.0 e all.1 st.2)
  words env seg (item.DataAddress rd o ∷ xs) a e all st = two_from_here (item.DataAddress rd o) xs a st.0 e rd (seg + o) refl st.1 all.0.0 all.0.1 (words env seg xs st.0 e all.1 st.2)

-- ---- instructions

-- it goes on to the next word, or ends the run, and does not write sp
abbrev pub IsOff : ℕ → Type 0
IsOff rd = rd ≡ 2 → ⊥

abbrev pub IsQuiet : Instr → Type 0
IsQuiet (Lui rd v) = IsOff rd
IsQuiet (Auipc rd v) = IsOff rd
IsQuiet (Jal rd v) = ⊥
IsQuiet (Jalr rd base v) = ⊥
IsQuiet (Branch t l r v) = ⊥
IsQuiet (Load kind rd base v) = IsOff rd
IsQuiet (Store kind r base v) = Unit {0}
IsQuiet (Immediate o rd l v) = IsOff rd
IsQuiet (Shift o rd l k) = IsOff rd
IsQuiet (Op o rd l r) = IsOff rd
IsQuiet (Fence rd s v) = Unit {0}
IsQuiet Ecall = Unit {0}
IsQuiet Ebreak = Unit {0}

-- it goes on to the next word, and only computes, possibly sp
abbrev pub IsBare : Instr → Type 0
IsBare (Lui rd v) = Unit {0}
IsBare (Auipc rd v) = ⊥
IsBare (Jal rd v) = ⊥
IsBare (Jalr rd base v) = ⊥
IsBare (Branch t l r v) = ⊥
IsBare (Load kind rd base v) = ⊥
IsBare (Store kind r base v) = ⊥
IsBare (Immediate o rd l v) = Unit {0}
IsBare (Shift o rd l k) = ⊥
IsBare (Op o rd l r) = Unit {0}
IsBare (Fence rd s v) = ⊥
IsBare Ecall = ⊥
IsBare Ebreak = ⊥

abbrev pub AreQuiet : List Item → Type 0
AreQuiet xs = OfAll IsQuiet xs

-- ---- what is selected

high : (rd : ℕ) → 2 < rd → IsOff rd
high rd lt e = omega (arith, lt, e)

one_off : IsOff 1
one_off e = omega (arith, e)

pub five : IsOff 5
five = high 5 (omega arith)

pub six : IsOff 6
six = high 6 (omega arith)

seven : IsOff 7
seven = high 7 (omega arith)

pub ten : IsOff 10
ten = high 10 (omega arith)

pub eleven : IsOff 11
eleven = high 11 (omega arith)

pub twelve : IsOff 12
twelve = high 12 (omega arith)

pub seventeen : IsOff 17
seventeen = high 17 (omega arith)

pick : (t : Bool) (a b : ℕ) → IsOff a → IsOff b → IsOff (if t then a else b)
pick true a b p q = p
pick false a b p q = q

kept_off : (j : ℕ) → IsOff (kept j)
kept_off j = pick (nat_lt j 2) (8 + j) (16 + j) (high (8 + j) (omega arith)) (high (16 + j) (omega arith))

pub quiet_both : (xs ys : List Item) → AreQuiet xs → AreQuiet ys → AreQuiet (xs ++ ys)
quiet_both xs ys p q = both IsQuiet xs ys p q

quiet_either : (t : Bool) (xs ys : List Item) → AreQuiet xs → AreQuiet ys → AreQuiet (if t then xs else ys)
quiet_either t xs ys p q = either IsQuiet t xs ys p q

quiet_one : (t : Bool) (x y : Item) → OfItem IsQuiet x → OfItem IsQuiet y → OfItem IsQuiet (if t then x else y)
quiet_one t x y p q = one_of IsQuiet t x y p q

far_quiet : (x o : ℕ) → IsOff x → AreQuiet (far x o)
far_quiet x o f = quiet_either (nat_lt o 0x800) [] _ tt (f, (f, tt))

load_word_quiet : (rd o : ℕ) → IsOff rd → AreQuiet (load_word rd o)
load_word_quiet rd o f = quiet_both (far rd o) _ (far_quiet rd o f) (f, tt)

store_word_quiet : (s o : ℕ) → AreQuiet (store_word s o)
store_word_quiet s o = quiet_both (far 7 o) _ (far_quiet 7 o seven) (tt, tt)

long_quiet : (rd v : ℕ) → IsOff rd → OfItem IsQuiet (load_constant rd v)
long_quiet rd v f = quiet_one (v % 0x1000 == 0) _ _ f (λ h. f, λ l. f)

address_quiet : (rd o : ℕ) → IsOff rd → AreQuiet (address_of rd o)
address_quiet rd o f = quiet_either (nat_lt o 0x800) _ _ (f, tt) (long_quiet rd o f, (f, tt))

set_quiet : (rd v : ℕ) → IsOff rd → OfItem IsQuiet (set_to rd v)
set_quiet rd v f = quiet_one (nat_lt ((v + 0x800) % 2 ^ 32) 0x1000) _ _ f (long_quiet rd v f)

pub fetch_quiet : (x : ℕ) (s : Source) → IsOff x → AreQuiet (fetch x s)
fetch_quiet x (source.Register r) f = tt
fetch_quiet x (source.Frame o) f = load_word_quiet x o f
fetch_quiet x (source.Constant v) f = (set_quiet x v f, tt)

into_quiet : (rd : ℕ) (s : Source) → IsOff rd → AreQuiet (into rd s)
into_quiet rd (source.Register r) f = (f, tt)
into_quiet rd (source.Frame o) f = load_word_quiet rd o f
into_quiet rd (source.Constant v) f = (set_quiet rd v f, tt)

pub keep_quiet : (d : Home) → AreQuiet (keep d)
keep_quiet (home.Register r) = tt
keep_quiet (home.Frame o) = store_word_quiet 5 o

pub move_quiet : (d : Home) (s : Source) → IsOff (made_in d) → AreQuiet (move d s)
move_quiet (home.Register r) s f = into_quiet r s f
move_quiet (home.Frame o) s f = quiet_both (fetch 5 s) _ (fetch_quiet 5 s five) (store_word_quiet (register_of 5 s) o)

made_either : (t : Bool) (h i : Home) → IsOff (made_in h) → IsOff (made_in i) → IsOff (made_in (if t then h else i))
made_either true h i p q = p
made_either false h i p q = q

pub home_off : (f : Function) (d : Target) → IsOff (made_in (home_of f d))
home_off f (target.Temporary k) = made_either (nat_lt k 8) (home.Register (10 + k)) (home.Frame (4 * (k - 8))) (high (10 + k) (omega arith)) five
home_off f (target.Cell c) = made_either (nat_lt c f.resident) (home.Register (kept c)) (home.Frame (cell_home f c)) (kept_off c) five

ending_quiet : (o : Operation) (rd : ℕ) → IsOff rd → AreQuiet (ending o rd)
ending_quiet (operation.Machine o) rd f = tt
ending_quiet operation.Equal rd f = (f, tt)
ending_quiet operation.NotEqual rd f = (f, tt)

operate_quiet : (o : Operation) (rd a b : ℕ) → IsOff rd → AreQuiet (operate o rd a b)
operate_quiet o rd a b f = (f, ending_quiet o rd f)

abbrev QuietIf : Option Instr → Type 0
QuietIf None = Unit {0}
QuietIf (Some i) = IsQuiet i

short_either : (t : Bool) (i : Instr) → IsQuiet i → QuietIf (if t then Some i else None)
short_either true i f = f
short_either false i f = tt

short_quiet : (o : ImmediateOp) (rd a v : ℕ) → IsOff rd → QuietIf (selected.short_form o rd a v)
short_quiet o rd a v f = short_either (nat_lt ((v + 0x800) % 2 ^ 32) 0x1000) (Immediate o rd a v) f

constant_quiet : (o : RegisterOp) (rd a v : ℕ) → IsOff rd → QuietIf (selected.constant_form o rd a v)
constant_quiet register_op.Add rd a v f = short_quiet immediate_op.Add rd a v f
constant_quiet register_op.Sub rd a v f = short_quiet immediate_op.Add rd a _ f
constant_quiet register_op.ShiftLeft rd a v f = f
constant_quiet register_op.Less rd a v f = short_quiet immediate_op.Less rd a v f
constant_quiet register_op.LessUnsigned rd a v f = short_quiet immediate_op.LessUnsigned rd a v f
constant_quiet register_op.Xor rd a v f = short_quiet immediate_op.Xor rd a v f
constant_quiet register_op.ShiftRight rd a v f = f
constant_quiet register_op.ShiftRightArithmetic rd a v f = f
constant_quiet register_op.Or rd a v f = short_quiet immediate_op.Or rd a v f
constant_quiet register_op.And rd a v f = short_quiet immediate_op.And rd a v f
constant_quiet register_op.Mul rd a v f = tt
constant_quiet register_op.MulHigh rd a v f = tt
constant_quiet register_op.MulHighSignedUnsigned rd a v f = tt
constant_quiet register_op.MulHighUnsigned rd a v f = tt
constant_quiet register_op.Div rd a v f = tt
constant_quiet register_op.DivUnsigned rd a v f = tt
constant_quiet register_op.Rem rd a v f = tt
constant_quiet register_op.RemUnsigned rd a v f = tt

form_quiet : (t : Option Instr) (xs ys : List Item) → QuietIf t → AreQuiet xs → AreQuiet ys → AreQuiet (form_or t xs ys)
form_quiet (Some i) xs ys e p q = (e, p)
form_quiet None xs ys e p q = q

pub combine_quiet : (o : Operation) (rd x : ℕ) (y : Source) → IsOff rd → AreQuiet (combine o rd x y)
combine_quiet o rd x (source.Register r) f = operate_quiet o rd x r f
combine_quiet o rd x (source.Frame q) f = quiet_both (load_word 6 q) (operate o rd x 6) (load_word_quiet 6 q six) (operate_quiet o rd x 6 f)
combine_quiet o rd x (source.Constant v) f =
    form_quiet (selected.constant_form (selected.machine_of o) rd x v) (ending o rd) (set_to 6 v ∷ operate o rd x 6) (constant_quiet (selected.machine_of o) rd x v f) (ending_quiet o rd f)
    (set_quiet 6 v six, operate_quiet o rd x 6 f)

pub narrow_quiet : (c : Conversion) (rd x : ℕ) → IsOff rd → AreQuiet (narrow c rd x)
narrow_quiet conversion.ToByte rd x f = (f, tt)
narrow_quiet conversion.ToSignedByte rd x f = (f, (f, tt))
narrow_quiet conversion.ToHalf rd x f = (f, (f, tt))
narrow_quiet conversion.ToSignedHalf rd x f = (f, (f, tt))
narrow_quiet conversion.ToTruth rd x f = (f, tt)

product_quiet : (o : Option ℕ) (x n : ℕ) → AreQuiet (shift_or_multiply o x n)
product_quiet (Some k) x n = (six, tt)
product_quiet None x n = (set_quiet 7 n seven, (six, tt))

scale_quiet : (x n : ℕ) → AreQuiet (scale x n)
scale_quiet x n = quiet_either (n == 1) [] _ tt (product_quiet (log2_of n) x n)

indexed_quiet : (b : Base) (y : Source) (n : ℕ) → AreQuiet (selected.indexed b y n)
indexed_quiet b y n = quiet_both (fetch 6 y) _ (fetch_quiet 6 y six) (quiet_both (scale (register_of 6 y) n) _ (scale_quiet (register_of 6 y) n) (six, tt))

pub reach_quiet : (f : Function) (l : Location) → AreQuiet (reach f l)
reach_quiet f (location.Statics o) = quiet_either (is_near_gp o) [] _ tt ((λ h. six, λ l. six), tt)
reach_quiet f (location.Frame o) = far_quiet 6 (area_home f + o) six
reach_quiet f (location.At x) = fetch_quiet 6 (source_of f x) six
reach_quiet f (location.Indexed b y n) = indexed_quiet b (source_of f y) n

pub reference_quiet : (f : Function) (d : Home) (l : Location) → IsOff (made_in d) → AreQuiet (reference f d l)
reference_quiet f d (location.Statics o) g = (quiet_one (is_near_gp o) _ _ g (λ h. g, λ l. g), keep_quiet d)
reference_quiet f d (location.Frame o) g = quiet_both (address_of (made_in d) (area_home f + o)) _ (address_quiet (made_in d) (area_home f + o) g) (keep_quiet d)
reference_quiet f d (location.At x) g = move_quiet d (source_of f x) g
reference_quiet f d (location.Indexed b y n) g = quiet_both (selected.indexed b (source_of f y) n) _ (indexed_quiet b (source_of f y) n) (g, keep_quiet d)

counted_quiet : (d : Home) (x y : Source) (n : ℕ) → IsOff (made_in d) → AreQuiet (counted d x y n)
counted_quiet d x y n g =
    quiet_both (fetch 5 x) _ (fetch_quiet 5 x five) (quiet_both (fetch 6 y) _ (fetch_quiet 6 y six) (quiet_both (scale (register_of 6 y) n) _ (scale_quiet (register_of 6 y) n) (g, keep_quiet d)))

pub element_quiet : (d : Home) (x y : Source) (n : ℕ) → IsOff (made_in d) → AreQuiet (element d x y n)
element_quiet d x (source.Register q) n g = quiet_either (q == 0) (move d x) (counted d x (source.Register q) n) (move_quiet d x g) (counted_quiet d x (source.Register q) n g)
element_quiet d x (source.Frame o) n g = counted_quiet d x (source.Frame o) n g
element_quiet d x (source.Constant v) n g =
    let bytes = source.Constant (v * n % 2 ^ 32) in
    quiet_both (fetch 5 x) _ (fetch_quiet 5 x five)
    (quiet_both (combine (operation.Machine register_op.Add) (made_in d) (register_of 5 x) bytes) (keep d)
    (combine_quiet (operation.Machine register_op.Add) (made_in d) (register_of 5 x) bytes g) (keep_quiet d))

saves_quiet : (f : Function) (k : ℕ) → AreQuiet (saves f k)
saves_quiet f zero = tt
saves_quiet f (suc k) = quiet_both (saves f k) _ (saves_quiet f k) (store_word_quiet (kept k) (cell_home f k))

restores_quiet : (f : Function) (k : ℕ) → AreQuiet (restores f k)
restores_quiet f zero = tt
restores_quiet f (suc k) = quiet_both (restores f k) _ (restores_quiet f k) (load_word_quiet (kept k) (cell_home f k) (kept_off k))

-- after the change of sp at a function's entry
pub saving_quiet : (f : Function) → AreQuiet (keep_return f ++ saves f f.resident)
saving_quiet f = quiet_both (keep_return f) _ (quiet_either (calls f.code) _ _ (store_word_quiet 1 (return_home f)) tt) (saves_quiet f f.resident)

-- before the one at its return
pub restoring_quiet : (f : Function) → AreQuiet (restores f f.resident ++ take_return f)
restoring_quiet f = quiet_both (restores f f.resident) _ (restores_quiet f f.resident) (quiet_either (calls f.code) _ _ (load_word_quiet 1 (return_home f) one_off) tt)

pub byte_quiet : (f : Function) → AreQuiet (address_of 11 (byte_home f))
byte_quiet f = address_quiet 11 (byte_home f) eleven

pub change_bare : (by : ℕ) → OfAll IsBare (change_sp by)
change_bare by =
    either IsBare (nat_lt ((by + 0x800) % 2 ^ 32) 0x1000) _ _ (tt, tt) (one_of IsBare (by % 0x1000 == 0) _ _ tt (λ h. tt, λ l. tt), (tt, tt))
