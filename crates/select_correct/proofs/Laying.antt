-- Where a program's items are placed, each instruction's items and each function's entry are at their labels.
use Rattle.std.proofs.Common.{◌≡◌, ℕ, zero, suc, ◌+◌, ◌%◌, ◌<◌, ◌≤◌, Bool, true, false, List, [], ◌∷◌, length, map, take, Option, Some, None, refl, sym, ap, ◌∙◌, subst, arith}
use Rattle.std.specs.Prelude.{slice_get}
use Rattle.std.proofs.lemmas.List.Sums.{sum_by-cons}
use Rattle.rv32.specs.declared.instr.Instr.{Instr}
use Rattle.asm.specs.declared.item.Item.{Item}
use Rattle.asm.specs.declared.item.Item.TheVariants.{Mark, Plain, Branch, Jump, Call, NearCall, Constant, LabelAddress, DataAddress}
use Rattle.asm.specs.Layout.{nearer}
use Rattle.asm.specs.Placed as placed
use Rattle.asm.specs.Placed.{ItemAt}
use Rattle.select_exec.specs.Standing.{CallAt, ItemSo, StandsSo}
use Rattle.frames_code.specs.declared.code.Instruction.{Instruction}
use Rattle.frames_code.specs.declared.code.Instruction.TheVariants as instruction
use Rattle.frames_code.specs.Code.{Function, Program}
use Rattle.frames_code.specs.Sound.{places_of}
use Rattle.frames_code.specs.Run.{function_at}
use Rattle.select_exec.proofs.Placing as placing
use Rattle.select_exec.proofs.Placing.{Onward}
use Rattle.select_exec.proofs.Standing.{after_items, stands_so, so_parts, far_placed}
use Rattle.select.specs.Selected.{entry, items_of, shortened}
use Rattle.select.specs.Program.{code_items, function_items, functions_items, start_items, shorten_calls, calls_are_near, program_items}
use Rattle.select_correct.specs.Matches.{first_of}
use Rattle.select_correct.specs.Runs.{LaidIsReady}

after_so : (T : ℕ → Option Instr) (env : ℕ → ℕ) (seg : ℕ) (near : Bool) (xs : List Item) (a e : ℕ) → a % 4 ≡ 0 → StandsSo near T env seg xs a e → Onward a e
after_so T env seg near xs a e al q = after_items T env seg xs a e al (stands_so T env seg near xs a e q)

-- the labels of an instruction and of the next one
record Labelled (near : Bool) (T : ℕ → Option Instr) (env : ℕ → ℕ) (seg : ℕ) (f : Function) (first k : ℕ) (x : Instruction) (e : ℕ) : Type 0 where
  pub aligned : env (first + k) % 4 ≡ 0
  pub low : env (first + k) ≤ e
  pub stands : StandsSo near T env seg (items_of f first (shortened f.code k x)) (env (first + k)) (env (first + (k + 1)))

-- a function's label, and those of its instructions
record Standing (near : Bool) (T : ℕ → Option Instr) (env : ℕ → ℕ) (seg : ℕ) (f : Function) (n first e : ℕ) : Type 0 where
  pub aligned : env n % 4 ≡ 0
  pub stands : StandsSo near T env seg (entry f) (env n) (env (first + 0))
  pub each : (k : ℕ) (x : Instruction) → slice_get f.code k ≡ Some x → Labelled near T env seg f first k x e

module _ (near : Bool) (T : ℕ → Option Instr) (env : ℕ → ℕ) (seg : ℕ) where
  -- the first label is where the items begin
  first_mark : (f : Function) (first k : ℕ) (xs : List Instruction) (a e : ℕ) → StandsSo near T env seg (code_items f first k xs) a e → env (first + k) ≡ a
  first_mark f first k [] a e st = st.1.0
  first_mark f first k (x ∷ xs) a e st = st.1.0

  code_stands : (f : Function) (first k : ℕ) (xs : List Instruction) (a e : ℕ) → a % 4 ≡ 0 → StandsSo near T env seg (code_items f first k xs) a e → (j n : ℕ) → n ≡ k + j → (y : Instruction) → slice_get xs j ≡ Some y → Labelled near T env seg f first n y e
  code_stands f first k [] a e al st j n en y ey = cc
  code_stands f first k (x ∷ xs) a e al st zero n en y ey =
      let rest = code_items f first (k + 1) xs in
      let at : st.0 ≡ a = st.1.1 in
      let parts = so_parts T env seg near (items_of f first (shortened f.code k x)) rest st.0 e st.2 in
      let al0 : st.0 % 4 ≡ 0 = ap (λ z. z % 4) at ∙ al in
      let one = after_so T env seg near (items_of f first (shortened f.code k x)) st.0 parts.0 al0 parts.1 in
      let more = after_so T env seg near rest parts.0 e one.aligned parts.2 in
      let begin : st.0 ≡ env (first + k) = at ∙ sym st.1.0 in
      let end : parts.0 ≡ env (first + (k + 1)) = sym (first_mark f first (k + 1) xs parts.0 e parts.2) in
      let here : StandsSo near T env seg (items_of f first (shortened f.code k x)) (env (first + k)) (env (first + (k + 1))) =
      subst (λ z. StandsSo near T env seg (items_of f first (shortened f.code k x)) (env (first + k)) z) end (subst (λ z. StandsSo near T env seg (items_of f first (shortened f.code k x)) z parts.0) begin parts.1) in
      let same : x ≡ y = cc in
      let whole : Labelled near T env seg f first k x e = record { aligned = ap (λ z. z % 4) st.1.0 ∙ al; low = omega (arith, st.1.0, at, one.on, more.on); stands = here } in
      let now : n ≡ k = omega (arith, en) in
      subst (λ z. Labelled near T env seg f first n z e) same (subst (λ z. Labelled near T env seg f first z x e) (sym now) whole)
  code_stands f first k (x ∷ xs) a e al st (suc j) n en y ey =
      let rest = code_items f first (k + 1) xs in
      let parts = so_parts T env seg near (items_of f first (shortened f.code k x)) rest st.0 e st.2 in
      let al0 : st.0 % 4 ≡ 0 = ap (λ z. z % 4) st.1.1 ∙ al in
      let one = after_so T env seg near (items_of f first (shortened f.code k x)) st.0 parts.0 al0 parts.1 in
      code_stands f first (k + 1) xs parts.0 e one.aligned parts.2 j n (omega (arith, en)) y ey

  -- up to a later end
  further : (f : Function) (n first e e2 : ℕ) → e ≤ e2 → Standing near T env seg f n first e → Standing near T env seg f n first e2
  further f n first e e2 le q = record {
    aligned = q.aligned;
    stands = q.stands;
    each = λ k x ex. let old = q.each k x ex in record { aligned = old.aligned; low = omega (arith, old.low, le); stands = old.stands };
  }

  -- where the functions after one begin
  record Behind (f : Function) (fs : List Function) (k first e : ℕ) : Type 0 where
    pub at : ℕ
    pub aligned : at % 4 ≡ 0
    pub on : at ≤ e
    pub stands : StandsSo near T env seg (functions_items (k + 1) (first + (length f.code + 1)) fs) at e
    pub own : Standing near T env seg f k first at

  function_stands : (f : Function) (fs : List Function) (k first a e : ℕ) → a % 4 ≡ 0 → StandsSo near T env seg (functions_items k first (f ∷ fs)) a e → Behind f fs k first e
  function_stands f fs k first a e al st =
      let code = code_items f first 0 f.code in
      let rest = functions_items (k + 1) (first + (length f.code + 1)) fs in
      let parts = so_parts T env seg near (function_items k first f) rest a e st in
      let own = parts.1 in
      let at : own.0 ≡ a = own.1.1 in
      let al0 : own.0 % 4 ≡ 0 = ap (λ z. z % 4) at ∙ al in
      let two = so_parts T env seg near (entry f) code own.0 parts.0 own.2 in
      let one = after_so T env seg near (entry f) own.0 two.0 al0 two.1 in
      let more = after_so T env seg near code two.0 parts.0 one.aligned two.2 in
      let last = after_so T env seg near rest parts.0 e more.aligned parts.2 in
      record {
        at = parts.0;
        aligned = more.aligned;
        on = last.on;
        stands = parts.2;
        own = record {
          aligned = ap (λ z. z % 4) own.1.0 ∙ al;
          stands = subst (λ z. StandsSo near T env seg (entry f) (env k) z) (sym (first_mark f first 0 f.code two.0 parts.0 two.2)) (subst (λ z. StandsSo near T env seg (entry f) z two.0) (at ∙ sym own.1.0) two.1);
          each = λ m x ex. code_stands f first 0 f.code two.0 parts.0 one.aligned two.2 m m (omega arith) x ex;
        };
      }

  functions_stand : (fs : List Function) (k first a e : ℕ) → a % 4 ≡ 0 → StandsSo near T env seg (functions_items k first fs) a e → (j n start : ℕ) → n ≡ k + j → start ≡ first + places_of (take j fs) → (g : Function) → slice_get fs j ≡ Some g → Standing near T env seg g n start e
  functions_stand [] k first a e al st j n start en es g eg = cc
  functions_stand (f ∷ fs) k first a e al st zero n start en es g eg =
      let q = function_stands f fs k first a e al st in
      let same : f ≡ g = cc in
      let none : places_of (take 0 (f ∷ fs)) ≡ 0 = refl in
      let now : n ≡ k = omega (arith, en) in
      let begin : start ≡ first = omega (arith, es, none) in
      subst (λ z. Standing near T env seg z n start e) same (subst (λ z. Standing near T env seg f z start e) (sym now) (subst (λ z. Standing near T env seg f k z e) (sym begin) (further f k first q.at e q.on q.own)))
  functions_stand (f ∷ fs) k first a e al st (suc j) n start en es g eg =
      let q = function_stands f fs k first a e al st in
      let sum : places_of (take (suc j) (f ∷ fs)) ≡ length f.code + 1 + places_of (take j fs) = sum_by-cons (λ (z : Function). length z.code + 1) f (take j fs) in
      functions_stand fs (k + 1) (first + (length f.code + 1)) q.at e q.aligned q.stands j n start (omega (arith, en)) (omega (arith, es, sum)) g eg

-- ---- a program

near_item : (T : ℕ → Option Instr) (env : ℕ → ℕ) (seg : ℕ) (x : Item) (a next : ℕ) → ItemAt T env seg (nearer x) a next → ItemSo true T env seg x a next
near_item T env seg (Call to) a next q = q
near_item T env seg (Mark l) a next q = q
near_item T env seg (Plain i) a next q = q
near_item T env seg (Branch t l r to) a next q = q
near_item T env seg (Jump to) a next q = q
near_item T env seg (NearCall to) a next q = q
near_item T env seg (Constant rd v) a next q = q
near_item T env seg (LabelAddress rd l) a next q = q
near_item T env seg (DataAddress rd o) a next q = q

near_placed : (T : ℕ → Option Instr) (env : ℕ → ℕ) (seg : ℕ) (xs : List Item) (a e : ℕ) → placed.Stands T env seg (map nearer xs) a e → StandsSo true T env seg xs a e
near_placed T env seg [] a e q = q
near_placed T env seg (x ∷ xs) a e q = (q.0, near_item T env seg x a q.0 q.1, near_placed T env seg xs q.0 e q.2)

shortened_placed : (T : ℕ → Option Instr) (env : ℕ → ℕ) (seg : ℕ) (near : Bool) (xs : List Item) (a e : ℕ) → placed.Stands T env seg (shorten_calls near xs) a e → StandsSo near T env seg xs a e
shortened_placed T env seg true xs a e q = near_placed T env seg xs a e q
shortened_placed T env seg false xs a e q = far_placed T env seg xs a e q

some_function : (fs : List Function) (k : ℕ) → k < length fs → (f : Function) × (slice_get fs k ≡ Some f)
some_function [] k lt = absurd (omega (arith, lt))
some_function (f ∷ fs) zero lt = (f, refl)
some_function (f ∷ fs) (suc k) lt = some_function fs k (omega (arith, lt))

pub known : (p : Program) (k : ℕ) (g : Function) → slice_get p.functions k ≡ Some g → g ≡ function_at p k
known p k g e = rw e refl

pub unknown : (p : Program) (k : ℕ) → slice_get p.functions k ≡ None → [] ≡ (function_at p k).code
unknown p k e = rw e refl

module _ (p : Program) (T : ℕ → Option Instr) (env : ℕ → ℕ) (seg base e : ℕ) (al : base % 4 ≡ 0) (st : placed.Stands T env seg (program_items p) base e) where
  -- a function that there is
  stands_at : (k : ℕ) (g : Function) → slice_get p.functions k ≡ Some g → Standing (calls_are_near p) T env seg (function_at p k) k (first_of p k) e
  stands_at k g eg =
      let all = functions_items 0 (length p.functions) p.functions in
      let near = calls_are_near p in
      let parts = placing.stands_parts T env seg (start_items p.main) (shorten_calls near all) base e st in
      let one = placing.after_items T env seg (start_items p.main) base parts.0 al parts.1 in
      let q = functions_stand near T env seg p.functions 0 (length p.functions) parts.0 e one.aligned (shortened_placed T env seg near all parts.0 e parts.2) k k (first_of p k) (omega arith) refl g eg in
      subst (λ z. Standing near T env seg z k (first_of p k) e) (known p k g eg) q

  labelled : (o : Option Function) (k : ℕ) → slice_get p.functions k ≡ o → (m : ℕ) (x : Instruction) → slice_get (function_at p k).code m ≡ Some x → Labelled (calls_are_near p) T env seg (function_at p k) (first_of p k) m x e
  labelled None k eo m x ex =
      let no : slice_get [] m ≡ Some x = ap (λ c. slice_get c m) (unknown p k eo) ∙ ex in
      cc
  labelled (Some g) k eo m x ex = (stands_at k g eo).each m x ex

called_at : (p : Program) (T : ℕ → Option Instr) (env : ℕ → ℕ) (seg f k g : ℕ) {e : ℕ} → Labelled (calls_are_near p) T env seg (function_at p f) (first_of p f) k (instruction.Call g) e
    → CallAt (calls_are_near p) T (env (first_of p f + k)) (env g) (env (first_of p f + (k + 1)))
called_at p T env seg f k g l = subst (λ z. CallAt (calls_are_near p) T (env (first_of p f + k)) (env g) z) l.stands.2 l.stands.1

pub is_ready : LaidIsReady
is_ready p F env floor data_at base e r b q =
    let at = labelled p F.text env data_at base e q.aligned q.stands in
    let whole = stands_at p F.text env data_at base e q.aligned q.stands in
    let one = placing.after_items F.text env data_at (program_items p) base e q.aligned q.stands in
    record {
      sound = q.sound;
      aligned = λ f k x ex. let l = at (slice_get p.functions f) f refl k x ex in (l.aligned, omega (arith, l.low, q.low));
      stands = λ f k x ex. (let l = at (slice_get p.functions f) f refl k x ex in stands_so F.text env data_at (calls_are_near p) _ _ _ l.stands);
      calls = λ f k g ex. called_at p F.text env data_at f k g (at (slice_get p.functions f) f refl k (instruction.Call g) ex);
      entries = λ f lt. (let g = some_function p.functions f lt in stands_so F.text env data_at (calls_are_near p) _ _ _ (whole f g.0 g.1).stands);
      entry_aligned = λ f lt. let g = some_function p.functions f lt in (whole f g.0 g.1).aligned;
      stack_read = q.stack_read;
      stack_written = q.stack_written;
      data_read = q.data_read;
      data_written = q.data_written;
      data_aligned = q.data_aligned;
      data_below = q.data_below;
      floor_below = q.floor_below;
      top = omega arith;
      return_aligned = omega (arith, q.aligned);
      return_small = omega (arith, one.on, q.low);
    }
