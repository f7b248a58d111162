-- Running the items that read operands and write results: words of the frame, near and far, constants, registers.
use Rattle.std.proofs.Common.{◌≡◌, ◌≢◌, ℕ, suc, ◌+◌, ◌/◌, ◌%◌, ◌^◌, ◌<◌, ◌≤◌, List, [], ◌∷◌, Bool, true, false, refl, sym, ap, ◌∙◌, subst, arith, eqb}
use Rattle.std.specs.Prelude.{nat_lt}
use Rattle.std.proofs.lemmas.Bool.{ltb-true}
use Rattle.std.proofs.lemmas.Bool.Decides.{nat_tests}
use Rattle.rv32.specs.declared.instr.Instr.TheVariants as instr
use Rattle.rv32.specs.declared.instr.ImmediateOp.TheVariants as immediate_op
use Rattle.rv32.specs.declared.instr.RegisterOp.TheVariants as register_op
use Rattle.rv32.specs.declared.instr.LoadKind.TheVariants as load_kind
use Rattle.rv32.specs.declared.instr.StoreKind.TheVariants as store_kind
use Rattle.rv32.specs.Arithmetic.{operate_of}
use Rattle.rv32.specs.Space.{all_four, word_at}
use Rattle.asm.specs.declared.item.Item.TheVariants as item
use Rattle.select_exec.specs.Standing.{Stands}
use Rattle.csem_events.specs.Events.{Event}
use Rattle.select_exec.specs.Light.{Fixed, Light, Go, reg, with_reg, with_word, sum32, Comes}
use Rattle.select_exec.proofs.Bridge.{bool_cases}
use Rattle.select_exec.proofs.Words.{reg_is, with_same, with_other}
use Rattle.select_exec.proofs.Steps.{comes_by, on_lui, on_immediate, on_op, on_load, on_store}
use Rattle.select_exec.proofs.ItemSteps.{on_loads}
use Rattle.select_exec.proofs.Standing.{stands_parts}
use Rattle.select.specs.declared.places.Source.{Source}
use Rattle.select.specs.declared.places.Source.TheVariants as source
use Rattle.select.specs.Selected.{add_to, operate_on, load_constant, upper_of, lower_of, far, base_of, load_word, store_word, address_of, set_to, fetch, register_of, into}
use Rattle.select_correct.specs.Costs.{far_cost, word_cost, constant_cost, address_cost, set_cost, fetch_cost, into_cost}
use Rattle.select_correct.specs.Laws.{Anything}
use Rattle.select_correct.proofs.Registers.{Only, Off, only_none, only_one, only_then, off_then, off_sp, off_only, off_none, only_reg, off_reg}

-- the stack may be read and written from here up
pub record Open (F : Fixed) (sp : ℕ) : Type 0 where
  pub reads : (a : ℕ) → sp ≤ a → a < 2 ^ 31 → F.can_read a ≡ true
  pub writes : (a : ℕ) → sp ≤ a → a < 2 ^ 31 → F.can_write a ≡ true

pub four_open : (p : ℕ → Bool) (sp a : ℕ) → ((k : ℕ) → sp ≤ k → k < 2 ^ 31 → p k ≡ true) → sp ≤ a → a + 4 ≤ 2 ^ 31 → all_four p a ≡ true
four_open p sp a all lo hi = rw (all a lo (omega (arith, hi)), all (a + 1) (omega (arith, lo)) (omega (arith, hi)), all (a + 2) (omega (arith, lo)) (omega (arith, hi)), all (a + 3) (omega (arith, lo)) (omega (arith, hi))) refl

-- a word of the stack, at this offset in bytes above the stack pointer
pub record Lies (sp o : ℕ) : Type 0 where
  pub top : sp + o + 4 ≤ 2 ^ 31
  pub aligned : sp % 4 ≡ 0
  pub even : o % 4 ≡ 0

-- ---- offsets in two parts

pub near_sum : (x sp o : ℕ) → x ≡ sp → o < 0x800 → sp + o < 2 ^ 31 → (x + lower_of o) % 2 ^ 32 ≡ sp + o
near_sum x sp o e near small =
    let zero : (o + 0x800) / 0x1000 ≡ 0 = omega (arith, near) in
    let low : lower_of o ≡ o = rw zero (omega (arith, near)) in
    rw (low, e) (omega (arith, small))

far_sum : (sp o : ℕ) → sp + o < 2 ^ 31 → ((upper_of o + sp) % 2 ^ 32 + lower_of o) % 2 ^ 32 ≡ sp + o
far_sum sp o small = omega (arith, small)

module _ (F : Fixed) (env : ℕ → ℕ) (seg : ℕ) (i : List ℕ) (h : List Event) (Q : Light → Type 0) where
  -- the same place
  pub onward : {a0 : ℕ} → (n pc pc2 : ℕ) (r b : ℕ → ℕ) → pc ≡ pc2 → Comes F Anything a0 n (Go r pc2 b i h) Q → Comes F Anything a0 n (Go r pc b i h) Q
  onward {a0} n pc pc2 r b e c = subst (λ x. Comes F Anything a0 n (Go r x b i h) Q) (sym e) c

  -- the items before an access to a place past the reach of 12 bits
  pub far_runs : (n x o sp here mid : ℕ) (r b : ℕ → ℕ) → 0 < x → x ≢ 2 → r 2 ≡ sp → sp + o < 2 ^ 31 → Stands F.text env seg (far x o) here mid
      → ((r2 : ℕ → ℕ) → Only x r r2 → sum32 (reg r2 (base_of x o)) (lower_of o) ≡ sp + o → Comes F Anything 1 n (Go r2 mid b i h) Q) → Comes F Anything 1 (far_cost o + n) (Go r here b i h) Q
  far_runs n x o sp here mid r b pos ne e2 small st next =
      bool_cases (nat_lt o 0x800)
      (λ t.
      let now : here ≡ mid = rw t at st in
      let near : o < 0x800 = ltb-true o 0x800 t in
      let sum : sum32 (reg r (base_of x o)) (lower_of o) ≡ sp + o = rw t (near_sum (r 2) sp o e2 near small) in
      comes_by F Anything n (far_cost o + n) (Go r here b i h) Q (omega arith) (onward n here mid r b now (next r (only_none x r) sum)))
      (λ t.
      let two : Stands F.text env seg (item.Plain (instr.Lui x (upper_of o)) ∷ operate_on register_op.Add x x 2 ∷ []) here mid = rw t at st in
      let v = (upper_of o + sp) % 2 ^ 32 in
      let r1 = with_reg r x (upper_of o) in
      let r2 = with_reg r1 x v in
      let left : reg r1 x ≡ upper_of o = reg_is r1 x pos ∙ with_same r x (upper_of o) pos in
      let right : r1 2 ≡ sp = with_other r x (upper_of o) 2 (λ e. ne (sym e)) ∙ e2 in
      let is : operate_of register_op.Add (reg r1 x) (reg r1 2) ≡ v = ap (λ y. (y + r1 2) % 2 ^ 32) left ∙ ap (λ y. (upper_of o + y) % 2 ^ 32) right in
      let held : reg r2 x ≡ v = reg_is r2 x pos ∙ with_same r1 x v pos in
      let sum0 : sum32 (reg r2 x) (lower_of o) ≡ sp + o = ap (λ y. (y + lower_of o) % 2 ^ 32) held ∙ far_sum sp o small in
      let sum : sum32 (reg r2 (base_of x o)) (lower_of o) ≡ sp + o = rw t sum0 in
      let there : here + 4 + 4 ≡ mid = omega (arith, two.1.1, two.2.1.1, two.2.2) in
      let only : Only x r r2 = only_then x r r1 r2 (only_one x (upper_of o) r) (only_one x v r1) in
      let c : Comes F Anything 1 n (Go r2 (here + 4 + 4) b i h) Q = onward n (here + 4 + 4) mid r2 b there (next r2 only sum) in
      let second = ap F.text (sym two.1.1) ∙ two.2.1.0 in
      let count : far_cost o ≡ 2 = rw t refl in
      comes_by F Anything (suc (suc n)) (far_cost o + n) (Go r here b i h) Q (omega (arith, count))
      (on_lui F Anything Q (suc n) r here b i h tt x (upper_of o) two.1.0
      (on_op F Anything Q n r1 (here + 4) b i h tt register_op.Add x x 2 second
      (subst (λ z. Comes F Anything 1 n (Go (with_reg r1 x z) (here + 4 + 4) b i h) Q) (sym is) c))))

  -- a word of the frame into a register
  pub loads_word : {a0 : ℕ} → (n rd o sp w here mid : ℕ) (r b : ℕ → ℕ) → Open F sp → 0 < rd → rd ≢ 2 → r 2 ≡ sp → Lies sp o → word_at b (sp + o) ≡ w → Stands F.text env seg (load_word rd o) here mid
      → ((r2 : ℕ → ℕ) → Only rd r r2 → r2 rd ≡ w → Comes F Anything a0 n (Go r2 mid b i h) Q) → Comes F Anything 1 (word_cost o + n) (Go r here b i h) Q
  loads_word {a0} n rd o sp w here mid r b stack pos ne e2 lies ew st next =
      let parts = stands_parts F.text env seg (far rd o) (item.Plain (instr.Load load_kind.Word rd (base_of rd o) (lower_of o)) ∷ []) here mid st in
      comes_by F Anything (far_cost o + suc n) (word_cost o + n) (Go r here b i h) Q (omega arith)
      (far_runs (suc n) rd o sp here parts.0 r b pos ne e2 (omega (arith, lies.top)) parts.1 (λ r1 only sum.
      let r2 = with_reg r1 rd w in
      let there : parts.0 + 4 ≡ mid = sym parts.2.1.1 ∙ parts.2.2 in
      let aligned : (sp + o) % 4 ≡ 0 = omega (arith, lies.aligned, lies.even) in
      let readable : all_four F.can_read (sp + o) ≡ true = four_open F.can_read sp (sp + o) stack.reads (omega arith) (omega (arith, lies.top)) in
      on_load F Anything Q n r1 parts.0 b i h tt rd (base_of rd o) (lower_of o) (sp + o) w parts.2.1.0 sum aligned readable ew
      (onward {a0 = a0} n (parts.0 + 4) mid r2 b there (next r2 (only_then rd r r1 r2 only (only_one rd w r1)) (with_same r1 rd w pos)))))

  -- a register into a word of the frame; x7 is free
  pub stores_word : {a0 : ℕ} → (n q o sp w here mid : ℕ) (r b : ℕ → ℕ) → Open F sp → q ≢ 7 → r 2 ≡ sp → Lies sp o → reg r q ≡ w → Stands F.text env seg (store_word q o) here mid
      → ((r2 : ℕ → ℕ) → Only 7 r r2 → Comes F Anything a0 n (Go r2 mid (with_word b (sp + o) w) i h) Q) → Comes F Anything 1 (word_cost o + n) (Go r here b i h) Q
  stores_word {a0} n q o sp w here mid r b stack ne e2 lies ew st next =
      let parts = stands_parts F.text env seg (far 7 o) (item.Plain (instr.Store store_kind.Word q (base_of 7 o) (lower_of o)) ∷ []) here mid st in
      comes_by F Anything (far_cost o + suc n) (word_cost o + n) (Go r here b i h) Q (omega arith)
      (far_runs (suc n) 7 o sp here parts.0 r b (omega arith) (λ e. omega (arith, e)) e2 (omega (arith, lies.top)) parts.1 (λ r1 only sum.
      let there : parts.0 + 4 ≡ mid = sym parts.2.1.1 ∙ parts.2.2 in
      let aligned : (sp + o) % 4 ≡ 0 = omega (arith, lies.aligned, lies.even) in
      let writable : all_four F.can_write (sp + o) ≡ true = four_open F.can_write sp (sp + o) stack.writes (omega arith) (omega (arith, lies.top)) in
      let held : reg r1 q ≡ w = only_reg 7 q r r1 only ne ∙ ew in
      on_store F Anything Q n r1 parts.0 b i h tt q (base_of 7 o) (lower_of o) (sp + o) w parts.2.1.0 sum aligned writable held
      (onward {a0 = a0} n (parts.0 + 4) mid r1 (with_word b (sp + o) w) there (next r1 only))))

  -- a constant of more than 12 bits into a register
  pub loads_constant : {a0 : ℕ} → (n rd v here mid : ℕ) (r b : ℕ → ℕ) → 0 < rd → Stands F.text env seg (load_constant rd v ∷ []) here mid
      → Comes F Anything a0 n (Go (with_reg r rd v) mid b i h) Q → Comes F Anything 1 (constant_cost v + n) (Go r here b i h) Q
  loads_constant {a0} n rd v here mid r b pos st c =
      bool_cases (eqb (v % 0x1000) 0)
      (λ t.
      let one : Stands F.text env seg (item.Plain (instr.Lui rd v) ∷ []) here mid = rw t at st in
      let there : here + 4 ≡ mid = sym one.1.1 ∙ one.2 in
      let count : constant_cost v ≡ 1 = rw t refl in
      comes_by F Anything (suc n) (constant_cost v + n) (Go r here b i h) Q (omega (arith, count))
      (on_lui F Anything Q n r here b i h tt rd v one.1.0 (onward {a0 = a0} n (here + 4) mid (with_reg r rd v) b there c)))
      (λ t.
      let two : Stands F.text env seg (item.Constant rd v ∷ []) here mid = rw t at st in
      let some : eqb rd 0 ≡ false = grind (arith, nat_tests) in
      let count : constant_cost v ≡ 2 = rw t refl in
      comes_by F Anything (suc (suc n)) (constant_cost v + n) (Go r here b i h) Q (omega (arith, count))
      (on_loads F Anything Q n r here b i h tt rd v two.0 some two.1 tt (onward {a0 = a0} n two.0 mid (with_reg r rd v) b two.2 c)))

  -- a constant into a register
  pub sets : {a0 : ℕ} → (n rd v here mid : ℕ) (r b : ℕ → ℕ) → 0 < rd → v < 2 ^ 32 → Stands F.text env seg (set_to rd v ∷ []) here mid
      → ((r2 : ℕ → ℕ) → Only rd r r2 → r2 rd ≡ v → Comes F Anything a0 n (Go r2 mid b i h) Q) → Comes F Anything 1 (set_cost v + n) (Go r here b i h) Q
  sets {a0} n rd v here mid r b pos small st next =
      let r2 = with_reg r rd v in
      let c : Comes F Anything a0 n (Go r2 mid b i h) Q = next r2 (only_one rd v r) (with_same r rd v pos) in
      bool_cases (nat_lt ((v + 0x800) % 2 ^ 32) 0x1000)
      (λ t.
      let one : Stands F.text env seg (add_to rd 0 v ∷ []) here mid = rw t at st in
      let there : here + 4 ≡ mid = sym one.1.1 ∙ one.2 in
      let is : (0 + v) % 2 ^ 32 ≡ v = omega (arith, small) in
      let count : set_cost v ≡ 1 = rw t refl in
      comes_by F Anything (suc n) (set_cost v + n) (Go r here b i h) Q (omega (arith, count))
      (on_immediate F Anything Q n r here b i h tt immediate_op.Add rd 0 v v one.1.0 is (onward {a0 = a0} n (here + 4) mid r2 b there c)))
      (λ t.
      let long : Stands F.text env seg (load_constant rd v ∷ []) here mid = rw t at st in
      let count : set_cost v ≡ constant_cost v = rw t refl in
      subst (λ k. Comes F Anything 1 (k + n) (Go r here b i h) Q) (sym count) (loads_constant {a0 = a0} n rd v here mid r b pos long c))

  -- the address of a place of the frame
  pub addresses : {a0 : ℕ} → (n rd o sp here mid : ℕ) (r b : ℕ → ℕ) → 0 < rd → rd ≢ 2 → r 2 ≡ sp → sp + o < 2 ^ 31 → Stands F.text env seg (address_of rd o) here mid
      → ((r2 : ℕ → ℕ) → Only rd r r2 → r2 rd ≡ sp + o → Comes F Anything a0 n (Go r2 mid b i h) Q) → Comes F Anything 1 (address_cost o + n) (Go r here b i h) Q
  addresses {a0} n rd o sp here mid r b pos ne e2 small st next =
      bool_cases (nat_lt o 0x800)
      (λ t.
      let one : Stands F.text env seg (add_to rd 2 o ∷ []) here mid = rw t at st in
      let r2 = with_reg r rd (sp + o) in
      let there : here + 4 ≡ mid = sym one.1.1 ∙ one.2 in
      let is : (r 2 + o) % 2 ^ 32 ≡ sp + o = omega (arith, e2, small) in
      let count : address_cost o ≡ 1 = rw t refl in
      comes_by F Anything (suc n) (address_cost o + n) (Go r here b i h) Q (omega (arith, count))
      (on_immediate F Anything Q n r here b i h tt immediate_op.Add rd 2 o (sp + o) one.1.0 is
      (onward {a0 = a0} n (here + 4) mid r2 b there (next r2 (only_one rd (sp + o) r) (with_same r rd (sp + o) pos)))))
      (λ t.
      let long : Stands F.text env seg (load_constant rd o ∷ operate_on register_op.Add rd rd 2 ∷ []) here mid = rw t at st in
      let two = stands_parts F.text env seg (load_constant rd o ∷ []) (operate_on register_op.Add rd rd 2 ∷ []) here mid long in
      let r1 = with_reg r rd o in
      let r2 = with_reg r1 rd (sp + o) in
      let left : reg r1 rd ≡ o = reg_is r1 rd pos ∙ with_same r rd o pos in
      let right : r1 2 ≡ sp = with_other r rd o 2 (λ e. ne (sym e)) ∙ e2 in
      let sum : (o + sp) % 2 ^ 32 ≡ sp + o = omega (arith, small) in
      let is : operate_of register_op.Add (reg r1 rd) (reg r1 2) ≡ sp + o = ap (λ y. (y + r1 2) % 2 ^ 32) left ∙ (ap (λ y. (o + y) % 2 ^ 32) right ∙ sum) in
      let there : two.0 + 4 ≡ mid = sym two.2.1.1 ∙ two.2.2 in
      let only : Only rd r r2 = only_then rd r r1 r2 (only_one rd o r) (only_one rd (sp + o) r1) in
      let c : Comes F Anything a0 n (Go r2 (two.0 + 4) b i h) Q = onward {a0 = a0} n (two.0 + 4) mid r2 b there (next r2 only (with_same r1 rd (sp + o) pos)) in
      let count : address_cost o ≡ constant_cost o + 1 = rw t refl in
      comes_by F Anything (constant_cost o + suc n) (address_cost o + n) (Go r here b i h) Q (omega (arith, count))
      (loads_constant {a0 = 1} (suc n) rd o here two.0 r b pos two.1
      (on_op F Anything Q n r1 two.0 b i h tt register_op.Add rd rd 2 two.2.1.0
      (subst (λ z. Comes F Anything a0 n (Go (with_reg r1 rd z) (two.0 + 4) b i h) Q) (sym is) c))))

-- ---- sources

-- the source of an operand has its value, where the register that it is in is not a free one
abbrev pub SourceHolds : (r b : ℕ → ℕ) → ℕ → Source → ℕ → Type 0
SourceHolds r b sp (source.Register q) w = (reg r q ≡ w) × (q ≢ 5) × (q ≢ 6) × (q ≢ 7)
SourceHolds r b sp (source.Frame o) w = Lies sp o × (word_at b (sp + o) ≡ w)
SourceHolds r b sp (source.Constant v) w = (v ≡ w) × (v < 2 ^ 32)

-- the register that it is read from is not freed by the next operand
pub source_stays : (r b : ℕ → ℕ) (sp w : ℕ) (x : Source) → SourceHolds r b sp x w → (register_of 5 x ≢ 6) × (register_of 5 x ≢ 7)
source_stays r b sp w (source.Register q) p = (p.2, p.3)
source_stays r b sp w (source.Frame o) p = (λ e. omega (arith, e), λ e. omega (arith, e))
source_stays r b sp w (source.Constant v) p = (λ e. omega (arith, e), λ e. omega (arith, e))

module _ (F : Fixed) (env : ℕ → ℕ) (seg : ℕ) (i : List ℕ) (h : List Event) (Q : Light → Type 0) (sp : ℕ) (stack : Open F sp) (r b : ℕ → ℕ) (e2 : r 2 ≡ sp) where
  -- an operand: r1 are the registers so far
  pub fetches : (n x : ℕ) → 5 ≤ x → x ≤ 6 → (o : Source) (w here mid : ℕ) (r1 : ℕ → ℕ) → Off 5 r r1 → SourceHolds r b sp o w → Stands F.text env seg (fetch x o) here mid
      → ((r2 : ℕ → ℕ) → Only x r1 r2 → reg r2 (register_of x o) ≡ w → Comes F Anything 1 n (Go r2 mid b i h) Q) → Comes F Anything 1 (fetch_cost o + n) (Go r1 here b i h) Q
  fetches n x lo hi (source.Register q) w here mid r1 off holds st next =
      let held : reg r1 q ≡ w = off_reg q r r1 off holds.1 holds.2 holds.3 ∙ holds.0 in
      comes_by F Anything n (0 + n) (Go r1 here b i h) Q (omega arith) (onward F env seg i h Q n here mid r1 b st (next r1 (only_none x r1) held))
  fetches n x lo hi (source.Frame o) w here mid r1 off holds st next =
      let sp1 : r1 2 ≡ sp = off_sp 5 r r1 off (λ e. omega (arith, e)) ∙ e2 in
      let pos : 0 < x = omega (arith, lo) in
      loads_word F env seg i h Q {a0 = 1} n x o sp w here mid r1 b stack pos (λ e. omega (arith, e, lo)) sp1 holds.0 holds.1 st
      (λ r2 only held. next r2 only (reg_is r2 x pos ∙ held))
  fetches n x lo hi (source.Constant v) w here mid r1 off holds st next =
      let pos : 0 < x = omega (arith, lo) in
      sets F env seg i h Q {a0 = 1} n x v here mid r1 b pos holds.1 st
      (λ r2 only held. next r2 only (reg_is r2 x pos ∙ (held ∙ holds.0)))

  -- two operands
  pub fetches_two : (n : ℕ) (x y : Source) (v w here mid last : ℕ) → SourceHolds r b sp x v → SourceHolds r b sp y w → Stands F.text env seg (fetch 5 x) here mid → Stands F.text env seg (fetch 6 y) mid last
      → ((r2 : ℕ → ℕ) → Off 5 r r2 → reg r2 (register_of 5 x) ≡ v → reg r2 (register_of 6 y) ≡ w → Comes F Anything 1 n (Go r2 last b i h) Q) → Comes F Anything 1 (fetch_cost x + (fetch_cost y + n)) (Go r here b i h) Q
  fetches_two n x y v w here mid last hx hy st1 st2 next =
      fetches (fetch_cost y + n) 5 (omega arith) (omega arith) x v here mid r (off_none 5 r) hx st1 (λ r1 only1 held1.
      let off1 : Off 5 r r1 = off_only 5 r r1 only1 in
      fetches n 6 (omega arith) (omega arith) y w mid last r1 off1 hy st2 (λ r2 only2 held2.
      let same : reg r2 (register_of 5 x) ≡ v = only_reg 6 (register_of 5 x) r1 r2 only2 (source_stays r b sp v x hx).0 ∙ held1 in
      next r2 (off_then 5 6 r r1 r2 (omega arith) (omega arith) off1 only2) same held2))

  -- an operand into register d
  pub intos : {a0 : ℕ} → (n d : ℕ) → 0 < d → d ≢ 2 → (o : Source) (w here mid : ℕ) → SourceHolds r b sp o w → w < 2 ^ 32 → Stands F.text env seg (into d o) here mid
      → ((r2 : ℕ → ℕ) → Only d r r2 → r2 d ≡ w → Comes F Anything a0 n (Go r2 mid b i h) Q) → Comes F Anything 1 (into_cost o + n) (Go r here b i h) Q
  intos {a0} n d pos ne (source.Register q) w here mid holds small st next =
      let r2 = with_reg r d w in
      let there : here + 4 ≡ mid = sym st.1.1 ∙ st.2 in
      let is : (reg r q + 0) % 2 ^ 32 ≡ w = omega (arith, holds.0, small) in
      comes_by F Anything (suc n) (1 + n) (Go r here b i h) Q (omega arith)
      (on_immediate F Anything Q n r here b i h tt immediate_op.Add d q 0 w st.1.0 is
      (onward F env seg i h Q {a0 = a0} n (here + 4) mid r2 b there (next r2 (only_one d w r) (with_same r d w pos))))
  intos {a0} n d pos ne (source.Frame o) w here mid holds small st next =
      loads_word F env seg i h Q {a0 = a0} n d o sp w here mid r b stack pos ne e2 holds.0 holds.1 st next
  intos {a0} n d pos ne (source.Constant v) w here mid holds small st next =
      sets F env seg i h Q {a0 = a0} n d v here mid r b pos holds.1 st (λ r2 only held. next r2 only (held ∙ holds.0))
