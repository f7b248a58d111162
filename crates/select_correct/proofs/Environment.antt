-- The machine follows flat code: a byte is put, and a byte is got.
use Rattle.std.proofs.Common.{◌≡◌, ◌≢◌, ⊎_elim, ℕ, suc, ◌+◌, ◌-◌, ◌%◌, ◌^◌, ◌<◌, ◌≤◌, List, [], ◌∷◌, Option, Some, None, true, refl, sym, ap, ◌∙◌, subst, arith, eqb}
use Rattle.std.specs.Prelude.{nat_lt, slice_get, bit_and, bit_or}
use Rattle.std.specs.Int.Bits.{or_add_and}
use Rattle.std.proofs.lemmas.Nat.{and_mask, and_comm}
use Rattle.std.proofs.lemmas.Bool.Decides.{nat_tests}
use Rattle.rv32.specs.declared.instr.Instr.{Instr}
use Rattle.rv32.specs.declared.instr.Instr.TheVariants as instr
use Rattle.rv32.specs.declared.instr.ImmediateOp.TheVariants as immediate_op
use Rattle.rv32.specs.declared.instr.RegisterOp.TheVariants as register_op
use Rattle.rv32.specs.declared.instr.Test.TheVariants as test
use Rattle.rv32.specs.declared.instr.LoadKind.TheVariants as load_kind
use Rattle.rv32.specs.declared.instr.StoreKind.TheVariants as store_kind
use Rattle.rv32.specs.Arithmetic.{operate_of, one_if}
use Rattle.rv32.specs.Space.{word_at}
use Rattle.asm.specs.declared.item.Item.{Item}
use Rattle.asm.specs.declared.item.Item.TheVariants as item
use Rattle.asm.specs.Placed.{sum32}
use Rattle.select_exec.specs.Standing.{Stands}
use Rattle.csem_events.specs.Events.{Event, Got, GotEnd, Put}
use Rattle.frames_code.specs.declared.code.Operand.TheVariants as operand
use Rattle.frames_code.specs.declared.code.Instruction.TheVariants as instruction
use Rattle.frames_code.specs.Code.{cell_home}
use Rattle.frames_code.specs.Run.{Value, word, Values, unset, State, Progress, value, word_at as word_of_operand, next, put, got, result_alone, act}
use Rattle.select_exec.specs.Light.{Fixed, Light, Go, reg, with_reg, with_byte, gets, Comes}
use Rattle.select_exec.proofs.Bridge.{bool_cases}
use Rattle.select_exec.proofs.Words.{with_other, byte_off, byte_back, byte_bytes, word_same}
use Rattle.select_exec.proofs.Steps.{comes_now, on_immediate, on_op, on_load_byte, on_store_byte, on_branch, on_put, on_get}
use Rattle.select_exec.proofs.Standing.{stands_parts, after_items}
use Rattle.select.specs.Selected.{add_to, operate_on, load_constant, kept, address_of, byte_home}
use Rattle.select_correct.specs.Matches.{Ground, Ready, Shows, Matched, Matches, address, shown, temporary_at}
use Rattle.select_correct.specs.Costs.{row}
use Rattle.select_correct.specs.Laws.{Anything, Follows, AreBytes, GetFollows}
use Rattle.select_correct.proofs.Registers.{Only, kept_no_temporary}
use Rattle.select_correct.proofs.Waiting.{if_same}
use Rattle.select_correct.proofs.Places.{onward, addresses}
use Rattle.select_correct.proofs.Fits.{frame_room}
use Rattle.select_correct.proofs.Frames.{within, on_with, small_same}
use Rattle.select_correct.proofs.Forms.{used, word_some, fn, no_more}

-- ---- a byte or the input's end, from the result of the call

byte_or : (c : ℕ) → c < 2 ^ 8 → bit_or (2 ^ 32 - 1) c ≡ 2 ^ 32 - 1
byte_or c small =
    let masked : bit_and (2 ^ 32 - 1) c ≡ c % 2 ^ 32 = and_comm (2 ^ 32 - 1) c ∙ and_mask c 32 in
    omega (arith, or_add_and (2 ^ 32 - 1) c, masked, small)

-- the trace and the remaining input are no part of the match
pub retraced : (G : Ground) (s : State) (r : ℕ → ℕ) (at : ℕ) (b : ℕ → ℕ) (input : List ℕ) (trace : List Event) → Matched G s r at b → Matched G (record s { input = input; trace = trace }) r at b
retraced G s r at b input trace m = record {
  sp = m.sp;
  at_is = m.at_is;
  sp_is = m.sp_is;
  gp_is = m.gp_is;
  low = m.low;
  bytes = m.bytes;
  frame = m.frame;
  temporaries = m.temporaries;
  arguments = m.arguments;
  statics = m.statics;
  waits = m.waits;
}

-- registers that agree but for those of an environment call
pub record Calling (r r2 : ℕ → ℕ) : Type 0 where
  pub each : (k : ℕ) → k ≢ 10 → k ≢ 11 → k ≢ 12 → k ≢ 17 → r2 k ≡ r k

-- the items that read the byte and compute the result
abbrev get_tail : List Item
get_tail =
    item.Plain (instr.Load load_kind.ByteUnsigned 11 11 0) ∷ add_to 10 10 (2 ^ 32 - 1) ∷ item.Plain (instr.Immediate immediate_op.LessUnsigned 10 10 1) ∷
    add_to 10 10 (2 ^ 32 - 1) ∷ operate_on register_op.Or 10 10 11 ∷ []

constant_near : (T : ℕ → Option Instr) (env : ℕ → ℕ) (seg rd v here mid : ℕ) → Stands T env seg (load_constant rd v ∷ []) here mid → mid ≤ here + 8
constant_near T env seg rd v here mid st =
    bool_cases (eqb (v % 0x1000) 0)
    (λ t. let one : Stands T env seg (item.Plain (instr.Lui rd v) ∷ []) here mid = rw t at st in omega (arith, one.1.1, one.2))
    (λ t. let two : Stands T env seg (item.Constant rd v ∷ []) here mid = rw t at st in omega (arith, two.1.next_is, two.2))

-- the address of a byte of the frame takes at most three instructions
address_near : (T : ℕ → Option Instr) (env : ℕ → ℕ) (seg rd o here mid : ℕ) → Stands T env seg (address_of rd o) here mid → mid ≤ here + 12
address_near T env seg rd o here mid st =
    bool_cases (nat_lt o 0x800)
    (λ t. let one : Stands T env seg (add_to rd 2 o ∷ []) here mid = rw t at st in omega (arith, one.1.1, one.2))
    (λ t.
    let long : Stands T env seg (load_constant rd o ∷ operate_on register_op.Add rd rd 2 ∷ []) here mid = rw t at st in
    let two = stands_parts T env seg (load_constant rd o ∷ []) (operate_on register_op.Add rd rd 2 ∷ []) here mid long in
    omega (arith, constant_near T env seg rd o here two.0 two.1, two.2.1.1, two.2.2))

module _ (F : Fixed) (env : ℕ → ℕ) (seg : ℕ) (i : List ℕ) (h : List Event) (Q : Light → Type 0) where
  -- an addition that reaches up to the place of the next item
  adds : {a0 : ℕ} → (n rd l v w here there : ℕ) (r b : ℕ → ℕ) → (F.text here ≡ Some (instr.Immediate immediate_op.Add rd l v)) × (there ≡ here + 4) → (reg r l + v) % 2 ^ 32 ≡ w → Comes F Anything a0 n (Go (with_reg r rd w) there b i h) Q → Comes F Anything 1 (suc n) (Go r here b i h) Q
  adds {a0} n rd l v w here there r b q is c =
      on_immediate F Anything Q n r here b i h tt immediate_op.Add rd l v w q.0 is (onward F env seg i h Q {a0 = a0} n (here + 4) there (with_reg r rd w) b (sym q.1) c)

module _ (G : Ground) (s : State) (r b : ℕ → ℕ) (ready : Ready G) (m : Matched G s r (address G s.frame.function s.frame.at) b) where
  abbrev start : ℕ
  start = address G s.frame.function s.frame.at

  abbrev end : ℕ
  end = address G s.frame.function (s.frame.at + 1)

  -- the byte's word is between the temporaries and the cells
  abbrev byte_at : ℕ
  byte_at = m.sp + byte_home (fn G s r b ready m)

  none_left : (k : ℕ) (v : Value) → unset k ≡ Some v → s.arguments k ≡ Some v
  none_left k v e = cc

  byte_low : (G.floor ≤ byte_at) × (byte_at < 2 ^ 31)
  byte_low =
      let win = within G ready s r start b m in
      let room = frame_room (fn G s r b ready m) in
      (omega (arith, win.low), omega (arith, win.top, room))

  called : (temporaries : Values) (r2 b2 : ℕ → ℕ) → Calling r r2 → ((k : ℕ) → b2 k < 2 ^ 8) → ((k : ℕ) → k ≢ byte_at → b2 k ≡ b k) → Shows G (8 + (fn G s r b ready m).outgoing) temporaries (temporary_at r2 b2 m.sp)
      → Matched G (record (next s) { temporaries = temporaries }) r2 end b2
  called temporaries r2 b2 q bytes off ts =
      let f = fn G s r b ready m in
      let file : (j : ℕ) → r2 (kept j) ≡ r (kept j) = λ j. q.each (kept j) (kept_no_temporary j 0 (omega arith)) (kept_no_temporary j 1 (omega arith)) (kept_no_temporary j 2 (omega arith)) (kept_no_temporary j 7 (omega arith)) in
      let sp2 : r2 2 ≡ r 2 = q.each 2 (λ x. omega (arith, x)) (λ x. omega (arith, x)) (λ x. omega (arith, x)) (λ x. omega (arith, x)) in
      let ra1 : r2 1 ≡ r 1 = q.each 1 (λ x. omega (arith, x)) (λ x. omega (arith, x)) (λ x. omega (arith, x)) (λ x. omega (arith, x)) in
      let gp1 : r2 3 ≡ r 3 = q.each 3 (λ x. omega (arith, x)) (λ x. omega (arith, x)) (λ x. omega (arith, x)) (λ x. omega (arith, x)) in
      let far : (c : ℕ) → word_at b2 (m.sp + cell_home f c) ≡ word_at b (m.sp + cell_home f c) = λ c. word_same b b2 (m.sp + cell_home f c) (λ k lo hi. off k (λ x. omega (arith, x, lo))) in
      on_with G ready s r start b m (s.frame.at + 1) end s.frame.cells temporaries unset r2 b2 refl sp2 ra1 gp1 (small_same G ready s r start b m r2 file) bytes
      (λ c v ec. let old = m.frame.cells c v ec in (old.0, old.1, if_same (nat_lt c f.resident) (r (kept c)) (r2 (kept c)) _ _ (file c) (far c) ∙ old.2))
      ts none_left (λ j. if_same (nat_lt j f.resident) _ _ (r (kept j)) (r2 (kept j)) (far j) (file j))
      (λ k side. off k (λ x. ⊎_elim (λ lt. omega (arith, lt, x)) (λ ge. omega (arith, ge, x)) side))

  -- ---- PutByte

  puts : (v : ℕ) → r 10 ≡ v → slice_get (fn G s r b ready m).code s.frame.at ≡ Some instruction.PutByte → Comes G.machine Anything 1 (row (fn G s r b ready m) instruction.PutByte) (Go r start b s.input s.trace) (Matches G (put s v))
  puts v held e =
      let Q : Light → Type 0 = Matches G (put s v) in
      let F = G.machine in
      let f = fn G s r b ready m in
      let o = byte_home f in
      let a = byte_at in
      let low = byte_low in
      let tail = add_to 10 0 1 ∷ add_to 12 0 1 ∷ add_to 17 0 64 ∷ item.Plain instr.Ecall ∷ add_to 10 10 (2 ^ 32 - 1) ∷ item.Plain (instr.Branch test.Equal 10 0 16) ∷ add_to 10 0 126 ∷ add_to 17 0 93 ∷ item.Plain instr.Ecall ∷ [] in
      let st = ready.stands s.frame.function s.frame.at instruction.PutByte e in
      let one = stands_parts F.text G.env G.data_at (address_of 11 o) (item.Plain (instr.Store store_kind.Byte 10 11 0) ∷ tail) start end st in
      let st1 = one.2 in
      let st2 = st1.2 in
      let st3 = st2.2 in
      let st4 = st3.2 in
      let st5 = st4.2 in
      let st6 = st5.2 in
      let st7 = st6.2 in
      let st8 = st7.2 in
      let st9 = st8.2 in
      let st10 = st9.2 in
      let here = ready.aligned s.frame.function s.frame.at instruction.PutByte e in
      let begun = after_items F.text G.env G.data_at (address_of 11 o) start one.0 here.0 one.1 in
      let near : one.0 ≤ start + 12 = address_near F.text G.env G.data_at 11 o start one.0 one.1 in
      let over : end ≡ st6.0 + 16 = omega (arith, st7.1.1, st8.1.1, st9.1.1, st10.1.1, st10.2) in
      let after : st6.0 ≡ one.0 + 24 = omega (arith, st1.1.1, st2.1.1, st3.1.1, st4.1.1, st5.1.1, st6.1.1) in
      let even : end % 4 ≡ 0 = omega (arith, over, after, begun.aligned) in
      let to : sum32 st6.0 16 ≡ end = omega (arith, over, after, near, here.1) in
      let b1 = with_byte b a (v % 2 ^ 8) in
      addresses F G.env G.data_at s.input s.trace Q {a0 = 1} 7 11 o m.sp start one.0 r b (omega arith) (λ x. omega (arith, x)) m.sp_is (omega (arith, low.1)) one.1 (λ r1 only e11.
      let r2 = with_reg r1 10 1 in
      let r3 = with_reg r2 12 1 in
      let r4 = with_reg r3 17 64 in
      let r5 = with_reg r4 10 1 in
      let r6 = with_reg r5 10 0 in
      let done : Matched G (record (next s) { temporaries = unset }) r6 end b1 = called unset r6 b1
      (record { each = λ k n0 n1 n2 n7. with_other r5 10 0 k n0 ∙ (with_other r4 10 1 k n0 ∙ (with_other r3 17 64 k n7 ∙ (with_other r2 12 1 k n2 ∙ (with_other r1 10 1 k n0 ∙ only.each k n1)))) })
      (byte_bytes b a (v % 2 ^ 8) (omega arith) m.bytes) (λ k ne. byte_off b a (v % 2 ^ 8) k ne) (λ k x ek. cc) in
      let held1 : reg r1 10 ≡ v = only.each 10 (λ x. omega (arith, x)) ∙ held in
      let trace = Put (v % 2 ^ 8) ∷ s.trace in
      on_store_byte F Anything Q 6 r1 one.0 b s.input s.trace tt {a0 = 1} 10 11 0 a v st1.1.0 (omega (arith, e11, low.1)) (ready.stack_written a low.0 low.1) held1
      (onward F G.env G.data_at s.input s.trace Q {a0 = 1} 6 (one.0 + 4) st1.0 r1 b1 (sym st1.1.1)
      (adds F G.env G.data_at s.input s.trace Q {a0 = 1} 5 10 0 1 1 st1.0 st2.0 r1 b1 st2.1 refl
      (adds F G.env G.data_at s.input s.trace Q {a0 = 1} 4 12 0 1 1 st2.0 st3.0 r2 b1 st3.1 refl
      (adds F G.env G.data_at s.input s.trace Q {a0 = 1} 3 17 0 64 64 st3.0 st4.0 r3 b1 st4.1 refl
      (on_put F Anything Q 2 r4 st4.0 b1 s.input s.trace tt {a0 = 1} a st5.1.0 refl refl refl e11 (ready.stack_read a low.0 low.1)
      (onward F G.env G.data_at s.input (Put (b1 a) ∷ s.trace) Q {a0 = 1} 2 (st4.0 + 4) st5.0 r5 b1 (sym st5.1.1)
      (adds F G.env G.data_at s.input (Put (b1 a) ∷ s.trace) Q {a0 = 1} 1 10 10 (2 ^ 32 - 1) 0 st5.0 st6.0 r5 b1 st6.1 refl
      (on_branch F Anything Q 0 r6 st6.0 b1 s.input (Put (b1 a) ∷ s.trace) tt {a0 = 0} test.Equal 10 0 16 end true st7.1.0 refl to even
      (comes_now F Anything 0 _ Q tt
      (retraced G (record (next s) { temporaries = unset }) r6 end b1 s.input trace done, refl, ap (λ x. Put x ∷ s.trace) (byte_back b a (v % 2 ^ 8)))))))))))))

  does_put : slice_get (fn G s r b ready m).code s.frame.at ≡ Some instruction.PutByte → Comes G.machine Anything 1 (row (fn G s r b ready m) instruction.PutByte) (Go r start b s.input s.trace) (Matches G (act G.program s instruction.PutByte))
  does_put e =
      let R : Progress → Type 0 = λ p. Comes G.machine Anything 1 (row (fn G s r b ready m) instruction.PutByte) (Go r start b s.input s.trace) (Matches G p) in
      used (word_of_operand s (operand.Temporary 0)) (put s) R (no_more G s r b ready m 1 (row (fn G s r b ready m) instruction.PutByte) (Go r start b s.input s.trace) (omega arith)) (λ v ev.
      puts v (m.temporaries 0 (word v) (word_some (value s (operand.Temporary 0)) v ev)).2 e)

  -- ---- GetByte

  result_shows : (x : ℕ) (r2 b2 : ℕ → ℕ) → x < 2 ^ 32 → r2 10 ≡ x → Shows G (8 + (fn G s r b ready m).outgoing) (result_alone (Some (word x))) (temporary_at r2 b2 m.sp)
  result_shows x r2 b2 small e k v ek =
      bool_cases (eqb k 0)
      (λ t.
      let is : k ≡ 0 = grind (arith, nat_tests) in
      let now : Some (word x) ≡ Some v = rw t at ek in
      let same : word x ≡ v = cc in
      (omega (arith, is), subst (λ y. shown G y < 2 ^ 32) same small, subst (λ j. temporary_at r2 b2 m.sp j ≡ shown G v) (sym is) (e ∙ ap (shown G) same)))
      (λ t. let no : None ≡ Some v = rw t at ek in cc)

  -- after the call: t is its result, c the byte in memory
  takes : (Q : Light → Type 0) (i : List ℕ) (h : List Event) (t c y z w x here : ℕ) (r5 b1 : ℕ → ℕ) → Stands G.machine.text G.env G.data_at get_tail here end → r5 11 ≡ byte_at → b1 byte_at ≡ c → r5 10 ≡ t → (t + (2 ^ 32 - 1)) % 2 ^ 32 ≡ y → one_if (nat_lt y 1) ≡ z → (z + (2 ^ 32 - 1)) % 2 ^ 32 ≡ w → bit_or w c ≡ x
      → ((r2 : ℕ → ℕ) → r2 10 ≡ x → ((k : ℕ) → k ≢ 10 → k ≢ 11 → r2 k ≡ r5 k) → Comes G.machine Anything 0 0 (Go r2 end b1 i h) Q) → Comes G.machine Anything 1 5 (Go r5 here b1 i h) Q
  takes Q i h t c y z w x here r5 b1 st e11 ec e10 ey ez ew ex next_to =
      let F = G.machine in
      let low = byte_low in
      let st2 = st.2 in
      let st3 = st2.2 in
      let st4 = st3.2 in
      let st5 = st4.2 in
      let r6 = with_reg r5 11 c in
      let r7 = with_reg r6 10 y in
      let r8 = with_reg r7 10 z in
      let r9 = with_reg r8 10 w in
      let r10 = with_reg r9 10 x in
      let sum : (reg r6 10 + (2 ^ 32 - 1)) % 2 ^ 32 ≡ y = ap (λ k. (k + (2 ^ 32 - 1)) % 2 ^ 32) e10 ∙ ey in
      let is : operate_of register_op.Or (reg r9 10) (reg r9 11) ≡ x = ex in
      let done : Comes F Anything 0 0 (Go r10 (st4.0 + 4) b1 i h) Q = onward F G.env G.data_at i h Q {a0 = 0} 0 (st4.0 + 4) end r10 b1 (sym st5.1.1 ∙ st5.2)
      (next_to r10 refl (λ k n0 n1. with_other r9 10 x k n0 ∙ (with_other r8 10 w k n0 ∙ (with_other r7 10 z k n0 ∙ (with_other r6 10 y k n0 ∙ with_other r5 11 c k n1))))) in
      on_load_byte F Anything Q 4 r5 here b1 i h tt {a0 = 1} 11 11 0 byte_at c st.1.0 (omega (arith, e11, low.1)) (ready.stack_read byte_at low.0 low.1) ec
      (onward F G.env G.data_at i h Q {a0 = 1} 4 (here + 4) st.0 r6 b1 (sym st.1.1)
      (adds F G.env G.data_at i h Q {a0 = 1} 3 10 10 (2 ^ 32 - 1) y st.0 st2.0 r6 b1 st2.1 sum
      (on_immediate F Anything Q 2 r7 st2.0 b1 i h tt {a0 = 1} immediate_op.LessUnsigned 10 10 1 z st3.1.0 ez
      (onward F G.env G.data_at i h Q {a0 = 1} 2 (st2.0 + 4) st3.0 r8 b1 (sym st3.1.1)
      (adds F G.env G.data_at i h Q {a0 = 1} 1 10 10 (2 ^ 32 - 1) w st3.0 st4.0 r8 b1 st4.1 ew
      (on_op F Anything Q 0 r9 st4.0 b1 i h tt {a0 = 0} register_op.Or 10 10 11 st5.1.0
      (subst (λ k. Comes F Anything 0 0 (Go (with_reg r9 10 k) (st4.0 + 4) b1 i h) Q) (sym is) done)))))))

  calling_four : (t u v : ℕ) (r1 r2 : ℕ → ℕ) → Only 11 r r1 → ((k : ℕ) → k ≢ 10 → k ≢ 11 → r2 k ≡ with_reg (with_reg (with_reg (with_reg r1 10 0) 12 t) 17 u) 10 v k) → Calling r r2
  calling_four t u v r1 r2 only same = record {
    each = λ k n0 n1 n2 n7.
        same k n0 n1 ∙ (with_other (with_reg (with_reg (with_reg r1 10 0) 12 t) 17 u) 10 v k n0 ∙ (with_other (with_reg (with_reg r1 10 0) 12 t) 17 u k n7 ∙ (with_other (with_reg r1 10 0) 12 t k n2 ∙ (with_other r1 10 0 k n0 ∙ only.each k n1))));
  }

  -- the result of the call
  answered : (input : List ℕ) → s.input ≡ input → AreBytes input → (r1 : ℕ → ℕ) → Only 11 r r1 → r1 11 ≡ byte_at → (pc mid : ℕ) → mid ≡ pc + 4 → Stands G.machine.text G.env G.data_at get_tail mid end
      → Comes G.machine Anything 1 5 (gets (with_reg (with_reg (with_reg r1 10 0) 12 1) 17 63) pc b input byte_at s.trace) (Matches G (got s input))
  answered [] ei bytes r1 only e11 pc mid em st =
      let Q : Light → Type 0 = Matches G (got s []) in
      let r5 = with_reg (with_reg (with_reg (with_reg r1 10 0) 12 1) 17 63) 10 0 in
      let x = 2 ^ 32 - 1 in
      onward G.machine G.env G.data_at [] (GotEnd ∷ s.trace) Q {a0 = 1} 5 (pc + 4) mid r5 b (sym em)
      (takes Q [] (GotEnd ∷ s.trace) 0 (b byte_at) x 0 x x mid r5 b st e11 refl refl refl refl refl (byte_or (b byte_at) (m.bytes byte_at)) (λ r2 e10 same.
      let done = called (result_alone (Some (word x))) r2 b (calling_four 1 63 0 r1 r2 only same) m.bytes (λ k ne. refl) (result_shows x r2 b (omega arith) e10) in
      comes_now G.machine Anything 0 _ Q tt
      (retraced G (record (next s) { temporaries = result_alone (Some (word x)) }) r2 end b s.input (GotEnd ∷ s.trace) done, sym ei, refl)))
  answered (c ∷ rest) ei bytes r1 only e11 pc mid em st =
      let Q : Light → Type 0 = Matches G (got s (c ∷ rest)) in
      let r5 = with_reg (with_reg (with_reg (with_reg r1 10 0) 12 1) 17 63) 10 1 in
      let b1 = with_byte b byte_at c in
      let small : c < 2 ^ 8 = bytes 0 c refl in
      onward G.machine G.env G.data_at rest (Got c ∷ s.trace) Q {a0 = 1} 5 (pc + 4) mid r5 b1 (sym em)
      (takes Q rest (Got c ∷ s.trace) 1 c 0 1 0 c mid r5 b1 st e11 (byte_back b byte_at c) refl refl refl refl refl (λ r2 e10 same.
      let done = called (result_alone (Some (word c))) r2 b1 (calling_four 1 63 1 r1 r2 only same) (byte_bytes b byte_at c small m.bytes) (λ k ne. byte_off b byte_at c k ne) (result_shows c r2 b1 (omega (arith, small)) e10) in
      comes_now G.machine Anything 0 _ Q tt
      (retraced G (record (next s) { temporaries = result_alone (Some (word c)) }) r2 end b1 rest (Got c ∷ s.trace) done, refl, refl)))

  gets_from : (input : List ℕ) → s.input ≡ input → AreBytes input → slice_get (fn G s r b ready m).code s.frame.at ≡ Some instruction.GetByte → Comes G.machine Anything 1 (row (fn G s r b ready m) instruction.GetByte) (Go r start b input s.trace) (Matches G (got s input))
  gets_from input ei bytes e =
      let Q : Light → Type 0 = Matches G (got s input) in
      let F = G.machine in
      let o = byte_home (fn G s r b ready m) in
      let a = byte_at in
      let low = byte_low in
      let st = ready.stands s.frame.function s.frame.at instruction.GetByte e in
      let one = stands_parts F.text G.env G.data_at (address_of 11 o) (add_to 10 0 0 ∷ add_to 12 0 1 ∷ add_to 17 0 63 ∷ item.Plain instr.Ecall ∷ get_tail) start end st in
      let st1 = one.2 in
      let st2 = st1.2 in
      let st3 = st2.2 in
      let st4 = st3.2 in
      addresses F G.env G.data_at input s.trace Q {a0 = 1} 9 11 o m.sp start one.0 r b (omega arith) (λ x. omega (arith, x)) m.sp_is (omega (arith, low.1)) one.1 (λ r1 only e11.
      let r2 = with_reg r1 10 0 in
      let r3 = with_reg r2 12 1 in
      let r4 = with_reg r3 17 63 in
      adds F G.env G.data_at input s.trace Q {a0 = 1} 8 10 0 0 0 one.0 st1.0 r1 b st1.1 refl
      (adds F G.env G.data_at input s.trace Q {a0 = 1} 7 12 0 1 1 st1.0 st2.0 r2 b st2.1 refl
      (adds F G.env G.data_at input s.trace Q {a0 = 1} 6 17 0 63 63 st2.0 st3.0 r3 b st3.1 refl
      (on_get F Anything Q 5 r4 st3.0 b input s.trace tt {a0 = 1} a st4.1.0 refl refl refl e11 (ready.stack_written a low.0 low.1)
      (answered input ei bytes r1 only e11 st3.0 st4.0 st4.1.1 st4.2)))))

-- ---- as laws

pub put_follows : Follows instruction.PutByte
put_follows G s r b ready m under e room = does_put G s r b ready m e

pub get_follows : GetFollows
get_follows G s r b ready m under bytes e room = gets_from G s r b ready m s.input refl bytes e
