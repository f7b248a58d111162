-- The code follows constants, reads, and assignments of objects.
use Rattle.std.proofs.Common.{◌≡◌, ℕ, suc, ◌+◌, ◌*◌, ◌≤◌, List, [], Option, Some, None, Bool, true, false, ◌||◌, ℤ, refl, sym, ap, ◌∙◌, subst, arith}
use Rattle.std.specs.Prelude.{nat_eq, nat_lt, length, slice_get, option_map}
use Rattle.std.proofs.lemmas.Bool.Decides.{nat_tests}
use Rattle.srcset.specs.declared.refusal.Pos.{Pos}
use Rattle.ctypes.specs.declared.types.IntType.{IntType}
use Rattle.ctypes.specs.declared.operators.Undef.TheVariants.{U7}
use Rattle.ctypes.specs.Types.{IsValueOf, truth, converted}
use Rattle.ctypes.proofs.Uses.{converted_fits, converted_keeps}
use Rattle.typing_spec.specs.Types.{ObjectType}
use Rattle.typing_spec.specs.Program as typed
use Rattle.typing_spec.specs.Program.{Value as Expression}
use Rattle.csem.specs.Store.{Element, Reference, whole, put, value_at}
use Rattle.csem.specs.Machine as machine
use Rattle.csem.specs.Machine.{Run, Goes, Stops, then_do, tick, choose, undefined, computed_at, designated, read, write, value_or_undefined, stored}
use Rattle.csem.specs.Expressions.{Calling, evaluate, find}
use Rattle.tac_code.specs.declared.code.Operand.{Operand}
use Rattle.tac_code.specs.declared.code.Operand.TheVariants as operand
use Rattle.tac_code.specs.declared.code.Target.{Target}
use Rattle.tac_code.specs.declared.code.Target.TheVariants as target
use Rattle.tac_code.specs.declared.code.Instruction.TheVariants as instruction
use Rattle.tac_code.specs.Code.{Program, function_at, scalar_type, type_if_scalar}
use Rattle.tac_code.specs.Run.{Call, State, running, word, word_for, number_of, is_word_of}
use Rattle.lower_correct.specs.Values.{calls, writes, writes_none, rests_in, extent, smallest, stays_word, keeps, operand_of, constant_of, Mode, Nowhere, To, If, mode_of}
use Rattle.lower_correct.specs.Code.{One, Ends, Constantly, Converts, Into, truth_jump}
use Rattle.lower_correct.proofs.Words.{Ranged, ranged, smallest_has, converts_again, converted_is_word, word_stays, differ}
use Rattle.lower_correct.proofs.Steps.{Reaches, GoesTo, goes, from, Sim, sim_then, sim_more, sim_map, sim_move, undefined_or, tick_in, tick_ends, find_in, halts}
use Rattle.lower_correct.proofs.Standing.{Scratch, here, put_scratch, type_in, put_state, Takes, does_nothing, does_move, does_jump, does_convert, world, sizes}
use Rattle.lower_correct.proofs.Stores.{World, Fine, after_on, after_put, with_tree, fine_put, put_is_stored, read_back, read_fits, fine_later, after_later, after_since}
use Rattle.lower_correct.proofs.Goods.{keeps_all, keeps_put, IsFree, IsFreeFor, HasIn, has_put, meets, Known, known_with, SuitsIn, Suits, takes, Good, ends, mode_free, mode_suits, Held, held, object_state}

-- object x of a call is a number of type u
pub record IsNumber (objects : List ObjectType) (x : ℕ) (u : IntType) : Type 0 where
  pub type : ObjectType
  pub at : slice_get objects x ≡ Some type
  pub element : type.element ≡ u
  pub lengths : type.lengths ≡ []

pub scalar_is : (objects : List ObjectType) (x : ℕ) (u : IntType) → IsNumber objects x u → scalar_type (slice_get objects x) ≡ Some u
scalar_is objects x u n = ap scalar_type n.at ∙ (ap (λ l. type_if_scalar l n.type.element) n.lengths ∙ ap Some n.element)

pub writes_itself : (x : ℕ) (b : Bool) → (nat_eq x x || b) ≡ true
writes_itself x b = let e : nat_eq x x ≡ true = grind (arith, nat_tests) in ap (λ z. z || b) e

pub or_right : (a b : Bool) → (a || b) ≡ false → b ≡ false
or_right true b e = absurd (differ (sym e))
or_right false b e = e

pub or_left : (a b : Bool) → (a || b) ≡ false → a ≡ false
or_left true b e = absurd (differ (sym e))
or_left false b e = refl

module _ (p : typed.Program) (call : Calling) (q : Program) (deep f : ℕ) where
  -- the code follows the evaluation of an expression, for some use of its value
  abbrev pub IntoDoes : Expression → Mode → ℕ → ℕ → ℕ → ℕ → Type 0
  IntoDoes e m t k pc pc2 = (s : machine.State) (now : Scratch) (ws : List Call) → s.clock ≤ deep → Fine (world p q f ws) s
      → Sim q 14 (60 * s.clock) s.clock (here f pc now ws s) (Good p q f e m t k pc2 s now ws) (evaluate p call e s)

  -- ---- constants

  known_constant : {W : World} (u : IntType) (c : ℤ) (t k n : ℕ) (s : machine.State) (now : Scratch) → IsValueOf u c → Fine W s
      → Known W (typed.constant u c) t k s now c (record s { clock = n }) now
  known_constant {W} u c t k n s now h fine = record {
    keeps = keeps_all false t k now;
    fine = fine_later W s n fine;
    value = smallest_has u c h;
    after = after_later (writes (typed.constant u c)) s n;
    rests = tt;
    constant = refl;
  }

  jumps_known : (b sense : Bool) (to pc pc2 : ℕ) (now : Scratch) (ws : List Call) (s : machine.State)
      → One (function_at q f).code (truth_jump b sense to) pc pc2
      → (c : ℕ) × (c ≤ 1) × Reaches q (here f pc now ws s) 1 c (running (here f (choose (meets sense b) to pc2) now ws s))
  jumps_known true true to pc pc2 now ws s o = (1, omega arith, does_jump q f to pc pc2 now ws s o)
  jumps_known true false to pc pc2 now ws s o = (0, omega arith, does_nothing q f pc pc2 now ws s o)
  jumps_known false true to pc pc2 now ws s o = (0, omega arith, does_nothing q f pc pc2 now ws s o)
  jumps_known false false to pc pc2 now ws s o = (1, omega arith, does_jump q f to pc pc2 now ws s o)

  constant_ends : (u : IntType) (c : ℤ) (m : Mode) (t k n pc pc2 : ℕ) (now : Scratch) (ws : List Call) (s : machine.State) → IsFreeFor m t k
      → Suits p q f m (smallest u c) → IsValueOf u c
      → Fine (world p q f ws) s → Constantly (function_at q f).code m c pc pc2
      → GoesTo q 14 (60 * n + 60) (suc n) (here f pc now ws s) (Good p q f (typed.constant u c) m t k pc2 s now ws c) (record s { clock = n })
  constant_ends u c Nowhere t k n pc pc2 now ws s fr su h fine o =
      goes q 14 (Good p q f (typed.constant u c) Nowhere t k pc2 s now ws c) (60 * n + 60) (suc n) 1 0 (here f pc now ws s) (here f pc2 now ws s)
      (record s { clock = n })
      (does_nothing q f pc pc2 now ws s o) (omega arith) (omega arith)
      (record { now = now; at = refl; has = tt; known = known_constant u c t k n s now h fine })
  constant_ends u c (To g) t k n pc pc2 now ws s fr su h fine o =
      let w = word_for c in
      let known = known_constant u c t k n s now h fine in
      goes q 14 (Good p q f (typed.constant u c) (To g) t k pc2 s now ws c) (60 * n + 60) (suc n) 1 6 (here f pc now ws s)
      (here f pc2 (put_scratch g w now) ws (put_state q f g w (record s { clock = n }))) (record s { clock = n })
      (does_move q f g (operand.Constant w) w pc pc2 now ws (record s { clock = n }) o refl (takes p q f g (smallest u c) c su (smallest_has u c h)))
      (omega arith) (omega arith)
      (record {
        now = put_scratch g w now;
        at = refl;
        has = has_put g w now;
        known =
            known_with (world p q f ws) (typed.constant u c) t k s now c (record s { clock = n }) now (put_scratch g w now)
            (keeps_put g w false t k now now fr known.keeps) known;
      })
  constant_ends u c (If sense to) t k n pc pc2 now ws s fr su h fine o =
      let j = jumps_known (truth c) sense to pc pc2 now ws s o in
      goes q 14 (Good p q f (typed.constant u c) (If sense to) t k pc2 s now ws c) (60 * n + 60) (suc n) 1 j.0 (here f pc now ws s)
      (here f (choose (meets sense (truth c)) to pc2) now ws s) (record s { clock = n })
      j.2 (omega (arith, j.1)) (omega arith) (record { now = now; at = refl; has = tt; known = known_constant u c t k n s now h fine })

  pub constant_does : (u : IntType) (c : ℤ) (m : Mode) (t k pc pc2 : ℕ) → IsFreeFor m t k → Suits p q f m (smallest u c) → IsValueOf u c
      → Constantly (function_at q f).code m c pc pc2 → IntoDoes (typed.constant u c) m t k pc pc2
  constant_does u c m t k pc pc2 fr su h o s now ws le fine =
      tick_ends q 14 (Good p q f (typed.constant u c) m t k pc2 s now ws) (here f pc now ws s) s (λ s. Goes c s) refl refl
      (λ n lt. constant_ends u c m t k n pc pc2 now ws s fr su h fine o)

  -- ---- reads

  read_ends : (at : Pos) (x : ℕ) (u : IntType) (m : Mode) (t k n p1 pc2 : ℕ) (now : Scratch) (ws : List Call) (s : machine.State) (o : Option ℤ)
      → value_at s.store (whole (s.base + x)) ≡ o
      → IsNumber (function_at q f).objects x u → IsFreeFor m t k → Suits p q f m u → Fine (world p q f ws) s
      → Ends (function_at q f).code m (operand.Object x) p1 pc2
      → Sim q 14 (60 * n + 60 + 0) n (here f p1 now ws s) (Good p q f (typed.read u (typed.named at (typed.automatic x))) m t k pc2 s now ws)
      (value_or_undefined at o (record s { clock = n }))
  read_ends at x u m t k n p1 pc2 now ws s None e num fr su fine i =
      halts q (60 * n + 60 + 0) (here f p1 now ws s) (record s { clock = n }) refl refl
  read_ends at x u m t k n p1 pc2 now ws s (Some v) e num fr su fine i =
      ends p q f (typed.read u (typed.named at (typed.automatic x))) m t k (operand.Object x) p1 pc2 (60 * n + 60 + 0) s now now ws v (record s { clock = n }) fr
      su i
      (ap (option_map (λ z. word (word_for z))) e) (omega arith)
      (record {
        keeps = keeps_all false t k now;
        fine = fine_later (world p q f ws) s n fine;
        value = subst (λ z. IsValueOf z v) num.element (read_fits (world p q f ws) x num.type v s num.at fine e);
        after = after_later (λ y. false) s n;
        rests = e;
        constant = tt;
      })

  pub read_does : (at : Pos) (x : ℕ) (u : IntType) (m : Mode) (t k pc pc2 : ℕ) → IsNumber (function_at q f).objects x u → IsFreeFor m t k → Suits p q f m u
      → Into (function_at q f).code (sizes p f) (typed.read u (typed.named at (typed.automatic x))) m t k pc pc2
      → IntoDoes (typed.read u (typed.named at (typed.automatic x))) m t k pc pc2
  read_does at x u m t k pc pc2 num fr su h s now ws le fine =
      find_in q 14 (Good p q f (typed.read u (typed.named at (typed.automatic x))) m t k pc2 s now ws) (here f pc now ws s) (here f h.0 now ws s) s 0
      (60 * s.clock)
      (λ s. Goes (whole (s.base + x)) s) (λ r s. read at r s) (omega arith) refl refl (does_nothing q f pc h.0 now ws s h.1)
      (λ n lt. read_ends at x u m t k n h.0 pc2 now ws s (value_at s.store (whole (s.base + x))) refl num fr su fine h.2)

  -- ---- values that go to a target, converted

  abbrev pub IsTyped : Target → IntType → Type 0
  IsTyped (target.Temporary j) u = Unit {0}
  IsTyped (target.Kept j) u = Unit {0}
  IsTyped (target.Object x) u = type_in q f x ≡ Some u

  pub takes_converted : (g : Target) (u : IntType) (v : ℤ) → IsTyped g u → Ranged v → Takes q f g (word_for (number_of u (word_for v)))
  takes_converted (target.Temporary j) u v h r = tt
  takes_converted (target.Kept j) u v h r = tt
  takes_converted (target.Object x) u v h r = (u, h, subst (λ z. is_word_of u (word_for z) ≡ true) (sym (converts_again u v r)) (converted_is_word u v))

  -- the code is after an expression whose value, converted, went to g
  pub record Converted (e : Expression) (u : IntType) (g : Target) (t k pc2 : ℕ) (before : machine.State) (old : Scratch) (ws : List Call) (v : ℤ)
      (s : machine.State) (z : State) : Type 0 where
    pub now : Scratch
    pub at : z ≡ here f pc2 now ws (put_state q f g (word_for (converted u v)) s)
    pub has : HasIn g (word_for (converted u v)) now
    pub known : Known (world p q f ws) e t k before old v s now

  abbrev pub ConvertsDoes : Expression → IntType → Target → ℕ → ℕ → ℕ → ℕ → Type 0
  ConvertsDoes e u g t k pc pc2 = (s : machine.State) (now : Scratch) (ws : List Call) → s.clock ≤ deep → Fine (world p q f ws) s
      → Sim q 14 (60 * s.clock + 8) s.clock (here f pc now ws s) (Converted e u g t k pc2 s now ws) (evaluate p call e s)

  suits_kept : (g : Target) (u z : IntType) → IsTyped g u → stays_word u z ≡ true → SuitsIn p q f g z
  suits_kept (target.Temporary j) u z h e = tt
  suits_kept (target.Kept j) u z h e = tt
  suits_kept (target.Object x) u z h e = (u, h, e)

  kept_converted : (e : Expression) (u : IntType) (g : Target) (t k pc2 : ℕ) (before : machine.State) (old : Scratch) (ws : List Call) (v : ℤ)
      (s : machine.State) (z : State) → keeps u e ≡ true
      → Good p q f e (To g) t k pc2 before old ws v s z → Converted e u g t k pc2 before old ws v s z
  kept_converted e u g t k pc2 before old ws v s z h good =
      let same : word_for v ≡ word_for (converted u v) = sym (word_stays u (extent e) v h good.known.value) in
      record {
        now = good.now;
        at = good.at ∙ ap (λ w. here f pc2 good.now ws (put_state q f g w s)) same;
        has = subst (λ w. HasIn g w good.now) same good.has;
        known = good.known;
      }

  convert_ends : (e : Expression) (u : IntType) (g : Target) (o : Operand) (t k p1 pc2 : ℕ) (before : machine.State) (old : Scratch) (ws : List Call) (v : ℤ)
      (s : machine.State) (z : State) → IsTyped g u → IsFree g t k
      → One (function_at q f).code (instruction.Convert u g o) p1 pc2 → Held p q f e o t k p1 before old ws v s z
      → GoesTo q 14 (60 * s.clock + 22) s.clock z (Converted e u g t k pc2 before old ws v) s
  convert_ends e u g o t k p1 pc2 before old ws v s z ty fr i h =
      let r = ranged (extent e) v h.known.value in
      let w = word_for (number_of u (word_for v)) in
      let same : w ≡ word_for (converted u v) = ap word_for (converts_again u v r) in
      let now2 = put_scratch g w h.now in
      goes q 14 (Converted e u g t k pc2 before old ws v) (60 * s.clock + 22) s.clock 1 8 z (here f pc2 now2 ws (put_state q f g w s)) s
      (from q z (here f p1 h.now ws s) 1 8 (running (here f pc2 now2 ws (put_state q f g w s))) h.at
      (does_convert q f u g o (word_for v) p1 pc2 h.now ws s i h.holds (takes_converted g u v ty r))) (omega arith) (omega arith)
      (record {
        now = now2;
        at = ap (λ w. here f pc2 now2 ws (put_state q f g w s)) same;
        has = subst (λ n. HasIn g n now2) same (has_put g w h.now);
        known = known_with (world p q f ws) e t k before old v s h.now now2 (keeps_put g w (calls e) t k old h.now fr h.known.keeps) h.known;
      })

  pub converts_does : (b : Bool) (e : Expression) (u : IntType) (g : Target) (t k pc pc2 : ℕ) → keeps u e ≡ b → IsTyped g u → IsFree g t k
      → ((m : Mode) (a z : ℕ) → IsFreeFor m t k → Suits p q f m (extent e) → Into (function_at q f).code (sizes p f) e m t k a z → IntoDoes e m t k a z)
      → Converts (function_at q f).code b (λ m a z. Into (function_at q f).code (sizes p f) e m t k a z) u (operand_of e t k) g pc pc2 → ConvertsDoes e u g t k pc pc2
  converts_does true e u g t k pc pc2 h ty fr de i s now ws le fine =
      sim_map q 14 14 (Good p q f e (To g) t k pc2 s now ws) (Converted e u g t k pc2 s now ws) (60 * s.clock) (60 * s.clock + 8) s.clock (here f pc now ws s)
      (evaluate p call e s) (omega arith) (omega arith)
      (de (To g) pc pc2 fr (suits_kept g u (extent e) ty h) i s now ws le fine)
      (λ v s2 z good. kept_converted e u g t k pc2 s now ws v s2 z h good)
  converts_does false e u g t k pc pc2 h ty fr de i s now ws le fine =
      let o = operand_of e t k in
      sim_more q 14 14 (Good p q f e (mode_of o) t k i.0 s now ws) (Converted e u g t k pc2 s now ws) (60 * s.clock) 22 (60 * s.clock + 8) s.clock
      (here f pc now ws s) (evaluate p call e s) (omega arith) (omega arith)
      (de (mode_of o) pc i.0 (mode_free p q f (constant_of e) (rests_in e) writes_none false t k)
      (mode_suits p q f (constant_of e) (rests_in e) writes_none false t k (extent e)) i.1 s now ws le fine)
      (λ v s2 z lt good. convert_ends e u g o t k i.0 pc2 s now ws v s2 z ty fr i.2 (held p q f e writes_none false t k i.0 s now ws v s2 z good))

  -- ---- objects that are written to

  -- the state where object x has just got v, and the use of the value
  pub write_ends : (e : Expression) (at : Pos) (x : ℕ) (u : IntType) (m : Mode) (t k pc pc2 hi b w : ℕ) (before : machine.State) (old now : Scratch)
      (ws : List Call) (v : ℤ) (s : machine.State) (z : State)
      → IsNumber (function_at q f).objects x u → IsFreeFor m t k → Suits p q f m (extent e) → Ends (function_at q f).code m (operand.Object x) pc pc2 → s.base ≡ b
      → Fine (world p q f ws) s
      → z ≡ here f pc now ws (put_state q f (target.Object x) w s) → number_of u w ≡ v → IsValueOf u v → 60 * s.clock + 22 ≤ hi
      → (Fine (world p q f ws) (with_tree x (Element (Some v)) s)
      → value_at (put s.store (whole (s.base + x)) (Element (Some v))) (whole (s.base + x)) ≡ Some v
      → Known (world p q f ws) e t k before old v (with_tree x (Element (Some v)) s) now)
      → Sim q 14 hi s.clock z (Good p q f e m t k pc2 before old ws) (write p at (whole (b + x)) v s)
  write_ends e at x u m t k pc pc2 hi b w before old now ws v s z num fr su i eb fine ez ew hv h1 known =
      let s3 = with_tree x (Element (Some v)) s in
      let there : value_at (put s.store (whole (s.base + x)) (Element (Some v))) (whole (s.base + x)) ≡ Some v =
      read_back (world p q f ws) x num.type v s num.at fine in
      let fine3 = fine_put (world p q f ws) x num.type v s num.at num.lengths (subst (λ y. IsValueOf y v) (sym num.element) hv) fine in
      let now_at : z ≡ here f pc now ws s3 = ez ∙ ap (here f pc now ws) (object_state p q f x u w v s (scalar_is (function_at q f).objects x u num) ew) in
      let last : Sim q 14 hi s.clock (here f pc now ws s3) (Good p q f e m t k pc2 before old ws) (Goes v s3) =
      ends p q f e m t k (operand.Object x) pc pc2 hi before old now ws v s3 fr su i (ap (option_map (λ y. word (word_for y))) there) h1 (known fine3 there) in
      subst (λ n. Sim q 14 hi s.clock z (Good p q f e m t k pc2 before old ws) (write p at (whole (n + x)) v s)) eb
      (undefined_or q 14 (Good p q f e m t k pc2 before old ws) hi s.clock z (nat_lt (s.base + x) (length p.literals)) U7 at s
      (Goes v (stored (whole (s.base + x)) v s)) (ap (λ y. y.history) now_at) (ap (λ y. y.input) now_at)
      (subst (λ y. Sim q 14 hi s.clock z (Good p q f e m t k pc2 before old ws) (Goes v y))
      (put_is_stored (world p q f ws) x num.type v s num.at num.lengths fine)
      (sim_move q 14 (Good p q f e m t k pc2 before old ws) hi s.clock z (here f pc now ws s3) (Goes v s3) now_at last)))

  assign_last : (at at2 : Pos) (u : IntType) (x : ℕ) (e : Expression) (m : Mode) (t k n p2 pc2 : ℕ) (now : Scratch) (ws : List Call) (s : machine.State)
      → IsNumber (function_at q f).objects x u → IsFreeFor m t k → Suits p q f m u → Ends (function_at q f).code m (operand.Object x) p2 pc2
      → (v : ℤ) (s2 : machine.State) (z : State) → Converted e u (target.Object x) t k p2 (record s { clock = n }) now ws v s2 z
      → Sim q 14 (60 * s2.clock + 126) s2.clock z (Good p q f (typed.assigned at u (typed.named at2 (typed.automatic x)) e) m t k pc2 s now ws)
      (write p at (whole (s.base + x)) (converted u v) s2)
  assign_last at at2 u x e m t k n p2 pc2 now ws s num fr su i v s2 z c =
      let a = typed.assigned at u (typed.named at2 (typed.automatic x)) e in
      let cv = converted u v in
      let s3 = with_tree x (Element (Some cv)) s2 in
      let cr = ranged u cv (converted_fits u v) in
      write_ends a at x u m t k p2 pc2 (60 * s2.clock + 126) s.base (word_for cv) s now c.now ws cv s2 z num fr su i c.known.after.base c.known.fine c.at
      (converts_again u cv cr ∙ converted_keeps u cv (converted_fits u v)) (converted_fits u v) (omega arith)
      (λ fine there. record {
        keeps = c.known.keeps;
        fine = fine;
        value = converted_fits u v;
        after = after_on (writes a) (writes e) (writes a) s s2 s3 (λ y h. or_right (nat_eq x y) (writes e y) h) (λ y h. h)
            (after_since (writes e) s s2 n c.known.after) (after_put (writes a) x (Element (Some cv)) s2 (writes_itself x (writes e x)));
        rests = there;
        constant = tt;
      })

  pub assign_does : (at at2 : Pos) (u : IntType) (x : ℕ) (e : Expression) (m : Mode) (t k pc pc2 : ℕ) → IsNumber (function_at q f).objects x u → IsFreeFor m t k
      → Suits p q f m u
      → ((n : Mode) (a z : ℕ) → IsFreeFor n t k → Suits p q f n (extent e) → Into (function_at q f).code (sizes p f) e n t k a z → IntoDoes e n t k a z)
      → Into (function_at q f).code (sizes p f) (typed.assigned at u (typed.named at2 (typed.automatic x)) e) m t k pc pc2
      → IntoDoes (typed.assigned at u (typed.named at2 (typed.automatic x)) e) m t k pc pc2
  assign_does at at2 u x e m t k pc pc2 num fr su de h s now ws le fine =
      let Result = Good p q f (typed.assigned at u (typed.named at2 (typed.automatic x)) e) m t k pc2 s now ws in
      let last : Reference → ℤ → machine.State → Run ℤ = λ r v s. write p at r (converted u v) s in
      tick_in q 14 Result (here f pc now ws s) (here f h.0 now ws s) s 0 (60 * s.clock)
      (λ s. then_do (find p call (typed.named at2 (typed.automatic x)) s) (λ r s. then_do (evaluate p call e s) (last r)))
      (omega arith) refl refl (does_nothing q f pc h.0 now ws s h.3)
      (λ n lt. find_in q 14 Result (here f h.0 now ws s) (here f h.1 now ws s) (record s { clock = n }) 60 (60 * n + 60 + 0)
      (λ s. Goes (whole (s.base + x)) s) (λ r s. then_do (evaluate p call e s) (last r)) (omega arith) refl refl (does_nothing q f h.0 h.1 now ws s h.4)
      (λ n2 lt2.
      let s2 : machine.State = record s { clock = n2 } in
      sim_then q 14 14 (Converted e u (target.Object x) t k h.2 s2 now ws) Result (60 * n2 + 8) 126 (60 * n2 + 60 + 60) n2 (here f h.1 now ws s)
      (evaluate p call e s2) (last (whole (s.base + x))) (omega arith) (omega arith)
      (converts_does (keeps u e) e u (target.Object x) t k h.1 h.2 refl (scalar_is (function_at q f).objects x u num) tt de h.5 s2 now ws
      (omega (arith, le, lt, lt2)) (fine_later (world p q f ws) s n2 fine))
      (λ v s3 z lt3 c. assign_last at at2 u x e m t k n2 h.2 pc2 now ws s num fr su h.6 v s3 z c)))
