-- The code reads values in memory, and writes to them (ISO/IEC 9899:2011 6.3.2.1, 6.5.16, 6.5.2.4, 6.5.3.1), if it finds the place.
use Rattle.std.proofs.Common.{◌≡◌, ℕ, ◌+◌, ◌*◌, ◌≤◌, List, [], length, Option, Some, None, Bool, true, false, not, ◌||◌, ℤ, refl, sym, ap, ◌∙◌, subst, arith}
use Rattle.std.specs.Prelude.{nat_eq, nat_lt, slice_get, option_map}
use Rattle.srcset.specs.declared.refusal.Pos.{Pos}
use Rattle.ctypes.specs.declared.types.IntType.{IntType}
use Rattle.ctypes.specs.declared.types.IntType.TheVariants as ty
use Rattle.ctypes.specs.declared.operators.Undef.TheVariants.{U7}
use Rattle.ctypes.specs.Types.{IsValueOf, converted}
use Rattle.ctypes.proofs.Uses.{converted_fits}
use Rattle.typing_spec.specs.Types.{DeclaredType, complete, unknown_size, same_type}
use Rattle.typing_spec.specs.Program as typed
use Rattle.typing_spec.specs.Program.{Moment, Place, Function, Value as Expression}
use Rattle.typing_spec.specs.Nodes.{type_of_place}
use Rattle.typing_spec.specs.WellTyped.{is_scalar}
use Rattle.csem.specs.Store.{Element, Reference, value_of, value_at, put}
use Rattle.csem.specs.Machine as machine
use Rattle.csem.specs.Machine.{Run, Goes, Stops, then_do, tick, choose, undefined, computed_at, read, write, value_or_undefined, stored}
use Rattle.csem.specs.Expressions.{Calling, find, position_of}
use Rattle.tac_code.specs.declared.code.Operand.{Operand}
use Rattle.tac_code.specs.declared.code.Operand.TheVariants as operand
use Rattle.tac_code.specs.declared.code.Target.TheVariants as target
use Rattle.tac_code.specs.declared.code.Place.{Place as Spot}
use Rattle.tac_code.specs.Code.{Program, function_at}
use Rattle.tac_code.specs.Run.{word, Call, State, running, word_for, number_of, held_by}
use Rattle.lower_correct.specs.Values.{object_of}
use Rattle.lower_correct.specs.Values.{place_calls, place_writes, writes_none, extent, Mode, Nowhere, To, If, target_of}
use Rattle.lower_correct.specs.Places.{is_truth, cuts, found, free_temporary_at, free_kept_at}
use Rattle.lower_correct.specs.Code.{Ends, Gets, Puts}
use Rattle.lower_correct.proofs.Words.{Ranged, differ, bool_cases, left_true, right_true, converts_again}
use Rattle.lower_correct.proofs.Steps.{Reaches, reaches_on, stays, GoesTo, goes, Sim, sim_then, sim_move, halts}
use Rattle.lower_correct.proofs.Shapes.{value_in}
use Rattle.lower_correct.proofs.Stores.{World, Refers, Fine, After, after_none, after_store}
use Rattle.lower_correct.proofs.Standing.{Scratch, here, put_scratch, set_same, put_state, Holds, does_convert, first_automatic, world, IsCode}
use Rattle.lower_correct.proofs.Memory.{IsAt, tree_there, element_is_stored, held_word, does_load, does_store}
use Rattle.lower_correct.proofs.Goods.{Keeps, keeps_all, keeps_put, IsFreeFor, RestsIn, Known, is_number_there, Suits, takes, target_suits, Good, ends, follows}
use Rattle.lower_correct.proofs.Leaves.{IntoDoes}
use Rattle.lower_correct.proofs.Typing.{same_type_is, no_length}
use Rattle.lower_correct.proofs.Finding.{RefersAs, Found, FindsDo, stays_found}

pub scalar_refers : (W : World) (r : Reference) (u : IntType) (T : Option DeclaredType) → is_scalar u T ≡ true → RefersAs W r T → Refers W r u []
scalar_refers W r u None h g = absurd g
scalar_refers W r u (Some (unknown_size t)) h g = absurd (differ h)
scalar_refers W r u (Some (complete t)) h g =
    let same = same_type_is u t.element (left_true (same_type u t.element) (nat_eq (length t.lengths) 0) h) in
    let none = no_length t.lengths (right_true (same_type u t.element) (nat_eq (length t.lengths) 0) h) in
    subst (λ y. Refers W r y []) (sym same) (subst (λ l. Refers W r t.element l) none g)

-- ---- the operands of a store

held_same : (u : IntType) (v : ℤ) → word_for v ≡ word_for (converted u v) → held_by u (word_for v) ≡ Some (converted u v)
held_same u v e = ap (held_by u) e ∙ held_word u (converted u v) (converted_fits u v)

pub held_cut : (u : IntType) (v : ℤ) → not (is_truth u) ≡ true → Ranged v → held_by u (word_for v) ≡ Some (converted u v)
held_cut ty.Bool v h r = absurd (differ h)
held_cut ty.Char v h r = ap Some (converts_again ty.Char v r)
held_cut ty.SChar v h r = ap Some (converts_again ty.SChar v r)
held_cut ty.UChar v h r = ap Some (converts_again ty.UChar v r)
held_cut ty.Short v h r = ap Some (converts_again ty.Short v r)
held_cut ty.UShort v h r = ap Some (converts_again ty.UShort v r)
held_cut ty.Int v h r = ap Some (converts_again ty.Int v r)
held_cut ty.UInt v h r = ap Some (converts_again ty.UInt v r)
held_cut ty.Long v h r = ap Some (converts_again ty.Long v r)
held_cut ty.ULong v h r = ap Some (converts_again ty.ULong v r)

-- a value that may be stored as it is, for this use
abbrev pub CanStay : IntType → Mode → ℤ → Type 0
CanStay u Nowhere v = held_by u (word_for v) ≡ Some (converted u v)
CanStay u (To g) v = word_for v ≡ word_for (converted u v)
CanStay u (If sense to) v = word_for v ≡ word_for (converted u v)

pub can_stay : (u : IntType) (m : Mode) (v : ℤ) (b : Bool) → Ranged v → (b ≡ true → word_for v ≡ word_for (converted u v)) → (cuts u m || b) ≡ true
    → CanStay u m v
can_stay u Nowhere v b r same h =
    bool_cases (not (is_truth u)) (λ e. held_cut u v e r) (λ e. held_same u v (same (sym (ap (λ z. z || b) e) ∙ h)))
can_stay u (To g) v b r same h = same h
can_stay u (If sense to) v b r same h = same h

held_if : (u : IntType) (m : Mode) (v : ℤ) → CanStay u m v → held_by u (word_for v) ≡ Some (converted u v)
held_if u Nowhere v h = h
held_if u (To g) v h = held_same u v h
held_if u (If sense to) v h = held_same u v h

-- the value of the expression, where it is used, is the one that was stored
abbrev pub IsFinal : Mode → ℤ → ℤ → Type 0
IsFinal Nowhere x y = Unit {0}
IsFinal (To g) x y = x ≡ y
IsFinal (If sense to) x y = x ≡ y

pub final_same : (m : Mode) (x : ℤ) → IsFinal m x x
final_same Nowhere x = tt
final_same (To g) x = refl
final_same (If sense to) x = refl

module _ (p : typed.Program) (tf : Function) (call : Calling) (q : Program) (deep f : ℕ) (is : IsCode p tf q f) where
  -- ---- reads

  get_last : (a : Place) (u : IntType) (m : Mode) (t k p1 pc2 : ℕ) (before : machine.State) (old now2 : Scratch) (ws : List Call) (r : Reference)
      (s2 : machine.State) (o : Option ℤ)
      → object_of a ≡ None → value_at s2.store r ≡ o → is_scalar u (type_of_place p tf a) ≡ true → IsFreeFor m t k → Suits p q f m u
      → Gets (function_at q f).code u (found a false t k) m t p1 pc2
      → IsAt p q f (found a false t k) r now2 s2 → RefersAs (world p q f ws) r (type_of_place p tf a) → Keeps (place_calls a) t k old now2
      → Fine (world p q f ws) s2 → After (first_automatic q) (place_writes a) before s2
      → Sim q 14 (60 * s2.clock + 40) s2.clock (here f p1 now2 ws s2) (Good p q f (typed.read u a) m t k pc2 before old ws)
      (value_or_undefined (position_of a) o s2)
  get_last a u m t k p1 pc2 before old now2 ws r s2 None apart e sc fr su i ha hr kk fine after =
      halts q (60 * s2.clock + 40) (here f p1 now2 ws s2) s2 refl refl
  get_last a u m t k p1 pc2 before old now2 ws r s2 (Some v) apart e sc fr su i ha hr kk fine after =
      let refers = scalar_refers (world p q f ws) r u (type_of_place p tf a) sc hr in
      let sub = tree_there (world p q f ws) r u [] s2 fine refers in
      let hv : IsValueOf u v = value_in u [] sub.tree v sub.has (ap value_of (sym sub.is) ∙ e) in
      let g = target_of m t in
      let load = does_load p q f u g (found a false t k) r v p1 i.0 now2 ws s2 i.1 ha refers e (takes p q f g u v (target_suits p q f m t u su) hv) in
      let l = follows p q f (typed.read u a) m t k i.0 pc2 (60 * s2.clock + 22) before old now2 ws v s2 fr i.2 (omega arith)
      (record { keeps = kk; fine = fine; value = hv; after = after; rests = subst (λ o. RestsIn o v s2) (sym apart) tt; constant = tt }) in
      goes q 14 (Good p q f (typed.read u a) m t k pc2 before old ws v) (60 * s2.clock + 40) s2.clock (1 + l.j) (7 + l.c) (here f p1 now2 ws s2) l.u s2
      (reaches_on q (here f p1 now2 ws s2) (here f i.0 (put_scratch g (word_for v) now2) ws (put_state q f g (word_for v) s2)) 1 7 l.j l.c (running l.u)
      load l.reaches)
      (let h = l.within in omega (arith, h)) (omega arith) l.good

  pub get_does : (a : Place) (u : IntType) (m : Mode) (t k pc p1 pc2 : ℕ) → object_of a ≡ None → is_scalar u (type_of_place p tf a) ≡ true
      → IsFreeFor m t k → Suits p q f m u → FindsDo p tf call q deep f is a false t k pc p1
      → Gets (function_at q f).code u (found a false t k) m t p1 pc2 → IntoDoes p call q deep f (typed.read u a) m t k pc pc2
  get_does a u m t k pc p1 pc2 apart sc fr su da i s now ws le fine =
      let Result2 = Good p q f (typed.read u a) m t k pc2 s now ws in
      sim_then q 40 14 (Found p tf call q deep f is a false t k p1 s now ws) Result2 (60 * s.clock) 40 (60 * s.clock) s.clock (here f pc now ws s)
      (find p call a s) (λ r s. read (position_of a) r s) (omega arith) (omega arith) (da s now ws le fine)
      (λ r s2 z lt fa. sim_move q 14 Result2 (60 * s2.clock + 40) s2.clock z (here f p1 fa.now ws s2) (read (position_of a) r s2) fa.at
      (get_last a u m t k p1 pc2 s now fa.now ws r s2 (value_at s2.store r) apart refl sc fr su i fa.holds fa.refers fa.keeps fa.fine fa.after))

  -- ---- writes

  abbrev pub with_element : Reference → ℤ → machine.State → machine.State
  with_element r v s = record s { store = put s.store r (Element (Some v)) }

  holds_store : (o : Operand) (w : ℕ) (r : Reference) (u : IntType) (v : ℤ) (now : Scratch) (ws : List Call) (s : machine.State)
      → Fine (world p q f ws) s → Refers (world p q f ws) r u [] → Holds q f o w now s → Holds q f o w now (with_element r v s)
  holds_store (operand.Temporary j) w r u v now ws s fine hr h = h
  holds_store (operand.Kept j) w r u v now ws s fine hr h = h
  holds_store (operand.Object x) w r u v now ws s fine hr h =
      ap (λ o. option_map (λ z. word (word_for z)) (value_of o))
      ((after_store (world p q f ws) writes_none r u [] (Element (Some v)) s fine hr).still x refl
      (is_number_there (slice_get s.store (s.base + x)) w h)) ∙ h
  holds_store (operand.Parameter n) w r u v now ws s fine hr h = h
  holds_store (operand.Constant c) w r u v now ws s fine hr h = h

  abbrev pub HoldsFor : Mode → Operand → ℕ → Scratch → machine.State → Type 0
  HoldsFor Nowhere o w now s = Unit {0}
  HoldsFor (To g) o w now s = Holds q f o w now s
  HoldsFor (If sense to) o w now s = Holds q f o w now s

  holds_for : (m : Mode) (o : Operand) (w : ℕ) (now : Scratch) (s : machine.State) → Holds q f o w now s → HoldsFor m o w now s
  holds_for Nowhere o w now s h = tt
  holds_for (To g) o w now s h = h
  holds_for (If sense to) o w now s h = h

  -- v was stored, converted, and is in an operand where it is used
  pub record Stored (u : IntType) (m : Mode) (t2 pc2 : ℕ) (r : Reference) (v : ℤ) (now : Scratch) (ws : List Call) (s : machine.State) (z : State) : Type 0 where
    pub operand : Operand
    pub pc : ℕ
    pub steps : ℕ
    pub cost : ℕ
    pub now2 : Scratch
    pub reaches : Reaches q z steps cost (running (here f pc now2 ws (with_element r (converted u v) s)))
    pub small : cost ≤ 15
    pub some : 1 ≤ steps
    pub keeps : (b : Bool) (i k : ℕ) (old : Scratch) → i ≤ t2 → Keeps b i k old now → Keeps b i k old now2
    pub ends : Ends (function_at q f).code m operand pc pc2
    pub holds : HoldsFor m operand (word_for (converted u v)) now2 (with_element r (converted u v) s)

  stored_for : (u : IntType) (m : Mode) (o : Operand) (v : ℤ) (now : Scratch) (s : machine.State) → CanStay u m v
      → Holds q f o (word_for v) now s → HoldsFor m o (word_for (converted u v)) now s
  stored_for u Nowhere o v now s c h = tt
  stored_for u (To g) o v now s c h = subst (λ w. Holds q f o w now s) c h
  stored_for u (If sense to) o v now s c h = subst (λ w. Holds q f o w now s) c h

  pub puts_do : (b : Bool) (u : IntType) (o : Operand) (a : Spot) (m : Mode) (t2 pc pc2 : ℕ) (r : Reference) (v : ℤ) (now : Scratch) (ws : List Call)
      (s : machine.State)
      → (b ≡ true → CanStay u m v) → Puts (function_at q f).code b u o a m t2 pc pc2 → Holds q f o (word_for v) now s → IsAt p q f a r now s
      → ((w : ℕ) → IsAt p q f a r (put_scratch (target.Temporary t2) w now) s) → Refers (world p q f ws) r u [] → Fine (world p q f ws) s
      → nat_lt r.object (length q.literals) ≡ false → Ranged v → Stored u m t2 pc2 r v now ws s (here f pc now ws s)
  puts_do true u o a m t2 pc pc2 r v now ws s can i h ha ha2 hr fine hl rv = record {
    operand = o;
    pc = i.0;
    steps = 1;
    cost = 7;
    now2 = now;
    reaches = does_store p q f u o a r (word_for v) (converted u v) pc i.0 now ws s i.1 h ha hr fine hl (held_if u m v (can refl));
    small = omega arith;
    some = omega arith;
    keeps = λ b i k old le n. n;
    ends = i.2;
    holds = stored_for u m o v now (with_element r (converted u v) s) (can refl) (holds_store o (word_for v) r u (converted u v) now ws s fine hr h);
  }
  puts_do false u o a m t2 pc pc2 r v now ws s can i h ha ha2 hr fine hl rv =
      let cv = converted u v in
      let w = word_for (number_of u (word_for v)) in
      let same : w ≡ word_for cv = ap word_for (converts_again u v rv) in
      let now2 = put_scratch (target.Temporary t2) w now in
      let there : Holds q f (operand.Temporary t2) w now2 s = set_same now.temporaries t2 (word w) in
      record {
        operand = operand.Temporary t2;
        pc = i.1;
        steps = 1 + 1;
        cost = 8 + 7;
        now2 = now2;
        reaches = reaches_on q (here f pc now ws s) (here f i.0 now2 ws s) 1 8 1 7 (running (here f i.1 now2 ws (with_element r cv s)))
            (does_convert q f u (target.Temporary t2) o (word_for v) pc i.0 now ws s i.2 h tt)
            (does_store p q f u (operand.Temporary t2) a r w cv i.0 i.1 now2 ws s i.3 there (ha2 w) hr fine hl
            (ap (held_by u) same ∙ held_word u cv (converted_fits u v)));
        small = omega arith;
        some = omega arith;
        keeps = λ b i k old le n. keeps_put (target.Temporary t2) w b i k old now le n;
        ends = i.4;
        holds = holds_for m (operand.Temporary t2) (word_for cv) now2 (with_element r cv s)
            (subst (λ n. Holds q f (operand.Temporary t2) n now2 (with_element r cv s)) same
            (holds_store (operand.Temporary t2) w r u cv now2 ws s fine hr there));
      }

  -- the use of the value, after a store
  pub store_ends : (e : Expression) (u : IntType) (m : Mode) (t k pc pc2 hi : ℕ) (o : Operand) (x y : ℤ) (before : machine.State) (old now : Scratch)
      (ws : List Call) (s : machine.State)
      → IsFreeFor m t k → Suits p q f m (extent e) → Ends (function_at q f).code m o pc pc2 → HoldsFor m o (word_for y) now s → IsFinal m x y
      → 60 * s.clock + 22 ≤ hi → Known (world p q f ws) e t k before old x s now
      → GoesTo q 14 hi s.clock (here f pc now ws s) (Good p q f e m t k pc2 before old ws x) s
  store_ends e u Nowhere t k pc pc2 hi o x y before old now ws s fr su i h fin b known =
      goes q 14 (Good p q f e Nowhere t k pc2 before old ws x) hi s.clock 0 0 (here f pc now ws s) (here f pc now ws s) s (stays q (here f pc now ws s))
      (omega (arith, b)) (omega arith) (record { now = now; at = ap (λ n. here f n now ws s) i; has = tt; known = known })
  store_ends e u (To g) t k pc pc2 hi o x y before old now ws s fr su i h fin b known =
      ends p q f e (To g) t k o pc pc2 hi before old now ws x s fr su i (subst (λ z. Holds q f o (word_for z) now s) (sym fin) h) b known
  store_ends e u (If sense to) t k pc pc2 hi o x y before old now ws s fr su i h fin b known =
      ends p q f e (If sense to) t k o pc pc2 hi before old now ws x s fr su i (subst (λ z. Holds q f o (word_for z) now s) (sym fin) h) b known

  -- a store, which is undefined in a string literal, and the code after it
  pub write_there : {B : Type 0} (Good2 : B → machine.State → State → Type 0) (hi lo : ℕ) (z : State) (at : Pos) (r : Reference) (u : IntType) (v : ℤ)
      (ws : List Call) (s : machine.State) (go : ℤ → machine.State → Run B) (b : Bool) → Fine (world p q f ws) s → Refers (world p q f ws) r u []
      → z.history ≡ s.history → z.input ≡ s.input → nat_lt r.object (length p.literals) ≡ b
      → (nat_lt r.object (length q.literals) ≡ false → Sim q 14 hi lo z Good2 (go v (with_element r v s)))
      → Sim q 14 hi lo z Good2 (then_do (choose b (undefined U7 at s) (Goes v (stored r v s))) go)
  write_there Good2 hi lo z at r u v ws s go true fine hr e1 e2 e next = halts q hi z s e1 e2
  write_there Good2 hi lo z at r u v ws s go false fine hr e1 e2 e next =
      subst (λ y. Sim q 14 hi lo z Good2 (go v y)) (element_is_stored (world p q f ws) r u v s fine hr)
      (next (ap (λ l. nat_lt r.object (length l)) is.literals ∙ e))

  -- the found place, and a further temporary that is free
  pub found_beside : (a : Place) (c : Bool) (t k j w : ℕ) (r : Reference) (now : Scratch) (s : machine.State) → free_temporary_at (found a c t k) t ≤ j
      → IsAt p q f (found a c t k) r now s → IsAt p q f (found a c t k) r (put_scratch (target.Temporary j) w now) s
  found_beside a c t k j w r now s le h =
      stays_found p tf call q deep f is a c t k r now (put_scratch (target.Temporary j) w now) writes_none s s
      (keeps_put (target.Temporary j) w c (free_temporary_at (found a c t k) t) (free_kept_at (found a c t k) k) now now le
      (keeps_all c (free_temporary_at (found a c t k) t) (free_kept_at (found a c t k) k) now))
      (after_none writes_none s) h
