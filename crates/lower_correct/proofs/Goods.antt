-- The postcondition of the code of an expression, and how its end establishes it.
use Rattle.std.proofs.Common.{◌≡◌, ℕ, ◌+◌, ◌*◌, ◌<◌, ◌≤◌, List, Option, Some, None, Bool, true, false, not, ℤ, refl, ap, ◌∙◌, subst, arith}
use Rattle.std.specs.Prelude.{if◌then◌else◌, slice_get, option_map}
use Rattle.ctypes.specs.declared.types.IntType.{IntType}
use Rattle.ctypes.specs.Types.{IsValueOf, truth}
use Rattle.typing_spec.specs.Program as typed
use Rattle.typing_spec.specs.Program.{Value as Expression}
use Rattle.csem.specs.Store.{Tree, Element, Array, whole, value_of, value_at}
use Rattle.csem.specs.Machine as machine
use Rattle.csem.specs.Machine.{choose}
use Rattle.tac_code.specs.declared.code.Operand.{Operand}
use Rattle.tac_code.specs.declared.code.Operand.TheVariants as operand
use Rattle.tac_code.specs.declared.code.Target.{Target}
use Rattle.tac_code.specs.declared.code.Target.TheVariants as target
use Rattle.tac_code.specs.declared.code.Reading.TheVariants as reading
use Rattle.tac_code.specs.declared.code.Comparison.TheVariants as comparison
use Rattle.tac_code.specs.Code.{Program, function_at}
use Rattle.tac_code.specs.Run.{word, Call, State, running, word_for, number_of, is_element}
use Rattle.lower_correct.specs.Values.{calls, writes, rests_in, extent, stays_word, pending, unless_written, at_rest, constant_of, constant_or, waits_in, free_temporary, free_kept, Mode, Nowhere, To, If, mode_of, target_of}
use Rattle.lower_correct.specs.Code.{One, Ends, Follows, test, zero_word}
use Rattle.lower_correct.proofs.Words.{Ranged, ranged, zero_test, is_word, word_stays}
use Rattle.lower_correct.proofs.Steps.{Reaches, stays, GoesTo, goes}
use Rattle.lower_correct.proofs.Standing.{Scratch, here, put_scratch, put_typed, set_same, set_other, type_in, put_state, Takes, Holds, does_move, does_branch, world, first_automatic}
use Rattle.lower_correct.proofs.Stores.{World, Fine, After, with_tree}

-- ---- temporaries and slots

-- the temporaries below t are as they were, where nothing was called, and the slots below k
pub record Keeps (c : Bool) (t k : ℕ) (old now : Scratch) : Type 0 where
  pub temporaries : c ≡ false → (i : ℕ) → i < t → now.temporaries i ≡ old.temporaries i
  pub kept : (i : ℕ) → i < k → now.kept i ≡ old.kept i

pub keeps_all : (c : Bool) (t k : ℕ) (now : Scratch) → Keeps c t k now now
keeps_all c t k now = record { temporaries = λ h i lt. refl; kept = λ i lt. refl }

pub keeps_on : (c c1 c2 : Bool) (t k t1 k1 t2 k2 : ℕ) (a b z : Scratch) → (c ≡ false → c1 ≡ false) → (c ≡ false → c2 ≡ false) → t ≤ t1 → t ≤ t2 → k ≤ k1
    → k ≤ k2
    → Keeps c1 t1 k1 a b → Keeps c2 t2 k2 b z → Keeps c t k a z
keeps_on c c1 c2 t k t1 k1 t2 k2 a b z h1 h2 l1 l2 l3 l4 x y = record {
  temporaries = λ h i lt. y.temporaries (h2 h) i (omega (arith, lt, l2)) ∙ x.temporaries (h1 h) i (omega (arith, lt, l1));
  kept = λ i lt. y.kept i (omega (arith, lt, l4)) ∙ x.kept i (omega (arith, lt, l3));
}

-- a target that is written to only by code that may write from t and k on
abbrev pub IsFree : Target → ℕ → ℕ → Type 0
IsFree (target.Temporary j) t k = t ≤ j
IsFree (target.Kept j) t k = k ≤ j
IsFree (target.Object n) t k = Unit {0}

pub keeps_put : (g : Target) (w : ℕ) (c : Bool) (t k : ℕ) (old now : Scratch) → IsFree g t k → Keeps c t k old now → Keeps c t k old (put_scratch g w now)
keeps_put (target.Temporary j) w c t k old now f h = record {
  temporaries = λ e i lt. set_other now.temporaries j i (word w) (λ m. let z : ⊥ = omega (arith, f, lt, m) in z) ∙ h.temporaries e i lt;
  kept = h.kept;
}
keeps_put (target.Kept j) w c t k old now f h = record {
  temporaries = h.temporaries;
  kept = λ i lt. set_other now.kept j i (word w) (λ m. let z : ⊥ = omega (arith, f, lt, m) in z) ∙ h.kept i lt;
}
keeps_put (target.Object n) w c t k old now f h = h

abbrev pub IsFreeFor : Mode → ℕ → ℕ → Type 0
IsFreeFor Nowhere t k = Unit {0}
IsFreeFor (To g) t k = IsFree g t k
IsFreeFor (If sense to) t k = Unit {0}

pub target_free : (m : Mode) (t k : ℕ) → IsFreeFor m t k → IsFree (target_of m t) t k
target_free Nowhere t k f = let le : t ≤ t = omega arith in le
target_free (To g) t k f = f
target_free (If sense to) t k f = let le : t ≤ t = omega arith in le

-- the word is in a target that is no object
abbrev pub HasIn : Target → ℕ → Scratch → Type 0
HasIn (target.Temporary j) w now = now.temporaries j ≡ Some (word w)
HasIn (target.Kept j) w now = now.kept j ≡ Some (word w)
HasIn (target.Object n) w now = Unit {0}

pub has_put : (g : Target) (w : ℕ) (now : Scratch) → HasIn g w (put_scratch g w now)
has_put (target.Temporary j) w now = set_same now.temporaries j (word w)
has_put (target.Kept j) w now = set_same now.kept j (word w)
has_put (target.Object n) w now = tt

abbrev pub Has : Mode → ℕ → Scratch → Type 0
Has Nowhere w now = Unit {0}
Has (To g) w now = HasIn g w now
Has (If sense to) w now = Unit {0}

-- ---- where it goes on

abbrev pub meets : Bool → Bool → Bool
meets true b = b
meets false b = not b

abbrev pub lands : Mode → Bool → ℕ → ℕ
lands Nowhere b pc2 = pc2
lands (To g) b pc2 = pc2
lands (If sense to) b pc2 = choose (meets sense b) to pc2

-- ---- the facts known of the value

-- the object that has it
abbrev pub RestsIn : Option ℕ → ℤ → machine.State → Type 0
RestsIn None v s = Unit {0}
RestsIn (Some x) v s = value_at s.store (whole (s.base + x)) ≡ Some v

abbrev pub IsConstant : Option ℤ → ℤ → Type 0
IsConstant None v = Unit {0}
IsConstant (Some u) v = u ≡ v

pub record Known (W : World) (e : Expression) (t k : ℕ) (before : machine.State) (old : Scratch) (v : ℤ) (s : machine.State) (now : Scratch) :
    Type 0 where
  pub keeps : Keeps (calls e) t k old now
  pub fine : Fine W s
  pub value : IsValueOf (extent e) v
  pub after : After W.first (writes e) before s
  pub rests : RestsIn (rests_in e) v s
  pub constant : IsConstant (constant_of e) v

-- with other temporaries and slots
pub known_with : (W : World) (e : Expression) (t k : ℕ) (before : machine.State) (old : Scratch) (v : ℤ) (s : machine.State)
    (now now2 : Scratch)
    → Keeps (calls e) t k old now2 → Known W e t k before old v s now → Known W e t k before old v s now2
known_with W e t k before old v s now now2 h n =
    record { keeps = h; fine = n.fine; value = n.value; after = n.after; rests = n.rests; constant = n.constant }

-- a value is in an object that is no array
pub is_number_there : (o : Option Tree) (w : ℕ) → option_map (λ z. word (word_for z)) (value_of o) ≡ Some (word w) → is_element o ≡ true
is_number_there None w e = absurd (let z : ⊥ = cc in z)
is_number_there (Some (Element v)) w e = refl
is_number_there (Some (Array row)) w e = absurd (let z : ⊥ = cc in z)

module _ (p : typed.Program) (q : Program) (f : ℕ) where
  abbrev pub put_mode : Mode → ℕ → machine.State → machine.State
  put_mode Nowhere w s = s
  put_mode (To g) w s = put_state q f g w s
  put_mode (If sense to) w s = s

  -- a target that takes each value of a type
  abbrev pub SuitsIn : Target → IntType → Type 0
  SuitsIn (target.Temporary k) u = Unit {0}
  SuitsIn (target.Kept k) u = Unit {0}
  SuitsIn (target.Object n) u = (z : IntType) × (type_in q f n ≡ Some z) × (stays_word z u ≡ true)

  abbrev pub Suits : Mode → IntType → Type 0
  Suits Nowhere u = Unit {0}
  Suits (To g) u = SuitsIn g u
  Suits (If sense to) u = Unit {0}

  pub takes : (g : Target) (u : IntType) (v : ℤ) → SuitsIn g u → IsValueOf u v → Takes q f g (word_for v)
  takes (target.Temporary k) u v h n = tt
  takes (target.Kept k) u v h n = tt
  takes (target.Object n) u v h k = (h.0, h.1, is_word h.0 v (ranged u v k) (word_stays h.0 u v h.2 k))

  pub target_suits : (m : Mode) (t : ℕ) (u : IntType) → Suits m u → SuitsIn (target_of m t) u
  target_suits Nowhere t u h = tt
  target_suits (To g) t u h = h
  target_suits (If sense to) t u h = tt

  -- the code is after the expression, whose value went to its destination
  pub record Good (e : Expression) (m : Mode) (t k pc2 : ℕ) (before : machine.State) (old : Scratch) (ws : List Call) (v : ℤ) (s : machine.State) (u : State) :
      Type 0 where
    pub now : Scratch
    pub at : u ≡ here f (lands m (truth v) pc2) now ws (put_mode m (word_for v) s)
    pub has : Has m (word_for v) now
    pub known : Known (world p q f ws) e t k before old v s now

  -- ---- the end of an expression

  if_choose : (b : Bool) (x y : ℕ) → (if b then x else y) ≡ choose b x y
  if_choose true x y = refl
  if_choose false x y = refl

  not_not : (b : Bool) → not (not b) ≡ b
  not_not true = refl
  not_not false = refl

  pub does_test : (sense : Bool) (o : Operand) (to : ℕ) (v : ℤ) (pc pc2 : ℕ) (now : Scratch) (ws : List Call) (s : machine.State)
      → One (function_at q f).code (test sense o to) pc pc2 → Holds q f o (word_for v) now s → Ranged v
      → Reaches q (here f pc now ws s) 1 8 (running (here f (choose (meets sense (truth v)) to pc2) now ws s))
  does_test true o to v pc pc2 now ws s i h r =
      subst (λ n. Reaches q (here f pc now ws s) 1 8 (running (here f n now ws s))) (if_choose (truth v) to pc2)
      (does_branch q f comparison.NotEqual reading.Signed o zero_word to (word_for v) 0 (truth v) pc pc2 now ws s i h refl
      (ap not (zero_test v r) ∙ not_not (truth v)))
  does_test false o to v pc pc2 now ws s i h r =
      subst (λ n. Reaches q (here f pc now ws s) 1 8 (running (here f n now ws s))) (if_choose (not (truth v)) to pc2)
      (does_branch q f comparison.Equal reading.Signed o zero_word to (word_for v) 0 (not (truth v)) pc pc2 now ws s i h refl (zero_test v r))

  -- the value is in an operand
  pub ends : (e : Expression) (m : Mode) (t k : ℕ) (o : Operand) (pc pc2 hi : ℕ) (before : machine.State) (old now : Scratch) (ws : List Call) (v : ℤ)
      (s : machine.State)
      → IsFreeFor m t k → Suits m (extent e) → Ends (function_at q f).code m o pc pc2 → Holds q f o (word_for v) now s → 60 * s.clock + 22 ≤ hi
      → Known (world p q f ws) e t k before old v s now → GoesTo q 14 hi s.clock (here f pc now ws s) (Good e m t k pc2 before old ws v) s
  ends e Nowhere t k o pc pc2 hi before old now ws v s fr su i h b n =
      goes q 14 (Good e Nowhere t k pc2 before old ws v) hi s.clock 0 0 (here f pc now ws s) (here f pc now ws s) s (stays q (here f pc now ws s))
      (omega (arith, b)) (omega arith)
      (record { now = now; at = ap (λ n. here f n now ws s) i; has = tt; known = n })
  ends e (To g) t k o pc pc2 hi before old now ws v s fr su i h b n =
      let w = word_for v in
      let now2 = put_scratch g w now in
      goes q 14 (Good e (To g) t k pc2 before old ws v) hi s.clock 1 6 (here f pc now ws s) (here f pc2 now2 ws (put_state q f g w s)) s
      (does_move q f g o w pc pc2 now ws s i h (takes g (extent e) v su n.value)) (omega (arith, b)) (omega arith)
      (record {
        now = now2;
        at = refl;
        has = has_put g w now;
        known =
            known_with (world p q f ws) e t k before old v s now now2 (keeps_put g w (calls e) t k old now fr n.keeps) n;
      })
  ends e (If sense to) t k o pc pc2 hi before old now ws v s fr su i h b n =
      goes q 14 (Good e (If sense to) t k pc2 before old ws v) hi s.clock 1 8 (here f pc now ws s) (here f (choose (meets sense (truth v)) to pc2) now ws s) s
      (does_test sense o to v pc pc2 now ws s i h (ranged (extent e) v n.value)) (omega (arith, b)) (omega arith)
      (record { now = now; at = refl; has = tt; known = n })

  -- the value is in the mode's target
  pub follows : (e : Expression) (m : Mode) (t k pc pc2 hi : ℕ) (before : machine.State) (old now : Scratch) (ws : List Call) (v : ℤ) (s : machine.State)
      → IsFreeFor m t k → Follows (function_at q f).code m t pc pc2 → 60 * s.clock + 22 ≤ hi → Known (world p q f ws) e t k before old v s now
      → GoesTo q 14 hi s.clock (here f pc (put_scratch (target_of m t) (word_for v) now) ws (put_state q f (target_of m t) (word_for v) s))
      (Good e m t k pc2 before old ws v) s
  follows e Nowhere t k pc pc2 hi before old now ws v s fr i b n =
      let now2 = put_scratch (target.Temporary t) (word_for v) now in
      goes q 14 (Good e Nowhere t k pc2 before old ws v) hi s.clock 0 0 (here f pc now2 ws s) (here f pc now2 ws s) s (stays q (here f pc now2 ws s))
      (omega (arith, b)) (omega arith)
      (record {
        now = now2;
        at = ap (λ n. here f n now2 ws s) i;
        has = tt;
        known = known_with (world p q f ws) e t k before old v s now now2
            (keeps_put (target.Temporary t) (word_for v) (calls e) t k old now (let le : t ≤ t = omega arith in le) n.keeps) n;
      })
  follows e (To g) t k pc pc2 hi before old now ws v s fr i b n =
      let now2 = put_scratch g (word_for v) now in
      let s2 = put_state q f g (word_for v) s in
      goes q 14 (Good e (To g) t k pc2 before old ws v) hi s.clock 0 0 (here f pc now2 ws s2) (here f pc now2 ws s2) s (stays q (here f pc now2 ws s2))
      (omega (arith, b)) (omega arith)
      (record {
        now = now2;
        at = ap (λ n. here f n now2 ws s2) i;
        has = has_put g (word_for v) now;
        known = known_with (world p q f ws) e t k before old v s now now2 (keeps_put g (word_for v) (calls e) t k old now fr n.keeps) n;
      })
  follows e (If sense to) t k pc pc2 hi before old now ws v s fr i b n =
      let now2 = put_scratch (target.Temporary t) (word_for v) now in
      goes q 14 (Good e (If sense to) t k pc2 before old ws v) hi s.clock 1 8 (here f pc now2 ws s) (here f (choose (meets sense (truth v)) to pc2) now2 ws s) s
      (does_test sense (operand.Temporary t) to v pc pc2 now2 ws s i (set_same now.temporaries t (word (word_for v))) (ranged (extent e) v n.value))
      (omega (arith, b)) (omega arith)
      (record {
        now = now2;
        at = refl;
        has = tt;
        known = known_with (world p q f ws) e t k before old v s now now2
            (keeps_put (target.Temporary t) (word_for v) (calls e) t k old now (let le : t ≤ t = omega arith in le) n.keeps) n;
      })

  -- ---- a value that waits in its operand

  pub mode_free : (c : Option ℤ) (r : Option ℕ) (written : ℕ → Bool) (b : Bool) (t k : ℕ)
      → IsFreeFor (mode_of (constant_or c (at_rest r written (pending b t k)))) t k
  mode_free (Some v) r written b t k = tt
  mode_free None None written true t k = let le : k ≤ k = omega arith in le
  mode_free None None written false t k = let le : t ≤ t = omega arith in le
  mode_free None (Some x) written b t k = at_written (written x) b
    where
      at_written : (z b : Bool) → IsFreeFor (mode_of (unless_written z x (pending b t k))) t k
      at_written true true = let le : k ≤ k = omega arith in le
      at_written true false = let le : t ≤ t = omega arith in le
      at_written false b = tt

  pub mode_suits : (c : Option ℤ) (r : Option ℕ) (written : ℕ → Bool) (b : Bool) (t k : ℕ) (u : IntType)
      → Suits (mode_of (constant_or c (at_rest r written (pending b t k)))) u
  mode_suits (Some v) r written b t k u = tt
  mode_suits None None written true t k u = tt
  mode_suits None None written false t k u = tt
  mode_suits None (Some x) written b t k u = at_written (written x) b
    where
      at_written : (z b : Bool) → Suits (mode_of (unless_written z x (pending b t k))) u
      at_written true true = tt
      at_written true false = tt
      at_written false b = tt

  -- the code is after an expression whose value waits in o
  pub record Held (e : Expression) (o : Operand) (t k pc2 : ℕ) (before : machine.State) (old : Scratch) (ws : List Call) (v : ℤ) (s : machine.State)
      (u : State) : Type 0 where
    pub now : Scratch
    pub at : u ≡ here f pc2 now ws s
    pub holds : Holds q f o (word_for v) now s
    pub known : Known (world p q f ws) e t k before old v s now

  abbrev IsHeld : Operand → ℕ → ℕ → Bool → Scratch → List Call → machine.State → Type 0
  IsHeld o w pc2 b now ws s = (here f (lands (mode_of o) b pc2) now ws (put_mode (mode_of o) w s) ≡ here f pc2 now ws s) × Holds q f o w now s

  held_in : (c : Option ℤ) (r : Option ℕ) (written : ℕ → Bool) (b : Bool) (t k pc2 : ℕ) (v : ℤ) (now : Scratch) (ws : List Call) (s : machine.State)
      → IsConstant c v → RestsIn r v s
      → Has (mode_of (constant_or c (at_rest r written (pending b t k)))) (word_for v) now
      → IsHeld (constant_or c (at_rest r written (pending b t k))) (word_for v) pc2 (truth v) now ws s
  held_in (Some u) r written b t k pc2 v now ws s hc hr h = (refl, ap (λ z. Some (word (word_for z))) hc)
  held_in None None written true t k pc2 v now ws s hc hr h = (refl, h)
  held_in None None written false t k pc2 v now ws s hc hr h = (refl, h)
  held_in None (Some x) written b t k pc2 v now ws s hc hr h = at_written (written x) b h
    where
      at_written : (z b : Bool) → Has (mode_of (unless_written z x (pending b t k))) (word_for v) now
          → IsHeld (unless_written z x (pending b t k)) (word_for v) pc2 (truth v) now ws s
      at_written true true h = (refl, h)
      at_written true false h = (refl, h)
      at_written false b h = (refl, ap (option_map (λ z. word (word_for z))) hr)

  pub held : (e : Expression) (written : ℕ → Bool) (b : Bool) (t k pc2 : ℕ) (before : machine.State) (old : Scratch) (ws : List Call) (v : ℤ)
      (s : machine.State) (u : State)
      → Good e (mode_of (waits_in e written b t k)) t k pc2 before old ws v s u → Held e (waits_in e written b t k) t k pc2 before old ws v s u
  held e written b t k pc2 before old ws v s u g =
      let h = held_in (constant_of e) (rests_in e) written b t k pc2 v g.now ws s g.known.constant g.known.rests g.has in
      record { now = g.now; at = g.at ∙ h.0; holds = h.1; known = g.known }

  -- it is still there where another was evaluated, which calls as c says and writes to some objects
  pub stays_there : (n : Option ℤ) (r : Option ℕ) (written : ℕ → Bool) (c : Bool) (t k w : ℕ) (old now : Scratch) (a b : machine.State)
      → Keeps c (free_temporary (constant_or n (at_rest r written (pending c t k))) t) (free_kept (constant_or n (at_rest r written (pending c t k))) k) old now
      → After (first_automatic q) written a b
      → Holds q f (constant_or n (at_rest r written (pending c t k))) w old a → Holds q f (constant_or n (at_rest r written (pending c t k))) w now b
  stays_there (Some v) r written c t k w old now a b h l e = e
  stays_there None None written true t k w old now a b h l e = h.kept k (omega arith) ∙ e
  stays_there None None written false t k w old now a b h l e = h.temporaries refl t (omega arith) ∙ e
  stays_there None (Some x) written c t k w old now a b h l e = at_written (written x) c refl refl h e
    where
      at_written : (z c2 : Bool) → written x ≡ z → c ≡ c2
          → Keeps c2 (free_temporary (unless_written z x (pending c2 t k)) t) (free_kept (unless_written z x (pending c2 t k)) k) old now
          → Holds q f (unless_written z x (pending c2 t k)) w old a → Holds q f (unless_written z x (pending c2 t k)) w now b
      at_written true true ez ec h e = h.kept k (omega arith) ∙ e
      at_written true false ez ec h e = h.temporaries refl t (omega arith) ∙ e
      at_written false c2 ez ec h e =
          ap (λ n. option_map (λ z. word (word_for z)) (value_of (slice_get b.store (n + x)))) l.base
          ∙ (ap (λ o. option_map (λ z. word (word_for z)) (value_of o)) (l.still x ez (is_number_there (slice_get a.store (a.base + x)) w e)) ∙ e)

  pub free_more : (o : Operand) (t k : ℕ) → (t ≤ free_temporary o t) × (k ≤ free_kept o k)
  free_more (operand.Temporary j) t k = (omega arith, omega arith)
  free_more (operand.Kept j) t k = (omega arith, omega arith)
  free_more (operand.Object x) t k = (omega arith, omega arith)
  free_more (operand.Parameter n) t k = (omega arith, omega arith)
  free_more (operand.Constant v) t k = (omega arith, omega arith)

  -- ---- an object that was written to

  pub object_state : (x : ℕ) (u : IntType) (w : ℕ) (v : ℤ) (s : machine.State) → type_in q f x ≡ Some u → number_of u w ≡ v
      → put_state q f (target.Object x) w s ≡ with_tree x (Element (Some v)) s
  object_state x u w v s e h =
      ap (λ o. put_typed o x w s) e ∙ ap (λ z. with_tree x (Element (Some z)) s) h
