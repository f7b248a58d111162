-- The code follows arguments and calls (ISO/IEC 9899:2011 6.5.2.2), if it follows their parts.
use Rattle.std.proofs.Common.{◌≡◌, ℕ, suc, ◌+◌, ◌*◌, ◌≤◌, List, [], Option, Some, None, Bool, true, false, ◌||◌, ℤ, pos, refl, sym, ap, ◌∙◌, subst, arith}
use Rattle.std.specs.Prelude.{◌∷◌, length}
use Rattle.srcset.specs.declared.refusal.Pos.{Pos}
use Rattle.ctypes.specs.declared.types.IntType.{IntType}
use Rattle.ctypes.specs.Types.{IsValueOf, converted}
use Rattle.ctypes.proofs.Uses.{converted_fits}
use Rattle.typing_spec.specs.Program as typed
use Rattle.typing_spec.specs.Program.{Arguments, Callee, Value as Expression}
use Rattle.typing_spec.specs.Types.{ParameterType, number, elements, FunctionType}
use Rattle.typing_spec.specs.WellTyped.{callee_type}
use Rattle.csem.specs.Machine as machine
use Rattle.csem.specs.Machine.{Run, Goes, Stops, then_do, choose, computed_at}
use Rattle.csem.specs.Expressions.{Passed, Number, Referred, Calling, evaluate, pass, call_value}
use Rattle.tac_code.specs.declared.code.Operand.{Operand}
use Rattle.tac_code.specs.declared.code.Operand.TheVariants as operand
use Rattle.tac_code.specs.declared.code.Target.TheVariants as target
use Rattle.tac_code.specs.declared.code.Instruction.TheVariants as instruction
use Rattle.tac_code.specs.Code.{Program, function_at}
use Rattle.tac_code.specs.Run.{Values, Call, State, running, word, reference, word_for, number_of}
use Rattle.lower_correct.specs.Values.{calls, arguments_call, writes, arguments_write, or_int, pending, unless_written, at_rest, constant_or, writes_none, rests_in, extent, keeps, constant_of, waits_in, free_temporary, free_kept, Mode, Nowhere, To, If, mode_of}
use Rattle.lower_correct.specs.Code.{One, Ends, Into, Loads}
use Rattle.lower_correct.proofs.Words.{ranged, converts_again, word_stays, differ}
use Rattle.lower_correct.proofs.Steps.{Reaches, stays, GoesTo, goes, from, Sim, sim_then, sim_move, tick_in, halts}
use Rattle.lower_correct.proofs.Standing.{Scratch, here, put_scratch, Holds, set_same, set_other, does_nothing, does_convert, does_move, world, first_automatic, sizes}
use Rattle.lower_correct.proofs.Stores.{World, RefersToRows, Fine, After, after_on, after_none, fine_later, after_since}
use Rattle.lower_correct.proofs.Goods.{Keeps, keeps_all, IsFreeFor, Known, Suits, Good, ends, mode_free, mode_suits, held, stays_there, free_more}
use Rattle.lower_correct.proofs.Leaves.{or_left, or_right}
use Rattle.lower_correct.proofs.Operators.{DoesAt}

-- numbers, each of its parameter's type, and references
abbrev pub AreFor : List ParameterType → Arguments → Type 0
AreFor [] typed.no_arguments = Unit {0}
AreFor (number t ∷ ps) (typed.and_number u e more) = (t ≡ u) × AreFor ps more
AreFor (elements t ∷ ps) (typed.and_array array more) = AreFor ps more
AreFor ps args = ⊥

abbrev pub count : Arguments → ℕ
count typed.no_arguments = 0
count (typed.and_number u e more) = suc (count more)
count (typed.and_array array more) = suc (count more)

pub counts_same : (ps : List ParameterType) (args : Arguments) → AreFor ps args → length ps ≡ count args
counts_same [] typed.no_arguments h = refl
counts_same (number t ∷ ps) (typed.and_number u e more) h = let e = counts_same ps more h.1 in omega (arith, e)
counts_same [] (typed.and_number u e more) h = absurd h
counts_same [] (typed.and_array array more) h = absurd h
counts_same (number t ∷ ps) typed.no_arguments h = absurd h
counts_same (number t ∷ ps) (typed.and_array array more) h = absurd h
counts_same (elements t ∷ ps) typed.no_arguments h = absurd h
counts_same (elements t ∷ ps) (typed.and_number u e more) h = absurd h
counts_same (elements t ∷ ps) (typed.and_array array more) h = let e = counts_same ps more h in omega (arith, e)

-- their values in the temporaries from t on
abbrev pub Fitting : World → List ParameterType → List Passed → ℕ → Values → Type 0
Fitting W [] [] t m = Unit {0}
Fitting W (number u ∷ ps) (Number v ∷ passed) t m = IsValueOf u v × (m t ≡ Some (word (word_for v))) × Fitting W ps passed (t + 1) m
Fitting W (elements u ∷ ps) (Referred r ∷ passed) t m = RefersToRows W u (Some r) × (m t ≡ Some (reference r)) × Fitting W ps passed (t + 1) m
Fitting W ps passed t m = ⊥

pub fitting_moved : (W : World) (ps : List ParameterType) (passed : List Passed) (t : ℕ) (m m2 : Values) → ((i : ℕ) → t ≤ i → m2 i ≡ m i)
    → Fitting W ps passed t m → Fitting W ps passed t m2
fitting_moved W [] [] t m m2 h g = tt
fitting_moved W (number u ∷ ps) (Number v ∷ passed) t m m2 h g =
    (g.0, h t (let le : t ≤ t = omega arith in le) ∙ g.1, fitting_moved W ps passed (t + 1) m m2 (λ i le. h i (omega (arith, le))) g.2)
fitting_moved W [] (Number v ∷ passed) t m m2 h g = absurd g
fitting_moved W [] (Referred r ∷ passed) t m m2 h g = absurd g
fitting_moved W (number u ∷ ps) [] t m m2 h g = absurd g
fitting_moved W (number u ∷ ps) (Referred r ∷ passed) t m m2 h g = absurd g
fitting_moved W (elements u ∷ ps) [] t m m2 h g = absurd g
fitting_moved W (elements u ∷ ps) (Number v ∷ passed) t m m2 h g = absurd g
fitting_moved W (elements u ∷ ps) (Referred r ∷ passed) t m m2 h g =
    (g.0, h t (let le : t ≤ t = omega arith in le) ∙ g.1, fitting_moved W ps passed (t + 1) m m2 (λ i le. h i (omega (arith, le))) g.2)

-- a value that waits in a temporary waits in this one
abbrev IsAt : Operand → ℕ → Type 0
IsAt (operand.Temporary j) t = j ≡ t
IsAt (operand.Kept j) t = Unit {0}
IsAt (operand.Object x) t = Unit {0}
IsAt (operand.Parameter n) t = Unit {0}
IsAt (operand.Constant v) t = Unit {0}

is_at : (n : Option ℤ) (r : Option ℕ) (written : ℕ → Bool) (c : Bool) (t k : ℕ) → IsAt (constant_or n (at_rest r written (pending c t k))) t
is_at (Some v) r written c t k = tt
is_at None None written true t k = tt
is_at None None written false t k = refl
is_at None (Some x) written c t k = at_written (written x) c
  where
    at_written : (z c : Bool) → IsAt (unless_written z x (pending c t k)) t
    at_written true true = tt
    at_written true false = refl
    at_written false c = tt

pub free_bound : (o : Operand) (t : ℕ) → free_temporary o t ≤ t + 1
free_bound (operand.Temporary j) t = omega arith
free_bound (operand.Kept j) t = omega arith
free_bound (operand.Object x) t = omega arith
free_bound (operand.Parameter n) t = omega arith
free_bound (operand.Constant v) t = omega arith

pub keeps_less : (c : Bool) (t k t1 : ℕ) (a b : Scratch) → t ≤ t1 → Keeps c t1 k a b → Keeps c t k a b
keeps_less c t k t1 a b h l = record { temporaries = λ e i lt. l.temporaries e i (omega (arith, lt, h)); kept = l.kept }

module _ (p : typed.Program) (call : Calling) (q : Program) (deep f : ℕ) where
  -- an argument is in its temporary
  record Loaded (t w pc2 : ℕ) (now : Scratch) (ws : List Call) (s : machine.State) (z : State) : Type 0 where
    pub j : ℕ
    pub c : ℕ
    pub now2 : Scratch
    pub reaches : Reaches q z j c (running (here f pc2 now2 ws s))
    pub small : c ≤ 8
    pub has : now2.temporaries t ≡ Some (word w)
    pub others : (i : ℕ) → (i ≡ t → ⊥) → now2.temporaries i ≡ now.temporaries i
    pub kept : (i : ℕ) → now2.kept i ≡ now.kept i

  moved : (o : Operand) (t w pc pc2 : ℕ) (now : Scratch) (ws : List Call) (s : machine.State) → Holds q f o w now s
      → One (function_at q f).code (instruction.Move (target.Temporary t) o) pc pc2 → Loaded t w pc2 now ws s (here f pc now ws s)
  moved o t w pc pc2 now ws s h i = record {
    j = 1;
    c = 6;
    now2 = put_scratch (target.Temporary t) w now;
    reaches = does_move q f (target.Temporary t) o w pc pc2 now ws s i h tt;
    small = omega arith;
    has = set_same now.temporaries t (word w);
    others = λ i d. set_other now.temporaries t i (word w) d;
    kept = λ i. refl;
  }

  loads_same : (u : IntType) (o : Operand) (t w pc pc2 : ℕ) (now : Scratch) (ws : List Call) (s : machine.State) → Holds q f o w now s → IsAt o t
      → Loads (function_at q f).code true u o t pc pc2 → Loaded t w pc2 now ws s (here f pc now ws s)
  loads_same u (operand.Temporary j) t w pc pc2 now ws s h at i = record {
    j = 0;
    c = 0;
    now2 = now;
    reaches = subst (λ n. Reaches q (here f pc now ws s) 0 0 (running (here f n now ws s))) i (stays q (here f pc now ws s));
    small = omega arith;
    has = subst (λ n. now.temporaries n ≡ Some (word w)) at h;
    others = λ i d. refl;
    kept = λ i. refl;
  }
  loads_same u (operand.Kept j) t w pc pc2 now ws s h at i = moved (operand.Kept j) t w pc pc2 now ws s h i
  loads_same u (operand.Object x) t w pc pc2 now ws s h at i = moved (operand.Object x) t w pc pc2 now ws s h i
  loads_same u (operand.Parameter n) t w pc pc2 now ws s h at i = moved (operand.Parameter n) t w pc pc2 now ws s h i
  loads_same u (operand.Constant v) t w pc pc2 now ws s h at i = moved (operand.Constant v) t w pc pc2 now ws s h i

  loads_do : (b : Bool) (e : Expression) (u : IntType) (o : Operand) (t : ℕ) (v : ℤ) (pc pc2 : ℕ) (now : Scratch) (ws : List Call) (s : machine.State)
      → keeps u e ≡ b → IsValueOf (extent e) v → Holds q f o (word_for v) now s
      → IsAt o t → Loads (function_at q f).code b u o t pc pc2 → Loaded t (word_for (converted u v)) pc2 now ws s (here f pc now ws s)
  loads_do true e u o t v pc pc2 now ws s hk hv h at i =
      subst (λ w. Loaded t w pc2 now ws s (here f pc now ws s)) (sym (word_stays u (extent e) v hk hv)) (loads_same u o t (word_for v) pc pc2 now ws s h at i)
  loads_do false e u o t v pc pc2 now ws s hk hv h at i =
      let w = word_for (number_of u (word_for v)) in
      subst (λ w. Loaded t w pc2 now ws s (here f pc now ws s)) (ap word_for (converts_again u v (ranged (extent e) v hv)))
      (record {
        j = 1;
        c = 8;
        now2 = put_scratch (target.Temporary t) w now;
        reaches = does_convert q f u (target.Temporary t) o (word_for v) pc pc2 now ws s i h tt;
        small = omega arith;
        has = set_same now.temporaries t (word w);
        others = λ i d. set_other now.temporaries t i (word w) d;
        kept = λ i. refl;
      })

  -- ---- rows of arguments

  pub record Row (ps : List ParameterType) (args : Arguments) (t k pc2 : ℕ) (before : machine.State) (old : Scratch) (ws : List Call) (passed : List Passed)
      (s : machine.State) (z : State) : Type 0 where
    pub now : Scratch
    pub at : z ≡ here f pc2 now ws s
    pub fits : Fitting (world p q f ws) ps passed t now.temporaries
    pub keeps : Keeps (arguments_call args) t k old now
    pub fine : Fine (world p q f ws) s
    pub after : After (first_automatic q) (arguments_write args) before s

  abbrev pub RowDoes : List ParameterType → Arguments → ℕ → ℕ → ℕ → ℕ → Type 0
  RowDoes ps args t k pc pc2 = (s : machine.State) (now : Scratch) (ws : List Call) → s.clock ≤ deep → Fine (world p q f ws) s
      → Sim q (6 * count args) (60 * s.clock) s.clock (here f pc now ws s) (Row ps args t k pc2 s now ws) (pass p call args s)

  pub none_row : (t k pc pc2 : ℕ) → pc ≡ pc2 → RowDoes [] typed.no_arguments t k pc pc2
  none_row t k pc pc2 h s now ws le fine =
      goes q (6 * 0) (Row [] typed.no_arguments t k pc2 s now ws []) (60 * s.clock) s.clock 0 0 (here f pc now ws s) (here f pc now ws s) s
      (stays q (here f pc now ws s)) (omega arith) (omega arith)
      (record { now = now; at = ap (λ n. here f n now ws s) h; fits = tt; keeps = keeps_all false t k now; fine = fine; after = after_none writes_none s })

  pub number_row : (t0 u : IntType) (ps : List ParameterType) (e : Expression) (more : Arguments) (t k pc p1 p2 pc2 : ℕ) → t0 ≡ u → DoesAt p call q deep f e t k
      → Into (function_at q f).code (sizes p f) e (mode_of (waits_in e (arguments_write more) (arguments_call more) t k)) t k pc p1
      → RowDoes ps more (t + 1) (free_kept (waits_in e (arguments_write more) (arguments_call more) t k) k) p1 p2
      → Loads (function_at q f).code (keeps u e) u (waits_in e (arguments_write more) (arguments_call more) t k) t p2 pc2
      → RowDoes (number t0 ∷ ps) (typed.and_number u e more) t k pc pc2
  number_row t0 u ps e more t k pc p1 p2 pc2 same de i1 dm i2 s now ws le fine =
      let o = waits_in e (arguments_write more) (arguments_call more) t k in
      let k2 = free_kept o k in
      let n = count more in
      let Result2 = Row (number t0 ∷ ps) (typed.and_number u e more) t k pc2 s now ws in
      let last : ℤ → List Passed → machine.State → Run (List Passed) = λ v passed s. Goes (Number (converted u v) ∷ passed) s in
      sim_then q 14 (6 * suc n) (Good p q f e (mode_of o) t k p1 s now ws) Result2 (60 * s.clock) 14 (60 * s.clock) s.clock (here f pc now ws s)
      (evaluate p call e s) (λ v s. then_do (pass p call more s) (last v)) (omega arith) (omega arith)
      (de (mode_of o) pc p1 (mode_free p q f (constant_of e) (rests_in e) (arguments_write more) (arguments_call more) t k)
      (mode_suits p q f (constant_of e) (rests_in e) (arguments_write more) (arguments_call more) t k (extent e)) i1 s now ws le fine)
      (λ v s2 z lt good.
      let h = held p q f e (arguments_write more) (arguments_call more) t k p1 s now ws v s2 z good in
      sim_move q (6 * suc n) Result2 (60 * s2.clock + 14) s2.clock z (here f p1 h.now ws s2) (then_do (pass p call more s2) (last v)) h.at
      (sim_then q (6 * n) (6 * suc n) (Row ps more (t + 1) k2 p2 s2 h.now ws) Result2 (60 * s2.clock) (14 + 6 * n) (60 * s2.clock + 14) s2.clock
      (here f p1 h.now ws s2) (pass p call more s2) (last v) (omega arith) (omega arith)
      (dm s2 h.now ws (omega (arith, le, lt)) h.known.fine)
      (λ passed s3 z3 lt3 row.
      let kept_row = keeps_less (arguments_call more) (free_temporary o t) k2 (t + 1) h.now row.now (free_bound o t) row.keeps in
      let there = stays_there p q f (constant_of e) (rests_in e) (arguments_write more) (arguments_call more) t k (word_for v) h.now row.now s2 s3 kept_row
      row.after h.holds in
      let l = loads_do (keeps u e) e u o t v p2 pc2 row.now ws s3 refl h.known.value there
      (is_at (constant_of e) (rests_in e) (arguments_write more) (arguments_call more) t k) i2 in
      let lk = free_more p q f o t k in
      goes q (6 * suc n) (Result2 (Number (converted u v) ∷ passed)) (60 * s3.clock + (14 + 6 * n)) s3.clock l.j l.c z3 (here f pc2 l.now2 ws s3) s3
      (from q z3 (here f p2 row.now ws s3) l.j l.c (running (here f pc2 l.now2 ws s3)) row.at l.reaches) (omega (arith, l.small)) (omega arith)
      (record {
        now = l.now2;
        at = refl;
        fits = (
          subst (λ y. IsValueOf y (converted u v)) (sym same) (converted_fits u v),
          l.has,
          fitting_moved (world p q f ws) ps passed (t + 1) row.now.temporaries l.now2.temporaries (λ i lo. l.others i (λ m. let y : ⊥ = omega (arith, lo, m) in y)) row.fits,
        );
        keeps = record {
          temporaries = λ d i lo. l.others i (λ m. let y : ⊥ = omega (arith, lo, m) in y)
              ∙ (row.keeps.temporaries (or_right (calls e) (arguments_call more) d) i (omega (arith, lo))
              ∙ h.known.keeps.temporaries (or_left (calls e) (arguments_call more) d) i lo);
          kept = λ i lo. l.kept i ∙ (row.keeps.kept i (omega (arith, lo, lk.1)) ∙ h.known.keeps.kept i lo);
        };
        fine = row.fine;
        after = after_on (λ x. writes e x || arguments_write more x) (writes e) (arguments_write more) s s2 s3
            (λ x d. or_left (writes e x) (arguments_write more x) d) (λ x d. or_right (writes e x) (arguments_write more x) d) h.known.after row.after;
      }))))

  -- ---- calls

  -- the value of a call is in temporary 0
  abbrev pub Gave : Option IntType → Option ℤ → Values → Type 0
  Gave result None m = Unit {0}
  Gave result (Some v) m = IsValueOf (or_int result) v × (m 0 ≡ Some (word (word_for v)))

  -- after a call: all is as it was, but for the temporaries
  pub record CallGood (pc2 : ℕ) (kept : Values) (ws : List Call) (before : machine.State) (result : Option IntType) (o : Option ℤ) (s : machine.State)
      (z : State) : Type 0 where
    pub temporaries : Values
    pub at : z ≡ here f pc2 (record { temporaries = temporaries; kept = kept }) ws s
    pub gave : Gave result o temporaries
    pub fine : Fine (world p q f ws) s
    pub after : After (first_automatic q) writes_none before s

  -- the property that a call needs, from the instruction that enters the function
  abbrev pub CallsDo : Type 0
  CallsDo = (g : ℕ) (type : FunctionType) (passed : List Passed) (s : machine.State) (now : Scratch) (ws : List Call) (pc pc2 : ℕ)
      → callee_type p (typed.function g) ≡ Some type → s.clock ≤ deep → Fine (world p q f ws) s
      → One (function_at q f).code (instruction.Call g) pc pc2 → Fitting (world p q f ws) type.parameters passed 0 now.temporaries
      → Sim q 22 (60 * s.clock + (60 + 6 * length type.parameters)) s.clock (here f pc now ws s) (CallGood pc2 now.kept ws s type.result) (call g passed s)

  abbrev pub Wanted : Mode → Bool → Type 0
  Wanted Nowhere used = Unit {0}
  Wanted (To g) used = used ≡ true
  Wanted (If sense to) used = used ≡ true

  module _ (at : Pos) (callee : Callee) (result : Option IntType) (used : Bool) (args : Arguments) (m : Mode) (t k : ℕ) (fr : IsFreeFor m t k)
      (su : Suits p q f m (or_int result)) where
    abbrev node : Expression
    node = typed.call at callee result used args

    -- the facts known of its value after the call
    pub called_known : (ws : List Call) (n : ℕ) (s : machine.State) (now now2 now3 : Scratch) (v : ℤ) (s2 s3 : machine.State)
        → After (first_automatic q) (arguments_write args) (record s { clock = n }) s2 → Keeps (arguments_call args) 0 k now now2
        → After (first_automatic q) writes_none s2 s3 → Fine (world p q f ws) s3 → ((i : ℕ) → now3.kept i ≡ now2.kept i) → IsValueOf (or_int result) v
        → Known (world p q f ws) node t k s now v s3 now3
    called_known ws n s now now2 now3 v s2 s3 a1 k1 a2 fine kept hv = record {
      keeps = record { temporaries = λ h i lt. absurd (differ (sym h)); kept = λ i lt. kept i ∙ k1.kept i lt };
      fine = fine;
      value = hv;
      after = after_on (arguments_write args) (arguments_write args) writes_none s s2 s3 (λ x h. h) (λ x h. refl) (after_since (arguments_write args) s s2 n a1)
          a2;
      rests = tt;
      constant = tt;
    }

    -- the value of a call that ended with none is not used
    value_ends : (pc pc2 : ℕ) (s : machine.State) (now now3 : Scratch) (ws : List Call) (s3 : machine.State) (o : Option ℤ) (u : Bool) → Wanted m u
        → Ends (function_at q f).code m (operand.Temporary 0) pc pc2 → Gave result o now3.temporaries
        → ((v : ℤ) → IsValueOf (or_int result) v → Known (world p q f ws) node t k s now v s3 now3) → IsValueOf (or_int result) (pos 0)
        → Sim q 14 (60 * s3.clock + 22) s3.clock (here f pc now3 ws s3) (Good p q f node m t k pc2 s now ws) (call_value u at o s3)
    value_ends pc pc2 s now now3 ws s3 (Some v) u w i gave known hz =
        ends p q f node m t k (operand.Temporary 0) pc pc2 (60 * s3.clock + 22) s now now3 ws v s3 fr su i gave.1 (omega arith) (known v gave.0)
    value_ends pc pc2 s now now3 ws s3 None true w i gave known hz = halts q (60 * s3.clock + 22) (here f pc now3 ws s3) s3 refl refl
    value_ends pc pc2 s now now3 ws s3 None false w i gave known hz = at_mode m w i
      where
        at_mode : (m : Mode) → Wanted m false → Ends (function_at q f).code m (operand.Temporary 0) pc pc2
            → GoesTo q 14 (60 * s3.clock + 22) s3.clock (here f pc now3 ws s3) (Good p q f node m t k pc2 s now ws (pos 0)) s3
        at_mode Nowhere w i =
            goes q 14 (Good p q f node Nowhere t k pc2 s now ws (pos 0)) (60 * s3.clock + 22) s3.clock 0 0 (here f pc now3 ws s3) (here f pc now3 ws s3) s3
            (stays q (here f pc now3 ws s3)) (omega arith) (omega arith)
            (record { now = now3; at = ap (λ n. here f n now3 ws s3) i; has = tt; known = known (pos 0) hz })
        at_mode (To g) w i = absurd (differ w)
        at_mode (If sense to) w i = absurd (differ w)

    -- the arguments, and then the callee
    pub arguments_do : (ps : List ParameterType) (pc p1 p2 pc2 : ℕ) (last : List Passed → machine.State → Run ℤ) (s : machine.State) (now : Scratch)
        (ws : List Call) → One (function_at q f).code instruction.Nothing pc p1
        → RowDoes ps args 0 k p1 p2 → s.clock ≤ deep → Fine (world p q f ws) s
        → ((n : ℕ) (passed : List Passed) (s2 : machine.State) (now2 : Scratch) → s2.clock ≤ deep → Fitting (world p q f ws) ps passed 0 now2.temporaries
        → Keeps (arguments_call args) 0 k now now2 → Fine (world p q f ws) s2 → After (first_automatic q) (arguments_write args) (record s { clock = n }) s2
        → Sim q 14 (60 * s2.clock + (60 + 6 * count args)) s2.clock (here f p2 now2 ws s2) (Good p q f node m t k pc2 s now ws) (last passed s2))
        → Sim q 14 (60 * s.clock) s.clock (here f pc now ws s) (Good p q f node m t k pc2 s now ws) (machine.tick s (λ s. then_do (pass p call args s) last))
    arguments_do ps pc p1 p2 pc2 last s now ws o row le fine next =
        let Result2 = Good p q f node m t k pc2 s now ws in
        tick_in q 14 Result2 (here f pc now ws s) (here f p1 now ws s) s 0 (60 * s.clock) (λ s. then_do (pass p call args s) last) (omega arith) refl refl
        (does_nothing q f pc p1 now ws s o)
        (λ n lt.
        let s1 : machine.State = record s { clock = n } in
        sim_then q (6 * count args) 14 (Row ps args 0 k p2 s1 now ws) Result2 (60 * n) (60 + 6 * count args) (60 * n + 60 + 0) n (here f p1 now ws s)
        (pass p call args s1) last (omega arith) (omega arith)
        (row s1 now ws (omega (arith, le, lt)) (fine_later (world p q f ws) s n fine))
        (λ passed s2 z lt2 r. sim_move q 14 Result2 (60 * s2.clock + (60 + 6 * count args)) s2.clock z (here f p2 r.now ws s2) (last passed s2) r.at
        (next n passed s2 r.now (omega (arith, le, lt, lt2)) r.fits r.keeps r.fine r.after)))

    pub function_last : (g : ℕ) (type : FunctionType) (n p2 p3 pc2 : ℕ) (s : machine.State) (now : Scratch) (ws : List Call) → CallsDo
        → callee_type p (typed.function g) ≡ Some type → length type.parameters ≡ count args → type.result ≡ result
        → Wanted m used → One (function_at q f).code (instruction.Call g) p2 p3 → Ends (function_at q f).code m (operand.Temporary 0) p3 pc2
        → IsValueOf (or_int result) (pos 0)
        → (passed : List Passed) (s2 : machine.State) (now2 : Scratch) → s2.clock ≤ deep → Fitting (world p q f ws) type.parameters passed 0 now2.temporaries
        → Keeps (arguments_call args) 0 k now now2 → Fine (world p q f ws) s2
        → After (first_automatic q) (arguments_write args) (record s { clock = n }) s2
        → Sim q 14 (60 * s2.clock + (60 + 6 * count args)) s2.clock (here f p2 now2 ws s2) (Good p q f node m t k pc2 s now ws)
        (then_do (call g passed s2) (λ v s. call_value used at v s))
    function_last g type n p2 p3 pc2 s now ws ok known_type hc hr w i1 i2 hz passed s2 now2 le fits k1 fine a1 =
        sim_then q 22 14 (CallGood p3 now2.kept ws s2 type.result) (Good p q f node m t k pc2 s now ws) (60 * s2.clock + (60 + 6 * length type.parameters)) 22
        (60 * s2.clock + (60 + 6 * count args)) s2.clock (here f p2 now2 ws s2) (call g passed s2)
        (λ v s. call_value used at v s) (omega (arith, hc)) (omega (arith, hc)) (ok g type passed s2 now2 ws p2 p3 known_type le fine i1 fits)
        (λ o s3 z lt c.
        let now3 : Scratch = record { temporaries = c.temporaries; kept = now2.kept } in
        sim_move q 14 (Good p q f node m t k pc2 s now ws) (60 * s3.clock + 22) s3.clock z (here f p3 now3 ws s3) (call_value used at o s3) c.at
        (value_ends p3 pc2 s now now3 ws s3 o used w i2 (subst (λ y. Gave y o c.temporaries) hr c.gave)
        (λ v hv. called_known ws n s now now2 now3 v s2 s3 a1 k1 c.after c.fine (λ i. refl) hv) hz))
