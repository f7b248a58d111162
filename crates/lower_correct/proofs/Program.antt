-- The code follows calls to any depth, and so whole programs.
use Rattle.std.proofs.Common.{◌≡◌, ℕ, zero, suc, ◌+◌, ◌*◌, ◌<◌, ◌≤◌, List, [], ◌∷◌, ◌++◌, length, take, drop, map, Option, Some, None, Bool, true, false, ◌&&◌, ℤ, pos, refl, sym, ap, ◌∙◌, subst, arith}
use Rattle.std.specs.Prelude.{nat_eq, nat_le, nat_lt, slice_get, option_map, if◌then◌else◌, ◌%◌, ◌^◌}
use Rattle.ctypes.specs.declared.types.IntType.{IntType}
use Rattle.ctypes.specs.declared.types.IntType.TheVariants as ty
use Rattle.ctypes.specs.Types.{IsValueOf}
use Rattle.ctypes.proofs.Uses.{converted_keeps}
use Rattle.typing_spec.specs.Types.{ObjectType, FunctionType}
use Rattle.typing_spec.specs.Units as units
use Rattle.typing_spec.specs.Nodes.{typed_nodes}
use Rattle.typing_spec.specs.Program as typed
use Rattle.typing_spec.specs.Program.{Function}
use Rattle.typing_spec.specs.WellTyped.{is_typed, functions_are_typed, statics_are_typed, function_is_typed, parameters_are_first, statement_is_typed}
use Rattle.csem.specs.Store.{Store, literal_object, static_object, indeterminate}
use Rattle.csem.specs.Store as store
use Rattle.csem.specs.History.{Entered, Left}
use Rattle.csem.specs.Machine as machine
use Rattle.csem.specs.Machine.{Run, Goes, Stops, Ended, TicksUsed, then_do, tick, ticks}
use Rattle.csem.specs.Expressions.{Passed, Calling}
use Rattle.csem.specs.Statements.{Flow, Normal, Broken, Continued, Returned, execute}
use Rattle.csem.specs.Meaning.{arrays_of, numbers_of, word_of, words_of, enter, leave, value_at_end, value_left, body_of, call_defined, calling, start, status_of, end_with, cstep}
use Rattle.tac_code.specs.declared.code.Operand.TheVariants as operand
use Rattle.tac_code.specs.declared.code.Target.TheVariants as target
use Rattle.tac_code.specs.declared.code.Instruction.TheVariants as instruction
use Rattle.tac_code.specs.Code as tac_code
use Rattle.tac_code.specs.Code.{Program, function_at, or_no_function}
use Rattle.tac_code.specs.Costs.{cost, spent, spent_in_all}
use Rattle.tac_code.specs.Run as tac
use Rattle.tac_code.specs.Run.{Values, Call, State, running, ended, word, word_in, word_for, word_at, is_word_of, unset, result_in, result_alone, entered, returned, numbers_in, arrays_in, words_in, begun, ◌>>=◌}
use Rattle.tac_code.specs.Sound.{AreBytes}
use Rattle.tac_code.specs.Lowered.{kind_of}
use Rattle.lower_wf.specs.Asked.{bodies_are_asked, is_sized, parameter_is_sized, function_is_sized, types_are_sized, is_asked, statement_is_asked}
use Rattle.lower_correct.specs.Values.{or_int, writes_none}
use Rattle.lower_correct.specs.Code.{One}
use Rattle.lower_correct.specs.Bodies.{Idles, Closes, Stands, IsFunctionFor, IsCodeFor}
use Rattle.lower_correct.specs.Laws.{CodeBehaves}
use Rattle.lower_correct.proofs.Words.{differ, ranged, is_word, low8, left_true, right_true}
use Rattle.lower_correct.proofs.Steps.{stays, from, GoesTo, EndsAt, PausesAt, HaltsAt, Sim, goes, sim_after, sim_then, sim_more, sim_map, sim_move, tick_in}
use Rattle.lower_correct.proofs.Standing.{Scratch, here, slots_only, put_scratch, set_same, does_one, does_nothing, does_move, does_forget, world, first_automatic, types_below, rows_of, parameters_of, IsCode}
use Rattle.lower_correct.proofs.Stores.{below_length, length_mapped, all_types, Fine, After, fine_later, after_later}
use Rattle.lower_correct.proofs.Passing.{Fitting, Gave, CallGood, CallsDo}
use Rattle.lower_correct.proofs.Flows.{writes_all, StandsAt, FlowGood, flow_since}
use Rattle.lower_correct.proofs.Expressions.{zero_fits}
use Rattle.std.specs.List.{list_all}
use Rattle.std.proofs.lemmas.Bool.Decides.{nat_tests}
use Rattle.lower_correct.proofs.Initialising.{AreSized}
use Rattle.lower_correct.proofs.Statements.{statement_runs}
use Rattle.lower_correct.proofs.Entering.{item_is, function_is, item_below, arrays_are, numbers_are, words_are, fine_lives, fine_entered, fine_left, after_left}
use Rattle.lower_correct.proofs.Beginning.{first_world, lives_first}

-- ---- ticks of a definition and its parameters

record Idle (q : Program) (f pc2 : ℕ) (now : Scratch) (ws : List Call) (s s2 : machine.State) (z : State) : Type 0 where
  pub at : z ≡ here f pc2 now ws s
  pub k : ℕ
  pub same : s2 ≡ record s { clock = k }

idles_do : (q : Program) (f : ℕ) (now : Scratch) (ws : List Call) (n pc pc2 extra : ℕ) (s0 s : machine.State) (k : ℕ) → s ≡ record s0 { clock = k }
    → Idles (function_at q f).code n pc pc2
    → Sim q (60 * n + extra) (60 * s.clock + extra) s.clock (here f pc now ws s0) (λ u. Idle q f pc2 now ws s0) (ticks n s)
idles_do q f now ws zero pc pc2 extra s0 s k e h =
    goes q (60 * 0 + extra) (Idle q f pc2 now ws s0) (60 * s.clock + extra) s.clock 0 0 (here f pc now ws s0) (here f pc now ws s0) s
    (stays q (here f pc now ws s0)) (omega arith) (omega arith)
    (record { at = ap (λ n. here f n now ws s0) h; k = k; same = e })
idles_do q f now ws (suc n) pc pc2 extra s0 s k e h =
    tick_in q (60 * suc n + extra) (λ u. Idle q f pc2 now ws s0) (here f pc now ws s0) (here f h.0 now ws s0) s extra (60 * s.clock + extra) (λ s. ticks n s)
    (omega arith) (ap (λ y. y.history) (sym e)) (ap (λ y. y.input) (sym e)) (does_nothing q f pc h.0 now ws s0 h.1)
    (λ j lt.
    let s1 : machine.State = record s { clock = j } in
    let later : machine.State → machine.State = λ y. record y { clock = j } in
    sim_map q (60 * n + (60 + extra)) (60 * suc n + extra) (λ u. Idle q f pc2 now ws s0) (λ u. Idle q f pc2 now ws s0) (60 * j + (60 + extra))
    (60 * j + 60 + extra) j (here f h.0 now ws s0) (ticks n s1) (omega arith) (omega arith)
    (idles_do q f now ws n h.0 pc2 (60 + extra) s0 s1 j (ap later e) h.2) (λ a s2 z g. g))

abbrev fresh : Scratch
fresh = record { temporaries = unset; kept = unset }

abbrev type_or : Option Function → Option FunctionType
type_or None = None
type_or (Some g) = Some g.type

not_none : (x : FunctionType) → None ≡ Some x → ⊥
not_none x e = cc

same_type : (x y : FunctionType) → Some x ≡ Some y → x ≡ y
same_type x y e = cc

-- ---- results

no_word : (r : Option IntType) → result_in r None ≡ Some None
no_word None = refl
no_word (Some u) = refl

no_result : (w : Option ℕ) (r : Option IntType) → r ≡ None → result_in r w ≡ Some None
no_result w r e = ap (λ r. result_in r w) e

word_given : (r : Option IntType) (u : IntType) (v : ℤ) (m : Values) → r ≡ Some u → IsValueOf u v → m 0 ≡ Some (word (word_for v))
    → result_in r (word_in (m 0)) ≡ Some (Some (word_for v))
word_given r u v m e h there =
    let fits : is_word_of u (word_for v) ≡ true = is_word u v (ranged u v h) (ap word_for (converted_keeps u v h)) in
    ap (λ r. result_in r (word_in (m 0))) e ∙ (ap (λ x. result_in (Some u) (word_in x)) there ∙ ap (λ b. if b then Some (Some (word_for v)) else None) fits)

module _ (p : typed.Program) (q : Program) (typed_well : is_typed p ≡ true) (asked : is_asked p ≡ true) (texts : (n : ℕ) (text : List ℕ) → slice_get p.literals n ≡ Some text → AreBytes text) (code : IsCodeFor p q)
    (main_gives : (f : Function) → slice_get p.functions p.main ≡ Some f → f.type.result ≡ Some ty.Int) where
  -- ---- a function and its code

  record Both (g : ℕ) (f : Function) : Type 0 where
    pub h : tac_code.Function
    pub at : slice_get q.functions g ≡ Some h
    pub is : IsFunctionFor p q (nat_eq g p.main) f h

  both : (g : ℕ) (f : Function) → slice_get p.functions g ≡ Some f → Both g f
  both g f e =
      let lt : g < length q.functions = subst (λ n. g < n) (sym code.count) (below_length p.functions g f e) in
      let i = item_below q.functions g lt in
      record { h = i.element; at = i.is; is = code.each g f i.element e i.is }

  statics_typed : statics_are_typed p.statics ≡ true
  statics_typed = left_true (statics_are_typed p.statics) (nat_lt p.main (length p.functions))
      (right_true (functions_are_typed p p.functions) (statics_are_typed p.statics && nat_lt p.main (length p.functions)) typed_well)

  typed_function : (g : ℕ) (f : Function) → slice_get p.functions g ≡ Some f → function_is_typed p f ≡ true
  typed_function g f e = function_is p p.functions g f
      (left_true (functions_are_typed p p.functions) (statics_are_typed p.statics && nat_lt p.main (length p.functions)) typed_well) e

  module _ (g : ℕ) (f : Function) (e : slice_get p.functions g ≡ Some f) where
    here_is : function_at q g ≡ (both g f e).h
    here_is = ap or_no_function (both g f e).at

    objects_same : (function_at q g).objects ≡ f.objects
    objects_same = ap (λ h. h.objects) here_is ∙ (both g f e).is.objects

    result_same : (function_at q g).result ≡ f.type.result
    result_same = ap (λ h. h.result) here_is ∙ (both g f e).is.result

    parameters_same : (function_at q g).parameters ≡ map kind_of f.type.parameters
    parameters_same = ap (λ h. h.parameters) here_is ∙ (both g f e).is.parameters

    asked_body : statement_is_asked f.body ≡ true
    asked_body = item_is (λ f. statement_is_asked f.body) p.functions g f (left_true (bodies_are_asked p) (types_are_sized p) asked) e

    behind_weight : (parameters_are_first f.type.parameters f.objects && statement_is_typed p f (units.numbers_in f.type.parameters) (length f.objects) f.body)
        ≡ true
    behind_weight = right_true (nat_le f.weight 16777216)
        (parameters_are_first f.type.parameters f.objects && statement_is_typed p f (units.numbers_in f.type.parameters) (length f.objects) f.body)
        (right_true (nat_le (typed_nodes f) f.nodes)
        (nat_le f.weight 16777216 && (parameters_are_first f.type.parameters f.objects && statement_is_typed p f (units.numbers_in f.type.parameters)
        (length f.objects) f.body)) (typed_function g f e))

    parameters_first : parameters_are_first f.type.parameters f.objects ≡ true
    parameters_first = left_true (parameters_are_first f.type.parameters f.objects)
        (statement_is_typed p f (units.numbers_in f.type.parameters) (length f.objects) f.body) behind_weight

    body_typed : statement_is_typed p f (units.numbers_in f.type.parameters) (length f.objects) f.body ≡ true
    body_typed = right_true (parameters_are_first f.type.parameters f.objects)
        (statement_is_typed p f (units.numbers_in f.type.parameters) (length f.objects) f.body) behind_weight

    -- about to return the value of the call, which main always has
    record AtReturn (before : machine.State) (ws : List Call) (o : Option ℤ) (s : machine.State) (z : State) : Type 0 where
      pub pc : ℕ
      pub pc2 : ℕ
      pub now : Scratch
      pub at : z ≡ here g pc now ws s
      pub leave : One (function_at q g).code instruction.Return pc pc2
      pub value : (v : ℤ) → o ≡ Some v → IsValueOf (or_int f.type.result) v
      pub gives : result_in f.type.result (word_in (now.temporaries 0)) ≡ Some (option_map word_of o)
      pub has : nat_eq g p.main ≡ true → (v : ℤ) × (o ≡ Some v)
      pub fine : Fine (world p q g ws) s
      pub after : After (first_automatic q) writes_all before s

    -- the Return then gives the value of the call
    gives_result : (ws : List Call) (o : Option ℤ) (before s : machine.State) (z : State) (r : AtReturn before ws o s z)
        → tac.act q (here g r.pc r.now ws s) instruction.Return ≡ returned (here g r.pc r.now ws s) ws (option_map word_of o)
    gives_result ws o before s z r =
        let t = here g r.pc r.now ws s in
        ap (λ x. result_in x (word_in (r.now.temporaries 0)) >>= returned t ws) result_same ∙ ap (λ x. x >>= returned t ws) r.gives

    is_code : IsCode p f q g
    is_code = record { function = e; objects = objects_same; literals = code.literals; statics = code.statics }

    sized : function_is_sized f ≡ true
    sized = item_is function_is_sized p.functions g f
        (left_true (list_all function_is_sized p.functions) (list_all (λ o. is_sized o.type) p.statics) (right_true (bodies_are_asked p) (types_are_sized p) asked)) e

    room : AreSized f
    room n o at = item_is is_sized f.objects n o (right_true (list_all parameter_is_sized f.type.parameters) (list_all is_sized f.objects) sized) at

    -- the call's objects and parameters are those of its code
    in_world : (texts : List (List ℕ)) (first : ℕ) (outer : List ObjectType) (s : machine.State)
        → Fine (record { texts = texts; first = first; outer = outer; own = f.objects; rows = rows_of f.type.parameters }) s
        → Fine (record { texts = texts; first = first; outer = outer; own = (function_at q g).objects; rows = rows_of (parameters_of (slice_get p.functions g)) }) s
    in_world texts first outer s h =
        subst (λ x. Fine (record { texts = texts; first = first; outer = outer; own = (function_at q g).objects; rows = rows_of (parameters_of x) }) s) (sym e)
        (subst (λ l. Fine (record { texts = texts; first = first; outer = outer; own = l; rows = rows_of f.type.parameters }) s) (sym objects_same) h)

    is_main : nat_eq g p.main ≡ true → f.type.result ≡ Some ty.Int
    is_main h = main_gives f (ap (slice_get p.functions) (let z : p.main ≡ g = grind (arith, nat_tests) in z) ∙ e)

    module _ (call : Calling) (deep : ℕ) (ok : CallsDo p call q deep g) where
      -- the end of the body is reached
      closed : (b : Bool) (end back last : ℕ) (before : machine.State) (ws : List Call) (s : machine.State) (z : State) → nat_eq g p.main ≡ b
          → Closes (function_at q g).code b end back → One (function_at q g).code instruction.Return back last
          → StandsAt p call q deep g f.type.result end before ws s z → GoesTo q 84 (60 * s.clock + 90) s.clock z (AtReturn before ws (value_at_end b)) s
      closed true end back last before ws s z eb h r st =
          let now2 = put_scratch (target.Temporary 0) 0 st.now in
          goes q 84 (AtReturn before ws (Some (pos 0))) (60 * s.clock + 90) s.clock 1 6 z (here g back now2 ws s) s
          (from q z (here g end st.now ws s) 1 6 (running (here g back now2 ws s)) st.at
          (does_move q g (target.Temporary 0) (operand.Constant 0) 0 end back st.now ws s h refl tt)) (omega arith) (omega arith)
          (record {
            pc = back;
            pc2 = last;
            now = now2;
            at = refl;
            leave = r;
            value = λ v ev. let same : pos 0 ≡ v = cc in subst (IsValueOf (or_int f.type.result)) same (zero_fits f.type.result);
            gives = word_given f.type.result ty.Int (pos 0) now2.temporaries (is_main eb) (zero_fits (Some ty.Int)) (set_same st.now.temporaries 0 (word 0));
            has = λ m. (pos 0, refl);
            fine = st.fine;
            after = st.after;
          })
      closed false end back last before ws s z eb h r st =
          let now2 = slots_only st.now in
          goes q 84 (AtReturn before ws None) (60 * s.clock + 90) s.clock 1 0 z (here g back now2 ws s) s
          (from q z (here g end st.now ws s) 1 0 (running (here g back now2 ws s)) st.at (does_forget q g 0 0 end back st.now ws s h)) (omega arith)
          (omega arith)
          (record {
            pc = back;
            pc2 = last;
            now = now2;
            at = refl;
            leave = r;
            value = λ v ev. absurd (let y : ⊥ = cc in y);
            gives = no_word f.type.result;
            has = λ m. absurd (differ (sym eb ∙ m));
            fine = st.fine;
            after = st.after;
          })

      to_return : (end back last : ℕ) (before : machine.State) (ws : List Call) → Closes (function_at q g).code (nat_eq g p.main) end back
          → One (function_at q g).code instruction.Return back last → (flow : Flow) (s : machine.State) (z : State)
          → FlowGood p call q deep g f.type.result end end end before ws flow s z
          → GoesTo q 84 (60 * s.clock + 90) s.clock z (AtReturn before ws (value_left (nat_eq g p.main) flow)) s
      to_return end back last before ws h r Normal s z st = closed (nat_eq g p.main) end back last before ws s z refl h r st
      to_return end back last before ws h r Broken s z st = closed (nat_eq g p.main) end back last before ws s z refl h r st
      to_return end back last before ws h r Continued s z st = closed (nat_eq g p.main) end back last before ws s z refl h r st
      to_return end back last before ws h r (Returned None) s z l =
          goes q 84 (AtReturn before ws None) (60 * s.clock + 90) s.clock 0 0 z z s (stays q z) (omega arith) (omega arith)
          (record {
            pc = l.pc;
            pc2 = l.pc2;
            now = l.now;
            at = l.at;
            leave = l.leave;
            value = λ v ev. absurd (let y : ⊥ = cc in y);
            gives = no_result (word_in (l.now.temporaries 0)) f.type.result l.gives;
            has = λ m. let clash : None ≡ Some ty.Int = sym l.gives ∙ is_main m in absurd (let y : ⊥ = cc in y);
            fine = l.fine;
            after = l.after;
          })
      to_return end back last before ws h r (Returned (Some v)) s z l =
          goes q 84 (AtReturn before ws (Some v)) (60 * s.clock + 90) s.clock 0 0 z z s (stays q z) (omega arith) (omega arith)
          (record {
            pc = l.pc;
            pc2 = l.pc2;
            now = l.now;
            at = l.at;
            leave = l.leave;
            value = λ w ew. let same : v ≡ w = cc in subst (IsValueOf (or_int f.type.result)) same
                (subst (λ r. IsValueOf (or_int r) v) (sym l.gives.1) l.gives.2);
            gives = word_given f.type.result l.gives.0 v l.now.temporaries l.gives.1 l.gives.2 l.gives.3;
            has = λ m. (v, refl);
            fine = l.fine;
            after = l.after;
          })

      -- the definition's ticks, the body, and the state at its end
      body_does : (s : machine.State) (ws : List Call) → s.clock ≤ suc deep → Fine (world p q g ws) s
          → Sim q 84 (60 * s.clock + 16) s.clock (here g 0 fresh ws s) (λ flow. AtReturn s ws (value_left (nat_eq g p.main) flow)) (body_of p call f s)
      body_does s ws le fine =
          let c = both g f e in
          let n = length f.type.parameters in
          let code_same : c.h.code ≡ (function_at q g).code = ap (λ h. h.code) (sym here_is) in
          let idles : Idles (function_at q g).code (suc n) 0 c.is.start = subst (λ l. Idles l (suc n) 0 c.is.start) code_same c.is.idles in
          let closes : Closes (function_at q g).code (nat_eq g p.main) c.is.end c.is.back =
          subst (λ l. Closes l (nat_eq g p.main) c.is.end c.is.back) code_same c.is.closes in
          let leaves : One (function_at q g).code instruction.Return c.is.back (length c.h.code) =
          subst (λ l. One l instruction.Return c.is.back (length c.h.code)) code_same c.is.leaves in
          let stands = subst (λ l. Stands l p f f.body c.is.end c.is.end c.is.back c.is.start c.is.end) code_same c.is.body in
          let Good2 : Flow → machine.State → State → Type 0 = λ flow. AtReturn s ws (value_left (nat_eq g p.main) flow) in
          sim_then q (60 * suc n + 16) 84 (λ u. Idle q g c.is.start fresh ws s) Good2 (60 * s.clock + 16) (60 * suc n + 16) (60 * s.clock + 16) s.clock
          (here g 0 fresh ws s) (ticks (suc n) s) (λ u s. execute p call f.objects f.body s) (omega arith) (omega arith)
          (idles_do q g fresh ws (suc n) 0 c.is.start 16 s s s.clock refl idles)
          (λ u s2 z lt i.
          let s3 : machine.State = record s { clock = i.k } in
          let ck : s2.clock ≡ i.k = ap (λ y. y.clock) i.same in
          sim_move q 84 Good2 (60 * s2.clock + (60 * suc n + 16)) s2.clock z (here g c.is.start fresh ws s) (execute p call f.objects f.body s2) i.at
          (subst (λ y. Sim q 84 (60 * y.clock + (60 * suc n + 16)) y.clock (here g c.is.start fresh ws s) Good2 (execute p call f.objects f.body y))
          (sym i.same)
          (subst (λ l. Sim q 84 (60 * i.k + (60 * suc n + 16)) i.k (here g c.is.start fresh ws s) Good2 (execute p call l f.body s3)) objects_same
          (sim_more q 14 84 (FlowGood p call q deep g f.type.result c.is.end c.is.end c.is.end s3 ws) Good2 (60 * i.k) 90 (60 * i.k + (60 * suc n + 16)) i.k
          (here g c.is.start fresh ws s) (execute p call (function_at q g).objects f.body s3) (omega arith) (omega arith)
          (statement_runs p f call q deep g is_code ok room c.is.back (length c.h.code) leaves f.body
          (units.numbers_in f.type.parameters) (length f.objects) c.is.end c.is.end c.is.start c.is.end body_typed asked_body stands s3 fresh ws (omega (arith, le, lt, ck)) (fine_later (world p q g ws) s i.k fine))
          (λ flow s4 z4 lt4 good. to_return c.is.end c.is.back (length c.h.code) s ws closes leaves flow s4 z4
          (flow_since p call q deep g f.type.result c.is.end c.is.end c.is.end s s3 ws (after_later writes_all s i.k) flow s4 z4 good))))))

  -- ---- calls

  module _ (g : ℕ) (fn : Function) (e : slice_get p.functions g ≡ Some fn) (f : ℕ) (passed : List Passed) (s : machine.State) (now : Scratch) (ws : List Call)
      (pc pc2 : ℕ) (fine : Fine (world p q f ws) s) where
    -- the call begins
    begins : Fitting (world p q f ws) fn.type.parameters passed 0 now.temporaries
        → tac.act q (here f pc now ws s) (instruction.Call g) ≡ running
        (here g 0 (record { temporaries = unset; kept = unset })
        (record { function = f; at = pc + 1; kept = now.kept; base = s.base; arrays = s.arrays } ∷ ws) (enter g fn passed s))
    begins fits =
        let t = here f pc now ws s in
        let b = both g fn e in
        let numbers : numbers_in b.h.parameters b.h.objects now.temporaries 0 ≡ Some (numbers_of passed) =
        ap (λ l. numbers_in l b.h.objects now.temporaries 0) b.is.parameters
        ∙ (ap (λ l. numbers_in (map kind_of fn.type.parameters) l now.temporaries 0) b.is.objects
        ∙ numbers_are (world p q f ws) fn.type.parameters fn.objects passed 0 now.temporaries (parameters_first g fn e) fits) in
        let words : words_in b.h.parameters now.temporaries 0 ≡ words_of passed =
        ap (λ l. words_in l now.temporaries 0) b.is.parameters ∙ words_are (world p q f ws) fn.type.parameters passed 0 now.temporaries fits in
        let arrays : arrays_in b.h.parameters now.temporaries 0 ≡ Some (arrays_of passed) =
        ap (λ l. arrays_in l now.temporaries 0) b.is.parameters ∙ arrays_are (world p q f ws) fn.type.parameters passed 0 now.temporaries fits in
        ap (λ o. o >>= λ h. numbers_in h.parameters h.objects now.temporaries 0 >>= λ numbers. arrays_in h.parameters now.temporaries 0 >>= λ arrays. begun t g
        h numbers arrays) b.at
        ∙ (ap (λ o. o >>= λ numbers. arrays_in b.h.parameters now.temporaries 0 >>= λ arrays. begun t g b.h numbers arrays) numbers
        ∙ (ap (λ o. o >>= λ arrays. begun t g b.h (numbers_of passed) arrays) arrays
        ∙ (ap (λ l. begun t g (record b.h { objects = l }) (numbers_of passed) (arrays_of passed)) b.is.objects
        ∙ ap (λ l. running (record t {
          call = record { function = g; at = 0; kept = unset; base = length s.store; arrays = arrays_of passed };
          temporaries = unset;
          waiting = record { function = f; at = pc + 1; kept = now.kept; base = s.base; arrays = s.arrays } ∷ ws;
          store = s.store ++ (numbers_of passed ++ map indeterminate (drop (length (numbers_of passed)) fn.objects));
          history = Entered g l ∷ s.history;
        })) words)))

    -- and ends
    abbrev waits : Call
    waits = record { function = f; at = pc + 1; kept = now.kept; base = s.base; arrays = s.arrays }

    gave_of : (call : Calling) (deep : ℕ) (o : Option ℤ) → ((v : ℤ) → o ≡ Some v → IsValueOf (or_int fn.type.result) v)
        → Gave p call q deep f fn.type.result o (result_alone (option_map word_of o))
    gave_of call deep None h = tt
    gave_of call deep (Some v) h = (h v refl, refl)

    ends_call : (call : Calling) (deep : ℕ) (o : Option ℤ) (s2 : machine.State) (z : State) → pc + 1 ≡ pc2
        → AtReturn g fn e (enter g fn passed s) (waits ∷ ws) o s2 z
        → GoesTo q 22 (60 * s2.clock + 84) s2.clock z (CallGood p call q deep f pc2 now.kept ws s fn.type.result o) (leave s o s2)
    ends_call call deep o s2 z en r =
        let temporaries = result_alone (option_map word_of o) in
        let shape : ℕ → ℕ → State = λ n m. record {
          call = record { function = f; at = m; kept = now.kept; base = s.base; arrays = s.arrays };
          temporaries =
              temporaries;
          waiting = ws;
          store = take n s2.store;
          input = s2.input;
          history = Left (option_map word_of o) ∷ s2.history;
        } in
        let t = here g r.pc r.now (waits ∷ ws) s2 in
        let u = here f pc2 (record { temporaries = temporaries; kept = now.kept }) ws (leave s o s2) in
        let step : tac.act q t instruction.Return ≡ running u =
        gives_result g fn e (waits ∷ ws) o (enter g fn passed s) s2 z r
        ∙ (ap (λ n. running (shape n (pc + 1))) r.after.base ∙ ap (λ m. running (shape (length s.store) m)) en) in
        goes q 22 (CallGood p call q deep f pc2 now.kept ws s fn.type.result o) (60 * s2.clock + 84) s2.clock 1 43 z u (leave s o s2)
        (from q z (here g r.pc r.now (waits ∷ ws) s2) 1 43 (running u) r.at
        (does_one q g instruction.Return r.pc r.pc2 r.now (waits ∷ ws) s2 (running u) r.leave step)) (omega arith) (omega arith)
        (record {
          temporaries = temporaries;
          at = refl;
          gave = gave_of call deep o r.value;
          fine = fine_left (world p q f ws) (function_at q g).objects (rows_of (parameters_of (slice_get p.functions g))) o s s2 fine r.fine;
          after = after_left (world p q f ws) writes_none g fn passed o s s2 fine r.after;
        })

  call_of : (d g f : ℕ) (fn : Function) (e : slice_get p.functions g ≡ Some fn) (ok : CallsDo p (calling p d) q d g) (passed : List Passed) (s : machine.State)
      (now : Scratch) (ws : List Call) (pc pc2 : ℕ) → s.clock ≤ suc d → Fine (world p q f ws) s
      → One (function_at q f).code (instruction.Call g) pc pc2 → Fitting (world p q f ws) fn.type.parameters passed 0 now.temporaries
      → Sim q 22 (60 * s.clock + (60 + 6 * length fn.type.parameters)) s.clock (here f pc now ws s)
      (CallGood p (calling p (suc d)) q (suc d) f pc2 now.kept ws s fn.type.result) (call_defined p (calling p d) (Some fn) g passed s)
  call_of d g f fn e ok passed s now ws pc pc2 le fine o fits =
      let w : Call = record { function = f; at = pc + 1; kept = now.kept; base = s.base; arrays = s.arrays } in
      let s1 = enter g fn passed s in
      let n = length fn.type.parameters in
      let size : length (function_at q g).parameters ≡ n = ap length (parameters_same g fn e) ∙ length_mapped kind_of fn.type.parameters in
      let fine1 : Fine (world p q g (w ∷ ws)) s1 =
      in_world g fn e q.literals (first_automatic q) (all_types (world p q f ws)) s1
      (fine_entered (world p q f ws) g fn passed 0 now.temporaries s (parameters_first g fn e) fits (fine_lives (world p q f ws) s fine)) in
      let Good2 = CallGood p (calling p (suc d)) q (suc d) f pc2 now.kept ws s fn.type.result in
      sim_after q 22 Good2 (60 * s.clock + (60 + 6 * n)) s.clock (60 * s.clock + 16) s.clock 1 (cost q (instruction.Call g)) (here f pc now ws s)
      (here g 0 fresh (w ∷ ws) s1) (call_defined p (calling p d) (Some fn) g passed s)
      (does_one q f (instruction.Call g) pc pc2 now ws s (running (here g 0 fresh (w ∷ ws) s1)) o (begins g fn e f passed s now ws pc pc2 fine fits))
      (omega (arith, size)) (omega arith)
      (sim_then q 84 22 (λ flow. AtReturn g fn e s1 (w ∷ ws) (value_left (nat_eq g p.main) flow)) Good2 (60 * s.clock + 16) 84 (60 * s.clock + 16) s.clock
      (here g 0 fresh (w ∷ ws) s1) (body_of p (calling p d) fn s1) (λ flow s2. Goes (value_left (nat_eq g p.main) flow) (leave s (value_left (nat_eq g p.main) flow) s2)) (omega arith)
      (omega arith)
      (body_does g fn e (calling p d) d ok s1 (w ∷ ws) le fine1)
      (λ flow s2 z lt r. ends_call g fn e f passed s now ws pc pc2 fine (calling p (suc d)) (suc d) (value_left (nat_eq g p.main) flow) s2 z o.next r))

  call_at : (d g f : ℕ) (x : Option Function) → slice_get p.functions g ≡ x → CallsDo p (calling p d) q d g
      → (type : FunctionType) (passed : List Passed) (s : machine.State) (now : Scratch) (ws : List Call) (pc pc2 : ℕ) → type_or x ≡ Some type → s.clock ≤ suc d
      → Fine (world p q f ws) s → One (function_at q f).code (instruction.Call g) pc pc2 → Fitting (world p q f ws) type.parameters passed 0 now.temporaries
      → Sim q 22 (60 * s.clock + (60 + 6 * length type.parameters)) s.clock (here f pc now ws s)
      (CallGood p (calling p (suc d)) q (suc d) f pc2 now.kept ws s type.result) (call_defined p (calling p d) x g passed s)
  call_at d g f None e ok type passed s now ws pc pc2 ht le fine o fits = absurd (not_none type ht)
  call_at d g f (Some fn) e ok type passed s now ws pc pc2 ht le fine o fits =
      let same = same_type fn.type type ht in
      subst (λ y. Sim q 22 (60 * s.clock + (60 + 6 * length y.parameters)) s.clock (here f pc now ws s)
      (CallGood p (calling p (suc d)) q (suc d) f pc2 now.kept ws s y.result) (call_defined p (calling p d) (Some fn) g passed s)) same
      (call_of d g f fn e ok passed s now ws pc pc2 le fine o (subst (λ y. Fitting (world p q f ws) y.parameters passed 0 now.temporaries) (sym same) fits))

  calls_do : (d f : ℕ) → CallsDo p (calling p d) q d f
  calls_do zero f g type passed s now ws pc pc2 ht le fine o fits =
      record {
        j = 0;
        c = 0;
        u = here f pc now ws s;
        reaches = stays q (here f pc now ws s);
        within = omega arith;
        progress = omega (arith, le);
        history =
            refl;
        input = refl;
      }
  calls_do (suc d) f g type passed s now ws pc pc2 ht le fine o fits =
      call_at d g f (slice_get p.functions g) refl (calls_do d g) type passed s now ws pc pc2 (by_option (slice_get p.functions g) ∙ ht) le fine o fits
    where
      by_option : (x : Option Function) → type_or x ≡ elim x as (λ y. Option FunctionType) [ None ↦ None | Some g ↦ Some g.type ]
      by_option None = refl
      by_option (Some g) = refl

  -- ---- the whole program

  abbrev Never : Option ℤ → machine.State → State → Type 0
  Never o s z = ⊥

  module _ (fn : Function) (e : slice_get p.functions p.main ≡ Some fn) (n : ℕ) (input : List ℕ) (bytes : AreBytes input) (nothing : fn.type.parameters ≡ [])
    where
      abbrev first : machine.State
      first = start n p input

      -- main's value is the status
      record Waits (o : Option ℤ) (s : machine.State) (z : State) : Type 0 where
        pub s2 : machine.State
        pub same : s ≡ leave (start n p input) o s2
        pub last : AtReturn p.main fn e (enter p.main fn [] (start n p input)) [] o s2 z

      begun_same : tac.start q input ≡ here p.main 0 (record { temporaries = unset; kept = unset }) [] (enter p.main fn [] (start n p input))
      begun_same =
          let shape : ℕ → Store → List ObjectType → State = λ m first objects. record {
            call = record { function = m; at = 0; kept = unset; base = length first; arrays = [] };
            temporaries = unset;
            waiting = [];
            store = first ++ map indeterminate objects;
            input = input;
            history = Entered m [] ∷ [];
          } in
          let stores : tac.first_store q ≡ store.first_store p =
          ap (λ l. map literal_object l ++ map static_object q.statics) code.literals
          ∙ ap (λ l. map literal_object p.literals ++ map static_object l) code.statics in
          ap (λ m. shape m (tac.first_store q) (function_at q m).objects) code.main
          ∙ (ap (λ l. shape p.main l (function_at q p.main).objects) stores ∙ ap (λ l. shape p.main (store.first_store p) l) (objects_same p.main fn e))

      status_is : (o : Option ℤ) (v : ℤ) → o ≡ Some v → word_for v % 2 ^ 8 ≡ status_of o
      status_is o v h = low8 v ∙ sym (ap status_of h)

      ends_all : (o : Option ℤ) (s : machine.State) (z : State) → Waits o s z → EndsAt q (60 * s.clock + 84) z (status_of o) s.input s.history
      ends_all o s z w =
          let r = w.last in
          let t = here p.main r.pc r.now [] w.s2 in
          let has = r.has (let y : nat_eq p.main p.main ≡ true = grind (arith, nat_tests) in y) in
          let history = Left (option_map word_of o) ∷ w.s2.history in
          let step : tac.act q t instruction.Return ≡ ended (status_of o) w.s2.input history =
          gives_result p.main fn e [] o (enter p.main fn [] (start n p input)) w.s2 z r
          ∙ (ap (λ o. returned t [] (option_map word_of o)) has.1
          ∙ (ap (λ k. ended k w.s2.input (Left (Some (word_for has.0)) ∷ w.s2.history)) (status_is o has.0 has.1)
          ∙ ap (λ x. ended (status_of o) w.s2.input (Left (option_map word_of x) ∷ w.s2.history)) (sym has.1))) in
          subst (λ y. EndsAt q (60 * y.clock + 84) z (status_of o) y.input y.history) (sym w.same)
          (record {
            j = 1;
            c = 43;
            reaches = from q z t 1 43 (ended (status_of o) w.s2.input history) r.at
                (does_one q p.main instruction.Return r.pc r.pc2 r.now [] w.s2 (ended (status_of o) w.s2.input history) r.leave step);
            within =
                omega arith;
          })

      follows_main : Sim q 14 (60 * n + 18) n (tac.start q input) Never (then_do (call_defined p (calling p n) (Some fn) p.main [] (start n p input)) end_with)
      follows_main =
          let s0 = start n p input in
          let s1 = enter p.main fn [] s0 in
          let z = here p.main 0 (record { temporaries = unset; kept = unset }) [] s1 in
          let fits : Fitting (first_world q) fn.type.parameters [] 0 unset = subst (λ l. Fitting (first_world q) l [] 0 unset) (sym nothing) tt in
          let fine1 : Fine (world p q p.main []) s1 =
          in_world p.main fn e q.literals (first_automatic q) (types_below q []) s1
          (fine_entered (first_world q) p.main fn [] 0 unset s0 (parameters_first p.main fn e) fits
          (lives_first p q n input code.literals code.statics texts statics_typed bytes)) in
          let le : n ≤ suc n = omega arith in
          sim_move q 14 Never (60 * n + 18) n (tac.start q input) z (then_do (call_defined p (calling p n) (Some fn) p.main [] s0) end_with) begun_same
          (sim_then q 84 14 Waits Never (60 * n + 16) 84 (60 * n + 18) n z (call_defined p (calling p n) (Some fn) p.main [] s0) end_with (omega arith)
          (omega arith)
          (sim_then q 84 84 (λ flow. AtReturn p.main fn e s1 [] (value_left (nat_eq p.main p.main) flow)) Waits (60 * n + 16) 84 (60 * n + 16) n z
          (body_of p (calling p n) fn s1) (λ flow s2. Goes (value_left (nat_eq p.main p.main) flow) (leave s0 (value_left (nat_eq p.main p.main) flow) s2)) (omega arith) (omega arith)
          (body_does p.main fn e (calling p n) n (calls_do n p.main) s1 [] le fine1)
          (λ flow s2 z2 lt r. goes q 84 (Waits (value_left (nat_eq p.main p.main) flow)) (60 * s2.clock + 84) s2.clock 0 0 z2 z2 (leave s0 (value_left (nat_eq p.main p.main) flow) s2) (stays q z2)
          (omega arith) (omega arith) (record { s2 = s2; same = refl; last = r })))
          (λ o s z3 lt w. ends_all o s z3 w))

  follows_at : (x : Option Function) → slice_get p.functions p.main ≡ x → (n : ℕ) (input : List ℕ) → AreBytes input
      → ((f : Function) → x ≡ Some f → f.type.parameters ≡ []) → p.main < length p.functions
      → Sim q 14 (60 * n + 18) n (tac.start q input) Never (then_do (call_defined p (calling p n) x p.main [] (start n p input)) end_with)
  follows_at None e n input bytes nothing lt = let i = item_below p.functions p.main lt in absurd (let y : ⊥ = clash i.element (sym e ∙ i.is) in y)
    where
      clash : (f : Function) → None ≡ Some f → ⊥
      clash f h = cc
  follows_at (Some fn) e n input bytes nothing lt = follows_main fn e n input bytes (nothing fn refl)

pub code_behaves : CodeBehaves
code_behaves p q input checked asked code bytes =
    let lt : p.main < length p.functions = less (left_part checked.well_typed) in
    let all : (n : ℕ) → Sim q 14 (60 * n + 18) n (tac.start q input) (Never p q checked.well_typed asked checked.literals code checked.main_gives_int) (cstep n p input) =
    λ n. follows_at p q checked.well_typed asked checked.literals code checked.main_gives_int (slice_get p.functions p.main) refl n input bytes checked.main_takes_nothing
    lt in
    record {
      ends = λ n status s h.
          let l : EndsAt q (60 * n + 18) (tac.start q input) status s.input s.history =
          subst (λ r. Sim q 14 (60 * n + 18) n (tac.start q input) (Never p q checked.well_typed asked checked.literals code checked.main_gives_int) r) h (all n) in
          (l.j, l.reaches.by, costs n l.j l.c l.reaches.spends l.within);
      goes_on = λ n s h.
          let l : PausesAt q (60 * n + 18) n (tac.start q input) s =
          subst (λ r. Sim q 14 (60 * n + 18) n (tac.start q input) (Never p q checked.well_typed asked checked.literals code checked.main_gives_int) r) h (all n) in
          (l.j, l.progress, (l.u, l.reaches.by, l.history, l.input), costs n l.j l.c l.reaches.spends l.within);
      stops = λ n act at s h.
          let l : HaltsAt q (60 * n + 18) (tac.start q input) s =
          subst (λ r. Sim q 14 (60 * n + 18) n (tac.start q input) (Never p q checked.well_typed asked checked.literals code checked.main_gives_int) r) h (all n) in
          (l.j, (l.u, l.reaches.by, l.history, l.input), costs n l.j l.c l.reaches.spends l.within);
    }
  where
    left_part : is_typed p ≡ true → nat_lt p.main (length p.functions) ≡ true
    left_part h = right_true (statics_are_typed p.statics) (nat_lt p.main (length p.functions))
        (right_true (functions_are_typed p p.functions) (statics_are_typed p.statics && nat_lt p.main (length p.functions)) h)

    less : nat_lt p.main (length p.functions) ≡ true → p.main < length p.functions
    less h = grind (arith, nat_tests, h)

    no_parameters : length (function_at q q.main).parameters ≡ 0
    no_parameters =
        let i = item_below p.functions p.main (less (left_part checked.well_typed)) in
        ap (λ m. length (function_at q m).parameters) code.main
        ∙ (ap length (parameters_same p q checked.well_typed asked checked.literals code checked.main_gives_int p.main i.element i.is)
        ∙ (length_mapped kind_of i.element.type.parameters ∙ ap length (checked.main_takes_nothing i.element i.is)))

    costs : (n j c : ℕ) → spent q j (tac.start q input) ≡ c → c ≤ 60 * n + 18 → spent_in_all q j (tac.start q input) ≤ 60 * n + 60
    costs n j c h le = omega (arith, h, le, no_parameters)
