-- The code follows increments and decrements (ISO/IEC 9899:2011 6.5.2.4, 6.5.3.1).
use Rattle.std.proofs.Common.{◌≡◌, ℕ, suc, ◌+◌, ◌*◌, ◌<◌, ◌≤◌, List, Option, Some, None, Bool, true, false, ℤ, pos, refl, ap, ◌∙◌, subst, arith}
use Rattle.std.specs.Prelude.{nat_eq, option_map}
use Rattle.std.proofs.lemmas.Bool.Decides.{nat_tests}
use Rattle.srcset.specs.declared.refusal.Pos.{Pos}
use Rattle.ctypes.specs.declared.types.IntType.{IntType}
use Rattle.ctypes.specs.Types.{IsValueOf, converted}
use Rattle.ctypes.proofs.Uses.{converted_fits}
use Rattle.tree.specs.declared.expression.StepOp.{StepOp}
use Rattle.typing_spec.specs.Operators.{operated}
use Rattle.typing_spec.specs.Program as typed
use Rattle.typing_spec.specs.Program.{Moment, Value as Expression}
use Rattle.csem.specs.Store.{Element, Reference, whole, put, value_at}
use Rattle.csem.specs.Machine as machine
use Rattle.csem.specs.Machine.{Run, Goes, Stops, then_do, choose, undefined, computed_at, read, write, value_or_undefined}
use Rattle.csem.specs.Expressions.{Calling, find, step_operation, step_value}
use Rattle.tac_code.specs.declared.code.Operand.TheVariants as operand
use Rattle.tac_code.specs.declared.code.Target.{Target}
use Rattle.tac_code.specs.declared.code.Target.TheVariants as target
use Rattle.tac_code.specs.declared.code.Instruction.TheVariants as instruction
use Rattle.tac_code.specs.Code.{Program, function_at}
use Rattle.tac_code.specs.Run.{Call, State, running, word, word_for}
use Rattle.lower_wf.specs.Asked.{is_wide}
use Rattle.lower_correct.specs.Values.{Mode, Nowhere, To, If}
use Rattle.lower_correct.specs.Code.{One, Steps, StepsAfter, StepsBy, Into}
use Rattle.lower_correct.proofs.Steps.{Reaches, stays, goes, Sim, sim_after, sim_map, tick_in, find_in, halts}
use Rattle.lower_correct.proofs.Standing.{Scratch, here, put_scratch, set_same, put_state, Takes, does_nothing, does_move, world, sizes}
use Rattle.lower_correct.proofs.Stores.{Fine, after_put, with_tree, read_fits, fine_later, after_since}
use Rattle.lower_correct.proofs.Goods.{Keeps, keeps_all, keeps_put, IsFree, IsFreeFor, HasIn, Known, Suits, Good, ends}
use Rattle.lower_correct.proofs.Leaves.{IsNumber, IntoDoes}
use Rattle.lower_correct.proofs.Changing.{one_fits, change_in}

module _ (p : typed.Program) (call : Calling) (q : Program) (deep f : ℕ) where
  module _ (at at2 : Pos) (so : StepOp) (u of : IntType) (x : ℕ) (t k : ℕ) (hof : is_wide of ≡ true) (num : IsNumber (function_at q f).objects x u) where
    abbrev Stepped : Moment → Mode → ℕ → machine.State → Scratch → List Call → ℤ → machine.State → State → Type 0
    Stepped moment m pc2 s now ws = Good p q f (typed.stepped at moment so u of (typed.named at2 (typed.automatic x))) m t k pc2 s now ws

    -- the use of the old value and the new one
    abbrev finishes : Moment → (old : ℤ) → ℤ → machine.State → Run ℤ
    finishes moment old new s = Goes (step_value moment old new) s

    -- the change itself, from a state that keeps the values still needed
    step_in : (moment : Moment) (m : Mode) (t1 p1 p2 pc2 hi top : ℕ) (now now1 : Scratch) (ws : List Call) (s : machine.State) (n : ℕ) (old : ℤ) → hi + 30 ≤ top
        → t ≤ t1 → Keeps false t k now now1
        → Steps (function_at q f).code (is_wide u) (step_operation so) u of x t1 p1 p2 → Fine (world p q f ws) s
        → value_at s.store (whole (s.base + x)) ≡ Some old
        → ((w : ℤ) (now2 : Scratch) → ((y : Bool) (i k : ℕ) (before : Scratch) → i ≤ t1 → Keeps y i k before now1 → Keeps y i k before now2)
        → Known (world p q f ws) (typed.stepped at typed.after so u of (typed.named at2 (typed.automatic x))) t k s now old
        (record s { clock = n; store = put s.store (whole (s.base + x)) (Element (Some (converted u w))) }) now2
        → value_at (put s.store (whole (s.base + x)) (Element (Some (converted u w)))) (whole (s.base + x)) ≡ Some (converted u w)
        → Sim q 14 hi n (here f p2 now2 ws (record s { clock = n; store = put s.store (whole (s.base + x)) (Element (Some (converted u w))) }))
        (Stepped moment m pc2 s now ws)
        (finishes moment old (converted u w) (record s { clock = n; store = put s.store (whole (s.base + x)) (Element (Some (converted u w))) })))
        → Sim q 14 top n (here f p1 now1 ws s) (Stepped moment m pc2 s now ws)
        (then_do (computed_at at (operated (step_operation so) of old (pos 1)) (record s { clock = n }))
        (λ w s2. then_do (write p at (whole (s.base + x)) (converted u w) s2) (finishes moment old)))
    step_in moment m t1 p1 p2 pc2 hi top now now1 ws s n old h1 lt keeps i fine ex next =
        change_in p call q deep f (Stepped moment m pc2 s now ws) (finishes moment old) at (step_operation so) x u of (operand.Constant 1) t1 p1 p2 hi top
        s.base old (pos 1) now1 ws (record s { clock = n }) (operated (step_operation so) of old (pos 1))
        h1 refl hof num refl (fine_later (world p q f ws) s n fine) one_fits i ex refl
        (λ w now2 keeps2 fine3 there. next w now2 keeps2
        (record {
          keeps = keeps2 false t k now lt keeps;
          fine = fine3;
          value = subst (λ z. IsValueOf z old) num.element (read_fits (world p q f ws) x num.type old s num.at fine ex);
          after = after_since (nat_eq x) s (with_tree x (Element (Some (converted u w))) (record s { clock = n })) n
              (after_put (nat_eq x) x (Element (Some (converted u w))) (record s { clock = n }) (same_number x));
          rests = tt;
          constant = tt;
        }) there)
      where
        same_number : (x : ℕ) → nat_eq x x ≡ true
        same_number x = grind (arith, nat_tests)

    -- the old value, from its place, and the remaining work
    abbrev changing : Moment → ℕ → machine.State → ℤ → Run ℤ
    changing moment n s old =
        then_do (computed_at at (operated (step_operation so) of old (pos 1)) (record s { clock = n }))
        (λ w s2. then_do (write p at (whole (s.base + x)) (converted u w) s2) (finishes moment old))

    before_ends : (m : Mode) (p1 pc2 n : ℕ) (now : Scratch) (ws : List Call) (s : machine.State) (old : ℤ) → IsFreeFor m t k → Suits p q f m u
        → StepsBy (function_at q f).code typed.before (is_wide u) (step_operation so) u of m x t p1 pc2 → Fine (world p q f ws) s
        → value_at s.store (whole (s.base + x)) ≡ Some old
        → Sim q 14 (60 * n + 120) n (here f p1 now ws s) (Stepped typed.before m pc2 s now ws) (changing typed.before n s old)
    before_ends m p1 pc2 n now ws s old fr su i fine ex =
        step_in typed.before m t p1 i.0 pc2 (60 * n + 90) (60 * n + 120) now now ws s n old (omega arith) (let le : t ≤ t = omega arith in le)
        (keeps_all false t k now) i.1 fine ex
        (λ w now2 keeps2 known there.
        ends p q f (typed.stepped at typed.before so u of (typed.named at2 (typed.automatic x))) m t k (operand.Object x) i.0 pc2 (60 * n + 90) s now now2 ws
        (converted u w)
        (record s { clock = n; store = put s.store (whole (s.base + x)) (Element (Some (converted u w))) }) fr su i.2
        (ap (option_map (λ y. word (word_for y))) there) (omega arith)
        (record { keeps = known.keeps; fine = known.fine; value = converted_fits u w; after = known.after; rests = there; constant = tt }))

    nowhere_ends : (p1 pc2 n : ℕ) (now : Scratch) (ws : List Call) (s : machine.State) (old : ℤ)
        → Steps (function_at q f).code (is_wide u) (step_operation so) u of x t p1 pc2
        → Fine (world p q f ws) s → value_at s.store (whole (s.base + x)) ≡ Some old
        → Sim q 14 (60 * n + 120) n (here f p1 now ws s) (Stepped typed.after Nowhere pc2 s now ws) (changing typed.after n s old)
    nowhere_ends p1 pc2 n now ws s old i fine ex =
        step_in typed.after Nowhere t p1 pc2 pc2 (60 * n + 90) (60 * n + 120) now now ws s n old (omega arith) (let le : t ≤ t = omega arith in le)
        (keeps_all false t k now) i fine ex
        (λ w now2 keeps2 known there.
        let s3 : machine.State = record s { clock = n; store = put s.store (whole (s.base + x)) (Element (Some (converted u w))) } in
        goes q 14 (Stepped typed.after Nowhere pc2 s now ws old) (60 * n + 90) n 0 0 (here f pc2 now2 ws s3) (here f pc2 now2 ws s3) s3
        (stays q (here f pc2 now2 ws s3)) (omega arith) (omega arith)
        (record { now = now2; at = refl; has = tt; known = known }))

    -- the old value goes to a temporary or a slot, and the object changes by way of temporaries from t1 on
    abbrev IsScratch : Target → ℕ → Type 0
    IsScratch (target.Temporary j) t1 = j < t1
    IsScratch (target.Kept j) t1 = Unit {0}
    IsScratch (target.Object y) t1 = ⊥

    target_held : (g : Target) (t1 : ℕ) (v : ℤ) (now now2 : Scratch) → IsScratch g t1
        → ((y : Bool) (i k : ℕ) (before : Scratch) → i ≤ t1 → Keeps y i k before (put_scratch g (word_for v) now) → Keeps y i k before now2)
        → HasIn g (word_for v) now2
    target_held (target.Temporary j) t1 v now now2 h keeps =
        let now1 = put_scratch (target.Temporary j) (word_for v) now in
        let e = (keeps false t1 0 now1 (let le : t1 ≤ t1 = omega arith in le) (keeps_all false t1 0 now1)).temporaries refl j h in e
        ∙ set_same now.temporaries j (word (word_for v))
    target_held (target.Kept j) t1 v now now2 h keeps =
        let now1 = put_scratch (target.Kept j) (word_for v) now in
        let e = (keeps false t1 (suc j) now1 (let le : t1 ≤ t1 = omega arith in le) (keeps_all false t1 (suc j) now1)).kept j (omega arith) in e
        ∙ set_same now.kept j (word (word_for v))
    target_held (target.Object y) t1 v now now2 h keeps = absurd h

    at_target : (g : Target) (t1 p2 : ℕ) (w : ℕ) (now2 : Scratch) (ws : List Call) (s : machine.State) → IsScratch g t1 → put_state q f g w s ≡ s
    at_target (target.Temporary j) t1 p2 w now2 ws s h = refl
    at_target (target.Kept j) t1 p2 w now2 ws s h = refl
    at_target (target.Object y) t1 p2 w now2 ws s h = absurd h

    takes_any : (g : Target) (t1 w : ℕ) → IsScratch g t1 → Takes q f g w
    takes_any (target.Temporary j) t1 w h = tt
    takes_any (target.Kept j) t1 w h = tt
    takes_any (target.Object y) t1 w h = absurd h

    -- by way of g: the continuation finds the old value there
    aside : (m : Mode) (g : Target) (t1 pc p1 p2 pc2 n : ℕ) (now : Scratch) (ws : List Call) (s : machine.State) (old : ℤ) → IsScratch g t1 → IsFree g t k
        → t ≤ t1
        → One (function_at q f).code (instruction.Move g (operand.Object x)) pc p1
        → Steps (function_at q f).code (is_wide u) (step_operation so) u of x t1 p1 p2
        → Fine (world p q f ws) s → value_at s.store (whole (s.base + x)) ≡ Some old
        → ((now2 : Scratch) (w : ℤ) → HasIn g (word_for old) now2
        → Known (world p q f ws) (typed.stepped at typed.after so u of (typed.named at2 (typed.automatic x))) t k s now old
        (record s { clock = n; store = put s.store (whole (s.base + x)) (Element (Some (converted u w))) }) now2
        → Sim q 14 (60 * n + 84) n (here f p2 now2 ws (record s { clock = n; store = put s.store (whole (s.base + x)) (Element (Some (converted u w))) }))
        (Stepped typed.after m pc2 s now ws)
        (Goes old (record s { clock = n; store = put s.store (whole (s.base + x)) (Element (Some (converted u w))) })))
        → Sim q 14 (60 * n + 120) n (here f pc now ws s) (Stepped typed.after m pc2 s now ws) (changing typed.after n s old)
    aside m g t1 pc p1 p2 pc2 n now ws s old hs fr lt i1 i2 fine ex next =
        let w0 = word_for old in
        let now1 = put_scratch g w0 now in
        let move = does_move q f g (operand.Object x) w0 pc p1 now ws s i1 (ap (option_map (λ y. word (word_for y))) ex) (takes_any g t1 w0 hs) in
        sim_after q 14 (Stepped typed.after m pc2 s now ws) (60 * n + 120) n (60 * n + 114) n 1 6 (here f pc now ws s) (here f p1 now1 ws s)
        (changing typed.after n s old)
        (subst (λ z. Reaches q (here f pc now ws s) 1 6 (running (here f p1 now1 ws z))) (at_target g t1 p1 w0 now1 ws s hs) move) (omega arith) (omega arith)
        (step_in typed.after m t1 p1 p2 pc2 (60 * n + 84) (60 * n + 114) now now1 ws s n old (omega arith) lt
        (keeps_put g w0 false t k now now fr (keeps_all false t k now)) i2 fine ex
        (λ w now2 keeps2 known there. next now2 w (target_held g t1 old now now2 hs keeps2) known))

    after_ends : (m : Mode) (p1 pc2 n : ℕ) (now : Scratch) (ws : List Call) (s : machine.State) (old : ℤ) → IsFreeFor m t k → Suits p q f m u
        → StepsAfter (function_at q f).code (is_wide u) (step_operation so) u of m x t p1 pc2 → Fine (world p q f ws) s
        → value_at s.store (whole (s.base + x)) ≡ Some old
        → Sim q 14 (60 * n + 120) n (here f p1 now ws s) (Stepped typed.after m pc2 s now ws) (changing typed.after n s old)
    after_ends Nowhere p1 pc2 n now ws s old fr su i fine ex = nowhere_ends p1 pc2 n now ws s old i fine ex
    after_ends (To (target.Temporary j)) p1 pc2 n now ws s old fr su i fine ex =
        aside (To (target.Temporary j)) (target.Temporary j) (j + 1) p1 i.0 pc2 pc2 n now ws s old (omega arith) fr (omega (arith, fr)) i.1 i.2 fine ex
        (λ now2 w has known.
        let s3 : machine.State = record s { clock = n; store = put s.store (whole (s.base + x)) (Element (Some (converted u w))) } in
        goes q 14 (Stepped typed.after (To (target.Temporary j)) pc2 s now ws old) (60 * n + 84) n 0 0 (here f pc2 now2 ws s3) (here f pc2 now2 ws s3) s3
        (stays q (here f pc2 now2 ws s3)) (omega arith) (omega arith)
        (record { now = now2; at = refl; has = has; known = known }))
    after_ends (To (target.Kept j)) p1 pc2 n now ws s old fr su i fine ex =
        aside (To (target.Kept j)) (target.Kept j) t p1 i.0 pc2 pc2 n now ws s old tt fr (let le : t ≤ t = omega arith in le) i.1 i.2 fine ex
        (λ now2 w has known.
        let s3 : machine.State = record s { clock = n; store = put s.store (whole (s.base + x)) (Element (Some (converted u w))) } in
        goes q 14 (Stepped typed.after (To (target.Kept j)) pc2 s now ws old) (60 * n + 84) n 0 0 (here f pc2 now2 ws s3) (here f pc2 now2 ws s3) s3
        (stays q (here f pc2 now2 ws s3)) (omega arith) (omega arith)
        (record { now = now2; at = refl; has = has; known = known }))
    after_ends (To (target.Object y)) p1 pc2 n now ws s old fr su i fine ex =
        aside (To (target.Object y)) (target.Temporary t) (t + 1) p1 i.0 i.1 pc2 n now ws s old (omega arith) (let le : t ≤ t = omega arith in le) (omega arith)
        i.2 i.3 fine ex
        (λ now2 w has known.
        let s3 : machine.State = record s { clock = n; store = put s.store (whole (s.base + x)) (Element (Some (converted u w))) } in
        ends p q f (typed.stepped at typed.after so u of (typed.named at2 (typed.automatic x))) (To (target.Object y)) t k (operand.Temporary t) i.1 pc2
        (60 * n + 84) s now now2 ws old s3 fr su i.4 has (omega arith) known)
    after_ends (If sense to) p1 pc2 n now ws s old fr su i fine ex =
        aside (If sense to) (target.Temporary t) (t + 1) p1 i.0 i.1 pc2 n now ws s old (omega arith) (let le : t ≤ t = omega arith in le) (omega arith) i.2 i.3
        fine ex
        (λ now2 w has known.
        let s3 : machine.State = record s { clock = n; store = put s.store (whole (s.base + x)) (Element (Some (converted u w))) } in
        ends p q f (typed.stepped at typed.after so u of (typed.named at2 (typed.automatic x))) (If sense to) t k (operand.Temporary t) i.1 pc2 (60 * n + 84) s
        now now2 ws old s3 fr su i.4 has (omega arith) known)

    step_ends : (moment : Moment) (m : Mode) (p1 pc2 n : ℕ) (now : Scratch) (ws : List Call) (s : machine.State) (old : Option ℤ) → IsFreeFor m t k
        → Suits p q f m u
        → StepsBy (function_at q f).code moment (is_wide u) (step_operation so) u of m x t p1 pc2 → Fine (world p q f ws) s
        → value_at s.store (whole (s.base + x)) ≡ old
        → Sim q 14 (60 * n + 120) n (here f p1 now ws s) (Stepped moment m pc2 s now ws)
        (then_do (value_or_undefined at2 old (record s { clock = n })) (λ old s3.
        then_do (computed_at at (operated (step_operation so) of old (pos 1)) s3)
        (λ w s2. then_do (write p at (whole (s.base + x)) (converted u w) s2) (finishes moment old))))
    step_ends moment m p1 pc2 n now ws s None fr su i fine ex = halts q (60 * n + 120) (here f p1 now ws s) (record s { clock = n }) refl refl
    step_ends typed.before m p1 pc2 n now ws s (Some old) fr su i fine ex = before_ends m p1 pc2 n now ws s old fr su i fine ex
    step_ends typed.after m p1 pc2 n now ws s (Some old) fr su i fine ex = after_ends m p1 pc2 n now ws s old fr su i fine ex

    pub step_does : (moment : Moment) (m : Mode) (pc pc2 : ℕ) → IsFreeFor m t k → Suits p q f m u
        → Into (function_at q f).code (sizes p f) (typed.stepped at moment so u of (typed.named at2 (typed.automatic x))) m t k pc pc2
        → IntoDoes p call q deep f (typed.stepped at moment so u of (typed.named at2 (typed.automatic x))) m t k pc pc2
    step_does moment m pc pc2 fr su h s now ws le fine =
        let Result2 = Stepped moment m pc2 s now ws in
        let last : Reference → machine.State → Run ℤ = λ r s. then_do (read at2 r s) (λ old s3.
        then_do (computed_at at (operated (step_operation so) of old (pos 1)) s3) (λ w s2. then_do (write p at r (converted u w) s2) (finishes moment old))) in
        tick_in q 14 Result2 (here f pc now ws s) (here f h.0 now ws s) s 0 (60 * s.clock)
        (λ s. then_do (find p call (typed.named at2 (typed.automatic x)) s) last) (omega arith) refl refl (does_nothing q f pc h.0 now ws s h.2)
        (λ n lt. find_in q 14 Result2 (here f h.0 now ws s) (here f h.1 now ws s) (record s { clock = n }) 60 (60 * n + 60 + 0)
        (λ s. Goes (whole (s.base + x)) s) last (omega arith) refl refl (does_nothing q f h.0 h.1 now ws s h.3)
        (λ n2 lt2. sim_map q 14 14 Result2 Result2 (60 * n2 + 120) (60 * n2 + 60 + 60) n2 (here f h.1 now ws s)
        (last (whole (s.base + x)) (record s { clock = n2 })) (omega arith) (omega arith)
        (step_ends moment m h.1 pc2 n2 now ws s (value_at s.store (whole (s.base + x))) fr su h.4 fine refl) (λ a s2 w g. g)))
