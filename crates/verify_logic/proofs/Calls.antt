-- A call is entered and left (6.5.2.2, 6.9.1).
use Rattle.std.proofs.Common.{◌≡◌, ℕ, zero, suc, ℤ, pos, List, [], ◌∷◌, ◌++◌, map, take, drop, length, refl, ap, sym, subst, ◌∙◌}
use Rattle.std.specs.Prelude.{Option, Some, None, Bool, true, false, nat_eq, slice_get, Contains}
use Rattle.srcset.specs.declared.refusal.Pos.{Pos}
use Rattle.ctypes.specs.declared.types.IntType.{IntType}
use Rattle.typing_spec.specs.Types.{ObjectType}
use Rattle.typing_spec.specs.Program as typed
use Rattle.typing_spec.specs.Program.{Arguments, Function, Program}
use Rattle.csem.specs.Store.{Tree, Element, Array, Store, indeterminate}
use Rattle.csem.specs.Machine.{State, Ended, Undefined, TicksUsed, Run, Goes, Stops, then_do, ticks}
use Rattle.csem.specs.Expressions.{Passed, call_value, call_of}
use Rattle.csem.specs.Statements.{Flow, Normal, Broken, Continued, Returned, execute}
use Rattle.csem.specs.Meaning.{numbers_of, objects_of, enter, leave, value_at_end, value_left, body_of, call_defined, calling}
use Rattle.verify_logic.specs.declared.abstract_values.Interval.{Interval}
use Rattle.verify_logic.specs.declared.abstract_values.AbsValue.{AbsValue}
use Rattle.verify_logic.specs.declared.abstract_values.ArrayArgument.{ArrayArgument}
use Rattle.verify_logic.specs.States.{Known, Summary, Frame, In, ValueIs, TreeIs, ObjectsAre, lengths_in, shapes_of, CoversState, body_and_value, IsSound, AreSound, Reaches, Ends, KnownEntails, FactsAre}
use Rattle.verify_logic.specs.Judgements.{Evaluates}
use Rattle.verify_logic.specs.Places.{NumbersAre, Are, Passes}
use Rattle.verify_logic.specs.Statements.{Ways, Leaves, Executes}
use Rattle.verify_logic.specs.Calls.{Entered, CallGives, CallOr, CallValue, FunctionEnds, with_own, Cuts}
use Rattle.verify_logic.proofs.Runs.{then_ends, tick_ends}
use Rattle.verify_logic.proofs.Objects.{objects_entail}
use Rattle.verify_logic.proofs.Facts.{facts_front}
use Rattle.verify_logic.proofs.Begun.{new_is}
use Rattle.verify_logic.proofs.Rules.{arguments_then}

-- ---- objects of a call

pub both_are : (ks : List AbsValue) (shapes : List (List ℕ)) (store : Store) (js : List AbsValue) (more : List (List ℕ)) (rest : Store) → ObjectsAre ks shapes store → ObjectsAre js more rest → ObjectsAre (ks ++ js) (shapes ++ more) (store ++ rest)
both_are [] [] [] js more rest h g = g
both_are [] [] (t ∷ store) js more rest h g = absurd h
both_are [] (l ∷ shapes) store js more rest h g = absurd h
both_are (k ∷ ks) [] store js more rest h g = absurd h
both_are (k ∷ ks) (l ∷ shapes) [] js more rest h g = absurd h
both_are (k ∷ ks) (l ∷ shapes) (t ∷ store) js more rest h g = (h.0, both_are ks shapes store js more rest h.1 g)

pub as_long : (ks : List AbsValue) (shapes : List (List ℕ)) (store : Store) → ObjectsAre ks shapes store → length store ≡ length shapes
as_long [] [] [] h = refl
as_long [] [] (t ∷ store) h = absurd h
as_long [] (l ∷ shapes) store h = absurd h
as_long (k ∷ ks) [] store h = absurd h
as_long (k ∷ ks) (l ∷ shapes) [] h = absurd h
as_long (k ∷ ks) (l ∷ shapes) (t ∷ store) h = ap suc (as_long ks shapes store h.1)

-- the first of two parts, once the second is cut off
front_are : (ks : List AbsValue) (shapes more : List (List ℕ)) (store : Store) → ObjectsAre ks (shapes ++ more) store → ObjectsAre (take (length shapes) ks) shapes (take (length shapes) store)
front_are ks [] more store h = tt
front_are [] (l ∷ shapes) more store h = absurd h
front_are (k ∷ ks) (l ∷ shapes) more [] h = absurd h
front_are (k ∷ ks) (l ∷ shapes) more (t ∷ store) h = (h.0, front_are ks shapes more store h.1)

pub new_objects : (objects : List ObjectType) (ks : List AbsValue) → Entered [] objects ks → ObjectsAre ks (map lengths_in objects) (map indeterminate objects)
new_objects [] [] h = tt
new_objects [] (k ∷ ks) h = absurd h
new_objects (t ∷ objects) [] h = absurd h
new_objects (t ∷ objects) (k ∷ ks) h = (new_is k h.0 t.lengths, new_objects objects ks h.1)

entered_are : (is : List Interval) (objects : List ObjectType) (ks : List AbsValue) (ts : List Tree) → NumbersAre is ts → Entered is objects ks → ObjectsAre ks (map lengths_in objects) (ts ++ map indeterminate (drop (length ts) objects))
entered_are [] objects ks [] a h = new_objects objects ks h
entered_are [] objects ks (t ∷ ts) a h = absurd a
entered_are (i ∷ is) objects ks [] a h = absurd a
entered_are (i ∷ is) objects ks (Array row ∷ ts) a h = absurd a
entered_are (i ∷ is) objects ks (Element None ∷ ts) a h = absurd a
entered_are (i ∷ is) [] [] (Element (Some v) ∷ ts) a h = absurd h
entered_are (i ∷ is) [] (k ∷ ks) (Element (Some v) ∷ ts) a h = absurd h
entered_are (i ∷ is) (t ∷ objects) [] (Element (Some v) ∷ ts) a h = absurd h
entered_are (i ∷ is) (t ∷ objects) (k ∷ ks) (Element (Some v) ∷ ts) a h =
    let P : List ℕ → Type 0 = λ l. TreeIs k l (Element (Some v)) in
    (subst P (sym h.0) (h.1.is (Some v) a.0), entered_are is objects ks ts a.1 h.2)

pub enter_covers : (fr : Frame) (f : ℕ) (g : Function) (passed : List Passed) (s : State) (known : Known) (ks : List AbsValue) (is : List Interval) (ps : List ArrayArgument) → Are fr is ps passed → Entered is g.objects ks → Reaches fr (Some known) s →
    CoversState (shapes_of fr) ps g.objects (Some (with_own known ks)) (enter f g passed s)
enter_covers fr f g passed s known ks is ps a e h = record {
  based = as_long known.objects (shapes_of fr) s.store h.objects_are;
  referred = a.arrays_are;
  facts_are = facts_front known.facts s.store (objects_of g.objects passed) h.facts_are;
  objects_are = both_are known.objects (shapes_of fr) s.store ks (map lengths_in g.objects) (objects_of g.objects passed) h.objects_are (entered_are is g.objects ks (numbers_of passed) a.numbers e);
  bytes = h.bytes;
}

-- ---- the objects of the call end

pub leave_reaches : (fr : Frame) (ps : List ArrayArgument) (objects : List ObjectType) (o after : Option Known) (known : Known) (value : Option ℤ) (caller s : State) → Cuts (length (shapes_of fr)) o after → Reaches fr (Some known) caller → CoversState (shapes_of fr) ps objects o s →
    Reaches fr after (leave caller value s)
leave_reaches fr ps objects None after known value caller s q h k = absurd k
leave_reaches fr ps objects (Some left) None known value caller s q h k = absurd q
leave_reaches fr ps objects (Some left) (Some first) known value caller s q h k =
    let O : List AbsValue → Type 0 = λ xs. ObjectsAre xs (shapes_of fr) (take (length (shapes_of fr)) s.store) in
    let P : ℕ → Type 0 = λ n. ObjectsAre first.objects (shapes_of fr) (take n s.store) in
    let F : ℕ → Type 0 = λ n. FactsAre first.facts (take n s.store) in
    let e : length caller.store ≡ length (shapes_of fr) = as_long known.objects (shapes_of fr) caller.store h.objects_are in
    record {
      based = h.based;
      referred = h.referred;
      objects_are = subst P (sym e) (subst O (sym q.0) (front_are left.objects (shapes_of fr) (map lengths_in objects) s.store k.objects_are));
      facts_are = subst F (sym e) (q.1.is s.store k.facts_are);
      bytes = k.bytes;
      sound = h.sound;
    }

sound_at : (p : Program) (listed : List Pos) (summaries : List Summary) (n : ℕ) (a : Summary) → slice_get summaries n ≡ Some a → AreSound p listed summaries → IsSound p listed a
sound_at p listed [] n a e h = absurd (cc e)
sound_at p listed (b ∷ more) zero a e h = let q : b ≡ a = cc e in let P : Summary → Type 0 = IsSound p listed in subst P q h.0
sound_at p listed (b ∷ more) (suc n) a e h = sound_at p listed more n a e h.1

covers_more : (outer : List (List ℕ)) (ps : List ArrayArgument) (objects : List ObjectType) (a b : Known) (s : State) → KnownEntails a b → CoversState outer ps objects (Some a) s → CoversState outer ps objects (Some b) s
covers_more outer ps objects a b s h c = record { based = c.based; referred = c.referred; objects_are = objects_entail a.objects b.objects (outer ++ map lengths_in objects) s.store h.objects c.objects_are; facts_are = h.facts.is s.store c.facts_are; bytes = c.bytes }

-- a summary that fits gives the postcondition of the call
pub summary_rule : (fr : Frame) (f : ℕ) (g : Function) (is : List Interval) (ps : List ArrayArgument) (known : Known) (ks : List AbsValue) (n : ℕ) (a : Summary) (after : Option Known) → slice_get fr.program.functions f ≡ Some g → Entered is g.objects ks → slice_get fr.summaries n ≡ Some a →
    a.function ≡ f → a.outer ≡ shapes_of fr → a.arrays ≡ ps → KnownEntails (with_own known ks) a.entry → Cuts (length (shapes_of fr)) a.left after → CallGives fr f is ps (Some known) a.value after
summary_rule fr f g is ps known ks n a after eg en ea ef eo ep le left_is = record { runs = λ d passed s am c. runs d passed s am c }
  where
    post : Option ℤ → State → Type 0
    post v s2 = ValueIs a.value v × Reaches fr after s2

    runs : (d : ℕ) (passed : List Passed) (s : State) → Are fr is ps passed → Reaches fr (Some known) s →
        Ends fr.listed (calling fr.program d f passed s) (λ v s2. ValueIs a.value v × Reaches fr after s2)
    runs zero passed s am c = tt
    runs (suc d) passed s am c =
        let P : Option Function → Type 0 = λ o. Ends fr.listed (call_defined fr.program (calling fr.program d) o f passed s) (λ v s2. ValueIs a.value v × Reaches fr after s2) in
        let F : ℕ → Type 0 = λ x. slice_get fr.program.functions x ≡ Some g in
        let s1 : State = enter f g passed s in
        let O : List (List ℕ) → Type 0 = λ outer. CoversState outer a.arrays g.objects (Some (with_own known ks)) s1 in
        let A : List ArrayArgument → Type 0 = λ ps. CoversState (shapes_of fr) ps g.objects (Some (with_own known ks)) s1 in
        let cov : CoversState a.outer a.arrays g.objects (Some a.entry) s1 = covers_more a.outer a.arrays g.objects (with_own known ks) a.entry s1 le (subst O (sym eo) (subst A (sym ep) (enter_covers fr f g passed s known ks is ps am en c))) in
        let done : Ends fr.listed (body_and_value fr.program a.function d g s1) (λ v s2. ValueIs a.value v × CoversState a.outer a.arrays g.objects a.left s2) =
        sound_at fr.program fr.listed fr.summaries n a ea c.sound g (subst F (sym ef) eg) d s1 cov in
        let Q : ℕ → Type 0 = λ x. Ends fr.listed (body_and_value fr.program x d g s1) (λ v s2. ValueIs a.value v × CoversState a.outer a.arrays g.objects a.left s2) in
        let R : List (List ℕ) → Type 0 = λ outer. Ends fr.listed (body_and_value fr.program f d g s1) (λ v s2. ValueIs a.value v × CoversState outer a.arrays g.objects a.left s2) in
        subst P (sym eg) (leaving s c (nat_eq f fr.program.main) (body_of fr.program (calling fr.program d) g s1) (subst R eo (subst Q ef done)))
      where
        leaving : (s : State) → Reaches fr (Some known) s → (b : Bool) (r : Run Flow) → Ends fr.listed (then_do r (λ flow s2. Goes (value_left b flow) s2)) (λ v s2. ValueIs a.value v × CoversState (shapes_of fr) a.arrays g.objects a.left s2) →
            Ends fr.listed (then_do r (λ flow s2. Goes (value_left b flow) (leave s (value_left b flow) s2))) (λ v s2. ValueIs a.value v × Reaches fr after s2)
        leaving s c b (Goes flow s2) q = (q.0, leave_reaches fr a.arrays g.objects a.left after known (value_left b flow) s s2 left_is c q.1)
        leaving s c b (Stops (Ended k) s2) q = tt
        leaving s c b (Stops (Undefined act place) s2) q = q
        leaving s c b (Stops TicksUsed s2) q = tt

-- where no run reaches the call
pub no_call : (fr : Frame) (f : ℕ) (is : List Interval) (ps : List ArrayArgument) (value : AbsValue) (o : Option Known) → CallGives fr f is ps None value o
no_call fr f is ps value o = record { runs = λ d passed s am c. absurd c }

value_ends : (al : List Pos) (at : Pos) (used : Bool) (r : Interval) (v : Option ℤ) (s : State) (rest : State → Type 0) → CallOr al at used r v → rest s → Ends al (call_value used at v s) (λ v s2. In r v × rest s2)
value_ends al at used r (Some v) s rest h c = (h, c)
value_ends al at true r None s rest h c = h
value_ends al at false r None s rest h c = (h, c)

pub function_rule : (fr : Frame) (at : Pos) (f : ℕ) (t : Option IntType) (used : Bool) (arguments : Arguments) (o : Option Known) (is : List Interval) (ps : List ArrayArgument) (o2 : Option Known) (value : AbsValue) (o3 : Option Known) (r : Interval) →
    Passes fr arguments o is ps o2 → CallGives fr f is ps o2 value o3 → CallValue fr at used value r → Evaluates fr (typed.call at (typed.function f) t used arguments) o r o3
function_rule fr at f t used arguments o is ps o2 value o3 r h g v = record {
  runs = λ d s c.
      let post : ℤ → State → Type 0 = λ u s2. In r u × Reaches fr o3 s2 in
      arguments_then fr d arguments o is ps o2 s (λ passed s. call_of (calling fr.program d) at (typed.function f) used passed s) post h c (λ passed s2 am c2.
      then_ends fr.listed (calling fr.program d f passed s2) (λ v s. call_value used at v s) (λ u s3. ValueIs value u × Reaches fr o3 s3) post (g.runs d passed s2 am c2) (λ u s3 q.
      value_ends fr.listed at used r u s3 (λ s2. Reaches fr o3 s2) (v.is u q.0) q.1));
}

pub value_used : (fr : Frame) (at : Pos) (used : Bool) (value : AbsValue) → value.initialised ≡ true → CallValue fr at used value value.interval
value_used fr at used value e = record { is = λ v h. by v h }
  where
    by : (v : Option ℤ) → ValueIs value v → CallOr fr.listed at used value.interval v
    by None h = absurd (let q : true ≡ false = sym e ∙ h in cc q)
    by (Some v) h = h

pub value_listed : (fr : Frame) (at : Pos) (used : Bool) (value : AbsValue) (r : Interval) → Contains fr.listed at → ((v : ℤ) → In value.interval v → In r v) → In r (pos 0) → CallValue fr at used value r
value_listed fr at used value r e f z = record { is = λ v h. by used v h }
  where
    by : (used : Bool) (v : Option ℤ) → ValueIs value v → CallOr fr.listed at used r v
    by true None h = e
    by false None h = z
    by used (Some v) h = f v h

pub value_unused : (fr : Frame) (at : Pos) (used : Bool) (value : AbsValue) (r : Interval) → used ≡ false → ((v : ℤ) → In value.interval v → In r v) → In r (pos 0) → CallValue fr at used value r
value_unused fr at used value r e f z = record { is = λ v h. by used v e h }
  where
    by : (used : Bool) (v : Option ℤ) → used ≡ false → ValueIs value v → CallOr fr.listed at used r v
    by true None e h = absurd (cc e)
    by false None e h = z
    by used (Some v) e h = f v h

-- ---- a function's body

to_covers : (fr : Frame) (o : Option Known) (s : State) → Reaches fr o s → CoversState fr.outer fr.arrays fr.objects o s
to_covers fr None s h = absurd h
to_covers fr (Some known) s h = record { based = h.based; referred = h.referred; objects_are = h.objects_are; facts_are = h.facts_are; bytes = h.bytes }

pub ticks_end : (fr : Frame) (k : ℕ) (s : State) (o : Option Known) → Reaches fr o s → Ends fr.listed (ticks k s) (λ u s2. Reaches fr o s2)
ticks_end fr zero s o h = h
ticks_end fr (suc k) s o h = tick_ends fr.listed s _ (λ u s2. Reaches fr o s2) (λ n. ticks_end fr k (record s { clock = n }) o h)

pub body_rule : (fr : Frame) (f : ℕ) (g : Function) (entry : Known) (w : Ways) (value : AbsValue) (left : Option Known) → g.objects ≡ fr.objects → AreSound fr.program fr.listed fr.summaries →
    slice_get fr.program.functions f ≡ Some g → Executes fr g.body (Some entry) w → FunctionEnds fr.program f w value left → IsSound fr.program fr.listed (record { function = f; outer = fr.outer; arrays = fr.arrays; entry = entry; value = value; left = left })
body_rule fr f g entry w value left eo sound eg h e = λ g2 e2 d s c.
    let q : g ≡ g2 = same g g2 (sym eg ∙ e2) in
    let P : Function → Type 0 = λ g. CoversState fr.outer fr.arrays g.objects (Some entry) s → Ends fr.listed (body_and_value fr.program f d g s) (λ v s2. ValueIs value v × CoversState fr.outer fr.arrays g.objects left s2) in
    subst P q (λ c. at d s c) c
  where
    same : (g g2 : Function) → Some g ≡ Some g2 → g ≡ g2
    same g g2 e = cc e

    ends : (b : Bool) → b ≡ nat_eq f fr.program.main → (flow : Flow) (s : State) → Leaves fr w flow s → ValueIs value (value_left b flow) × Reaches fr left s
    ends b q Normal s k = let P : Bool → Type 0 = λ b. ValueIs value (value_at_end b) × Reaches fr left s in subst P (sym q) (e.normal fr s k)
    ends b q Broken s k = let P : Bool → Type 0 = λ b. ValueIs value (value_at_end b) × Reaches fr left s in subst P (sym q) (e.broken fr s k)
    ends b q Continued s k = let P : Bool → Type 0 = λ b. ValueIs value (value_at_end b) × Reaches fr left s in subst P (sym q) (e.continued fr s k)
    ends b q (Returned v) s k = e.returned fr v s k.0 k.1

    at : (d : ℕ) (s : State) → CoversState fr.outer fr.arrays g.objects (Some entry) s → Ends fr.listed (body_and_value fr.program f d g s) (λ v s2. ValueIs value v × CoversState fr.outer fr.arrays g.objects left s2)
    at d s c =
        let O : List ObjectType → Type 0 = λ objects. ObjectsAre entry.objects (fr.outer ++ map lengths_in objects) s.store in
        let c1 : Reaches fr (Some entry) s = record { based = c.based; referred = c.referred; objects_are = subst O eo c.objects_are; facts_are = c.facts_are; bytes = c.bytes; sound = sound } in
        let T : List ObjectType → Type 0 = λ objects. Ends fr.listed (then_do (then_do (ticks (suc (length g.type.parameters)) s) (λ u s. execute fr.program (calling fr.program d) objects g.body s)) (λ flow s2. Goes (value_left (nat_eq f fr.program.main) flow) s2))
        (λ v s2. ValueIs value v × CoversState fr.outer fr.arrays objects left s2) in
        subst T (sym eo) (then_ends fr.listed (then_do (ticks (suc (length g.type.parameters)) s) (λ u s. execute fr.program (calling fr.program d) fr.objects g.body s)) _ (Leaves fr w) (λ v s2. ValueIs value v × CoversState fr.outer fr.arrays fr.objects left s2)
        (then_ends fr.listed (ticks (suc (length g.type.parameters)) s) _ (λ u s2. Reaches fr (Some entry) s2) (Leaves fr w) (ticks_end fr (suc (length g.type.parameters)) s (Some entry) c1) (λ u s2 c2. h.runs d s2 c2))
        (λ flow s2 k. let q = ends (nat_eq f fr.program.main) refl flow s2 k in (q.0, to_covers fr left s2 q.1)))
