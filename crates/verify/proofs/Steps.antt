-- Rules as the functions have them.
use Rattle.std.proofs.Common.{◌≡◌, ◌≤◌, ◌<◌, ◌+◌, ℕ, zero, suc, ℤ, pos, List, [], ◌∷◌, ◌++◌, map, take, length, get_or, refl, ap, sym, subst, ◌∙◌, arith, add-one}
use Rattle.std.proofs.lemmas.List.{take_all}
use Rattle.std.proofs.Math.Seq.{take-suc}
use Rattle.std.specs.Prelude.{Option, Some, None, Bool, true, false, nat_eq, slice_get, slice_index_or, Contains}
use Rattle.srcset.specs.declared.refusal.Pos.{Pos}
use Rattle.std.specs.declared.vec.Vec.{Vec}
use Rattle.std.specs.declared.alloc.Global.{Global}
use Rattle.typing_spec.specs.Types.{ObjectType}
use Rattle.typing_spec.specs.Program.{Function, Program}
use Rattle.typed_ast.specs.declared.units.Static as held
use Rattle.typed_ast.specs.declared.units.Function as code_function
use Rattle.typed_ast.specs.declared.units.Program as code_program
use Rattle.typed_ast.specs.View.{function_of, program_of, static_of}
use Rattle.csem.specs.Store.{Tree, Store, literal_object, static_object, first_store}
use Rattle.csem.specs.Machine.{State, Ended, Undefined, TicksUsed, Run, Goes, Stops, then_do, ticks}
use Rattle.csem.specs.Statements.{Flow, execute}
use Rattle.csem.specs.Meaning.{enter, leave, value_at_end, value_left, body_of, call_defined, calling, start, end_with, ending_of}
use Rattle.verify_logic.specs.declared.abstract_values.Interval.{Interval}
use Rattle.verify_logic.specs.declared.abstract_values.AbsValue.{AbsValue}
use Rattle.verify_logic.specs.declared.abstract_values.ArrayArgument.{ArrayArgument}
use Rattle.verify_logic.specs.declared.abstract_values.Fact.{Fact}
use Rattle.verify_logic.specs.States.{Known, Frame, In, TreeIs, ObjectsAre, FactsAre, Summary, lengths_in, IsSound, AreSound, ValueIs, Entails, Implies, Reaches, Ends}
use Rattle.verify_logic.specs.Statements.{Ways, Leaves, Executes}
use Rattle.verify_logic.specs.Calls.{Entered, FunctionEnds, Begins, EachIn, with_own}
use Rattle.verify_logic.specs.Whole.{UndefinedOnlyAt, IsDefined, IsDefinedBut}
use Rattle.verify_logic.proofs.Runs.{then_ends}
use Rattle.verify_logic.proofs.Facts.{facts_front}
use Rattle.verify_logic.proofs.Calls.{both_are, as_long, new_objects, ticks_end, body_rule}
use Rattle.verify_logic.proofs.Whole.{never_undefined, static_is, literal_is, one_more_object, sound_more, one_more_sound}
use Rattle.verify_expressions.specs.Views.{known_of, shapes_in, summary_of}
use Rattle.verify_expressions.specs.declared.scope.Summary as code
use Rattle.verify.specs.Says.{AreFresh, Fresh, EntersMain, IsSoundWork, OnlyReturns, frame_in, texts_of, Adds, FirstAre, TreeFacts}
use Rattle.verify.specs.declared.first_objects.FirstObjects.{FirstObjects}
use Rattle.verify.specs.declared.work.Work.{Work}

-- ---- the run of main's body

only_at : (listed : List Pos) (fr : Frame) (w : Ways) (r : Run Flow) (value : Flow → Option ℤ) (caller : State) → Ends listed r (Leaves fr w) → UndefinedOnlyAt listed (ending_of (then_do (then_do r (λ flow s. Goes (value flow) (leave caller (value flow) s))) end_with))
only_at listed fr w (Goes flow s) value caller h = tt
only_at listed fr w (Stops (Ended n) s) value caller h = tt
only_at listed fr w (Stops (Undefined act at) s) value caller h = h
only_at listed fr w (Stops TicksUsed s) value caller h = tt

entered_fresh : (objects : List ObjectType) (ks : List AbsValue) → length ks ≡ length objects → AreFresh ks → Entered [] objects ks
entered_fresh [] [] e h = tt
entered_fresh [] (k ∷ ks) e h = absurd (cc e)
entered_fresh (t ∷ objects) [] e h = absurd (cc e)
entered_fresh (t ∷ objects) (k ∷ ks) e h = (h.0, entered_fresh objects ks (let q : suc (length ks) ≡ suc (length objects) = e in omega (arith, q)) h.1)

pub main_body : (p : Program) (wk : Work) (outer : List (Vec ℕ Global)) (g : Function) (first : Known) (count : ℕ) (entry : Known) (w : Ways) → IsSoundWork p wk → slice_get p.functions p.main ≡ Some g → Begins p (shapes_in outer) first → count ≡ length g.objects →
    EntersMain first count entry → Executes (frame_in p wk outer [] g) g.body (Some entry) w → IsDefinedBut p wk.listed.items
main_body p wk outer g first count entry w sound eg hb ec en h n input bytes =
    let listed : List Pos = wk.listed.items in
    let fr : Frame = frame_in p wk outer [] g in
    let s : State = start n p input in
    let s1 : State = enter p.main g [] s in
    let P : Option Function → Type 0 = λ o. UndefinedOnlyAt listed (ending_of (then_do (call_defined p (calling p n) o p.main [] s) end_with)) in
    let K : Known → Type 0 = λ known. Reaches fr (Some known) s1 in
    let c0 : Reaches fr (Some (with_own first en.own)) s1 = record {
      based = as_long first.objects (shapes_in outer) (first_store p) hb.objects;
      referred = tt;
      facts_are = facts_front first.facts (first_store p) _ hb.facts;
      objects_are = both_are first.objects (shapes_in outer) (first_store p) en.own (map lengths_in g.objects) _ hb.objects (new_objects g.objects en.own (entered_fresh g.objects en.own (en.fresh.0 ∙ ec) en.fresh.1));
      bytes = bytes;
      sound = sound;
    } in
    let c1 : Reaches fr (Some entry) s1 = subst K (sym en.all) c0 in
    subst P (sym eg) (only_at listed fr w (body_of p (calling p n) g s1) (value_left (nat_eq p.main p.main)) s
    (then_ends listed (ticks (suc (length g.type.parameters)) s1) (λ u s. execute p (calling p n) g.objects g.body s) (λ u s2. Reaches fr (Some entry) s2) (Leaves fr w) (ticks_end fr (suc (length g.type.parameters)) s1 (Some entry) c1) (λ u s2 c2. h.runs n s2 c2)))

-- ---- new objects

pub one_more_fresh : (n : ℕ) (ks ks2 : List AbsValue) (k : AbsValue) → Fresh n ks → k.initialised ≡ false → ks2 ≡ ks ++ k ∷ [] → Fresh (n + 1) ks2
one_more_fresh n ks ks2 k h e d = let P : List AbsValue → Type 0 = Fresh (n + 1) in subst P (sym d) (long ks k ∙ (let q : length ks ≡ n = h.0 in ap (λ m. m + 1) q), each ks k h.1 e)
  where
    long : (ks : List AbsValue) (k : AbsValue) → length (ks ++ k ∷ []) ≡ length ks + 1
    long [] k = refl
    long (j ∷ ks) k = let q : length (ks ++ k ∷ []) ≡ length ks + 1 = long ks k in let r : suc (length (ks ++ k ∷ [])) ≡ suc (length ks) + 1 = omega (arith, q) in r

    each : (ks : List AbsValue) (k : AbsValue) → AreFresh ks → k.initialised ≡ false → AreFresh (ks ++ k ∷ [])
    each [] k h e = (e, tt)
    each (j ∷ ks) k h e = (h.0, each ks k h.1 e)

-- ---- values

each_more : (i : Interval) (vs : List ℤ) (v : ℤ) → EachIn i vs → In i v → EachIn i (vs ++ v ∷ [])
each_more i [] v h m = (m, tt)
each_more i (w ∷ vs) v h m = (h.0, each_more i vs v h.1 m)

-- one step of a loop over them
pub value_step : (i : Interval) (vs : List ℤ) (n : ℕ) (d : ℤ) → n < length vs → EachIn i (take n vs) → In i (get_or vs n d) → EachIn i (take (n + 1) vs)
value_step i vs n d lt h m = let P : List ℤ → Type 0 = EachIn i in
    let e : take (suc n) vs ≡ take (n + 1) vs = ap (λ m. take m vs) (sym (add-one n)) in
    subst P (sym (take-suc vs n d lt) ∙ e) (each_more i (take n vs) (get_or vs n d) h m)

pub whole_values : (i : Interval) (vs : List ℤ) (n : ℕ) → length vs ≤ n → EachIn i (take n vs) → EachIn i vs
whole_values i vs n le h = let P : List ℤ → Type 0 = EachIn i in subst P (take_all n vs le) h

pub text_step : (i : Interval) (text : List ℕ) (n d : ℕ) → n < length text → EachIn i (map (λ c. pos c) (take n text)) → In i (pos (get_or text n d)) → EachIn i (map (λ c. pos c) (take (n + 1) text))
text_step i text n d lt h m = let P : List ℕ → Type 0 = λ text. EachIn i (map (λ c. pos c) text) in
    let e : take (suc n) text ≡ take (n + 1) text = ap (λ m. take m text) (sym (add-one n)) in
    subst P (sym (take-suc text n d lt) ∙ e) (map_more (take n text) (get_or text n d) (each_more i (map (λ c. pos c) (take n text)) (pos (get_or text n d)) h m))
  where
    map_more : (xs : List ℕ) (x : ℕ) → EachIn i (map (λ c. pos c) xs ++ pos x ∷ []) → EachIn i (map (λ c. pos c) (xs ++ x ∷ []))
    map_more [] x h = h
    map_more (y ∷ xs) x h = (h.0, map_more xs x h.1)

pub whole_text : (i : Interval) (text : List ℕ) (n : ℕ) → length text ≤ n → EachIn i (map (λ c. pos c) (take n text)) → EachIn i (map (λ c. pos c) text)
whole_text i text n le h = let P : List ℕ → Type 0 = λ text. EachIn i (map (λ c. pos c) text) in subst P (take_all n text le) h

-- ---- objects before the run

pub known_static : (k : AbsValue) (i : Interval) (o : held.Static) (values : List ℤ) → values ≡ o.values.items → k ≡ record { initialised = true; interval = i } → EachIn i values → In i (pos 0) → TreeIs k (static_of o).type.lengths (static_object (static_of o))
known_static k i o values ev ek h z = let P : AbsValue → Type 0 = λ k. TreeIs k (static_of o).type.lengths (static_object (static_of o)) in let Q : List ℤ → Type 0 = EachIn i in
    subst P (sym ek) (static_is (record { initialised = true; interval = i }) (static_of o) z (subst Q ev h))

pub known_text : (k : AbsValue) (i : Interval) (text : List ℕ) → k ≡ record { initialised = true; interval = i } → EachIn i (map (λ c. pos c) text) → TreeIs k (length text ∷ []) (literal_object text)
known_text k i text ek h = let P : AbsValue → Type 0 = λ k. TreeIs k (length text ∷ []) (literal_object text) in subst P (sym ek) (literal_is (record { initialised = true; interval = i }) text h)

pub more_known : (ks ks2 : List AbsValue) (outer outer2 : List (Vec ℕ Global)) (store store2 : Store) (k : AbsValue) (lengths : Vec ℕ Global) (l : List ℕ) (t : Tree) → ObjectsAre ks (shapes_in outer) store → ks2 ≡ ks ++ k ∷ [] → outer2 ≡ outer ++ lengths ∷ [] →
    lengths.items ≡ l → TreeIs k l t → store2 ≡ store ++ t ∷ [] → ObjectsAre ks2 (shapes_in outer2) store2
more_known ks ks2 outer outer2 store store2 k lengths l t h ek eo el m es =
    let K : List AbsValue → Type 0 = λ ks2. ObjectsAre ks2 (shapes_in outer2) store2 in
    let O : List (Vec ℕ Global) → Type 0 = λ outer2. ObjectsAre (ks ++ k ∷ []) (shapes_in outer2) store2 in
    let S : Store → Type 0 = λ store2. ObjectsAre (ks ++ k ∷ []) (shapes_in (outer ++ lengths ∷ [])) store2 in
    let M : List (List ℕ) → Type 0 = λ shapes. ObjectsAre (ks ++ k ∷ []) shapes (store ++ t ∷ []) in
    let L : List ℕ → Type 0 = λ l. TreeIs k l t in
    subst K (sym ek) (subst O (sym eo) (subst S (sym es) (subst M (sym (shapes_more outer lengths)) (one_more_object ks (shapes_in outer) store k lengths.items t h (subst L (sym el) m)))))
  where
    shapes_more : (outer : List (Vec ℕ Global)) (lengths : Vec ℕ Global) → shapes_in (outer ++ lengths ∷ []) ≡ shapes_in outer ++ lengths.items ∷ []
    shapes_more [] lengths = refl
    shapes_more (x ∷ outer) lengths = ap (λ rest. x.items ∷ rest) (shapes_more outer lengths)

text_objects_suc : (texts : List (Vec ℕ Global)) (n : ℕ) (d : Vec ℕ Global) → n < length texts →
    map literal_object (texts_of (take (suc n) texts)) ≡ map literal_object (texts_of (take n texts)) ++ literal_object (get_or texts n d).items ∷ []
text_objects_suc [] n d h = absurd (omega (arith, h))
text_objects_suc (x ∷ texts) zero d h = refl
text_objects_suc (x ∷ texts) (suc n) d h = ap (λ rest. literal_object x.items ∷ rest) (text_objects_suc texts n d (let q : suc n < suc (length texts) = h in omega (arith, q)))

text_objects : (texts : List (Vec ℕ Global)) (n : ℕ) (d : Vec ℕ Global) → n < length texts →
    map literal_object (texts_of (take (n + 1) texts)) ≡ map literal_object (texts_of (take n texts)) ++ literal_object (get_or texts n d).items ∷ []
text_objects texts n d h = ap (λ m. map literal_object (texts_of (take m texts))) (add-one n) ∙ text_objects_suc texts n d h

own_objects : (objects : List held.Static) (n : ℕ) (d : held.Static) → n < length objects → map static_object (map static_of (take (suc n) objects)) ≡ map static_object (map static_of (take n objects)) ++ static_object (static_of (get_or objects n d)) ∷ []
own_objects [] n d h = absurd (omega (arith, h))
own_objects (x ∷ objects) zero d h = refl
own_objects (x ∷ objects) (suc n) d h = ap (λ rest. static_object (static_of x) ∷ rest) (own_objects objects n d (let q : suc n < suc (length objects) = h in omega (arith, q)))

static_objects : (before : Store) (objects : List held.Static) (n : ℕ) (d : held.Static) → n < length objects →
    before ++ map static_object (map static_of (take (n + 1) objects)) ≡ (before ++ map static_object (map static_of (take n objects))) ++ static_object (static_of (get_or objects n d)) ∷ []
static_objects [] objects n d h = ap (λ m. map static_object (map static_of (take m objects))) (add-one n) ∙ own_objects objects n d h
static_objects (t ∷ before) objects n d h = ap (λ rest. t ∷ rest) (static_objects before objects n d h)

pub no_statics : (before : Store) → before ++ [] ≡ before
no_statics [] = refl
no_statics (t ∷ before) = ap (λ rest. t ∷ rest) (no_statics before)

-- ---- the ends of a body

pub only_returns : (w : Ways) → w.normal ≡ None → w.broken ≡ None → w.continued ≡ None → OnlyReturns w
only_returns w a b c = record { normal = a; broken = b; continued = c }

never : {A : Type 0} (fr : Frame) (o : Option Known) (s : State) → o ≡ None → Reaches fr o s → A
never fr o s e h = let P : Option Known → Type 0 = λ o. Reaches fr o s in absurd (let q : ⊥ = subst P e h in q)

pub returns_end : (p : Program) (f : ℕ) (w : Ways) → OnlyReturns w → FunctionEnds p f w w.value w.returned
returns_end p f w h = record {
  normal = λ fr s c. never fr w.normal s h.normal c;
  broken = λ fr s c. never fr w.broken s h.broken c;
  continued = λ fr s c. never fr w.continued s h.continued c;
  returned = λ fr v s m c. (m, c);
}

pub all_end : (p : Program) (f : ℕ) (b : Bool) (w : Ways) (end value : AbsValue) (two three o : Option Known) → b ≡ nat_eq f p.main → ValueIs end (value_at_end b) → Entails w.value value → Entails end value → Implies w.normal two → Implies w.broken two →
    Implies two three → Implies w.continued three → Implies three o → Implies w.returned o → FunctionEnds p f w value o
all_end p f b w end value two three o eb m ev ee n2 b2 t3 c3 o3 r3 =
    let P : Bool → Type 0 = λ b. ValueIs value (value_at_end b) in
    let k : ValueIs value (value_at_end (nat_eq f p.main)) = subst P eb (ee.is (value_at_end b) m) in record {
      normal = λ fr s c. (k, o3.is fr s (t3.is fr s (n2.is fr s c)));
      broken = λ fr s c. (k, o3.is fr s (t3.is fr s (b2.is fr s c)));
      continued = λ fr s c. (k, o3.is fr s (c3.is fr s c));
      returned = λ fr v s h c. (ev.is v h, r3.is fr s c);
    }

-- ---- summaries

pub summary_sound : (p : Program) (wk : Work) (outer : List (Vec ℕ Global)) (ps : List ArrayArgument) (g : Function) (f : ℕ) (entry given : Known) (w : Ways) (value : AbsValue) (left : Option Known) → IsSoundWork p wk → slice_get p.functions f ≡ Some g →
    entry ≡ given → Executes (frame_in p wk outer ps g) g.body (Some entry) w → FunctionEnds p f w value left → IsSound p wk.listed.items (record { function = f; outer = shapes_in outer; arrays = ps; entry = given; value = value; left = left })
summary_sound p wk outer ps g f entry given w value left sound eg e h ends =
    let Q : Known → Type 0 = λ known. IsSound p wk.listed.items (record { function = f; outer = shapes_in outer; arrays = ps; entry = known; value = value; left = left }) in
    subst Q e (body_rule (frame_in p wk outer ps g) f g entry w value left refl sound eg h ends)

-- ---- more places

pub listed_more : (p : Program) (al al2 : List Pos) (at : Pos) (summaries : List Summary) → al2 ≡ al ++ at ∷ [] → AreSound p al summaries → AreSound p al2 summaries
listed_more p al al2 at summaries e h = let P : List Pos → Type 0 = λ al. AreSound p al summaries in subst P (sym e) (sound_more p al (al ++ at ∷ []) summaries (λ x c. behind al x c) h)
  where
    index : (al : List Pos) (k : ℕ) (x : Pos) → k < length al → slice_index_or al k x ≡ x → (k < length (al ++ at ∷ [])) × (slice_index_or (al ++ at ∷ []) k x ≡ x)
    index [] k x lt e = absurd (omega (arith, lt))
    index (a ∷ al) zero x lt e = (let q : 0 < suc (length (al ++ at ∷ [])) = omega arith in q, e)
    index (a ∷ al) (suc k) x lt e = let r = index al k x (let q : suc k < suc (length al) = lt in omega (arith, q)) e in (let q : k < length (al ++ at ∷ []) = r.0 in omega (arith, q), r.1)

    behind : (al : List Pos) (x : Pos) → Contains al x → Contains (al ++ at ∷ []) x
    behind al x c = let r = index al c.0 x c.1 c.2 in (c.0, r.0, r.1)

summaries_more : (xs : List code.Summary) (x : code.Summary) → map summary_of (xs ++ x ∷ []) ≡ map summary_of xs ++ summary_of x ∷ []
summaries_more [] x = refl
summaries_more (y ∷ xs) x = ap (λ rest. summary_of y ∷ rest) (summaries_more xs x)

pub learnt_more : (p : Program) (al : List Pos) (xs ys : List code.Summary) (x : code.Summary) → ys ≡ xs ++ x ∷ [] → AreSound p al (map summary_of xs) → IsSound p al (summary_of x) → AreSound p al (map summary_of ys)
learnt_more p al xs ys x e h g = let P : List code.Summary → Type 0 = λ ys. AreSound p al (map summary_of ys) in let Q : List Summary → Type 0 = AreSound p al in
    subst P (sym e) (subst Q (sym (summaries_more xs x)) (one_more_sound p al (map summary_of xs) (summary_of x) h g))

-- ---- objects before the run, one by one

pub adds_object : (before after : FirstObjects) (k : AbsValue) (lengths : Vec ℕ Global) (l : List ℕ) (t : Tree) (x : ℕ) (facts : List Fact) → after.known.objects.items ≡ before.known.objects.items ++ k ∷ [] → after.outer.items ≡ before.outer.items ++ lengths ∷ [] → lengths.items ≡ l → TreeIs k l t →
    x ≡ length before.outer.items → after.known.facts.items ≡ facts → TreeFacts t x before.known.facts.items facts → Adds before t after
adds_object before after k lengths l t x facts ek eo el m ex ef tf = record {
  adds = λ store h.
      let F : List Fact → Type 0 = λ facts. FactsAre facts (store ++ t ∷ []) in
      let long : length store ≡ x = as_long before.known.objects.items (shapes_in before.outer.items) store h.are ∙ shapes_long before.outer.items ∙ sym ex in
      record {
        are = more_known before.known.objects.items after.known.objects.items before.outer.items after.outer.items store (store ++ t ∷ []) k lengths l t h.are ek eo el m refl;
        facts = subst F (sym ef) (tf.is store long h.facts);
      };
}
  where
    shapes_long : (outer : List (Vec ℕ Global)) → length (shapes_in outer) ≡ length outer
    shapes_long [] = refl
    shapes_long (l ∷ outer) = ap suc (shapes_long outer)

pub text_known : (texts : List (Vec ℕ Global)) (n : ℕ) (d : Vec ℕ Global) (text : List ℕ) (a b : FirstObjects) → n < length texts → text ≡ (get_or texts n d).items → Adds a (literal_object text) b → FirstAre a (map literal_object (texts_of (take n texts))) →
    FirstAre b (map literal_object (texts_of (take (n + 1) texts)))
text_known texts n d text a b lt e h g =
    let P : Store → Type 0 = λ store. FirstAre b store in
    let Q : List ℕ → Type 0 = λ text. FirstAre b (map literal_object (texts_of (take n texts)) ++ literal_object text ∷ []) in
    subst P (sym (text_objects texts n d lt)) (subst Q e (h.adds (map literal_object (texts_of (take n texts))) g))

pub all_texts : (texts : List (Vec ℕ Global)) (n : ℕ) (a : FirstObjects) → length texts ≤ n → FirstAre a (map literal_object (texts_of (take n texts))) → FirstAre a (map literal_object (texts_of texts))
all_texts texts n a le h = let P : List (Vec ℕ Global) → Type 0 = λ texts. FirstAre a (map literal_object (texts_of texts)) in subst P (take_all n texts le) h

pub static_known : (before : Store) (objects : List held.Static) (n : ℕ) (d : held.Static) (a b : FirstObjects) → n < length objects → Adds a (static_object (static_of (get_or objects n d))) b → FirstAre a (before ++ map static_object (map static_of (take n objects))) →
    FirstAre b (before ++ map static_object (map static_of (take (n + 1) objects)))
static_known before objects n d a b lt h g = let P : Store → Type 0 = λ store. FirstAre b store in
    subst P (sym (static_objects before objects n d lt)) (h.adds (before ++ map static_object (map static_of (take n objects))) g)

pub begin_statics : (before : Store) (a : FirstObjects) → FirstAre a before → FirstAre a (before ++ [])
begin_statics before a h = let P : Store → Type 0 = λ store. FirstAre a store in subst P (sym (no_statics before)) h

pub statics_there : (a : FirstObjects) (before : Store) (xs ys : List held.Static) → xs ≡ ys → FirstAre a (before ++ map static_object (map static_of xs)) → FirstAre a (before ++ map static_object (map static_of ys))
statics_there a before xs ys e h = let P : List held.Static → Type 0 = λ xs. FirstAre a (before ++ map static_object (map static_of xs)) in subst P e h

pub begins_there : (a : FirstObjects) (p : code_program.Program) (xs : List (Vec ℕ Global)) → xs ≡ p.literals.items → FirstAre a (map literal_object (texts_of xs) ++ map static_object (program_of p).statics) → Begins (program_of p) (shapes_in a.outer.items) (known_of a.known)
begins_there a p xs e h = let P : List (Vec ℕ Global) → Type 0 = λ xs. FirstAre a (map literal_object (texts_of xs) ++ map static_object (program_of p).statics) in let k : FirstAre a (first_store (program_of p)) = subst P e h in record { objects = k.are; facts = k.facts }

pub all_statics : (before : Store) (objects : List held.Static) (n : ℕ) (a : FirstObjects) → length objects ≤ n → FirstAre a (before ++ map static_object (map static_of (take n objects))) → FirstAre a (before ++ map static_object (map static_of objects))
all_statics before objects n a le h = let P : List held.Static → Type 0 = λ objects. FirstAre a (before ++ map static_object (map static_of objects)) in subst P (take_all n objects le) h

pub text_at : (texts : List (Vec ℕ Global)) (n : ℕ) (x : Vec ℕ Global) (text : List ℕ) (a b : FirstObjects) → n < length texts → x ≡ get_or texts n x → text ≡ x.items → Adds a (literal_object text) b → FirstAre a (map literal_object (texts_of (take n texts))) →
    FirstAre b (map literal_object (texts_of (take (n + 1) texts)))
text_at texts n x text a b lt ex et h g = text_known texts n x text a b lt (et ∙ ap (λ v. v.items) ex) h g

pub static_at : (before : Store) (objects : List held.Static) (n : ℕ) (x : held.Static) (a b : FirstObjects) → n < length objects → x ≡ get_or objects n x → Adds a (static_object (static_of x)) b → FirstAre a (before ++ map static_object (map static_of (take n objects))) →
    FirstAre b (before ++ map static_object (map static_of (take (n + 1) objects)))
static_at before objects n x a b lt ex h g = let P : held.Static → Type 0 = λ y. Adds a (static_object (static_of y)) b in static_known before objects n x a b lt (subst P ex h) g

pub main_body_at : (p : Program) (wk : Work) (outer outer2 : List (Vec ℕ Global)) (ps : List ArrayArgument) (g : Function) (first : Known) (count : ℕ) (entry : Known) (w : Ways) → outer ≡ outer2 → ps ≡ [] → IsSoundWork p wk → slice_get p.functions p.main ≡ Some g → Begins p (shapes_in outer2) first →
    count ≡ length g.objects → EntersMain first count entry → Executes (frame_in p wk outer ps g) g.body (Some entry) w → IsDefinedBut p wk.listed.items
main_body_at p wk outer outer2 ps g first count entry w eo ep sound eg hb ec en h = let P : List (Vec ℕ Global) → Type 0 = λ outer. Executes (frame_in p wk outer ps g) g.body (Some entry) w in
    let Q : List ArrayArgument → Type 0 = λ ps. Executes (frame_in p wk outer2 ps g) g.body (Some entry) w in
    main_body p wk outer2 g first count entry w sound eg hb ec en (subst Q ep (subst P eo h))

pub summary_at : (p : Program) (wk : Work) (outer outer2 : List (Vec ℕ Global)) (ps ps2 : List ArrayArgument) (g : Function) (f : ℕ) (entry given : Known) (w : Ways) (value : AbsValue) (left : Option Known) → outer ≡ outer2 → ps ≡ ps2 → IsSoundWork p wk → slice_get p.functions f ≡ Some g →
    entry ≡ given → Executes (frame_in p wk outer ps g) g.body (Some entry) w → FunctionEnds p f w value left → IsSound p wk.listed.items (record { function = f; outer = shapes_in outer2; arrays = ps2; entry = given; value = value; left = left })
summary_at p wk outer outer2 ps ps2 g f entry given w value left eo ep sound eg e h ends = let P : List (Vec ℕ Global) → Type 0 = λ outer. Executes (frame_in p wk outer ps g) g.body (Some entry) w in
    let Q : List ArrayArgument → Type 0 = λ ps. Executes (frame_in p wk outer2 ps g) g.body (Some entry) w in
    summary_sound p wk outer2 ps2 g f entry given w value left sound eg e (subst Q ep (subst P eo h)) ends

pub function_there : (functions : List code_function.Function) (f : ℕ) (g : code_function.Function) → slice_get functions f ≡ Some g → slice_get (map function_of functions) f ≡ Some (function_of g)
function_there [] f g e = absurd (cc e)
function_there (x ∷ functions) zero g e = let q : x ≡ g = cc e in ap (λ x. Some (function_of x)) q
function_there (x ∷ functions) (suc f) g e = function_there functions f g e

-- ---- the verdict

pub nothing_listed : (p : Program) (xs ys : List Pos) → length xs ≡ 0 → xs ≡ ys → IsDefinedBut p ys → IsDefined p
nothing_listed p xs ys e d h = let P : List Pos → Type 0 = λ xs. length xs ≡ 0 in never_undefined p ys (subst P d e) h

-- ---- objects without what is known of single elements

pub begins_without : (p : Program) (outer : List (List ℕ)) (known : Known) (facts : List Fact) → facts ≡ [] → Begins p outer known → Begins p outer (record { objects = known.objects; facts = facts })
begins_without p outer known facts e h = subst (λ fs. Begins p outer (record { objects = known.objects; facts = fs })) (sym e) (record { objects = h.objects; facts = tt })
