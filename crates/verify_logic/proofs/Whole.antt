-- From main's body to the run (5.1.2.2.1), and more places.
use Rattle.std.proofs.Common.{◌≡◌, ℕ, zero, suc, ◌<◌, ℤ, pos, List, [], ◌∷◌, ◌++◌, map, drop, length, refl, ap, sym, subst, arith}
use Rattle.std.specs.Prelude.{Option, Some, nat_eq, slice_get, Contains}
use Rattle.srcset.specs.declared.refusal.Pos.{Pos}
use Rattle.typing_spec.specs.Types.{elements_in}
use Rattle.typing_spec.specs.Program.{Function, Static, Program}
use Rattle.csem.specs.Store.{Tree, parts, Store, first_or_zero, row_of, laid_out, static_object, characters_of, literal_object, first_store}
use Rattle.csem.specs.Machine.{State, Ended, Undefined, TicksUsed, Run, Goes, Stops, then_do}
use Rattle.csem.specs.Statements.{Flow}
use Rattle.csem.specs.Meaning.{enter, leave, value_left, body_of, call_defined, calling, start, end_with, ending_of}
use Rattle.verify_logic.specs.declared.abstract_values.Interval.{Interval}
use Rattle.verify_logic.specs.declared.abstract_values.AbsValue.{AbsValue}
use Rattle.verify_logic.specs.declared.abstract_values.ArrayArgument.{ArrayArgument}
use Rattle.verify_logic.specs.States.{Known, Summary, In, ValueIs, EachPart, TreeIs, ObjectsAre, ArraysAre, lengths_in, CoversState, body_and_value, IsSound, AreSound, Ends}
use Rattle.verify_logic.specs.Calls.{Entered, Begins, EachIn, with_own}
use Rattle.verify_logic.specs.Whole.{UndefinedOnlyAt, IsDefinedBut, NotUndefined, IsDefined}
use Rattle.verify_logic.proofs.Calls.{both_are, as_long, new_objects}
use Rattle.verify_logic.proofs.Facts.{facts_front}

-- ---- the run

-- the trivial postcondition of a run that continues
abbrev Anything : {A : Type 0} → A → State → Type 0
Anything a s = Unit {0}

only_at : (listed : List Pos) (r : Run (Option ℤ)) → Ends listed r Anything → UndefinedOnlyAt listed (ending_of (then_do r end_with))
only_at listed (Goes v s) h = tt
only_at listed (Stops (Ended n) s) h = tt
only_at listed (Stops (Undefined act at) s) h = h
only_at listed (Stops TicksUsed s) h = tt

leaving : (listed : List Pos) (r : Run Flow) (value : Flow → Option ℤ) (caller : State) (post : Option ℤ → State → Type 0) → Ends listed (then_do r (λ flow s. Goes (value flow) s)) post → Ends listed (then_do r (λ flow s. Goes (value flow) (leave caller (value flow) s))) Anything
leaving listed (Goes flow s) value caller post h = tt
leaving listed (Stops (Ended n) s) value caller post h = tt
leaving listed (Stops (Undefined act at) s) value caller post h = h
leaving listed (Stops TicksUsed s) value caller post h = tt

pub main_rule : (p : Program) (listed : List Pos) (g : Function) (first : Known) (ks : List AbsValue) (a : Summary) → slice_get p.functions p.main ≡ Some g → Begins p a.outer first → Entered [] g.objects ks → a.function ≡ p.main → a.arrays ≡ [] → a.entry ≡ with_own first ks →
    IsSound p listed a → IsDefinedBut p listed
main_rule p listed g first ks a eg hb he ef ea ee h n input bytes =
    let s : State = start n p input in
    let s1 : State = enter p.main g [] s in
    let P : Option Function → Type 0 = λ o. UndefinedOnlyAt listed (ending_of (then_do (call_defined p (calling p n) o p.main [] s) end_with)) in
    let F : ℕ → Type 0 = λ x. slice_get p.functions x ≡ Some g in
    let K : Known → Type 0 = λ known. CoversState a.outer a.arrays g.objects (Some known) s1 in
    let A : List ArrayArgument → Type 0 = λ ps. ArraysAre a.outer ps [] in
    let cov : CoversState a.outer a.arrays g.objects (Some (with_own first ks)) s1 = record {
      based = as_long first.objects a.outer (first_store p) hb.objects;
      referred = subst A (sym ea) tt;
      objects_are = both_are first.objects a.outer (first_store p) ks (map lengths_in g.objects) _ hb.objects (new_objects g.objects ks he);
      facts_are = facts_front first.facts (first_store p) _ hb.facts;
      bytes = bytes;
    } in
    let done = h g (subst F (sym ef) eg) n s1 (subst K (sym ee) cov) in
    let Q : ℕ → Type 0 = λ x. Ends listed (body_and_value p x n g s1) (λ v s2. ValueIs a.value v × CoversState a.outer a.arrays g.objects a.left s2) in
    subst P (sym eg) (only_at listed (call_defined p (calling p n) (Some g) p.main [] s) (leaving listed (body_of p (calling p n) g s1) (value_left (nat_eq p.main p.main)) s (λ v s2. ValueIs a.value v × CoversState a.outer a.arrays g.objects a.left s2) (subst Q ef done)))

pub never_undefined : (p : Program) (listed : List Pos) → length listed ≡ 0 → IsDefinedBut p listed → IsDefined p
never_undefined p listed e h n input bytes = by _ (h n input bytes)
  where
    none : (xs : List Pos) (x : Pos) → length xs ≡ 0 → Contains xs x → ⊥
    none [] x e h = let q : h.0 < 0 = h.1 in omega (arith, q)
    none (y ∷ xs) x e h = cc e

    by : (r : _) → UndefinedOnlyAt listed r → NotUndefined r
    by (Ended status) q = tt
    by (Undefined act at) q = none listed at e q
    by TicksUsed q = tt

-- ---- more places

pub ends_more : {A : Type 0} (al al2 : List Pos) (r : Run A) (post : A → State → Type 0) → ((at : Pos) → Contains al at → Contains al2 at) → Ends al r post → Ends al2 r post
ends_more al al2 (Goes a s) post f h = h
ends_more al al2 (Stops (Ended n) s) post f h = tt
ends_more al al2 (Stops (Undefined act at) s) post f h = f at h
ends_more al al2 (Stops TicksUsed s) post f h = tt

pub sound_more : (p : Program) (al al2 : List Pos) (summaries : List Summary) → ((at : Pos) → Contains al at → Contains al2 at) → AreSound p al summaries → AreSound p al2 summaries
sound_more p al al2 [] f h = tt
sound_more p al al2 (a ∷ more) f h = (λ g e d s c. ends_more al al2 (body_and_value p a.function d g s) (λ v s2. ValueIs a.value v × CoversState a.outer a.arrays g.objects a.left s2) f (h.0 g e d s c), sound_more p al al2 more f h.1)

pub one_more_sound : (p : Program) (al : List Pos) (summaries : List Summary) (a : Summary) → AreSound p al summaries → IsSound p al a → AreSound p al (summaries ++ a ∷ [])
one_more_sound p al [] a h g = (g, tt)
one_more_sound p al (b ∷ more) a h g = (h.0, one_more_sound p al more a h.1 g)

-- ---- the objects before the run

first_in : (i : Interval) (vs : List ℤ) → In i (pos 0) → EachIn i vs → In i (first_or_zero vs)
first_in i [] z h = z
first_in i (v ∷ vs) z h = h.0

dropped_in : (i : Interval) (n : ℕ) (vs : List ℤ) → EachIn i vs → EachIn i (drop n vs)
dropped_in i zero vs h = h
dropped_in i (suc n) [] h = tt
dropped_in i (suc n) (v ∷ vs) h = dropped_in i n vs h.1

parts_of_row : (n size : ℕ) (part : List ℤ → Tree) (vs : List ℤ) → parts (row_of n size part vs) ≡ n
parts_of_row zero size part vs = refl
parts_of_row (suc n) size part vs = ap suc (parts_of_row n size part (drop size vs))

row_is : (k : AbsValue) (lengths : List ℕ) (n size : ℕ) (part : List ℤ → Tree) → ((ws : List ℤ) → EachIn k.interval ws → TreeIs k lengths (part ws)) → (vs : List ℤ) → EachIn k.interval vs → EachPart (TreeIs k lengths) (row_of n size part vs)
row_is k lengths zero size part f vs h = tt
row_is k lengths (suc n) size part f vs h = (f vs h, row_is k lengths n size part f (drop size vs) (dropped_in k.interval size vs h))

laid_out_is : (k : AbsValue) → In k.interval (pos 0) → (lengths : List ℕ) (vs : List ℤ) → EachIn k.interval vs → TreeIs k lengths (laid_out lengths vs)
laid_out_is k z [] vs h = first_in k.interval vs z h
laid_out_is k z (n ∷ lengths) vs h = (parts_of_row n (elements_in lengths) (laid_out lengths) vs, row_is k lengths n (elements_in lengths) (laid_out lengths) (laid_out_is k z lengths) vs h)

pub static_is : (k : AbsValue) (o : Static) → In k.interval (pos 0) → EachIn k.interval o.values → TreeIs k o.type.lengths (static_object o)
static_is k o z h = laid_out_is k z o.type.lengths o.values h

characters_are : (k : AbsValue) (text : List ℕ) → EachIn k.interval (map (λ c. pos c) text) → (parts (characters_of text) ≡ length text) × EachPart (TreeIs k []) (characters_of text)
characters_are k [] h = (refl, tt)
characters_are k (c ∷ text) h = let q = characters_are k text h.1 in (ap suc q.0, (h.0, q.1))

pub literal_is : (k : AbsValue) (text : List ℕ) → EachIn k.interval (map (λ c. pos c) text) → TreeIs k (length text ∷ []) (literal_object text)
literal_is k text h = characters_are k text h

pub one_more_object : (ks : List AbsValue) (shapes : List (List ℕ)) (store : Store) (k : AbsValue) (lengths : List ℕ) (t : Tree) → ObjectsAre ks shapes store → TreeIs k lengths t → ObjectsAre (ks ++ k ∷ []) (shapes ++ lengths ∷ []) (store ++ t ∷ [])
one_more_object ks shapes store k lengths t h m = both_are ks shapes store (k ∷ []) (lengths ∷ []) (t ∷ []) h (m, tt)
