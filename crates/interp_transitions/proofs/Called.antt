-- Calls begin and end.
use Rattle.std.proofs.Common.{◌≡◌, ℕ, ℤ, ◌-◌, ◌<◌, ◌≤◌, get_or, List, ◌∷◌, ◌++◌, length, map, drop, refl, sym, ap, ◌∙◌, append_assoc, arith, length-append}
use Rattle.std.specs.Prelude.{Result, Option, Some, None, Bool, true, false, nat_eq, slice_get, option_map}
use Rattle.std.proofs.lemmas.Option.{slice_get-map}
use Rattle.typed_ast.specs.declared.units.Function as unit
use Rattle.interp_store.proofs.Scenes.{beyond_any, got_any}
use Rattle.std.proofs.lemmas.List.{drop-map}
use Rattle.typing_spec.specs.Types.{ObjectType}
use Rattle.typing_spec.specs.Program as typed
use Rattle.typed_ast.specs.declared.types.ObjectType as held
use Rattle.typed_ast.specs.View.{function_of, object_type_of}
use Rattle.csem.specs.Store.{Store, Reference, indeterminate}
use Rattle.csem.specs.Expressions as meaning
use Rattle.csem.specs.History.{Entered}
use Rattle.csem.specs.Machine.{State}
use Rattle.interp_store.specs.View.{reference_of, store_of}
use Rattle.csem.specs.Meaning.{numbers_of, arrays_of, objects_of, words_of, enter}
use Rattle.interp_store.specs.declared.stop.Stop.{Stop}
use Rattle.interp_store.specs.declared.scene.Scene.{Scene}
use Rattle.interp_store.specs.declared.frames.Step.{Step}
use Rattle.interp_store.specs.layer.Frames as on
use Rattle.interp_store.specs.layer.Steps.{waits, entered_call, went_back}
use Rattle.interp_store.specs.layer.Agrees.{Outside, state_in, onto, Agrees}
use Rattle.interp_transitions.specs.Acts.{outside_of, outside_behind}
use Rattle.interp_transitions.proofs.Left.{at_scene}

-- ---- parameters

-- the objects after the parameters
pub objects_done : (types : List held.ObjectType) (ps : List meaning.Passed) (n : ℕ) (s s1 s2 : Store) → s1 ≡ s ++ numbers_of ps → n ≡ length s1 - length s →
    s2 ≡ s1 ++ map indeterminate (map object_type_of (drop n types)) → s2 ≡ s ++ objects_of (map object_type_of types) ps
objects_done types ps n s s1 s2 e f g =
    let many : n ≡ length (numbers_of ps) = omega (arith, f, ap length e ∙ length-append s (numbers_of ps)) in
    let other : map object_type_of (drop n types) ≡ drop (length (numbers_of ps)) (map object_type_of types) =
    ap (λ n. map object_type_of (drop n types)) many ∙ sym (drop-map object_type_of (length (numbers_of ps)) types) in
    g ∙ ap (λ s1. s1 ++ map indeterminate (map object_type_of (drop n types))) e ∙ ap (λ l. (s ++ numbers_of ps) ++ map indeterminate l) other
    ∙ append_assoc s (numbers_of ps) (map indeterminate (drop (length (numbers_of ps)) (map object_type_of types)))

-- ---- the definition is entered

pub begin_as : (p : typed.Program) (back : on.Back) (f : ℕ) (g : typed.Function) (passed : List meaning.Passed) (s t : State) (is_main : Bool) (count base : ℕ) (arrays : List Reference)
    (n : ℕ) (objects : List ObjectType) → is_main ≡ nat_eq f p.main → count ≡ length s.store → base ≡ s.base → arrays ≡ s.arrays → n ≡ length g.type.parameters →
    objects ≡ g.objects → t ≡ enter f g passed s →
    waits (on.returns back is_main count base arrays) (on.ticking n (on.enters_body objects g.body)) t ≡ entered_call p back (Some g) f passed s
begin_as p back f g passed s t is_main count base arrays n objects a b c d e h i =
    ap (λ x. waits (on.returns back x count base arrays) (on.ticking n (on.enters_body objects g.body)) t) a
    ∙ ap (λ x. waits (on.returns back (nat_eq f p.main) x base arrays) (on.ticking n (on.enters_body objects g.body)) t) b
    ∙ ap (λ x. waits (on.returns back (nat_eq f p.main) (length s.store) x arrays) (on.ticking n (on.enters_body objects g.body)) t) c
    ∙ ap (λ x. waits (on.returns back (nat_eq f p.main) (length s.store) s.base x) (on.ticking n (on.enters_body objects g.body)) t) d
    ∙ ap (λ x. waits (on.returns back (nat_eq f p.main) (length s.store) s.base s.arrays) (on.ticking x (on.enters_body objects g.body)) t) e
    ∙ ap (λ x. waits (on.returns back (nat_eq f p.main) (length s.store) s.base s.arrays) (on.ticking (length g.type.parameters) (on.enters_body x g.body)) t) h
    ∙ ap (λ x. waits (on.returns back (nat_eq f p.main) (length s.store) s.base s.arrays) (on.ticking (length g.type.parameters) (on.enters_body g.objects g.body)) x) i

-- ---- where a call's end returns to

back_outside : (p : typed.Program) (b : on.Back) (v : Option ℤ) (s : State) → outside_behind (went_back p b v s) ≡ outside_of s
back_outside p (on.to_caller at used) (Some v) s = refl
back_outside p (on.to_caller at true) None s = refl
back_outside p (on.to_caller at false) None s = refl
back_outside p on.to_end v s = refl

pub back_acts : (p : typed.Program) (b : on.Back) (v : Option ℤ) (s : State) (fs : List on.Frame) (r : Result Step Stop) (scene : Scene) (o : Outside) → s ≡ state_in scene o →
    Agrees (onto fs (went_back p b v s)) r fs s → Agrees (onto fs (went_back p b v s)) r fs (state_in scene (outside_behind (went_back p b v s)))
back_acts p b v s fs r scene o e h = at_scene fs fs (went_back p b v s) r s scene o e (back_outside p b v s) h

abbrev with_parts : ℕ → List meaning.Passed → Outside → Store → ℕ → List Reference → State
with_parts f passed o store base arrays = record { clock = o.clock; store = store; base = base; arrays = arrays; input = o.input; history = Entered f (words_of passed) ∷ o.history }

pub set_as : (scene old : Scene) (o : Outside) (f : ℕ) (g : typed.Function) (objects : List ObjectType) (passed : List meaning.Passed) →
    store_of scene.store ≡ store_of old.store ++ objects_of objects passed → objects ≡ g.objects → scene.base ≡ length (store_of old.store) →
    map reference_of scene.arrays.items ≡ arrays_of passed → state_in scene (record o { history = Entered f (words_of passed) ∷ o.history }) ≡ enter f g passed (state_in old o)
set_as scene old o f g objects passed a same b c =
    ap (λ x. with_parts f passed o x scene.base (map reference_of scene.arrays.items)) (a ∙ ap (λ l. store_of old.store ++ objects_of l passed) same)
    ∙ ap (λ x. with_parts f passed o (store_of old.store ++ objects_of g.objects passed) x (map reference_of scene.arrays.items)) b
    ∙ ap (with_parts f passed o (store_of old.store ++ objects_of g.objects passed) (length (store_of old.store))) c

-- ---- the function that is called

pub no_function : (fs : List unit.Function) (f : ℕ) → length fs ≤ f → slice_get (map function_of fs) f ≡ None
no_function fs f h = slice_get-map function_of fs f ∙ ap (option_map function_of) (beyond_any fs f h)

pub a_function : (fs : List unit.Function) (f : ℕ) (g : unit.Function) → f < length fs → g ≡ get_or fs f g → slice_get (map function_of fs) f ≡ Some (function_of g)
a_function fs f g h e = slice_get-map function_of fs f ∙ ap (option_map function_of) (got_any fs f g h e)
