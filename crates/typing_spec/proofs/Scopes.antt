-- The scope that a declaration leaves is that of its declarators.
use Rattle.std.proofs.Common.{◌≡◌, refl, List, [], ◌∷◌}
use Rattle.tree.specs.Tree.{ItemTree, object, function, declared, assertion}
use Rattle.typing_spec.specs.Verdict.{Verdict, fine, broken, then_check, both, IfFine, Stands}
use Rattle.typing_spec.specs.Scope.{Scope}
use Rattle.typing_spec.specs.Specifiers.{BaseType}
use Rattle.typing_spec.specs.Linkage.{StorageClass}
use Rattle.typing_spec.specs.Declarations.{Effects, no_effects, Declared, before_others, begun, finished, initialised, function_at, items_declared, items_typed, specified_for, asserted}
use Rattle.typing_spec.specs.Laws.{ScopeIsOfDeclarators, FaultsOfDeclaratorsStand}
use Rattle.srcset.specs.declared.code.Code.{Code}
use Rattle.srcset.specs.declared.refusal.Pos.{Pos}
use Rattle.typing_spec.proofs.Verdicts.{both_right}

abbrev Agree : Verdict Scope → Verdict Declared → Type 0
Agree x y = IfFine (λ d. x ≡ fine d.scope) y

agree_then : {A : Type 0} (v : Verdict A) (f : A → Verdict Scope) (g : A → Verdict Declared) → ((a : A) → Agree (f a) (g a)) → Agree (then_check v f) (then_check v g)
agree_then (fine a) f g h = h a
agree_then (broken vs) f g h = tt

agree_both : (v : Verdict Effects) (x : Verdict Scope) (y : Verdict Declared) → Agree x y → Agree x (both v y before_others)
agree_both (fine e) x (fine d) h = h
agree_both (fine e) x (broken vs) h = tt
agree_both (broken vs) x y h = tt

agree_assertion : (v : Verdict Scope) → Agree v (then_check v (λ inner. fine (record { scope = inner; effects = no_effects })))
agree_assertion (fine s) = refl
agree_assertion (broken vs) = tt

agree_items : (class : StorageClass) (b : BaseType) (is : List ItemTree) (s : Scope) → Agree (items_declared s class b is) (items_typed s class b is)
agree_items class b [] s = refl
agree_items class b (object at n sizes init ∷ is) s =
    agree_then (begun s class b at n sizes init) (λ o. then_check (finished o) (λ inner. items_declared inner class b is))
    (λ o. both (initialised o) (then_check (finished o) (λ inner. items_typed inner class b is)) before_others)
    (λ o. agree_both (initialised o) (then_check (finished o) (λ inner. items_declared inner class b is)) (then_check (finished o) (λ inner. items_typed inner class b is))
    (agree_then (finished o) (λ inner. items_declared inner class b is) (λ inner. items_typed inner class b is) (λ inner. agree_items class b is inner)))
agree_items class b (function at n ps ∷ is) s =
    agree_then (function_at s.level s class b at n ps) (λ inner. items_declared inner class b is) (λ inner. items_typed inner class b is) (λ inner. agree_items class b is inner)

pub scope_of_declarators : ScopeIsOfDeclarators
scope_of_declarators s (declared at ss items) =
    agree_then (specified_for s at ss items) (λ d. items_declared d.scope d.class d.base items) (λ d. items_typed d.scope d.class d.base items) (λ d. agree_items d.class d.base items d.scope)
scope_of_declarators s (assertion at e text) = agree_assertion (asserted s at e)

stands_then : {A B C : Type 0} (code : Code) (at : Pos) (v : Verdict A) (f : A → Verdict B) (g : A → Verdict C) →
    ((a : A) → Stands code at (f a) → Stands code at (g a)) → Stands code at (then_check v f) → Stands code at (then_check v g)
stands_then code at (fine a) f g each h = each a h
stands_then code at (broken vs) f g each h = h

stands_items : (code : Code) (p : Pos) (class : StorageClass) (b : BaseType) (is : List ItemTree) (s : Scope) →
    Stands code p (items_declared s class b is) → Stands code p (items_typed s class b is)
stands_items code p class b [] s h = absurd h
stands_items code p class b (object at n sizes init ∷ is) s h =
    stands_then code p (begun s class b at n sizes init) (λ o. then_check (finished o) (λ inner. items_declared inner class b is))
    (λ o. both (initialised o) (then_check (finished o) (λ inner. items_typed inner class b is)) before_others)
    (λ o k. both_right code p (initialised o) (then_check (finished o) (λ inner. items_typed inner class b is)) before_others
    (stands_then code p (finished o) (λ inner. items_declared inner class b is) (λ inner. items_typed inner class b is) (λ inner l. stands_items code p class b is inner l) k)) h
stands_items code p class b (function at n ps ∷ is) s h =
    stands_then code p (function_at s.level s class b at n ps) (λ inner. items_declared inner class b is) (λ inner. items_typed inner class b is)
    (λ inner k. stands_items code p class b is inner k) h

abbrev leaving : Scope → Verdict Declared
leaving inner = fine (record { scope = inner; effects = no_effects })

stands_assertion : (code : Code) (p : Pos) (v : Verdict Scope) → Stands code p v → Stands code p (then_check v leaving)
stands_assertion code p (fine s) h = absurd h
stands_assertion code p (broken vs) h = h

pub faults_of_declarators_stand : FaultsOfDeclaratorsStand
faults_of_declarators_stand code p s (declared at ss items) h =
    stands_then code p (specified_for s at ss items) (λ d. items_declared d.scope d.class d.base items) (λ d. items_typed d.scope d.class d.base items)
    (λ d k. stands_items code p d.class d.base items d.scope k) h
faults_of_declarators_stand code p s (assertion at e text) h = stands_assertion code p (asserted s at e) h
