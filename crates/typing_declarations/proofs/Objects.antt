-- The effects of the declarator of an object, in terms of its parts.
use Rattle.std.proofs.Common.{◌≡◌, ℕ, Bool, true, false, ◌&&◌, is_some, List, [], ◌∷◌, ◌++◌, Option, Some, None, refl, sym, ap, ◌∙◌, subst, append-nil}
use Rattle.srcset.specs.declared.refusal.Pos.{Pos}
use Rattle.srcset.specs.declared.refusal.Refusal.{Refusal}
use Rattle.tree.specs.Tree.{Tree, Init, init_hole, one_init, braced_init, Inits, no_inits, and_init}
use Rattle.ctypes.specs.declared.types.IntType.{IntType}
use Rattle.typed_ast.specs.declared.statements.Statement.{Statement}
use Rattle.typed_ast.specs.declared.initialisers.Initialiser.{Initialiser}
use Rattle.typed_ast.specs.View.{initialiser_of}
use Rattle.typing_units.specs.declared.first_values.Initial.{Initial}
use Rattle.typing_spec.specs.Types.{DeclaredType}
use Rattle.typing_spec.specs.Verdict.{Verdict, fine, each, then_check}
use Rattle.typing_spec.specs.Program as program
use Rattle.typing_spec.specs.Scope.{Scope}
use Rattle.typing_spec.specs.Initialisers.{Wanted, initialiser, constant_parts, all_constant, is_text, takes_text, part_wanted, text_alone, form_unless, parts_unless, past_init, values}
use Rattle.typing_spec.specs.Declarations as typed
use Rattle.typing_scopes.specs.Scopes.{with_texts}
use Rattle.typing_expressions.specs.Forms.{seen}
use Rattle.typing_expressions.specs.Refused.{IsOf, Tells}
use Rattle.typing_expressions.proofs.Verdicts.{tells_left, tells_right, tells_then, tells_of}
use Rattle.const_expr.proofs.Numbered.{form_same}
use Rattle.decls_declarators.proofs.Verdicts.{then_fine, then_tells, both_fine}
use Rattle.typing_declarations.specs.declared.object_effects.ObjectEffect.{ObjectEffect}
use Rattle.typing_declarations.specs.declared.object_effects.ObjectEffect.TheVariants as effect
use Rattle.typing_declarations.specs.Views.{effects_of}
use Rattle.typing_declarations.specs.inside.Effects.{begun_at, behind, first_values, effect_in, object_typed, Does, Leaves}
use Rattle.typing_declarations.proofs.Finished.{behind_finished}

-- ---- static storage

unless_same : (t : List (List ℕ)) (s : Scope) (k : Bool) (e : Tree) → form_unless k s e ≡ form_unless k (with_texts t s) e
unless_same t s true e = refl
unless_same t s false e = form_same t s.literals s e

mutual
  parts_same : (t : List (List ℕ)) (s : Scope) (ty : IntType) (w : Wanted) (i : Init) → constant_parts s ty w i ≡ constant_parts (with_texts t s) ty w i
  parts_same t s ty w init_hole = refl
  parts_same t s ty w (one_init e) = unless_same t s (takes_text ty w && is_text e) e
  parts_same t s ty w (braced_init at parts) = ap (parts_unless (takes_text ty w && is_some (text_alone parts))) (all_same t s ty (part_wanted w) parts)

  all_same : (t : List (List ℕ)) (s : Scope) (ty : IntType) (w : Wanted) (is : Inits) → all_constant s ty w is ≡ all_constant (with_texts t s) ty w is
  all_same t s ty w no_inits = refl
  all_same t s ty w (and_init i is) = ap (λ v. each v (all_constant s ty w is)) (parts_same t s ty w i) ∙ ap (λ v. each (constant_parts (with_texts t s) ty w i) v) (all_same t s ty w is)

abbrev with_first : Scope → DeclaredType → ℕ → Init → program.Initialiser → Verdict typed.Effects
with_first s u n i x = then_check (values (past_init s i) (typed.element_of u) (typed.lengths_of u) x) (first_values n)

abbrev of_object : Scope → Pos → DeclaredType → Init → Verdict program.Initialiser
of_object s at u i = initialiser s at (typed.element_of u) (typed.wanted_by u) true i

abbrev constant_of : Scope → DeclaredType → Init → Verdict (Unit {0})
constant_of s u i = constant_parts s (typed.element_of u) (typed.wanted_by u) i

-- of the element and the wanted form as the code holds them
pub constant_as : (s : Scope) (u : DeclaredType) (e : IntType) (w : Wanted) (i : Init) → e ≡ typed.element_of u → w ≡ typed.wanted_by u → constant_parts s e w i ≡ constant_parts s (typed.element_of u) (typed.wanted_by u) i
constant_as s u e w i p q = ap (λ k. constant_parts s k w i) p ∙ ap (λ k. constant_parts s (typed.element_of u) k i) q

abbrev behind_parts : Scope → Pos → DeclaredType → ℕ → Init → Unit {0} → Verdict typed.Effects
behind_parts s at u n i x = then_check (of_object s at u i) (with_first s u n i)

pub first_read : (t : List (List ℕ)) (s : Scope) (at : Pos) (u : DeclaredType) (n : ℕ) (i : Init) (x : program.Initialiser) → constant_of s u i ≡ fine tt → of_object (with_texts t s) at u i ≡ fine x →
    typed.static_values (begun_at (with_texts t s) at u) n i ≡ with_first (with_texts t s) u n i x
first_read t s at u n i x f g =
    then_fine (constant_of (with_texts t s) u i) tt (behind_parts (with_texts t s) at u n i) (sym (parts_same t s (typed.element_of u) (typed.wanted_by u) i) ∙ f) ∙ then_fine (of_object (with_texts t s) at u i) x (with_first (with_texts t s) u n i) g

pub first_form : (t : List (List ℕ)) (s : Scope) (at : Pos) (u : DeclaredType) (n : ℕ) (i : Init) (r : Refusal) → IsOf r (constant_of s u i) → Tells r (typed.static_values (begun_at (with_texts t s) at u) n i)
first_form t s at u n i r h =
    tells_then r (constant_of (with_texts t s) u i) (behind_parts (with_texts t s) at u n i) (subst (λ v. Tells r v) (parts_same t s (typed.element_of u) (typed.wanted_by u) i) (tells_of r (constant_of s u i) h))

pub first_typing : (t : List (List ℕ)) (s : Scope) (at : Pos) (u : DeclaredType) (n : ℕ) (i : Init) (r : Refusal) → constant_of s u i ≡ fine tt → Tells r (of_object (with_texts t s) at u i) →
    Tells r (typed.static_values (begun_at (with_texts t s) at u) n i)
first_typing t s at u n i r f h =
    then_tells r (constant_of (with_texts t s) u i) tt (behind_parts (with_texts t s) at u n i) (sym (parts_same t s (typed.element_of u) (typed.wanted_by u) i) ∙ f) (tells_then r (of_object (with_texts t s) at u i) (with_first (with_texts t s) u n i) h)

-- ---- the effects that are appended

pub nothing_done : (v : Verdict typed.Effects) (before : List Statement) (first : List Initial) → v ≡ fine typed.no_effects → Does v before before first first
nothing_done v before first e = ([], [], sym (append-nil before), sym (append-nil first), e)

pub one_statement : (v : Verdict typed.Effects) (before after : List Statement) (first : List Initial) (x : Statement) → after ≡ before ++ x ∷ [] → v ≡ fine (effects_of (x ∷ []) []) → Does v before after first first
one_statement v before after first x h e = (x ∷ [], [], h, sym (append-nil first), e)

pub one_initial : (v : Verdict typed.Effects) (before : List Statement) (first later : List Initial) (j : Initial) → later ≡ first ++ j ∷ [] → v ≡ fine (effects_of [] (j ∷ [])) → Does v before before first later
one_initial v before first later j h e = ([], j ∷ [], sym (append-nil before), h, e)

pub values_put : (s : Scope) (u : DeclaredType) (e : ObjectEffect) (n : ℕ) (x : Initialiser) (j : Initial) (before : List Statement) (first later : List Initial) → e ≡ effect.First n x → j.static_number ≡ n →
    values s (typed.element_of u) (typed.lengths_of u) (initialiser_of x) ≡ fine j.values.items → later ≡ first ++ j ∷ [] → Does (effect_in s u e) before before first later
values_put s u e n x j before first later i k v l =
    one_initial (effect_in s u e) before first later j l
    (ap (effect_in s u) i ∙ then_fine (values s (typed.element_of u) (typed.lengths_of u) (initialiser_of x)) j.values.items (first_values n) v ∙ ap (λ m. first_values m j.values.items) (sym k))

-- ---- one that has begun

same_as : (b : typed.Begun) (what : program.Storage) (o : Option Init) → typed.initialised_as b what o ≡ typed.initialised_as (begun_at b.scope b.at b.type) what o
same_as b (program.literal n) o = refl
same_as b (program.static n) None = refl
same_as b (program.static n) (Some i) = refl
same_as b (program.automatic n) None = refl
same_as b (program.automatic n) (Some i) = refl
same_as b (program.parameter n) o = refl

abbrev effect_of : Scope → typed.Begun → Verdict typed.Effects
effect_of s b = typed.initialised_as (begun_at s b.at b.type) b.what b.init

abbrev together : typed.Effects → Scope → Verdict typed.Declared
together e inner = fine (record { scope = inner; effects = e })

begun_same : (s : Scope) (b : typed.Begun) → b.scope ≡ s → typed.initialised b ≡ effect_of s b
begun_same s b z = same_as b b.what b.init ∙ ap (λ k. effect_of k b) z

effect_is : (t : List (List ℕ)) (s next : Scope) (b : typed.Begun) (e : ObjectEffect) (literals : List ℕ) → b.scope ≡ with_texts t s → effect_of (with_texts t s) b ≡ effect_in (behind (with_texts t s) b.init) b.type e →
    typed.finished b ≡ fine (with_texts t next) → literals ≡ next.literals → typed.initialised b ≡ effect_in (seen t literals s) b.type e
effect_is t s next b e literals z g f l = begun_same (with_texts t s) b z ∙ g ∙ ap (λ k. effect_in k b.type e) (behind_finished t s next b z f ∙ ap (λ k. seen t k s) (sym l))

pub object_left : (t : List (List ℕ)) (s next : Scope) (b : typed.Begun) (e : ObjectEffect) (literals : List ℕ) (before after : List Statement) (first later : List Initial) → b.scope ≡ with_texts t s →
    effect_of (with_texts t s) b ≡ effect_in (behind (with_texts t s) b.init) b.type e → typed.finished b ≡ fine (with_texts t next) → literals ≡ next.literals → Does (effect_in (seen t literals s) b.type e) before after first later →
    Leaves (object_typed b) (with_texts t next) before after first later
object_left t s next b e literals before after first later z g f l d =
    (d.0, d.1, d.2, d.3, both_fine (typed.initialised b) (typed.finished b) (effects_of d.0 d.1) (with_texts t next) together (effect_is t s next b e literals z g f l ∙ d.4) f)

pub effect_told : (t : List (List ℕ)) (s : Scope) (b : typed.Begun) (r : Refusal) → b.scope ≡ with_texts t s → Tells r (effect_of (with_texts t s) b) → Tells r (object_typed b)
effect_told t s b r z h = tells_left r (typed.initialised b) (typed.finished b) together (subst (λ v. Tells r v) (sym (begun_same (with_texts t s) b z)) h)

pub finished_told : (b : typed.Begun) (r : Refusal) → Tells r (typed.finished b) → Tells r (object_typed b)
finished_told b r h = tells_right r (typed.initialised b) (typed.finished b) together h

pub put_told : (t : List (List ℕ)) (s next : Scope) (b : typed.Begun) (e : ObjectEffect) (literals : List ℕ) (r : Refusal) → b.scope ≡ with_texts t s → effect_of (with_texts t s) b ≡ effect_in (behind (with_texts t s) b.init) b.type e →
    typed.finished b ≡ fine (with_texts t next) → literals ≡ next.literals → Tells r (effect_in (seen t literals s) b.type e) → Tells r (object_typed b)
put_told t s next b e literals r z g f l h = tells_left r (typed.initialised b) (typed.finished b) together (subst (λ v. Tells r v) (sym (effect_is t s next b e literals z g f l)) h)
