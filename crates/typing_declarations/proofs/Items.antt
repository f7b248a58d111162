-- Declarators in order, as far as they are read.
use Rattle.std.proofs.Common.{◌≡◌, ℕ, ◌+◌, ◌<◌, ◌≤◌, List, [], ◌∷◌, ◌++◌, drop, get_or, length, map, refl, sym, ap, ◌∙◌, subst, append_assoc, append-nil, inl, inr}
use Rattle.std.proofs.lemmas.List.{drop_all}
use Rattle.srcset.specs.declared.refusal.Refusal.{Refusal}
use Rattle.srcset.specs.declared.refusal.Refusal.TheVariants.{Memory, At, Told}
use Rattle.srcset.specs.declared.refusal.Pos.{Pos}
use Rattle.tree.specs.declared.declaration.Item.{Item}
use Rattle.tree.specs.Tree.{Tree, ParameterTree, ItemTree, object, function, DeclarationTree, assertion}
use Rattle.tree.specs.View.{item_of}
use Rattle.typed_ast.specs.declared.statements.Statement.{Statement}
use Rattle.typed_ast.specs.View.{statement_of}
use Rattle.typing_units.specs.declared.first_values.Initial.{Initial}
use Rattle.typing_units.specs.Views.{initial_of}
use Rattle.typing_spec.specs.Verdict.{Verdict, Violations, fine, broken, none, some, both, then_check, violations, IfFine}
use Rattle.typing_spec.specs.Scope.{Scope}
use Rattle.typing_spec.specs.Specifiers.{BaseType}
use Rattle.typing_spec.specs.Linkage.{StorageClass}
use Rattle.typing_spec.specs.Declarations as typed
use Rattle.typing_expressions.specs.Refused.{Tells}
use Rattle.typing_expressions.proofs.Verdicts.{tells_then}
use Rattle.decls_declarators.proofs.Verdicts.{next_of, then_fine}
use Rattle.typing_declarations.specs.Views.{effects_of, declared_of}
use Rattle.typing_declarations.specs.inside.Effects.{object_typed, without_effects, item_typed, Leaves, Goes}

abbrev together : typed.Effects → Scope → Verdict typed.Declared
together e inner = fine (record { scope = inner; effects = e })

-- the declarators left after one, with its effects before theirs
abbrev rest_of : StorageClass → BaseType → List ItemTree → typed.Declared → Verdict typed.Declared
rest_of c b is d = then_check (typed.items_typed d.scope c b is) (typed.before_others d.effects)

abbrev behind_object : StorageClass → BaseType → List ItemTree → typed.Begun → Verdict typed.Declared
behind_object c b is o = both (typed.initialised o) (then_check (typed.finished o) (λ inner. typed.items_typed inner c b is)) typed.before_others

no_others : (v : Verdict typed.Declared) → v ≡ then_check v (typed.before_others typed.no_effects)
no_others (fine d) = refl
no_others (broken vs) = refl

-- ---- one that is fine

both_fine : (v : Verdict typed.Effects) (w : Verdict Scope) (c : StorageClass) (b : BaseType) (is : List ItemTree) →
    IfFine (λ d. both v (then_check w (λ inner. typed.items_typed inner c b is)) typed.before_others ≡ rest_of c b is d) (both v w together)
both_fine (fine a) (fine s) c b is = refl
both_fine (fine a) (broken ws) c b is = tt
both_fine (broken vs) w c b is = tt

object_fine : (v : Verdict typed.Begun) (c : StorageClass) (b : BaseType) (is : List ItemTree) → IfFine (λ d. then_check v (behind_object c b is) ≡ rest_of c b is d) (then_check v object_typed)
object_fine (fine o) c b is = both_fine (typed.initialised o) (typed.finished o) c b is
object_fine (broken vs) c b is = tt

function_fine : (v : Verdict Scope) (c : StorageClass) (b : BaseType) (is : List ItemTree) → IfFine (λ d. then_check v (λ inner. typed.items_typed inner c b is) ≡ rest_of c b is d) (then_check v without_effects)
function_fine (fine s) c b is = no_others (typed.items_typed s c b is)
function_fine (broken vs) c b is = tt

abbrev Reads : Scope → StorageClass → BaseType → ItemTree → List ItemTree → typed.Declared → Type 0
Reads s c b i is d = typed.items_typed s c b (i ∷ is) ≡ rest_of c b is d

item_reads : (s : Scope) (c : StorageClass) (b : BaseType) (i : ItemTree) (is : List ItemTree) → IfFine (Reads s c b i is) (item_typed s c b i)
item_reads s c b (object at n sizes init) is = object_fine (typed.begun s c b at n sizes init) c b is
item_reads s c b (function at n ps) is = function_fine (typed.function_at s.level s c b at n ps) c b is

item_fine : (s : Scope) (c : StorageClass) (b : BaseType) (i : ItemTree) (is : List ItemTree) (d : typed.Declared) → item_typed s c b i ≡ fine d → Reads s c b i is d
item_fine s c b i is d e = subst (IfFine (Reads s c b i is)) e (item_reads s c b i is)

-- ---- one that is broken

fine_told : {A B : Type 0} (r : Refusal) (a : A) (w : Verdict B) → Tells r (fine a) → Tells r w
fine_told Memory a w h = tt
fine_told (At code at) a w h = absurd h
fine_told (Told code at text) a w h = absurd h

abbrev broken_whole : Violations → Verdict typed.Declared
broken_whole vs = broken vs

left_told : (r : Refusal) (vs ws : Violations) → Tells r (broken_whole (some vs none)) → Tells r (broken_whole (some vs ws))
left_told Memory vs ws h = tt
left_told (At code at) vs ws (inl h) = inl h
left_told (At code at) vs ws (inr h) = absurd h
left_told (Told code at text) vs ws h = absurd h

both_told : (r : Refusal) (v : Verdict typed.Effects) (w : Verdict Scope) (c : StorageClass) (b : BaseType) (is : List ItemTree) → Tells r (both v w together) →
    Tells r (both v (then_check w (λ inner. typed.items_typed inner c b is)) typed.before_others)
both_told r (fine a) (fine s) c b is h = fine_told r (record { scope = s; effects = a }) (then_check (typed.items_typed s c b is) (typed.before_others a)) h
both_told r (fine a) (broken ws) c b is h = h
both_told r (broken vs) (fine s) c b is h = left_told r vs (violations (typed.items_typed s c b is)) h
both_told r (broken vs) (broken ws) c b is h = h

object_told : (r : Refusal) (v : Verdict typed.Begun) (c : StorageClass) (b : BaseType) (is : List ItemTree) → Tells r (then_check v object_typed) → Tells r (then_check v (behind_object c b is))
object_told r (fine o) c b is h = both_told r (typed.initialised o) (typed.finished o) c b is h
object_told r (broken vs) c b is h = h

function_told : (r : Refusal) (v : Verdict Scope) (c : StorageClass) (b : BaseType) (is : List ItemTree) → Tells r (then_check v without_effects) → Tells r (then_check v (λ inner. typed.items_typed inner c b is))
function_told r (fine s) c b is h = fine_told r (record { scope = s; effects = typed.no_effects }) (typed.items_typed s c b is) h
function_told r (broken vs) c b is h = h

item_told : (r : Refusal) (s : Scope) (c : StorageClass) (b : BaseType) (i : ItemTree) (is : List ItemTree) → Tells r (item_typed s c b i) → Tells r (typed.items_typed s c b (i ∷ is))
item_told r s c b (object at n sizes init) is h = object_told r (typed.begun s c b at n sizes init) c b is h
item_told r s c b (function at n ps) is h = function_told r (typed.function_at s.level s c b at n ps) c b is h

-- ---- as far as they are read

more : {X Y : Type 0} (f : X → Y) (xs ys : List X) (zs : List Y) → map f xs ++ (map f ys ++ zs) ≡ map f (xs ++ ys) ++ zs
more f [] ys zs = refl
more f (x ∷ xs) ys zs = ap (λ l. f x ∷ l) (more f xs ys zs)

twice : (v : Verdict typed.Declared) (xs ys : List Statement) (js ks : List Initial) →
    then_check (then_check v (typed.before_others (effects_of ys ks))) (typed.before_others (effects_of xs js)) ≡ then_check v (typed.before_others (effects_of (xs ++ ys) (js ++ ks)))
twice (broken vs) xs ys js ks = refl
twice (fine d) xs ys js ks =
    ap (λ l. fine (record { scope = d.scope; effects = record { statements = l; initial = map initial_of js ++ (map initial_of ks ++ d.effects.initial) } })) (more statement_of xs ys d.effects.statements)
    ∙ ap (λ l. fine (record { scope = d.scope; effects = record { statements = map statement_of (xs ++ ys) ++ d.effects.statements; initial = l } })) (more initial_of js ks d.effects.initial)

abbrev left_of : Scope → StorageClass → BaseType → List Item → Verdict typed.Declared
left_of s c b is = typed.items_typed s c b (map item_of is)

pub goes_first : (v : Verdict typed.Declared) (before : List Statement) (first : List Initial) → Goes v v before before first first
goes_first v before first = ([], [], sym (append-nil before), sym (append-nil first), no_others v)

pub goes_on : (whole : Verdict typed.Declared) (s next : Scope) (c : StorageClass) (b : BaseType) (is : List Item) (k : ℕ) (i : Item) (before now after : List Statement) (first then_first later : List Initial) → k < length is →
    i ≡ get_or is k i → Goes whole (left_of s c b (drop k is)) before now first then_first → Leaves (item_typed s c b (item_of i)) next now after then_first later → Goes whole (left_of next c b (drop (k + 1) is)) before after first later
goes_on whole s next c b is k i before now after first then_first later h e g l = (
  g.0 ++ l.0,
  g.1 ++ l.1,
  l.2 ∙ ap (λ z. z ++ l.0) g.2 ∙ append_assoc before g.0 l.0,
  l.3 ∙ ap (λ z. z ++ l.1) g.3 ∙ append_assoc first g.1 l.1,
  g.4 ∙ ap (λ z. then_check (left_of s c b z) (typed.before_others (effects_of g.0 g.1))) (next_of is k i h e)
      ∙ ap (λ v. then_check v (typed.before_others (effects_of g.0 g.1))) (item_fine s c b (item_of i) (map item_of (drop (k + 1) is)) (declared_of next l.0 l.1) l.4)
      ∙ twice (left_of next c b (drop (k + 1) is)) g.0 l.0 g.1 l.1,
)

last_one : (s : Scope) (xs : List Statement) (js : List Initial) → fine (record { scope = s; effects = typed.and_effects (effects_of xs js) typed.no_effects }) ≡ fine (declared_of s xs js)
last_one s xs js =
    ap (λ l. fine (record { scope = s; effects = record { statements = l; initial = map initial_of js ++ [] } })) (append-nil (map statement_of xs))
    ∙ ap (λ l. fine (record { scope = s; effects = record { statements = map statement_of xs; initial = l } })) (append-nil (map initial_of js))

pub goes_last : (whole : Verdict typed.Declared) (s : Scope) (c : StorageClass) (b : BaseType) (is : List Item) (k : ℕ) (before after : List Statement) (first later : List Initial) → length is ≤ k →
    Goes whole (left_of s c b (drop k is)) before after first later → Leaves whole s before after first later
goes_last whole s c b is k before after first later h g = (
  g.0,
  g.1,
  g.2,
  g.3,
  g.4 ∙ ap (λ z. then_check (left_of s c b z) (typed.before_others (effects_of g.0 g.1))) (drop_all k is h) ∙ last_one s g.0 g.1,
)

pub goes_told : (whole : Verdict typed.Declared) (s : Scope) (c : StorageClass) (b : BaseType) (is : List Item) (k : ℕ) (i : Item) (r : Refusal) (before now : List Statement) (first then_first : List Initial) → k < length is →
    i ≡ get_or is k i → Goes whole (left_of s c b (drop k is)) before now first then_first → Tells r (item_typed s c b (item_of i)) → Tells r whole
goes_told whole s c b is k i r before now first then_first h e g t =
    subst (λ v. Tells r v) (ap (λ z. then_check (left_of s c b z) (typed.before_others (effects_of g.0 g.1))) (sym (next_of is k i h e)) ∙ sym g.4)
    (tells_then r (typed.items_typed s c b (item_of i ∷ map item_of (drop (k + 1) is))) (typed.before_others (effects_of g.0 g.1)) (item_told r s c b (item_of i) (map item_of (drop (k + 1) is)) t))

-- ---- the effects before them, and declarators without effects

pub leaves_same : (v w : Verdict typed.Declared) (s : Scope) (before after : List Statement) (first later : List Initial) → v ≡ w → Leaves w s before after first later → Leaves v s before after first later
leaves_same v w s before after first later e l = (l.0, l.1, l.2, l.3, e ∙ l.4)

pub leaves_nothing : (v : Verdict typed.Declared) (s : Scope) (before : List Statement) (first : List Initial) → v ≡ fine (record { scope = s; effects = typed.no_effects }) → Leaves v s before before first first
leaves_nothing v s before first e = ([], [], sym (append-nil before), sym (append-nil first), e)

pub function_left : (s next : Scope) (c : StorageClass) (b : BaseType) (i : ItemTree) (at : Pos) (n : ℕ) (ps : List ParameterTree) (before : List Statement) (first : List Initial) → i ≡ function at n ps →
    typed.function_at s.level s c b at n ps ≡ fine next → Leaves (item_typed s c b i) next before before first first
function_left s next c b i at n ps before first e f =
    leaves_nothing (item_typed s c b i) next before first (ap (item_typed s c b) e ∙ then_fine (typed.function_at s.level s c b at n ps) next without_effects f)

pub function_refused : (r : Refusal) (s : Scope) (c : StorageClass) (b : BaseType) (i : ItemTree) (at : Pos) (n : ℕ) (ps : List ParameterTree) → i ≡ function at n ps → Tells r (typed.function_at s.level s c b at n ps) →
    Tells r (item_typed s c b i)
function_refused r s c b i at n ps e h = subst (λ k. Tells r (item_typed s c b k)) (sym e) (tells_then r (typed.function_at s.level s c b at n ps) without_effects h)

pub assertion_left : (s next : Scope) (d : DeclarationTree) (at : Pos) (e : Tree) (text : ℕ) (before : List Statement) (first : List Initial) → d ≡ assertion at e text → typed.asserted s at e ≡ fine next →
    Leaves (typed.declaration_typed s d) next before before first first
assertion_left s next d at e text before first g f =
    leaves_nothing (typed.declaration_typed s d) next before first (ap (typed.declaration_typed s) g ∙ then_fine (typed.asserted s at e) next without_effects f)
