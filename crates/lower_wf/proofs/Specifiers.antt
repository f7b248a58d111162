-- Specifiers and declarators: the scope after them, and types of a size (6.7.2, 6.7.6).
use Rattle.std.proofs.Common.{◌≡◌, ◌<◌, ℕ, ◌*◌, ℤ, pos, ◌+ℤ◌, Bool, true, false, not, List, [], ◌∷◌, Option, Some, None, refl, arith}
use Rattle.std.proofs.lemmas.Bool.{true≢false}
use Rattle.srcset.specs.declared.code.Code.TheVariants as code
use Rattle.srcset.specs.declared.refusal.Pos.{Pos}
use Rattle.ctypes.specs.declared.types.IntType.{IntType}
use Rattle.ctypes.specs.declared.types.IntType.TheVariants as ty
use Rattle.ctypes.specs.Types.{bytes_of, is_value_of}
use Rattle.tree.specs.Tree.{Tree, EnumeratorTree, SpecifierTree, extern_specifier, static_specifier, plain_specifier, enumerators_specifier, ItemTree}
use Rattle.typing_spec.specs.Types.{complete, unknown_size, elements_in}
use Rattle.typing_spec.specs.Verdict.{Verdict, fine, then_check, provided, refuse_if, IfFine}
use Rattle.typing_spec.specs.Scope.{Scope, an_enumerator, no_linkage, defined, tag_in, with_name, with_tag, with_literals, strings}
use Rattle.typing_spec.specs.Specifiers.{BaseType}
use Rattle.typing_spec.specs.Expressions.{constant_value, positive}
use Rattle.typing_spec.specs.Declarators as declarators
use Rattle.typing_spec.specs.Declarators.{Sizes, no_sizes, outermost, declared_type, sizes_in, inner_sizes, strings_in_size, size_of_array}
use Rattle.typing_spec.specs.Declarations as rules
use Rattle.typing_spec.specs.Declarations.{Specified}
use Rattle.lower_wf.proofs.Verdicts.{then_any, then_some, both_some, both_any, part, tested, more_of, anything}
use Rattle.lower_wf.proofs.Ground.{Setting, Sized, SizedType, few_bytes, Names}
use Rattle.lower_wf.proofs.Typings.{IsPositive, positive_good, HasElements, product_positive, sized_part}
use Rattle.lower_wf.proofs.Scopes.{Grown, stays, onwards, literals_grow, name_grows, tag_grows}

-- ---- enumerators are values of int (6.7.2.2p2)

abbrev IsInt : ℤ → Type 0
IsInt v = is_value_of ty.Int v ≡ true

not_false : (b : Bool) → not b ≡ false → b ≡ true
not_false true h = refl
not_false false h = absurd (true≢false h)

fits_int_good : (at : Pos) (v : ℤ) → IfFine IsInt (rules.fits_int at v)
fits_int_good at v = tested IsInt (not (is_value_of ty.Int v)) code.EnumeratorOutOfRange at (fine v) (λ e. not_false (is_value_of ty.Int v) e)

value_good : (s : Scope) (next : ℤ) (at : Pos) (e : Option Tree) → IfFine IsInt (rules.value_of_enumerator s next at e)
value_good s next at None = fits_int_good at next
value_good s next at (Some e) = then_any IsInt (constant_value s e) (λ c. rules.fits_int at c.v) (λ c. fits_int_good at c.v)

module _ (W : Setting) where
  -- a later scope, whose names denote entities of the program
  abbrev pub Leads : Scope → Scope → Type 0
  Leads s u = Grown s u × (Names W s → Names W u)

  pub leads_on : (s t u : Scope) → Leads s t → Leads t u → Leads s u
  leads_on s t u g h = (onwards s t u g.0 h.0, λ N. h.1 (g.1 N))

  pub leads_self : (s : Scope) → Leads s s
  leads_self s = (stays s, λ N. N)

  pub leads_literals : (s : Scope) (more : List ℕ) → Leads s (with_literals s more)
  leads_literals s more = (literals_grow s more, λ N. N)

  further : (s t : Scope) (v : Verdict Scope) → Leads s t → IfFine (Leads t) v → IfFine (Leads s) v
  further s t v g h = more_of (Leads t) (Leads s) v (λ u k. leads_on s t u g k) h

  past_more : (s : Scope) (e : Option Tree) → Leads s (rules.past_option s e)
  past_more s None = leads_self s
  past_more s (Some e) = (literals_grow s (strings e), λ N. N)

  enumerators_more : (s : Scope) (next : ℤ) (es : List EnumeratorTree) → IfFine (Leads s) (rules.enumerators s next es)
  enumerators_more s next [] = leads_self s
  enumerators_more s next (e ∷ es) =
      then_some IsInt (Leads s) (provided (rules.fresh_enumerator s e.at e.name) (rules.value_of_enumerator s next e.at e.value)) _
      (part IsInt (rules.fresh_enumerator s e.at e.name) (rules.value_of_enumerator s next e.at e.value) (value_good s next e.at e.value)) (λ v h.
      let t = rules.past_option s e.value in
      let u = with_name t e.name (an_enumerator v) no_linkage defined in
      further s u (rules.enumerators u (v +ℤ pos 1) es) (leads_on s t u (past_more s e.value) (name_grows t e.name (an_enumerator v) no_linkage defined, λ N. (N.0, N.1, (h, N.2))))
      (enumerators_more u (v +ℤ pos 1) es))

  enumerated_more : (s : Scope) (at : Pos) (tag : Option ℕ) (es : List EnumeratorTree) → IfFine (Leads s) (rules.enumerated s at tag es)
  enumerated_more s at None es = enumerators_more s (pos 0) es
  enumerated_more s at (Some t) es =
      let inside = with_tag s t false in
      part (Leads s) (rules.is_fresh_tag s.level at (tag_in s.tags t)) (then_check (rules.enumerators inside (pos 0) es) (λ u. fine (with_tag u t true)))
      (then_some (Leads inside) (Leads s) (rules.enumerators inside (pos 0) es) (λ u. fine (with_tag u t true)) (enumerators_more inside (pos 0) es) (λ u g.
      leads_on s u (with_tag u t true) (leads_on s inside u (tag_grows s t false, λ N. N) g) (tag_grows u t true, λ N. N)))

  lists_more : (s : Scope) (at : Pos) (ss : List SpecifierTree) → IfFine (Leads s) (rules.with_lists s at ss)
  lists_more s at [] = leads_self s
  lists_more s at (extern_specifier ∷ ss) = lists_more s at ss
  lists_more s at (static_specifier ∷ ss) = lists_more s at ss
  lists_more s at (plain_specifier t ∷ ss) = lists_more s at ss
  lists_more s at (enumerators_specifier tag list ∷ ss) =
      then_some (Leads s) (Leads s) (rules.enumerated s at tag list) (λ u. rules.with_lists u at ss) (enumerated_more s at tag list) (λ u g. further s u (rules.with_lists u at ss) g (lists_more u at ss))

  abbrev pub SaidIn : Scope → Specified → Type 0
  SaidIn s d = Leads s d.scope

  pub specified_more : (s : Scope) (at : Pos) (ss : List SpecifierTree) → IfFine (SaidIn s) (rules.specified s at ss)
  specified_more s at ss =
      then_some (Leads s) (SaidIn s) (rules.with_lists s at ss) _ (lists_more s at ss) (λ u g.
      both_any (λ b. Unit {0}) (SaidIn s) (rules.class_of at (rules.classes_of ss)) (rules.base_in u at (rules.lists_in ss) (rules.plain_of ss)) (λ c b. fine (record { class = c; base = b; scope = u }))
      (anything (rules.base_in u at (rules.lists_in ss) (rules.plain_of ss))) (λ c b x. g))

  pub specified_for_more : (s : Scope) (at : Pos) (ss : List SpecifierTree) (items : List ItemTree) → IfFine (SaidIn s) (rules.specified_for s at ss items)
  specified_for_more s at ss items =
      then_some (SaidIn s) (SaidIn s) (rules.specified s at ss) _ (specified_more s at ss) (λ d g. part (SaidIn s) (refuse_if (rules.declares_nothing ss items) code.DeclaresNothing at) (fine d) g)

-- ---- the types of declarators have a size (6.7.6.2)

abbrev pub SizesGood : Sizes → Type 0
SizesGood no_sizes = Unit {0}
SizesGood (outermost None ns) = HasElements ns
SizesGood (outermost (Some n) ns) = (0 < n) × HasElements ns

size_good : (s : Scope) (at : Pos) (e : Tree) → IfFine IsPositive (size_of_array s at e)
size_good s at e = then_any IsPositive (constant_value s e) (λ c. positive at c.v) (λ c. positive_good at c.v)

inner_good : (s : Scope) (at : Pos) (e : Option Tree) → IfFine IsPositive (declarators.inner_size s at e)
inner_good s at None = tt
inner_good s at (Some e) = size_good s at e

inners_good : (s : Scope) (at : Pos) (es : List (Option Tree)) → IfFine HasElements (inner_sizes s at es)
inners_good s at [] = omega arith
inners_good s at (e ∷ es) =
    both_some IsPositive HasElements HasElements (declarators.inner_size s at e) (inner_sizes (with_literals s (strings_in_size e)) at es) declarators.and_length (inner_good s at e) (inners_good (with_literals s (strings_in_size e)) at es)
    (λ n ns h k. product_positive n (elements_in ns) h k)

abbrev OuterGood : Option ℕ → Type 0
OuterGood None = Unit {0}
OuterGood (Some n) = 0 < n

outer_good : (s : Scope) (at : Pos) (e : Option Tree) → IfFine OuterGood (declarators.outer_size s at e)
outer_good s at None = tt
outer_good s at (Some e) = then_some IsPositive OuterGood (size_of_array s at e) (λ n. fine (Some n)) (size_good s at e) (λ n h. h)

both_sizes : (n : Option ℕ) (ns : List ℕ) → OuterGood n → HasElements ns → SizesGood (outermost n ns)
both_sizes None ns h k = k
both_sizes (Some n) ns h k = (h, k)

pub sizes_good : (s : Scope) (at : Pos) (es : List (Option Tree)) → IfFine SizesGood (sizes_in s at es)
sizes_good s at [] = tt
sizes_good s at (e ∷ es) =
    both_some OuterGood HasElements SizesGood (declarators.outer_size s at e) (inner_sizes (with_literals s (strings_in_size e)) at es) declarators.and_outermost (outer_good s at e) (inners_good (with_literals s (strings_in_size e)) at es)
    (λ n ns h k. both_sizes n ns h k)

pub number_sized : (t : IntType) (k : Bool) → Sized (declarators.object_type t k [])
number_sized t k = (omega arith, let e : bytes_of t * 1 ≡ bytes_of t = grind arith in omega (arith, e, few_bytes t))

pub of_sizes_good : (at : Pos) (t : IntType) (k : Bool) (z : Sizes) → SizesGood z → IfFine SizedType (declarators.of_sizes at t k z)
of_sizes_good at t k no_sizes h = number_sized t k
of_sizes_good at t k (outermost (Some n) ns) h =
    let type = declarators.object_type t k (n ∷ ns) in sized_part SizedType at type (fine (complete type)) (product_positive n (elements_in ns) h.0 h.1) (λ z. z)
of_sizes_good at t k (outermost None ns) h = let type = declarators.object_type t k ns in sized_part SizedType at type (fine (unknown_size type)) h (λ z. z)

base_good : (at : Pos) (t : Option IntType) (k : Bool) (z : Sizes) → SizesGood z → IfFine SizedType (declarators.with_base at t k z)
base_good at None k no_sizes h = tt
base_good at None k (outermost n ns) h = tt
base_good at (Some t) k z h = of_sizes_good at t k z h

pub declared_good : (s : Scope) (at : Pos) (b : BaseType) (sizes : List (Option Tree)) → IfFine SizedType (declared_type s at b sizes)
declared_good s at b sizes = then_some SizesGood SizedType (sizes_in s at sizes) (declarators.with_base at b.type b.constant) (sizes_good s at sizes) (λ z h. base_good at b.type b.constant z h)
