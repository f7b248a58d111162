-- Parts of lists of specifiers and of enumerators.
use Rattle.std.specs.Prelude.{ℕ, false, true, ℤ, pos, List, [], ◌∷◌, Option}
use Rattle.srcset.specs.declared.refusal.Pos.{Pos}
use Rattle.tree.specs.Tree.{EnumeratorTree, SpecifierTree, extern_specifier, static_specifier, plain_specifier, enumerators_specifier}
use Rattle.typing_spec.specs.Verdict.{Verdict, fine, then_check, provided}
use Rattle.typing_spec.specs.Scope.{Scope, BuiltIn, an_enumerator, no_linkage, mentioned, defined, with_name, with_tag}
use Rattle.typing_spec.specs.Linkage.{StorageClass, no_class, by_extern, by_static, agreed, as_built_in}
use Rattle.typing_spec.specs.Declarations as typed

-- the storage-class specifiers before others
abbrev pub class_before : StorageClass → List StorageClass
class_before no_class = []
class_before by_extern = by_extern ∷ []
class_before by_static = by_static ∷ []

-- the value of an enumerator whose name is fresh, and the scope after it
abbrev pub enumerator_read : Scope → ℤ → EnumeratorTree → Verdict ℤ
enumerator_read s next e = provided (typed.fresh_enumerator s e.at e.name) (typed.value_of_enumerator s next e.at e.value)

abbrev pub behind_enumerator : Scope → EnumeratorTree → ℤ → Scope
behind_enumerator s e v = with_name (typed.past_option s e.value) e.name (an_enumerator v) no_linkage defined

-- a name of a built-in is no enumerator's
abbrev pub as_enumerator : Pos → Option BuiltIn → Verdict (Unit {0})
as_enumerator at b = as_built_in at (agreed (an_enumerator (pos 0)) no_linkage mentioned) b

-- the enumerators of a tag
abbrev pub tag_enumerated : Scope → ℕ → List EnumeratorTree → Verdict Scope
tag_enumerated s t es = then_check (typed.enumerators (with_tag s t false) (pos 0) es) (λ inner. fine (with_tag inner t true))

-- the enumerators of a specifier
abbrev pub list_read : Scope → Pos → SpecifierTree → Verdict Scope
list_read s at extern_specifier = fine s
list_read s at static_specifier = fine s
list_read s at (plain_specifier t) = fine s
list_read s at (enumerators_specifier tag list) = typed.enumerated s at tag list
