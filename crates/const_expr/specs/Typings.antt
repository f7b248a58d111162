-- The definition's values that the code's types and constants represent.
use Rattle.std.specs.Prelude.{Bool, true, false, not, ℕ, ℤ, pos, List, [], ◌∷◌, Option, Some, None}
use Rattle.const_expr.specs.declared.specifiers.BaseType.{BaseType}
use Rattle.const_expr.specs.declared.specifiers.WordSet.{WordSet}
use Rattle.const_expr.specs.declared.type_names.NamedType.{NamedType}
use Rattle.const_expr.specs.declared.constants.Constant.{Constant}
use Rattle.typing_spec.specs.Types as type
use Rattle.typing_spec.specs.Expressions as expressions
use Rattle.typing_spec.specs.Specifiers as typed
use Rattle.typing_spec.specs.Scope.{Scope, tag_in}
use Rattle.typing_spec.specs.Verdict.{Verdict, fine, refuse_if}
use Rattle.srcset.specs.declared.code.Code.TheVariants as code
use Rattle.srcset.specs.declared.refusal.Pos.{Pos}
use Rattle.tree.specs.declared.expression.TypeSpecifier.{TypeSpecifier}
use Rattle.tree.specs.declared.expression.TypeSpecifier.TheVariants as specifier

abbrev pub base_type_of : BaseType → typed.BaseType
base_type_of b = record { type = b.named; constant = b.constant }

abbrev pub word_set_of : WordSet → typed.WordSet
word_set_of s = record { words = s.words.now; type = s.named }

abbrev pub is_empty : {A : Type 0} → List A → Bool
is_empty [] = true
is_empty (x ∷ xs) = false

abbrev pub named_of : NamedType → type.ObjectType
named_of n = record { element = n.element; constant = n.constant; lengths = n.lengths.items }

-- none for void
abbrev pub option_named : Option NamedType → Option type.ObjectType
option_named None = None
option_named (Some n) = Some (named_of n)

abbrev pub constant_of : Constant → expressions.Constant
constant_of c = record { type = c.ty; v = c.value }

-- a natural number as a whole one
abbrev pub natural : ℕ → ℤ
natural n = pos n

-- one specifier's tag, if it has one (6.7.2.3p3)
abbrev pub tag_of : Scope → Pos → TypeSpecifier → Verdict (Unit {0})
tag_of s at specifier.Const = fine tt
tag_of s at (specifier.Word w) = fine tt
tag_of s at (specifier.Enum t) = refuse_if (not (typed.is_complete (tag_in s.tags t))) code.BadEnumTag at
