-- The definition's values that the code's types of linkage represent.
use Rattle.std.specs.Prelude.{Bool, false, Option, Some, None}
use Rattle.typed_ast.specs.declared.types.ObjectType.{ObjectType}
use Rattle.typed_ast.specs.declared.types.DeclaredType.{DeclaredType}
use Rattle.typed_ast.specs.View.{object_type_of, declared_type_of}
use Rattle.typing_scopes.specs.declared.bindings.Meaning.{Meaning}
use Rattle.typing_scopes.specs.Scopes.{meaning_of, linkage_of, state_of}
use Rattle.decls_linkage.specs.declared.rules.StorageClass.{StorageClass}
use Rattle.decls_linkage.specs.declared.rules.StorageClass.TheVariants as class
use Rattle.decls_linkage.specs.declared.redeclarations.Agreed.{Agreed}
use Rattle.typing_spec.specs.Types as type
use Rattle.typing_spec.specs.Scope as scope
use Rattle.typing_spec.specs.Linkage as typed

abbrev pub class_of : StorageClass → typed.StorageClass
class_of class.None = typed.no_class
class_of class.Extern = typed.by_extern
class_of class.Static = typed.by_static

abbrev pub option_object : Option ObjectType → Option type.ObjectType
option_object None = None
option_object (Some t) = Some (object_type_of t)

abbrev pub option_declared : Option DeclaredType → Option type.DeclaredType
option_declared None = None
option_declared (Some t) = Some (declared_type_of t)

abbrev pub option_meaning : Option Meaning → Option scope.Meaning
option_meaning None = None
option_meaning (Some m) = Some (meaning_of m)

-- whether an array has such elements
abbrev pub are_elements : Option type.ObjectType → type.ObjectType → Bool
are_elements None element = false
are_elements (Some t) element = type.same_object t element

abbrev pub has_elements : type.ObjectType → type.ObjectType → Bool
has_elements array element = are_elements (type.element_type array) element

abbrev pub agreed_of : Agreed → typed.Agreed
agreed_of a = record { meaning = meaning_of a.meaning; linkage = linkage_of a.linkage; state = state_of a.state }
