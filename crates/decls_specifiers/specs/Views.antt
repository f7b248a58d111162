-- The model of the code's specifiers.
use Rattle.decls_specifiers.specs.declared.declaration_specifiers.SpecifiedBase.{SpecifiedBase}
use Rattle.const_expr.specs.Typings.{base_type_of}
use Rattle.decls_linkage.specs.Views.{class_of}
use Rattle.typing_spec.specs.Scope.{Scope}
use Rattle.typing_spec.specs.Declarations as typed

-- with the scope after them
abbrev pub specified_of : SpecifiedBase → Scope → typed.Specified
specified_of d s = record { class = class_of d.class; base = base_type_of d.base; scope = s }
