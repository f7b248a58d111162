-- The models of the code's declarators.
use Rattle.decls_linkage.specs.declared.rules.StorageClass.{StorageClass}
use Rattle.decls_linkage.specs.Views.{class_of}
use Rattle.typed_ast.specs.View.{storage_of, declared_type_of}
use Rattle.tree.specs.declared.declaration.ObjectDeclarator.{ObjectDeclarator}
use Rattle.tree.specs.View.{option_init}
use Rattle.typing_spec.specs.Scope.{Scope}
use Rattle.typing_spec.specs.Declarations as typed
use Rattle.decls.specs.declared.begun_object.BegunObject.{BegunObject}

-- an object that has begun with this storage class and this declarator, in this scope
abbrev pub begun_of : BegunObject → StorageClass → ObjectDeclarator → Scope → typed.Begun
begun_of b class d s = record {
  at = d.pos;
  name = d.name;
  class = class_of class;
  type = declared_type_of b.declared;
  what = storage_of b.what;
  init = option_init d.initialiser;
  scope = s;
}
