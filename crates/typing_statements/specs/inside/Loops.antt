-- The declarations that the first part of a `for` may not contain.
use Rattle.std.specs.Prelude.{Bool, true, false, not, ◌||◌, nat_eq, List}
use Rattle.tree.specs.declared.declaration.Item.{Item}
use Rattle.tree.specs.declared.declaration.Item.TheVariants as item
use Rattle.tree.specs.declared.declaration.Specifier.{Specifier}
use Rattle.tree.specs.declared.declaration.Specifier.TheVariants.{Extern, Static, Plain, Enumerators}
use Rattle.tree.specs.Tree.{SpecifierTree, ItemTree}
use Rattle.typing_spec.specs.Declarations.{classes_of, lists_in}
use Rattle.typing_spec.specs.Statements as typed
use Rattle.typing_spec.specs.Statements.{has_class}

abbrev pub declares_function : Item → Bool
declares_function (item.Object o) = false
declares_function (item.Function f) = true

-- a storage-class specifier, or a list of enumerators
abbrev pub is_kept_out : Specifier → Bool
is_kept_out Extern = true
is_kept_out Static = true
is_kept_out (Plain s) = false
is_kept_out (Enumerators tag list) = true

-- a declaration that may not be there
abbrev pub unfit : List SpecifierTree → List ItemTree → Bool
unfit ss is = has_class (classes_of ss) || (not (nat_eq (lists_in ss) 0) || typed.declares_function is)
