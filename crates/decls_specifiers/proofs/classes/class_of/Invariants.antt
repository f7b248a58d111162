use Rattle.std.proofs.Common.{◌≡◌, ◌++◌, map, drop}
use Rattle.tree.specs.View.{specifier_of}
use Rattle.decls_linkage.specs.Views as view
use Rattle.typing_spec.specs.Declarations as typed
use Rattle.decls_specifiers.specs.inside.Lists.{class_before}
use Rattle.decls_specifiers.proofs.classes.class_of.Given as goal

abbrev pub invariant-loop-specifier : goal.invariant-loop-specifier
invariant-loop-specifier l =
    typed.class_of l.pos (class_before (view.class_of l.class) ++ typed.classes_of (map specifier_of (drop l.specifier-index l.specifiers))) ≡ typed.class_of l.pos (typed.classes_of (map specifier_of l.specifiers))
