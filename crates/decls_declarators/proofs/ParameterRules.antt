-- The typing of a parameter, by its parts.
use Rattle.std.proofs.Common.{subst}
use Rattle.srcset.specs.NameTable.{Texts}
use Rattle.srcset.specs.declared.refusal.Refusal.{Refusal}
use Rattle.tree.specs.Tree.{ParameterTree}
use Rattle.typing_spec.specs.Scope.{Scope}
use Rattle.typing_spec.specs.Specifiers.{base_type}
use Rattle.typing_spec.specs.Declarators.{sizes_in, parameter_with, parameter_object}
use Rattle.typing_expressions.specs.Refused.{IsOf, Tells}
use Rattle.typing_expressions.proofs.Verdicts.{tells_left, tells_of}
use Rattle.const_expr.proofs.Numbered.{base_same}
use Rattle.typing_scopes.specs.Scopes.{with_texts}

pub object_base : (t : Texts) (s : Scope) (p : ParameterTree) (r : Refusal) → IsOf r (base_type s p.start p.specifiers) → Tells r (parameter_object (with_texts t s) p)
object_base t s p r h =
    tells_left r (base_type (with_texts t s) p.start p.specifiers) (sizes_in (with_texts t s) p.at p.sizes) (λ b sizes. parameter_with p.at b b.type sizes)
    (subst (λ v. Tells r v) (base_same t s.literals s p.start p.specifiers) (tells_of r (base_type s p.start p.specifiers) h))
