-- Declarators in order, as far as they are read.
use Rattle.std.proofs.Common.{◌≡◌, List, ◌∷◌, refl, sym, ◌∙◌, subst}
use Rattle.srcset.specs.declared.refusal.Refusal.{Refusal}
use Rattle.tree.specs.Tree.{ItemTree, object, function}
use Rattle.typing_spec.specs.Verdict.{Verdict, fine, broken, then_check}
use Rattle.typing_spec.specs.Scope.{Scope}
use Rattle.typing_spec.specs.Specifiers.{BaseType}
use Rattle.typing_spec.specs.Linkage.{StorageClass}
use Rattle.typing_spec.specs.Declarations.{begun, finished, items_declared}
use Rattle.typing_expressions.specs.Refused.{Tells}
use Rattle.typing_expressions.proofs.Verdicts.{tells_then}
use Rattle.decls_declarators.proofs.Verdicts.{then_fine}
use Rattle.decls.specs.inside.Parts.{item_read}

then_both : {A B C : Type 0} (v : Verdict A) (f : A → Verdict B) (g : B → Verdict C) → then_check v (λ a. then_check (f a) g) ≡ then_check (then_check v f) g
then_both (fine a) f g = refl
then_both (broken vs) f g = refl

one_item : (s : Scope) (c : StorageClass) (b : BaseType) (i : ItemTree) (is : List ItemTree) → items_declared s c b (i ∷ is) ≡ then_check (item_read s c b i) (λ inner. items_declared inner c b is)
one_item s c b (object at n sizes init) is = then_both (begun s c b at n sizes init) finished (λ inner. items_declared inner c b is)
one_item s c b (function at n ps) is = refl

pub item_fine : (s next : Scope) (c : StorageClass) (b : BaseType) (i : ItemTree) (is : List ItemTree) → item_read s c b i ≡ fine next → items_declared s c b (i ∷ is) ≡ items_declared next c b is
item_fine s next c b i is e = one_item s c b i is ∙ then_fine (item_read s c b i) next (λ inner. items_declared inner c b is) e

pub item_told : (s : Scope) (c : StorageClass) (b : BaseType) (i : ItemTree) (is : List ItemTree) (r : Refusal) → Tells r (item_read s c b i) → Tells r (items_declared s c b (i ∷ is))
item_told s c b i is r h = subst (λ v. Tells r v) (sym (one_item s c b i is)) (tells_then r (item_read s c b i) (λ inner. items_declared inner c b is) h)
