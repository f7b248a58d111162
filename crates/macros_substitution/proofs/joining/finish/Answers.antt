use Rattle.std.proofs.Common.{◌≡◌, [], ◌++◌, Ok, refl}
use Rattle.srcset.specs.declared.refusal.Pos.{Pos}
use Rattle.srcset.specs.NameTable.{Texts}
use Rattle.macros_substitution.specs.HideSets.{Sets}
use Rattle.macros_substitution.specs.Meaning.{hidden_all, AreIn}
use Rattle.macros_substitution.specs.inside.Steps.{tokens_in, going}
use Rattle.macros_substitution.proofs.Joins.{finish_left, finish_joining, if_finished, done_known, done_joining}
use Rattle.macros_substitution.proofs.joining.finish.Goals as goal

pub returns-in-Left-clause-value : goal.returns-in-Left-clause-value
returns-in-Left-clause-value c =
    if_finished c.finish_with.result (c.args.joining.done.items ++ tokens_in c.in-Left.left)
    (λ items. (texts : Texts) (sets : Sets) (at : Pos) → going texts sets c.args.joining [] at ≡ Ok (hidden_all texts sets items)) c.finish_with.ensures.ok
    (λ texts sets at. finish_left texts sets at c.args.joining c.in-Left.left _ c.in-Left.is refl)

pub returns-in-Left-clause-known : goal.returns-in-Left-clause-known
returns-in-Left-clause-known c = λ count known.
    if_finished c.finish_with.result (c.args.joining.done.items ++ tokens_in c.in-Left.left) (AreIn count) c.finish_with.ensures.ok
    (done_known count c.args.joining c.in-Left.left _ c.in-Left.is known refl)

pub returns-in-Joining-clause-value : goal.returns-in-Joining-clause-value
returns-in-Joining-clause-value c =
    if_finished c.finish_with-in-Joining.result (c.args.joining.done.items ++ tokens_in c.in-Joining.left)
    (λ items. (texts : Texts) (sets : Sets) (at : Pos) → going texts sets c.args.joining [] at ≡ Ok (hidden_all texts sets items)) c.finish_with-in-Joining.ensures.ok
    (λ texts sets at. finish_joining texts sets at c.args.joining c.in-Joining.left _ c.in-Joining.is refl)

pub returns-in-Joining-clause-known : goal.returns-in-Joining-clause-known
returns-in-Joining-clause-known c = λ count known.
    if_finished c.finish_with-in-Joining.result (c.args.joining.done.items ++ tokens_in c.in-Joining.left) (AreIn count) c.finish_with-in-Joining.ensures.ok
    (done_joining count c.args.joining c.in-Joining.left c.in-Joining.is known)
