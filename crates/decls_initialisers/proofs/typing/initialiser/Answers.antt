use Rattle.std.proofs.Common.{length, ap, ◌∙◌}
use Rattle.tree.specs.View.{init_of}
use Rattle.decls_initialisers.specs.Views.{wanted_of}
use Rattle.decls_initialisers.proofs.Numbered.{initialiser_whole}
use Rattle.decls_initialisers.proofs.Rules.{gives, tells}
use Rattle.decls_initialisers.proofs.typing.initialiser.Goals as goal

pub returns-clause-ok : goal.returns-clause-ok
returns-clause-ok c =
    gives c.initialiser_behind.result _ _ (initialiser_whole c.args.names.now c.behind-literals.result c.args.scope.now c.args.pos c.args.element (wanted_of c.args.wanted) c.args.top (init_of c.args.init.now) (c.behind-literals.ensures ∙ ap length c.literals.ensures))
    c.initialiser_behind.ensures.ok

pub returns-clause-err : goal.returns-clause-err
returns-clause-err c =
    tells c.initialiser_behind.result _ _ (initialiser_whole c.args.names.now c.behind-literals.result c.args.scope.now c.args.pos c.args.element (wanted_of c.args.wanted) c.args.top (init_of c.args.init.now) (c.behind-literals.ensures ∙ ap length c.literals.ensures))
    c.initialiser_behind.ensures.err
