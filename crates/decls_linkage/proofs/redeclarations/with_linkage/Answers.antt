use Rattle.typing_scopes.specs.Scopes.{binding_of}
use Rattle.decls_linkage.specs.Views.{agreed_of}
use Rattle.decls_linkage.proofs.Tellings.{linkage_left}
use Rattle.decls_linkage.proofs.redeclarations.with_linkage.Goals as goal

pub returns-in-Err-clause-err : goal.returns-in-Err-clause-err
returns-in-Err-clause-err c = linkage_left c.args.pos (agreed_of c.args.new) (binding_of c.args.old.now) c.in-Err.refusal c.in-Err.ensures.err
