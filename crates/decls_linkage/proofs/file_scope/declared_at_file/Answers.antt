use Rattle.typing_scopes.specs.Scopes.{with_texts, option_binding}
use Rattle.decls_linkage.specs.Views.{agreed_of}
use Rattle.typing_scopes.specs.BuiltIns.{option_built_in}
use Rattle.decls_linkage.proofs.Tellings.{file_left, file_right, file_fine, on_ok}
use Rattle.decls_linkage.proofs.file_scope.declared_at_file.Goals as goal

pub returns-in-Err-clause-err : goal.returns-in-Err-clause-err
returns-in-Err-clause-err c =
    file_left (with_texts c.args.names.now c.args.scope.now) c.args.pos c.args.name (agreed_of c.args.new) (option_built_in c.built_in.result) c.in-Err.refusal (c.built_in.ensures c.args.scope.now) c.in-Err.ensures.err

pub returns-in-Err-redeclared-clause-err : goal.returns-in-Err-redeclared-clause-err
returns-in-Err-redeclared-clause-err c =
    file_right (with_texts c.args.names.now c.args.scope.now) c.args.pos c.args.name (agreed_of c.args.new) (option_binding c.lookup.result) c.in-Err-redeclared.refusal c.lookup.ensures c.in-Err-redeclared.ensures.err

pub returns-in-Ok-redeclared-clause-ok : goal.returns-in-Ok-redeclared-clause-ok
returns-in-Ok-redeclared-clause-ok c =
    on_ok c.agreed_in.result
    (file_fine c.args.names.now c.args.scope.now c.agreed_in.new.scope c.args.pos c.args.name (agreed_of c.args.new) (agreed_of c.in-Ok-redeclared.agreed) (option_built_in c.built_in.result) (option_binding c.lookup.result)
    (c.built_in.ensures c.args.scope.now) c.in-Ok.ensures.ok c.lookup.ensures c.in-Ok-redeclared.ensures.ok)
    c.agreed_in.ensures.ok
