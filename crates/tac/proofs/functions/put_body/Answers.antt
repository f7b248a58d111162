use Rattle.std.proofs.Common.{length, map, ap, sym, ◌∙◌}
use Rattle.typed_ast.specs.View.{parameter_type_of, function_of, program_of}
use Rattle.lower_ops.specs.layer.Parts.{plus}
use Rattle.tac.proofs.Whole.{idles_all, length_map, body_written}
use Rattle.tac.proofs.functions.put_body.Goals as goal

pub returns : goal.returns
returns c =
    let parameters = c.args.scope.now.function.now.function_type.parameters.items in
    body_written (program_of c.args.scope.now.program.now) c.args.is_main (function_of c.args.scope.now.function.now) c.ahead-end.result c.plus-back.result c.requires
    (c.ahead-end.ensures ∙ ap (λ n. plus (length c.put_idles.new.code.list.items) n) c.statement_size.ensures)
    c.plus-back.ensures
    (idles_all (length c.deref.result.now) (length (map parameter_type_of parameters)) (ap length c.deref.ensures.value ∙ sym (length_map parameter_type_of parameters)) c.in_ok-put_idles.ensures)
    c.in_ok-put_statement.ensures c.in_ok-put_closing.ensures c.in_ok-put.ensures
