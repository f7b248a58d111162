use Rattle.typed_ast.specs.View.{function_of, program_of}
use Rattle.tac.proofs.NamedStatements.{body_few}
use Rattle.tac.proofs.functions.body_of.Goals as goal

pub returns : goal.returns
returns c =
    let code = c.put_body.new.code in
    record {
      body = c.in_ok-put_body.ensures;
      few = body_few (program_of c.args.program.now) c.args.is_main (function_of c.args.function.now) code.list.items code.short c.in_ok-put_body.ensures;
    }
