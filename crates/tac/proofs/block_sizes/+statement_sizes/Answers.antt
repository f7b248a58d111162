use Rattle.std.proofs.Common.{ap, map, sym, ◌∙◌}
use Rattle.typing_spec.specs.Program as typed
use Rattle.typed_ast.specs.View.{program_of, function_of, value_of, statement_of, statements_of}
use Rattle.tac.specs.inside.Sizes as size
use Rattle.tac.proofs.HeldStatements.{sees_switch}
use Rattle.tac.proofs.block_sizes.+statement_sizes.Goals as goal

pub statement_size-returns-in-Switch : goal.statement_size-returns-in-Switch
statement_size-returns-in-Switch t c =
    let s = c.in-Switch in
    c.switch_size.ensures s.field-1
    ∙ ap (λ xs. size.statement_size (program_of c.args.program.now) (function_of c.args.function.now) (typed.switch s.field-1 (value_of s.e) s.first s.count (statements_of (map statement_of xs)))) c.deref-in-Switch.ensures.value
    ∙ ap (size.statement_size (program_of c.args.program.now) (function_of c.args.function.now)) (sym (sees_switch c.args.statement.now s.field-0 s.field-1 s.e s.first s.count s.all s.is))
