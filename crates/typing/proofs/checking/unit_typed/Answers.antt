use Rattle.std.proofs.Common.{map, ap, ◌∙◌}
use Rattle.tree.specs.View.{external_of}
use Rattle.typed_ast.specs.View.{program_of}
use Rattle.typing_spec.specs.Units.{definitions_in}
use Rattle.typing_scopes.specs.Scopes.{with_texts}
use Rattle.typing_units.specs.Views.{built_of}
use Rattle.typing.proofs.Units.{begun_is, externals_told, whole_fine, whole_told}
use Rattle.typing.proofs.checking.unit_typed.Goals as goal

pub returns-in-Err-externals_typed-clause-err : goal.returns-in-Err-externals_typed-clause-err
returns-in-Err-externals_typed-clause-err c =
    externals_told c.args.stack c.args.names.now c.args.whole (map external_of c.args.externals.items) (built_of c.args.stack (with_texts c.args.names.now c.in-Ok-file.scope) c.in-Ok-with_capacity.functions.items c.new-initial.result.items) c.in-Err-externals_typed.refusal
    (begun_is c.args.stack c.args.names.now (map external_of c.args.externals.items) c.in-Ok.definitions.items c.in-Ok-file.scope c.in-Ok-with_capacity.functions.items c.new-initial.result.items (c.in-Ok.ensures.ok ∙ ap (λ l. definitions_in (map external_of l)) c.as_slice.ensures.value) c.in-Ok-file.ensures.ok c.in-Ok-with_capacity.ensures.items c.new-initial.ensures.items)
    c.in-Err-externals_typed.ensures.err

pub returns-in-Ok-unit_program-clause-ok : goal.returns-in-Ok-unit_program-clause-ok
returns-in-Ok-unit_program-clause-ok c =
    whole_fine c.args.stack c.args.names.now c.args.whole (map external_of c.args.externals.items) (built_of c.args.stack (with_texts c.args.names.now c.in-Ok-file.scope) c.in-Ok-with_capacity.functions.items c.new-initial.result.items)
    (built_of c.args.stack (with_texts c.args.names.now c.externals_typed.new.scope) c.externals_typed.new.functions.items c.externals_typed.new.initial.items) (program_of c.in-Ok-unit_program.program)
    (begun_is c.args.stack c.args.names.now (map external_of c.args.externals.items) c.in-Ok.definitions.items c.in-Ok-file.scope c.in-Ok-with_capacity.functions.items c.new-initial.result.items (c.in-Ok.ensures.ok ∙ ap (λ l. definitions_in (map external_of l)) c.as_slice.ensures.value) c.in-Ok-file.ensures.ok c.in-Ok-with_capacity.ensures.items c.new-initial.ensures.items)
    c.in-Ok-externals_typed.ensures.ok (c.in-Ok-unit_program.ensures.ok c.args.stack)

pub returns-in-Err-unit_program-clause-err : goal.returns-in-Err-unit_program-clause-err
returns-in-Err-unit_program-clause-err c =
    whole_told c.args.stack c.args.names.now c.args.whole (map external_of c.args.externals.items) (built_of c.args.stack (with_texts c.args.names.now c.in-Ok-file.scope) c.in-Ok-with_capacity.functions.items c.new-initial.result.items)
    (built_of c.args.stack (with_texts c.args.names.now c.externals_typed.new.scope) c.externals_typed.new.functions.items c.externals_typed.new.initial.items) c.in-Err-unit_program.refusal
    (begun_is c.args.stack c.args.names.now (map external_of c.args.externals.items) c.in-Ok.definitions.items c.in-Ok-file.scope c.in-Ok-with_capacity.functions.items c.new-initial.result.items (c.in-Ok.ensures.ok ∙ ap (λ l. definitions_in (map external_of l)) c.as_slice.ensures.value) c.in-Ok-file.ensures.ok c.in-Ok-with_capacity.ensures.items c.new-initial.ensures.items)
    c.in-Ok-externals_typed.ensures.ok (c.in-Err-unit_program.ensures.err c.args.stack)
