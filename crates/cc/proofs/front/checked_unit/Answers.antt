use Rattle.std.proofs.Common.{sym, subst}
use Rattle.tree.specs.View.{unit_of}
use Rattle.cc.specs.Compiled.{HasTokens, HasTree}
use Rattle.cc.proofs.Refusals.{handed_on, tokens_stop, has_tree, has_number, tree_stops, check_stops}
use Rattle.typed_ast.specs.View.{program_of}
use Rattle.cc.proofs.Ready.{is_ready}
use Rattle.cc.proofs.front.checked_unit.Goals as goal

pub returns-in_err-tokens-clause-stops : goal.returns-in_err-tokens-clause-stops
returns-in_err-tokens-clause-stops c =
    let stop = c.in_err-tokens.field-0.0 in
    handed_on c.from_residual.result stop _ c.from_residual.ensures.1 (tokens_stop c.args.stack c.args.set.now c.args.main.now stop c.in_err-tokens.ensures.stops)

pub returns-in_err-unit-clause-stops : goal.returns-in_err-unit-clause-stops
returns-in_err-unit-clause-stops c =
    let set = c.args.set.now in
    let main = c.args.main.now in
    let texts = c.c_tokens.new.names in
    let tokens = c.as_slice.result.now in
    let stop = c.in_err-unit.field-0.0 in
    let made : HasTokens set main texts tokens = subst (HasTokens set main texts) (sym c.as_slice.ensures.value) c.in_ok-tokens.ensures.tokens in
    handed_on c.from_residual-in_err-unit.result stop _ c.from_residual-in_err-unit.ensures.1 (tree_stops c.args.stack set main texts tokens stop made c.in_err-unit.ensures.stops)

pub typed_program-requires : goal.typed_program-requires
typed_program-requires c = has_number c.args.stack c.args.set.now c.args.main.now c.c_tokens.new.names c.in_ok-tokens.tokens.items c.in_ok-tokens.ensures.tokens

pub returns-in_err-program-clause-stops : goal.returns-in_err-program-clause-stops
returns-in_err-program-clause-stops c =
    let set = c.args.set.now in
    let main = c.args.main.now in
    let texts = c.c_tokens.new.names in
    let stop = c.in_err-program.field-0.0 in
    let unit = unit_of c.in_ok-unit.unit in
    let tree : HasTree set main texts unit = has_tree c.args.stack set main texts c.in_ok-tokens.tokens.items c.as_slice.result.now unit c.as_slice.ensures.value c.in_ok-tokens.ensures.tokens c.in_ok-unit.ensures.ok c.in_ok-unit.ensures.unique in
    handed_on c.from_residual-in_err-program.result stop _ c.from_residual-in_err-program.ensures.1 (check_stops c.args.stack set main texts unit stop tree c.in_err-program.ensures.stops)

pub returns-clause-program : goal.returns-clause-program
returns-clause-program c =
    let set = c.args.set.now in
    let main = c.args.main.now in
    let texts = c.c_tokens.new.names in
    let unit = unit_of c.in_ok-unit.unit in
    let tree : HasTree set main texts unit = has_tree c.args.stack set main texts c.in_ok-tokens.tokens.items c.as_slice.result.now unit c.as_slice.ensures.value c.in_ok-tokens.ensures.tokens c.in_ok-unit.ensures.ok c.in_ok-unit.ensures.unique in
    (unit, record { has_tree = tree; is_program = c.in_ok-program.ensures.ok })

pub returns-clause-ready : goal.returns-clause-ready
returns-clause-ready c =
    is_ready c.args.stack c.args.main.now c.c_tokens.new.names c.as_slice.result.now (unit_of c.in_ok-unit.unit) (program_of c.in_ok-program.program) c.typed_program.ensures.small c.texts_are_bytes.ensures c.in_ok-unit.ensures.ok c.in_ok-program.ensures.ok
