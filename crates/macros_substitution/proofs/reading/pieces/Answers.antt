use Rattle.std.proofs.Common.{◌+◌, length, ap, ◌∙◌, sym, refl, subst, arith, length-drop}
use Rattle.std.specs.Option.{is_some}
use Rattle.std.proofs.lemmas.List.{length-map}
use Rattle.macros.specs.Definition.{names_of}
use Rattle.macros.specs.Table.{with_parameter, places}
use Rattle.macros_substitution.specs.Meaning.{hidden_lists, pieces_as, PiecesIn}
use Rattle.macros_substitution.specs.Substitution.{Call}
use Rattle.macros_substitution.proofs.ReadingLaws.{body_found, function_known, read_step, read_end, read_refused, pieces_in_append, rest_whole}
use Rattle.macros_substitution.proofs.reading.pieces.Goals as goal

pub returns-in-Err-clause-value : goal.returns-in-Err-clause-value
returns-in-Err-clause-value c = λ texts sets m is.
    let call : Call = record { macro = m; at = c.args.at; arguments = hidden_lists texts sets c.args.arguments.now } in
    let body = c.body-body.ensures ∙ is.body_is in
    let function = c.is_some-is_function_like.ensures ∙ ap is_some c.parameters.ensures ∙ function_known texts places c.args.definition.now.parameters m.parameters is.parameters_are in
    let found = body_found (with_parameter (names_of m.parameters)) c.body-body.result.now m.body c.loop-i.i c.index-body-i.result body c.loop-i-test.true c.index-body-i.is in
    read_refused texts sets call (pieces_as texts sets c.loop-i.made.items) c.loop-i.after _ _ _ c.in-Err.refusal (c.loop-i.invariant.same texts sets call function refl refl body) found.here
    (c.in-Err.ensures.value texts sets call found.token found.behind function refl refl found.is (rest_whole c.body-body.result.now (c.loop-i.i + 1) ∙ found.are))

pub loop-i-preserved : goal.loop-i-preserved
loop-i-preserved c = record {
  within = omega (arith, c.in-Ok.ensures.taken.1, ap length (rest_whole c.body-body.result.now (c.loop-i.i + 1)), length-drop (c.loop-i.i + 1) c.body-body.result.now);
  known = subst (λ t. PiecesIn 0 t) (sym c.in_ok-push.ensures.items) (pieces_in_append 0 _ _ c.loop-i.invariant.known c.in-Ok.ensures.known);
  same = λ texts sets call ef ea eargs eb.
      let found = body_found (with_parameter (names_of call.macro.parameters)) c.body-body.result.now call.macro.body c.loop-i.i c.index-body-i.result eb c.loop-i-test.true c.index-body-i.is in
      read_step texts sets call c.loop-i.made.items c.push.new.self.items c.in-Ok.found.0 c.loop-i.after c.is_joint-after.result call.macro.body _ c.loop-i.i c.in-Ok.found.1 _
      (c.loop-i.invariant.same texts sets call ef ea eargs eb) found.here (c.in-Ok.ensures.value texts sets call found.token found.behind ef ea eargs found.is (rest_whole c.body-body.result.now (c.loop-i.i + 1) ∙ found.are))
      c.in_ok-push.ensures.items c.is_joint-after.ensures;
}

pub returns-clause-value : goal.returns-clause-value
returns-clause-value c = λ texts sets m is.
    let call : Call = record { macro = m; at = c.args.at; arguments = hidden_lists texts sets c.args.arguments.now } in
    let body = c.body-body.ensures ∙ is.body_is in
    let function = c.is_some-is_function_like.ensures ∙ ap is_some c.parameters.ensures ∙ function_known texts places c.args.definition.now.parameters m.parameters is.parameters_are in
    read_end texts sets call c.loop-i.made.items c.loop-i.after m.body c.loop-i.i _ (c.loop-i.invariant.same texts sets call function refl refl body)
    (omega (arith, length-map m.body (with_parameter (names_of m.parameters)), ap length body))
