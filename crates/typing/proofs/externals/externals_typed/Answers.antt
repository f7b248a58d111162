use Rattle.std.proofs.Common.{◌≡◌, ◌∷◌, length, arith, rules}
use Rattle.typing_scopes.specs.Scopes.{with_texts}
use Rattle.typing_units.specs.Views.{built_of}
use Rattle.typing.proofs.Units.{one_left, one_left_told, none_left}
use Rattle.typing.proofs.externals.externals_typed.Goals as goal

pub loop-external-preserved : goal.loop-external-preserved
loop-external-preserved c =
    let split : c.loop-external.external-iterator.rest.items ≡ c.in-Some.external ∷ c.next.new.self.rest.items = search rules in
    one_left (built_of c.args.stack (with_texts c.args.names.now c.loop-external.scope) c.loop-external.functions.items c.loop-external.initial'.items)
    (built_of c.args.stack (with_texts c.args.names.now c.external_typed.new.scope) c.external_typed.new.functions.items c.external_typed.new.initial.items) c.loop-external.external-iterator.rest.items c.next.new.self.rest.items c.in-Some.external _ split c.in-Ok.ensures.ok c.loop-external.invariant

pub returns-in-Err-clause-err : goal.returns-in-Err-clause-err
returns-in-Err-clause-err c =
    let split : c.loop-external.external-iterator.rest.items ≡ c.in-Some.external ∷ c.next.new.self.rest.items = search rules in
    one_left_told (built_of c.args.stack (with_texts c.args.names.now c.loop-external.scope) c.loop-external.functions.items c.loop-external.initial'.items) c.loop-external.external-iterator.rest.items c.next.new.self.rest.items c.in-Some.external _ c.in-Err.refusal
    split c.in-Err.ensures.err c.loop-external.invariant

pub returns-clause-ok : goal.returns-clause-ok
returns-clause-ok c =
    let end : length c.loop-external.external-iterator.rest.items ≡ 0 = omega (arith, c.in-None.ensures.steps.0, c.loop-external.external-iterator.rest.ok.0) in
    none_left (built_of c.args.stack (with_texts c.args.names.now c.loop-external.scope) c.loop-external.functions.items c.loop-external.initial'.items) c.loop-external.external-iterator.rest.items _ end c.loop-external.invariant
