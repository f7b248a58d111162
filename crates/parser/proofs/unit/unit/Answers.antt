use Rattle.std.proofs.Common.{arith, refl}
use Rattle.parser.specs.Units.{IsRefused}
use Rattle.parser.proofs.UnitCounts.{some_left, none_left}
use Rattle.parser_grammar.proofs.Exits.{err_passed_on}
use Rattle.parser.proofs.UnitLoop.{going_longer, going_fails, going_full, going_alone, going_pushed, going_reaches}
use Rattle.parser.proofs.unit.unit.Goals as goal

pub located-requires : goal.located-requires
located-requires c = let le = going_longer _ _ _ _ c.loop-rest.invariant in let some = some_left _ _ c.is_empty.ensures c.loop-rest-test.true in omega arith

pub returns-in-Err-clause-err : goal.returns-in-Err-clause-err
returns-in-Err-clause-err c = going_fails _ _ _ _ _ _ c.loop-rest.invariant (some_left _ _ c.is_empty.ensures c.loop-rest-test.true) c.in-Err.ensures.answer
    c.in-Err.ensures.stands c.located.ensures

pub place_before-end-requires : goal.place_before-end-requires
place_before-end-requires c = let le = going_longer _ _ _ _ c.loop-rest.invariant in omega (arith, c.in-Ok.ensures.shorter)

pub returns-in_err-nodes-clause-err : goal.returns-in_err-nodes-clause-err
returns-in_err-nodes-clause-err c = err_passed_on (IsRefused c.args.tokens.now) _ _ c.from_residual.ensures.1
    (going_full _ _ _ _ _ _ _ _ c.loop-rest.invariant (some_left _ _ c.is_empty.ensures c.loop-rest-test.true) c.in-Ok.ensures.answer
    (c.place_before-end.ensures c.in-Ok.part.rest.now refl (going_reaches _ _ _ _ _ _ c.loop-rest.invariant c.in-Ok.ensures.answer)) c.in_err-nodes.ensures.err)

pub loop-rest-preserved : goal.loop-rest-preserved
loop-rest-preserved c = going_pushed _ _ _ _ _ _ _ _ c.loop-rest.invariant (some_left _ _ c.is_empty.ensures c.loop-rest-test.true) c.in-Ok.ensures.answer
    c.in_ok-nodes.ensures.ok c.in_ok-push.ensures.items

pub returns-clause-unique : goal.returns-clause-unique
returns-clause-unique c = going_alone _ _ _ _ (none_left _ _ c.is_empty.ensures c.loop-rest-test.false) c.loop-rest.invariant
