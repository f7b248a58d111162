use Rattle.lexer.proofs.LiteralLemmas.{decoded_turn, decoded_all, is_some_text, is_no_text}
use Rattle.lexer.proofs.literals.decode.Goals as goal

pub loop-rest-preserved : goal.loop-rest-preserved
loop-rest-preserved c new after q =
    let p = c.first_part-part in
    c.loop-rest.invariant new after (decoded_turn _ _ new c.loop-rest.met c.in_ok-met.met after c.loop-rest.rest.now _ p.result p.ensures.part p.ensures.some (is_some_text c.loop-rest.rest.now c.is_empty.result c.is_empty.ensures c.loop-rest-test.true) c.behind-rest.ensures c.in_ok-met.ensures q)

pub returns : goal.returns
returns c = c.loop-rest.invariant _ _ (decoded_all _ _ c.loop-rest.rest.now (is_no_text c.loop-rest.rest.now c.is_empty.result c.is_empty.ensures c.loop-rest-test.false))
