use Rattle.std.proofs.Common.{◌∷◌, [], length, length-append, ap, ◌∙◌, sym, Some, arith}
use Rattle.macros_substitution.proofs.ReadingLaws.{use_same, one_use}
use Rattle.macros_substitution.proofs.reading.uses.Goals as goal

pub loop-index-preserved : goal.loop-index-preserved
loop-index-preserved c = record {
  count = ap length c.in_ok-push.ensures.items ∙ length-append c.loop-index.found.items (c.use_of.result ∷ []) ∙ omega (arith, c.loop-index.invariant.count);
  each = one_use c.loop-index.found.items c.loop-index.index c.args.pieces.now c.push.new.self.items c.use_of.result c.loop-index.invariant.count c.in_ok-push.ensures.items c.use_of.ensures c.loop-index.invariant.each;
}

pub returns-clause-count : goal.returns-clause-count
returns-clause-count c = omega (arith, c.loop-index.invariant.count)

pub returns-clause-each : goal.returns-clause-each
returns-clause-each c = λ texts sets i h. c.loop-index.invariant.each i (omega arith) ∙ ap Some (sym (use_same texts sets i c.args.pieces.now))
