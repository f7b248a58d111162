use Rattle.std.proofs.Common.{None, refl}
use Rattle.pp_cond.specs.inside.Operands.{known_option}
use Rattle.pp_cond.proofs.Whole.{broken_whole, read_whole}
use Rattle.pp_cond.proofs.condition.ConditionReader.whole.Goals as goal

pub returns-then-self : goal.returns-then-self
returns-then-self c = λ xs h. broken_whole c.args.self.now xs None c.if-self.true refl h

pub returns : goal.returns
returns c = λ xs h. read_whole c.args.self.now xs (known_option c.end.result) c.if-self.false c.end.ensures h
