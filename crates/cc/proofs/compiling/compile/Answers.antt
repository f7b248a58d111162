use Rattle.std.proofs.Common.{subst}
use Rattle.std.specs.Prelude.{IfOk, IfErr}
use Rattle.cc.specs.Compiled.{Compiles}
use Rattle.cc.specs.Made.{IsMade}
use Rattle.cc.specs.Refused.{IsRefused}
use Rattle.cc.proofs.compiling.compile.Goals as goal

pub returns-clause-built : goal.returns-clause-built
returns-clause-built c = subst (λ n. IfOk c.compile_with.result (λ built. Compiles n c.args.set.now c.args.main.now built)) c.usual.ensures c.compile_with.ensures.built

pub returns-clause-made : goal.returns-clause-made
returns-clause-made c = subst (λ n. IfOk c.compile_with.result (λ built. IsMade n c.args.set.now c.args.main.now built)) c.usual.ensures c.compile_with.ensures.made

pub returns-clause-refused : goal.returns-clause-refused
returns-clause-refused c = subst (λ n. IfErr c.compile_with.result (λ fault. IsRefused n c.args.set.now c.args.main.now fault)) c.usual.ensures c.compile_with.ensures.refused
