use Rattle.cabs.proofs.state.Interpreter.begin_call.Goals as goal

pub returns-in-Ok-clause-tells : goal.returns-in-Ok-clause-tells
returns-in-Ok-clause-tells g c p h arguments weighs tells = c.in-Ok.ensures.ok p h c.args.f arguments weighs tells
