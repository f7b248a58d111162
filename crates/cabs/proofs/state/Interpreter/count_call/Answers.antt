use Rattle.std.proofs.Common.{OnOk, sym, subst}
use Rattle.typed_ast.specs.declared.storage_places.Callee.{Callee}
use Rattle.typed_ast.specs.View.{callee_of, program_of}
use Rattle.interp_transitions.specs.Tallied.{Tells}
use Rattle.cabs.specs.inside.Standing.{history_called}
use Rattle.cabs.proofs.state.Interpreter.count_call.Goals as goal

-- src/state.rt:114:5
pub returns-in-Function-clause-tells : goal.returns-in-Function-clause-tells
returns-in-Function-clause-tells g c = λ passed h t.
    let p = program_of c.args.self.now.machine.program.now in
    subst (λ (callee : Callee). OnOk c.count_function.result (Tells p (history_called p (callee_of callee) passed h) c.count_function.new.self.tally)) (sym c.in-Function.is) (c.count_function.ensures.tells passed h t)
