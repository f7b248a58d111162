use Rattle.std.proofs.Common.{inl, inr, refl}
use Rattle.typed_ast.specs.View.{program_of}
use Rattle.cc.proofs.performing.interp.Goals as goal

pub returns-in-Ok : goal.returns-in-Ok
returns-in-Ok g c = inl (record {
  texts = c.checked_unit.new.names;
  unit = c.in-Ok.ensures.program.0;
  program = program_of c.in-Ok.program;
  has_program = c.in-Ok.ensures.program.1;
  interpreted_as = c.interpret_observed.ensures;
})

pub returns : goal.returns
returns g c = inr (refl, refl, (c.to_fault.result, c.in-Err.ensures.stops c.to_fault.result c.to_fault.ensures, c.say_fault.ensures))
