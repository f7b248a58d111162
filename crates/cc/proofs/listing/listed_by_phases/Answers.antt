use Rattle.typed_ast.specs.View.{program_of}
use Rattle.cc.specs.declared.stopping.Stop.TheVariants.{Memory}
use Rattle.cc.proofs.Refusals.{handed_on, memory_stops}
use Rattle.cc.proofs.listing.listed_by_phases.Goals as goal

pub returns-in_err-program-clause-stops : goal.returns-in_err-program-clause-stops
returns-in_err-program-clause-stops c =
    let stop = c.in_err-program.field-0.0 in
    handed_on c.from_residual.result stop _ c.from_residual.ensures.1 c.in_err-program.ensures.stops

pub list_checked-requires : goal.list_checked-requires
list_checked-requires c = c.in_ok-program.ensures.ready

pub returns-in-Ok-clause-listed : goal.returns-in-Ok-clause-listed
returns-in-Ok-clause-listed c = record {
  made = record {
    compiles = record {
      texts = c.checked_unit.new.names;
      unit = c.in_ok-program.ensures.program.0;
      program = program_of c.in_ok-program.program;
      has_program = c.in_ok-program.ensures.program.1;
      builds = c.in-Ok.ensures.makes.builds;
    };
    file = c.in-Ok.ensures.makes.file;
  };
  items_are = c.in-Ok.ensures.items_are;
  low = c.in-Ok.ensures.low;
  reach = c.in-Ok.ensures.reach;
}

pub returns-clause-stops : goal.returns-clause-stops
returns-clause-stops c = memory_stops c.args.stack c.args.set.now c.args.main.now Memory tt
