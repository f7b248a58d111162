use Rattle.typed_ast.specs.View.{program_of}
use Rattle.cc.specs.Compiled.{BuildsProgram, Compiles}
use Rattle.cc.specs.Made.{MakesProgram, IsMade}
use Rattle.cc.specs.inside.Stops.{Stops, IsMemory}
use Rattle.cc.proofs.Refusals.{handed_on, ok_means, error_means, memory_stops}
use Rattle.cc.proofs.compiling.by_phases.Goals as goal

pub returns-in_err-program-clause-stops : goal.returns-in_err-program-clause-stops
returns-in_err-program-clause-stops c =
    let stop = c.in_err-program.field-0.0 in
    handed_on c.from_residual.result stop _ c.from_residual.ensures.1 c.in_err-program.ensures.stops

pub build-requires : goal.build-requires
build-requires c = c.in_ok-program.ensures.ready

pub returns-clause-built : goal.returns-clause-built
returns-clause-built c =
    let texts = c.checked_unit.new.names in
    let unit = c.in_ok-program.ensures.program.0 in
    let program = program_of c.in_ok-program.program in
    ok_means c.build.result (λ built. BuildsProgram c.args.stack texts program built) (λ built. Compiles c.args.stack c.args.set.now c.args.main.now built)
    (λ built h. record { texts = texts; unit = unit; program = program; has_program = c.in_ok-program.ensures.program.1; builds = h }) c.build.ensures.built

pub returns-clause-made : goal.returns-clause-made
returns-clause-made c =
    let texts = c.checked_unit.new.names in
    let unit = c.in_ok-program.ensures.program.0 in
    let program = program_of c.in_ok-program.program in
    ok_means c.build.result (λ built. MakesProgram c.args.stack texts program built) (λ built. IsMade c.args.stack c.args.set.now c.args.main.now built)
    (λ built h. record { compiles = record { texts = texts; unit = unit; program = program; has_program = c.in_ok-program.ensures.program.1; builds = h.builds }; file = h.file }) c.build.ensures.made

pub returns-clause-stops : goal.returns-clause-stops
returns-clause-stops c =
    error_means c.build.result IsMemory (λ stop. Stops c.args.stack c.args.set.now c.args.main.now stop) (memory_stops c.args.stack c.args.set.now c.args.main.now) c.build.ensures.stops
