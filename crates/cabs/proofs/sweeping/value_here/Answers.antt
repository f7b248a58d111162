use Rattle.std.proofs.Common.{refl}
use Rattle.typed_ast.specs.View.{program_of, value_of}
use Rattle.interp_store.specs.layer.Agrees.{frames_of, number}
use Rattle.interp_store.specs.layer.Frames as on
use Rattle.interp_eval.specs.layer.Comes.{valued}
use Rattle.cabs.proofs.Sweeps.{found_for}
use Rattle.cabs.proofs.sweeping.value_here.Goals as goal

pub returns-clause-does : goal.returns-clause-does
returns-clause-does c = λ run f h.
    let m = c.args.machine.now in
    let p = program_of m.program.now in
    let e = value_of c.args.e.now in
    found_for run p number on.a_value (valued e p) (on.value e) (λ s. refl) f c.args.limit c.args.clock.now.spent (frames_of m) m.scene c.value.result c.value.new.clock _ refl (c.value.ensures.does run) h
