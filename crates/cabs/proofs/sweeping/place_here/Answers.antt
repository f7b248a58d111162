use Rattle.std.proofs.Common.{refl}
use Rattle.typed_ast.specs.View.{place_of, program_of}
use Rattle.interp_store.specs.View.{reference_of}
use Rattle.interp_store.specs.layer.Agrees.{frames_of}
use Rattle.interp_store.specs.layer.Frames as on
use Rattle.interp_eval.specs.layer.Comes.{found}
use Rattle.cabs.proofs.Sweeps.{found_for}
use Rattle.cabs.proofs.sweeping.place_here.Goals as goal

pub returns-clause-does : goal.returns-clause-does
returns-clause-does c = λ run f h.
    let m = c.args.machine.now in
    let p = program_of m.program.now in
    let a = place_of c.args.a.now in
    found_for run p reference_of on.a_place (found a p) (on.place a) (λ s. refl) f c.args.limit c.args.clock.now.spent (frames_of m) m.scene c.place.result c.place.new.clock _ refl (c.place.ensures.does run) h
