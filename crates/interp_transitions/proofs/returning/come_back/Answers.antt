use Rattle.std.proofs.Common.{ℤ, ◌∷◌, sym, subst, map}
use Rattle.std.specs.Prelude.{Option, option_map}
use Rattle.typed_ast.specs.View.{program_of}
use Rattle.csem.specs.History.{Left}
use Rattle.csem.specs.Meaning.{word_of, value_left}
use Rattle.interp_store.specs.View.{reference_of}
use Rattle.interp_store.specs.layer.Presents.{back_at}
use Rattle.interp_store.specs.layer.Steps.{went_back}
use Rattle.interp_store.specs.layer.Views.{back_of, flow_of}
use Rattle.interp_store.specs.layer.Agrees.{Agrees, frames_of, onto, state_in}
use Rattle.interp_transitions.proofs.Called.{back_acts}
use Rattle.interp_transitions.proofs.returning.come_back.Goals as goal

pub returns-clause-acts : goal.returns-clause-acts
returns-clause-acts c = λ o.
    let m = c.args.machine.now in
    let r = c.args.r in
    let p = program_of m.program.now in
    let value = value_left r.is_main (flow_of c.args.flow) in
    let s = back_at r.count r.base (map reference_of r.arrays.items) value (state_in m.scene o) in
    let P : Option ℤ → Type 0 = λ v. Agrees (onto (frames_of m) (went_back p (back_of r.back) v s)) c.go_back.result (frames_of m) s in
    back_acts p (back_of r.back) value s (frames_of m) c.go_back.result c.restore.new.scene (record o { history = Left (option_map word_of value) ∷ o.history })
    (sym (c.restore.ensures o value)) (subst P c.value_left-value.ensures (c.go_back.ensures p s (frames_of m)))
