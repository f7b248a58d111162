use Rattle.std.proofs.Common.{subst, sym}
use Rattle.interp_store.specs.declared.frames.Back.{Back}
use Rattle.interp_store.specs.layer.Agrees.{Agrees, onto}
use Rattle.interp_store.specs.layer.Steps.{went_back}
use Rattle.interp_store.specs.layer.Views.{back_of}
use Rattle.interp_transitions.proofs.returning.go_back.Goals as goal

pub returns-in-ToCaller : goal.returns-in-ToCaller
returns-in-ToCaller c = λ p s fs.
    let P : Back → Type 0 = λ b. Agrees (onto fs (went_back p (back_of b) c.args.value s)) c.call_value.result fs s in
    subst P (sym c.in-ToCaller.is) (c.call_value.ensures p s fs)
