use Rattle.frames_opt.proofs.Results.{improved_from}
use Rattle.frames_opt.proofs.functions.improved.Goals as goal

pub returns : goal.returns
returns c =
    improved_from (λ v. v.items) c.args.room c.args.code.now c.in_ok-middle.middle.code.items c.deref-4.result.now c.deref-6.result.now c.in_ok-middle.middle.offered.items c.deref-3.result.now
    c.in_ok-marks.marks.items c.deref.result.now c.deref.result.now c.in_ok-states.states.items c.deref-5.result.now
    c.in_ok-marks.ensures c.deref.ensures.value c.deref.ensures.value c.in_ok-middle.ensures.code c.in_ok-middle.ensures.offered c.deref-3.ensures.value c.deref-4.ensures.value c.in_ok-states.ensures
    c.deref-5.ensures.value c.deref-6.ensures.value c.swept.result c.swept.ensures
