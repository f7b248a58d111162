use Rattle.std.proofs.Common.{◌≡◌, ◌-◌, sym, ap, ◌∙◌}
use Rattle.frames_layout.specs.declared.plan.Stand.{Stand}
use Rattle.frames_layout.specs.layer.Plans.{walks, owed, holds_in, most_onward}
use Rattle.frames_layout.proofs.checking.comes.Goals as goal

pub returns-in-Some : goal.returns-in-Some
returns-in-Some c =
    let code = c.args.code.now in
    c.walks.ensures
    ∙ ap (λ n. walks code most_onward n c.in-Some.stand.old c.args.from) (c.saturating_sub-jumps.ensures ∙ ap (λ m. m - c.args.before) c.owed.ensures)
    ∙ ap (holds_in (λ (e : Stand). walks code most_onward (owed e.is_owed - c.args.before) e.old c.args.from)) c.in-Some.ensures
