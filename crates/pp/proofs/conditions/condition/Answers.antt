use Rattle.std.proofs.Common.{◌++◌, sym, ap, subst, ◌∙◌}
use Rattle.pp_expand.specs.Expands.{HaveFiles}
use Rattle.pp.specs.Phase4.{defined_resolved, condition_by}
use Rattle.pp.specs.Held.{presumed_of}
use Rattle.pp.specs.inside.Stepping.{placed, Asks}
use Rattle.pp.proofs.FileLemmas.{placed_files}
use Rattle.pp.proofs.conditions.condition.Goals as goal

pub resolved-requires : goal.resolved-requires
resolved-requires c =
    let p = presumed_of c.args.state.now.presumed in
    let e = c.deref.ensures.value ∙ c.in_ok-put.ensures.ok ∙ ap (λ l. l ++ placed p c.args.further.now) c.new-placed.ensures.items in
    subst (HaveFiles c.args.names.now) (sym e) (placed_files c.args.names.now p c.args.further.now c.requires.sound.has_file)

pub returns-clause-asks : goal.returns-clause-asks
returns-clause-asks c texts s keeps a =
    let q = presumed_of c.args.state.now.presumed in
    let e = c.deref.ensures.value ∙ c.in_ok-put.ensures.ok ∙ ap (λ l. l ++ placed q c.args.further.now) c.new-placed.ensures.items in
    let line = e ∙ ap (λ p. placed p c.args.further.now) (sym a.presumed_is) in
    subst (λ o. Asks s.given c.expanded_truth.result c.args.names.now c.expanded_truth.new.state (condition_by texts c.args.at o s)) (sym (ap (defined_resolved 0 s) (sym line) ∙ c.in_ok-list.ensures.ok s a))
    (c.expanded_truth.ensures.asks texts s keeps a)
