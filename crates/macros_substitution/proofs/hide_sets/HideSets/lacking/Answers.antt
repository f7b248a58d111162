use Rattle.std.proofs.Common.{◌≡◌, ◌++◌, sym, ap, ◌∙◌, append-nil}
use Rattle.std.specs.List.{filter}
use Rattle.macros_substitution.specs.HideSets.{members, is_new}
use Rattle.macros_substitution.proofs.Tables.{lacks_nothing}
use Rattle.macros_substitution.proofs.hide_sets.HideSets.lacking.Goals as goal

pub returns-clause-ok : goal.returns-clause-ok
returns-clause-ok c =
    let e : c.loop-left.left ≡ c.args.meeting = cc in
    let rest = ap (λ s. filter (is_new (members c.args.self.now c.args.other)) (members c.args.self.now s)) e ∙ lacks_nothing c.args.self.now c.args.meeting c.args.other c.requires in
    sym (c.loop-left.invariant ∙ ap (λ t. c.loop-left.names.items ++ t) rest ∙ append-nil c.loop-left.names.items)
