use Rattle.std.proofs.Common.{◌≡◌, ℕ, List, ◌++◌, nat_eq, sym, ap, ◌∙◌}
use Rattle.std.specs.List.{list_any, filter}
use Rattle.macros_substitution.specs.HideSets.{members}
use Rattle.macros_substitution.proofs.Tables.{shares_all}
use Rattle.macros_substitution.proofs.hide_sets.HideSets.shared.Goals as goal

pub returns-clause-ok : goal.returns-clause-ok
returns-clause-ok c =
    let e : c.loop-left.left ≡ c.args.meeting = cc in
    let kept : ℕ → List ℕ = λ s. filter (λ n. list_any (nat_eq n) (members c.args.self.now c.args.other)) (members c.args.self.now s) in
    let rest = ap kept e ∙ shares_all c.args.self.now c.args.meeting c.args.other c.requires.holds ∙ ap (members c.args.self.now) (sym e) in
    (c.loop-left.invariant.known, sym (c.loop-left.invariant.same ∙ ap (λ t. c.loop-left.names.items ++ t) rest))
