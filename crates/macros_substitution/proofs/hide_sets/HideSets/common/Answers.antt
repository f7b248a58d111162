use Rattle.std.proofs.Common.{◌≡◌, sym, subst, ap, arith, nat_eq, ◌∙◌}
use Rattle.std.specs.List.{list_any, filter}
use Rattle.macros_substitution.specs.HideSets.{members, AreBelow}
use Rattle.macros_substitution.proofs.Tables.{common_itself, common_nothing, members_below, below_filter, below_split}
use Rattle.macros_substitution.proofs.hide_sets.HideSets.common.Goals as goal

pub returns-then-set-other-clause-ok : goal.returns-then-set-other-clause-ok
returns-then-set-other-clause-ok c =
    let e : c.args.set ≡ c.args.other = cc in
    (c.requires, common_itself (members c.args.self.now c.args.set) ∙ ap (λ o. filter (λ n. list_any (nat_eq n) (members c.args.self.now o)) (members c.args.self.now c.args.set)) e)

pub returns-then-other-eq0-clause-ok : goal.returns-then-other-eq0-clause-ok
returns-then-other-eq0-clause-ok c =
    let e : c.args.other ≡ 0 = cc in
    (omega (arith, c.empty.ensures), ap (members c.args.self.now) c.empty.ensures ∙ common_nothing (members c.args.self.now c.args.set) ∙ ap (λ o. filter (λ n. list_any (nat_eq n) (members c.args.self.now o)) (members c.args.self.now c.args.set)) (sym e))

pub returns-clause-names : goal.returns-clause-names
returns-clause-names c = λ count below.
    let both = subst (λ t. AreBelow count t) (sym c.in_ok-found.ensures.ok.1) (below_filter count _ _ (members_below count c.args.self.now c.args.set below)) in
    c.with_names.ensures.names count (below_split count _ _ both).0 below
