use Rattle.std.proofs.Common.{◌≡◌, ◌++◌, sym, subst, ap, ◌∙◌}
use Rattle.macros_substitution.specs.HideSets.{members, united, NamesBelow}
use Rattle.macros_substitution.proofs.Tables.{new_below, united_nothing}
use Rattle.macros_substitution.proofs.WholeLemmas.{united_holds}
use Rattle.macros_substitution.proofs.hide_sets.HideSets.united.Goals as goal

pub returns-then-behind-eq0-clause-ok : goal.returns-then-behind-eq0-clause-ok
returns-then-behind-eq0-clause-ok c =
    let e : c.args.behind ≡ 0 = cc in
    (c.requires.first, sym (ap (λ b. united (members c.args.self.now c.args.set) (members c.args.self.now b)) e ∙ united_nothing (members c.args.self.now c.args.set)))

pub returns-in_err-made-clause-names : goal.returns-in_err-made-clause-names
returns-in_err-made-clause-names c = λ count b. c.with_names.ensures.names count (new_below count c.args.self.now c.args.set c.args.behind _ c.in_ok-names.ensures.ok b) b

pub note_whole-requires-clause-holds : goal.note_whole-requires-clause-holds
note_whole-requires-clause-holds c =
    united_holds c.args.self.now c.with_names.new.self c.args.set c.args.behind _ c.with_names.ensures.keeps c.requires.first
    (c.in_ok-made.ensures.ok.1 ∙ ap (λ t. t ++ members c.args.self.now c.args.behind) c.in_ok-names.ensures.ok)

pub returns-in_err-note_whole-clause-names : goal.returns-in_err-note_whole-clause-names
returns-in_err-note_whole-clause-names c = λ count b. subst (NamesBelow count) (sym c.note_whole.ensures.same) (c.with_names.ensures.names count (new_below count c.args.self.now c.args.set c.args.behind _ c.in_ok-names.ensures.ok b) b)

pub returns-clause-names : goal.returns-clause-names
returns-clause-names c = λ count b. subst (NamesBelow count) (sym c.note_whole.ensures.same) (c.with_names.ensures.names count (new_below count c.args.self.now c.args.set c.args.behind _ c.in_ok-names.ensures.ok b) b)
