use Rattle.std.proofs.Common.{refl, sym, subst}
use Rattle.std.proofs.lemmas.Result.{err_from_is_err_and}
use Rattle.pp_expand.specs.Expands.{HaveFiles}
use Rattle.pp_expand.specs.Expansion.{of_directive}
use Rattle.pp.specs.Phase4.{expand}
use Rattle.pp.specs.inside.Stepping.{StopsAs, GivesFirst}
use Rattle.pp.proofs.StateLemmas.{expand_gives_first, expand_stops}
use Rattle.pp.proofs.state.State.expand_first.Goals as goal

pub expand_behind-requires : goal.expand_behind-requires
expand_behind-requires c = subst (HaveFiles c.args.names.now) (sym c.in_ok-list.ensures.ok) c.requires.files

pub returns-in_err-expand_behind-clause-err : goal.returns-in_err-expand_behind-clause-err
returns-in_err-expand_behind-clause-err c =
    let p = err_from_is_err_and c.from_residual-in_err-expand_behind.result c.from_residual-in_err-expand_behind.ensures.1 in
    rw (p.1, p.2) (λ texts s keeps a. subst (λ l. StopsAs s.given c.args.names.now c.in_err-expand_behind.field-0.0 (expand texts l of_directive s)) c.in_ok-list.ensures.ok
    (expand_stops c.in_err-expand_behind.field-0.0 texts c.args.names.now c.in_ok-list.list c.args.self.now c.expand_behind.new.budget s a (c.in_err-expand_behind.ensures.expansion s.macros texts a.table_is keeps)))

pub returns-clause-ok : goal.returns-clause-ok
returns-clause-ok c texts s keeps a =
    let new = record c.args.self.now { budget = c.expand_behind.new.budget } in
    let e = c.in_ok-expand_behind.ensures.expansion s.macros texts a.table_is keeps in
    subst (λ l. GivesFirst c.args.most c.expand_behind.new.given.items c.args.names.now new (expand texts l of_directive s)) c.in_ok-list.ensures.ok
    (expand_gives_first texts c.args.names.now c.in_ok-list.list c.args.most c.new-first.result.items c.expand_behind.new.given.items e.0 c.args.self.now new s a e.1 c.new-first.ensures.items e.2 refl refl refl)
