use Rattle.std.proofs.Common.{sym, subst, ◌∙◌, drop}
use Rattle.pp.specs.Lines.{first_end}
use Rattle.pp.specs.Groups.{with_line}
use Rattle.pp.specs.Rest.{rest_done}
use Rattle.pp.specs.inside.Stepping.{role_meant, line_with, Rests, RestsOrStops}
use Rattle.pp.proofs.BranchLemmas.{alone_answers, alone_skipped}
use Rattle.pp.proofs.file.directive_done.Goals as goal

pub returns-then-not-is_active-clause-rests : goal.returns-then-not-is_active-clause-rests
returns-then-not-is_active-clause-rests c around p s keeps a =
    let l = line_with c.args.line.now (first_end (drop c.args.index c.args.file.now.ends)) in
    subst (λ w. Rests c.args.names.now c.args.state.now around c.args.file.now.conditionals p (rest_done around c.args.file.now.conditionals (with_line (role_meant w) l p) s)) (sym c.in-StandsAlone.is)
    (alone_skipped c.args.names.now c.args.state.now around c.args.file.now.conditionals l p s (sym c.is_active.ensures ∙ c.if-not-is_active.true) a)

pub returns-else-not-is_active-clause-rests : goal.returns-else-not-is_active-clause-rests
returns-else-not-is_active-clause-rests c around p s keeps a =
    let l = line_with c.args.line.now (first_end (drop c.args.index c.args.file.now.ends)) in
    subst (λ w. RestsOrStops s.given c.directive.result c.directive.new.names c.directive.new.self around c.args.file.now.conditionals p (rest_done around c.args.file.now.conditionals (with_line (role_meant w) l p) s)) (sym c.in-StandsAlone.is)
    (alone_answers c.directive.result c.args.names.now c.directive.new.names c.args.state.now c.directive.new.self around c.args.file.now.conditionals l p s (sym c.is_active.ensures ∙ c.if-not-is_active.false) a
    (c.directive.ensures.does around.texts around.enter keeps))
