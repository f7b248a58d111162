use Rattle.std.proofs.Common.{◌-◌, ◌∙◌, ap, sym, subst, map, drop}
use Rattle.typed_ast.specs.View.{argument_of}
use Rattle.lower_exprs.specs.inside.Ends.{calling_in, write_nothing}
use Rattle.lower_exprs.proofs.Behind.{calling_behind, writing_behind}
use Rattle.lower_exprs.proofs.Passed.{drop_map}
use Rattle.lower_exprs.proofs.ends.Ends.behind.Goals as goal

pub returns : goal.returns
returns c = λ arguments are. (
  c.saturating_sub.ensures ∙ ap (λ n. n - c.args.count) are.0 ∙ calling_behind c.args.count (map argument_of arguments) ∙ ap calling_in (drop_map c.args.count arguments),
  subst (λ n. write_nothing (drop n (drop c.args.count arguments))) (sym c.saturating_sub-2.ensures) (writing_behind c.args.self.writing c.args.count arguments are.1),
)
