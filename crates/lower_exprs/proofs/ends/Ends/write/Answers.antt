use Rattle.std.proofs.Common.{◌≡◌, ◌∙◌, ap, map, take, rules}
use Rattle.typed_ast.specs.View.{argument_of, arguments_of}
use Rattle.lower_correct.specs.Values as values
use Rattle.lower_exprs.proofs.Behind.{front_writes}
use Rattle.lower_exprs.proofs.ends.Ends.write.Goals as goal

pub returns-in-Some : goal.returns-in-Some
returns-in-Some c =
    let front : c.in-Some.front.now ≡ take c.args.self.writing c.args.arguments.now = search rules in
    c.arguments_write.ensures ∙ ap (λ l. values.arguments_write (arguments_of (map argument_of l)) c.args.object) front ∙ front_writes c.args.self.writing c.args.arguments.now c.args.object c.requires.1
