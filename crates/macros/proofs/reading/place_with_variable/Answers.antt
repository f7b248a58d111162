use Rattle.std.proofs.Common.{Some, None, length, sym, ap, ◌∙◌}
use Rattle.macros.specs.inside.Reading.{place_behind}
use Rattle.macros.proofs.ReadingLemmas.{place_variable, names_length}
use Rattle.macros.proofs.reading.place_with_variable.Goals as goal

pub returns-in-Some : goal.returns-in-Some
returns-in-Some c = λ texts are.
    place_variable c.args.name.now texts (Some c.in-Some.place) c.args.variadic (sym c.in-Some.is ∙ c.place_of.ensures texts are)

pub returns-then-is_variable : goal.returns-then-is_variable
returns-then-is_variable c = λ texts are.
    ap Some (c.len.ensures.len ∙ names_length c.args.names.now c.args.parameters.now.keys texts are)
    ∙ ap (λ b. place_behind None b (length texts)) (sym c.if-is_variable.true ∙ c.is_variable.ensures)
    ∙ place_variable c.args.name.now texts None c.args.variadic (sym c.in_default.is ∙ c.place_of.ensures texts are)

pub returns : goal.returns
returns c = λ texts are.
    ap (λ b. place_behind None b (length texts)) (sym c.if-is_variable.false ∙ c.is_variable.ensures)
    ∙ place_variable c.args.name.now texts None c.args.variadic (sym c.in_default.is ∙ c.place_of.ensures texts are)
