use Rattle.std.proofs.Common.{◌≡◌, ◌∷◌, ◌++◌, [], length, true, false, refl, sym, ◌∙◌, rules}
use Rattle.typed_ast.specs.View.{argument_of}
use Rattle.lower_exprs.specs.inside.Given.{given_calls}
use Rattle.lower_exprs.proofs.Behind.{calls_at_last, calls_before_last}
use Rattle.lower_exprs.proofs.ends.last_calling.Goals as goal

pub returns-then-argument_calls : goal.returns-then-argument_calls
returns-then-argument_calls c =
    let l = c.loop-last in
    let left : l.left.now ≡ c.in-Some.front.now ++ c.in-Some.last.now ∷ [] = search rules in
    let calls : given_calls (argument_of c.in-Some.last.now) ≡ true = search rules in
    calls_at_last l.left.now c.in-Some.front.now c.in-Some.last.now (length l.left.now) left calls refl ∙ l.invariant

pub loop-last-preserved : goal.loop-last-preserved
loop-last-preserved c =
    let l = c.loop-last in
    let left : l.left.now ≡ c.in-Some.front.now ++ c.in-Some.last.now ∷ [] = search rules in
    let quiet : given_calls (argument_of c.in-Some.last.now) ≡ false = search rules in
    sym (calls_before_last l.left.now c.in-Some.front.now c.in-Some.last.now left quiet) ∙ l.invariant
