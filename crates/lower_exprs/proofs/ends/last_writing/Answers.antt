use Rattle.std.proofs.Common.{◌≡◌, ◌∷◌, ◌++◌, [], ℕ, false, rules}
use Rattle.typed_ast.specs.View.{argument_of}
use Rattle.lower_exprs.specs.inside.Given.{given_writes}
use Rattle.lower_exprs.proofs.Behind.{nothing_more, writes_before_last}
use Rattle.lower_exprs.proofs.ends.last_writing.Goals as goal

pub loop-last-preserved : goal.loop-last-preserved
loop-last-preserved c =
    let l = c.loop-last in
    let left : l.left.now ≡ c.in-Some.front.now ++ c.in-Some.last.now ∷ [] = search rules in
    let still : (x : ℕ) → given_writes (argument_of c.in-Some.last.now) x ≡ false = search rules in (
      c.in-Some.last.now ∷ l.invariant.0,
      writes_before_last l.left.now c.in-Some.front.now l.invariant.0 c.args.arguments.now c.in-Some.last.now left l.invariant.1,
      nothing_more c.in-Some.last.now l.invariant.0 still l.invariant.2,
    )
