use Rattle.std.proofs.Common.{◌≡◌, ◌≤◌, ◌<◌, MatchOption, arith, subst}
use Rattle.lexer.proofs.NumberLemmas.{too_long}
use Rattle.lexer.proofs.numbers.in_range.Goals as goal

pub returns-in-Err : goal.returns-in-Err
returns-in-Err c v h =
    let w = c.in-Some.value in
    let e : w ≡ v = subst (λ o. MatchOption o (18446744073709551615 < v) (λ x. x ≡ v)) c.in-Some.is h in
    let low : 4294967296 ≤ w = omega (arith, c.in-Err.ensures) in
    let high : w ≤ 18446744073709551615 = omega arith in
    too_long v c.args.types.now (omega arith) (omega arith)
