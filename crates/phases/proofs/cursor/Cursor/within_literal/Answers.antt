use Rattle.std.proofs.Common.{◌≡◌, sym, subst}
use Rattle.phases.specs.inside.Along.{plus}
use Rattle.phases.specs.inside.Lexical.{to_close}
use Rattle.phases.specs.inside.Reading.{bytes_at}
use Rattle.phases.proofs.RunLemmas.{close_pass}
use Rattle.phases.proofs.cursor.Cursor.within_literal.Goals as goal

pub returns-clause-left : goal.returns-clause-left
returns-clause-left c =
    subst (λ k. to_close c.args.close c.args.escapes k (bytes_at c.args.self) ≡ plus c.ordinary.result.count (to_close c.args.close c.args.escapes k (bytes_at c.ordinary.result.after))) (sym c.if-escaped.false) (close_pass c.args.close c.args.escapes c.args.self c.ordinary.result c.ordinary.ensures)
