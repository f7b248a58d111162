use Rattle.std.proofs.lemmas.Result.{on_ok_weaker}
use Rattle.lexer.proofs.CarryLemmas.{close_stops, kind_stops, push_stops, push_passes, keeps_through, on_err_any}
use Rattle.lexer.proofs.ReadingLemmas.{push_ends}
use Rattle.lexer.proofs.lexing.Stored.take_other.Goals as goal

pub returns-in_err-close-clause-stops : goal.returns-in_err-close-clause-stops
returns-in_err-close-clause-stops c = on_err_any c.from_residual.result (close_stops _ _ _ c.args.token.now c.requires c.in_err-close.ensures.stops)

pub returns-in_err-kind-clause-stops : goal.returns-in_err-kind-clause-stops
returns-in_err-kind-clause-stops c = on_err_any c.from_residual-in_err-kind.result (kind_stops _ _ _ _ c.close.new.self c.args.token.now c.requires c.in_ok-close.ensures.ok c.in_err-kind.ensures.same)

pub returns-clause-ok : goal.returns-clause-ok
returns-clause-ok c = on_ok_weaker c.push.result (λ p. push_passes _ c.close.new.names c.kind_of.new.names _ c.close.new.self c.push.new.self c.args.token.now c.in_ok-kind.kind c.pos.result c.requires c.in_ok-close.ensures.ok c.in_ok-close.ensures.none c.in_ok-kind.ensures.ok c.in_ok-kind.ensures.texts c.in_ok-kind.ensures.keeps c.pos.ensures p) c.push.ensures.ok

pub returns-clause-stops : goal.returns-clause-stops
returns-clause-stops c = on_err_any c.push.result (push_stops _ c.close.new.names c.kind_of.new.names _ c.close.new.self c.args.token.now c.requires c.in_ok-close.ensures.ok c.in_ok-close.ensures.none c.in_ok-kind.ensures.texts)

pub returns-clause-keeps : goal.returns-clause-keeps
returns-clause-keeps c = keeps_through c.args.names.now c.close.new.names c.kind_of.new.names c.in_ok-close.ensures.keeps c.in_ok-kind.ensures.keeps

pub returns-clause-ends : goal.returns-clause-ends
returns-clause-ends c = on_ok_weaker c.push.result (λ p. push_ends c.kind_of.new.names c.close.new.self c.push.new.self c.args.token.now c.in_ok-kind.kind c.pos.result c.requires c.in_ok-kind.ensures.ok p) c.push.ensures.ok
