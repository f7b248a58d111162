use Rattle.std.proofs.Common.{◌≡◌, [], ◌∷◌, ◌++◌}
use Rattle.std.proofs.lemmas.Result.{on_ok_weaker}
use Rattle.lexer.proofs.CarryLemmas.{closes, closes_stops, on_err_any}
use Rattle.lexer.proofs.lexing.Stored.close.Goals as goal

pub returns-clause-ok : goal.returns-clause-ok
returns-clause-ok c =
    let e : c.as_slice.result.now ≡ c.args.self.now.bytes.items ++ 0 ∷ [] = cc (c.as_slice.ensures.value, c.in_ok-push.ensures.items) in
    let s = c.args.self.now in
    on_ok_weaker c.push-2.result (λ p. closes c.args.names.now c.intern.new.self s c.push-2.new.self c.in-Some.pos c.in-Ok.n c.in-Some.is p.pending_is p.tokens_are (cc (e, c.in-Ok.ensures.text)) c.in-Ok.ensures.keeps (cc (e, c.in-Ok.ensures.grows))) c.push-2.ensures.ok

pub returns-clause-stops : goal.returns-clause-stops
returns-clause-stops c =
    let e : c.as_slice.result.now ≡ c.args.self.now.bytes.items ++ 0 ∷ [] = cc (c.as_slice.ensures.value, c.in_ok-push.ensures.items) in
    on_err_any c.push-2.result (closes_stops c.args.names.now c.intern.new.self c.args.self.now c.in-Some.pos c.in-Some.is (cc (e, c.in-Ok.ensures.grows)))
