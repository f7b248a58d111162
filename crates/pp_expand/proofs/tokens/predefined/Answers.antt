use Rattle.std.proofs.Common.{refl}
use Rattle.macros_substitution.specs.Meaning.{hidden_of}
use Rattle.pp_expand.proofs.Predefined.{token_is}
use Rattle.pp_expand.proofs.tokens.predefined.Goals as goal

pub returns-clause-ok : goal.returns-clause-ok
returns-clause-ok c =
    (refl, λ macros sets. token_is (record { macros = macros; texts = c.args.names.now }) (hidden_of c.args.names.now sets c.args.x.now) c.in_ok-token.token c.in_ok-kind.kind _ c.spelling.result.now c.space_before.result c.pos-pos.result c.in_ok-token.ensures.ok (c.in_ok-kind.ensures macros) c.spelling.ensures c.space_before.ensures c.pos-pos.ensures)
