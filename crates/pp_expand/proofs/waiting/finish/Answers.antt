use Rattle.std.proofs.Common.{[], refl, length}
use Rattle.std.proofs.lemmas.Result.{err_from_is_err_and}
use Rattle.macros_substitution.specs.Meaning.{hidden_all, hidden_lists}
use Rattle.pp_expand.specs.inside.Waits.{call_of}
use Rattle.pp_expand.proofs.Sets.{extends_both, are_in_more}
use Rattle.pp_expand.proofs.Proceeds.{finish_ok, finish_fails}
use Rattle.pp_expand.proofs.waiting.finish.Goals as goal

pub returns-in_err-new-clause-finishes : goal.returns-in_err-new-clause-finishes
returns-in_err-new-clause-finishes c = λ known later once below grown.
    let p = err_from_is_err_and c.from_residual.result c.from_residual.ensures.1 in
    rw (p.1, p.2) (finish_fails known later c.args.at c.requires.all c.in_err-new.field-0.0 [] [] (c.in_err-new.ensures.value known.texts later (call_of c.args.at.at (hidden_lists known.texts later c.args.at.arguments.items)) once below grown refl (λ i h. refl)))

pub put_in_front-requires-clause-behind : goal.put_in_front-requires-clause-behind
put_in_front-requires-clause-behind c =
    are_in_more _ _ c.substitute.ensures.keeps.longer c.args.at.level.rest.items c.requires.known.level_in.0

pub returns-in_err-put_in_front-clause-names : goal.returns-in_err-put_in_front-clause-names
returns-in_err-put_in_front-clause-names c = λ count below. c.put_in_front.ensures.names count (c.substitute.ensures.names count below)

pub returns-clause-finishes : goal.returns-clause-finishes
returns-clause-finishes c = λ known later once below grown onward left.
    let grown_new = extends_both _ _ _ c.put_in_front.ensures.keeps grown in
    finish_ok known later c.args.at c.requires.all (hidden_all known.texts later c.in_ok-new.new.items) (record { rest = c.put_in_front.new.rest; out = c.args.at.level.out; end = c.args.at.level.end }) (c.in_ok-new.ensures.value known.texts later (call_of c.args.at.at (hidden_lists known.texts later c.args.at.arguments.items)) once below grown_new refl (λ i h. refl)) (c.in_ok-put_in_front.ensures.ok known.texts later once (c.substitute.ensures.names (length known.texts) below) grown) refl refl onward left

pub returns-clause-known : goal.returns-clause-known
returns-clause-known c =
    (c.in_ok-put_in_front.ensures.known, are_in_more _ _ (extends_both _ _ _ c.substitute.ensures.keeps c.put_in_front.ensures.keeps).longer c.args.at.level.out.items c.requires.known.level_in.1)

pub returns-clause-names : goal.returns-clause-names
returns-clause-names c = λ count below. c.put_in_front.ensures.names count (c.substitute.ensures.names count below)
