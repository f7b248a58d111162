use Rattle.phases.proofs.PunctuatorLemmas.{quadruple_front, triple_front, pair_front, single_front, no_front}
use Rattle.phases.proofs.cursor.Cursor.punctuator.Goals as goal

pub returns-then-is_quadruple : goal.returns-then-is_quadruple
returns-then-is_quadruple c =
    quadruple_front c.args.self c.ahead-first.result c.ahead-second.result c.ahead-third.result c.ahead-fourth.result (record { first = c.ahead-first.ensures; second = c.ahead-second.ensures; third = c.ahead-third.ensures; fourth = c.ahead-fourth.ensures }) (cc)

pub returns-then-is_triple : goal.returns-then-is_triple
returns-then-is_triple c =
    triple_front c.args.self c.ahead-first.result c.ahead-second.result c.ahead-third.result c.ahead-fourth.result (record { first = c.ahead-first.ensures; second = c.ahead-second.ensures; third = c.ahead-third.ensures; fourth = c.ahead-fourth.ensures }) (cc) (cc)

pub returns-then-is_pair : goal.returns-then-is_pair
returns-then-is_pair c =
    pair_front c.args.self c.ahead-first.result c.ahead-second.result c.ahead-third.result c.ahead-fourth.result (record { first = c.ahead-first.ensures; second = c.ahead-second.ensures; third = c.ahead-third.ensures; fourth = c.ahead-fourth.ensures }) (cc) (cc) (cc)

pub returns-then-is_single : goal.returns-then-is_single
returns-then-is_single c =
    single_front c.args.self c.ahead-first.result c.ahead-second.result c.ahead-third.result c.ahead-fourth.result (record { first = c.ahead-first.ensures; second = c.ahead-second.ensures; third = c.ahead-third.ensures; fourth = c.ahead-fourth.ensures }) (cc) (cc) (cc) (cc)

pub returns : goal.returns
returns c =
    no_front c.args.self c.ahead-first.result c.ahead-second.result c.ahead-third.result c.ahead-fourth.result (record { first = c.ahead-first.ensures; second = c.ahead-second.ensures; third = c.ahead-third.ensures; fourth = c.ahead-fourth.ensures }) (cc) (cc) (cc) (cc)
