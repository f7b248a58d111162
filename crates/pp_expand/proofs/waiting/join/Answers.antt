use Rattle.std.proofs.Common.{refl}
use Rattle.pp_expand.proofs.Proceeds.{join_is, joined_in, join_weight}
use Rattle.pp_expand.proofs.waiting.join.Goals as goal

pub proceed-requires-clause-known : goal.proceed-requires-clause-known
proceed-requires-clause-known c =
    joined_in _ c.args.at c.requires.known c.args.argument c.push.new.self c.requires.argument c.in_ok-push.ensures.items

pub returns-clause-joins : goal.returns-clause-joins
returns-clause-joins c = λ known later once below grown.
    join_is known later c.args.waiting.now.items c.proceed.new.waiting.items c.args.at (record c.args.at { full = c.push.new.self }) c.args.argument c.proceed.result refl c.in_ok-push.ensures.items (c.proceed.ensures.proceeds known later once below grown)

pub returns-clause-bound : goal.returns-clause-bound
returns-clause-bound c =
    join_weight c.args.at c.args.argument c.push.new.self c.in_ok-push.ensures.items c.args.waiting.now.items c.proceed.new.waiting.items c.proceed.result c.proceed.ensures.bound c.proceed.ensures.done
