use Rattle.std.proofs.Common.{List, subst}
use Rattle.macros_substitution.specs.Substitution.{Hidden}
use Rattle.pp_expand.specs.Expands.{ending_of}
use Rattle.pp_expand.specs.Pulled.{pulled}
use Rattle.pp_expand.specs.inside.Pulls.{PullsAs}
use Rattle.pp_expand.proofs.Streams.{fresh_in, fresh_behind}
use Rattle.pp_expand.proofs.streaming.pull_all.Goals as goal

pub pull-requires : goal.pull-requires
pull-requires c = fresh_in _ c.args.list.now.items c.take_fresh.new.list.items c.args.fresh.now.items c.requires c.in_default.ensures.ok.1

pub returns-clause-pulls : goal.returns-clause-pulls
returns-clause-pulls c = λ macros later is_table below grown.
    subst (λ (l : List Hidden). PullsAs c.args.names.now later c.pull.result c.pull.new.list.items c.pull.new.left (pulled (record { macros = macros; texts = c.args.names.now }) l (ending_of c.args.end) c.args.left.now)) (fresh_behind c.args.names.now later c.args.list.now.items c.take_fresh.new.list.items c.args.fresh.now.items c.in_default.ensures.ok.1) (c.pull.ensures.pulls macros later is_table below grown)
