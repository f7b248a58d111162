use Rattle.std.proofs.Common.{sym, subst}
use Rattle.pp_expand.specs.Streams.{Knows}
use Rattle.pp_expand.proofs.Sets.{extends_same}
use Rattle.pp_expand.proofs.Streams.{call_pulls, call_known, call_files, call_fails}
use Rattle.pp_expand.proofs.streaming.Expander.try_next.Goals as goal

pub returns-in-Ok-clause-pulls : goal.returns-in-Ok-clause-pulls
returns-in-Ok-clause-pulls c = λ macros texts is_table keeps k goes.
    call_pulls macros c.args.names.now (record { list = c.self.inside.list.items; fresh = c.self.inside.fresh.items; sets = c.self.inside.sets; end = c.self.inside.end; refused = c.self.inside.refused }) c.args.self.now (record { list = c.pull_all-given.new.list.items; fresh = c.pull_all-given.new.fresh.items; sets = c.pull_all-given.new.sets; end = c.self.inside.end; refused = c.self.inside.refused }) c.self.view_is c.self.invariant c.pull_all-given.ensures.keeps c.pull_all-given.ensures.names c.left-left.result c.args.budget.now c.pull_all-given.new.left c.left-left.ensures texts keeps k c.in-Ok.ensures.fresh c.new.result c.new.ensures c.in-Ok.found c.shown.result c.shown.ensures (c.in-Ok.ensures.pulls macros c.pull_all-given.new.sets is_table (subst (Knows c.args.names.now) (sym c.self.view_is) k).names_below (extends_same c.pull_all-given.new.sets))

pub returns-in-Ok-clause-known : goal.returns-in-Ok-clause-known
returns-in-Ok-clause-known c = λ macros is_table k.
    call_known macros c.args.names.now (record { list = c.self.inside.list.items; fresh = c.self.inside.fresh.items; sets = c.self.inside.sets; end = c.self.inside.end; refused = c.self.inside.refused }) c.args.self.now (record { list = c.pull_all-given.new.list.items; fresh = c.pull_all-given.new.fresh.items; sets = c.pull_all-given.new.sets; end = c.self.inside.end; refused = c.self.inside.refused }) c.self.view_is c.self.invariant c.pull_all-given.ensures.keeps c.pull_all-given.ensures.names c.left-left.result c.args.budget.now c.pull_all-given.new.left c.left-left.ensures c.in-Ok.ensures.fresh c.in-Ok.found (c.in-Ok.ensures.pulls macros c.pull_all-given.new.sets is_table (subst (Knows c.args.names.now) (sym c.self.view_is) k).names_below (extends_same c.pull_all-given.new.sets)) k

pub returns-in-Ok-clause-files : goal.returns-in-Ok-clause-files
returns-in-Ok-clause-files c = λ macros is_table k.
    call_files macros c.args.names.now (record { list = c.self.inside.list.items; fresh = c.self.inside.fresh.items; sets = c.self.inside.sets; end = c.self.inside.end; refused = c.self.inside.refused }) c.args.self.now (record { list = c.pull_all-given.new.list.items; fresh = c.pull_all-given.new.fresh.items; sets = c.pull_all-given.new.sets; end = c.self.inside.end; refused = c.self.inside.refused }) c.self.view_is c.self.invariant c.pull_all-given.ensures.keeps c.pull_all-given.ensures.names c.left-left.result c.args.budget.now c.pull_all-given.new.left c.left-left.ensures c.in-Ok.ensures.fresh c.in-Ok.found c.shown.result c.shown.ensures (c.in-Ok.ensures.pulls macros c.pull_all-given.new.sets is_table (subst (Knows c.args.names.now) (sym c.self.view_is) k).names_below (extends_same c.pull_all-given.new.sets)) k

pub returns-in-Err-clause-pulls : goal.returns-in-Err-clause-pulls
returns-in-Err-clause-pulls c = λ macros texts is_table keeps k goes.
    call_fails macros c.args.names.now (record { list = c.self.inside.list.items; fresh = c.self.inside.fresh.items; sets = c.self.inside.sets; end = c.self.inside.end; refused = c.self.inside.refused }) c.args.self.now c.pull_all-given.new.sets c.self.view_is c.self.invariant c.pull_all-given.ensures.keeps c.pull_all-given.ensures.names c.left-left.result c.args.budget.now c.left-left.ensures texts keeps k c.in-Err.refusal c.pull_all-given.new.list.items c.pull_all-given.new.left _ (c.in-Err.ensures.pulls macros c.pull_all-given.new.sets is_table (subst (Knows c.args.names.now) (sym c.self.view_is) k).names_below (extends_same c.pull_all-given.new.sets))
