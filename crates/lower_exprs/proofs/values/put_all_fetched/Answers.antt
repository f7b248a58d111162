use Rattle.std.proofs.Common.{◌≡◌, ◌∷◌, [], length, map, append-nil, rules, arith}
use Rattle.typed_ast.specs.View.{argument_of}
use Rattle.lower_exprs.proofs.Passed.{fetch_goes, fetch_skips, fetch_ends, fetched_nothing}
use Rattle.lower_exprs.proofs.values.put_all_fetched.Goals as goal

pub loop-free-init : goal.loop-free-init
loop-free-init c = ([], append-nil c.args.frees.items, fetched_nothing _ _)

pub loop-free-preserved-in-Continue-1 : goal.loop-free-preserved-in-Continue-1
loop-free-preserved-in-Continue-1 c =
    let s = c.in-Some-split_first in
    let l = c.loop-free in
    let first : c.behind.result.now ≡ s.argument.now ∷ s.more.now = search rules in
    let left : c.len.result ≡ length c.pop.new.self.items = omega (arith, c.len.ensures, c.pop.new.self.ok.0) in
    fetch_goes c.args.arguments.now c.behind.result.now s.more.now s.argument.now l.left.items c.pop.new.self.items l.invariant.0 c.args.frees.items c.in-Some.free c.len.result
    c.args.code.now.list.items l.code.list.items c.put_fetched.new.code.list.items c.in-Some.ensures.items left c.behind.ensures first l.invariant.1 l.invariant.2 c.in_ok-put_fetched.ensures

pub loop-free-preserved : goal.loop-free-preserved
loop-free-preserved c =
    let l = c.loop-free in
    let left : c.len.result ≡ length c.pop.new.self.items = omega (arith, c.len.ensures, c.pop.new.self.ok.0) in
    fetch_skips c.args.arguments.now c.behind.result.now l.left.items c.pop.new.self.items l.invariant.0 c.args.frees.items c.in-Some.free c.len.result
    c.args.code.now.list.items l.code.list.items c.in-Some.ensures.items left c.behind.ensures c.in_default-split_first.ensures.cases l.invariant.1 l.invariant.2

pub returns : goal.returns
returns c =
    let l = c.loop-free in
    let none : length l.left.items ≡ 0 = search rules in
    fetch_ends (map argument_of c.args.arguments.now) l.left.items l.invariant.0 c.args.frees.items c.args.code.now.list.items l.code.list.items none l.invariant.1 l.invariant.2
