use Rattle.std.proofs.Common.{◌≤◌, length, arith}
use Rattle.std.proofs.lemmas.Result.{err_from_is_err_and}
use Rattle.pp.specs.Left.{around_with, room_of}
use Rattle.pp.proofs.FileLemmas.{last_idle, last_stands}
use Rattle.pp.proofs.StackLemmas.{left_stops}
use Rattle.pp.proofs.files.Files.step.Goals as goal

pub end_done-requires : goal.end_done-requires
end_done-requires c =
    let r = c.args.self.now.innermost in
    last_idle r (omega (arith, c.if-self.false, c.requires.open.stacked.reading.whole)) c.requires.ended

pub returns-in_err-end_done-clause-left : goal.returns-in_err-end_done-clause-left
returns-in_err-end_done-clause-left c texts o keeps l =
    let q = err_from_is_err_and c.from_residual-in_err-end_done.result c.from_residual-in_err-end_done.ensures.1 in
    let r = c.args.self.now.innermost in
    let is = c.args.self.now.includers.items in
    let set = c.args.set.now in
    let past : length r.lines ≤ r.next = omega (arith, c.if-self.false, c.requires.open.stacked.reading.whole) in
    rw (q.1, q.2) (left_stops c.in_err-end_done.field-0.0 c.args.state.now.given c.args.names.now set texts (room_of is) is l.inner o l.whole
    (c.in_err-end_done.ensures c.args.names.now (around_with (room_of is) set texts) l.inner
    (last_stands c.args.names.now c.args.state.now r.file.run (around_with (room_of is) set texts) r.file.conditionals r.lines r.file.ends r.next l.inner past l.stands)))

pub returns-clause-left : goal.returns-clause-left
returns-clause-left c texts o keeps l =
    let r = c.args.self.now.innermost in
    let is = c.args.self.now.includers.items in
    let set = c.args.set.now in
    let past : length r.lines ≤ r.next = omega (arith, c.if-self.false, c.requires.open.stacked.reading.whole) in
    c.leave.ensures.left c.args.names.now texts set l.inner o c.requires.open.stacked
    (c.in_ok-end_done.ensures c.args.names.now (around_with (room_of is) set texts) l.inner
    (last_stands c.args.names.now c.args.state.now r.file.run (around_with (room_of is) set texts) r.file.conditionals r.lines r.file.ends r.next l.inner past l.stands)) l.whole

pub returns-clause-open : goal.returns-clause-open
returns-clause-open c more = c.leave.ensures.open c.args.names.now c.requires.open.stacked more

pub returns-clause-sound : goal.returns-clause-sound
returns-clause-sound c = c.leave.ensures.sound c.args.names.now c.requires.open.stacked c.requires.sound

pub returns-clause-less : goal.returns-clause-less
returns-clause-less c more = c.leave.ensures.less c.args.names.now c.requires.open.stacked more
