use Rattle.std.proofs.Common.{◌≡◌, ◌+◌, ◌<◌, ℕ, suc, Ok, IfSome, Some, sym, subst, arith, length, ◌-◌}
use Rattle.std.proofs.lemmas.Result.{err_from_is_err_and}
use Rattle.pp.specs.Phase4.{max_includes}
use Rattle.pp.specs.Left.{around_with, room_of, left_of, Stands}
use Rattle.pp.specs.inside.Including.{size_of, weight, CanEnter, StandsOrWaits}
use Rattle.pp.proofs.StackLemmas.{left_stops, stepped_less, less_by, weight_more, stepped_reading, stepped_open, has_place, less_then}
use Rattle.pp.proofs.files.Files.line_done.Goals as goal

pub returns-in_err-line_done-clause-left : goal.returns-in_err-line_done-clause-left
returns-in_err-line_done-clause-left c texts o keeps l =
    let q = err_from_is_err_and c.from_residual.result c.from_residual.ensures.1 in
    let r = c.args.self.now.innermost in
    let is = c.args.self.now.includers.items in
    let st = subst (λ n. Stands c.args.names.now c.args.state.now r.file.run (around_with n c.args.set.now texts) r.file.conditionals (left_of r) l.inner) (sym c.room-room.ensures) l.stands in
    rw (q.1, q.2) (left_stops c.in_err-line_done.field-0.0 c.line_done.new.state.given c.line_done.new.names c.args.set.now texts (room_of is) is l.inner o l.whole (c.in_err-line_done.ensures.waits texts l.inner keeps st))

pub returns-in-None-clause-open : goal.returns-in-None-clause-open
returns-in-None-clause-open c =
    let e = c.in_ok-line_done.ensures in
    stepped_open c.args.names.now c.line_done.new.names c.args.self.now.innermost c.line_done.new.self c.args.self.now.includers.items c.requires.open e.keeps e.files e.idle
    (stepped_reading c.args.self.now.innermost c.line_done.new.self c.requires.open.stacked.reading c.requires.more e.next e.end e.lines)

pub returns-in-None-clause-less : goal.returns-in-None-clause-less
returns-in-None-clause-less c =
    let e = c.in_ok-line_done.ensures in
    let is = c.args.self.now.includers.items in
    less_by (size_of c.line_done.new.self is) (size_of c.args.self.now.innermost is) (weight (room_of is))
    (stepped_less c.args.self.now.innermost c.line_done.new.self is e.next e.end c.requires.more) (weight_more (room_of is))

pub returns-in-Some-clause-left : goal.returns-in-Some-clause-left
returns-in-Some-clause-left c texts o keeps l =
    let r = c.args.self.now.innermost in
    let is = c.args.self.now.includers.items in
    let after = c.line_done.new.self in
    let st = subst (λ n. Stands c.args.names.now c.args.state.now r.file.run (around_with n c.args.set.now texts) r.file.conditionals (left_of r) l.inner) (sym c.room-room.ensures) l.stands in
    let w = subst (λ x. StandsOrWaits (Ok x) c.line_done.new.names c.line_done.new.state after.file c.args.set.now texts c.room-room.result (left_of after) l.inner) c.in-Some.is (c.in_ok-line_done.ensures.waits texts l.inner keeps st) in
    let can = subst (λ x. IfSome x (CanEnter c.line_done.new.names c.room-room.result after.file)) c.in-Some.is c.in_ok-line_done.ensures.ok in
    c.include.ensures.left texts c.args.set.now l.inner o c.in_ok-line_done.ensures.sound can.begun can.tokens
    (subst (λ n. StandsOrWaits (Ok (Some c.in-Some.source)) c.line_done.new.names c.line_done.new.state after.file c.args.set.now texts n (left_of after) l.inner) c.room-room.ensures w) l.whole

pub returns-in-Some-clause-open : goal.returns-in-Some-clause-open
returns-in-Some-clause-open c =
    let e = c.in_ok-line_done.ensures in
    let is = c.args.self.now.includers.items in
    let can = subst (λ x. IfSome x (CanEnter c.line_done.new.names c.room-room.result c.line_done.new.self.file)) c.in-Some.is e.ok in
    c.include.ensures.open
    (stepped_open c.args.names.now c.line_done.new.names c.args.self.now.innermost c.line_done.new.self is c.requires.open e.keeps e.files e.idle
    (stepped_reading c.args.self.now.innermost c.line_done.new.self c.requires.open.stacked.reading c.requires.more e.next e.end e.lines))
    e.sound can.read.has_file (has_place max_includes (length is) (subst (λ n. 0 < n) c.room-room.ensures can.read.has_room)) can.begun can.tokens

pub returns-in-Some-clause-less : goal.returns-in-Some-clause-less
returns-in-Some-clause-less c =
    let e = c.in_ok-line_done.ensures in
    let is = c.args.self.now.includers.items in
    let can = subst (λ x. IfSome x (CanEnter c.line_done.new.names c.room-room.result c.line_done.new.self.file)) c.in-Some.is e.ok in
    less_then c.include.result (size_of c.include.new.self.innermost c.include.new.self.includers.items) (size_of c.line_done.new.self is + weight (room_of is)) (size_of c.args.self.now.innermost is)
    (stepped_less c.args.self.now.innermost c.line_done.new.self is e.next e.end c.requires.more)
    (c.include.ensures.less (room_of is - 1) (one_less (room_of is) (subst (λ n. 0 < n) c.room-room.ensures can.read.has_room)))
  where
    one_less : (n : ℕ) → 0 < n → n ≡ suc (n - 1)
    one_less n h = omega (arith, h)
