use Rattle.std.proofs.Common.{◌<◌, ap, subst, sym, ◌∙◌}
use Rattle.pp.specs.Left.{AreStacked, Left, resumed_all, room_of}
use Rattle.pp.specs.inside.Including.{size_of}
use Rattle.pp.proofs.StackLemmas.{resumed_left, resumed_less, resumed_held}
use Rattle.pp.proofs.files.Files.leave.Goals as goal

pub returns-clause-left : goal.returns-clause-left
returns-clause-left c names texts set inner o open' g e =
    let is = c.in-Some.ensures.items in
    subst (λ r. Left names (resumed_held c.in-Some.includer c.args.state.now) set texts r c.pop_front.new.self.items o) (sym c.replace-ended.ensures.after)
    (resumed_left names c.args.state.now set texts c.args.self.now.innermost c.in-Some.includer c.pop_front.new.self.items inner o (subst (AreStacked names c.args.self.now.innermost) is open') g
    (e ∙ ap (λ is. resumed_all set texts (room_of is) is inner) is))

pub returns-clause-less : goal.returns-clause-less
returns-clause-less c names open' t =
    let is = c.in-Some.ensures.items in
    subst (λ r. size_of r c.pop_front.new.self.items < size_of c.args.self.now.innermost c.args.self.now.includers.items) (sym c.replace-ended.ensures.after)
    (subst (λ k. size_of c.in-Some.includer.reading c.pop_front.new.self.items < size_of c.args.self.now.innermost k) (sym is)
    (resumed_less names c.args.self.now.innermost c.in-Some.includer c.pop_front.new.self.items (subst (AreStacked names c.args.self.now.innermost) is open')))
