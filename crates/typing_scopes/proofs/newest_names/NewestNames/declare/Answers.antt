use Rattle.std.proofs.Common.{refl, arith}
use Rattle.typing_scopes.proofs.Places.{grown, declared_in, read_at}
use Rattle.typing_scopes.proofs.newest_names.NewestNames.declare.Goals as goal

pub invariant_of-self : goal.invariant_of-self
invariant_of-self c = grown c.self.inside.newest.items c.reach.new.newest.items c.self.inside.entries.items c.self.inside.entries.items refl c.reach.ensures.more c.reach.ensures.keeps c.self.invariant

pub invariant_of-self-in_err-push : goal.invariant_of-self-in_err-push
invariant_of-self-in_err-push c =
    grown c.self.inside.newest.items c.reach.new.newest.items c.self.inside.entries.items c.push.new.self.items c.in_err-push.ensures.items c.reach.ensures.more c.reach.ensures.keeps c.self.invariant

pub invariant_of-self-2 : goal.invariant_of-self-2
invariant_of-self-2 c =
    declared_in c.self.inside.newest.items c.reach.new.newest.items c.self.inside.entries.items c.push.new.self.items (record { name = c.args.name; hides = c.index-hides.result.now }) c.len.result
    c.in_ok-push.ensures.items (omega (arith, c.len.ensures, c.push.new.self.ok.0)) c.in_ok-reach.ensures.ok
    (read_at c.reach.new.newest.items c.args.name c.index-hides.result.now c.in_ok-reach.ensures.ok c.index-hides.ensures) c.reach.ensures.more c.reach.ensures.keeps c.self.invariant
