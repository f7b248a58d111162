use Rattle.pp.specs.Left.{room_of}
use Rattle.pp.specs.inside.Including.{size_of}
use Rattle.pp.proofs.StackLemmas.{passed_left, less_with}
use Rattle.pp.proofs.files.Files.include.Goals as goal

pub returns-then-passes_over-clause-left : goal.returns-then-passes_over-clause-left
returns-then-passes_over-clause-left c texts set made o sound begun tokens w e =
    passed_left c.args.names.now c.args.state.now set texts c.args.self.now.innermost c.args.self.now.includers.items c.args.source.now made o w e begun tokens
    (λ s a h. c.passes_over.ensures c.if-passes_over.true s a h) sound

pub returns-then-passes_over-clause-less : goal.returns-then-passes_over-clause-less
returns-then-passes_over-clause-less c further e =
    let is = c.args.self.now.includers.items in
    less_with (size_of c.args.self.now.innermost is) (room_of is)

pub returns-clause-left : goal.returns-clause-left
returns-clause-left c texts set made o sound begun tokens w e = c.enter.ensures.left c.args.names.now texts set made o w e

pub returns-clause-open : goal.returns-clause-open
returns-clause-open c are sound has few begun tokens = c.enter.ensures.open c.args.names.now are sound has few begun tokens

pub returns-clause-sound : goal.returns-clause-sound
returns-clause-sound c sound has = c.enter.ensures.sound c.args.names.now sound has

pub returns-clause-less : goal.returns-clause-less
returns-clause-less c further e = c.enter.ensures.less further e
