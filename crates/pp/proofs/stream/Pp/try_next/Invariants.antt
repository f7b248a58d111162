use Rattle.srcset.specs.NameTable.{KeepsNumbers}
use Rattle.pp.specs.Stream.{IsStream}
use Rattle.pp.specs.inside.Reading.{size_by, Stays}
use Rattle.pp.proofs.stream.Pp.try_next.Given as goal

abbrev pub invariant-steps : goal.invariant-steps
invariant-steps l = record {
  stream : IsStream l.names l.self;
  stays : Stays l.initial.names l.names l.initial.self l.self;
  keeps : KeepsNumbers l.initial.names l.names;
}

abbrev pub decreases-steps : goal.decreases-steps
decreases-steps l = size_by l.self.stage l.self
