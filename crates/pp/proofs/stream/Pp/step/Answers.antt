use Rattle.std.proofs.Common.{◌≤◌, sym, ◌∙◌, arith}
use Rattle.pp.specs.Phase4.{max_tokens}
use Rattle.pp.specs.Stream.{taken_of}
use Rattle.pp.proofs.StreamLemmas.{reads_on}
use Rattle.pp.proofs.stream.Pp.step.Goals as goal

pub returns-then-run_ends-clause-rest : goal.returns-then-run_ends-clause-rest
returns-then-run_ends-clause-rest c texts rest keeps r = c.begin.ensures.rest c.read.new.names texts rest c.read.ensures.open (c.read.ensures.rest texts rest keeps r)

pub returns-then-run_ends-clause-stream : goal.returns-then-run_ends-clause-stream
returns-then-run_ends-clause-stream c =
    let few : taken_of c.read.new.self ≤ max_tokens = omega (arith, c.requires.stream.few, c.read.ensures.taken) in
    c.begin.ensures.stream c.read.new.names few c.read.ensures.open

pub returns-else-run_ends-clause-stream : goal.returns-else-run_ends-clause-stream
returns-else-run_ends-clause-stream c = record {
  few = omega (arith, c.requires.stream.few, c.read.ensures.taken);
  reads = reads_on c.read.new.self.stage c.read.new.names c.read.new.self (sym c.run_ends.ensures ∙ c.if-run_ends.false) c.read.ensures.open;
}
