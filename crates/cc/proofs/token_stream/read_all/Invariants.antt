use Rattle.std.proofs.Common.{◌-◌}
use Rattle.srcset.specs.NameTable.{KeepsNumbers}
use Rattle.pp.specs.Phase4.{max_tokens}
use Rattle.pp.specs.Stream.{IsStream, taken_of}
use Rattle.cc.specs.inside.Streams.{ReadsSome}
use Rattle.cc.proofs.token_stream.read_all.Given as goal

abbrev pub invariant-tokens : goal.invariant-tokens
invariant-tokens l = record {
  stream : IsStream l.names l.stream;
  keeps : KeepsNumbers l.fn.names l.names;
  some : ReadsSome l.fn.names l.names l.fn.stream l.stream l.lexer;
}

abbrev pub decreases-tokens : goal.decreases-tokens
decreases-tokens l = max_tokens - taken_of l.stream
