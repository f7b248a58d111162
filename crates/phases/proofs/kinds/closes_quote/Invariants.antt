use Rattle.std.proofs.Common.{◌≡◌, drop}
use Rattle.phases.specs.Grammar.{closes_quote}
use Rattle.phases.specs.inside.Kinds.{closes_from}
use Rattle.phases.proofs.kinds.closes_quote.Given as goal

abbrev pub invariant-loop-byte : goal.invariant-loop-byte
invariant-loop-byte l = closes_quote l.quote l.bytes ≡ closes_from l.state l.quote (drop l.byte-index l.bytes)
