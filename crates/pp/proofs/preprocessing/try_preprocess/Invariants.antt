use Rattle.std.proofs.Common.{◌-◌}
use Rattle.srcset.specs.NameTable.{KeepsNumbers, Texts}
use Rattle.pp.specs.Phase4.{max_tokens, phase4}
use Rattle.pp.specs.Stream.{IsStream, taken_of}
use Rattle.pp.specs.inside.Reading.{Collects}
use Rattle.pp.proofs.preprocessing.try_preprocess.Given as goal

abbrev pub invariant-tokens : goal.invariant-tokens
invariant-tokens l = record {
  stream : IsStream l.names l.pp;
  keeps : KeepsNumbers l.fn.names l.names;
  collects : (texts : Texts) → KeepsNumbers l.names texts → Collects l.names texts l.pp l.list.items (phase4 l.set texts l.main);
}

abbrev pub decreases-tokens : goal.decreases-tokens
decreases-tokens l = max_tokens - taken_of l.pp
