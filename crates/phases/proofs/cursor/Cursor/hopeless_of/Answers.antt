use Rattle.std.proofs.Common.{ap}
use Rattle.phases.specs.Text.{bytes_of}
use Rattle.phases.proofs.ClosingLemmas.{unclosed_line}
use Rattle.phases.proofs.cursor.Cursor.hopeless_of.Goals as goal

pub returns-in-None : goal.returns-in-None
returns-in-None c =
    unclosed_line c.args.quote _ _ _ _ (ap bytes_of c.requires.step.text_is) c.in-None.ensures c.line.ensures.count_is
