use Rattle.std.proofs.Common.{◌∙◌}
use Rattle.zikorape.proofs.GivenLemmas.{text_kept, text_emptied}
use Rattle.zikorape.proofs.files.text_or_empty.Goals as goal

pub returns-in-Ok : goal.returns-in-Ok
returns-in-Ok c = c.in-Ok.ensures.cases.0 ∙ text_kept c.args.bytes.now c.in-Ok.ensures.cases.1

pub returns-in-Err : goal.returns-in-Err
returns-in-Err c = text_emptied c.args.bytes.now c.in-Err.ensures.cases.0
