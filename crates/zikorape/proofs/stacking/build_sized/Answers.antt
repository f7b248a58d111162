use Rattle.zikorape.specs.Given.{text_or_empty}
use Rattle.zikorape.specs.Answered.{CompiledWith, file_text}
use Rattle.zikorape.proofs.HandingOut.{no_set, over_set}
use Rattle.zikorape.proofs.stacking.build_sized.Goals as goal

pub returns-in-Ok : goal.returns-in-Ok
returns-in-Ok c =
    over_set (record { texts = c.args.texts.now; lengths = c.args.files.now }) _ (λ name. CompiledWith c.args.stack file_text name c.build_with.result) _ (text_or_empty c.args.main.now) c.in-Ok.set _ _
    c.in-Ok.ensures c.text_or_empty.ensures c.build_with.ensures

pub returns-in-Err : goal.returns-in-Err
returns-in-Err c =
    no_set (record { texts = c.args.texts.now; lengths = c.args.files.now }) _ _ _ _
    (c.refuse.ensures (record { texts = c.args.texts.now; lengths = c.args.files.now }) c.in-Err.ensures)
