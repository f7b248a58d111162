use Rattle.zikorape.specs.Given.{text_or_empty}
use Rattle.zikorape.specs.Answered.{Puts}
use Rattle.cc.specs.declared.performing.Cmd.TheVariants as command
use Rattle.zikorape.proofs.HandingOut.{over_none}
use Rattle.zikorape.proofs.zk_run.Goals as goal

pub returns : goal.returns
returns c =
    over_none (λ name set. Puts (command.Run c.args.max) name c.args.file.now c.args.input.now c.put_through.result set) _ (text_or_empty c.args.name.now) c.new-set.result _ _
    c.text_or_empty.ensures c.new-set.ensures c.put_through.ensures
