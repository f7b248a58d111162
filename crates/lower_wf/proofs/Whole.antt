-- The law of blocks.
use Rattle.typing_spec.specs.Statements.{pieces}
use Rattle.lower_wf.specs.Settled.{BlockIsTyped}
use Rattle.lower_wf.proofs.Verdicts.{of_fine}
use Rattle.lower_wf.proofs.Statements.{AllGood, pieces_good}
use Rattle.lower_wf.proofs.Defined.{statements_defined}

pub block_is_typed : BlockIsTyped
block_is_typed W A d s ps all R D e N E lo hi l h u =
    let g = of_fine (AllGood W s) (pieces A d s ps) all e (pieces_good W A R d s D ps) in
    let typed = (g.1 N E).0 lo hi l h u in (typed, statements_defined W.program W.function lo hi all.statements typed u)
