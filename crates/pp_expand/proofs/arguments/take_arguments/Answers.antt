use Rattle.std.proofs.Common.{ℕ, List, IfOk, sym, subst}
use Rattle.macros_substitution.specs.declared.piece.HiddenToken.{HiddenToken}
use Rattle.macros_substitution.specs.Meaning.{AreIn}
use Rattle.pp_expand.specs.inside.Turns.{GatheredIn}
use Rattle.pp_expand.proofs.arguments.take_arguments.Goals as goal

pub returns-clause-known : goal.returns-clause-known
returns-clause-known c =
    subst (λ (items : List HiddenToken). IfOk c.gather_arguments-found.result (λ found. (count : ℕ) → AreIn count c.args.rest.now.items → GatheredIn count found × AreIn count items)) (sym c.give_room_back.ensures) c.gather_arguments-found.ensures.known
