use Rattle.std.proofs.Common.{List, ◌∙◌, ◌++◌, ap}
use Rattle.verify_logic.specs.declared.abstract_values.AbsValue.{AbsValue}
use Rattle.verify_logic.specs.States.{Known}
use Rattle.verify.proofs.bodies.entered.Goals as goal

pub returns : goal.returns
returns c =
    let P : List AbsValue → Known = λ xs. record { objects = xs; facts = c.args.known.facts.items } in
    record { own = c.in_ok-own.own.items; fresh = c.in_ok-own.ensures; all = ap P (c.in_ok-objects.ensures ∙ ap (λ xs. c.args.known.objects.items ++ xs) c.deref.ensures.value) }
