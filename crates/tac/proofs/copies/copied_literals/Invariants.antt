use Rattle.std.proofs.Common.{◌≡◌, ◌++◌, map, drop}
use Rattle.tac.proofs.copies.copied_literals.Given as goal

abbrev pub invariant-loop-text : goal.invariant-loop-text
invariant-loop-text l = map (λ text. text.items) l.copies.items ++ map (λ text. text.items) (drop l.text-index l.literals) ≡ map (λ text. text.items) l.literals
