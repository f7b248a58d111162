use Rattle.std.proofs.Common.{◌≡◌, ◌++◌, drop}
use Rattle.macros.specs.Operators.{shown_behind}
use Rattle.macros_substitution.specs.inside.Reading.{tokens_held}
use Rattle.macros_substitution.proofs.reading.push_others.Given as goal

abbrev pub invariant-loop-token : goal.invariant-loop-token
invariant-loop-token l =
    l.text.items ++ shown_behind (tokens_held (drop l.token-index l.others)) ≡ l.initial.text.items ++ shown_behind (tokens_held l.initial.others)
