use Rattle.std.proofs.Common.{◌≡◌, map, take}
use Rattle.tree.specs.Capped.{capped32}
use Rattle.tree.specs.Counts.{inits_depth}
use Rattle.tree.specs.View.{inits_of, init_of}
use Rattle.tree.proofs.+initialiser_depth.Given as goal

abbrev pub invariant-depths::initialisers_depth-loop-initialiser : goal.invariant-depths::initialisers_depth-loop-initialiser
invariant-depths::initialisers_depth-loop-initialiser l = l.deepest ≡ capped32 (inits_depth (inits_of (map init_of (take l.initialiser-index l.initialisers))))
