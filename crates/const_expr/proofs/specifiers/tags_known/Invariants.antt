use Rattle.std.proofs.Common.{◌≡◌, drop}
use Rattle.const_expr.proofs.Listed.{tags_of}
use Rattle.const_expr.proofs.specifiers.tags_known.Given as goal

abbrev pub invariant-loop-specifier : goal.invariant-loop-specifier
invariant-loop-specifier l = tags_of l.scope l.pos (drop l.specifier-index l.specifiers) ≡ tags_of l.scope l.pos l.specifiers
