use Rattle.std.proofs.Common.{ap, ◌∙◌, sym, Vec, arith}
use Rattle.std.specs.declared.alloc.Global.{Global}
use Rattle.macros_substitution.specs.declared.piece.HiddenToken.{HiddenToken}
use Rattle.macros_substitution.proofs.PlainLaws.{held_index, held_past, held_other, unequal}
use Rattle.macros_substitution.proofs.plain.take_expansion.Goals as goal

pub returns-then-index-len-clause-taken : goal.returns-then-index-len-clause-taken
returns-then-index-len-clause-taken c =
    ap (λ (v : Vec HiddenToken Global). v.items) c.replace.ensures.value ∙ held_index c.args.index c.args.full.now.items c.index_mut.result.now (omega arith) c.index_mut.ensures.value

pub returns-then-index-len-clause-others : goal.returns-then-index-len-clause-others
returns-then-index-len-clause-others c = λ i e. held_other i c.args.index c.args.full.now.items c.replace.new.dest (unequal i c.args.index e)

pub returns-clause-taken : goal.returns-clause-taken
returns-clause-taken c = c.new-2.ensures.items ∙ sym (held_past c.args.index c.args.full.now.items (omega arith))
