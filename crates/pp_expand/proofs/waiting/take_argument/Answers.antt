use Rattle.std.specs.Prelude.{Vec}
use Rattle.std.specs.declared.alloc.Global.{Global}
use Rattle.macros_substitution.specs.declared.piece.HiddenToken.{HiddenToken}
use Rattle.std.proofs.Common.{ap, ◌∙◌}
use Rattle.pp_expand.proofs.Proceeds.{kept_argument, let_argument}
use Rattle.pp_expand.proofs.waiting.take_argument.Goals as goal

pub returns-then-keeps-clause-ok : goal.returns-then-keeps-clause-ok
returns-then-keeps-clause-ok c =
    kept_argument c.args.arguments.now.items c.args.index c.args.keeps c.if-keeps.true c.index.result.now c.requires c.index.ensures c.as_slice.result.now c.as_slice.ensures.value c.in_ok-copy.copy.items c.in_ok-copy.ensures.ok

pub returns-clause-ok : goal.returns-clause-ok
returns-clause-ok c =
    let e = c.replace-argument.ensures in
    let_argument c.args.arguments.now.items c.args.index c.args.keeps c.if-keeps.false c.index_mut.result.now c.replace-argument.new.dest c.requires c.index_mut.ensures.value c.from.result.items (c.from.ensures.0 ∙ ap (λ (v : Vec HiddenToken Global). v.items) e.value) (ap (λ (v : Vec HiddenToken Global). v.items) e.after ∙ c.new.ensures.items)
