use Rattle.std.proofs.Common.{◌≡◌, ◌++◌, ◌-◌, length, take, pos, rules, ap, ◌∙◌, arith}
use Rattle.std.specs.Prelude.{vec_len, replicate}
use Rattle.decls_initialisers.proofs.Layouts.{resized}
use Rattle.decls_initialisers.proofs.element_values.pad.Goals as goal

pub returns-in-Ok-clause-ok : goal.returns-in-Ok-clause-ok
returns-in-Ok-clause-ok c = λ n before vs k o s.
    let end = c.saturating_add.result in
    let old = c.args.all.now.items in
    let long : vec_len c.args.all.now ≡ length old = search rules in
    resized n c.args.count c.args.start end before vs old c.resize.new.self.items k o s c.saturating_add.ensures
    (omega (arith, c.in-Ok.ensures.len, c.resize.new.self.ok, c.resize.new.self.small))
    (c.in-Ok.ensures.items ∙ ap (λ m. take end old ++ replicate (end - m) (pos 0)) long)
