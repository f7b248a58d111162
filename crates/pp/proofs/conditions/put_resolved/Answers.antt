use Rattle.std.proofs.Common.{sym, ap, ◌∙◌}
use Rattle.pp.specs.Phase4.{operand_of}
use Rattle.pp.proofs.ConditionLemmas.{first_rest, rest_one, put_plain, put_defined, no_operand}
use Rattle.pp.proofs.conditions.put_resolved.Goals as goal

pub returns-then-not-is_defined-clause-ok : goal.returns-then-not-is_defined-clause-ok
returns-then-not-is_defined-clause-ok c =
    let rest = c.args.rest.now in
    put_plain c.args.names.now c.args.state.now rest c.args.list.now.items c.push.new.self.items c.first-item.result c.in_ok-copy.field-0
    (first_rest rest c.first-item.result c.in-len1-up.len_at_least c.first-item.is) (sym c.is_defined.ensures ∙ c.if-not-is_defined.true) c.in_ok-copy.ensures c.in_ok-push.ensures.items

pub returns-in_default-operand_of-clause-err : goal.returns-in_default-operand_of-clause-err
returns-in_default-operand_of-clause-err c =
    let rest = c.args.rest.now in
    no_operand c.args.names.now c.args.state.now rest c.first-item.result c.args.at
    (first_rest rest c.first-item.result c.in-len1-up.len_at_least c.first-item.is) (sym c.is_defined.ensures ∙ c.if-not-is_defined.false)
    (ap operand_of (sym (rest_one rest)) ∙ sym c.in_default-operand_of.ensures)

pub returns-clause-ok : goal.returns-clause-ok
returns-clause-ok c =
    let rest = c.args.rest.now in
    put_defined c.args.names.now c.args.state.now rest c.args.list.now.items c.push-2.new.self.items c.first-item.result c.in_ok-truth_token.field-0 c.in-Some.name.now c.in-Some.taken c.is_macro.result
    (first_rest rest c.first-item.result c.in-len1-up.len_at_least c.first-item.is) (sym c.is_defined.ensures ∙ c.if-not-is_defined.false)
    (ap operand_of (sym (rest_one rest)) ∙ sym c.in-Some.ensures) c.is_macro.ensures c.in_ok-truth_token.ensures c.in_ok-push-2.ensures.items
