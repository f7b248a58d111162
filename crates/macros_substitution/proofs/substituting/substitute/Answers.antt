use Rattle.std.proofs.Common.{length, sym, ◌∙◌}
use Rattle.macros_substitution.proofs.PlainLaws.{gives_seen, seen_in}
use Rattle.macros_substitution.proofs.substituting.substitute.Goals as goal

pub returns-clause-value : goal.returns-clause-value
returns-clause-value c = λ texts later call once below grown e beside.
    gives_seen texts later c.args.at call c.args.arguments.items c.as_slice-3.result.now c.args.full.items c.args.pieces.items c.as_slice.result.now c.as_slice-2.result.now c.put_all.result
    c.as_slice.ensures.value c.as_slice-2.ensures.value c.as_slice-3.ensures.value (sym c.has_joint.ensures ∙ c.if-has_joint.false) e beside c.put_all.ensures.ok c.put_all.ensures.err

pub returns-clause-known : goal.returns-clause-known
returns-clause-known c =
    seen_in (length c.args.sets.now) c.args.arguments.items c.as_slice-3.result.now c.args.full.items c.args.pieces.items c.as_slice-2.result.now c.put_all.result
    c.as_slice-2.ensures.value c.as_slice-3.ensures.value c.requires.pieces c.requires.arguments c.requires.full c.put_all.ensures.ok
