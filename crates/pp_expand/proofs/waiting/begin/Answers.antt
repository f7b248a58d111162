use Rattle.std.proofs.Common.{◌≡◌, length, refl, sym, ◌∙◌, arith}
use Rattle.std.proofs.lemmas.Result.{err_from_is_err_and}
use Rattle.pp_expand.proofs.Proceeds.{begin_is, begin_fails, begun_in, pieces_same}
use Rattle.pp_expand.proofs.waiting.begin.Goals as goal

pub returns-in_err-pieces-clause-begins : goal.returns-in_err-pieces-clause-begins
returns-in_err-pieces-clause-begins c = λ known later r task once below grown.
    let p = err_from_is_err_and c.from_residual.result c.from_residual.ensures.1 in
    rw (p.1, p.2) (begin_fails known later c.args.waiting.now.items c.args.waiting.now.items c.args.level c.args.task r task c.as_slice.result.now c.as_slice.ensures.value c.in_err-pieces.field-0.0 (c.in_err-pieces.ensures.value known.texts later r.call.macro task.macro_is))

pub proceed-requires-clause-known : goal.proceed-requires-clause-known
proceed-requires-clause-known c =
    let n : c.len.result ≡ length c.args.task.arguments.items = omega arith in
    begun_in (length c.args.sets.now) c.args.level c.args.task c.in_ok-uses.uses c.in_ok-pieces.pieces c.new.result c.as_slice-2.result.now c.requires.level c.requires.task c.in_ok-pieces.ensures.known c.new.ensures.items (c.in_ok-uses.ensures.count ∙ n) c.as_slice-2.ensures.value (λ texts sets i h. c.in_ok-uses.ensures.each texts sets i (omega (arith, h, n)))

pub returns-clause-begins : goal.returns-clause-begins
returns-clause-begins c = λ known later r task once below grown.
    begin_is known later c.args.waiting.now.items c.proceed.new.waiting.items c.args.level c.args.task r task (record { level = c.args.level; space_before = c.args.task.space_before; at = c.args.task.at; hides = c.args.task.hides; arguments = c.args.task.arguments; uses = c.in_ok-uses.uses; pieces = c.in_ok-pieces.pieces; full = c.new.result }) refl refl refl refl refl c.new.ensures.items (sym (pieces_same known later c.args.waiting.now.items c.proceed.new.waiting.items c.args.level c.args.task r task c.as_slice.result.now c.as_slice.ensures.value) ∙ c.in_ok-pieces.ensures.value known.texts later r.call.macro task.macro_is) c.proceed.result (c.proceed.ensures.proceeds known later once below grown)
