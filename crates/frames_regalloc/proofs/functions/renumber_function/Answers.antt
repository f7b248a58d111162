use Rattle.std.proofs.Common.{◌≡◌, length, arith, rules}
use Rattle.std.specs.Prelude.{vec_len}
use Rattle.frames_code.specs.Code.{function_of}
use Rattle.frames_regalloc.proofs.Pairs.{is_renumbered, code_put}
use Rattle.frames_regalloc.proofs.functions.renumber_function.Goals as goal

pub returns : goal.returns
returns c =
    let f = function_of c.args.function.now in
    let ss = c.in_ok-swaps.swaps.items in
    let count : vec_len c.in_ok-swaps.swaps ≡ length ss = search rules in
    let put = code_put f c.len-2.result c.put_code.new.code.items c.in_ok-code.code.items c.deref-2.result.now c.deref.result.now ss c.in_ok-put_code.ensures c.in_ok-code.ensures.items c.deref.ensures.value c.deref-2.ensures.value in
    is_renumbered f _ ss c.in_ok-swaps.ensures.inside (omega (arith, c.len-2.ensures, count, c.in_ok-swaps.ensures.few)) put
