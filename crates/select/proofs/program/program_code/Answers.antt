use Rattle.std.proofs.Common.{◌≡◌, ◌++◌, ◌∙◌, ap, map, length, subst, sym, arith}
use Rattle.asm.specs.Layout.{IsSound}
use Rattle.frames_code.specs.Code.{function_of}
use Rattle.select.specs.Program.{start_items, functions_items, are_near}
use Rattle.select.proofs.Nearer.{shortened_sound, made_near}
use Rattle.select.proofs.Programs.{each_fits, can_be_assembled}
use Rattle.select.proofs.program.program_code.Goals as goal

pub put_functions-requires-clause-fit : goal.put_functions-requires-clause-fit
put_functions-requires-clause-fit c = each_fits c.args.program.now c.requires c.deref-2.result.now c.deref-2.ensures.value

pub unreachable-requires : goal.unreachable-requires
unreachable-requires c =
    let fs = c.deref-2.result.now in
    let labels = c.in_ok-labels.labels in
    let put = c.in_ok-labels.ensures in
    let begun = start_items c.args.program.now.main in
    let rest = functions_items 0 (length fs) (map function_of fs) in
    let front : c.put_start.new.items.items ≡ begun = c.in_ok-put_start.ensures ∙ ap (λ xs. xs ++ begun) c.in_ok-list.ensures.items in
    let whole : c.put_functions.new.items.items ≡ begun ++ rest = put.0 ∙ ap (λ xs. xs ++ rest) front in
    let far = can_be_assembled c.args.program.now c.requires fs labels _ c.deref-2.ensures.value put.1 whole in
    let at : c.len-begun.result ≡ length begun = omega (arith, c.len-begun.ensures, c.put_start.new.items.ok, ap length front) in
    let made = made_near c.len-begun.result begun rest c.put_functions.new.items.items c.shorten_calls.new.items.items whole at c.shorten_calls.ensures in
    (rw c.in_default.is at c.in_ok-items.ensures) (subst (IsSound labels) (sym made) (shortened_sound (are_near (begun ++ rest)) labels begun rest (subst (IsSound labels) whole far)))
