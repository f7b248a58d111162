use Rattle.std.proofs.Common.{◌≤◌, ◌^◌, sym, subst, map}
use Rattle.typed_ast.specs.View as view
use Rattle.tac_code.specs.Sound.{data_bytes}
use Rattle.cc_backend.proofs.passes.flat_program_after.Goals as goal

pub new-requires : goal.new-requires
new-requires c =
    subst (λ xs. data_bytes (map (λ text. text.items) xs) (map view.static_of c.deref-2.result.now) ≤ 2 ^ 24) (sym c.deref.ensures.value)
    (subst (λ xs. data_bytes (view.program_of c.args.program.now).literals (map view.static_of xs) ≤ 2 ^ 24) (sym c.deref-2.ensures.value) c.requires.checked.small)

pub data_alone-requires : goal.data_alone-requires
data_alone-requires c =
    subst (λ xs. data_bytes (map (λ text. text.items) xs) (map view.static_of c.deref-4.result.now) ≤ 2 ^ 24) (sym c.deref-3.ensures.value)
    (subst (λ xs. data_bytes (view.program_of c.args.program.now).literals (map view.static_of xs) ≤ 2 ^ 24) (sym c.deref-4.ensures.value) c.requires.checked.small)
