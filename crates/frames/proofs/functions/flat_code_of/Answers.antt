use Rattle.std.proofs.Common.{◌≤◌, ◌^◌, ◌∙◌, ap, sym, subst, map}
use Rattle.std.specs.Prelude.{slice_get}
use Rattle.typed_ast.specs.View.{static_of}
use Rattle.tac_code.specs.Code.{function_of, program_of}
use Rattle.tac_code.specs.Sound.{data_bytes}
use Rattle.frames.proofs.Near.{short_code}
use Rattle.frames.proofs.functions.flat_code_of.Goals as goal

pub new-requires : goal.new-requires
new-requires c =
    subst (λ xs. data_bytes (map (λ text. text.items) xs) (map static_of c.deref-2.result.now) ≤ 2 ^ 24) (sym c.deref.ensures.value)
    (subst (λ xs. data_bytes (program_of c.args.program.now).literals (map static_of xs) ≤ 2 ^ 24) (sym c.deref-2.ensures.value) c.requires.small)

pub put_functions-requires : goal.put_functions-requires
put_functions-requires c = record {
  fit = (
    program_of c.args.program.now,
    λ k f e.
        let there = ap (λ xs. slice_get (map function_of xs) k) (sym c.deref-3.ensures.value) ∙ e in
        (c.requires.each k f there, short_code (program_of c.args.program.now) c.requires k f there),
  );
}
