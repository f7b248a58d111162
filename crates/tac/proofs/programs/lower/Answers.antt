use Rattle.std.proofs.Common.{length, map, ap, sym, refl, ◌∙◌}
use Rattle.typed_ast.specs.View as view
use Rattle.tac.proofs.Whole.{length_map, program_written}
use Rattle.tac.proofs.programs.lower.Goals as goal

pub returns : goal.returns
returns c =
    let p = c.args.program.now in
    record {
      code = program_written (view.program_of p) _ (length p.functions.items) c.in_ok-functions.ensures (sym (length_map view.function_of p.functions.items))
          (c.in_ok-literals.ensures ∙ ap (map (λ text. text.items)) c.deref.ensures.value) (c.in_ok-statics.ensures ∙ ap (map view.static_of) c.deref-2.ensures.value) refl;
    }
