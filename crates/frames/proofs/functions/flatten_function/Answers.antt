use Rattle.std.proofs.Common.{◌∙◌, ap, sym, subst}
use Rattle.std.specs.Prelude.{slice_get}
use Rattle.tac_code.specs.Code.{function_of}
use Rattle.frames.specs.inside.Held.{InstructionIsNear}
use Rattle.frames.proofs.Near.{few_bytes, few_parameters, is_near}
use Rattle.frames.proofs.functions.flatten_function.Goals as goal

pub new-requires-clause-objects : goal.new-requires-clause-objects
new-requires-clause-objects c = few_bytes c.requires.fits.0 (function_of c.args.function.now) c.requires.fits.1

pub new-requires-clause-parameters : goal.new-requires-clause-parameters
new-requires-clause-parameters c = few_parameters c.requires.fits.0 (function_of c.args.function.now) c.requires.fits.1

pub put_code-requires : goal.put_code-requires
put_code-requires c = record {
  near = λ k x e. subst (λ l. InstructionIsNear l x) (sym c.in_ok-layout.ensures.layout)
      (is_near c.requires.fits.0 (function_of c.args.function.now) c.requires.fits.1 c.requires.code k x (ap (λ xs. slice_get xs k) (sym c.deref-2.ensures.value) ∙ e));
}
