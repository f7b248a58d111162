use Rattle.std.proofs.Common.{◌∙◌, ap, map}
use Rattle.std.specs.Prelude.{min}
use Rattle.typed_ast.specs.View.{static_of}
use Rattle.tac_code.specs.Code.{program_of}
use Rattle.frames.specs.Sizes.{literal_bytes, statics_bytes}
use Rattle.test_tac_soundness.proofs.Values.{small_data}
use Rattle.test_tac_soundness.proofs.programs.has_small_data.Goals as goal

pub returns : goal.returns
returns c = small_data (program_of c.args.program.now).literals (program_of c.args.program.now).statics c.literals_size.result c.statics_size.result
    (c.literals_size.ensures ∙ ap (λ ls. min (literal_bytes (map (λ text. text.items) ls)) 16777217) c.deref.ensures.value)
    (c.statics_size.ensures ∙ ap (λ os. min (statics_bytes (map static_of os)) 16777217) c.deref-2.ensures.value)
