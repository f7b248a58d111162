use Rattle.std.proofs.Common.{inl, refl, subst}
use Rattle.zikorape.specs.Given.{text_or_empty}
use Rattle.zikorape.specs.Answered.{OverFiles, CompiledWith, file_text}
use Rattle.zikorape.proofs.HandingOut.{hands_out}
use Rattle.zikorape.proofs.stacking.build_stacked.Goals as goal

pub returns-in-Some : goal.returns-in-Some
returns-in-Some c =
    hands_out _ _ _ _ c.build_sized.ensures
    (λ output line m. inl (
      c.in-Some.ensures.some.0 refl,
      subst (λ s. OverFiles (record { texts = c.args.texts.now; lengths = c.args.files.now }) c.build_sized.result
          (CompiledWith s file_text (text_or_empty c.args.main.now) c.build_sized.result) output line) c.in-Some.ensures.value m,
    ))
