use Rattle.std.proofs.Common.{ap, map, length, subst, sym, refl}
use Rattle.std.proofs.lemmas.List.{length-map}
use Rattle.typed_ast.specs.View.{static_of}
use Rattle.test_tac_soundness.specs.inside.Parts.{LiteralsFit, ValuesFit}
use Rattle.test_tac_soundness.proofs.Values.{sound, parts}
use Rattle.test_tac_soundness.proofs.programs.is_sound.Goals as goal

pub returns : goal.returns
returns c =
    let fs = c.as_slice-functions.result.now in
    let ls = map (λ text. text.items) c.as_slice-literals.result.now in
    let os = map static_of c.as_slice-statics.result.now in
    let bytes : LiteralsFit ls (length ls) = subst (LiteralsFit ls) (sym (length-map c.as_slice-literals.result.now (λ text. text.items))) (c.if-not-have_bytes.ensures.0 refl) in
    let values : ValuesFit os (length os) = subst (ValuesFit os) (sym (length-map c.as_slice-statics.result.now static_of)) (c.if-not-have_values.ensures.0 refl) in (
      λ t. sound c.args.program.now fs ls os c.as_slice-functions.ensures.value (ap (map (λ text. text.items)) c.as_slice-literals.ensures.value) (ap (map static_of) c.as_slice-statics.ensures.value)
          (c.if-not-has_main.ensures.0 refl) bytes values (c.if-not-has_small_data.ensures.0 refl) (c.if-not-are_countable.ensures.0 refl) (c.are_sound_functions.ensures.0 t),
      λ s. c.are_sound_functions.ensures.1 (parts c.args.program.now fs c.as_slice-functions.ensures.value s),
    )
