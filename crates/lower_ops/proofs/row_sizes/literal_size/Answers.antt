use Rattle.std.proofs.Common.{◌≡◌, arith, refl, ap, sym, false, length, ◌∷◌, [], ◌∙◌}
use Rattle.std.proofs.lemmas.Option.{slice_get_past, slice_get_read}
use Rattle.ctypes.specs.declared.types.IntType.TheVariants as ty
use Rattle.typing_spec.specs.Nodes.{text_type}
use Rattle.lower_ops.specs.layer.Rows.{size_at}
use Rattle.lower_ops.proofs.Rows.{looked_none, looked_some, deep_complete}
use Rattle.lower_ops.proofs.row_sizes.literal_size.Goals as goal

pub returns-in-None : goal.returns-in-None
returns-in-None c = looked_none text_type (λ text. text.items) c.args.literals.now c.args.number c.args.depth refl (slice_get_past c.args.literals.now c.args.number c.in-None.ensures.lookup.3)

pub returns-in-Some : goal.returns-in-Some
returns-in-Some c =
    let counts : c.len.result ≡ length c.in-Some.text.now.items = omega (arith, c.len.ensures, c.in-Some.text.now.ok.0) in
    c.text_size.ensures ∙ ap (λ n. size_at c.args.depth ty.Char (n ∷ [])) counts ∙ sym (deep_complete c.args.depth ty.Char false (length c.in-Some.text.now.items ∷ []))
    ∙ looked_some text_type (λ text. text.items) c.args.literals.now c.args.number c.args.depth c.in-Some.text.now
    (slice_get_read c.args.literals.now _ c.args.number c.in-Some.text.now refl c.in-Some.ensures.lookup.3.0 c.in-Some.ensures.lookup.1)
