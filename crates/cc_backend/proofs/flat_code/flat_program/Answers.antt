use Rattle.std.proofs.Common.{◌≡◌, ◌≤◌, ◌^◌, ◌∙◌, refl, ap, sym, subst, map}
use Rattle.std.proofs.lemmas.List.{length-map}
use Rattle.typed_ast.specs.View as view
use Rattle.tac_code.specs.Sound.{data_bytes}
use Rattle.frames_code.specs.Code as flat
use Rattle.frames.specs.Data.{data_of}
use Rattle.frames.specs.Layout.{starts_of}
use Rattle.frames.specs.layer.Alone.{starts_in, with_data}
use Rattle.cc_backend.specs.inside.FlatFunctions.{AreFlatFunctionsOf}
use Rattle.cc_backend.proofs.FlatFunctions.{program_in}
use Rattle.cc_backend.proofs.flat_code.flat_program.Goals as goal

pub new-requires : goal.new-requires
new-requires c =
    subst (λ xs. data_bytes (map (λ text. text.items) xs) (map view.static_of c.deref-2.result.now) ≤ 2 ^ 24) (sym c.deref.ensures.value)
    (subst (λ xs. data_bytes (view.program_of c.args.program.now).literals (map view.static_of xs) ≤ 2 ^ 24) (sym c.deref-2.ensures.value) c.requires.checked.small)

pub data_alone-requires : goal.data_alone-requires
data_alone-requires c =
    subst (λ xs. data_bytes (map (λ text. text.items) xs) (map view.static_of c.deref-4.result.now) ≤ 2 ^ 24) (sym c.deref-3.ensures.value)
    (subst (λ xs. data_bytes (view.program_of c.args.program.now).literals (map view.static_of xs) ≤ 2 ^ 24) (sym c.deref-4.ensures.value) c.requires.checked.small)

pub returns : goal.returns
returns c =
    let p = view.program_of c.args.program.now in
    let s = starts_in c.in_ok-starts.starts in
    let f : flat.Program = record { functions = map flat.function_of c.in_ok-functions.functions.items; statics = c.in_ok-statics.statics.items; main = p.main } in
    let begin : s ≡ starts_of (with_data p.literals p.statics) = c.in_ok-starts.ensures
    ∙ (ap (λ xs. starts_of (with_data (map (λ text. text.items) xs) (map view.static_of c.deref-2.result.now))) c.deref.ensures.value
    ∙ ap (λ xs. starts_of (with_data p.literals (map view.static_of xs))) c.deref-2.ensures.value) in
    let bytes : c.in_ok-statics.statics.items ≡ data_of (with_data p.literals p.statics) = c.in_ok-statics.ensures
    ∙ (ap (λ xs. data_of (with_data (map (λ text. text.items) xs) (map view.static_of c.deref-4.result.now))) c.deref-3.ensures.value
    ∙ ap (λ xs. data_of (with_data p.literals (map view.static_of xs))) c.deref-4.ensures.value) in
    let all = subst (λ n. AreFlatFunctionsOf p s n f.functions) (sym (length-map c.args.program.now.functions.items view.function_of)) c.in_ok-functions.ensures in
    program_in p f s c.requires begin all bytes refl
