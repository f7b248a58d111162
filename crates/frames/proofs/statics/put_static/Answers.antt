use Rattle.std.proofs.Common.{◌≡◌, ◌∙◌, ap, ◌++◌, length, rules}
use Rattle.std.specs.Prelude.{vec_len}
use Rattle.frames.specs.Data.{bytes_of_values}
use Rattle.typed_ast.specs.View.{static_of}
use Rattle.frames.proofs.Filling.{put_object}
use Rattle.frames.proofs.statics.put_static.Goals as goal

pub returns : goal.returns
returns c =
    let old = c.args.bytes.now.items in
    let o = static_of c.args.object.now in
    let put = c.in_ok-put_values.ensures ∙ ap (λ vs. old ++ bytes_of_values o.type.element vs) c.deref.ensures.value in
    let before : vec_len c.args.bytes.now ≡ length old = search rules in
    let behind : vec_len c.put_values.new.bytes ≡ length c.put_values.new.bytes.items = search rules in
    put_object c.resize.result o old c.put_values.new.bytes.items c.resize.new.self.items c.len-start.result c.static_size.result (vec_len c.put_values.new.bytes)
    c.if-not-object.false put (c.len-start.ensures ∙ before) c.static_size.ensures behind c.resize.ensures.items
