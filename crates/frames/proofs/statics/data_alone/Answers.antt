use Rattle.std.proofs.Common.{◌≡◌, map, length, arith, rules}
use Rattle.std.specs.Prelude.{vec_len}
use Rattle.typed_ast.specs.View.{static_of}
use Rattle.frames.specs.Sizes.{literal_bytes}
use Rattle.frames.specs.Data.{bytes_of_literals}
use Rattle.frames.proofs.Filling.{longer}
use Rattle.frames.proofs.Whole.{data_bytes_are, length_literals}
use Rattle.frames.proofs.statics.data_alone.Goals as goal

pub put_literals-requires : goal.put_literals-requires
put_literals-requires c =
    let counted : vec_len c.resize.new.self ≡ length c.resize.new.self.items = search rules in
    let first : length c.resize.new.self.items ≡ 16 = omega (arith, counted, c.in_ok-resize.ensures.len) in
    omega (arith, first, data_bytes_are (map (λ text. text.items) c.args.literals.now) (map static_of c.args.statics.now), c.requires)

pub put_statics-requires : goal.put_statics-requires
put_statics-requires c =
    let ts = map (λ t. t.items) c.args.literals.now in
    let counted : vec_len c.resize.new.self ≡ length c.resize.new.self.items = search rules in
    let first : length c.resize.new.self.items ≡ 16 = omega (arith, counted, c.in_ok-resize.ensures.len) in
    let put = longer c.resize.new.self.items (bytes_of_literals ts) c.put_literals.new.bytes.items (literal_bytes ts) c.in_ok-put_literals.ensures (length_literals ts) in
    omega (arith, first, put, data_bytes_are ts (map static_of c.args.statics.now), c.requires)
