use Rattle.std.proofs.Common.{◌≡◌, map, ◌+◌, arith}
use Rattle.typed_ast.specs.View.{static_of}
use Rattle.frames.specs.Sizes.{literal_bytes}
use Rattle.frames.proofs.Whole.{data_bytes_are}
use Rattle.frames.proofs.starts.Starts.new.Goals as goal

pub put_literal_starts-requires : goal.put_literal_starts-requires
put_literal_starts-requires c =
    omega (arith, data_bytes_are (map (λ text. text.items) c.args.texts.now) (map static_of c.args.objects.now), c.requires)

pub put_static_starts-requires : goal.put_static_starts-requires
put_static_starts-requires c =
    let end : c.in_ok-end.end ≡ 16 + literal_bytes (map (λ t. t.items) c.args.texts.now) = c.in_ok-end.ensures.1 in
    omega (arith, end, data_bytes_are (map (λ text. text.items) c.args.texts.now) (map static_of c.args.objects.now), c.requires)
