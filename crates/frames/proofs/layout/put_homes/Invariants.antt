use Rattle.std.proofs.Common.{◌≡◌, ◌+◌, ◌++◌, drop, map}
use Rattle.typed_ast.specs.View.{object_type_of}
use Rattle.frames.specs.Layout.{homes_from, words_in, bytes_in}
use Rattle.frames.proofs.layout.put_homes.Given as goal

abbrev pub invariant-loop-object : goal.invariant-loop-object
invariant-loop-object l = record {
  words : l.cell + words_in (map object_type_of (drop l.object-index l.objects)) ≡ words_in (map object_type_of l.objects);
  bytes : l.offset + bytes_in (map object_type_of (drop l.object-index l.objects)) ≡ bytes_in (map object_type_of l.objects);
  done : l.homes.items ++ homes_from l.cell l.offset (map object_type_of (drop l.object-index l.objects)) ≡ l.initial.homes.items ++ homes_from 0 0 (map object_type_of l.objects);
}
