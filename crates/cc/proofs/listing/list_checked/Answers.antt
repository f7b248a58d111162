use Rattle.std.proofs.Common.{List, map, sym, subst}
use Rattle.typed_ast.specs.declared.units.Function as unit
use Rattle.typed_ast.specs.View.{program_of, function_of}
use Rattle.cc.specs.inside.Light.{AreLight}
use Rattle.cc.proofs.Light.{are_light}
use Rattle.cc.proofs.Entries.{entries_made}
use Rattle.cc.proofs.listing.list_checked.Goals as goal

pub put_entries-requires : goal.put_entries-requires
put_entries-requires c = subst (λ (fs : List unit.Function). AreLight (map function_of fs)) (sym c.deref.ensures.value) (are_light (program_of c.args.program.now) c.requires)

pub returns-in-Ok-put_entries : goal.returns-in-Ok-put_entries
returns-in-Ok-put_entries c = record {
  makes = record {
    builds = record {
      frames = c.in-Ok.made.generated.frames.items;
      each = c.in-Ok.ensures.is_file.frames_fit.0;
      runs = c.in-Ok.ensures.runs;
      entries_are = entries_made c.args.names.now c.new-frames.result.items c.put_entries.new.list.items _ _ _ _ c.new-frames.ensures.items c.deref.ensures.value c.as_slice.ensures.value c.in-Ok-put_entries.ensures;
    };
    file = c.in-Ok.ensures.is_file;
  };
  items_are = c.in-Ok.ensures.items_are;
  low = c.in-Ok.ensures.low;
  reach = c.in-Ok.ensures.reach;
}
