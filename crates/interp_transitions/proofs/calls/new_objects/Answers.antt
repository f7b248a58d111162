use Rattle.std.proofs.Common.{map, ap, ◌∙◌, ◌++◌, rules}
use Rattle.typed_ast.specs.View.{object_type_of}
use Rattle.csem.specs.Store.{indeterminate}
use Rattle.interp_store.specs.View.{store_of}
use Rattle.interp_store.specs.layer.Views.{passed_of}
use Rattle.interp_transitions.proofs.Called.{objects_done}
use Rattle.interp_transitions.proofs.calls.new_objects.Goals as goal

pub returns-in-Ok-push_objects-clause-ok : goal.returns-in-Ok-push_objects-clause-ok
returns-in-Ok-push_objects-clause-ok c = objects_done c.args.types.now (map passed_of c.args.passed.now) c.saturating_sub-numbers.result (store_of c.args.store.now) (store_of c.push_numbers.new.store)
    (store_of c.push_objects.new.store) c.in-Ok.ensures.ok (search rules) (c.in-Ok-push_objects.ensures.ok ∙ ap (λ ts. store_of c.push_numbers.new.store ++ map indeterminate (map object_type_of ts)) c.behind.ensures)
