use Rattle.std.proofs.Common.{◌≡◌, map, refl, ap, sym, ◌∙◌, subst}
use Rattle.std.specs.Prelude.{None, Some, slice_get, option_map}
use Rattle.std.proofs.lemmas.Option.{slice_get_past, slice_get_read, slice_get-map}
use Rattle.typed_ast.specs.View.{object_type_of, initialiser_of}
use Rattle.tac.specs.inside.Scopes.{program_in, function_in}
use Rattle.tac.specs.inside.Written.{WroteInitialises}
use Rattle.tac.proofs.Firsts.{no_object}
use Rattle.tac.proofs.SizedObjects.{each_sized}
use Rattle.tac.proofs.initialisers.put_first.Goals as goal

pub returns-in-None : goal.returns-in-None
returns-in-None c =
    let xs = c.args.scope.now.function.now.objects.items in
    let n = c.args.object in
    let e : slice_get xs n ≡ None = sym (ap (λ ys. slice_get ys n) c.deref.ensures.value) ∙ slice_get_past c.deref.result.now n c.in-None.ensures.lookup.3 in
    no_object (program_in c.args.scope.now) (function_in c.args.scope.now) (initialiser_of c.args.initialiser.now) n (slice_get (map object_type_of xs) n) c.args.code.now.list.items
    (slice_get-map object_type_of xs n ∙ ap (option_map object_type_of) e) c.args.code.now.short

pub put_object-requires : goal.put_object-requires
put_object-requires c =
    let xs = c.args.scope.now.function.now.objects.items in
    let n = c.args.object in
    let x = c.in-Some.found.now in
    let e : slice_get xs n ≡ Some x =
    sym (ap (λ ys. slice_get ys n) c.deref.ensures.value) ∙ slice_get_read c.deref.result.now _ n x refl c.in-Some.ensures.lookup.3.0 c.in-Some.ensures.lookup.1 in
    each_sized (map object_type_of xs) n (object_type_of x) c.args.scope.now.objects (slice_get-map object_type_of xs n ∙ ap (option_map object_type_of) e)

pub returns-in_ok-put_object-in-Some : goal.returns-in_ok-put_object-in-Some
returns-in_ok-put_object-in-Some c =
    let xs = c.args.scope.now.function.now.objects.items in
    let n = c.args.object in
    let x = c.in-Some.found.now in
    let e : slice_get xs n ≡ Some x =
    sym (ap (λ ys. slice_get ys n) c.deref.ensures.value) ∙ slice_get_read c.deref.result.now _ n x refl c.in-Some.ensures.lookup.3.0 c.in-Some.ensures.lookup.1 in
    subst (λ o. WroteInitialises (program_in c.args.scope.now) (function_in c.args.scope.now) o (initialiser_of c.args.initialiser.now) n c.args.code.now.list.items c.put_object.new.code.list.items)
    (sym (slice_get-map object_type_of xs n ∙ ap (option_map object_type_of) e)) c.in_ok-put_object-in-Some.ensures
