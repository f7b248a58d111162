use Rattle.std.proofs.Common.{◌∙◌, ap, sym}
use Rattle.std.specs.Prelude.{slice_get}
use Rattle.typing_spec.specs.Scope as typed
use Rattle.typing_scopes.specs.Scopes.{seen_binding}
use Rattle.typing_scopes.proofs.Lookups.{option_seen, option_read, found_in, not_found}
use Rattle.typing_scopes.proofs.scopes.Scope.lookup.Goals as goal

pub returns-in-Some : goal.returns-in-Some
returns-in-Some c =
    option_seen c.get.result ∙ ap seen_binding (option_read c.get.result c.deref.result.now c.in-Some.place c.get.ensures.lookup.0 c.get.ensures.lookup.1 ∙ ap (λ l. slice_get l c.in-Some.place) c.deref.ensures.value) ∙ found_in c.self.inside.bindings.items c.self.inside.names c.args.name c.in-Some.place c.self.invariant.0 (sym c.find.ensures ∙ c.in-Some.is)
    ∙ ap (λ s. typed.lookup s c.args.name) c.self.view_is

pub returns-in-None : goal.returns-in-None
returns-in-None c =
    sym (not_found c.self.inside.bindings.items c.self.inside.names c.args.name c.self.invariant.0 (sym c.find.ensures ∙ c.in-None.is)) ∙ ap (λ s. typed.lookup s c.args.name) c.self.view_is
