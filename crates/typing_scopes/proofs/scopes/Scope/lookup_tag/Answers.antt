use Rattle.std.proofs.Common.{◌∙◌, ap, sym}
use Rattle.std.specs.Prelude.{slice_get}
use Rattle.typing_spec.specs.Scope as typed
use Rattle.typing_scopes.specs.Scopes.{seen_tag}
use Rattle.typing_scopes.proofs.Lookups.{option_read, tag_found_in, tag_not_found}
use Rattle.typing_scopes.proofs.scopes.Scope.lookup_tag.Goals as goal

pub returns-in-Some : goal.returns-in-Some
returns-in-Some c =
    ap seen_tag (c.copied.ensures ∙ option_read c.get.result c.deref.result.now c.in-Some.place c.get.ensures.lookup.0 c.get.ensures.lookup.1 ∙ ap (λ l. slice_get l c.in-Some.place) c.deref.ensures.value) ∙ tag_found_in c.self.inside.tags.items c.self.inside.tag_names c.args.name c.in-Some.place c.self.invariant.1 (sym c.find.ensures ∙ c.in-Some.is)
    ∙ ap (λ s. typed.tag_in s.tags c.args.name) c.self.view_is

pub returns-in-None : goal.returns-in-None
returns-in-None c =
    sym (tag_not_found c.self.inside.tags.items c.self.inside.tag_names c.args.name c.self.invariant.1 (sym c.find.ensures ∙ c.in-None.is)) ∙ ap (λ s. typed.tag_in s.tags c.args.name) c.self.view_is
