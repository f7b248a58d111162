use Rattle.std.proofs.Common.{refl, sym, ap, subst, ◌∙◌, ◌++◌}
use Rattle.pp.specs.Phase4.{with_macros}
use Rattle.macros.specs.Definition.{define}
use Rattle.pp.specs.Held.{presumed_of}
use Rattle.pp.specs.inside.Stepping.{placed, Answers}
use Rattle.pp.proofs.StateLemmas.{defines, on_ok, still_sound}
use Rattle.pp.proofs.state.State.define.Goals as goal

pub returns-clause-does : goal.returns-clause-does
returns-clause-does c s a =
    let tokens = c.deref.ensures.value ∙ c.in_ok-put.ensures.ok ∙ ap (λ l. l ++ placed (presumed_of c.args.self.now.presumed) c.args.line.now) c.new-tokens.ensures.items in
    let line = tokens ∙ ap (λ p. placed p c.args.line.now) (sym a.presumed_is) in
    let new = record c.args.self.now { table = c.try_define.new.self } in
    subst (λ l. Answers s.given c.try_define.result c.try_define.new.names new (with_macros s c.args.at (define s.macros l))) line
    (defines c.try_define.result c.args.names.now c.try_define.new.names c.args.self.now new c.deref.result.now c.args.at c.try_define.ensures.ok c.try_define.ensures.err refl refl refl s a)

pub returns-clause-sound : goal.returns-clause-sound
returns-clause-sound c =
    let new = record c.args.self.now { table = c.try_define.new.self } in
    on_ok c.try_define.result (still_sound c.args.names.now c.try_define.new.names c.args.self.now new c.try_define.ensures.keeps c.requires.sound refl refl)
