use Rattle.std.proofs.Common.{Some, refl, sym, ap, ◌∙◌}
use Rattle.std.proofs.lemmas.Option.{slice_get_within}
use Rattle.pp.specs.Phase4.{inside}
use Rattle.pp.proofs.LineLemmas.{new_file}
use Rattle.pp.proofs.line_directive.rename.Goals as goal

pub returns-clause-does : goal.returns-clause-does
returns-clause-does c texts number keeps l s a =
    let new = record c.args.state.now { presumed = record { behind = c.args.end; line = c.args.line; file = c.in-Ok.file } } in
    new_file texts c.args.names.now c.intern.new.self c.args.state.now new c.args.end c.args.line c.in-Ok.file c.args.at number c.args.name.now s refl c.intern.ensures.keeps c.intern.ensures.once keeps l
    (sym c.is_file_text.ensures ∙ c.if-not-is_file_text.false) (c.in-Ok.ensures.text ∙ ap Some (c.inside.ensures ∙ ap inside c.spelling.ensures)) a

pub returns-clause-sound : goal.returns-clause-sound
returns-clause-sound c = record { room = c.requires.sound.room; has_file = slice_get_within c.intern.new.self c.in-Ok.file c.inside.result.now c.in-Ok.ensures.text }
