use Rattle.std.proofs.Common.{sym, ap, ◌∙◌, drop}
use Rattle.pp.specs.Lines.{first_end}
use Rattle.pp.specs.Groups.{is_text, role_of}
use Rattle.pp.specs.inside.Stepping.{line_with}
use Rattle.pp.proofs.FileLemmas.{text_nothing, text_answers, text_files, text_meant, not_in_run, still_goes, directive_stands}
use Rattle.pp.proofs.file.line_done.Goals as goal

pub returns-then-not-is_active-clause-stands : goal.returns-then-not-is_active-clause-stands
returns-then-not-is_active-clause-stands c around p o keeps st =
    let l = line_with c.args.line.now (first_end (drop c.args.index c.args.file.now.ends)) in
    text_nothing c.args.names.now c.args.state.now c.args.file.now.run around c.args.file.now.conditionals l p o (sym c.in_default.ensures) (sym c.is_active.ensures ∙ c.if-not-is_active.true) st

pub returns-in_default-clause-stands : goal.returns-in_default-clause-stands
returns-in_default-clause-stands c around p o keeps st =
    let l = line_with c.args.line.now (first_end (drop c.args.index c.args.file.now.ends)) in
    text_answers c.put_line.result c.args.names.now c.args.state.now c.args.file.now.run c.put_line.new.self around c.args.file.now.conditionals l p o (sym c.in_default.ensures) (sym c.is_active.ensures ∙ c.if-not-is_active.false)
    c.put_line.ensures.begun c.put_line.ensures.ok c.put_line.ensures.err st

pub returns-in_default-clause-files : goal.returns-in_default-clause-files
returns-in_default-clause-files c =
    text_files c.put_line.result c.args.names.now c.args.state.now c.args.file.now.run c.put_line.new.self c.args.line.now c.put_line.ensures.ok c.requires.files c.requires.sound.has_file

pub returns-clause-stands : goal.returns-clause-stands
returns-clause-stands c around p o keeps st =
    let l = line_with c.args.line.now (first_end (drop c.args.index c.args.file.now.ends)) in
    let begun = not_in_run c.args.file.now.run.begun (role_of c.args.line.now) c.requires.ended (ap is_text (sym c.in-Some.ensures) ∙ text_meant c.in-Some.role) in
    directive_stands c.directive_done.result c.args.names.now c.directive_done.new.names c.args.state.now c.args.state.now c.directive_done.new.state c.args.file.now.run
    c.directive_done.new.file.run around c.args.file.now.conditionals c.directive_done.new.file.conditionals c.in-Some.role l p o (sym c.in-Some.ensures) st
    (ap (λ r. r.begun) c.directive_done.ensures.run ∙ begun) (ap (λ r. r.tokens) c.directive_done.ensures.run ∙ c.requires.idle begun)
    (still_goes around.texts c.args.names.now c.args.state.now c.args.file.now.run.begun st.text st.now begun st.agrees) c.directive_done.ensures.given
    (λ s a. c.directive_done.ensures.rests around p s keeps a)
