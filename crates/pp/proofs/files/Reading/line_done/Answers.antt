use Rattle.std.proofs.Common.{◌≡◌, ◌+◌, ℕ, List, suc, sym, ap, subst, ◌∙◌, drop, arith}
use Rattle.std.proofs.lemmas.Result.{err_from_is_err_and}
use Rattle.pp.specs.Lines.{lines_with, first_end}
use Rattle.pp.specs.Groups.{Parsed, is_text, parsed, role_of, with_line}
use Rattle.pp.specs.Left.{around_with, Stands}
use Rattle.pp.specs.inside.Stepping.{line_with}
use Rattle.pp.proofs.FileLemmas.{next_stands, ended_by, idle_by}
use Rattle.pp.proofs.IncludeLemmas.{include_role}
use Rattle.pp.proofs.files.Reading.line_done.Goals as goal

succ : (i : ℕ) → suc i ≡ i + 1
succ i = omega arith

pub include_done-requires-clause-ended : goal.include_done-requires-clause-ended
include_done-requires-clause-ended c =
    idle_by c.args.self.now c.in-Some.line.now (sym c.in-Some.ensures.line) c.requires.ended (ap is_text (include_role c.in-Some.line.now (sym c.is_include.ensures ∙ c.if-is_include.true)))

pub include_done-requires-clause-idle : goal.include_done-requires-clause-idle
include_done-requires-clause-idle c =
    c.requires.idle (idle_by c.args.self.now c.in-Some.line.now (sym c.in-Some.ensures.line) c.requires.ended
    (ap is_text (include_role c.in-Some.line.now (sym c.is_include.ensures ∙ c.if-is_include.true))))

pub line_done-requires-clause-ended : goal.line_done-requires-clause-ended
line_done-requires-clause-ended c = ended_by c.args.self.now c.in-Some.line.now (sym c.in-Some.ensures.line) c.requires.ended

pub returns-then-is_include-clause-waits : goal.returns-then-is_include-clause-waits
returns-then-is_include-clause-waits c texts o keeps st =
    let r = c.args.self.now in
    let ts = c.in-Some.line.now in
    let around = around_with c.args.room c.args.set.now texts in
    let p = ap (λ k. parsed (drop k (lines_with r.lines r.file.ends))) (succ r.next) in
    let end = first_end (drop r.next r.file.ends) in
    let next = next_stands c.args.names.now c.args.state.now r.file.run around r.file.conditionals r.lines r.file.ends r.next ts o (sym c.in-Some.ensures.line) st in
    c.include_done.ensures.waits texts end (parsed (drop (r.next + 1) (lines_with r.lines r.file.ends))) o keeps
    (subst (λ (p : Parsed). Stands c.args.names.now c.args.state.now r.file.run around r.file.conditionals (with_line (role_of ts) (line_with ts end) p) o) p next)

pub returns-in_err-line_done-clause-waits : goal.returns-in_err-line_done-clause-waits
returns-in_err-line_done-clause-waits c texts o keeps st =
    let q = err_from_is_err_and c.from_residual.result c.from_residual.ensures.1 in
    let r = c.args.self.now in
    let ts = c.in-Some.line.now in
    let around = around_with c.args.room c.args.set.now texts in
    let next = next_stands c.args.names.now c.args.state.now r.file.run around r.file.conditionals r.lines r.file.ends r.next ts o (sym c.in-Some.ensures.line) st in
    rw (q.1, q.2) (c.in_err-line_done.ensures.stands around (parsed (drop (suc r.next) (lines_with r.lines r.file.ends))) o keeps next)

pub returns-clause-waits : goal.returns-clause-waits
returns-clause-waits c texts o keeps st =
    let r = c.args.self.now in
    let ts = c.in-Some.line.now in
    let around = around_with c.args.room c.args.set.now texts in
    let p = ap (λ k. parsed (drop k (lines_with r.lines r.file.ends))) (succ r.next)
    ∙ ap (λ (e : List ℕ). parsed (drop (r.next + 1) (lines_with r.lines e))) (sym c.in_ok-line_done.ensures.ends) in
    let end = first_end (drop r.next r.file.ends) in
    let next = next_stands c.args.names.now c.args.state.now r.file.run around r.file.conditionals r.lines r.file.ends r.next ts o (sym c.in-Some.ensures.line) st in
    c.in_ok-line_done.ensures.stands around (parsed (drop (r.next + 1) (lines_with r.lines c.line_done.new.file.ends))) o keeps
    (subst (λ (p : Parsed). Stands c.args.names.now c.args.state.now r.file.run around r.file.conditionals (with_line (role_of ts) (line_with ts end) p) o) p next)
