use Rattle.std.proofs.Common.{sym, ap, subst, ◌∙◌}
use Rattle.pp_expand.specs.Expansion.{unhidden}
use Rattle.pp_expand.specs.Expands.{HaveFiles}
use Rattle.pp.specs.Left.{ends_run}
use Rattle.pp.specs.Stream.{IsRest, IsStream}
use Rattle.pp.specs.inside.Reading.{is_reading}
use Rattle.pp.proofs.PullLemmas.{and_true}
use Rattle.pp.proofs.StreamLemmas.{begun_by, begun_with, begun_rest, begun_stream}
use Rattle.pp.proofs.stream.Pp.begin.Goals as goal

pub returns-clause-rest : goal.returns-clause-rest
returns-clause-rest c names texts rest o r =
    let pp = c.args.self.now in
    let b = begun_by pp.stage names pp (and_true (is_reading pp.stage) (ends_run pp.files.innermost) c.requires).0 o in
    subst (λ run. IsRest names texts (begun_with c.take-tokens.new.self run pp) rest) (sym c.replace-before.ensures.after)
    (begun_rest names texts pp c.take-tokens.new.self c.of.result rest c.requires (λ texts. c.of.ensures.left texts ∙ ap unhidden c.take-tokens.ensures.result)
    (record { knows = c.of.ensures.known names (subst (HaveFiles names) (sym c.take-tokens.ensures.result) b.1.has_files); end_is = c.of.ensures.end; not_refused = c.of.ensures.refused }) r)

pub returns-clause-stream : goal.returns-clause-stream
returns-clause-stream c names few o =
    subst (λ run. IsStream names (begun_with c.take-tokens.new.self run c.args.self.now)) (sym c.replace-before.ensures.after)
    (begun_stream names c.args.self.now c.take-tokens.new.self c.of.result c.requires few c.take-tokens.ensures.begun c.take-tokens.ensures.tokens o)
