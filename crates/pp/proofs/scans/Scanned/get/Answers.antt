use Rattle.std.proofs.Common.{ap, ◌∙◌}
use Rattle.std.specs.Prelude.{slice_get}
use Rattle.pp.proofs.NearLemmas.{line_near}
use Rattle.pp.proofs.scans.Scanned.get.Goals as goal

pub returns-clause-near : goal.returns-clause-near
returns-clause-near c =
    line_near c.self.inside.name c.args.index c.self.inside.bytes.now c.self.inside.lines.value c.get.result c.self.invariant.0 c.self.invariant.1 (c.get.ensures ∙ ap (λ l. slice_get l c.args.index) c.deref.ensures)
