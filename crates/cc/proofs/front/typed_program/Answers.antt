use Rattle.std.proofs.Common.{◌≡◌, sym, subst, ap, ◌∙◌, Some}
use Rattle.tree.specs.View.{unit_of}
use Rattle.typing_spec.specs.Verdict.{fine}
use Rattle.typing_spec.specs.Units.{unit_typed}
use Rattle.typing.specs.Told.{IsFaultOfVerdict}
use Rattle.typed_ast.specs.View.{program_of}
use Rattle.cc.proofs.Checks.{verdict_at, fault_at}
use Rattle.cc.proofs.front.typed_program.Goals as goal

pub unreachable-requires : goal.unreachable-requires
unreachable-requires c =
    let found = (c.find.ensures.found c.requires.0).1 (c.requires.1 ∙ ap Some (sym c.as_bytes.ensures.value)) in
    absurd (c.in_default.not-Some c.requires.0 found)

pub returns-in-Ok-clause-ok : goal.returns-in-Ok-clause-ok
returns-in-Ok-clause-ok c = record {
  file = c.in-Some.file;
  named = (c.find.ensures.found c.in-Some.file).0 c.in-Some.is ∙ ap Some c.as_bytes.ensures.value;
  typed = verdict_at c.args.stack c.args.names.now c.in-Some.file (unit_of c.args.unit) (fine (program_of c.in-Ok.program))
      (subst (λ n. unit_typed n c.args.names.now (record { file = c.in-Some.file; line = 1 }) (unit_of c.args.unit) ≡ fine (program_of c.in-Ok.program)) c.get-bytes.ensures.value c.in-Ok.ensures.ok);
}

pub returns-in-Err-clause-stops : goal.returns-in-Err-clause-stops
returns-in-Err-clause-stops c = record {
  file = c.in-Some.file;
  named = (c.find.ensures.found c.in-Some.file).0 c.in-Some.is ∙ ap Some c.as_bytes.ensures.value;
  fault_is = fault_at c.args.stack c.args.names.now c.in-Some.file (unit_of c.args.unit) c.in-Err.fault
      (subst (λ n. IsFaultOfVerdict c.in-Err.fault c.args.names.now (unit_typed n c.args.names.now (record { file = c.in-Some.file; line = 1 }) (unit_of c.args.unit))) c.get-bytes.ensures.value c.in-Err.ensures.err);
}
