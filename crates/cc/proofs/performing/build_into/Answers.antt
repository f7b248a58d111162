use Rattle.std.proofs.Common.{inl, inr, refl, subst}
use Rattle.cc.specs.Transfer.{PutsAll, WritesSome}
use Rattle.cc.proofs.Refusals.{handed_match}
use Rattle.cc.proofs.performing.build_into.Goals as goal

pub returns-in_err-built : goal.returns-in_err-built
returns-in_err-built g c = handed_match c.from_residual.result c.in_err-built.field-0.0 _ _ c.from_residual.ensures.1 (inl (refl, c.in_err-built.ensures.refused))

pub returns-in-Ok : goal.returns-in-Ok
returns-in-Ok g c = record {
  built = c.in_ok-built.built;
  made = c.in_ok-built.ensures.made;
  puts = subst (PutsAll (g.P.Port.seen c.args.port.now) (g.P.Port.seen c.write_out.new.port)) c.as_slice.ensures.value c.in-Ok.ensures;
}

pub returns : goal.returns
returns g c =
    let after = c.write_out.new.port in
    inr (record {
      built = c.in_ok-built.built;
      made = c.in_ok-built.ensures.made;
      writes = subst (λ bytes. WritesSome c.args.name.now bytes (g.P.Port.refused_with after) (g.P.Port.seen c.args.port.now) (g.P.Port.seen after) c.in-Err.fault)
          c.as_slice.ensures.value c.in-Err.ensures;
    })
