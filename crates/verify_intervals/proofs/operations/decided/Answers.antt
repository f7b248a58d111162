use Rattle.std.proofs.Common.{◌≡◌, refl, to_z, of_z, w64, rules}
use Rattle.std.proofs.Math.Facts.{to_z-of_z}
use Rattle.verify_intervals.proofs.Decisions.{decides_false, decides_true}
use Rattle.verify_intervals.proofs.operations.decided.Goals as goal

pub returns-then-fails : goal.returns-then-fails
returns-then-fails c = decides_false _ _ _ _ _ _ c.requires (c.never-fails.ensures c.if-fails.true) c.single.ensures

pub returns : goal.returns
returns c = let same : to_z w64 (of_z w64 c.args.all.high) ≡ c.args.all.high = search (rules, to_z-of_z) in
    decides_true _ _ _ _ _ _ c.requires (c.never-holds.ensures c.if-not-holds.false) (c.begins_at_zero-truth.ensures c.if-not-truth.false) refl same
