use Rattle.std.proofs.Common.{inl, refl}
use Rattle.cc.proofs.Listings.{list_means}
use Rattle.cc.proofs.performing.list_into.Goals as goal

pub write_listing-requires : goal.write_listing-requires
write_listing-requires g c = c.in-Ok.ensures.listed.low

pub returns-in-Ok : goal.returns-in-Ok
returns-in-Ok g c =
    list_means c.args.stack c.args.set.now c.args.main.now c.in-Ok.listed.built c.in-Ok.listed.items (record { before = g.W.Write.contents c.args.out.now; after = g.W.Write.contents c.write_listing.new.out }) c.in-Ok.ensures.listed c.write_listing.result
    c.write_listing.ensures.ok c.write_listing.ensures.refused

pub returns-in-Err : goal.returns-in-Err
returns-in-Err g c = inl (refl, c.in-Err.ensures.refused)
