use Rattle.cc.proofs.Prints.{list_now, print_means}
use Rattle.cc.proofs.performing.print_into.Goals as goal

pub returns-in-Ok : goal.returns-in-Ok
returns-in-Ok g c =
    let set = c.args.set.now in
    let main = c.args.main.now in
    let texts = c.preprocessed.new.names in
    let items = c.in-Ok.list.items in
    print_means set main texts items c.as_slice.result.now
    (record { before = g.W.Write.contents c.args.out.now; after = g.W.Write.contents c.print.new.w }) c.print.result c.as_slice.ensures.value
    (list_now set main texts items c.in-Ok.ensures.list c.in-Ok.ensures.once) c.print.ensures.ok c.print.ensures.refused
