use Rattle.std.proofs.Common.{◌∙◌, ap, map, arith, refl, []}
use Rattle.interp_store.proofs.Trees.{no_object_put, whole_put}
use Rattle.interp_store.specs.declared.element_tree.Tree.{Tree}
use Rattle.interp_store.specs.View.{tree_of}
use Rattle.csem.specs.Store.{put_in}
use Rattle.interp_store.proofs.store.Store.put.Goals as goal

pub returns-then-n-len : goal.returns-then-n-len
returns-then-n-len c = no_object_put c.args.self.now.objects.items c.args.n [] _ (omega (arith, c.if-n-len.true, c.len.ensures, c.args.self.now.objects.ok.0))

pub returns : goal.returns
returns c =
    whole_put c.args.self.now.objects.items c.args.n c.replace-old.new.dest [] refl
    ∙ ap (λ (t : Tree). put_in (map tree_of c.args.self.now.objects.items) c.args.n [] (tree_of t)) c.replace-old.ensures.after
