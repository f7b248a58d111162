use Rattle.std.proofs.Common.{rules, [], ◌∷◌, sym, append-nil}
use Rattle.loader.specs.inside.Segments.{nothing, skipped, loaded}
use Rattle.loader.proofs.segments.push_segment.Goals as goal

pub returns-in_ok-push : goal.returns-in_ok-push
returns-in_ok-push c =
    let s = c.in_ok-segment_of.field-0 in
    (s ∷ [], search rules, loaded c.args.load.now s [] [] c.if-load-ne0.true (search rules) nothing)

pub returns-else-load-ne0 : goal.returns-else-load-ne0
returns-else-load-ne0 c = ([], sym (append-nil _), skipped c.args.load.now [] [] (search rules) nothing)
