use Rattle.phases.proofs.EndLemmas.{spliced_by}
use Rattle.phases.proofs.lines.ends_spliced.Goals as goal

pub returns : goal.returns
returns c =
    spliced_by c.args.bytes.now c.ends_with-backslash.result c.ends_with-backslash_return.result c.ends_with-trigraph.result c.ends_with-trigraph_return.result
    c.ends_with-backslash.ensures.value c.ends_with-backslash_return.ensures.value c.ends_with-trigraph.ensures.value c.ends_with-trigraph_return.ensures.value
