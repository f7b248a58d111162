use Rattle.phases.proofs.GrammarLemmas.{grammar_longest, grammar_whole, grammar_other}
use Rattle.phases.proofs.CommentLemmas.{comments}
use Rattle.phases.proofs.lines.scan.Goals as goal

pub returns-in-Ok-clause-longest : goal.returns-in-Ok-clause-longest
returns-in-Ok-clause-longest c = grammar_longest

pub returns-in-Err-clause-longest : goal.returns-in-Err-clause-longest
returns-in-Err-clause-longest c = grammar_longest

pub returns-in-Ok-clause-whole : goal.returns-in-Ok-clause-whole
returns-in-Ok-clause-whole c = grammar_whole

pub returns-in-Err-clause-whole : goal.returns-in-Err-clause-whole
returns-in-Err-clause-whole c = grammar_whole

pub returns-in-Ok-clause-other : goal.returns-in-Ok-clause-other
returns-in-Ok-clause-other c = grammar_other

pub returns-in-Err-clause-other : goal.returns-in-Err-clause-other
returns-in-Err-clause-other c = grammar_other

pub returns-in-Ok-clause-comments : goal.returns-in-Ok-clause-comments
returns-in-Ok-clause-comments c = comments

pub returns-in-Err-clause-comments : goal.returns-in-Err-clause-comments
returns-in-Err-clause-comments c = comments
