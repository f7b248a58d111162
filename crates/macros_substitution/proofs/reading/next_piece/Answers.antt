use Rattle.std.proofs.Common.{ap, ◌∙◌, sym}
use Rattle.macros_substitution.specs.Meaning.{hidden_lists}
use Rattle.macros_substitution.proofs.ReadingLaws.{reads_token, reads_string, string_refused}
use Rattle.macros_substitution.proofs.reading.next_piece.Goals as goal

pub returns-in-Ok-clause-value : goal.returns-in-Ok-clause-value
returns-in-Ok-clause-value c = λ texts sets call x xs ef ea eargs eb ebs.
    reads_string texts sets call c.args.after x xs c.args.is_function_like c.space_before-space_before.result c.args.at (hidden_lists texts sets c.args.arguments.now) c.args.token.now c.args.behind.now c.in-Some.index c.in-Ok.piece
    ef ea eargs eb ebs (sym c.operand.ensures ∙ c.in-Some.is) (c.space_before-space_before.ensures ∙ ap (λ t. t.space_before) c.token.ensures) (c.in-Ok.ensures.value texts sets)

pub returns-in-Err-clause-value : goal.returns-in-Err-clause-value
returns-in-Err-clause-value c = λ texts sets call x xs ef ea eargs eb ebs.
    string_refused texts sets call c.args.after x xs c.args.is_function_like c.space_before-space_before.result c.args.at (hidden_lists texts sets c.args.arguments.now) c.args.token.now c.args.behind.now c.in-Some.index c.in-Err.refusal
    ef ea eargs eb ebs (sym c.operand.ensures ∙ c.in-Some.is) (c.space_before-space_before.ensures ∙ ap (λ t. t.space_before) c.token.ensures) (c.in-Err.ensures.value texts sets)

pub returns-clause-value : goal.returns-clause-value
returns-clause-value c = λ texts sets call x xs ef ea eargs eb ebs.
    reads_token texts sets call c.args.after x xs c.args.is_function_like c.is_beside_joint-beside.result c.args.at c.args.token.now c.args.behind.now c.in_ok-piece.piece
    ef ea eb ebs (sym c.operand.ensures ∙ c.in_default.is) c.is_beside_joint-beside.ensures (c.in_ok-piece.ensures.ok texts sets)
