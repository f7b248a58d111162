use Rattle.std.proofs.Common.{sym, slice_get}
use Rattle.cc.proofs.Texts.{same_bytes, no_text}
use Rattle.cc.proofs.front.text_is_bytes.Goals as goal

pub returns-in-Some : goal.returns-in-Some
returns-in-Some c = λ text e. same_bytes (slice_get c.args.names.now c.args.number) c.in-Some.text.now text e (sym c.in-Some.ensures) c.are_bytes.ensures

pub returns-in_default : goal.returns-in_default
returns-in_default c = λ text e. no_text (slice_get c.args.names.now c.args.number) text e (sym c.in_default.ensures)
