use Rattle.lower_ops.proofs.Parts.{two}
use Rattle.tac.proofs.HeldStatements.{sees_one, sees_text, sees_inbraces, sees_list}
use Rattle.tac.proofs.initialisers.+put_word.Goals as goal

pub returns-in_ok-put-in-One : goal.returns-in_ok-put-in-One
returns-in_ok-put-in-One t c =
    let s = c.in-One in
    rw (sees_one c.args.initialiser.now s.ty s.e s.is) (two (rw (c.all_free.ensures.temporary, c.all_free.ensures.slot) at c.in_ok-put_converted-in-One.ensures) c.in_ok-put-in-One.ensures)

pub returns-in_ok-put_word-in-InBraces : goal.returns-in_ok-put_word-in-InBraces
returns-in_ok-put_word-in-InBraces t c =
    let s = c.in-InBraces in
    rw (sees_inbraces c.args.initialiser.now s.inner s.is) (two c.in_ok-put-in-InBraces.ensures (rw c.deref.ensures at c.in_ok-put_word-in-InBraces.ensures))

pub returns-in_ok-put-in-Text : goal.returns-in_ok-put-in-Text
returns-in_ok-put-in-Text t c =
    let s = c.in-Text in
    rw (sees_text c.args.initialiser.now s.field-0 s.is) c.in_ok-put-in-Text.ensures

pub returns-in_ok-put-in-List : goal.returns-in_ok-put-in-List
returns-in_ok-put-in-List t c =
    let s = c.in-List in
    rw (sees_list c.args.initialiser.now s.field-0 s.is) c.in_ok-put-in-List.ensures
