use Rattle.std.proofs.Common.{◌≡◌, suc, ◌-◌, ◌*◌, ◌≤◌, ◌⊎◌, inl, inr, map, length, slice_get, refl, ap, ◌∙◌, arith}
use Rattle.csem.specs.Statements.{text_or_none}
use Rattle.typed_ast.specs.View.{initialiser_of, initialisers_of}
use Rattle.lower_ops.proofs.Parts.{two}
use Rattle.tac.specs.inside.Scopes.{program_in, function_in}
use Rattle.tac.proofs.HeldStatements.{sees_one, sees_text, sees_inbraces, sees_list}
use Rattle.typing_spec.specs.Types.{elements_in}
use Rattle.tac.proofs.SizedObjects.{row_is, rows_inside}
use Rattle.tac.proofs.Filled.{none_filled, next_filled, all_filled}
use Rattle.tac.proofs.initialisers.+fills.Goals as goal
use Rattle.tac.proofs.initialisers.+fills.Goals.{put_fill_all-else-loop-initialiser-test, put_fill_all-then-loop-initialiser-test+then-left-eq0}

pub put_fill_all-loop-initialiser-init : goal.put_fill_all-loop-initialiser-init
put_fill_all-loop-initialiser-init t c = record {
  inside = c.requires.whole;
  filled = none_filled (program_in c.args.scope.now) (function_in c.args.scope.now) (initialisers_of (map initialiser_of c.args.all.now)) c.args.count c.args.lengths.now c.args.start
      c.args.code.now.list.items c.args.code.now.short;
}

pub put_fill_all-loop-initialiser-preserved : goal.put_fill_all-loop-initialiser-preserved
put_fill_all-loop-initialiser-preserved t c =
    let row = row_is c.elements_counted-row.result (elements_in c.args.lengths.now) c.elements_counted-row.ensures c.requires.row in
    let less : c.loop-initialiser.left ≡ suc (c.loop-initialiser.left - 1) = omega (arith, c.if-left-eq0.false) in
    record {
      inside = rows_inside c.loop-initialiser.next.number c.ahead_of-next.result.number c.loop-initialiser.left (c.loop-initialiser.left - 1) c.elements_counted-row.result
          (elements_in c.args.lengths.now) less c.ahead_of-next.ensures.number row c.loop-initialiser.invariant.inside;
      filled = next_filled (program_in c.args.scope.now) (function_in c.args.scope.now) (initialisers_of (map initialiser_of c.args.all.now)) c.args.count c.args.lengths.now c.args.start
          initialiser_of initialisers_of (λ i is. refl) c.args.all.now c.loop-initialiser.initialiser-index c.initialiser-item.result c.loop-initialiser-test.true c.initialiser-item.is
          c.loop-initialiser.left (c.loop-initialiser.left - 1) c.elements_counted-row.result c.loop-initialiser.next _ c.loop-initialiser.invariant.filled c.in_ok-put_fills.ensures row
          less c.ahead_of-next.ensures.element c.ahead_of-next.ensures.array c.ahead_of-next.ensures.number;
    }

pub put_fill_all-returns : goal.put_fill_all-returns
put_fill_all-returns t c =
    let l = c.loop-initialiser in
    let row = row_is c.elements_counted-row.result (elements_in c.args.lengths.now) c.elements_counted-row.ensures c.requires.row in
    let ends : (length c.args.all.now ≤ l.initialiser-index) ⊎ (l.left ≡ 0) =
    elim c.loop-initialiser-test.branch [
      | put_fill_all-else-loop-initialiser-test w ↦ inl (omega (arith, w.loop-initialiser-test.false, l.auto.initialiser-index-end))
      | put_fill_all-then-loop-initialiser-test+then-left-eq0 w ↦ inr w.if-left-eq0.true
    ] in
    all_filled (program_in c.args.scope.now) (function_in c.args.scope.now) (initialisers_of (map initialiser_of c.args.all.now)) c.args.count c.args.lengths.now c.args.start
    initialiser_of initialisers_of refl c.args.all.now l.initialiser-index l.left (l.left * c.elements_counted-row.result) l.next ends l.invariant.filled
    (ap (λ n. l.left * n) row) c.in_ok-put_clears.ensures

pub put_fills-returns-in_ok-put_set-in-One : goal.put_fills-returns-in_ok-put_set-in-One
put_fills-returns-in_ok-put_set-in-One t c =
    let s = c.in-One in
    rw (sees_one c.args.initialiser.now s.ty s.e s.is) c.in_ok-put_set-in-One.ensures

pub put_fills-returns-in_ok-put_copies-in-Text : goal.put_fills-returns-in_ok-put_copies-in-Text
put_fills-returns-in_ok-put_copies-in-Text t c =
    let s = c.in-Text in
    let characters = c.characters_of-characters.ensures ∙ ap (λ xs. length (text_or_none (slice_get (map (λ text. text.items) xs) s.literal))) c.deref.ensures.value in
    rw (sees_text c.args.initialiser.now s.literal s.is) (rw (c.first_length-count.ensures, characters) at c.in_ok-put_copies-in-Text.ensures)

pub put_fills-returns-in_ok-put_fills-in-InBraces : goal.put_fills-returns-in_ok-put_fills-in-InBraces
put_fills-returns-in_ok-put_fills-in-InBraces t c =
    let s = c.in-InBraces in
    rw (sees_inbraces c.args.initialiser.now s.inner s.is) (two c.in_ok-put-in-InBraces.ensures (rw c.deref-in-InBraces.ensures at c.in_ok-put_fills-in-InBraces.ensures))

pub put_fills-returns-in_ok-put_fill_all-in-List : goal.put_fills-returns-in_ok-put_fill_all-in-List
put_fills-returns-in_ok-put_fill_all-in-List t c =
    let s = c.in-List in
    rw (sees_list c.args.initialiser.now s.all s.is)
    (two c.in_ok-put-in-List.ensures (rw (c.first_length-count.ensures, c.inner_lengths.ensures, c.deref-in-List.ensures.value) at c.in_ok-put_fill_all-in-List.ensures))
