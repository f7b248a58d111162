use Rattle.std.proofs.Common.{arith, length, ◌≤◌, ◌<◌, ◌≡◌, ◌+◌, ◌*◌, ◌/◌, ℕ, refl}
use Rattle.std.specs.Prelude.{slice_index_or, slice_index}
use Rattle.std.proofs.Common.{subst, sym}
use Rattle.std.proofs.lemmas.Result.{err_from_is_err_and}
use Rattle.asm.proofs.Grow.{item_read}
use Rattle.asm.specs.inside.Code.{Misses, address}
use Rattle.asm.specs.declared.item.Item.{Item}
use Rattle.asm.proofs.Grow.{measured_low}
use Rattle.asm.proofs.Emitting.{good, some_misses, measured_even, far_map}
use Rattle.asm.specs.Layout.{SomeMisses, item_at}
use Rattle.asm.specs.inside.Choice.{longs}
use Rattle.asm.proofs.Writing.{writes_item}
use Rattle.asm.proofs.emit.emit.Goals as goal

pub overflow_add-data_start : goal.overflow_add-data_start
overflow_add-data_start c = omega (arith, measured_low c.args.places.now (longs c.args.long.now) c.args.base c.args.items.now (length c.args.items.now) c.requires.chosen.measured (omega arith) c.requires.low)

pub overflow_mul-data_start : goal.overflow_mul-data_start
overflow_mul-data_start c = omega (arith, measured_low c.args.places.now (longs c.args.long.now) c.args.base c.args.items.now (length c.args.items.now) c.requires.chosen.measured (omega arith) c.requires.low)

pub put_item-requires-clause-good : goal.put_item-requires-clause-good
put_item-requires-clause-good c = good c.args.homes.now c.args.base c.args.items.now c.args.long.now c.args.places.now c.requires.table c.requires.chosen c.requires.aligned c.requires.low

pub put_item-requires-clause-small : goal.put_item-requires-clause-small
put_item-requires-clause-small c =
    let le : c.loop-i.i ≤ length c.args.items.now = omega arith in
    let low = λ (k : ℕ) (l : k ≤ length c.args.items.now). measured_low c.args.places.now (longs c.args.long.now) c.args.base c.args.items.now k c.requires.chosen.measured l c.requires.low in
    (low c.loop-i.i le, measured_even c.args.places.now (longs c.args.long.now) c.args.base c.args.items.now c.loop-i.i c.requires.chosen.measured le c.requires.aligned, (let top : slice_index_or c.args.places.now (length c.args.items.now) 0 < 0x70000000 = low (length c.args.items.now) (omega arith) in omega arith))

pub returns-in_err-put_item-clause-err : goal.returns-in_err-put_item-clause-err
returns-in_err-put_item-clause-err c =
    let xs = c.args.items.now in
    let i = c.loop-i.i in
    let p = err_from_is_err_and c.from_residual-in_err-put_item.result c.from_residual-in_err-put_item.ensures.1 in
    let same = item_read xs i c.index-items-i.result c.loop-i-test.true c.index-items-i.is in
    let P : Item → Type 0 = λ x. Misses (longs c.args.long.now i) (slice_index c.args.places.now i) (address c.args.homes.now c.args.places.now) x in
    rw (p.1, p.2) (far_map (P c.index-items-i.result) (SomeMisses c.args.base xs) (λ m. some_misses c.args.homes.now c.args.base xs c.args.long.now c.args.places.now c.requires.table c.requires.chosen i c.loop-i-test.true (subst P (sym same) m)) c.in_err-put_item.field-0.0 c.in_err-put_item.ensures.err)

pub loop-i-preserved : goal.loop-i-preserved
loop-i-preserved c =
    let xs = c.args.items.now in
    let ps = c.args.places.now in
    let i = c.loop-i.i in
    let same : item_at xs i ≡ c.index-items-i.result = item_read xs i c.index-items-i.result c.loop-i-test.true c.index-items-i.is in
    writes_item (address c.args.homes.now ps) ((slice_index_or ps (length xs) 0 + 4095) / 4096 * 4096) (longs c.args.long.now) c.args.base xs i c.loop-i.code.items c.put_item.new.code.items (longs c.args.long.now i) (slice_index ps i) c.index-items-i.result c.loop-i.invariant c.in_ok-put_item.ensures.ok refl (c.requires.chosen.measured.at i (omega arith)) same
