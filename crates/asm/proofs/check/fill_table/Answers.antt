use Rattle.std.proofs.Common.{length, subst, ◌≡◌, ◌∙◌, ℕ}
use Rattle.std.specs.Prelude.{IsTrue, ◌↔◌}
use Rattle.asm.specs.Layout.{IsSound}
use Rattle.asm.proofs.Tables.{sound_of, table_of, all_inside}
use Rattle.asm.proofs.check.fill_table.Goals as goal

pub returns-then-note_items-clause-sound : goal.returns-then-note_items-clause-sound
returns-then-note_items-clause-sound c =
    let xs = c.args.items.now in
    let homes = c.note_items.new.homes in
    let noted = c.if-note_items.ensures.noted in
    let same : length homes ≡ length c.args.homes.now = c.note_items.auto.homes ∙ c.clear.auto.homes in
    subst (λ (n : ℕ). IsTrue c.is_full.result ↔ IsSound n xs) same
    (λ t. sound_of homes xs (table_of homes xs noted (c.is_full.ensures.0 t)), λ s. c.is_full.ensures.1 (all_inside homes xs noted s))
