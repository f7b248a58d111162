use Rattle.std.proofs.Common.{◌≡◌, ℕ, ap, ◌∙◌, map, Vec, Global}
use Rattle.srcset.specs.NameTable.{with_text}
use Rattle.srcset.proofs.NameLemmas.{with_key, stored_key, with_found, numbers_once_with, keeps_numbers}
use Rattle.srcset.proofs.names.Names.intern.Goals as goal

pub returns-in-Some-clause-grows : goal.returns-in-Some-clause-grows
returns-in-Some-clause-grows c = with_found _ _ c.in-Some.n ((c.find.ensures.found c.in-Some.n).0 c.in-Some.is)

-- the table after the insert
grown : (c : goal.In-Ok-insert_full) → map (λ (v : Vec ℕ Global). v.items) c.insert_full.new.self.keys ≡ with_text c.args.self.now c.args.text.now
grown c =
    let copied : c.in-Ok.copy.items ≡ c.args.text.now = c.in-Ok.ensures.items in
    ap (map (λ (v : Vec ℕ Global). v.items)) c.in-Ok-insert_full.ensures.keys
    ∙ with_key (λ (v : Vec ℕ Global). v.items) c.self.inside.texts.keys c.in-Ok.copy
    ∙ ap (λ t. with_text (map (λ (v : Vec ℕ Global). v.items) c.self.inside.texts.keys) t) copied
    ∙ ap (λ view. with_text view c.args.text.now) c.self.view_is

pub invariant_of-self-2 : goal.invariant_of-self-2
invariant_of-self-2 c = rw (grown c, ← c.self.view_is) (numbers_once_with _ _ c.self.invariant)

pub returns-clause-text : goal.returns-clause-text
returns-clause-text c =
    let at = c.in-Ok-insert_full.ensures.stored in
    stored_key (λ (v : Vec ℕ Global). v.items) c.insert_full.new.self.keys _ c.in-Ok-insert_full.n at.0 at.1 (rw (← c.in-Ok.ensures.items) at.2)

pub returns-clause-grows : goal.returns-clause-grows
returns-clause-grows c = grown c

pub returns-clause-keeps : goal.returns-clause-keeps
returns-clause-keeps c = rw (grown c) (keeps_numbers _ _)

pub returns-clause-once : goal.returns-clause-once
returns-clause-once c = rw (grown c, ← c.self.view_is) (numbers_once_with _ _ c.self.invariant)
