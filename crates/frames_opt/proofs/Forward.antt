-- One instruction more of the first pass, and the element that it offers.
use Rattle.std.proofs.Common.{◌≡◌, ◌<◌, ℕ, ◌+◌, Bool, List, [], ◌∷◌, ◌++◌, length, drop, refl, sym, ap, ◌∙◌}
use Rattle.std.specs.Prelude.{get_or}
use Rattle.std.proofs.lemmas.List.{append_assoc, drop_more}
use Rattle.frames_code.specs.declared.code.Instruction.{Instruction}
use Rattle.frames_opt.specs.declared.room.Room.{Room}
use Rattle.frames_opt.specs.declared.facts.Known.{Known}
use Rattle.frames_opt.specs.inside.Facts.{behind}
use Rattle.frames_opt.specs.inside.Rules.{simpler}
use Rattle.frames_opt.specs.inside.Passes.{is_marked, fresh, forward}
use Rattle.frames_opt.specs.inside.Sweep.{offer, offers}

put_more : {A : Type 0} (front made rest left whole : List A) (x : A) → made ≡ front ++ x ∷ [] → left ≡ x ∷ rest → front ++ left ≡ whole → made ++ rest ≡ whole
put_more front made rest left whole x put step done =
    ap (λ xs. xs ++ rest) put ∙ (append_assoc front (x ∷ []) rest ∙ (ap (λ xs. front ++ xs) (sym step) ∙ done))

module _ (room : Room) (marks : List Bool) (i : ℕ) (facts here next : List Known) (d simple : Instruction) (code : List Instruction) (within : i < length code)
    (here_is : here ≡ fresh (is_marked marks i) facts) (simple_is : simple ≡ simpler room.area here (get_or code i d)) (next_is : next ≡ behind room here simple) where
  pub one_more_made : (front made whole : List Instruction) → made ≡ front ++ simple ∷ [] → front ++ forward room marks i facts (drop i code) ≡ whole → made ++ forward room marks (i + 1) next (drop (i + 1) code) ≡ whole
  one_more_made front made whole put done =
      put_more front made (forward room marks (i + 1) next (drop (i + 1) code)) (forward room marks i facts (drop i code)) whole simple put
      (ap (forward room marks i facts) (drop_more code i d within) ∙ rw (next_is, simple_is, here_is) refl) done

  pub one_more_offered : (o : Known) (front made whole : List Known) → o ≡ offer room here simple → made ≡ front ++ o ∷ [] → front ++ offers room marks i facts (drop i code) ≡ whole
      → made ++ offers room marks (i + 1) next (drop (i + 1) code) ≡ whole
  one_more_offered o front made whole offered put done =
      put_more front made (offers room marks (i + 1) next (drop (i + 1) code)) (offers room marks i facts (drop i code)) whole o put
      (ap (offers room marks i facts) (drop_more code i d within) ∙ rw (offered, next_is, simple_is, here_is) refl) done
