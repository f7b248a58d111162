-- The effect of a list's first token, by the macro that it names.
use Rattle.std.specs.Prelude.{◌↔◌}
use Rattle.std.proofs.Common.{◌≡◌, ℕ, ◌<◌, ◌≤◌, List, [], ◌∷◌, length, drop, slice_get, not, ◌&&◌, Bool, true, false, cond, Option, Some, None, refl, sym, ap, ◌∙◌, subst, arith}
use Rattle.std.specs.Option.{option_copied}
use Rattle.std.specs.Borrow.{Bor}
use Rattle.srcset.specs.NameTable.{Texts, NumbersOnce}
use Rattle.macros.specs.Macro.{Macro, Macros, macro_named, is_identifier, is_predefined}
use Rattle.macros.specs.Table.{NumberedMacro, Table, numbered, IsMacro, IsTable, AreSame}
use Rattle.macros_substitution.specs.Substitution.{Hidden, is_hidden}
use Rattle.macros_substitution.specs.HideSets.{Sets, members, Extends, NamesBelow, spelled}
use Rattle.macros_substitution.specs.declared.piece.HiddenToken.{HiddenToken}
use Rattle.macros_substitution.specs.Meaning.{hidden_of}
use Rattle.pp_expand.specs.Expansion.{Ending, Known, is_live, stands, predefined, turn_by, turn_of, turn}
use Rattle.pp_expand.specs.inside.Turns.{has_number}
use Rattle.pp_expand.proofs.Sets.{members_below, hidden_number, hidden_unknown}

-- nothing is left where nothing came
pub none_left : {X : Type 0} (xs ys : List X) → xs ≡ ys → ys ≡ drop 1 xs → xs ≡ []
none_left [] ys p q = refl
none_left (x ∷ xs) ys p q = absurd (omega (arith, ap length p, ap length q))

pub nothing_at : {X : Type 0} (l : List X) → (0 < length l → false ≡ true) → l ≡ []
nothing_at [] h = refl
nothing_at (x ∷ l) h = let e : false ≡ true = h (omega arith) in cc

-- ---- naming

-- the same token with the same set in a later table
pub members_later : (sets later : Sets) → Extends sets later → (n : ℕ) → n ≤ length sets → members later n ≡ members sets n
members_later sets later e n h = e.same n h

module _ (known : Known) (x : Hidden) where
  turn_by_live : (live : Bool) → is_live x ≡ live → (rest : List Hidden) (ending : Ending) → turn known x rest ending ≡ (cond (live && is_predefined x.token.spelling) predefined (turn_of x (cond live (macro_named known.macros x.token.spelling) None) rest ending))
  unfolding turn
  turn_by_live live e rest ending =
      ap (λ (b : Bool). cond (b && is_predefined x.token.spelling) predefined (turn_of x (cond b (macro_named known.macros x.token.spelling) None) rest ending)) e

  pub dead : is_live x ≡ false → (rest : List Hidden) (ending : Ending) → turn known x rest ending ≡ stands
  dead e rest ending = turn_by_live false e rest ending

  module _ (live : is_live x ≡ true) where
    pub named_predefined : is_predefined x.token.spelling ≡ true → (rest : List Hidden) (ending : Ending) → turn known x rest ending ≡ predefined
    named_predefined p rest ending =
        turn_by_live true live rest ending ∙ ap (λ b. cond b predefined (turn_of x (macro_named known.macros x.token.spelling) rest ending)) p

    named_as : is_predefined x.token.spelling ≡ false → (m : Option Macro) → macro_named known.macros x.token.spelling ≡ m → (rest : List Hidden) (ending : Ending) → turn known x rest ending ≡ turn_of x m rest ending
    named_as p m e rest ending =
        turn_by_live true live rest ending ∙ ap (λ b. cond b predefined (turn_of x (macro_named known.macros x.token.spelling) rest ending)) p ∙ ap (λ m. turn_of x m rest ending) e

    pub named_none : is_predefined x.token.spelling ≡ false → macro_named known.macros x.token.spelling ≡ None → (rest : List Hidden) (ending : Ending) → turn known x rest ending ≡ stands
    named_none p e = named_as p None e

    pub named_some : is_predefined x.token.spelling ≡ false → (m : Macro) → macro_named known.macros x.token.spelling ≡ Some m → (rest : List Hidden) (ending : Ending) → turn known x rest ending ≡ turn_by x m m.parameters rest ending
    named_some p m e = named_as p (Some m) e

pub no_identifier : (x : Hidden) → is_identifier x.token ≡ false → is_live x ≡ false
no_identifier x e = ap (λ b. b && not (is_hidden x.token.spelling x.hides)) e

-- the facts known of a spelling hold for its copy
pub finds_as : (names : Texts) (number : Option ℕ) (seen text : List ℕ) → seen ≡ text → ((n : ℕ) → (number ≡ Some n) ↔ (slice_get names n ≡ Some seen)) → (n : ℕ) → (number ≡ Some n) ↔ (slice_get names n ≡ Some text)
finds_as names number seen text e h n = subst (λ t. (number ≡ Some n) ↔ (slice_get names n ≡ Some t)) e (h n)

pub predefined_as : (seen text : List ℕ) → seen ≡ text → is_predefined text ≡ is_predefined seen
predefined_as seen text e = ap is_predefined (sym e)

-- the macro that the table has is one that is defined
same_none : (texts : Texts) (n : Option NumberedMacro) (m : Option Macro) → AreSame texts n m → n ≡ None → m ≡ None
same_none texts None None h e = refl
same_none texts None (Some m) h e = absurd h
same_none texts (Some n) m h e = cc

same_some : (texts : Texts) (n : NumberedMacro) (m : Option Macro) → AreSame texts (Some n) m → (macro : Macro) × ((m ≡ Some macro) × IsMacro texts n macro)
same_some texts n None h = absurd h
same_some texts n (Some m) h = (m, (refl, h))

copied_none : (r : Option (Bor NumberedMacro)) → r ≡ None → option_copied r ≡ None
copied_none r e = ap option_copied e

-- the facts known of a look-up by number
module _ (names : Texts) (table : Table) (macros : Macros) (is_table : IsTable names table macros) (x : HiddenToken) (sets later : Sets) (extends : Extends sets later) (in_sets : x.hides ≤ length sets) (below : NamesBelow (length names) sets) (once : NumbersOnce names) where
  abbrev here : Hidden
  here = hidden_of names later x

  same_hides : spelled names (members later x.hides) ≡ spelled names (members sets x.hides)
  same_hides = ap (spelled names) (extends.same x.hides in_sets)

  hides_by : (number : Option ℕ) → ((n : ℕ) → (number ≡ Some n) ↔ (slice_get names n ≡ Some x.token.spelling)) → is_hidden x.token.spelling (spelled names (members later x.hides)) ≡ has_number (members sets x.hides) number
  hides_by None found =
      ap (is_hidden x.token.spelling) same_hides ∙ hidden_unknown names once x.token.spelling (λ n e. none_is (found n).1 e) (members sets x.hides) (members_below (length names) sets below x.hides)
    where
      none_is : {n : ℕ} → (slice_get names n ≡ Some x.token.spelling → None ≡ Some n) → slice_get names n ≡ Some x.token.spelling → ⊥
      none_is f e = let q = f e in cc
  hides_by (Some n) found =
      ap (is_hidden x.token.spelling) same_hides ∙ hidden_number names once x.token.spelling n ((found n).0 refl) (members sets x.hides) (members_below (length names) sets below x.hides)

  pub live_by : (number : Option ℕ) (b : Bool) → ((n : ℕ) → (number ≡ Some n) ↔ (slice_get names n ≡ Some x.token.spelling)) → is_identifier x.token ≡ true → b ≡ has_number (members sets x.hides) number → is_live (hidden_of names later x) ≡ not b
  live_by number b found i h =
      ap (λ t. t && not (is_hidden x.token.spelling (spelled names (members later x.hides)))) i ∙ ap not (hides_by number found ∙ sym h)

  pub unknown_name : (number : Option ℕ) → number ≡ None → ((n : ℕ) → (number ≡ Some n) ↔ (slice_get names n ≡ Some x.token.spelling)) → macro_named macros x.token.spelling ≡ None
  unknown_name number none found =
      is_table.unknown x.token.spelling (λ n e. let q = (found n).1 e in cc)

  pub not_defined : (n : ℕ) → slice_get names n ≡ Some x.token.spelling → numbered table n ≡ None → macro_named macros x.token.spelling ≡ None
  not_defined n e none = same_none names (numbered table n) _ (is_table.known n x.token.spelling e) none

  pub defined_as : (n : ℕ) (m : NumberedMacro) → slice_get names n ≡ Some x.token.spelling → numbered table n ≡ Some m → (macro : Macro) × ((macro_named macros x.token.spelling ≡ Some macro) × IsMacro names m macro)
  defined_as n m e some =
      same_some names m _ (subst (λ o. AreSame names o (macro_named macros x.token.spelling)) some (is_table.known n x.token.spelling e))
