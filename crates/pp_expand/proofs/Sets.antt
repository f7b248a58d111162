-- Hide sets in a table that grows, and names by their numbers.
use Rattle.std.specs.Prelude.{Vec}
use Rattle.std.proofs.Common.{◌≡◌, ℕ, zero, suc, ◌<◌, ◌≤◌, List, [], ◌∷◌, ◌++◌, Some, length, slice_get, refl, sym, ap, ◌∙◌, Bool, true, false, nat_eq, ◌||◌, cond, arith}
use Rattle.std.proofs.lemmas.Bool.{eqb-true, eq-eqb}
use Rattle.std.proofs.lemmas.Slice.Eq.{bytes_eq-Decides}
use Rattle.std.specs.List.{list_any, filter}
use Rattle.std.specs.Str.{bytes_eq}
use Rattle.std.specs.declared.alloc.Global.{Global}
use Rattle.srcset.specs.NameTable.{Texts, NumbersOnce}
use Rattle.macros_substitution.specs.declared.piece.HiddenToken.{HiddenToken}
use Rattle.macros_substitution.specs.declared.piece.Piece.{Piece}
use Rattle.macros_substitution.specs.declared.piece.Piece.TheVariants.{One, Parameter, Joint, Placemarker}
use Rattle.macros_substitution.specs.HideSets.{Sets, list_or_none, members, Extends, AreBelow, NamesBelow, name_of, spelled}
use Rattle.macros_substitution.specs.Substitution.{is_hidden, common}
use Rattle.macros_substitution.specs.Meaning.{AreIn, ListsIn, PieceIn, PiecesIn}
use Rattle.pp_expand.specs.declared.level.Level.{Level}
use Rattle.pp_expand.specs.declared.waiting.Waiting.{Waiting}
use Rattle.pp_expand.specs.Meaning.{LevelIn}
use Rattle.pp_expand.specs.inside.Waits.{WaitingIn, WaitingsIn}

equals_itself : (s : List ℕ) → bytes_eq s s ≡ true
equals_itself s = (bytes_eq-Decides s s).1 refl

same_text : (s t : List ℕ) → bytes_eq s t ≡ true → s ≡ t
same_text s t e = (bytes_eq-Decides s t).0 e

pub extends_same : (sets : Sets) → Extends sets sets
extends_same sets = record { longer = omega arith; same = λ n h. refl }

pub extends_both : (a b c : Sets) → Extends a b → Extends b c → Extends a c
extends_both a b c p q = record {
  longer = omega (arith, p.longer, q.longer);
  same = λ n h. q.same n (omega (arith, h, p.longer)) ∙ p.same n h;
}

-- ---- more sets

module _ (m n : ℕ) (h : m ≤ n) where
  pub are_in_more : (xs : List HiddenToken) → AreIn m xs → AreIn n xs
  are_in_more [] k = tt
  are_in_more (x ∷ xs) k = (omega (arith, k.0, h), are_in_more xs k.1)

  pub lists_in_more : (lists : List (Vec HiddenToken Global)) → ListsIn m lists → ListsIn n lists
  lists_in_more [] k = tt
  lists_in_more (v ∷ vs) k = (are_in_more v.items k.0, lists_in_more vs k.1)

  piece_in_more : (p : Piece) → PieceIn m p → PieceIn n p
  piece_in_more (One x) k = omega (arith, k, h)
  piece_in_more (Parameter beside space index) k = tt
  piece_in_more Joint k = tt
  piece_in_more (Placemarker space) k = tt

  pub pieces_in_more : (ps : List Piece) → PiecesIn m ps → PiecesIn n ps
  pieces_in_more [] k = tt
  pieces_in_more (p ∷ ps) k = (piece_in_more p k.0, pieces_in_more ps k.1)

  pub level_in_more : (l : Level) → LevelIn m l → LevelIn n l
  level_in_more l k = (are_in_more l.rest.items k.0, are_in_more l.out.items k.1)

  pub waiting_in_more : (w : Waiting) → WaitingIn m w → WaitingIn n w
  waiting_in_more w k = record {
    level_in = level_in_more w.level k.level_in;
    hides_in = omega (arith, k.hides_in, h);
    arguments_in = lists_in_more w.arguments.items k.arguments_in;
    full_in = lists_in_more w.full.items k.full_in;
    pieces_in = pieces_in_more w.pieces.items k.pieces_in;
    uses_count = k.uses_count;
    uses_are = k.uses_are;
  }

  pub waitings_in_more : (ws : List Waiting) → WaitingsIn m ws → WaitingsIn n ws
  waitings_in_more [] k = tt
  waitings_in_more (w ∷ ws) k = (waiting_in_more w k.0, waitings_in_more ws k.1)

module _ (n : ℕ) where
  pub are_in_append : (xs ys : List HiddenToken) → AreIn n xs → AreIn n ys → AreIn n (xs ++ ys)
  are_in_append [] ys p q = q
  are_in_append (x ∷ xs) ys p q = (p.0, are_in_append xs ys p.1 q)

  pub lists_in_append : (xs ys : List (Vec HiddenToken Global)) → ListsIn n xs → ListsIn n ys → ListsIn n (xs ++ ys)
  lists_in_append [] ys p q = q
  lists_in_append (x ∷ xs) ys p q = (p.0, lists_in_append xs ys p.1 q)

  pub waitings_in_append : (xs ys : List Waiting) → WaitingsIn n xs → WaitingsIn n ys → WaitingsIn n (xs ++ ys)
  waitings_in_append [] ys p q = q
  waitings_in_append (x ∷ xs) ys p q = (p.0, waitings_in_append xs ys p.1 q)

  pub waitings_in_front : (xs : List Waiting) (y : Waiting) → WaitingsIn n (xs ++ y ∷ []) → WaitingsIn n xs × WaitingIn n y
  waitings_in_front [] y p = (tt, p.0)
  waitings_in_front (x ∷ xs) y p = let q = waitings_in_front xs y p.1 in ((p.0, q.0), q.1)

-- the names in a set are below the number of names in the table
pub members_below : (count : ℕ) (sets : Sets) → NamesBelow count sets → (n : ℕ) → AreBelow count (members sets n)
members_below count sets h zero = tt
members_below count sets h (suc n) = at_place sets h n
  where
    at_place : (sets : Sets) → NamesBelow count sets → (n : ℕ) → AreBelow count (list_or_none (slice_get sets n))
    at_place [] h n = tt
    at_place (names ∷ sets) h zero = h.0
    at_place (names ∷ sets) h (suc n) = at_place sets h.1 n

-- ---- names by their numbers

pub eqb_by : (b : Bool) (m n : ℕ) → (m ≡ n → b ≡ true) → (b ≡ true → m ≡ n) → b ≡ nat_eq m n
eqb_by true m n p q = sym (eq-eqb m n (q refl))
eqb_by false m n p q = by_test (nat_eq m n) refl
  where
    by_test : (t : Bool) → nat_eq m n ≡ t → false ≡ nat_eq m n
    by_test true e = p (eqb-true m n e) ∙ sym e
    by_test false e = sym e

module _ (texts : Texts) (once : NumbersOnce texts) where
  has_name : (n : ℕ) → n < length texts → slice_get texts n ≡ Some (name_of texts n)
  has_name n h = within texts n h
    where
      within : (ts : Texts) (n : ℕ) → n < length ts → slice_get ts n ≡ Some (list_or_none (slice_get ts n))
      within [] n h = absurd (omega (arith, h))
      within (t ∷ ts) zero h = refl
      within (t ∷ ts) (suc n) h = within ts n (omega (arith, h))

  -- a text is that of a number exactly where it is the text of that number
  same_name : (text : List ℕ) (m n : ℕ) → slice_get texts m ≡ Some text → n < length texts → bytes_eq text (name_of texts n) ≡ nat_eq m n
  same_name text m n e h =
      eqb_by (bytes_eq text (name_of texts n)) m n (λ q. ap (λ k. bytes_eq text (list_or_none (slice_get texts k))) (sym q) ∙ ap (λ o. bytes_eq text (list_or_none o)) e ∙ equals_itself text) (λ q. once m n text e (has_name n h ∙ ap (λ t. Some t) (sym (same_text text (name_of texts n) q))))

  pub hidden_number : (text : List ℕ) (m : ℕ) → slice_get texts m ≡ Some text → (names : List ℕ) → AreBelow (length texts) names → is_hidden text (spelled texts names) ≡ list_any (nat_eq m) names
  hidden_number text m e [] h = refl
  hidden_number text m e (n ∷ names) h =
      ap (λ b. b || is_hidden text (spelled texts names)) (same_name text m n e h.0) ∙ ap (λ b. nat_eq m n || b) (hidden_number text m e names h.1)

  -- a text without a number is hidden nowhere
  pub hidden_unknown : (text : List ℕ) → ((n : ℕ) → slice_get texts n ≡ Some text → ⊥) → (names : List ℕ) → AreBelow (length texts) names → is_hidden text (spelled texts names) ≡ false
  hidden_unknown text none [] h = refl
  hidden_unknown text none (n ∷ names) h =
      ap (λ b. b || is_hidden text (spelled texts names)) (not_it (bytes_eq text (name_of texts n)) refl) ∙ hidden_unknown text none names h.1
    where
      not_it : (b : Bool) → bytes_eq text (name_of texts n) ≡ b → bytes_eq text (name_of texts n) ≡ false
      not_it true e = absurd (none n (has_name n h.0 ∙ ap (λ t. Some t) (sym (same_text text (name_of texts n) e))))
      not_it false e = e

  pub common_names : (names others : List ℕ) → AreBelow (length texts) names → AreBelow (length texts) others → common (spelled texts names) (spelled texts others) ≡ spelled texts (filter (λ n. list_any (nat_eq n) others) names)
  common_names [] others h k = refl
  common_names (n ∷ names) others h k =
      ap (λ b. cond b (name_of texts n ∷ common (spelled texts names) (spelled texts others)) (common (spelled texts names) (spelled texts others))) (hidden_number (name_of texts n) n (has_name n h.0) others k) ∙ kept (list_any (nat_eq n) others) (common_names names others h.1 k)
    where
      kept : (b : Bool) → common (spelled texts names) (spelled texts others) ≡ spelled texts (filter (λ n. list_any (nat_eq n) others) names) → cond b (name_of texts n ∷ common (spelled texts names) (spelled texts others)) (common (spelled texts names) (spelled texts others)) ≡ spelled texts (cond b (n ∷ filter (λ n. list_any (nat_eq n) others) names) (filter (λ n. list_any (nat_eq n) others) names))
      kept true e = ap (λ l. name_of texts n ∷ l) e
      kept false e = e

pub name_is : (texts : Texts) (n : ℕ) (text : List ℕ) → slice_get texts n ≡ Some text → name_of texts n ≡ text
name_is texts n text e = ap list_or_none e
