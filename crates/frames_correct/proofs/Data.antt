-- String literals and objects with static storage are in the data.
use Rattle.std.proofs.Common.{◌≡◌, ◌⊎◌, inl, inr, ℕ, zero, suc, ◌+◌, ◌*◌, ◌<◌, ◌≤◌, List, [], ◌∷◌, ◌++◌, length, map, Option, Some, None, true, append_assoc, refl, sym, ap, ◌∙◌, subst, arith}
use Rattle.std.specs.Prelude.{slice_get, ℤ, pos}
use Rattle.ctypes.specs.declared.types.IntType.TheVariants as ty
use Rattle.ctypes.specs.Types.{IsValueOf, bytes_of}
use Rattle.typing_spec.specs.Types.{elements_in, size_of_object}
use Rattle.typing_spec.specs.Program.{Static}
use Rattle.typing_spec.specs.Units.{in_words}
use Rattle.typing_spec.specs.WellTyped.{values_fit}
use Rattle.csem.specs.Store.{Tree, Element, parts, part_of, at_path, value_of, characters_of, literal_object, static_object}
use Rattle.csem.specs.Laws.{ValueFits}
use Rattle.csem.proofs.Fits.{read_fits, static_fits}
use Rattle.tac_code.specs.Code.{Program}
use Rattle.tac_code.specs.Run.{word_for, first_store}
use Rattle.tac_code.specs.Sound.{IsSoundProgram, AreBytes}
use Rattle.frames_code.specs.Run.{element_in}
use Rattle.frames.specs.Data.{low_bytes, zeros, filled_up, if_defined, bytes_of_values, bytes_of_static, bytes_of_literals, bytes_of_statics, data_of}
use Rattle.frames.specs.Sizes.{literal_bytes}
use Rattle.frames.specs.Translated.{width_of}
use Rattle.frames.proofs.Whole.{length_filled, length_static, length_literals}
use Rattle.frames_correct.specs.Matched.{Spot, Piece, spot_of, spots_from, spots, literal_piece, static_piece, elements_before, offset_at, EachPart, Shaped, ElementsInPlace}
use Rattle.frames_correct.proofs.Lists.{same_some, some_below, get_left, get_right, length_both, length_map, IsBehind, get_in_both}
use Rattle.frames_correct.proofs.Trees.{at_none, reached, behind_element, element_before_all}
use Rattle.frames_correct.proofs.Spots.{all_bytes, length_spots}
use Rattle.frames_correct.proofs.Laid.{laid_shaped, value_laid, element_of_low, filled_inside, element_bytes}

-- an object in these bytes
pub record InData (x : Spot) (o : Option Tree) (stored : List ℕ) : Type 0 where
  pub tree : Tree
  pub tree_is : o ≡ Some tree
  pub shaped : Shaped x.type.lengths tree
  pub past : x.offset + size_of_object x.type ≤ length stored
  pub elements : ElementsInPlace x tree (slice_get stored)

-- the elements of bytes between others
pub get_between : (before bytes after : List ℕ) (k x : ℕ) → slice_get bytes k ≡ Some x → slice_get (before ++ (bytes ++ after)) (length before + k) ≡ Some x
get_between before bytes after k x e = get_right before (bytes ++ after) k ∙ get_left bytes after k x e

length_between : (before bytes after : List ℕ) → length (before ++ (bytes ++ after)) ≡ length before + (length bytes + length after)
length_between before bytes after = length_both before (bytes ++ after) ∙ ap (λ k. length before + k) (length_both bytes after)

-- ---- a string literal

each_character : (text : List ℕ) → EachPart (Shaped []) (characters_of text)
each_character [] = tt
each_character (c ∷ text) = (tt, each_character text)

parts_characters : (text : List ℕ) → parts (characters_of text) ≡ length text
parts_characters [] = refl
parts_characters (c ∷ text) = ap suc (parts_characters text)

pub record IsCharacter (text : List ℕ) (i : ℕ) (t : Tree) : Type 0 where
  pub code : ℕ
  pub code_is : slice_get text i ≡ Some code
  pub is : Element (Some (pos code)) ≡ t

a_character : (text : List ℕ) (i : ℕ) (t : Tree) → part_of (characters_of text) i ≡ Some t → IsCharacter text i t
a_character [] i t e = absurd (let z : ⊥ = cc in z)
a_character (c ∷ text) zero t e = record { code = c; code_is = refl; is = same_some (Element (Some (pos c))) t e }
a_character (c ∷ text) (suc i) t e = let more = a_character text i t e in record { code = more.code; code_is = more.code_is; is = more.is }

module _ (before after text : List ℕ) (bytes : AreBytes text) where
  abbrev filled : List ℕ
  filled = filled_up (in_words (length text)) text

  character_lies : (path : List ℕ) (v : ℤ) → at_path (Some (literal_object text)) path ≡ Some (Element (Some v)) → element_in (width_of ty.Char) (slice_get (before ++ (filled ++ after))) (offset_at (spot_of 0 (length before) (literal_piece text)) path) ≡ Some (word_for v)
  character_lies [] v e = absurd (let z : ⊥ = cc in z)
  character_lies (i ∷ path) v e = by_part (part_of (characters_of text) i) refl
    where
      by_path : (rest : List ℕ) (c : ℕ) → slice_get text i ≡ Some c → at_path (Some (Element (Some (pos c)))) rest ≡ Some (Element (Some v)) → element_in (width_of ty.Char) (slice_get (before ++ (filled ++ after))) (length before + 1 * (i * 1 + 0)) ≡ Some (word_for v)
      by_path [] c ec g =
          let number : pos c ≡ v = cc in
          let small = bytes i c ec in
          let lt = some_below text i c ec in
          let word : c ≡ word_for (pos c) = omega (arith, small) in
          ap (slice_get (before ++ (filled ++ after))) (let sum : length before + 1 * (i * 1 + 0) ≡ length before + i = omega arith in sum)
          ∙ (get_between before filled after i c (filled_inside (in_words (length text)) text i c (omega (arith, lt)) ec) ∙ ap Some (word ∙ ap word_for number))
      by_path (k ∷ rest) c ec g = absurd (let x : None ≡ Some (Element (Some v)) = sym (at_none rest) ∙ g in let z : ⊥ = cc in z)

      by_part : (o : Option Tree) → part_of (characters_of text) i ≡ o → element_in (width_of ty.Char) (slice_get (before ++ (filled ++ after))) (length before + 1 * (i * 1 + 0)) ≡ Some (word_for v)
      by_part None g = absurd (let x : None ≡ Some (Element (Some v)) = sym (at_none path) ∙ (ap (λ o. at_path o path) (sym g) ∙ e) in let z : ⊥ = cc in z)
      by_part (Some t) g =
          let c = a_character text i t g in
          by_path path c.code c.code_is (ap (λ u. at_path (Some u) path) c.is ∙ (ap (λ o. at_path o path) (sym g) ∙ e))

  literal_lies : InData (spot_of 0 (length before) (literal_piece text)) (Some (literal_object text)) (before ++ (filled ++ after))
  literal_lies = record {
    tree = literal_object text;
    tree_is = refl;
    shaped = (parts_characters text, each_character text);
    past = omega (arith, length_between before filled after, length_filled (in_words (length text)) text);
    elements = character_lies;
  }

-- ---- an object with static storage

value_fits : (o : Static) → values_fit o.type.element o.values ≡ true → (path : List ℕ) (v : ℤ) → at_path (Some (static_object o)) path ≡ Some (Element (Some v)) → IsValueOf o.type.element v
value_fits o fit path v e =
    let read = read_fits o.type.element (static_object o ∷ []) (record { object = 0; path = path }) (static_fits o fit) in
    by_tree (at_path (Some (static_object o)) path) e read
  where
    by_tree : (u : Option Tree) → u ≡ Some (Element (Some v)) → ValueFits o.type.element (value_of u) → IsValueOf o.type.element v
    by_tree u eu h = subst (λ z. ValueFits o.type.element (value_of z)) eu h

module _ (before after : List ℕ) (o : Static) (fit : values_fit o.type.element o.values ≡ true) where
  abbrev all : List ℕ
  all = filled_up (in_words (size_of_object o.type)) (bytes_of_values o.type.element o.values)

  abbrev lengths : List ℕ
  lengths = o.type.lengths

  times_room : (b e n : ℕ) → e < n → b * e + b ≤ b * n
  times_room b e n lt = let one : b * suc e ≤ b * n = grind arith in let two : b * suc e ≡ b * e + b = grind arith in omega (arith, one, two)

  value_lies : ElementsInPlace (spot_of 0 (length before) (static_piece o)) (static_object o) (slice_get (before ++ (all ++ after)))
  value_lies path v e =
      let b = bytes_of o.type.element in
      let k = elements_before o.type.lengths path in
      let reach = reached o.type.lengths (static_object o) path (Element (Some v)) (laid_shaped o.type.lengths o.values) e in
      let lt = element_before_all o.type.lengths path reach.within (behind_element o.type.lengths path (Some v) reach.shaped) in
      let room = times_room b k (elements_in o.type.lengths) lt in
      let value = value_laid o.type.lengths o.values path v e in
      element_of_low o.type.element (slice_get (before ++ (all ++ after))) (length before + b * k) v (value_fits o fit path v e) (λ j x ej.
      let here = element_bytes o.type.element o.values (in_words (size_of_object o.type)) k (omega (arith, room)) j x (ap (λ z. slice_get (low_bytes b (word_for z)) j) value ∙ ej) in
      ap (slice_get (before ++ (all ++ after))) (let sum : length before + b * k + j ≡ length before + (b * k + j) = omega arith in sum) ∙ get_between before all after (b * k + j) x here)

  defined_lies : InData (spot_of 0 (length before) (static_piece o)) (Some (static_object o)) (before ++ (all ++ after))
  defined_lies = record {
    tree = static_object o;
    tree_is = refl;
    shaped = laid_shaped o.type.lengths o.values;
    past = omega (arith, length_between before all after, length_filled (in_words (size_of_object o.type)) (bytes_of_values o.type.element o.values));
    elements = value_lies;
  }

  static_lies : o.defined ≡ true → InData (spot_of 0 (length before) (static_piece o)) (Some (static_object o)) (before ++ (bytes_of_static o ++ after))
  static_lies e = subst (λ bs. InData (spot_of 0 (length before) (static_piece o)) (Some (static_object o)) (before ++ (bs ++ after))) (sym (ap (λ d. if_defined d all) e)) defined_lies

-- ---- all of them

regrouped : (before bytes rest after : List ℕ) → (before ++ bytes) ++ (rest ++ after) ≡ before ++ ((bytes ++ rest) ++ after)
regrouped before bytes rest after = append_assoc before bytes (rest ++ after) ∙ ap (λ z. before ++ z) (sym (append_assoc bytes rest after))

literals_lie : (ls : List (List ℕ)) (before after : List ℕ) → ((n : ℕ) (text : List ℕ) → slice_get ls n ≡ Some text → AreBytes text) → (n : ℕ) (x : Spot) → slice_get (spots_from 0 (length before) (map literal_piece ls)) n ≡ Some x
    → InData x (slice_get (map literal_object ls) n) (before ++ (bytes_of_literals ls ++ after))
literals_lie [] before after bytes n x e = absurd (let z : ⊥ = cc in z)
literals_lie (text ∷ ls) before after bytes zero x e =
    let filled = filled_up (in_words (length text)) text in
    subst (λ z. InData z (Some (literal_object text)) (before ++ ((filled ++ bytes_of_literals ls) ++ after))) (same_some (spot_of 0 (length before) (literal_piece text)) x e)
    (subst (λ z. InData (spot_of 0 (length before) (literal_piece text)) (Some (literal_object text)) (before ++ z)) (sym (append_assoc filled (bytes_of_literals ls) after))
    (literal_lies before (bytes_of_literals ls ++ after) text (bytes 0 text refl)))
literals_lie (text ∷ ls) before after bytes (suc n) x e =
    let filled = filled_up (in_words (length text)) text in
    let at : length (before ++ filled) ≡ length before + in_words (length text) = length_both before filled ∙ ap (λ k. length before + k) (length_filled (in_words (length text)) text) in
    subst (InData x (slice_get (map literal_object ls) n)) (regrouped before filled (bytes_of_literals ls) after)
    (literals_lie ls (before ++ filled) after (λ k t ek. bytes (suc k) t ek) n x (ap (λ k. slice_get (spots_from 0 k (map literal_piece ls)) n) at ∙ e))

statics_lie : (os : List Static) (before : List ℕ) → ((n : ℕ) (o : Static) → slice_get os n ≡ Some o → values_fit o.type.element o.values ≡ true) → (n : ℕ) (x : Spot) → slice_get (spots_from 0 (length before) (map static_piece os)) n ≡ Some x → x.in_bytes ≡ true
    → InData x (slice_get (map static_object os) n) (before ++ bytes_of_statics os)
statics_lie [] before fit n x e b = absurd (let z : ⊥ = cc in z)
statics_lie (o ∷ os) before fit zero x e b =
    let same = same_some (spot_of 0 (length before) (static_piece o)) x e in
    subst (λ z. InData z (Some (static_object o)) (before ++ (bytes_of_static o ++ bytes_of_statics os))) same
    (static_lies before (bytes_of_statics os) o (fit 0 o refl) (ap (λ (z : Spot). z.in_bytes) same ∙ b))
statics_lie (o ∷ os) before fit (suc n) x e b =
    let bytes = bytes_of_static o in
    let at : length (before ++ bytes) ≡ length before + (static_piece o).size = length_both before bytes ∙ ap (λ k. length before + k) (length_static o) in
    subst (InData x (slice_get (map static_object os) n)) (append_assoc before bytes (bytes_of_statics os))
    (statics_lie os (before ++ bytes) (λ k p ek. fit (suc k) p ek) n x (ap (λ k. slice_get (spots_from 0 k (map static_piece os)) n) at ∙ e) b)

-- ---- the data of a program

spots_both : (list first : ℕ) (ps qs : List Piece) → spots_from list first (ps ++ qs) ≡ spots_from list first ps ++ spots_from list (first + all_bytes ps) qs
spots_both list first [] qs = ap (λ k. spots_from list k qs) (let e : first ≡ first + 0 = omega arith in e)
spots_both list first (p ∷ ps) qs =
    ap (λ z. spot_of list first p ∷ z) (spots_both list (first + p.size) ps qs ∙ ap (λ k. spots_from list (first + p.size) ps ++ spots_from list k qs) (let e : first + p.size + all_bytes ps ≡ first + (p.size + all_bytes ps) = omega arith in e))

bytes_of_pieces : (ls : List (List ℕ)) → all_bytes (map literal_piece ls) ≡ literal_bytes ls
bytes_of_pieces [] = refl
bytes_of_pieces (text ∷ ls) = ap (λ k. in_words (length text) + k) (bytes_of_pieces ls)

-- each object before the run is in the data
pub first_lies : (q : Program) → IsSoundProgram q → (n : ℕ) (x : Spot) → slice_get (spots q []) n ≡ Some x → x.in_bytes ≡ true → InData x (slice_get (first_store q) n) (data_of q)
first_lies q sound n x e b = by_kind (get_in_both (spots_from 0 16 (map literal_piece q.literals)) (spots_from 0 (16 + all_bytes (map literal_piece q.literals)) (map static_piece q.statics)) n x (ap (λ z. slice_get z n) (sym (spots_both 0 16 (map literal_piece q.literals) (map static_piece q.statics))) ∙ e))
  where
    by_kind : (slice_get (spots_from 0 16 (map literal_piece q.literals)) n ≡ Some x) ⊎ IsBehind (spots_from 0 16 (map literal_piece q.literals)) (spots_from 0 (16 + all_bytes (map literal_piece q.literals)) (map static_piece q.statics)) n x → InData x (slice_get (first_store q) n) (data_of q)
    by_kind (inl h) =
        let in_place = literals_lie q.literals (zeros 16) (bytes_of_statics q.statics) sound.literals n x h in
        record { tree = in_place.tree; tree_is = get_left (map literal_object q.literals) (map static_object q.statics) n in_place.tree in_place.tree_is; shaped = in_place.shaped; past = in_place.past; elements = in_place.elements }
    by_kind (inr h) =
        let before = zeros 16 ++ bytes_of_literals q.literals in
        let at : length before ≡ 16 + all_bytes (map literal_piece q.literals) = length_both (zeros 16) (bytes_of_literals q.literals) ∙ ap (λ k. 16 + k) (length_literals q.literals ∙ sym (bytes_of_pieces q.literals)) in
        let in_place = statics_lie q.statics before sound.statics h.number x (ap (λ k. slice_get (spots_from 0 k (map static_piece q.statics)) h.number) at ∙ h.is) b in
        let whole : InData x (slice_get (map static_object q.statics) h.number) (data_of q) = subst (InData x (slice_get (map static_object q.statics) h.number)) (append_assoc (zeros 16) (bytes_of_literals q.literals) (bytes_of_statics q.statics)) in_place in
        let place : n ≡ length (map literal_object q.literals) + h.number = omega (arith, h.sum, length_spots 0 16 (map literal_piece q.literals), length_map literal_piece q.literals, length_map literal_object q.literals) in
        let there : slice_get (first_store q) n ≡ slice_get (map static_object q.statics) h.number = ap (slice_get (first_store q)) place ∙ get_right (map literal_object q.literals) (map static_object q.statics) h.number in
        record { tree = whole.tree; tree_is = there ∙ whole.tree_is; shaped = whole.shaped; past = whole.past; elements = whole.elements }
