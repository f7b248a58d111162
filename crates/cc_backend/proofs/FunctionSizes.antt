-- The code of each function within the text of a file.
use Rattle.std.proofs.Common.{◌≡◌, ◌≤◌, ℕ, zero, suc, ◌+◌, Bool, true, false, List, [], ◌∷◌, ◌++◌, length, Some, refl, sym, ap, ◌∙◌, append_assoc, arith}
use Rattle.std.specs.Prelude.{slice_get}
use Rattle.std.proofs.lemmas.List.Sums.{sum_by-append}
use Rattle.asm.specs.declared.item.Item.{Item}
use Rattle.asm.specs.declared.item.Item.TheVariants.{Mark, Plain, Branch, Jump, Call, NearCall, Constant, LabelAddress, DataAddress}
use Rattle.asm.specs.Layout.{item_at, size, place, longest}
use Rattle.asm.proofs.Parts.{places_in_parts}
use Rattle.frames_code.specs.Code.{Function}
use Rattle.select.specs.Program.{function_items, functions_items}

-- no item takes more than with a long branch
size_within : (long : Bool) (x : Item) → size long x ≤ size true x
size_within long (Mark l) = omega arith
size_within long (Plain i) = omega arith
size_within true (Branch t l r to) = omega arith
size_within false (Branch t l r to) = omega arith
size_within long (Jump to) = omega arith
size_within long (Call to) = omega arith
size_within long (NearCall to) = omega arith
size_within long (Constant rd v) = omega arith
size_within long (LabelAddress rd l) = omega arith
size_within long (DataAddress rd o) = omega arith

-- without the first item the others have the places that they had
without_first : (L : ℕ → Bool) (base : ℕ) (x : Item) (xs : List Item) (k : ℕ) → place L base (x ∷ xs) (suc k) ≡ place (λ j. L (suc j)) (base + size (L 0) x) xs k
without_first L base x xs zero = refl
without_first L base x xs (suc k) = ap (λ n. n + size (L (suc k)) (item_at xs k)) (without_first L base x xs k)

-- items end no further than their greatest sizes, whatever branches are long
pub ends_within : (L : ℕ → Bool) (base : ℕ) (xs : List Item) → place L base xs (length xs) ≤ base + longest xs
ends_within L base [] = omega arith
ends_within L base (x ∷ xs) =
    let sum : longest (x ∷ xs) ≡ longest (x ∷ []) + longest xs = sum_by-append (size true) (x ∷ []) xs in
    let one : longest (x ∷ []) ≡ 0 + size true x = refl in
    omega (arith, without_first L base x xs (length xs), ends_within (λ j. L (suc j)) (base + size (L 0) x) xs, size_within (L 0) x)

-- a part of a list ends at most its longest size after its beginning
pub part_within : (L : ℕ → Bool) (base : ℕ) (before own behind : List Item)
    → place L base (before ++ (own ++ behind)) (length before + length own) ≤ place L base (before ++ (own ++ behind)) (length before) + longest own
part_within L base before own behind =
    let start = place L base before (length before) in
    let M : ℕ → Bool = λ j. L (length before + j) in
    let rest : place L base (before ++ (own ++ behind)) (length before + length own) ≡ place M start (own ++ behind) (length own) =
    (places_in_parts L base before (own ++ behind)).1 (length own) in
    let first : place L base (before ++ (own ++ behind)) (length before) ≡ start = (places_in_parts L base before (own ++ behind)).0 (length before) (omega arith) in
    let alone : place M start (own ++ behind) (length own) ≡ place M start own (length own) = (places_in_parts M start own behind).0 (length own) (omega arith) in
    let ends : place M start own (length own) ≤ start + longest own = ends_within M start own in
    omega (arith, rest, first, alone, ends)

-- the items of function k among those of all
pub function_among : (first start : ℕ) (fs : List Function) (k : ℕ) (f : Function) → slice_get fs k ≡ Some f
    → (before behind : List Item) × (number at : ℕ) × (functions_items first start fs ≡ before ++ (function_items number at f ++ behind))
function_among first start [] k f e = absurd (let z : ⊥ = cc in z)
function_among first start (g ∷ fs) zero f e =
    let same : g ≡ f = cc in
    ([], functions_items (first + 1) (start + (length g.code + 1)) fs, first, start, ap (λ h. function_items first start h ++ functions_items (first + 1) (start + (length g.code + 1)) fs) same)
function_among first start (g ∷ fs) (suc k) f e =
    let rest = function_among (first + 1) (start + (length g.code + 1)) fs k f e in
    let front = function_items first start g in
    let own = function_items rest.2 rest.3 f in
    let all : functions_items (first + 1) (start + (length g.code + 1)) fs ≡ rest.0 ++ (own ++ rest.1) = rest.4 in
    let whole : front ++ functions_items (first + 1) (start + (length g.code + 1)) fs ≡ (front ++ rest.0) ++ (own ++ rest.1) =
    ap (λ xs. front ++ xs) all ∙ sym (append_assoc front rest.0 (own ++ rest.1)) in
    (front ++ rest.0, rest.1, rest.2, rest.3, whole)
