-- Words that are written one after another.
use Rattle.std.proofs.Common.{◌≡◌, ℕ, suc, ◌+◌, List, [], ◌∷◌, ◌++◌, Bool, map, refl, sym, ap, ◌∙◌, subst, arith, append_assoc, append-nil}
use Rattle.std.specs.Prelude.{Result, Ok, Err, OnOk}
use Rattle.std.proofs.lemmas.List.{map-append}
use Rattle.rv32.specs.declared.instr.Instr.{Instr}
use Rattle.rv32.specs.Words.{word_of}
use Rattle.asm.specs.declared.item.Item.{Item}
use Rattle.asm.specs.Layout.{item_at, place}
use Rattle.asm.specs.Placed.{bytes_of, word_bytes}
use Rattle.asm.specs.declared.refusal.Refusal.{Refusal}
use Rattle.asm.specs.inside.Code.{Decoding, Writes, code, item_code}

pub bytes_joined : (vs ws : List ℕ) → bytes_of (vs ++ ws) ≡ bytes_of vs ++ bytes_of ws
bytes_joined [] ws = refl
bytes_joined (v ∷ vs) ws = ap (λ bs. word_bytes v ++ bs) (bytes_joined vs ws)

decoding_joined : (is js : List Instr) → Decoding is → Decoding js → Decoding (is ++ js)
decoding_joined [] js d e = e
decoding_joined (i ∷ is) js d e = (d.0, decoding_joined is js d.1 e)

pub writes_none : (was : List ℕ) → Writes was was []
writes_none was = record { bytes = sym (append-nil was); decoding = tt }

pub writes_then : (a b c : List ℕ) (is js : List Instr) → Writes a b is → Writes b c js → Writes a c (is ++ js)
writes_then a b c is js u v = record {
  bytes = v.bytes
      ∙ ap (λ x. x ++ bytes_of (map word_of js)) u.bytes
      ∙ append_assoc a (bytes_of (map word_of is)) (bytes_of (map word_of js))
      ∙ ap (λ x. a ++ x) (sym (bytes_joined (map word_of is) (map word_of js)) ∙ ap bytes_of (sym (map-append word_of is js)));
  decoding = decoding_joined is js u.decoding v.decoding;
}

pub writes_two : (a b c : List ℕ) (i j : Instr) → Writes a b (i ∷ []) → Writes b c (j ∷ []) → Writes a c (i ∷ j ∷ [])
writes_two a b c i j u v = writes_then a b c (i ∷ []) (j ∷ []) u v

pub then_one : (answer : Result (Unit {0}) Refusal) (a b c : List ℕ) (i j : Instr) (is : List Instr) → Writes a b (i ∷ []) → OnOk answer (Writes b c (j ∷ [])) → is ≡ i ∷ j ∷ [] → OnOk answer (Writes a c is)
then_one (Ok u) a b c i j is v w e = subst (λ (js : List Instr). Writes a c js) (sym e) (writes_two a b c i j v w)
then_one (Err f) a b c i j is v w e = tt

-- the words of item i after those of the items before it
pub writes_item : (env : ℕ → ℕ) (seg : ℕ) (L : ℕ → Bool) (base : ℕ) (xs : List Item) (i : ℕ) (was now : List ℕ) (long : Bool) (at : ℕ) (x : Item)
    → Writes [] was (code env seg L base xs i) → Writes was now (item_code env seg long at x) → long ≡ L i → at ≡ place L base xs i → item_at xs i ≡ x
    → Writes [] now (code env seg L base xs (i + 1))
writes_item env seg L base xs i was now long at x before put is_long is_at is_item =
    let P : Item → Type 0 = λ y. Writes was now (item_code env seg (L i) (place L base xs i) y) in
    let here : Writes was now (item_code env seg (L i) (place L base xs i) x) = subst (λ (l : Bool). Writes was now (item_code env seg l (place L base xs i) x)) is_long (subst (λ (a : ℕ). Writes was now (item_code env seg long a x)) is_at put) in
    let next : suc i ≡ i + 1 = omega arith in
    subst (λ (n : ℕ). Writes [] now (code env seg L base xs n)) next (writes_then [] was now (code env seg L base xs i) (item_code env seg (L i) (place L base xs i) (item_at xs i)) before (subst P (sym is_item) here))
