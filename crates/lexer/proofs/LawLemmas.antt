-- Proofs of the laws.
use Rattle.std.proofs.Common.{◌≡◌, ℕ, zero, suc, ◌+◌, ◌-◌, ◌*◌, ◌/◌, ◌%◌, ◌<◌, ◌≤◌, eqb, leb, ltb, ◌&&◌, ◌||◌, not, Bool, true, false, cond, pos, Option, Some, None, Result, Ok, Err, List, [], ◌∷◌, ◌++◌, length, take, map, refl, sym, ap, ◌∙◌, subst, arith, inl, inr, mul_comm}
use Rattle.std.specs.Fmt.{digit_glyph, digits_onto, digits}
use Rattle.std.specs.List.{list_all, list_any}
use Rattle.std.proofs.lemmas.Bool.{cases_Bool, and_from, and_parts, or_cases, le-leb, leb-true, eqb-true}
use Rattle.std.proofs.lemmas.Bool.Decides.{nat_tests}
use Rattle.std.proofs.Math.Nat.{mod-lt, div-add-mod, div-lt_iff_lt-mul}
use Rattle.srcset.specs.declared.code.Code.{Code}
use Rattle.srcset.specs.NameTable.{Texts}
use Rattle.phases.specs.declared.token.Kind.{Kind as PpKind}
use Rattle.phases.specs.declared.token.Kind.TheVariants as pp
use Rattle.phases.specs.Token.{Token as PpToken}
use Rattle.ctypes.specs.declared.types.IntType.{IntType}
use Rattle.ctypes.specs.declared.types.IntType.TheVariants as ty
use Rattle.ctypes.specs.Types.{is_value_of}
use Rattle.lexer.specs.declared.numbers.Constant.{Constant as Number}
use Rattle.lexer.specs.declared.numbers.Suffix.{Suffix}
use Rattle.lexer.specs.declared.literals.Element.{Element}
use Rattle.lexer.specs.declared.literals.Part.{Part}
use Rattle.lexer.specs.declared.literals.Element.TheVariants.{Byte, Large, Unreadable, Universal}
use Rattle.lexer.specs.declared.token.Kind.{Kind}
use Rattle.lexer.specs.declared.token.Kind.TheVariants.{Keyword, Identifier, Constant, StringLiteral, Punctuator}
use Rattle.lexer.specs.declared.token.Keyword.{Keyword as Word}
use Rattle.lexer.specs.declared.token.Punctuator.{Punctuator as Mark}
use Rattle.lexer.specs.declared.token.Token.{Token}
use Rattle.lexer.specs.Digits.{digit_value, value_behind, value_of, is_digit, digit_count}
use Rattle.lexer.specs.Numbers.{typed, in_range, number_as, number, base_of, unprefixed, suffix_behind, types_of}
use Rattle.lexer.specs.Literals.{part, numbered, simple, octal, hexadecimal, escape, is_plain, first_part, elements, bytes_of, is_universal, is_unreadable, is_large, is_prefixed, between_quotes, string_of, string, character_of, lone, character}
use Rattle.lexer.specs.Words.{keyword_of, left_out_of, identifier, word_as}
use Rattle.lexer.specs.Punctuators.{mark_as, punctuator_of}
use Rattle.lexer.specs.Meanings.{Meaning, keyword, name, constant, text, punctuator, CToken}
use Rattle.lexer.specs.CTokens.{CTokens, join, before, put, as_constant, as_text, meaning, ctokens}
use Rattle.lexer.specs.Numbering.{IsKindOf, AreTokensOf, AreAll}
use Rattle.lexer.specs.Laws.{DigitsStandForTheirNumber, HasBytes, stands_for_itself, IsItself, GoesOnBehind, is_in_its_type, AreInTheirTypes}

-- ---- digits

glyph_value : (upper : Bool) (d : ℕ) → d < 16 → digit_value (digit_glyph upper d) ≡ d
glyph_value true d h = grind (arith, nat_tests)
glyph_value false d h = grind (arith, nat_tests)

-- one more than the greatest number of k digits
abbrev reach : ℕ → ℕ → ℕ
reach base zero = 1
reach base (suc k) = reach base k * base

onto_value : (k base : ℕ) (upper : Bool) (n : ℕ) (acc : List ℕ) → 0 < base → base ≤ 16 → n < reach base k
    → value_behind base 0 (digits_onto k base upper n acc) ≡ value_behind base n acc
onto_value zero base upper n acc some most h = let e : 0 ≡ n = omega arith in ap (λ x. value_behind base x acc) e
onto_value (suc k) base upper n acc some most h =
    let r : n % base < base = mod-lt n some in
    let g : digit_value (digit_glyph upper (n % base)) ≡ n % base = glyph_value upper (n % base) (omega arith) in
    let s : base * (n / base) + n % base ≡ n = div-add-mod n base in
    let t : n / base * base + digit_value (digit_glyph upper (n % base)) ≡ n = ap (λ x. n / base * base + x) g ∙ ap (λ x. x + n % base) (mul_comm (n / base) base) ∙ s in
    let glyph = digit_glyph upper (n % base) in
    elim (cases_Bool (eqb (n / base) 0)) [
      | inl z ↦ (let q = eqb-true (n / base) 0 z in let u : 0 * base + digit_value glyph ≡ n = subst (λ x. x * base + digit_value glyph ≡ n) q t in subst (λ b. value_behind base 0 (cond b (glyph ∷ acc) (digits_onto k base upper (n / base) (glyph ∷ acc))) ≡ value_behind base n acc) (sym z) (ap (λ x. value_behind base x acc) u))
      | inr z ↦ (let m : n / base < reach base k = (div-lt_iff_lt-mul some).1 h in subst (λ b. value_behind base 0 (cond b (glyph ∷ acc) (digits_onto k base upper (n / base) (glyph ∷ acc))) ≡ value_behind base n acc) (sym z) (onto_value k base upper (n / base) (glyph ∷ acc) some most m ∙ ap (λ x. value_behind base x acc) t))
    ]

pub digits_law : (n : ℕ) → DigitsStandForTheirNumber n
unfolding digits
digits_law n h = record {
  decimal = onto_value 64 10 false n [] (omega arith) (omega arith) (omega arith);
  octal = onto_value 64 8 false n [] (omega arith) (omega arith) (omega arith);
  small = onto_value 64 16 false n [] (omega arith) (omega arith) (omega arith);
  capital = onto_value 64 16 true n [] (omega arith) (omega arith) (omega arith);
}

-- ---- bytes

abbrev is_byte : Element → Bool
is_byte (Byte b) = leb b 255
is_byte e = true

if_byte : (t : Bool) (x y : Element) → is_byte x ≡ true → is_byte y ≡ true → is_byte (cond t x y) ≡ true
if_byte true x y h g = h
if_byte false x y h g = g

numbered_byte : (v : ℕ) → is_byte (numbered v) ≡ true
numbered_byte v = elim (cases_Bool (leb v 255)) [ inl t ↦ rw t t | inr f ↦ rw f refl ]

simple_byte : (b : ℕ) → is_byte (simple b) ≡ true
unfolding simple
simple_byte b =
    if_byte (eqb b 39) _ _ refl (if_byte (eqb b 34) _ _ refl (if_byte (eqb b 63) _ _ refl (if_byte (eqb b 92) _ _ refl (if_byte (eqb b 97) _ _ refl
    (if_byte (eqb b 98) _ _ refl (if_byte (eqb b 116) _ _ refl (if_byte (eqb b 110) _ _ refl (if_byte (eqb b 118) _ _ refl (if_byte (eqb b 102) _ _ refl
    (if_byte (eqb b 114) _ _ refl (if_byte (eqb b 117) _ _ refl (if_byte (eqb b 85) _ _ refl refl))))))))))))

if_part : (t : Bool) (x y : Part) → is_byte x.element ≡ true → is_byte y.element ≡ true → is_byte (cond t x y).element ≡ true
if_part true x y h g = h
if_part false x y h g = g

escape_byte : (bs : List ℕ) → is_byte (escape bs).element ≡ true
escape_byte [] = refl
escape_byte (b ∷ bs) =
    if_part (is_digit 8 b) (octal (b ∷ bs)) _ (numbered_byte (value_of 8 (take (digit_count 8 (take 3 (b ∷ bs))) (b ∷ bs))))
    (if_part (eqb b 120) (hexadecimal bs) _ (if_part (eqb (digit_count 16 bs) 0) (part 2 Unreadable) _ refl (numbered_byte (value_of 16 (take (digit_count 16 bs) bs)))) (simple_byte b))

plain_byte : (b : ℕ) → is_plain b ≡ true → leb b 255 ≡ true
plain_byte b h =
    elim (or_cases (eqb b 9) (leb 32 b && leb b 126) h) [
      | inl e ↦ (let x = eqb-true b 9 e in le-leb b 255 (omega arith))
      | inr e ↦ (let p = and_parts (leb 32 b) (leb b 126) e in let x = leb-true b 126 p.1 in le-leb b 255 (omega arith))
    ]

own_byte : (b : ℕ) → is_byte (cond (is_plain b) (Byte b) Unreadable) ≡ true
own_byte b = elim (cases_Bool (is_plain b)) [ inl p ↦ rw p (plain_byte b p) | inr p ↦ rw p refl ]

first_byte : (b : ℕ) (bs : List ℕ) → is_byte (first_part b bs).element ≡ true
first_byte b bs = if_part (eqb b 92) (escape bs) _ (escape_byte bs) (own_byte b)

elements_bytes : (skip : ℕ) (bs : List ℕ) → list_all is_byte (elements skip bs) ≡ true
unfolding elements
elements_bytes skip [] = refl
elements_bytes (suc k) (b ∷ bs) = elements_bytes k bs
elements_bytes zero (b ∷ bs) = and_from (is_byte (first_part b bs).element) (list_all is_byte (elements ((first_part b bs).count - 1) bs)) (first_byte b bs) (elements_bytes ((first_part b bs).count - 1) bs)

bytes_bytes : (es : List Element) → list_all is_byte es ≡ true → list_all (λ b. leb b 255) (bytes_of es) ≡ true
bytes_bytes [] h = refl
bytes_bytes (Byte b ∷ es) h = let p = and_parts (leb b 255) (list_all is_byte es) h in and_from (leb b 255) _ p.0 (bytes_bytes es p.1)
bytes_bytes (Large ∷ es) h = bytes_bytes es h
bytes_bytes (Unreadable ∷ es) h = bytes_bytes es h
bytes_bytes (Universal ∷ es) h = bytes_bytes es h

ok_if : {X : Type 0} (t : Bool) (c : Code) (r : Result X Code) (x : X) → cond t (Err c) r ≡ Ok x → r ≡ Ok x
ok_if true c r x h = absurd (cc)
ok_if false c r x h = h

ok_same : (x y : List ℕ) → as_text (Ok x) ≡ as_text (Ok y) → x ≡ y
ok_same x y h = cc

pub bytes_law : (spelling : List ℕ) → HasBytes spelling
bytes_law s bytes h =
    let es = elements 0 (between_quotes s) in
    let e : bytes_of es ≡ bytes = ok_same (bytes_of es) bytes (ap as_text (ok_if (list_any is_large es) _ _ bytes (ok_if (list_any is_unreadable es) _ _ bytes (ok_if (is_prefixed 34 s || list_any is_universal es) _ _ bytes h)))) in
    subst (λ x. list_all (λ b. leb b 255) x ≡ true) e (bytes_bytes es (elements_bytes 0 (between_quotes s)))

-- ---- literals without escape sequences, and with some

not_true : (b : Bool) → not b ≡ true → b ≡ false
not_true true h = sym h
not_true false h = refl

elements_itself : (bs : List ℕ) → list_all stands_for_itself bs ≡ true → elements 0 bs ≡ map Byte bs
unfolding elements
elements_itself [] h = refl
elements_itself (b ∷ bs) h =
    let p = and_parts (stands_for_itself b) (list_all stands_for_itself bs) h in
    let q = and_parts (is_plain b) (not (eqb b 92)) p.0 in
    rw (not_true (eqb b 92) q.1, q.0) (ap (λ es. Byte b ∷ es) (elements_itself bs p.1))

bytes_itself : (bs : List ℕ) → bytes_of (map Byte bs) ≡ bs
bytes_itself [] = refl
bytes_itself (b ∷ bs) = ap (λ x. b ∷ x) (bytes_itself bs)

none_of : (test : Element → Bool) → ((b : ℕ) → test (Byte b) ≡ false) → (bs : List ℕ) → list_any test (map Byte bs) ≡ false
none_of test f [] = refl
none_of test f (b ∷ bs) = rw (f b) (none_of test f bs)

front_of : (bs rest : List ℕ) → take (length bs) (bs ++ rest) ≡ bs
front_of [] rest = refl
front_of (b ∷ bs) rest = ap (λ x. b ∷ x) (front_of bs rest)

length_more : (bs : List ℕ) → length (bs ++ 34 ∷ []) ≡ suc (length bs)
length_more [] = refl
length_more (b ∷ bs) = ap suc (length_more bs)

between : (bs : List ℕ) → between_quotes (34 ∷ bs ++ 34 ∷ []) ≡ bs
between bs =
    let l = length_more bs in
    let e : length (34 ∷ bs ++ 34 ∷ []) - 2 ≡ length bs = omega (arith, l) in
    ap (λ n. take n (bs ++ 34 ∷ [])) e ∙ front_of bs (34 ∷ [])

string_itself : (bs : List ℕ) (es : List Element) → es ≡ map Byte bs → string_of false es ≡ Ok bs
string_itself bs es e =
    ap (string_of false) e ∙ rw (none_of is_universal (λ b. refl) bs, none_of is_unreadable (λ b. refl) bs, none_of is_large (λ b. refl) bs) (ap Ok (bytes_itself bs))

pub plain_law : (bs : List ℕ) → IsItself bs
plain_law bs h = string_itself bs (elements 0 (between_quotes (34 ∷ bs ++ 34 ∷ []))) (ap (elements 0) (between bs) ∙ elements_itself bs h)

skip_front : (bs rest : List ℕ) → elements (length bs) (bs ++ rest) ≡ elements 0 rest
unfolding elements
skip_front [] rest = refl
skip_front (b ∷ bs) rest = skip_front bs rest

pub behind_law : (b : ℕ) (bs rest : List ℕ) → GoesOnBehind b bs rest
unfolding elements
behind_law b bs rest h =
    let p = first_part b (bs ++ rest) in
    let e : p.count - 1 ≡ length bs = omega (arith, h) in
    ap (λ es. p.element ∷ es) (ap (λ k. elements k (bs ++ rest)) e ∙ skip_front bs rest)

-- ---- constants

abbrev ok_in : Result Number Code → Bool
ok_in (Ok c) = is_value_of c.of (pos c.value)
ok_in (Err code) = true

typed_in : (v : ℕ) (types : List IntType) → ok_in (typed v types) ≡ true
typed_in v [] = refl
typed_in v (t ∷ ts) = elim (cases_Bool (is_value_of t (pos v))) [ inl e ↦ rw e e | inr f ↦ rw f (typed_in v ts) ]

range_in : (v : ℕ) (types : List IntType) → ok_in (in_range v types) ≡ true
range_in v types = elim (cases_Bool (ltb 18446744073709551615 v)) [ inl e ↦ rw e refl | inr f ↦ rw f (typed_in v types) ]

number_as_in : (base : ℕ) (ds : List ℕ) (o : Option Suffix) (s : List ℕ) → ok_in (number_as base ds o s) ≡ true
number_as_in base ds None s = refl
number_as_in base ds (Some x) s = range_in (value_of base ds) (types_of (eqb base 10) x)

number_in : (s : List ℕ) → ok_in (number s) ≡ true
number_in s =
    let rest = unprefixed s in
    let count = digit_count (base_of s) rest in
    number_as_in (base_of s) (take count rest) (suffix_behind count rest) s

byte_in_int : (b : ℕ) → leb b 255 ≡ true → is_value_of ty.Int (pos b) ≡ true
byte_in_int b h = let x = leb-true b 255 h in grind (arith, nat_tests)

character_of_in : (e : Element) → is_byte e ≡ true → ok_in (character_of e) ≡ true
character_of_in Universal h = refl
character_of_in Unreadable h = refl
character_of_in Large h = refl
character_of_in (Byte b) h = byte_in_int b h

lone_in : (bs : List ℕ) → ok_in (lone bs) ≡ true
lone_in [] = refl
lone_in (b ∷ bs) = elim (cases_Bool (ltb (first_part b bs).count (suc (length bs)))) [
  | inl e ↦ rw e refl
  | inr f ↦ rw f (character_of_in (first_part b bs).element (first_byte b bs))
]

character_in : (s : List ℕ) → ok_in (character s) ≡ true
character_in s = elim (cases_Bool (is_prefixed 39 s)) [ inl e ↦ rw e refl | inr f ↦ rw f (lone_in (between_quotes s)) ]

abbrev meaning_in : Meaning → Bool
meaning_in (constant t v) = is_value_of t (pos v)
meaning_in m = true

abbrev result_in : Result Meaning Code → Bool
result_in (Ok m) = meaning_in m
result_in (Err code) = true

constant_in : (r : Result Number Code) → ok_in r ≡ true → result_in (as_constant r) ≡ true
constant_in (Ok c) h = h
constant_in (Err code) h = refl

text_in : (r : Result (List ℕ) Code) → result_in (as_text r) ≡ true
text_in (Ok bytes) = refl
text_in (Err code) = refl

identifier_in : (o : Option Code) (s : List ℕ) → result_in (identifier o s) ≡ true
identifier_in None s = refl
identifier_in (Some code) s = refl

word_in : (o : Option Word) (s : List ℕ) → result_in (word_as o s) ≡ true
word_in None s = identifier_in (left_out_of s) s
word_in (Some k) s = refl

mark_in : (o : Option Mark) → result_in (mark_as o) ≡ true
mark_in None = refl
mark_in (Some x) = refl

any_in : (k : PpKind) (s : List ℕ) → result_in (meaning k s) ≡ true
any_in pp.Identifier s = word_in (keyword_of s) s
any_in pp.Number s = constant_in (number s) (number_in s)
any_in pp.CharacterConstant s = constant_in (character s) (character_in s)
any_in pp.StringLiteral s = text_in (string s)
any_in pp.HeaderName s = refl
any_in pp.Punctuator s = mark_in (punctuator_of s)
any_in pp.Other s = refl

abbrev all_in : List CToken → Bool
all_in cs = list_all (λ c. meaning_in c.meaning) cs

join_in : (m n : Meaning) (c d : CToken) (ds : List CToken) → meaning_in c.meaning ≡ true → all_in (d ∷ ds) ≡ true → all_in (join m n c d ds) ≡ true
join_in (text a) (text b) c d ds h g = (and_parts (meaning_in d.meaning) (all_in ds) g).1
join_in m n c d ds h g = and_from (meaning_in c.meaning) (all_in (d ∷ ds)) h g

before_in : (c : CToken) (cs : List CToken) → meaning_in c.meaning ≡ true → all_in cs ≡ true → all_in (before c cs) ≡ true
before_in c [] h g = and_from (meaning_in c.meaning) true h refl
before_in c (d ∷ ds) h g = join_in c.meaning d.meaning c d ds h g

put_in : (t : PpToken) (r : Result Meaning Code) (rest : CTokens) → result_in r ≡ true → all_in rest.tokens ≡ true → all_in (put t.pos r rest).tokens ≡ true
put_in t (Ok m) rest h g = before_in (record { meaning = m; pos = t.pos }) rest.tokens h g
put_in t (Err code) rest h g = refl

ctokens_in : (ts : List PpToken) → all_in (ctokens ts).tokens ≡ true
ctokens_in [] = refl
ctokens_in (t ∷ ts) = put_in t (meaning t.kind t.spelling) (ctokens ts) (any_in t.kind t.spelling) (ctokens_in ts)

kind_in : (texts : Texts) (m : Meaning) (k : Kind) → IsKindOf texts m k → meaning_in m ≡ true → is_in_its_type k ≡ true
kind_in texts (constant t v) (Constant u w) i h = subst (λ x. is_value_of x (pos w) ≡ true) i.0 (subst (λ x. is_value_of t (pos x) ≡ true) i.1 h)
kind_in texts (keyword a) (Keyword b) i h = refl
kind_in texts (name s) (Identifier n) i h = refl
kind_in texts (text bytes) (StringLiteral n) i h = refl
kind_in texts (punctuator a) (Punctuator b) i h = refl
kind_in texts m k i h = absurd i

tokens_in : (texts : Texts) (cs : List CToken) (ts : List Token) → AreTokensOf texts cs ts → all_in cs ≡ true → AreInTheirTypes ts
tokens_in texts [] [] a h = refl
tokens_in texts [] (t ∷ ts) a h = absurd a
tokens_in texts (c ∷ cs) [] a h = absurd a
tokens_in texts (c ∷ cs) (t ∷ ts) a h =
    let p = and_parts (meaning_in c.meaning) (all_in cs) h in
    and_from (is_in_its_type t.kind) _ (kind_in texts c.meaning t.kind a.0.0 p.0) (tokens_in texts cs ts a.1 p.1)

pub constants_law : (old texts : Texts) (list : List PpToken) (ts : List Token) → AreAll old texts (ctokens list) ts → AreInTheirTypes ts
constants_law old texts list ts a = tokens_in texts (ctokens list).tokens ts a.tokens_are (ctokens_in list)
