-- The token that a scanner finds is the longest front that the grammar has.
use Rattle.std.proofs.Common.{◌≡◌, ℕ, zero, suc, ◌≤◌, ◌<◌, ◌⊎◌, eqb, ltb, leb, ◌||◌, ◌&&◌, Bool, true, false, not, cond, List, [], ◌∷◌, length, take, drop, refl, sym, ap, ◌∙◌, subst, arith, Option, None, Some, inl, inr}
use Rattle.std.proofs.lemmas.Bool.{cases_Bool, cases_lt, lt-ltb, le-ltb, leb-true, leb-false}
use Rattle.phases.specs.declared.token.Kind.{Kind}
use Rattle.phases.specs.declared.token.Kind.TheVariants.{Identifier, Number, CharacterConstant, StringLiteral, HeaderName, Punctuator, Other}
use Rattle.phases.specs.declared.token.Place.{Place}
use Rattle.phases.specs.declared.token.Place.TheVariants.{Start, AfterHash, AfterInclude, Elsewhere}
use Rattle.phases.specs.Grammar as spec
use Rattle.phases.specs.Grammar.{is_empty, is_identifier, is_number, character_prefix, string_prefix, plain_kind, kind_at, if_kind, or_shorter, longest_within, longest_token, is_of}
use Rattle.phases.specs.inside.Grammar as flags
use Rattle.phases.specs.inside.Grammar.{closes_last, is_enclosed, is_character, is_string, is_header, is_punctuator}
use Rattle.phases.specs.inside.Lexical.{character_len, string_len, name_len, number_len, punctuator_len, header_len, first_kind, plain_token, token_front}
use Rattle.phases.proofs.LongestLemmas.{name_longest, number_longest, punctuator_longest}
use Rattle.phases.proofs.PrefixLemmas.{character_longest, string_longest}
use Rattle.phases.proofs.FrontLemmas.{header_longest, front_longest}
use Rattle.phases.proofs.WholeLemmas.{Good, character_good, string_good, name_good, number_good, punctuator_good, header_good, front_whole}
use Rattle.phases.proofs.PunctuatorTable.{punctuator_law}

-- ---- the texts of literals, by cases and by flags

quote_step : (nl cl e i a b : Bool) (f : Bool → Bool) → f true ≡ a → f false ≡ b
    → (not nl && cond (cl && true) i (f e)) ≡ cond nl false (cond cl i (cond e a b))
quote_step true cl e i a b f p q = refl
quote_step false true e i a b f p q = refl
quote_step false false true i a b f p q = p
quote_step false false false i a b f p q = q

escape_step : (nl cl i a x : Bool) → x ≡ a → (not nl && cond (cl && false) i x) ≡ cond nl false a
escape_step true cl i a x p = refl
escape_step false true i a x p = p
escape_step false false i a x p = p

header_step : (nl cl i a x : Bool) → x ≡ a → (not nl && cond (cl && true) i x) ≡ cond nl false (cond cl i a)
header_step true cl i a x p = refl
header_step false true i a x p = refl
header_step false false i a x p = p

quote_law : (q : ℕ) (bs : List ℕ) → (closes_last q true false bs ≡ spec.closes_quote q bs) × (closes_last q true true bs ≡ spec.escapes q bs)
quote_law q [] = (refl, refl)
quote_law q (b ∷ bs) =
    let i = quote_law q bs in (
      quote_step (eqb b 10) (eqb b q) (eqb b 92) (is_empty bs) (spec.escapes q bs) (spec.closes_quote q bs) (λ e. closes_last q true e bs) i.1 i.0,
      escape_step (eqb b 10) (eqb b q) (is_empty bs) (spec.closes_quote q bs) (closes_last q true false bs) i.0,
    )

header_quote : (close : ℕ) (bs : List ℕ) → closes_last close false false bs ≡ spec.closes_header close bs
header_quote close [] = refl
header_quote close (b ∷ bs) = header_step (eqb b 10) (eqb b close) (is_empty bs) (spec.closes_header close bs) (closes_last close false false bs) (header_quote close bs)

quoted_law : (q least : ℕ) (bs : List ℕ) → is_enclosed q q least true bs ≡ spec.is_quoted q least bs
quoted_law q least [] = refl
quoted_law q least (b ∷ bs) = ap (λ k. eqb b q && (ltb least (length bs) && k)) (quote_law q bs).0

header_in_law : (first close : ℕ) (bs : List ℕ) → is_enclosed first close 1 false bs ≡ spec.is_header_in first close bs
header_in_law first close [] = refl
header_in_law first close (b ∷ bs) = ap (λ k. eqb b first && (ltb 1 (length bs) && k)) (header_quote close bs)

character_law : (bs : List ℕ) → is_character bs ≡ spec.is_character bs
character_law bs = quoted_law 39 1 (drop (character_prefix bs) bs)

string_law : (bs : List ℕ) → is_string bs ≡ spec.is_string bs
string_law bs = quoted_law 34 0 (drop (string_prefix bs) bs)

header_law : (bs : List ℕ) → is_header bs ≡ spec.is_header bs
header_law bs = ap (λ k. k || is_enclosed 34 34 1 false bs) (header_in_law 60 62 bs) ∙ ap (λ k. spec.is_header_in 60 62 bs || k) (header_in_law 34 34 bs)

no_token : (place : Place) (text : List ℕ) → flags.IsNoToken place text → spec.IsNoToken place text
no_token place text n = record {
  no_identifier = n.no_identifier;
  no_number = n.no_number;
  no_character = sym (character_law text) ∙ n.no_character;
  no_string = sym (string_law text) ∙ n.no_string;
  no_punctuator = punctuator_law text ∙ n.no_punctuator;
  no_header = λ e. sym (header_law text) ∙ n.no_header e;
}

of_kind : (k : Kind) (text : List ℕ) → flags.is_of k text ≡ true → is_of k text ≡ true
of_kind Identifier text h = h
of_kind Number text h = h
of_kind CharacterConstant text h = sym (character_law text) ∙ h
of_kind StringLiteral text h = sym (string_law text) ∙ h
of_kind HeaderName text h = sym (header_law text) ∙ h
of_kind Punctuator text h = punctuator_law text ∙ h
of_kind Other text h = h

-- ---- the kind of a whole text

-- a text is no token just where it has no kind
plain_none : (c s n d p : Bool) → c ≡ false → s ≡ false → n ≡ false → d ≡ false → p ≡ false
    → if_kind c CharacterConstant (if_kind s StringLiteral (if_kind n Identifier (if_kind d Number (if_kind p Punctuator None)))) ≡ None
plain_none c s n d p e f g h i = rw (e, f, g, h, i) refl

none_plain : (place : Place) (text : List ℕ) → spec.IsNoToken place text → plain_kind text ≡ None
none_plain place text n =
    plain_none (spec.is_character text) (spec.is_string text) (is_identifier text) (is_number text) (spec.is_punctuator text) n.no_character n.no_string n.no_identifier n.no_number n.no_punctuator

none_at : (place : Place) (text : List ℕ) → spec.IsNoToken place text → kind_at place text ≡ None
none_at Start text n = none_plain Start text n
none_at AfterHash text n = none_plain AfterHash text n
none_at Elsewhere text n = none_plain Elsewhere text n
none_at AfterInclude text n = rw (n.no_header refl) (none_plain AfterInclude text n)

if_none : (t : Bool) (k : Kind) (o : Option Kind) → if_kind t k o ≡ None → (t ≡ false) × (o ≡ None)
if_none true k o h = absurd (cc)
if_none false k o h = (refl, h)

no_plain : (place : Place) (text : List ℕ) → plain_kind text ≡ None → (place ≡ AfterInclude → spec.is_header text ≡ false) → spec.IsNoToken place text
no_plain place text h f =
    let c = if_none (spec.is_character text) _ _ h in
    let s = if_none (spec.is_string text) _ _ c.1 in
    let n = if_none (is_identifier text) _ _ s.1 in
    let d = if_none (is_number text) _ _ n.1 in
    let p = if_none (spec.is_punctuator text) _ _ d.1 in
    record { no_identifier = n.0; no_number = d.0; no_character = c.0; no_string = s.0; no_punctuator = p.0; no_header = f }

no_at : (place : Place) (text : List ℕ) → kind_at place text ≡ None → spec.IsNoToken place text
no_at Start text h = no_plain Start text h (λ e. absurd (cc))
no_at AfterHash text h = no_plain AfterHash text h (λ e. absurd (cc))
no_at Elsewhere text h = no_plain Elsewhere text h (λ e. absurd (cc))
no_at AfterInclude text h = let p = if_none (spec.is_header text) _ _ h in no_plain AfterInclude text p.1 (λ e. p.0)

if_other : (t : Bool) (k : Kind) (o : Option Kind) → (k ≡ Other → ⊥) → (o ≡ Some Other → ⊥) → if_kind t k o ≡ Some Other → ⊥
if_other true k o f g h = f (cc)
if_other false k o f g h = g h

plain_other : (text : List ℕ) → plain_kind text ≡ Some Other → ⊥
plain_other text =
    if_other (spec.is_character text) _ _ (λ e. absurd (cc)) (if_other (spec.is_string text) _ _ (λ e. absurd (cc)) (if_other (is_identifier text) _ _ (λ e. absurd (cc)) (if_other (is_number text) _ _ (λ e. absurd (cc)) (if_other (spec.is_punctuator text) _ _ (λ e. absurd (cc)) (λ e. absurd (cc))))))

at_other : (place : Place) (text : List ℕ) → kind_at place text ≡ Some Other → ⊥
at_other Start text = plain_other text
at_other AfterHash text = plain_other text
at_other Elsewhere text = plain_other text
at_other AfterInclude text = if_other (spec.is_header text) _ _ (λ e. absurd (cc)) (plain_other text)

-- ---- the longest front

longest_is : (place : Place) (text : List ℕ) (k : Kind) (n l : ℕ) → 0 < n → n ≤ l → kind_at place (take n text) ≡ Some k
    → ((m : ℕ) → n < m → m ≤ l → kind_at place (take m text) ≡ None) → longest_within place text l ≡ (k, n)
unfolding longest_within
longest_is place text k n zero p r h f = absurd (omega arith)
longest_is place text k n (suc l) p r h f =
    elim (cases_lt n (suc l)) [
      | inl b ↦ rw (f (suc l) b (omega arith)) (longest_is place text k n l p (omega arith) h (λ m x y. f m x (omega arith)))
      | inr b ↦ (let e : n ≡ suc l = omega arith in subst (λ j. or_shorter (suc l) (kind_at place (take (suc l) text)) (longest_within place text l) ≡ (k, j)) (sym e) (rw (subst (λ j. kind_at place (take j text) ≡ Some k) e h) refl))
    ]

longest_none : (place : Place) (text : List ℕ) (l : ℕ) → ((m : ℕ) → 0 < m → m ≤ l → kind_at place (take m text) ≡ None)
    → longest_within place text l ≡ (Other, 1)
unfolding longest_within
longest_none place text zero f = refl
longest_none place text (suc l) f = rw (f (suc l) (omega arith) (omega arith)) (longest_none place text l (λ m x y. f m x (omega arith)))

-- the properties of a plain token, by its kind and length
record IsFound (place : Place) (bs : List ℕ) (t : Kind × ℕ) : Type 0 where
  some : 0 < t.1
  room : t.1 ≤ length bs
  kind : kind_at place (take t.1 bs) ≡ Some t.0

record IsNone (place : Place) (bs : List ℕ) (t : Kind × ℕ) : Type 0 where
  is : t ≡ (Other, 1)
  none : (m : ℕ) → 0 < m → m ≤ length bs → kind_at place (take m bs) ≡ None

plain_found : (bs : List ℕ) (k : Kind) (n : ℕ) → 0 < n → n ≤ length bs → plain_kind (take n bs) ≡ Some k → IsFound Start bs (k, n)
plain_found bs k n p r h = record { some = p; room = r; kind = h }

-- the kind of a front of a given length, where some kinds are known to be absent
kind_of_character : (text : List ℕ) → is_character text ≡ true → plain_kind text ≡ Some CharacterConstant
kind_of_character text h = rw (sym (character_law text) ∙ h) refl

kind_of_string : (text : List ℕ) → is_character text ≡ false → is_string text ≡ true → plain_kind text ≡ Some StringLiteral
kind_of_string text e h = rw (sym (character_law text) ∙ e, sym (string_law text) ∙ h) refl

kind_of_name : (text : List ℕ) → is_character text ≡ false → is_string text ≡ false → is_identifier text ≡ true → plain_kind text ≡ Some Identifier
kind_of_name text e f h = rw (sym (character_law text) ∙ e, sym (string_law text) ∙ f, h) refl

kind_of_number : (text : List ℕ) → is_character text ≡ false → is_string text ≡ false → is_identifier text ≡ false → is_number text ≡ true
    → plain_kind text ≡ Some Number
kind_of_number text e f g h = rw (sym (character_law text) ∙ e, sym (string_law text) ∙ f, g, h) refl

kind_of_punctuator : (text : List ℕ) → is_character text ≡ false → is_string text ≡ false → is_identifier text ≡ false → is_number text ≡ false
    → is_punctuator text ≡ true → plain_kind text ≡ Some Punctuator
kind_of_punctuator text e f g d h = rw (sym (character_law text) ∙ e, sym (string_law text) ∙ f, g, d, punctuator_law text ∙ h) refl

-- the fronts of a text that are tokens, where all lengths of one kind are
record Fronts (bs : List ℕ) (c s n d p : ℕ) : Type 0 where
  c_good : 0 < c → Good is_character bs c
  s_good : 0 < s → Good is_string bs s
  n_good : 0 < n → Good is_identifier bs n
  d_good : 0 < d → Good is_number bs d
  p_good : 0 < p → Good is_punctuator bs p
  c_most : (m : ℕ) → c < m → m ≤ length bs → is_character (take m bs) ≡ false
  s_most : (m : ℕ) → s < m → m ≤ length bs → is_string (take m bs) ≡ false
  n_most : (m : ℕ) → n < m → m ≤ length bs → is_identifier (take m bs) ≡ false
  d_most : (m : ℕ) → d < m → m ≤ length bs → is_number (take m bs) ≡ false
  p_most : (m : ℕ) → p < m → m ≤ length bs → is_punctuator (take m bs) ≡ false

fronts : (bs : List ℕ) → Fronts bs (character_len bs) (string_len bs) (name_len bs) (number_len bs) (punctuator_len bs)
fronts bs = record {
  c_good = character_good bs;
  s_good = string_good bs;
  n_good = name_good bs;
  d_good = number_good bs;
  p_good = punctuator_good bs;
  c_most = character_longest bs;
  s_most = string_longest bs;
  n_most = name_longest bs;
  d_most = number_longest bs;
  p_most = punctuator_longest bs;
}

abbrev Known : List ℕ → Kind × ℕ → Type 0
Known bs t = IsFound Start bs t ⊎ IsNone Start bs t

known_character : (bs : List ℕ) (c s n d p : ℕ) → Fronts bs c s n d p → 0 < c → Known bs (first_kind c s n d p)
known_character bs c s n d p f a =
    let g = f.c_good a in
    let e : (CharacterConstant, c) ≡ first_kind c s n d p = rw (lt-ltb 0 c a) refl in
    subst (Known bs) e (inl (plain_found bs CharacterConstant c a g.room (kind_of_character (take c bs) g.holds)))

known_string : (bs : List ℕ) (c s n d p : ℕ) → Fronts bs c s n d p → c ≤ 0 → 0 < s → Known bs (first_kind c s n d p)
known_string bs c s n d p f a b =
    let g = f.s_good b in
    let e : (StringLiteral, s) ≡ first_kind c s n d p = rw (le-ltb 0 c a, lt-ltb 0 s b) refl in
    subst (Known bs) e (inl (plain_found bs StringLiteral s b g.room (kind_of_string (take s bs) (f.c_most s (omega arith) g.room) g.holds)))

known_name : (bs : List ℕ) (c s n d p : ℕ) → Fronts bs c s n d p → c ≤ 0 → s ≤ 0 → 0 < n → Known bs (first_kind c s n d p)
known_name bs c s n d p f a b u =
    let g = f.n_good u in
    let e : (Identifier, n) ≡ first_kind c s n d p = rw (le-ltb 0 c a, le-ltb 0 s b, lt-ltb 0 n u) refl in
    subst (Known bs) e (inl (plain_found bs Identifier n u g.room (kind_of_name (take n bs) (f.c_most n (omega arith) g.room) (f.s_most n (omega arith) g.room) g.holds)))

known_number : (bs : List ℕ) (c s n d p : ℕ) → Fronts bs c s n d p → c ≤ 0 → s ≤ 0 → n ≤ 0 → 0 < d → Known bs (first_kind c s n d p)
known_number bs c s n d p f a b u v =
    let g = f.d_good v in
    let e : (Number, d) ≡ first_kind c s n d p = rw (le-ltb 0 c a, le-ltb 0 s b, le-ltb 0 n u, lt-ltb 0 d v) refl in
    subst (Known bs) e (inl (plain_found bs Number d v g.room (kind_of_number (take d bs) (f.c_most d (omega arith) g.room) (f.s_most d (omega arith) g.room) (f.n_most d (omega arith) g.room) g.holds)))

known_punctuator : (bs : List ℕ) (c s n d p : ℕ) → Fronts bs c s n d p → c ≤ 0 → s ≤ 0 → n ≤ 0 → d ≤ 0 → 0 < p → Known bs (first_kind c s n d p)
known_punctuator bs c s n d p f a b u v w =
    let g = f.p_good w in
    let e : (Punctuator, p) ≡ first_kind c s n d p = rw (le-ltb 0 c a, le-ltb 0 s b, le-ltb 0 n u, le-ltb 0 d v, lt-ltb 0 p w) refl in
    let k = kind_of_punctuator (take p bs) (f.c_most p (omega arith) g.room) (f.s_most p (omega arith) g.room) (f.n_most p (omega arith) g.room) (f.d_most p (omega arith) g.room) g.holds in
    subst (Known bs) e (inl (plain_found bs Punctuator p w g.room k))

known_none : (bs : List ℕ) (c s n d p : ℕ) → Fronts bs c s n d p → c ≤ 0 → s ≤ 0 → n ≤ 0 → d ≤ 0 → p ≤ 0 → Known bs (first_kind c s n d p)
known_none bs c s n d p f a b u v w =
    let e : (Other, 1) ≡ first_kind c s n d p = rw (le-ltb 0 c a, le-ltb 0 s b, le-ltb 0 n u, le-ltb 0 d v, le-ltb 0 p w) refl in
    let none : (m : ℕ) → 0 < m → m ≤ length bs → plain_kind (take m bs) ≡ None = λ m x l.
    rw (
      sym (character_law (take m bs)) ∙ f.c_most m (omega arith) l,
      sym (string_law (take m bs)) ∙ f.s_most m (omega arith) l,
      f.n_most m (omega arith) l,
      f.d_most m (omega arith) l,
      punctuator_law (take m bs) ∙ f.p_most m (omega arith) l,
    ) refl in
    subst (Known bs) e (inr (record { is = refl; none = none }))

known_of : (bs : List ℕ) (c s n d p : ℕ) → Fronts bs c s n d p → Known bs (first_kind c s n d p)
known_of bs c s n d p f =
    elim (cases_lt 0 c) [
      | inl a ↦ known_character bs c s n d p f a
      | inr a ↦ elim (cases_lt 0 s) [
        | inl b ↦ known_string bs c s n d p f a b
        | inr b ↦ elim (cases_lt 0 n) [
          | inl u ↦ known_name bs c s n d p f a b u
          | inr u ↦ elim (cases_lt 0 d) [
            | inl v ↦ known_number bs c s n d p f a b u v
            | inr v ↦ elim (cases_lt 0 p) [
              | inl w ↦ known_punctuator bs c s n d p f a b u v w
              | inr w ↦ known_none bs c s n d p f a b u v w
            ]
          ]
        ]
      ]
    ]

known : (bs : List ℕ) → Known bs (plain_token bs)
known bs = known_of bs (character_len bs) (string_len bs) (name_len bs) (number_len bs) (punctuator_len bs) (fronts bs)

-- no front that is longer has a kind
none_longer : (place : Place) (bs : List ℕ) (m : ℕ) → (token_front place bs).1 < m → m ≤ length bs → kind_at place (take m bs) ≡ None
none_longer place bs m h l = none_at place (take m bs) (no_token place (take m bs) (front_longest place bs m h l))

found_law : (place : Place) (bs : List ℕ) → IsFound place bs (token_front place bs) → longest_token place bs ≡ token_front place bs
found_law place bs f = longest_is place bs (token_front place bs).0 (token_front place bs).1 (length bs) f.some f.room f.kind (none_longer place bs)

plain_law : (bs : List ℕ) → Known bs (plain_token bs) → longest_token Start bs ≡ plain_token bs
plain_law bs (inl f) = found_law Start bs f
plain_law bs (inr f) = longest_none Start bs (length bs) f.none ∙ sym f.is

header_found : (bs : List ℕ) (t : Kind × ℕ) → 0 < t.1 → leb t.1 (header_len bs) ≡ true → IsFound AfterInclude bs (HeaderName, header_len bs)
header_found bs t p e =
    let x = leb-true t.1 (header_len bs) e in
    let h : 0 < header_len bs = omega arith in
    let g = header_good bs h in
    record { some = h; room = g.room; kind = rw (sym (header_law (take (header_len bs) bs)) ∙ g.holds) refl }

not_header : (bs : List ℕ) (t : Kind × ℕ) → leb t.1 (header_len bs) ≡ false → (m : ℕ) → t.1 ≤ m → m ≤ length bs → spec.is_header (take m bs) ≡ false
not_header bs t e m h l = let x = leb-false t.1 (header_len bs) e in sym (header_law (take m bs)) ∙ header_longest bs m (omega arith) l

header_some : (bs : List ℕ) → Known bs (plain_token bs) → 0 < (plain_token bs).1
header_some bs (inl f) = f.some
header_some bs (inr f) = let e = ap (λ t. t.1) f.is in omega (arith, e)

include_plain : (bs : List ℕ) → Known bs (plain_token bs) → leb (plain_token bs).1 (header_len bs) ≡ false → longest_token AfterInclude bs ≡ plain_token bs
include_plain bs (inl f) e =
    let t = plain_token bs in
    let r : token_front AfterInclude bs ≡ t = rw e refl in
    longest_is AfterInclude bs t.0 t.1 (length bs) f.some f.room (rw (not_header bs t e t.1 (omega arith) f.room) f.kind) (λ m x l. none_longer AfterInclude bs m (subst (λ k. k.1 < m) (sym r) x) l)
include_plain bs (inr f) e =
    let t = plain_token bs in
    let o = ap (λ k. k.1) f.is in
    longest_none AfterInclude bs (length bs) (λ m x l. rw (not_header bs t e m (omega (arith, o)) l) (f.none m x l)) ∙ sym f.is

include_law : (bs : List ℕ) → longest_token AfterInclude bs ≡ token_front AfterInclude bs
include_law bs =
    let t = plain_token bs in
    elim (cases_Bool (leb t.1 (header_len bs))) [
      | inl e ↦ (let r : (HeaderName, header_len bs) ≡ token_front AfterInclude bs = rw e refl in found_law AfterInclude bs (subst (IsFound AfterInclude bs) r (header_found bs t (header_some bs (known bs)) e)))
      | inr e ↦ (let r : t ≡ token_front AfterInclude bs = rw e refl in include_plain bs (known bs) e ∙ r)
    ]

at_start : (place : Place) → (place ≡ AfterInclude → ⊥) → (text : List ℕ) → kind_at place text ≡ plain_kind text
at_start Start f text = refl
at_start AfterHash f text = refl
at_start Elsewhere f text = refl
at_start AfterInclude f text = absurd (f refl)

same_within : (place : Place) → (place ≡ AfterInclude → ⊥) → (text : List ℕ) (n : ℕ) → longest_within place text n ≡ longest_within Start text n
unfolding longest_within
same_within place f text zero = refl
same_within place f text (suc n) =
    ap (λ k. or_shorter (suc n) k (longest_within place text n)) (at_start place f (take (suc n) text)) ∙ ap (λ t. or_shorter (suc n) (plain_kind (take (suc n) text)) t) (same_within place f text n)

-- the longest front that the grammar has is the one that the scanner finds
pub token_law : (place : Place) (bs : List ℕ) → longest_token place bs ≡ token_front place bs
token_law Start bs = plain_law bs (known bs)
token_law AfterHash bs = same_within AfterHash (λ e. absurd (cc)) bs (length bs) ∙ plain_law bs (known bs)
token_law Elsewhere bs = same_within Elsewhere (λ e. absurd (cc)) bs (length bs) ∙ plain_law bs (known bs)
token_law AfterInclude bs = include_law bs

-- ---- properties of the longest front

pub grammar_longest : (place : Place) (bs : List ℕ) → spec.IsLongest place bs
grammar_longest place bs m h l = no_token place (take m bs) (front_longest place bs m (subst (λ t. t.1 < m) (token_law place bs) h) l)

pub grammar_whole : (place : Place) (bs : List ℕ) → spec.IsWholeFront place bs
grammar_whole place bs h =
    let w = front_whole place bs h in
    subst (λ t. spec.IsWhole t bs) (sym (token_law place bs)) (record { some = w.some; room = w.room; token = of_kind (token_front place bs).0 (take (token_front place bs).1 bs) w.token })

other_step : (n : ℕ) (o : Option Kind) (t : Kind × ℕ) → (o ≡ Some Other → ⊥) → (or_shorter n o t).0 ≡ Other → (o ≡ None) × (t.0 ≡ Other)
other_step n None t f h = (refl, h)
other_step n (Some k) t f h = absurd (f (ap Some h))

other_none : (place : Place) (text : List ℕ) (l : ℕ) → (longest_within place text l).0 ≡ Other → (m : ℕ) → 0 < m → m ≤ l → kind_at place (take m text) ≡ None
unfolding longest_within
other_none place text zero h m p r = absurd (omega arith)
other_none place text (suc l) h m p r =
    let q = other_step (suc l) (kind_at place (take (suc l) text)) (longest_within place text l) (at_other place (take (suc l) text)) h in
    elim (cases_lt m (suc l)) [
      | inl b ↦ other_none place text l q.1 m p (omega arith)
      | inr b ↦ (let e : m ≡ suc l = omega arith in subst (λ j. kind_at place (take j text) ≡ None) (sym e) q.0)
    ]

pub grammar_other : (place : Place) (bs : List ℕ) → spec.IsOtherAlone place bs
grammar_other place bs h m p r = no_at place (take m bs) (other_none place bs (length bs) h m p r)
