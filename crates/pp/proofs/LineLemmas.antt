-- The effect of #line on the state.
use Rattle.std.proofs.Common.{◌≡◌, ◌<◌, ◌≤◌, inl, inr, ℕ, suc, ◌+◌, ◌*◌, ◌-◌, take, get_or, Result, List, [], ◌∷◌, length, drop, Bool, true, false, Some, None, refl, sym, ap, subst, ◌∙◌, arith}
use Rattle.std.specs.Prelude.{nat_le, ◌&&◌, if◌then◌else◌, slice_get, slice_index_or}
use Rattle.std.specs.List.{list_all}
use Rattle.std.proofs.lemmas.Bool.{leb-true}
use Rattle.std.proofs.lemmas.List.{drop_more}
use Rattle.srcset.specs.declared.refusal.Pos.{Pos}
use Rattle.srcset.specs.declared.code.Code.TheVariants as code
use Rattle.srcset.specs.NameTable.{Texts, KeepsNumbers, NumbersOnce}
use Rattle.phases.specs.Characters.{is_digit}
use Rattle.phases.specs.Token.{Token}
use Rattle.lexer.specs.Digits.{digit_value, value_behind, value_of}
use Rattle.macros.specs.Table.{IsTable}
use Rattle.macros.proofs.TableLemmas.{table_grows}
use Rattle.pp.specs.declared.state.State.{State as Held}
use Rattle.pp.specs.Phase4.{State, ◌>>=◌, expand, presume, line_done, goes, stops, fails, is_line_number, is_file_text, inside, numbered, number_in, line_made}
use Rattle.pp.specs.Held.{presumed_of, IsGiven, Agrees}
use Rattle.pp.specs.inside.Stepping.{placed, Goes, GivesFirst, Stops, StopsAs, Answers, Does, IsNextDigit, IsLineNumber}
use Rattle.srcset.specs.declared.refusal.Refusal.{Refusal}
use Rattle.srcset.specs.declared.refusal.Refusal.TheVariants.{At}
use Rattle.pp_expand.specs.Expansion.{of_directive}
use Rattle.pp.proofs.StateLemmas.{true-false, expand_given}
use Rattle.pp.proofs.FileLemmas.{stops_all}
use Rattle.pp.proofs.ConditionLemmas.{first_rest, rest_one}
use Rattle.pp.proofs.PhaseLemmas.{number_kept}

-- ---- the number

high_behind : (high : ℕ) (bs : List ℕ) → high ≤ value_behind 10 high bs
high_behind high [] = omega arith
high_behind high (b ∷ bs) = let h = high_behind (high * 10 + digit_value b) bs in omega (arith, h)

not_both : (a b : Bool) → b ≡ false → (a && b) ≡ false
not_both true b e = e
not_both false b e = refl

not_first : (a b c : Bool) → a ≡ false → (a && b && c) ≡ false
not_first true b c e = absurd (true-false e)
not_first false b c e = refl

not_last : (a b c : Bool) → c ≡ false → (a && b && c) ≡ false
not_last true true c e = e
not_last true false c e = refl
not_last false b c e = refl

no_le : (a b : ℕ) (t : Bool) → nat_le a b ≡ t → b < a → t ≡ false
no_le a b true e h = let x = leb-true a b e in absurd (omega (arith, x, h))
no_le a b false e h = refl

pub too_high : (text : List ℕ) (high : ℕ) (bs : List ℕ) → value_of 10 text ≡ value_behind 10 high bs → 2147483647 < high → is_line_number text ≡ false
too_high text high bs e h =
    let low = high_behind high bs in
    not_last (list_all is_digit text) (nat_le 1 (value_of 10 text)) (nat_le (value_of 10 text) 2147483647)
    (no_le (value_of 10 text) 2147483647 (nat_le (value_of 10 text) 2147483647) refl (omega (arith, low, e, h)))

pub no_number : (text : List ℕ) (value b : ℕ) (bs : List ℕ) → list_all is_digit text ≡ (is_digit b && list_all is_digit bs) → value_of 10 text ≡ value_behind 10 (value * 10 + digit_value b) bs
    → IsNextDigit None value b → is_line_number text ≡ false
no_number text value b bs digits number (inl e) =
    not_first (list_all is_digit text) (nat_le 1 (value_of 10 text)) (nat_le (value_of 10 text) 2147483647) (digits ∙ ap (λ t. t && list_all is_digit bs) e)
no_number text value b bs digits number (inr h) = too_high text (value * 10 + digit_value b) bs number h

-- ---- the new places

if_true : {A : Type 0} (b : Bool) (u v : A) → b ≡ true → (if b then u else v) ≡ u
if_true b u v e = ap (λ c. if c then u else v) e

if_false : {A : Type 0} (b : Bool) (u v : A) → b ≡ false → (if b then u else v) ≡ v
if_false b u v e = ap (λ c. if c then u else v) e

pub same_file : (texts names : Texts) (held new : Held) (end line : ℕ) (at : Pos) (number : Token) (s : State)
    → new ≡ record held { presumed = record { behind = end; line = line; file = held.presumed.file } }
    → IsLineNumber (Some line) number.spelling → Agrees names held s → Goes names new (line_made texts end at (number ∷ [], s))
same_file texts names held new end line at number s n l a = record {
  after = record s { presumed = record { from = suc end; line = line; file = held.presumed.file } };
  agrees = record {
    table_is = subst (λ (h : Held). IsTable names h.table s.macros) (sym n) a.table_is;
    left_is = a.left_is ∙ ap (λ (h : Held). h.budget) (sym n);
    given_is = subst (λ (h : Held). IsGiven h.given s.given) (sym n) a.given_is;
    presumed_is = ap (λ (h : Held). presumed_of h.presumed) (sym n);
  };
  goes_is = if_true (is_line_number number.spelling) (numbered end number.spelling s.presumed.file s) (fails s code.BadLineDirective at) l.0
      ∙ ap (λ k. goes (record s { presumed = record { from = suc end; line = k; file = s.presumed.file } })) l.1
      ∙ ap (λ p. goes (record s { presumed = record { from = suc end; line = line; file = p.file } })) a.presumed_is;
}

both_true : (a b : Bool) → a ≡ true → b ≡ true → (a && b) ≡ true
both_true true b x y = y
both_true false b x y = x

pub new_file : (texts names after : Texts) (held new : Held) (end line file : ℕ) (at : Pos) (number name : Token) (s : State)
    → new ≡ record held { presumed = record { behind = end; line = line; file = file } } → KeepsNumbers names after → NumbersOnce after → KeepsNumbers after texts
    → IsLineNumber (Some line) number.spelling → is_file_text name ≡ true → slice_get after file ≡ Some (inside name.spelling) → Agrees names held s
    → Goes after new (line_made texts end at (number ∷ name ∷ [], s))
new_file texts names after held new end line file at number name s n keeps once later l f e a =
    let number_is = number_kept after texts (inside name.spelling) file once later e in
    record {
      after = record s { presumed = record { from = suc end; line = line; file = file } };
      agrees = record {
        table_is = table_grows names after new.table s.macros keeps once (subst (λ (h : Held). IsTable names h.table s.macros) (sym n) a.table_is);
        left_is = a.left_is ∙ ap (λ (h : Held). h.budget) (sym n);
        given_is = subst (λ (h : Held). IsGiven h.given s.given) (sym n) a.given_is;
        presumed_is = ap (λ (h : Held). presumed_of h.presumed) (sym n);
      };
      goes_is = if_true (is_line_number number.spelling && is_file_text name) (numbered end number.spelling (number_in texts (inside name.spelling)) s) (fails s code.BadLineDirective at) (both_true (is_line_number number.spelling) (is_file_text name) l.0 f)
          ∙ ap (λ k. goes (record s { presumed = record { from = suc end; line = k; file = number_in texts (inside name.spelling) } })) l.1
          ∙ ap (λ k. goes (record s { presumed = record { from = suc end; line = line; file = k } })) number_is;
    }

pub bad_file : (texts : Texts) (end : ℕ) (at : Pos) (number name : Token) (s : State) → is_file_text name ≡ false
    → Stops s.given code.BadLineDirective at [] (line_made texts end at (number ∷ name ∷ [], s))
bad_file texts end at number name s f = record {
  stops_is = if_false (is_line_number number.spelling && is_file_text name) (numbered end number.spelling (number_in texts (inside name.spelling)) s) (fails s code.BadLineDirective at)
      (not_both (is_line_number number.spelling) (is_file_text name) f);
}

pub more_tokens : (texts : Texts) (end : ℕ) (at : Pos) (number : Token) (further : List Token) (s : State) → 2 ≤ length further
    → Stops s.given code.BadLineDirective at [] (line_made texts end at (number ∷ further, s))
more_tokens texts end at number [] s h = absurd (omega (arith, h))
more_tokens texts end at number (a ∷ []) s h = absurd (omega (arith, h))
more_tokens texts end at number (a ∷ b ∷ rest) s h = record { stops_is = refl }

no_line : (texts : Texts) (end : ℕ) (at : Pos) (number : Token) (further : List Token) (s : State) → is_line_number number.spelling ≡ false
    → Stops s.given code.BadLineDirective at [] (line_made texts end at (number ∷ further, s))
no_line texts end at number [] s h = record {
  stops_is = if_false (is_line_number number.spelling) (numbered end number.spelling s.presumed.file s) (fails s code.BadLineDirective at) h;
}
no_line texts end at number (a ∷ []) s h = record {
  stops_is = ap (λ b. if b && is_file_text a then numbered end number.spelling (number_in texts (inside a.spelling)) s else fails s code.BadLineDirective at) h;
}
no_line texts end at number (a ∷ b ∷ rest) s h = record { stops_is = refl }

pub bad_tokens : (texts : Texts) (end : ℕ) (at : Pos) (list : List Token) (s : State) → length list < 1 → Stops s.given code.BadLineDirective at [] (line_made texts end at (list, s))
bad_tokens texts end at [] s h = record { stops_is = refl }
bad_tokens texts end at (a ∷ rest) s h = absurd (omega (arith, h))

pub bad_number : (texts : Texts) (end : ℕ) (at : Pos) (list further : List Token) (number : Token) (s : State) → list ≡ number ∷ further → is_line_number number.spelling ≡ false
    → Stops s.given code.BadLineDirective at [] (line_made texts end at (list, s))
bad_number texts end at list further number s e h =
    subst (λ l. Stops s.given code.BadLineDirective at [] (line_made texts end at (l, s))) (sym e) (no_line texts end at number further s h)

-- ---- the whole directive

line_is : (texts names : Texts) (held : Held) (raw tokens : List Token) (end : ℕ) (at : Pos) (s : State) → Agrees names held s → tokens ≡ placed (presumed_of held.presumed) raw
    → line_done texts end at (presume s raw) s ≡ (expand texts tokens of_directive s >>= line_made texts end at)
unfolding line_done
line_is texts names held raw tokens end at s a e =
    ap (λ p. expand texts (placed p raw) of_directive s >>= line_made texts end at) a.presumed_is
    ∙ ap (λ ts. expand texts ts of_directive s >>= line_made texts end at) (sym e)

pub line_stops : (r : Refusal) (texts names : Texts) (held : Held) (raw tokens : List Token) (end : ℕ) (at : Pos) (s : State) → Agrees names held s → tokens ≡ placed (presumed_of held.presumed) raw
    → StopsAs s.given names r (expand texts tokens of_directive s) → StopsAs s.given names r (line_done texts end at (presume s raw) s)
line_stops r texts names held raw tokens end at s a e st =
    stops_all s.given names r (expand texts tokens of_directive s) (line_done texts end at (presume s raw) s) (line_made texts end at) (line_is texts names held raw tokens end at s a e) st

line_first : (texts : Texts) (end : ℕ) (at : Pos) (whole : List Token) (s : State) → line_made texts end at (whole, s) ≡ line_made texts end at (take 3 whole, s)
line_first texts end at [] s = refl
line_first texts end at (n ∷ []) s = refl
line_first texts end at (n ∷ f ∷ []) s = refl
line_first texts end at (n ∷ f ∷ x ∷ rest) s = refl

-- the first three tokens determine its effect
line_made_first : (texts names : Texts) (new : Held) (raw tokens list : List Token) (end : ℕ) (at : Pos) (s : State) (g : GivesFirst 3 list names new (expand texts tokens of_directive s))
    → (expand texts tokens of_directive s >>= line_made texts end at) ≡ line_made texts end at (list, g.gives.after)
line_made_first texts names new raw tokens list end at s g =
    ap (λ k. k >>= line_made texts end at) g.gives.gives_is ∙ line_first texts end at g.whole g.gives.after
    ∙ ap (λ (l : List Token). line_made texts end at (l, g.gives.after)) (sym g.first_is)

pub line_bad : (r : Refusal) (texts names : Texts) (held new : Held) (raw tokens list : List Token) (end : ℕ) (at : Pos) (s : State) → Agrees names held s → tokens ≡ placed (presumed_of held.presumed) raw
    → r ≡ At code.BadLineDirective at → GivesFirst 3 list names new (expand texts tokens of_directive s) → ((s : State) → Stops s.given code.BadLineDirective at [] (line_made texts end at (list, s)))
    → StopsAs s.given names r (line_done texts end at (presume s raw) s)
line_bad r texts names held new raw tokens list end at s a e is g bad =
    subst (λ r. StopsAs s.given names r (line_done texts end at (presume s raw) s)) (sym is)
    (record {
      stops_is = line_is texts names held raw tokens end at s a e ∙ line_made_first texts names new raw tokens list end at s g ∙ (bad g.gives.after).stops_is
          ∙ ap (λ (l : List Token). stops l (record { code = code.BadLineDirective; at = at; text = [] })) (expand_given texts tokens of_directive s (g.whole, g.gives.after) g.gives.gives_is);
    })

pub line_answers : {A : Type 0} (result : Result A Refusal) (texts names after : Texts) (held mid new : Held) (raw tokens list : List Token) (end : ℕ) (at : Pos) (s : State) → Agrees names held s → tokens ≡ placed (presumed_of held.presumed) raw
    → GivesFirst 3 list names mid (expand texts tokens of_directive s) → Does result names mid after new (λ s. line_made texts end at (list, s))
    → Answers s.given result after new (line_done texts end at (presume s raw) s)
line_answers result texts names after held mid new raw tokens list end at s a e g does =
    subst (Answers s.given result after new) (sym (line_is texts names held raw tokens end at s a e ∙ line_made_first texts names mid raw tokens list end at s g))
    (subst (λ l. Answers l result after new (line_made texts end at (list, g.gives.after))) (expand_given texts tokens of_directive s (g.whole, g.gives.after) g.gives.gives_is) (does g.gives.after g.gives.agrees))

pub whole_list : (ts list : List Token) (x : Token) → ts ≡ list → 1 ≤ length ts → x ≡ slice_index_or ts 0 x → list ≡ x ∷ take (length ts - 1) (drop 1 ts)
whole_list ts list x e n p = sym e ∙ first_rest ts x n p ∙ ap (λ l. x ∷ l) (sym (rest_one ts))

-- ---- along the digits

digits_step : (text : List ℕ) (i : ℕ) → i < length text → list_all is_digit (drop i text) ≡ (is_digit (get_or text i 0) && list_all is_digit (drop (i + 1) text))
digits_step text i h = ap (list_all is_digit) (drop_more text i 0 h)

number_step : (text : List ℕ) (high i : ℕ) → i < length text → value_behind 10 high (drop i text) ≡ value_behind 10 (high * 10 + digit_value (get_or text i 0)) (drop (i + 1) text)
number_step text high i h = ap (value_behind 10 high) (drop_more text i 0 h)

pub no_digit : (text : List ℕ) (value i : ℕ) → i < length text → list_all is_digit text ≡ list_all is_digit (drop i text) → value_behind 10 0 text ≡ value_behind 10 value (drop i text)
    → IsNextDigit None value (get_or text i 0) → is_line_number text ≡ false
no_digit text value i h digits number n =
    no_number text value (get_or text i 0) (drop (i + 1) text) (digits ∙ digits_step text i h) (number ∙ number_step text value i h) n
