-- Lemmas on carrying tokens.
use Rattle.std.proofs.Common.{◌≡◌, ℕ, Bool, true, false, not, Option, Some, None, Result, Ok, Err, ◌⊎◌, inl, inr, OnErr, IfErr, List, [], ◌∷◌, ◌++◌, slice_get, refl, sym, ap, ◌∙◌, subst, append_assoc, append-nil}
use Rattle.srcset.specs.declared.code.Code.{Code}
use Rattle.srcset.specs.declared.refusal.Pos.{Pos}
use Rattle.srcset.specs.declared.refusal.Refusal.{Refusal}
use Rattle.srcset.specs.declared.refusal.Refusal.TheVariants.{Memory, At}
use Rattle.phases.specs.Token.{Token as PpToken}
use Rattle.srcset.specs.NameTable.{Texts, with_text, KeepsNumbers}
use Rattle.lexer.specs.declared.token.Kind.{Kind}
use Rattle.lexer.specs.declared.token.Kind.TheVariants.{Keyword, Identifier, Constant, StringLiteral, Punctuator}
use Rattle.lexer.specs.declared.token.Token.{Token}
use Rattle.lexer.specs.declared.lexing.Stored.{Stored}
use Rattle.phases.specs.declared.token.Kind.{Kind as PpKind}
use Rattle.phases.specs.declared.token.Kind.TheVariants as pp
use Rattle.lexer.specs.declared.token.Keyword.{Keyword as Word}
use Rattle.lexer.specs.declared.token.Punctuator.{Punctuator as Mark}
use Rattle.lexer.specs.declared.numbers.Constant.{Constant as Number}
use Rattle.lexer.specs.Words.{keyword_of, left_out_of, identifier, word_as}
use Rattle.lexer.specs.Punctuators.{mark_as, punctuator_of}
use Rattle.lexer.specs.Numbers.{number}
use Rattle.lexer.specs.Literals.{character, string}
use Rattle.lexer.specs.inside.Decoding.{IsRefusal}
use Rattle.lexer.specs.Meanings.{Meaning, keyword, name, constant, text, punctuator, CToken}
use Rattle.lexer.specs.CTokens.{CTokens, nothing, join, before, put, as_constant, as_text, meaning}
use Rattle.lexer.specs.Numbering.{IsKindOf, IsTokenOf, AreTokensOf, texts_in, texts_of, with_texts, AreAll, TakesUp}
use Rattle.lexer.specs.Reading.{is_text}
use Rattle.lexer.specs.inside.Carrying.{pending_before, begins_text, has_no_text, is_string, IsKindFor, with_meaning, IsPushed, Carries, Passes, Closes, Stops, StopsClosing}

-- a longer table shows the same
kind_kept : (old new : Texts) → KeepsNumbers old new → (m : Meaning) (k : Kind) → IsKindOf old m k → IsKindOf new m k
kind_kept old new keeps (keyword x) (Keyword y) h = h
kind_kept old new keeps (name s) (Identifier n) h = keeps n s h
kind_kept old new keeps (constant t v) (Constant u w) h = h
kind_kept old new keeps (text bytes) (StringLiteral n) h = keeps n (bytes ++ 0 ∷ []) h
kind_kept old new keeps (punctuator x) (Punctuator y) h = h
kind_kept old new keeps m k h = absurd h

pub tokens_kept : (old new : Texts) → KeepsNumbers old new → (cs : List CToken) (ts : List Token) → AreTokensOf old cs ts → AreTokensOf new cs ts
tokens_kept old new keeps [] [] h = tt
tokens_kept old new keeps [] (t ∷ ts) h = absurd h
tokens_kept old new keeps (c ∷ cs) [] h = absurd h
tokens_kept old new keeps (c ∷ cs) (t ∷ ts) h = ((kind_kept old new keeps c.meaning t.kind h.0.0, h.0.1), tokens_kept old new keeps cs ts h.1)

-- one more token
tokens_pushed : (texts : Texts) (cs : List CToken) (ts : List Token) (c : CToken) (t : Token) → AreTokensOf texts cs ts → IsTokenOf texts c t → AreTokensOf texts (cs ++ c ∷ []) (ts ++ t ∷ [])
tokens_pushed texts [] [] c t h p = (p, tt)
tokens_pushed texts [] (u ∷ ts) c t h p = absurd h
tokens_pushed texts (d ∷ cs) [] c t h p = absurd h
tokens_pushed texts (d ∷ cs) (u ∷ ts) c t h p = (h.0, tokens_pushed texts cs ts c t h.1 p)

texts_append : (cs ds : List CToken) → texts_of (cs ++ ds) ≡ texts_of cs ++ texts_of ds
texts_append [] ds = refl
texts_append (c ∷ cs) ds = ap (λ x. texts_in c.meaning ++ x) (texts_append cs ds) ∙ sym (append_assoc (texts_in c.meaning) (texts_of cs) (texts_of ds))

texts_pushed : (cs : List CToken) (c : CToken) → texts_of (cs ++ c ∷ []) ≡ texts_of cs ++ texts_in c.meaning
texts_pushed cs c = texts_append cs (c ∷ []) ∙ ap (λ x. texts_of cs ++ x) (append-nil (texts_in c.meaning))

pub with_append : (texts : Texts) (ss us : List (List ℕ)) → with_texts texts (ss ++ us) ≡ with_texts (with_texts texts ss) us
with_append texts [] us = refl
with_append texts (s ∷ ss) us = with_append (with_text texts s) ss us

with_pushed : (old texts texts' : Texts) (done : List CToken) (c : CToken) → texts ≡ with_texts old (texts_of done) → texts' ≡ with_texts texts (texts_in c.meaning) → texts' ≡ with_texts old (texts_of (done ++ c ∷ []))
with_pushed old texts texts' done c e f =
    f ∙ ap (λ x. with_texts x (texts_in c.meaning)) e ∙ sym (with_append old (texts_of done) (texts_in c.meaning)) ∙ ap (with_texts old) (sym (texts_pushed done c))

-- a token that is no string literal joins nothing
pub before_no_text : (c : CToken) (cs : List CToken) → is_text c.meaning ≡ false → before c cs ≡ c ∷ cs
before_no_text c [] e = refl
before_no_text c (d ∷ ds) e = by c.meaning e
  where
    by : (m : Meaning) → is_text m ≡ false → join m d.meaning c d ds ≡ c ∷ d ∷ ds
    by (keyword x) e = refl
    by (name s) e = refl
    by (constant t v) e = refl
    by (text bytes) e = absurd (cc)
    by (punctuator x) e = refl

-- nor is it joined
text_before : (bytes : List ℕ) (p : Pos) (cs : List CToken) → begins_text cs ≡ false → before (record { meaning = text bytes; pos = p }) cs ≡ record { meaning = text bytes; pos = p } ∷ cs
text_before bytes p [] e = refl
text_before bytes p (d ∷ ds) e = by d.meaning e
  where
    by : (m : Meaning) → is_text m ≡ false → join (text bytes) m (record { meaning = text bytes; pos = p }) d ds ≡ record { meaning = text bytes; pos = p } ∷ d ∷ ds
    by (keyword x) e = refl
    by (name s) e = refl
    by (constant t v) e = refl
    by (text bytes) e = absurd (cc)
    by (punctuator x) e = refl

begins_no_text : (c : CToken) (cs : List CToken) → is_text c.meaning ≡ false → begins_text (before c cs) ≡ false
begins_no_text c cs e = ap begins_text (before_no_text c cs e) ∙ e

-- no token but a string literal means a text
no_text_identifier : (o : Option Code) (s : List ℕ) → has_no_text (identifier o s) ≡ true
no_text_identifier None s = refl
no_text_identifier (Some code) s = refl

no_text_word : (o : Option Word) (s : List ℕ) → has_no_text (word_as o s) ≡ true
no_text_word None s = no_text_identifier (left_out_of s) s
no_text_word (Some k) s = refl

no_text_constant : (r : Result Number Code) → has_no_text (as_constant r) ≡ true
no_text_constant (Ok c) = refl
no_text_constant (Err code) = refl

no_text_mark : (o : Option Mark) → has_no_text (mark_as o) ≡ true
no_text_mark None = refl
no_text_mark (Some x) = refl

pub no_text : (k : PpKind) (s : List ℕ) → is_string k ≡ false → has_no_text (meaning k s) ≡ true
no_text pp.Identifier s e = no_text_word (keyword_of s) s
no_text pp.Number s e = no_text_constant (number s)
no_text pp.CharacterConstant s e = no_text_constant (character s)
no_text pp.StringLiteral s e = absurd (cc)
no_text pp.HeaderName s e = refl
no_text pp.Punctuator s e = no_text_mark (punctuator_of s)
no_text pp.Other s e = refl

not_false : (b : Bool) → not b ≡ true → b ≡ false
not_false true e = sym e
not_false false e = refl

begins_after : (pos : Pos) (r : Result Meaning Code) (rest : CTokens) → has_no_text r ≡ true → begins_text (put pos r rest).tokens ≡ false
begins_after pos (Ok m) rest e = begins_no_text (record { meaning = m; pos = pos }) rest.tokens (not_false (is_text m) e)
begins_after pos (Err code) rest e = refl

-- the table has taken up the texts of the carried tokens
pub takes_up : (old texts : Texts) (stored : Stored) (rest total : CTokens) → Carries old texts stored rest total → TakesUp old texts total.tokens
takes_up old texts stored rest total q = record { front = q.done; back = pending_before stored.pending stored.bytes.items rest.tokens; splits = q.tokens_are; texts_are = q.texts_are }

-- a string literal that is complete becomes a token
total_closed : (texts : Texts) (stored : Stored) (p : Pos) (old : Texts) (rest total : CTokens) → stored.pending ≡ Some p → begins_text rest.tokens ≡ false → (q : Carries old texts stored rest total) → total.tokens ≡ (q.done ++ record { meaning = text stored.bytes.items; pos = p } ∷ []) ++ rest.tokens
total_closed texts stored p old rest total e b q =
    let c : CToken = record { meaning = text stored.bytes.items; pos = p } in
    q.tokens_are ∙ ap (λ x. q.done ++ pending_before x stored.bytes.items rest.tokens) e ∙ ap (λ x. q.done ++ x) (text_before stored.bytes.items p rest.tokens b) ∙ sym (append_assoc q.done (c ∷ []) rest.tokens)

pub closes_stops : (texts texts' : Texts) (stored : Stored) (p : Pos) → stored.pending ≡ Some p → texts' ≡ with_text texts (stored.bytes.items ++ 0 ∷ []) → StopsClosing texts stored texts'
closes_stops texts texts' stored p e w = λ old rest total b q.
    let c : CToken = record { meaning = text stored.bytes.items; pos = p } in
    record { front = q.done ++ c ∷ []; back = rest.tokens; splits = total_closed texts stored p old rest total e b q; texts_are = with_pushed old texts texts' q.done c q.texts_are w }

pub closes : (texts texts' : Texts) (stored stored' : Stored) (p : Pos) (n : ℕ) → stored.pending ≡ Some p → stored'.pending ≡ None → stored'.tokens.items ≡ stored.tokens.items ++ record { kind = StringLiteral n; pos = p } ∷ [] → slice_get texts' n ≡ Some (stored.bytes.items ++ 0 ∷ []) → KeepsNumbers texts texts' → texts' ≡ with_text texts (stored.bytes.items ++ 0 ∷ []) → Closes texts stored texts' stored'
closes texts texts' stored stored' p n e f g at keeps w = λ old rest total b q.
    let c : CToken = record { meaning = text stored.bytes.items; pos = p } in
    let t : Token = record { kind = StringLiteral n; pos = p } in
    record {
      done = q.done ++ c ∷ [];
      done_is = subst (AreTokensOf texts' (q.done ++ c ∷ [])) (sym g) (tokens_pushed texts' q.done stored.tokens.items c t (tokens_kept texts texts' keeps q.done stored.tokens.items q.done_is) (at, refl));
      texts_are = with_pushed old texts texts' q.done c q.texts_are w;
      tokens_are = total_closed texts stored p old rest total e b q ∙ sym (ap (λ x. (q.done ++ c ∷ []) ++ pending_before x stored'.bytes.items rest.tokens) f);
      fault_is = q.fault_is;
    }

-- a token that is no string literal is appended
total_pushed : (texts : Texts) (stored : Stored) (pos : Pos) (m : Meaning) (old : Texts) (rest total : CTokens) → stored.pending ≡ None → is_text m ≡ false → (q : Carries old texts stored (put pos (Ok m) rest) total) → total.tokens ≡ (q.done ++ record { meaning = m; pos = pos } ∷ []) ++ rest.tokens
total_pushed texts stored pos m old rest total e b q =
    let c : CToken = record { meaning = m; pos = pos } in
    q.tokens_are ∙ ap (λ x. q.done ++ pending_before x stored.bytes.items (before c rest.tokens)) e ∙ ap (λ x. q.done ++ x) (before_no_text c rest.tokens b) ∙ sym (append_assoc q.done (c ∷ []) rest.tokens)

pub pushes : (texts texts' : Texts) (stored stored' : Stored) (pos : Pos) (r : Result Meaning Code) (k : Kind) → stored.pending ≡ None → has_no_text r ≡ true → IsKindFor texts' r k → texts' ≡ with_meaning texts r → KeepsNumbers texts texts' → IsPushed stored stored' (record { kind = k; pos = pos }) → (old : Texts) (rest total : CTokens) → Carries old texts stored (put pos r rest) total → Carries old texts' stored' rest total
pushes texts texts' stored stored' pos (Err code) k e b i w keeps g = absurd i
pushes texts texts' stored stored' pos (Ok m) k e b i w keeps g = λ old rest total q.
    let c : CToken = record { meaning = m; pos = pos } in
    let t : Token = record { kind = k; pos = pos } in
    let f : stored'.pending ≡ None = g.pending_is ∙ e in
    record {
      done = q.done ++ c ∷ [];
      done_is = subst (AreTokensOf texts' (q.done ++ c ∷ [])) (sym g.tokens_are) (tokens_pushed texts' q.done stored.tokens.items c t (tokens_kept texts texts' keeps q.done stored.tokens.items q.done_is) (i, refl));
      texts_are = with_pushed old texts texts' q.done c q.texts_are w;
      tokens_are = total_pushed texts stored pos m old rest total e (not_false (is_text m) b) q ∙ sym (ap (λ x. (q.done ++ c ∷ []) ++ pending_before x stored'.bytes.items rest.tokens) f);
      fault_is = q.fault_is;
    }

pub pushes_stops : (texts texts' : Texts) (stored : Stored) (pos : Pos) (r : Result Meaning Code) → stored.pending ≡ None → has_no_text r ≡ true → texts' ≡ with_meaning texts r → (old : Texts) (rest total : CTokens) → Carries old texts stored (put pos r rest) total → TakesUp old texts' total.tokens
pushes_stops texts texts' stored pos (Err code) e b w = λ old rest total q. subst (λ x. TakesUp old x total.tokens) (sym w) (takes_up old texts stored (put pos (Err code) rest) total q)
pushes_stops texts texts' stored pos (Ok m) e b w = λ old rest total q.
    let c : CToken = record { meaning = m; pos = pos } in
    record { front = q.done ++ c ∷ []; back = rest.tokens; splits = total_pushed texts stored pos m old rest total e (not_false (is_text m) b) q; texts_are = with_pushed old texts texts' q.done c q.texts_are w }

-- where all tokens are read
pub all_read : (old texts : Texts) (stored : Stored) (total : CTokens) → stored.pending ≡ None → Carries old texts stored nothing total → AreAll old texts total stored.tokens.items
all_read old texts stored total e q =
    let d : total.tokens ≡ q.done = q.tokens_are ∙ ap (λ x. q.done ++ pending_before x stored.bytes.items []) e ∙ append-nil q.done in
    record {
      no_fault = q.fault_is;
      tokens_are = subst (λ x. AreTokensOf texts x stored.tokens.items) (sym d) q.done_is;
      texts_are = q.texts_are ∙ ap (λ x. with_texts old (texts_of x)) (sym d);
    }

pub keeps_through : (one two three : Texts) → KeepsNumbers one two → KeepsNumbers two three → KeepsNumbers one three
keeps_through one two three p q = λ n s h. q n s (p n s h)

pub on_err_any : {X Y Q : Type 0} (r : Result X Y) → Q → OnErr r Q
on_err_any (Ok x) q = tt
on_err_any (Err e) q = q

-- ---- a token that is no string literal, which first completes the pending one

before_token : (t : PpToken) (rest : CTokens) → is_string t.kind ≡ false → begins_text (put t.pos (meaning t.kind t.spelling) rest).tokens ≡ false
before_token t rest s = begins_after t.pos (meaning t.kind t.spelling) rest (no_text t.kind t.spelling s)

pub close_stops : (texts texts' : Texts) (stored : Stored) (t : PpToken) → is_string t.kind ≡ false → StopsClosing texts stored texts' → Stops texts stored texts' t
close_stops texts texts' stored t s stops = λ old rest total q. stops old (put t.pos (meaning t.kind t.spelling) rest) total (before_token t rest s) q

pub kind_stops : (texts between texts' : Texts) (stored stored' : Stored) (t : PpToken) → is_string t.kind ≡ false → Closes texts stored between stored' → texts' ≡ between → Stops texts stored texts' t
kind_stops texts between texts' stored stored' t s closed same = λ old rest total q.
    let c = closed old (put t.pos (meaning t.kind t.spelling) rest) total (before_token t rest s) q in
    subst (λ x. TakesUp old x total.tokens) (sym same) (takes_up old between stored' (put t.pos (meaning t.kind t.spelling) rest) total c)

pub push_stops : (texts between texts' : Texts) (stored stored' : Stored) (t : PpToken) → is_string t.kind ≡ false → Closes texts stored between stored' → stored'.pending ≡ None → texts' ≡ with_meaning between (meaning t.kind t.spelling) → Stops texts stored texts' t
push_stops texts between texts' stored stored' t s closed none w = λ old rest total q.
    let c = closed old (put t.pos (meaning t.kind t.spelling) rest) total (before_token t rest s) q in
    pushes_stops between texts' stored' t.pos (meaning t.kind t.spelling) none (no_text t.kind t.spelling s) w old rest total c

pub push_passes : (texts between texts' : Texts) (stored stored' stored'' : Stored) (t : PpToken) (k : Kind) (pos : Pos) → is_string t.kind ≡ false → Closes texts stored between stored' → stored'.pending ≡ None → IsKindFor texts' (meaning t.kind t.spelling) k → texts' ≡ with_meaning between (meaning t.kind t.spelling) → KeepsNumbers between texts' → pos ≡ t.pos → IsPushed stored' stored'' (record { kind = k; pos = pos }) → Passes texts stored texts' stored'' t
push_passes texts between texts' stored stored' stored'' t k pos s closed none i w keeps at p = λ old rest total q.
    let c = closed old (put t.pos (meaning t.kind t.spelling) rest) total (before_token t rest s) q in
    pushes between texts' stored' stored'' t.pos (meaning t.kind t.spelling) k none (no_text t.kind t.spelling s) i w keeps (subst (λ x. IsPushed stored' stored'' (record { kind = k; pos = x })) at p) old rest total c

-- the fault of a token is that of the list
pub refused : (old texts : Texts) (stored : Stored) (pos : Pos) (r : Result Meaning Code) (rest total : CTokens) (e : Refusal) → Carries old texts stored (put pos r rest) total → IsRefusal e pos r → (e ≡ Memory) ⊎ (total.fault ≡ Some e)
refused old texts stored pos (Ok m) rest total e q h = inl h
refused old texts stored pos (Err code) rest total e q h = by h
  where
    by : (e ≡ Memory) ⊎ (e ≡ At code pos) → (e ≡ Memory) ⊎ (total.fault ≡ Some e)
    by (inl x) = inl x
    by (inr x) = inr (q.fault_is ∙ ap Some (sym x))

-- ---- the refusal of a string literal

text_refused : (e : Refusal) (pos : Pos) (r : Result (List ℕ) Code) → IsRefusal e pos r → IsRefusal e pos (as_text r)
text_refused e pos (Ok bytes) h = h
text_refused e pos (Err code) h = h

string_kind : (k : PpKind) → is_string k ≡ true → k ≡ pp.StringLiteral
string_kind pp.Identifier h = absurd (cc)
string_kind pp.Number h = absurd (cc)
string_kind pp.CharacterConstant h = absurd (cc)
string_kind pp.StringLiteral h = refl
string_kind pp.HeaderName h = absurd (cc)
string_kind pp.Punctuator h = absurd (cc)
string_kind pp.Other h = absurd (cc)

pub string_refused : (t : PpToken) (k : PpKind) (pos : Pos) (s : List ℕ) → k ≡ t.kind → is_string k ≡ true → pos ≡ t.pos → s ≡ t.spelling → (r : Result (Unit {0}) Refusal) → IfErr r (λ e. IsRefusal e pos (string s)) → IfErr r (λ e. IsRefusal e t.pos (meaning t.kind t.spelling))
string_refused t k pos s a b c d (Ok x) h = tt
string_refused t k pos s a b c d (Err e) h =
    let f : t.kind ≡ pp.StringLiteral = sym a ∙ string_kind k b in
    subst (λ x. IsRefusal e t.pos (meaning x t.spelling)) (sym f) (text_refused e t.pos (string t.spelling) (subst (λ x. IsRefusal e x (string t.spelling)) c (subst (λ x. IsRefusal e pos (string x)) d h)))
