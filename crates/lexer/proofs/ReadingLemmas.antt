-- Lemmas on the tokens read of a list, one by one.
use Rattle.std.proofs.Common.{◌≡◌, ℕ, suc, Bool, true, false, not, cond, Option, Some, None, Result, Ok, Err, IfOk, OnOk, ◌+◌, ◌<◌, ◌⊎◌, inl, inr, List, [], ◌∷◌, ◌++◌, length, take, drop, get_or, slice_get, add-one, refl, sym, ap, ◌∙◌, subst, append_assoc, append-nil}
use Rattle.std.proofs.Math.Seq.{drop-cons}
use Rattle.std.proofs.lemmas.List.{take-append-drop}
use Rattle.std.proofs.lemmas.List.Folds.{list_any_at}
use Rattle.std.proofs.lemmas.Option.{slice_get_within, get_or_from_slice_get}
use Rattle.std.proofs.lemmas.Slice.Eq.{bytes_eq-Decides}
use Rattle.std.specs.List.{list_any}
use Rattle.std.specs.Str.{bytes_eq}
use Rattle.srcset.specs.declared.code.Code.{Code}
use Rattle.srcset.specs.declared.fault.Fault.{Fault}
use Rattle.srcset.specs.declared.refusal.Pos.{Pos}
use Rattle.srcset.specs.declared.refusal.Refusal.{Refusal}
use Rattle.srcset.specs.declared.refusal.Refusal.TheVariants.{Memory, At, Told}
use Rattle.srcset.specs.NameTable.{Texts, with_text, KeepsNumbers}
use Rattle.srcset.specs.Fault.{IsMemoryFault}
use Rattle.srcset.specs.Refusal.{IsFaultOfRefusal}
use Rattle.phases.specs.Token.{Token as PpToken}
use Rattle.lexer.specs.declared.token.Kind.{Kind}
use Rattle.lexer.specs.declared.token.Kind.TheVariants.{Keyword, Identifier, Constant, StringLiteral, Punctuator}
use Rattle.lexer.specs.declared.token.Token.{Token}
use Rattle.lexer.specs.declared.lexing.Stored.{Stored}
use Rattle.lexer.specs.declared.reading.Lexer.{Lexer}
use Rattle.lexer.specs.Meanings.{Meaning, keyword, name, constant, text, punctuator, CToken}
use Rattle.lexer.specs.CTokens.{CTokens, nothing, join, before, put, meaning, ctokens}
use Rattle.lexer.specs.Laws.{AreInTheirTypes, FaultStays, ToldStays, FinishedStay, ReadIsKept, ReadIsTakenUp}
use Rattle.lexer.specs.Numbering.{IsKindOf, AreTokensOf, texts_in, texts_of, with_texts, AreAll, TakesUp, IsTokenFault}
use Rattle.lexer.specs.Reading.{is_text, unfinished, finished, string_at, refusal_of, IsAt, HasRead, HasTakenUp}
use Rattle.lexer.specs.inside.Decoding.{IsRefusal}
use Rattle.lexer.specs.inside.Carrying.{pending_before, has_no_text, is_string, IsKindFor, IsPushed, Carries, Passes, Stops, StopsClosing, is_literal, ends_in_literal, IsSettled}
use Rattle.lexer.proofs.LawLemmas.{constants_law}
use Rattle.lexer.proofs.CarryLemmas.{before_no_text, no_text, tokens_kept, with_append, refused}

-- ---- the C tokens of two concatenated lists

-- where they meet, a last string literal joins a first one
abbrev joined : List CToken → List CToken → List CToken
joined [] ds = ds
joined (c ∷ []) ds = before c ds
joined (c ∷ d ∷ cs) ds = c ∷ joined (d ∷ cs) ds

join_three : (m n o : Meaning) (p q r : Pos) (es : List CToken) → before (record { meaning = m; pos = p }) (join n o (record { meaning = n; pos = q }) (record { meaning = o; pos = r }) es) ≡ joined (join m n (record { meaning = m; pos = p }) (record { meaning = n; pos = q }) []) (record { meaning = o; pos = r } ∷ es)
join_three (text a) (text b) (text x) p q r es = ap (λ bytes. record { meaning = text bytes; pos = p } ∷ es) (sym (append_assoc a b x))
join_three (text a) (text b) (keyword x) p q r es = refl
join_three (text a) (text b) (name x) p q r es = refl
join_three (text a) (text b) (constant x y) p q r es = refl
join_three (text a) (text b) (punctuator x) p q r es = refl
join_three (text a) (keyword b) o p q r es = refl
join_three (text a) (name b) o p q r es = refl
join_three (text a) (constant b v) o p q r es = refl
join_three (text a) (punctuator b) o p q r es = refl
join_three (keyword a) n o p q r es = before_no_text (record { meaning = keyword a; pos = p }) (join n o (record { meaning = n; pos = q }) (record { meaning = o; pos = r }) es) refl
join_three (name a) n o p q r es = before_no_text (record { meaning = name a; pos = p }) (join n o (record { meaning = n; pos = q }) (record { meaning = o; pos = r }) es) refl
join_three (constant a v) n o p q r es = before_no_text (record { meaning = constant a v; pos = p }) (join n o (record { meaning = n; pos = q }) (record { meaning = o; pos = r }) es) refl
join_three (punctuator a) n o p q r es = before_no_text (record { meaning = punctuator a; pos = p }) (join n o (record { meaning = n; pos = q }) (record { meaning = o; pos = r }) es) refl

join_two : (m n : Meaning) (c d : CToken) → join m n c d [] ≡ joined (join m n c d []) []
join_two (text a) (text b) c d = refl
join_two (text a) (keyword b) c d = refl
join_two (text a) (name b) c d = refl
join_two (text a) (constant b v) c d = refl
join_two (text a) (punctuator b) c d = refl
join_two (keyword a) n c d = refl
join_two (name a) n c d = refl
join_two (constant a v) n c d = refl
join_two (punctuator a) n c d = refl

join_more : (m n : Meaning) (c d e : CToken) (es ds : List CToken) → join m n c d (joined (e ∷ es) ds) ≡ joined (join m n c d (e ∷ es)) ds
join_more (text a) (text b) c d e es ds = refl
join_more (text a) (keyword b) c d e es ds = refl
join_more (text a) (name b) c d e es ds = refl
join_more (text a) (constant b v) c d e es ds = refl
join_more (text a) (punctuator b) c d e es ds = refl
join_more (keyword a) n c d e es ds = refl
join_more (name a) n c d e es ds = refl
join_more (constant a v) n c d e es ds = refl
join_more (punctuator a) n c d e es ds = refl

before_joined : (c : CToken) (cs ds : List CToken) → before c (joined cs ds) ≡ joined (before c cs) ds
before_joined c [] ds = refl
before_joined c (d ∷ []) [] = join_two c.meaning d.meaning c d
before_joined c (d ∷ []) (e ∷ es) = join_three c.meaning d.meaning e.meaning c.pos d.pos e.pos es
before_joined c (d ∷ e ∷ es) ds = join_more c.meaning d.meaning c d e es ds

-- those of the first, followed by those of the second
abbrev both : CTokens → CTokens → CTokens
both c d = record { tokens = joined c.tokens d.tokens; fault = d.fault }

put_both : (pos : Pos) (r : Result Meaning Code) (c d all : CTokens) → (c.fault ≡ None → all ≡ both c d) → (put pos r c).fault ≡ None → put pos r all ≡ both (put pos r c) d
put_both pos (Err code) c d all h e = absurd (cc)
put_both pos (Ok m) c d all h e =
    let t : CToken = record { meaning = m; pos = pos } in
    ap (put pos (Ok m)) (h e) ∙ ap (λ x. record { tokens = x; fault = d.fault }) (before_joined t c.tokens d.tokens)

both_read : (front rest : List PpToken) → (ctokens front).fault ≡ None → ctokens (front ++ rest) ≡ both (ctokens front) (ctokens rest)
both_read [] rest e = refl
both_read (t ∷ ts) rest e = put_both t.pos (meaning t.kind t.spelling) (ctokens ts) (ctokens rest) (ctokens (ts ++ rest)) (both_read ts rest) e

-- ---- the finished tokens and the unfinished one

finished_first : (cs ds : List CToken) → joined cs ds ≡ finished cs ++ joined (unfinished cs) ds
finished_first [] ds = refl
finished_first (c ∷ []) ds = by (is_text c.meaning) refl
  where
    by : (b : Bool) → is_text c.meaning ≡ b → before c ds ≡ cond b [] (c ∷ []) ++ joined (cond b (c ∷ []) []) ds
    by true e = refl
    by false e = before_no_text c ds e
finished_first (c ∷ d ∷ cs) ds = ap (λ x. c ∷ x) (finished_first (d ∷ cs) ds)

parts : (cs : List CToken) → finished cs ++ unfinished cs ≡ cs
parts [] = refl
parts (c ∷ []) = by (is_text c.meaning)
  where
    by : (b : Bool) → cond b [] (c ∷ []) ++ cond b (c ∷ []) [] ≡ c ∷ []
    by true = refl
    by false = refl
parts (c ∷ d ∷ cs) = ap (λ x. c ∷ x) (parts (d ∷ cs))

-- nothing is unfinished
all_finished : (cs : List CToken) → unfinished cs ≡ [] → finished cs ≡ cs
all_finished cs e = sym (append-nil (finished cs)) ∙ ap (λ x. finished cs ++ x) (sym e) ∙ parts cs

finished_before : (cs : List CToken) (bytes : List ℕ) (p : Pos) → finished (cs ++ record { meaning = text bytes; pos = p } ∷ []) ≡ cs
finished_before [] bytes p = refl
finished_before (c ∷ []) bytes p = refl
finished_before (c ∷ d ∷ cs) bytes p = ap (λ x. c ∷ x) (finished_before (d ∷ cs) bytes p)

unfinished_behind : (cs : List CToken) (bytes : List ℕ) (p : Pos) → unfinished (cs ++ record { meaning = text bytes; pos = p } ∷ []) ≡ record { meaning = text bytes; pos = p } ∷ []
unfinished_behind [] bytes p = refl
unfinished_behind (c ∷ []) bytes p = refl
unfinished_behind (c ∷ d ∷ cs) bytes p = unfinished_behind (d ∷ cs) bytes p

joined_pending : (o : Option Pos) (bytes : List ℕ) (ds : List CToken) → joined (string_at o bytes) ds ≡ pending_before o bytes ds
joined_pending None bytes ds = refl
joined_pending (Some p) bytes ds = refl

-- the finished and the pending tokens, where no token is to come
pending_finished : (cs : List CToken) (o : Option Pos) (bytes : List ℕ) → (o ≡ None → unfinished cs ≡ []) → finished (cs ++ pending_before o bytes []) ≡ cs
pending_finished cs None bytes h = ap finished (append-nil cs) ∙ all_finished cs (h refl)
pending_finished cs (Some p) bytes h = finished_before cs bytes p

pending_unfinished : (cs : List CToken) (o : Option Pos) (bytes : List ℕ) → (o ≡ None → unfinished cs ≡ []) → unfinished (cs ++ pending_before o bytes []) ≡ string_at o bytes
pending_unfinished cs None bytes h = ap unfinished (append-nil cs) ∙ h refl
pending_unfinished cs (Some p) bytes h = unfinished_behind cs bytes p

-- ---- tokens that end in no string literal

kind_is_text : (texts : Texts) (m : Meaning) (k : Kind) → IsKindOf texts m k → is_literal k ≡ false → is_text m ≡ false
kind_is_text texts (keyword x) (Keyword y) h e = refl
kind_is_text texts (name s) (Identifier n) h e = refl
kind_is_text texts (constant t v) (Constant u w) h e = refl
kind_is_text texts (text bytes) (StringLiteral n) h e = absurd (cc)
kind_is_text texts (punctuator x) (Punctuator y) h e = refl
kind_is_text texts m k h e = absurd h

none_unfinished : (texts : Texts) (cs : List CToken) (ts : List Token) → AreTokensOf texts cs ts → ends_in_literal ts ≡ false → unfinished cs ≡ []
none_unfinished texts [] [] h e = refl
none_unfinished texts [] (t ∷ ts) h e = absurd h
none_unfinished texts (c ∷ cs) [] h e = absurd h
none_unfinished texts (c ∷ []) (t ∷ []) h e = ap (λ b. cond b (c ∷ []) []) (kind_is_text texts c.meaning t.kind h.0.0 e)
none_unfinished texts (c ∷ []) (t ∷ u ∷ ts) h e = absurd h.1
none_unfinished texts (c ∷ d ∷ cs) (t ∷ []) h e = absurd h.1
none_unfinished texts (c ∷ d ∷ cs) (t ∷ u ∷ ts) h e = none_unfinished texts (d ∷ cs) (u ∷ ts) h.1 e

literal_pushed : (ts : List Token) (t : Token) → ends_in_literal (ts ++ t ∷ []) ≡ is_literal t.kind
literal_pushed [] t = refl
literal_pushed (u ∷ []) t = refl
literal_pushed (u ∷ v ∷ ts) t = literal_pushed (v ∷ ts) t

kind_no_literal : (texts : Texts) (m : Meaning) (k : Kind) → IsKindOf texts m k → not (is_text m) ≡ true → is_literal k ≡ false
kind_no_literal texts (keyword x) (Keyword y) h e = refl
kind_no_literal texts (name s) (Identifier n) h e = refl
kind_no_literal texts (constant t v) (Constant u w) h e = refl
kind_no_literal texts (text bytes) (StringLiteral n) h e = absurd (cc)
kind_no_literal texts (punctuator x) (Punctuator y) h e = refl
kind_no_literal texts m k h e = absurd h

kind_for_no_literal : (texts : Texts) (r : Result Meaning Code) (k : Kind) → IsKindFor texts r k → has_no_text r ≡ true → is_literal k ≡ false
kind_for_no_literal texts (Err code) k h e = absurd h
kind_for_no_literal texts (Ok m) k h e = kind_no_literal texts m k h e

-- a token that is no string literal is appended
pub push_ends : (texts : Texts) (old new : Stored) (t : PpToken) (k : Kind) (pos : Pos) → is_string t.kind ≡ false → IsKindFor texts (meaning t.kind t.spelling) k → IsPushed old new (record { kind = k; pos = pos }) → ends_in_literal new.tokens.items ≡ false
push_ends texts old new t k pos s i p =
    ap ends_in_literal p.tokens_are ∙ literal_pushed old.tokens.items (record { kind = k; pos = pos }) ∙ kind_for_no_literal texts (meaning t.kind t.spelling) k i (no_text t.kind t.spelling s)

-- ---- texts that the table has

has_text : (texts : Texts) (s : List ℕ) (n : ℕ) → slice_get texts n ≡ Some s → list_any (bytes_eq s) texts ≡ true
has_text texts s n e =
    let at : get_or texts n [] ≡ s = get_or_from_slice_get texts n s [] e in
    list_any_at (bytes_eq s) texts n [] (slice_get_within texts n s e) (rw at ((bytes_eq-Decides s s).1 refl))

with_found : (texts : Texts) (s : List ℕ) (n : ℕ) → slice_get texts n ≡ Some s → with_text texts s ≡ texts
with_found texts s n e = ap (λ b. cond b texts (texts ++ s ∷ [])) (has_text texts s n e)

with_kind : (texts : Texts) (m : Meaning) (k : Kind) → IsKindOf texts m k → with_texts texts (texts_in m) ≡ texts
with_kind texts (keyword x) (Keyword y) h = refl
with_kind texts (name s) (Identifier n) h = with_found texts s n h
with_kind texts (constant t v) (Constant u w) h = refl
with_kind texts (text bytes) (StringLiteral n) h = with_found texts (bytes ++ 0 ∷ []) n h
with_kind texts (punctuator x) (Punctuator y) h = refl
with_kind texts m k h = absurd h

with_tokens : (texts : Texts) (cs : List CToken) (ts : List Token) → AreTokensOf texts cs ts → with_texts texts (texts_of cs) ≡ texts
with_tokens texts [] [] h = refl
with_tokens texts [] (t ∷ ts) h = absurd h
with_tokens texts (c ∷ cs) [] h = absurd h
with_tokens texts (c ∷ cs) (t ∷ ts) h =
    with_append texts (texts_in c.meaning) (texts_of cs) ∙ ap (λ x. with_texts x (texts_of cs)) (with_kind texts c.meaning t.kind h.0.0) ∙ with_tokens texts cs ts h.1

-- ---- from the tokens read to the tokens carried, and back

pub carries_on : (before texts : Texts) (front rest : List PpToken) (stored : Stored) → IsAt None texts stored (ctokens front) → HasTakenUp before front texts → Carries before texts stored (ctokens rest) (ctokens (front ++ rest))
carries_on before texts front rest stored at up =
    let cs = (ctokens front).tokens in
    let e : ctokens (front ++ rest) ≡ both (ctokens front) (ctokens rest) = both_read front rest at.0 in
    record {
      done = finished cs;
      done_is = at.1.finished_are;
      texts_are = up;
      tokens_are = ap (λ c. c.tokens) e ∙ finished_first cs (ctokens rest).tokens ∙ ap (λ u. finished cs ++ joined u (ctokens rest).tokens) at.1.unfinished_is ∙ ap (λ x. finished cs ++ x) (joined_pending stored.pending stored.bytes.items (ctokens rest).tokens);
      fault_is = ap (λ c. c.fault) e;
    }

pub taken_already : (texts : Texts) (front : List PpToken) (stored : Stored) → IsAt None texts stored (ctokens front) → HasTakenUp texts front texts
taken_already texts front stored at = sym (with_tokens texts (finished (ctokens front).tokens) stored.tokens.items at.1.finished_are)

settled_unfinished : (texts : Texts) (stored : Stored) (cs : List CToken) → IsSettled stored → AreTokensOf texts cs stored.tokens.items → stored.pending ≡ None → unfinished cs ≡ []
settled_unfinished texts stored cs settled are e = none_unfinished texts cs stored.tokens.items are (settled e)

pub is_at : (old texts : Texts) (stored : Stored) (front : List PpToken) → IsSettled stored → Carries old texts stored nothing (ctokens front) → IsAt None texts stored (ctokens front)
is_at old texts stored front settled q =
    let h = settled_unfinished texts stored q.done settled q.done_is in (
      q.fault_is,
      record {
        finished_are = subst (λ cs. AreTokensOf texts cs stored.tokens.items) (sym (ap finished q.tokens_are ∙ pending_finished q.done stored.pending stored.bytes.items h)) q.done_is;
        unfinished_is = ap unfinished q.tokens_are ∙ pending_unfinished q.done stored.pending stored.bytes.items h;
      },
    )

pub taken_up : (old texts : Texts) (stored : Stored) (front : List PpToken) → IsSettled stored → Carries old texts stored nothing (ctokens front) → HasTakenUp old front texts
taken_up old texts stored front settled q =
    let h = settled_unfinished texts stored q.done settled q.done_is in
    q.texts_are ∙ ap (λ cs. with_texts old (texts_of cs)) (sym (ap finished q.tokens_are ∙ pending_finished q.done stored.pending stored.bytes.items h))

-- ---- a fault

put_same : (pos : Pos) (r : Result Meaning Code) (c all : CTokens) (e : Refusal) → (c.fault ≡ Some e → all ≡ c) → (put pos r c).fault ≡ Some e → put pos r all ≡ put pos r c
put_same pos (Err code) c all e h f = refl
put_same pos (Ok m) c all e h f = ap (put pos (Ok m)) (h f)

-- nothing is read after a fault
nothing_behind : (front rest : List PpToken) (e : Refusal) → (ctokens front).fault ≡ Some e → ctokens (front ++ rest) ≡ ctokens front
nothing_behind [] rest e f = absurd (cc)
nothing_behind (t ∷ ts) rest e f = put_same t.pos (meaning t.kind t.spelling) (ctokens ts) (ctokens (ts ++ rest)) e (nothing_behind ts rest e) f

pub fault_law : FaultStays
fault_law front rest e f = ap (λ c. c.fault) (nothing_behind front rest e f) ∙ f

pub finished_law : FinishedStay
finished_law front rest = by (ctokens front).fault refl
  where
    by : (o : Option Refusal) → (ctokens front).fault ≡ o → (more : List CToken) × ((ctokens (front ++ rest)).tokens ≡ finished (ctokens front).tokens ++ more)
    by None e = (joined (unfinished (ctokens front).tokens) (ctokens rest).tokens, ap (λ c. c.tokens) (both_read front rest e) ∙ finished_first (ctokens front).tokens (ctokens rest).tokens)
    by (Some r) e = (unfinished (ctokens front).tokens, ap (λ c. c.tokens) (nothing_behind front rest r e) ∙ sym (parts (ctokens front).tokens))

-- ---- the tokens read, under a later table

kept_at : (o : Option Refusal) (texts later : Texts) (stored : Stored) (c : CTokens) → KeepsNumbers texts later → IsAt o texts stored c → IsAt o later stored c
kept_at None texts later stored c keeps at = (at.0, record { finished_are = tokens_kept texts later keeps (finished c.tokens) stored.tokens.items at.1.finished_are; unfinished_is = at.1.unfinished_is })
kept_at (Some r) texts later stored c keeps at = at

pub kept_law : ReadIsKept
kept_law texts later front lexer read keeps = kept_at lexer.refused texts later lexer.stored (ctokens front) keeps read

at_none : (o : Option Refusal) (texts : Texts) (stored : Stored) (c : CTokens) → o ≡ None → IsAt o texts stored c → IsAt None texts stored c
at_none o texts stored c e at = subst (λ x. IsAt x texts stored c) e at

pub taken_up_law : ReadIsTakenUp
taken_up_law texts front lexer read none = taken_already texts front lexer.stored (at_none lexer.refused texts lexer.stored (ctokens front) none read)

-- ---- one token more

pub again_reads : (texts : Texts) (o : Option Refusal) (r : Refusal) (stored : Stored) (t : PpToken) → o ≡ Some r → (front : List PpToken) → IsAt o texts stored (ctokens front) → IsAt o texts stored (ctokens (front ++ t ∷ []))
again_reads texts None r stored t e front at = absurd (cc)
again_reads texts (Some x) r stored t e front (inl m) = inl m
again_reads texts (Some x) r stored t e front (inr f) = inr (fault_law front (t ∷ []) x f)

pub takes_reads : (texts texts' : Texts) (o : Option Refusal) (stored stored' : Stored) (t : PpToken) → o ≡ None → Passes texts stored texts' stored' t → IsSettled stored' → (front : List PpToken) → IsAt o texts stored (ctokens front) → IsAt o texts' stored' (ctokens (front ++ t ∷ []))
takes_reads texts texts' o stored stored' t none passes settled front at =
    let at' = at_none o texts stored (ctokens front) none at in
    let q = passes texts nothing (ctokens (front ++ t ∷ [])) (carries_on texts texts front (t ∷ []) stored at' (taken_already texts front stored at')) in
    subst (λ x. IsAt x texts' stored' (ctokens (front ++ t ∷ []))) (sym none) (is_at texts texts' stored' (front ++ t ∷ []) settled q)

pub takes_fault : (texts : Texts) (o : Option Refusal) (stored : Stored) (t : PpToken) (e : Refusal) → o ≡ None → IsRefusal e t.pos (meaning t.kind t.spelling) → (front : List PpToken) → IsAt o texts stored (ctokens front) → (e ≡ Memory) ⊎ ((ctokens (front ++ t ∷ [])).fault ≡ Some e)
takes_fault texts o stored t e none h front at =
    let at' = at_none o texts stored (ctokens front) none at in
    refused texts texts stored t.pos (meaning t.kind t.spelling) nothing (ctokens (front ++ t ∷ [])) e (carries_on texts texts front (t ∷ []) stored at' (taken_already texts front stored at')) h

pub takes_texts : (texts texts' : Texts) (o : Option Refusal) (stored stored' : Stored) (t : PpToken) → o ≡ None → Passes texts stored texts' stored' t → IsSettled stored' → (before : Texts) (front : List PpToken) → IsAt o texts stored (ctokens front) → HasTakenUp before front texts → HasTakenUp before (front ++ t ∷ []) texts'
takes_texts texts texts' o stored stored' t none passes settled before front at up =
    taken_up before texts' stored' (front ++ t ∷ []) settled (passes before nothing (ctokens (front ++ t ∷ [])) (carries_on before texts front (t ∷ []) stored (at_none o texts stored (ctokens front) none at) up))

pub takes_stop : (texts texts' : Texts) (o : Option Refusal) (stored : Stored) (t : PpToken) → o ≡ None → Stops texts stored texts' t → (before : Texts) (front rest : List PpToken) → IsAt o texts stored (ctokens front) → HasTakenUp before front texts → TakesUp before texts' (ctokens (front ++ t ∷ rest)).tokens
takes_stop texts texts' o stored t none stops before front rest at up =
    stops before (ctokens rest) (ctokens (front ++ t ∷ rest)) (carries_on before texts front (t ∷ rest) stored (at_none o texts stored (ctokens front) none at) up)

-- where nothing is taken
pub again_stop : (texts before : Texts) (front rest : List PpToken) → HasTakenUp before front texts → TakesUp before texts (ctokens (front ++ rest)).tokens
again_stop texts before front rest up =
    let p = finished_law front rest in
    record { front = finished (ctokens front).tokens; back = p.0; splits = p.1; texts_are = up }

-- ---- no token more

carries_all : (before texts : Texts) (front : List PpToken) (stored : Stored) → IsAt None texts stored (ctokens front) → HasTakenUp before front texts → Carries before texts stored nothing (ctokens front)
carries_all before texts front stored at up = subst (λ l. Carries before texts stored nothing (ctokens l)) (append-nil front) (carries_on before texts front [] stored at up)

-- the tokens that are stored are all
abbrev EndsWith : Texts → Stored → Texts → List Token → Type 0
EndsWith texts stored texts' ts = (old : Texts) (total : CTokens) → Carries old texts stored nothing total → AreAll old texts' total ts

ends_all : (texts texts' : Texts) (o : Option Refusal) (stored : Stored) (ts : List Token) → o ≡ None → EndsWith texts stored texts' ts → (before : Texts) (front : List PpToken) → IsAt o texts stored (ctokens front) → HasTakenUp before front texts → AreAll before texts' (ctokens front) ts
ends_all texts texts' o stored ts none ends before front at up = ends before (ctokens front) (carries_all before texts front stored (at_none o texts stored (ctokens front) none at) up)

ends_here : (texts texts' : Texts) (o : Option Refusal) (stored : Stored) (ts : List Token) → o ≡ None → EndsWith texts stored texts' ts → (front : List PpToken) → IsAt o texts stored (ctokens front) → AreAll texts texts' (ctokens front) ts
ends_here texts texts' o stored ts none ends front at = ends_all texts texts' o stored ts none ends texts front at (taken_already texts front stored (at_none o texts stored (ctokens front) none at))

pub ends_ok : (texts texts' : Texts) (o : Option Refusal) (stored : Stored) (ts : List Token) → o ≡ None → EndsWith texts stored texts' ts → (front : List PpToken) → IsAt o texts stored (ctokens front) → ((ctokens front).fault ≡ None) × AreTokensOf texts' (ctokens front).tokens ts
ends_ok texts texts' o stored ts none ends front at = let all = ends_here texts texts' o stored ts none ends front at in (all.no_fault, all.tokens_are)

pub ends_constants : (texts texts' : Texts) (o : Option Refusal) (stored : Stored) (ts : List Token) → o ≡ None → EndsWith texts stored texts' ts → (front : List PpToken) → IsAt o texts stored (ctokens front) → AreInTheirTypes ts
ends_constants texts texts' o stored ts none ends front at = constants_law texts texts' front ts (ends_here texts texts' o stored ts none ends front at)

pub ends_texts : (texts texts' : Texts) (o : Option Refusal) (stored : Stored) (ts : List Token) → o ≡ None → EndsWith texts stored texts' ts → (before : Texts) (front : List PpToken) → IsAt o texts stored (ctokens front) → HasTakenUp before front texts → texts' ≡ with_texts before (texts_of (ctokens front).tokens)
ends_texts texts texts' o stored ts none ends before front at up = (ends_all texts texts' o stored ts none ends before front at up).texts_are

pub ends_stop : (texts texts' : Texts) (o : Option Refusal) (stored : Stored) → o ≡ None → StopsClosing texts stored texts' → (before : Texts) (front : List PpToken) → IsAt o texts stored (ctokens front) → HasTakenUp before front texts → TakesUp before texts' (ctokens front).tokens
ends_stop texts texts' o stored none stops before front at up = stops before nothing (ctokens front) refl (carries_all before texts front stored (at_none o texts stored (ctokens front) none at) up)

pub again_end : (texts before : Texts) (front : List PpToken) → HasTakenUp before front texts → TakesUp before texts (ctokens front).tokens
again_end texts before front up =
    let cs = (ctokens front).tokens in
    record { front = finished cs; back = unfinished cs; splits = sym (parts cs); texts_are = up }

-- ---- faults

memory_told : (fault : Fault) (texts : Texts) (o : Option Refusal) → IsMemoryFault fault → IsTokenFault fault texts o
memory_told fault texts None h = h
memory_told fault texts (Some Memory) h = h
memory_told fault texts (Some (At code pos)) h = inr h
memory_told fault texts (Some (Told code pos n)) h = inr h

pub token_fault : (fault : Fault) (texts : Texts) (e : Refusal) (o : Option Refusal) → IsFaultOfRefusal fault texts e → (e ≡ Memory) ⊎ (o ≡ Some e) → IsTokenFault fault texts o
token_fault fault texts e o h (inl m) = memory_told fault texts o (subst (IsFaultOfRefusal fault texts) m h)
token_fault fault texts e o h (inr f) = subst (IsTokenFault fault texts) (sym f) h

told_of : (fault : Fault) (texts : Texts) (one all : Option Refusal) → ((e : Refusal) → one ≡ Some e → all ≡ Some e) → IsTokenFault fault texts one → IsTokenFault fault texts all
told_of fault texts None all stays h = memory_told fault texts all h
told_of fault texts (Some e) all stays h = subst (IsTokenFault fault texts) (sym (stays e refl)) h

pub told_law : ToldStays
told_law front rest fault texts h = told_of fault texts (ctokens front).fault (ctokens (front ++ rest)).fault (fault_law front rest) h

-- ---- whole lists

pub list_at : (list : List PpToken) (i : ℕ) (t : PpToken) → i < length list → t ≡ get_or list i t → take i list ++ t ∷ drop (i + 1) list ≡ list
list_at list i t h e =
    let f : drop i list ≡ t ∷ drop (i + 1) list = drop-cons list i t h ∙ sym (ap (λ x. x ∷ drop (suc i) list) e) ∙ ap (λ k. t ∷ drop k list) (sym (add-one i)) in
    ap (λ x. take i list ++ x) (sym f) ∙ take-append-drop i list

pub on_ok_from : {X Y : Type 0} (r : Result X Y) (P : X → Type 0) (Q : Type 0) → ((x : X) → P x → Q) → IfOk r P → OnOk r Q
on_ok_from (Ok x) P Q f h = f x h
on_ok_from (Err e) P Q f h = tt

pub list_refused : (texts : Texts) (list : List PpToken) (i : ℕ) (t : PpToken) (lexer : Lexer) (e : Refusal) → i < length list → t ≡ get_or list i t → refusal_of lexer ≡ Some e → HasRead texts (take i list ++ t ∷ []) lexer → (e ≡ Memory) ⊎ ((ctokens list).fault ≡ Some e)
list_refused texts list i t lexer e h at some read = by (subst (λ x. IsAt x texts lexer.stored (ctokens (take i list ++ t ∷ []))) some read)
  where
    whole : (take i list ++ t ∷ []) ++ drop (i + 1) list ≡ list
    whole = append_assoc (take i list) (t ∷ []) (drop (i + 1) list) ∙ list_at list i t h at

    by : (e ≡ Memory) ⊎ ((ctokens (take i list ++ t ∷ [])).fault ≡ Some e) → (e ≡ Memory) ⊎ ((ctokens list).fault ≡ Some e)
    by (inl m) = inl m
    by (inr f) = inr (subst (λ l. (ctokens l).fault ≡ Some e) whole (fault_law (take i list ++ t ∷ []) (drop (i + 1) list) e f))
