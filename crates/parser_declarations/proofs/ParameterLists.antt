-- Lists of parameters.
use Rattle.std.specs.Prelude.{Option, None, Some, max}
use Rattle.std.proofs.Common.{◌≡◌, ℕ, ◌+◌, ◌<◌, ◌≤◌, inl, inr, List, [], ◌∷◌, ◌++◌, length, refl, sym, ap, ◌∙◌, subst, arith}
use Rattle.srcset.specs.declared.refusal.Pos.{Pos}
use Rattle.lexer.specs.declared.token.Token.{Token}
use Rattle.lexer.specs.declared.token.Kind.TheVariants as kind
use Rattle.lexer.specs.declared.token.Keyword.{Keyword}
use Rattle.lexer.specs.declared.token.Keyword.TheVariants as keyword
use Rattle.lexer.specs.declared.token.Punctuator.{Punctuator}
use Rattle.lexer.specs.declared.token.Punctuator.TheVariants as sign
use Rattle.tree.specs.declared.expression.TypeSpecifier.{TypeSpecifier}
use Rattle.tree.specs.declared.expression.TypeSpecifier.TheVariants as specifier
use Rattle.tree.specs.Tree.{Tree, ParameterTree}
use Rattle.tree.specs.Counts.{sizes_depth, parameter_depth, parameters_depth}
use Rattle.parser_grammar.specs.declared.refusal.Refusal.{Refusal}
use Rattle.parser_grammar.specs.declared.refusal.Refusal.TheVariants.{Syntax, Depth, Memory}
use Rattle.parser_grammar.specs.Tokens.{Own, NotFront}
use Rattle.parser_grammar.specs.Expressions.{SpellsSpecifier, SpellsSpecifiers, word_keyword}
use Rattle.parser_grammar.specs.Declarations.{SpellsMoreOf, SpellsBounds, SpellsParameterName, SpellsParameter, IsVoid, IsVoidAlone, SpellsParameters}
use Rattle.parser_grammar.specs.layer.Answer.{Excuses, ReadsOf, FailsOf, PassesOf, StandsOf, Anywhere}
use Rattle.parser_expressions.specs.ExpressionAnswers.{BeginsType}
use Rattle.parser_declarations.specs.inside.SpecifierAnswers.{SpellsParameterList}
use Rattle.parser_declarations.specs.inside.DeclarationParts.{EndsParameter}
use Rattle.parser_grammar.proofs.Tokens.{same_token, mark_own}
use Rattle.parser_grammar.proofs.Series.{tallest, Going, going_stuck, going_ends, CommaThen, SeriesOf, series_begins, series_fails, series_first_stands, series_more, series_more_fails, series_more_stands}
use Rattle.parser_expressions.proofs.Leads.{specifier_begins}
use Rattle.tree.specs.declared.expression.Word.{Word}
use Rattle.tree.specs.declared.expression.Word.TheVariants as word
use Rattle.parser_grammar.proofs.DeclarationBegun.{parameter_is_begun, parameter_reaches}

-- where a list of parameters ends
pub record EndsParameters (ps : List ParameterTree) (r : List Token) : Type 0 where
  pub after : List Token
  pub at : Pos
  pub closes : Own (kind.Punctuator sign.ParenClose) at r after

comma_no_bracket : kind.Punctuator sign.Comma ≡ kind.Punctuator sign.BracketOpen → ⊥
comma_no_bracket e = cc

close_no_bracket : kind.Punctuator sign.ParenClose ≡ kind.Punctuator sign.BracketOpen → ⊥
close_no_bracket e = cc

close_no_comma : kind.Punctuator sign.ParenClose ≡ kind.Punctuator sign.Comma → ⊥
close_no_comma e = cc

sign_no_name : (p : Punctuator) (n : ℕ) → kind.Punctuator p ≡ kind.Identifier n → ⊥
sign_no_name p n e = cc

sign_no_keyword : (p : Punctuator) (k : Keyword) → kind.Punctuator p ≡ kind.Keyword k → ⊥
sign_no_keyword p k e = cc

sign_ends : (p : Punctuator) (y : ParameterTree) (at : Pos) (t r : List Token) → (kind.Punctuator p ≡ kind.Punctuator sign.BracketOpen → ⊥) →
    Own (kind.Punctuator p) at t r → EndsParameter y t
sign_ends p y at t r no_bracket own = record {
  no_type = λ b. subst BeginsType own b;
  no_name = λ n o rest q. sign_no_name p n (same_token _ _ at o t r rest own q).0;
  no_size = λ o rest q. no_bracket (same_token _ _ at o t r rest own q).0;
}

ends_follow : (ps : List ParameterTree) (y : ParameterTree) (r : List Token) → EndsParameters ps r → EndsParameter y r
ends_follow ps y r e = sign_ends sign.ParenClose y e.at r e.after close_no_bracket e.closes

comma_follows : (y : ParameterTree) (at : Pos) (t r : List Token) → Own (kind.Punctuator sign.Comma) at t r → EndsParameter y t
comma_follows y at t r own = sign_ends sign.Comma y at t r comma_no_bracket own

stays : (at : Pos) (cur us : List Token) → Own (kind.Punctuator sign.Comma) at cur us → (ps : List ParameterTree) → EndsParameters ps cur → ⊥
stays at cur us own ps e = close_no_comma (same_token _ _ e.at at cur e.after us e.closes own).0

pub parameters_tallest : (ps : List ParameterTree) → parameters_depth ps ≡ tallest parameter_depth ps
parameters_tallest [] = refl
parameters_tallest (p ∷ ps) = ap (λ z. max (parameter_depth p) z) (parameters_tallest ps)

-- the tokens do not begin with `void` and the closing parenthesis
abbrev pub NoVoid : List Token → Type 0
NoVoid ts = (o : Pos) (p : Pos) (t1 : List Token) (rest : List Token) → Own (kind.Keyword keyword.Void) o ts t1 → Own (kind.Punctuator sign.ParenClose) p t1
    rest → ⊥

list_fails : (d : ℕ) (ts : List Token) (f : Refusal) → NoVoid ts → FailsOf (SeriesOf SpellsParameter None) EndsParameters (tallest parameter_depth) d ts f →
    FailsOf (SpellsParameterList None) Anywhere parameters_depth d ts f
list_fails d ts f none h = record { each = λ ps r s e. on ps r s.0 s.1 (mark_own _ s.0 r s.2) }
  where
    on : (ps : List ParameterTree) (r t1 : List Token) → SpellsParameters None ps ts t1 → (at : Pos) × Own (kind.Punctuator sign.ParenClose) at t1 r →
        Excuses f d (parameters_depth ps)
    on [] r t1 s m = absurd (none s.0 m.0 t1 r s.1 m.1)
    on (p ∷ ps) r t1 s m = subst (λ z. Excuses f d z) (sym (parameters_tallest (p ∷ ps)))
        (h.each (p ∷ ps) t1 s.1 (record { after = r; at = m.0; closes = m.1 }))

-- A begun list of one parameter without sizes may continue with a size that is missing: so it is not `void` alone.
sized : (e : Option Tree) (es : List (Option Tree)) → (e ∷ es) ≡ [] → ⊥
sized e es q = cc

list_stands : (d : ℕ) (ts : List Token) (f : Refusal) → d ≤ 256 → StandsOf (SeriesOf SpellsParameter) (tallest parameter_depth) d ts f →
    StandsOf SpellsParameterList parameters_depth d ts f
list_stands d ts (Syntax at) room h = tt
list_stands d ts Memory room h = tt
list_stands d ts (Depth at) room h = on h.tree h.spelled h.deep
  where
    passes : (ps : List ParameterTree) → SpellsParameters (Some h.cut) ps ts h.cut → 256 < d + parameters_depth ps →
        PassesOf SpellsParameterList parameters_depth d ts at
    passes ps s deep = record { tree = ps; cut = h.cut; last = h.last; spelled = (h.cut, s, inr (refl, refl)); reaches = h.reaches; deep = deep }

    single : (p : ParameterTree) (sizes : List (Option Tree)) → p.sizes ≡ sizes → SpellsParameter (Some h.cut) p ts h.cut → 256 < d + parameter_depth p →
        PassesOf SpellsParameterList parameters_depth d ts at
    single p [] eq s deep =
        let q : ParameterTree = record { at = p.at; start = p.start; specifiers = p.specifiers; name = p.name; sizes = None ∷ [] } in
        let ends : s.1 ≡ h.cut = subst (λ z. SpellsBounds (Some h.cut) z s.1 h.cut) eq s.6 in
        let spelled : SpellsParameter (Some h.cut) q ts h.cut = (
          s.0,
          s.1,
          s.2,
          s.3,
          s.4,
          name_too p.name s.0 s.1 s.5,
          (h.cut, h.cut, h.cut, inr (ends, refl), refl, inr (refl, refl), refl),
        ) in
        let less : parameter_depth p ≡ 1 = ap (λ z. sizes_depth z + 1) eq in
        passes (q ∷ []) ((λ v. sized None [] v.no_sizes), (h.cut, spelled, refl)) (omega (arith, deep, less))
      where
        name_too : (n : Option ℕ) (a b : List Token) → SpellsParameterName p n a b →
            SpellsParameterName (record { at = p.at; start = p.start; specifiers = p.specifiers; name = p.name; sizes = None ∷ [] }) n a b
        name_too None a b q = q
        name_too (Some n) a b q = q
    single p (x ∷ xs) eq s deep = passes (p ∷ []) ((λ v. sized x xs (sym eq ∙ v.no_sizes)), (h.cut, s, refl)) (omega (arith, deep))

    on : (ps : List ParameterTree) → SeriesOf SpellsParameter (Some h.cut) ps ts h.cut → 256 < d + tallest parameter_depth ps →
        PassesOf SpellsParameterList parameters_depth d ts at
    on [] s deep = absurd (omega (arith, deep, room))
    on (p ∷ []) s deep = single p p.sizes refl (subst (λ z. SpellsParameter (Some h.cut) p ts z) s.2 s.1) (omega (arith, deep))
    on (p ∷ q ∷ ps) s deep = passes (p ∷ q ∷ ps) ((λ v. v), s) (omega (arith, deep, parameters_tallest (p ∷ q ∷ ps)))

-- the loop invariant
abbrev pub ParametersLoop : ℕ → List Token → List ParameterTree → ℕ → List Token → Type 0
ParametersLoop d ts xs k cur = Going (CommaThen SpellsParameter) (SeriesOf SpellsParameter) EndsParameters parameter_depth d ts xs k cur

pub parameters_first_fail : (d : ℕ) (ts : List Token) (f : Refusal) → NoVoid ts → FailsOf (SpellsParameter None) EndsParameter parameter_depth d ts f →
    FailsOf (SpellsParameterList None) Anywhere parameters_depth d ts f
parameters_first_fail d ts f none bad = list_fails d ts f none (series_fails SpellsParameter EndsParameters EndsParameter parameter_depth d ts f ends_follow
    comma_follows bad)

pub parameters_first_stand : (d : ℕ) (ts : List Token) (f : Refusal) → d ≤ 256 → StandsOf SpellsParameter parameter_depth d ts f →
    StandsOf SpellsParameterList parameters_depth d ts f
parameters_first_stand d ts f room h = list_stands d ts f room (series_first_stands SpellsParameter EndsParameters EndsParameter parameter_depth d ts f h)

pub parameters_begin : (d : ℕ) (ts : List Token) (x : ParameterTree) (k : ℕ) (cur : List Token) → ReadsOf (SpellsParameter None) EndsParameter parameter_depth d
    ts x k cur → ParametersLoop d ts (x ∷ []) k cur
parameters_begin d ts x k cur read = series_begins SpellsParameter EndsParameters EndsParameter parameter_depth d ts x k cur ends_follow comma_follows
    parameter_is_begun (parameter_reaches x ts cur read.spelled) read

pub parameters_more : (d : ℕ) (ts : List Token) (xs : List ParameterTree) (k : ℕ) (cur us : List Token) (at : Pos) (x : ParameterTree) (j : ℕ)
    (next : List Token) (n : ℕ) → Own (kind.Punctuator sign.Comma) at cur us → ParametersLoop d ts xs k cur → ReadsOf (SpellsParameter None) EndsParameter
    parameter_depth d us x j next → n ≡ max k j → ParametersLoop d ts (xs ++ x ∷ []) n next
parameters_more d ts xs k cur us at x j next n own g read en = series_more SpellsParameter EndsParameters EndsParameter parameter_depth d ts xs k cur us at x j
    next n (stays at cur us own) ends_follow comma_follows parameter_is_begun (parameter_reaches x us next read.spelled) own g read en

pub parameters_fail : (d : ℕ) (ts : List Token) (xs : List ParameterTree) (k : ℕ) (cur us : List Token) (at : Pos) (f : Refusal) → NoVoid ts →
    Own (kind.Punctuator sign.Comma) at cur us → ParametersLoop d ts xs k cur → FailsOf (SpellsParameter None) EndsParameter parameter_depth d us f →
    FailsOf (SpellsParameterList None) Anywhere parameters_depth d ts f
parameters_fail d ts xs k cur us at f none own g bad = list_fails d ts f none (series_more_fails SpellsParameter EndsParameters EndsParameter parameter_depth d
    ts xs k cur us at f (stays at cur us own) ends_follow comma_follows own g bad)

pub parameters_stand : (d : ℕ) (ts : List Token) (xs : List ParameterTree) (k : ℕ) (cur us : List Token) (at : Pos) (f : Refusal) → d ≤ 256 →
    Own (kind.Punctuator sign.Comma) at cur us → ParametersLoop d ts xs k cur → StandsOf SpellsParameter parameter_depth d us f →
    StandsOf SpellsParameterList parameters_depth d ts f
parameters_stand d ts xs k cur us at f room own g h = list_stands d ts f room (series_more_stands SpellsParameter EndsParameters EndsParameter parameter_depth d
    ts xs k cur us at f own g h)

no_more : (cur : List Token) → NotFront (kind.Punctuator sign.Comma) cur → (y : ParameterTree) (r : List Token) → CommaThen SpellsParameter None y cur r → ⊥
no_more cur none y r s = let m = mark_own _ cur s.0 s.1 in none m.0 s.0 m.1

pub parameters_open : (d : ℕ) (ts : List Token) (xs : List ParameterTree) (k : ℕ) (cur : List Token) (f : Refusal) → NoVoid ts →
    NotFront (kind.Punctuator sign.Comma) cur → NotFront (kind.Punctuator sign.ParenClose) cur → ParametersLoop d ts xs k cur →
    FailsOf (SpellsParameterList None) Anywhere parameters_depth d ts f
parameters_open d ts xs k cur f none no_comma no_close g = list_fails d ts f none (going_stuck (CommaThen SpellsParameter) (SeriesOf SpellsParameter)
    EndsParameters EndsParameter parameter_depth d ts xs k cur f (λ ps e. no_close e.at e.after e.closes) (no_more cur no_comma) g)

-- a parameter that is `void` alone consists of this keyword
void_token : (p : ParameterTree) (ts r : List Token) → IsVoid p → SpellsParameter None p ts r → (o : Pos) × Own (kind.Keyword keyword.Void) o ts r
void_token p ts r v s =
    let sp : SpellsSpecifiers (specifier.Word word.Void ∷ []) ts s.0 = subst (λ z. SpellsSpecifiers z ts s.0) v.word_void s.4 in
    let n : SpellsParameterName p None s.0 s.1 = subst (λ z. SpellsParameterName p z s.0 s.1) v.no_name s.5 in
    let b : s.1 ≡ r = subst (λ z. SpellsBounds None z s.1 r) v.no_sizes s.6 in
    (sp.1.0, subst (λ z. Own (kind.Keyword keyword.Void) sp.1.0 ts z) (sp.2 ∙ n.0 ∙ b) sp.1.1)

pub parameters_end : (d : ℕ) (ts : List Token) (xs : List ParameterTree) (k : ℕ) (cur rest : List Token) (at : Pos) → NoVoid ts →
    NotFront (kind.Punctuator sign.Comma) cur → Own (kind.Punctuator sign.ParenClose) at cur rest → ParametersLoop d ts xs k cur →
    ReadsOf (SpellsParameterList None) Anywhere parameters_depth d ts xs k rest
parameters_end d ts xs k cur rest at none no_comma own g =
    let h = going_ends (CommaThen SpellsParameter) (SeriesOf SpellsParameter) EndsParameters EndsParameter parameter_depth d ts xs k cur (no_more cur no_comma)
    g in
    record {
      spelled = (cur, listed xs h.spelled, inl (at, own));
      tall = h.tall ∙ sym (parameters_tallest xs);
      fits = h.fits;
      only = λ ps r s e. on h ps r s.0 s.1 (mark_own _ s.0 r s.2);
    }
  where
    not_alone : (p : ParameterTree) (ps : List ParameterTree) → SeriesOf SpellsParameter None (p ∷ ps) ts cur → IsVoidAlone (p ∷ ps) → ⊥
    not_alone p [] s v =
        let o = void_token p ts s.0 v s.1 in
        none o.0 at s.0 rest o.1 (subst (λ z. Own (kind.Punctuator sign.ParenClose) at z rest) (sym s.2) own)
    not_alone p (q ∷ ps) s v = v

    listed : (xs : List ParameterTree) → SeriesOf SpellsParameter None xs ts cur → SpellsParameters None xs ts cur
    listed [] s = absurd s
    listed (p ∷ ps) s = (not_alone p ps s, s)

    on : ReadsOf (SeriesOf SpellsParameter None) EndsParameters (tallest parameter_depth) d ts xs k cur → (ps : List ParameterTree) (r t1 : List Token) →
        SpellsParameters None ps ts t1 → (o : Pos) × Own (kind.Punctuator sign.ParenClose) o t1 r → (ps ≡ xs) × (r ≡ rest)
    on h [] r t1 s m = absurd (none s.0 m.0 t1 r s.1 m.1)
    on h (p ∷ ps) r t1 s m =
        let u = h.only (p ∷ ps) t1 s.1 (record { after = r; at = m.0; closes = m.1 }) in
        (u.0, (same_token _ _ m.0 at cur r rest (subst (λ z. Own (kind.Punctuator sign.ParenClose) m.0 z r) u.1 m.1) own).2)

-- ---- `void` before the closing parenthesis

word_void : (w : Word) → word_keyword w ≡ keyword.Void → w ≡ word.Void
word_void word.Void e = refl
word_void word.Char e = absurd (no e)
  where
    no : keyword.Char ≡ keyword.Void → ⊥
    no e = cc
word_void word.Short e = absurd (no e)
  where
    no : keyword.Short ≡ keyword.Void → ⊥
    no e = cc
word_void word.Int e = absurd (no e)
  where
    no : keyword.Int ≡ keyword.Void → ⊥
    no e = cc
word_void word.Long e = absurd (no e)
  where
    no : keyword.Long ≡ keyword.Void → ⊥
    no e = cc
word_void word.Signed e = absurd (no e)
  where
    no : keyword.Signed ≡ keyword.Void → ⊥
    no e = cc
word_void word.Unsigned e = absurd (no e)
  where
    no : keyword.Unsigned ≡ keyword.Void → ⊥
    no e = cc
word_void word.Bool e = absurd (no e)
  where
    no : keyword.Bool ≡ keyword.Void → ⊥
    no e = cc

same_keyword : (k l : Keyword) → kind.Keyword k ≡ kind.Keyword l → k ≡ l
same_keyword k l e = cc

const_no_void : keyword.Const ≡ keyword.Void → ⊥
const_no_void e = cc

enum_no_void : keyword.Enum ≡ keyword.Void → ⊥
enum_no_void e = cc

specifier_is_void : (s : TypeSpecifier) (o : Pos) (ts t r : List Token) → Own (kind.Keyword keyword.Void) o ts t → SpellsSpecifier s ts r →
    (s ≡ specifier.Word word.Void) × (r ≡ t)
specifier_is_void specifier.Const o ts t r own s = absurd (const_no_void (same_keyword _ _ (same_token _ _ s.0 o ts r t s.1 own).0))
specifier_is_void (specifier.Enum tag) o ts t r own s = absurd (enum_no_void (same_keyword _ _ (same_token _ _ s.1 o ts s.0 t s.3 own).0))
specifier_is_void (specifier.Word w) o ts t r own s =
    let u = same_token _ _ s.0 o ts r t s.1 own in
    (ap (λ z. specifier.Word z) (word_void w (same_keyword _ _ u.0)), u.2)

no_type_at_close : (s : TypeSpecifier) (p : Pos) (t rest r : List Token) → Own (kind.Punctuator sign.ParenClose) p t rest → SpellsSpecifier s t r → ⊥
no_type_at_close s p t rest r own h = subst BeginsType own (specifier_begins s t r h)

pub parameters_void : (d : ℕ) (o p : Pos) (ts t1 rest : List Token) → d ≤ 256 → Own (kind.Keyword keyword.Void) o ts t1 → Own (kind.Punctuator sign.ParenClose)
    p t1 rest → ReadsOf (SpellsParameterList None) Anywhere parameters_depth d ts [] 0 rest
parameters_void d o p ts t1 rest room void close = record {
  spelled = (t1, (o, void), inl (p, close));
  tall = refl;
  fits = omega (arith, room);
  only = λ ps r s e. on ps r s.0 s.1 (mark_own _ s.0 r s.2);
}
  where
    types : (ss : List TypeSpecifier) (a : List Token) → 0 < length ss → SpellsSpecifiers ss ts a → (ss ≡ specifier.Word word.Void ∷ []) × (a ≡ t1)
    types [] a some s = absurd (omega (arith, some))
    types (x ∷ []) a some s = let u = specifier_is_void x o ts t1 s.0 void s.1 in (ap (λ z. z ∷ []) u.0, sym s.2 ∙ u.1)
    types (x ∷ y ∷ ss) a some s =
        let u = specifier_is_void x o ts t1 s.0 void s.1 in
        absurd (no_type_at_close y p t1 rest s.2.0 close (subst (λ z. SpellsSpecifier y z s.2.0) u.1 s.2.1))

    names : (y : ParameterTree) (n : Option ℕ) (b : List Token) → SpellsParameterName y n t1 b → (n ≡ None) × (b ≡ t1)
    names y None b q = (refl, sym q.0)
    names y (Some n) b q = absurd (sign_no_name sign.ParenClose n (same_token _ _ p y.at t1 rest b close q).0)

    sizes : (es : List (Option Tree)) (b : List Token) → SpellsBounds None es t1 b → (es ≡ []) × (b ≡ t1)
    sizes [] b s = (refl, sym s)
    sizes (e ∷ es) b s = let m = mark_own _ t1 s.0 s.3 in absurd (close_no_bracket (same_token _ _ p m.0 t1 rest s.0 close m.1).0)

    alone : (y : ParameterTree) (r : List Token) → SpellsParameter None y ts r → IsVoid y × (r ≡ t1)
    alone y r s =
        let a = types y.specifiers s.0 s.3 s.4 in
        let b = names y y.name s.1 (subst (λ z. SpellsParameterName y y.name z s.1) a.1 s.5) in
        let e = sizes y.sizes r (subst (λ z. SpellsBounds None y.sizes z r) b.1 s.6) in
        (record { word_void = a.0; no_name = b.0; no_sizes = e.0 }, e.1)

    last : (y : ParameterTree) (ps : List ParameterTree) (a r : List Token) → SpellsParameter None y ts a → SpellsMoreOf (SpellsParameter None) None ps a r →
        IsVoidAlone (y ∷ ps)
    last y [] a r s more = (alone y a s).0
    last y (q ∷ ps) a r s more =
        let m = mark_own _ a more.0 more.2 in
        absurd (close_no_comma (same_token _ _ p m.0 t1 rest more.0 close (subst (λ z. Own (kind.Punctuator sign.Comma) m.0 z more.0) (alone y a s).1 m.1)).0)

    on : (ps : List ParameterTree) (r a : List Token) → SpellsParameters None ps ts a → (q : Pos) × Own (kind.Punctuator sign.ParenClose) q a r → (ps ≡ [])
        × (r ≡ rest)
    on [] r a s m =
        let u = same_token _ _ s.0 o ts a t1 s.1 void in
        (refl, (same_token _ _ m.0 p t1 r rest (subst (λ z. Own (kind.Punctuator sign.ParenClose) m.0 z r) u.2 m.1) close).2)
    on (y ∷ ps) r a s m = absurd (s.0 (last y ps s.1.0 a s.1.1 s.1.2))
