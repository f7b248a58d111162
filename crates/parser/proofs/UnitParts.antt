-- External declarations: from a head and a body.
use Rattle.std.specs.Prelude.{Option, None, Some}
use Rattle.std.proofs.Common.{◌≡◌, ℕ, ◌+◌, ◌≤◌, List, ◌∷◌, ◌++◌, length, get_or, take, drop, refl, sym, ap, ◌∙◌, subst, arith, suc, ◌-◌, length-append, length-drop}
use Rattle.std.proofs.Math.Seq.{drop-append_seam, drop-cons}
use Rattle.std.proofs.lemmas.List.{take-append-drop}
use Rattle.srcset.specs.declared.refusal.Pos.{Pos}
use Rattle.lexer.specs.declared.token.Token.{Token}
use Rattle.lexer.specs.declared.token.Kind.TheVariants as kind
use Rattle.lexer.specs.declared.token.Punctuator.TheVariants as sign
use Rattle.tree.specs.Tree.{Pieces, DeclarationTree, FunctionTree, ExternalTree, definition, declaration}
use Rattle.tree.specs.Counts.{pieces_depth, function_depth, external_depth}
use Rattle.parser_grammar.specs.declared.refusal.Refusal.{Refusal}
use Rattle.parser_grammar.specs.declared.refusal.Refusal.TheVariants.{Syntax, Depth, Memory}
use Rattle.parser_grammar.specs.Tokens.{Own, Reaches}
use Rattle.parser_grammar.specs.Statements.{SpellsFunction, SpellsExternal}
use Rattle.parser.specs.inside.StatementAnswers.{SpellsBody}
use Rattle.parser_grammar.specs.layer.Answer.{Anywhere, Excuses, ReadsOf, FailsOf}
use Rattle.parser_declarations.specs.DeclarationAnswers.{HeadTree, whole, opening, OpeningTree, SpellsOpening, SpellsHead, EndsHead, head_depth}
use Rattle.parser.specs.inside.UnitAnswers.{ReadsBody, FailsBody, ReadsExternal, FailsExternal, StandsExternal}
use Rattle.parser_grammar.proofs.Tokens.{own_once, own_reaches, reaches_on}
use Rattle.parser.proofs.OpeningBegun.{opening_is_begun, opening_reaches}

-- the token before the last ones
pub token_before : (ts us : List Token) (i : ℕ) (d : Token) → i + 1 + length us ≡ length ts → Reaches ts us → Reaches ts (get_or ts i d ∷ us)
token_before ts us i d n r =
    let long : length ts ≡ length r.0 + length us = ap length r.1 ∙ length-append r.0 us in
    let at : i + 1 ≡ length r.0 = omega arith in
    let behind : drop (i + 1) ts ≡ us = ap (λ (j : ℕ). drop j ts) at ∙ ap (λ (x : List Token). drop (length r.0) x) r.1 ∙ drop-append_seam r.0 us in
    let here : drop i ts ≡ get_or ts i d ∷ drop (suc i) ts = drop-cons ts i d (omega arith) in
    let one : suc i ≡ i + 1 = omega arith in
    let next : drop (suc i) ts ≡ us = ap (λ (j : ℕ). drop j ts) one ∙ behind in
    (take i ts, sym (take-append-drop i ts) ∙ ap (λ (x : List Token). take i ts ++ x) (here ∙ ap (λ (x : List Token). get_or ts i d ∷ x) next))

-- a list has a tail of each length up to its own
pub tail_of_length : (ts : List Token) (n : ℕ) → n ≤ length ts → (us : List Token) × (length us ≡ n) × Reaches ts us
tail_of_length ts n le =
    let long : length (drop (length ts - n) ts) ≡ length ts - (length ts - n) = length-drop (length ts - n) ts in
    (drop (length ts - n) ts, omega (arith, long), (take (length ts - n) ts, sym (take-append-drop (length ts - n) ts)))

excuses_more : (f : Refusal) (a b j k : ℕ) → a + j ≤ b + k → Excuses f a j → Excuses f b k
excuses_more (Syntax at) a b j k le h = h
excuses_more (Depth at) a b j k le h = omega (arith, le, h)
excuses_more Memory a b j k le h = tt

-- ---- a function definition and its head

abbrev pub opening_of : FunctionTree → OpeningTree
opening_of f = record { start = f.start; specifiers = f.specifiers; at = f.at; name = f.name; parameters = f.parameters }

abbrev pub with_body : OpeningTree → Pos → Pieces → FunctionTree
with_body o brace ps = record { start = o.start; specifiers = o.specifiers; at = o.at; name = o.name; parameters = o.parameters; brace = brace; body = ps }

-- a function definition is its head, a brace and its body
record Split (b : Option (List Token)) (f : FunctionTree) (ts rest : List Token) : Type 0 where
  behind : List Token
  inside : List Token
  head : SpellsOpening b (opening_of f) ts behind
  brace : Own (kind.Punctuator sign.BraceOpen) f.brace behind inside
  body : SpellsBody b f.body inside rest

split : (b : Option (List Token)) (f : FunctionTree) (ts rest : List Token) → SpellsFunction b f ts rest → Split b f ts rest
split b f ts rest h = record {
  behind = h.4;
  inside = h.5;
  head = (h.0, h.1, h.2, h.3, h.7, h.8, h.9, h.10, h.11, h.12, h.13);
  brace = h.14;
  body = (h.6, h.15, h.16);
}

join : (b : Option (List Token)) (o : OpeningTree) (at : Pos) (ps : Pieces) (ts behind inside rest : List Token) → SpellsOpening b o ts behind
    → Own (kind.Punctuator sign.BraceOpen) at behind inside → SpellsBody b ps inside rest → SpellsFunction b (with_body o at ps) ts rest
join b o at ps ts behind inside rest h own s = (h.0, h.1, h.2, h.3, behind, inside, s.0, h.4, h.5, h.6, h.7, h.8, h.9, h.10, own, s.1, s.2)

same_opening : (o p : OpeningTree) → opening o ≡ opening p → o ≡ p
same_opening o p e = cc

same_whole : (d e : DeclarationTree) → whole d ≡ whole e → d ≡ e
same_whole d e h = cc

never_opening : (d : DeclarationTree) (o : OpeningTree) → whole d ≡ opening o → ⊥
never_opening d o e = cc

-- ---- a head alone

pub head_fails : (ts : List Token) (f : Refusal) → FailsOf (SpellsHead None) EndsHead head_depth 0 ts f → FailsExternal ts f
head_fails ts f fails = record { each = each }
  where
    each : (y : ExternalTree) (r : List Token) → SpellsExternal None y ts r → Anywhere y r → Excuses f 0 (external_depth y)
    each (declaration d) r h any = fails.each (whole d) r h tt
    each (definition g) r h any =
        let s = split None g ts r h in
        excuses_more f 0 0 (head_depth (opening (opening_of g))) (function_depth g) (omega arith)
        (fails.each (opening (opening_of g)) s.behind s.head (g.brace, s.inside, s.brace))

declaration_reads : (ts : List Token) (d : DeclarationTree) (k : ℕ) (rest : List Token) → ReadsOf (SpellsHead None) EndsHead head_depth 0 ts (whole d) k rest →
    ReadsExternal ts (declaration d) rest
declaration_reads ts d k rest reads = record { spelled = reads.spelled; tall = refl; fits = omega (arith, reads.tall, reads.fits); only = only }
  where
    only : (y : ExternalTree) (r : List Token) → SpellsExternal None y ts r → Anywhere y r → (y ≡ declaration d) × (r ≡ rest)
    only (declaration e) r h any = let p = reads.only (whole e) r h tt in (ap declaration (same_whole e d p.0), p.1)
    only (definition g) r h any =
        let s = split None g ts r h in
        absurd (never_opening d (opening_of g) (sym (reads.only (opening (opening_of g)) s.behind s.head (g.brace, s.inside, s.brace)).0))

-- ---- a head and a body

-- a function definition whose tokens begin with this head has this head and this brace
same_head : (ts : List Token) (o : OpeningTree) (k : ℕ) (behind : List Token) (at : Pos) (inside : List Token) → ReadsOf (SpellsHead None) EndsHead head_depth 0
    ts (opening o) k behind
    → Own (kind.Punctuator sign.BraceOpen) at behind inside → (g : FunctionTree) (r : List Token) → SpellsFunction None g ts r → (g ≡ with_body o at g.body)
    × SpellsBody None g.body inside r
same_head ts o k behind at inside reads own g r h =
    let s = split None g ts r h in
    let p = reads.only (opening (opening_of g)) s.behind s.head (g.brace, s.inside, s.brace) in
    let q = own_once _ g.brace at behind s.inside inside (subst (λ (x : List Token). Own (kind.Punctuator sign.BraceOpen) g.brace x s.inside) p.1 s.brace) own
    in (
      ap (λ (x : OpeningTree). with_body x g.brace g.body) (same_opening (opening_of g) o p.0) ∙ ap (λ (x : Pos). with_body o x g.body) q.0,
      subst (λ (x : List Token). SpellsBody None g.body x r) q.1 s.body,
    )

function_reads : (ts : List Token) (o : OpeningTree) (k : ℕ) (behind : List Token) (at : Pos) (ps : Pieces) (rest : List Token)
    → ReadsOf (SpellsHead None) EndsHead head_depth 0 ts (opening o) k behind → ReadsBody behind at ps rest → ReadsExternal ts (definition (with_body o at ps))
    rest
function_reads ts o k behind at ps rest head body = record {
  spelled = join None o at ps ts behind body.inside rest head.spelled body.brace body.reads.spelled;
  tall = refl;
  fits = omega (arith, head.tall, head.fits, body.reads.tall, body.reads.fits);
  only = only;
}
  where
    only : (y : ExternalTree) (r : List Token) → SpellsExternal None y ts r → Anywhere y r → (y ≡ definition (with_body o at ps)) × (r ≡ rest)
    only (declaration d) r h any = absurd (never_opening d o (head.only (whole d) r h tt).0)
    only (definition g) r h any =
        let p = same_head ts o k behind at body.inside head body.brace g r h in
        let q = body.reads.only g.body r p.1 tt in
        (ap definition (p.0 ∙ ap (λ (x : Pieces). with_body o at x) q.0), q.1)

body_fails : (ts : List Token) (o : OpeningTree) (k : ℕ) (behind : List Token) (f : Refusal) → ReadsOf (SpellsHead None) EndsHead head_depth 0 ts (opening o) k
    behind
    → EndsHead (opening o) behind → FailsBody behind f → FailsExternal ts f
body_fails ts o k behind f head ends body = record { each = each }
  where
    each : (y : ExternalTree) (r : List Token) → SpellsExternal None y ts r → Anywhere y r → Excuses f 0 (external_depth y)
    each (declaration d) r h any = absurd (never_opening d o (head.only (whole d) r h tt).0)
    each (definition g) r h any =
        let p = same_head ts o k behind ends.0 ends.1 head ends.2 g r h in
        let e = (body.fails ends.0 ends.1 ends.2).each g.body r p.1 tt in
        excuses_more f 2 0 (pieces_depth g.body) (function_depth g) (omega arith) e

body_stands : (ts : List Token) (o : OpeningTree) (k : ℕ) (behind : List Token) (f : Refusal) → ReadsOf (SpellsHead None) EndsHead head_depth 0 ts (opening o) k
    behind
    → EndsHead (opening o) behind → FailsBody behind f → StandsExternal ts f
body_stands ts o k behind (Syntax at) head ends body = tt
body_stands ts o k behind Memory head ends body = tt
body_stands ts o k behind (Depth at) head ends body =
    let p = body.stands ends.0 ends.1 ends.2 in
    let begun = opening_is_begun p.cut o ts behind head.spelled in
    record {
      tree = definition (with_body o ends.0 p.tree);
      cut = p.cut;
      last = p.last;
      spelled = join (Some p.cut) o ends.0 p.tree ts behind ends.1 p.cut begun ends.2 p.spelled;
      reaches = reaches_on ts behind _ (opening_reaches o ts behind head.spelled) (reaches_on behind ends.1 _ (own_reaches _ _ behind ends.1 ends.2) p.reaches);
      deep = omega (arith, p.deep);
    }

-- ---- the same, of a head that is known by an equation

pub declaration_part : (ts : List Token) (h : HeadTree) (d : DeclarationTree) (k : ℕ) (rest : List Token) → h ≡ whole d → ReadsOf (SpellsHead None) EndsHead
    head_depth 0 ts h k rest × EndsHead h rest
    → ReadsExternal ts (declaration d) rest
declaration_part ts h d k rest e r = declaration_reads ts d k rest (subst (λ (x : HeadTree). ReadsOf (SpellsHead None) EndsHead head_depth 0 ts x k rest) e r.0)

known_head : (ts : List Token) (h : HeadTree) (o : OpeningTree) (k : ℕ) (rest : List Token) → h ≡ opening o → ReadsOf (SpellsHead None) EndsHead head_depth 0 ts
    h k rest × EndsHead h rest
    → ReadsOf (SpellsHead None) EndsHead head_depth 0 ts (opening o) k rest × EndsHead (opening o) rest
known_head ts h o k rest e r = subst (λ (x : HeadTree). ReadsOf (SpellsHead None) EndsHead head_depth 0 ts x k rest × EndsHead x rest) e r

pub function_part : (ts : List Token) (h : HeadTree) (o : OpeningTree) (k : ℕ) (behind : List Token) (at : Pos) (ps : Pieces) (rest : List Token) →
    h ≡ opening o
    → ReadsOf (SpellsHead None) EndsHead head_depth 0 ts h k behind × EndsHead h behind → ReadsBody behind at ps rest →
    ReadsExternal ts (definition (with_body o at ps)) rest
function_part ts h o k behind at ps rest e r body = let p = known_head ts h o k behind e r in function_reads ts o k behind at ps rest p.0 body

pub body_fails_part : (ts : List Token) (h : HeadTree) (o : OpeningTree) (k : ℕ) (behind : List Token) (f : Refusal) → h ≡ opening o
    → ReadsOf (SpellsHead None) EndsHead head_depth 0 ts h k behind × EndsHead h behind → FailsBody behind f → FailsExternal ts f
body_fails_part ts h o k behind f e r body = let p = known_head ts h o k behind e r in body_fails ts o k behind f p.0 p.1 body

pub body_stands_part : (ts : List Token) (h : HeadTree) (o : OpeningTree) (k : ℕ) (behind : List Token) (f : Refusal) → h ≡ opening o
    → ReadsOf (SpellsHead None) EndsHead head_depth 0 ts h k behind × EndsHead h behind → FailsBody behind f → StandsExternal ts f
body_stands_part ts h o k behind f e r body = let p = known_head ts h o k behind e r in body_stands ts o k behind f p.0 p.1 body
