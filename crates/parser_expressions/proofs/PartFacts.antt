-- A part of a production, and the whole.
use Rattle.std.specs.Prelude.{Option, None, Some}
use Rattle.std.proofs.Common.{◌≡◌, ℕ, ◌+◌, ◌<◌, ◌≤◌, List, sym, subst, arith}
use Rattle.srcset.specs.declared.refusal.Pos.{Pos}
use Rattle.lexer.specs.declared.token.Token.{Token}
use Rattle.lexer.specs.declared.token.Kind.{Kind}
use Rattle.tree.specs.Tree.{Tree}
use Rattle.tree.specs.Counts.{depth}
use Rattle.parser_grammar.specs.declared.refusal.Refusal.{Refusal}
use Rattle.parser_grammar.specs.declared.refusal.Refusal.TheVariants.{Syntax, Depth, Memory}
use Rattle.parser_grammar.specs.Expressions.{layer, Spells}
use Rattle.parser_grammar.specs.Tokens.{Own, Reaches}
use Rattle.parser_grammar.specs.layer.Answer.{ReadsOf, FailsOf, StandsOf}
use Rattle.parser_expressions.specs.ExpressionAnswers.{power, Stops, Reads, Fails, Stands}
use Rattle.parser_grammar.proofs.Tokens.{reaches_on, own_last}
use Rattle.parser_grammar.proofs.Exits.{excuses_grow}

-- ---- expressions of a layer, as any other category

abbrev pub Layered : ℕ → Option (List Token) → Tree → List Token → List Token → Type 0
Layered n b t ts rest = (n ≤ layer t) × Spells b t ts rest

abbrev pub StopsAt : ℕ → Tree → List Token → Type 0
StopsAt n t rest = Stops n rest

pub reads_of : (n d : ℕ) (ts : List Token) (e : Tree) (k : ℕ) (rest : List Token) → Reads n d ts e k rest → ReadsOf (Layered n None) (StopsAt n) depth d ts e k
    rest
reads_of n d ts e k rest h = record {
  spelled = (h.tight, h.spells);
  tall = h.height;
  fits = h.fits;
  only = λ y r s e. h.only y r (record { tight = s.0; spells = s.1; stops = e });
}

pub fails_of : (n d : ℕ) (ts : List Token) (f : Refusal) → Fails n d ts f → FailsOf (Layered n None) (StopsAt n) depth d ts f
fails_of n d ts f h = record { each = λ y r s e. h.each y r (record { tight = s.0; spells = s.1; stops = e }) }

pub stands_of : (n d : ℕ) (ts : List Token) (f : Refusal) → Stands n d ts f → StandsOf (Layered n) depth d ts f
stands_of n d ts (Syntax at) h = tt
stands_of n d ts Memory h = tt
stands_of n d ts (Depth at) h = record { tree = h.tree; cut = h.cut; last = h.last; spelled = (h.tight, h.spells); reaches = h.ends; deep = h.deep }

-- ---- where parts end

pub stops_own : (k : Kind) (at : Pos) (ts rest : List Token) → Own k at ts rest → power k ≤ 1 → Stops 1 ts
stops_own k at ts rest own le = subst (Stops 1) (sym own) le

pub stops_not : (k : Kind) (at : Pos) (ts rest : List Token) → 1 < power k → Stops 1 ts → Own k at ts rest → ⊥
stops_not k at ts rest lt h own = let le : power k ≤ 1 = subst (Stops 1) own h in absurd (omega (arith, le, lt))

-- ---- a part and the whole

-- a failure of a part is one of the whole
pub part_fails : {A B : Type 0} (S : A → List Token → List Token → Type 0) (SE : A → List Token → Type 0) (hS : A → ℕ) (T : B → List Token → List Token →
    Type 0) (TE : B → List Token → Type 0) (hT : B → ℕ) (e d : ℕ) (ts us : List Token) (f : Refusal) → ((y : B) (r : List Token) → T y ts r → TE y r → (a : A)
    × (x : List Token) × S a us x × SE a x × (e + hS a ≤ d + hT y)) → FailsOf S SE hS e us f → FailsOf T TE hT d ts f
part_fails S SE hS T TE hT e d ts us f inv h = record {
  each = λ y r t te. let i = inv y r t te in excuses_grow f e d (hS i.0) (hT y) i.4 (h.each i.0 i.1 i.2 i.3);
}

-- a justified refusal of a begun part is one of the begun whole around it
pub part_stands : {A B : Type 0} (S : Option (List Token) → A → List Token → List Token → Type 0) (hS : A → ℕ) (T : Option (List Token) → B → List Token →
    List Token → Type 0) (hT : B → ℕ) (e d : ℕ) (ts us : List Token) (f : Refusal) (w : A → B) → Reaches ts us →
    ((a : A) (cut : List Token) → 256 < e + hS a → S (Some cut) a us cut → T (Some cut) (w a) ts cut) → ((a : A) → e + hS a ≤ d + hT (w a)) →
    StandsOf S hS e us f → StandsOf T hT d ts f
part_stands S hS T hT e d ts us (Syntax at) w go sp deep h = tt
part_stands S hS T hT e d ts us Memory w go sp deep h = tt
part_stands S hS T hT e d ts us (Depth at) w go sp deep h = record {
  tree = w h.tree;
  cut = h.cut;
  last = h.last;
  spelled = sp h.tree h.cut h.deep h.spelled;
  reaches = reaches_on ts us _ go h.reaches;
  deep = let le = deep h.tree in omega (arith, h.deep, le);
}

-- the tokens spell no such tree
pub never_reads : {B : Type 0} (T : B → List Token → List Token → Type 0) (TE : B → List Token → Type 0) (hT : B → ℕ) (d : ℕ) (ts : List Token) (f : Refusal) →
    ((y : B) (r : List Token) → T y ts r → TE y r → ⊥) → FailsOf T TE hT d ts f
never_reads T TE hT d ts f none = record { each = λ y r t te. absurd (none y r t te) }

-- there is no room for a node
pub full_fails : {B : Type 0} (T : B → List Token → List Token → Type 0) (TE : B → List Token → Type 0) (hT : B → ℕ) (d : ℕ) (ts : List Token) (at : Pos)
    (f : Refusal) → f ≡ Depth at → d ≡ 256 → ((y : B) (r : List Token) → T y ts r → TE y r → 1 ≤ hT y) → FailsOf T TE hT d ts f
full_fails T TE hT d ts at f ef ed tall = rw ef (record { each = λ y r t te. let le = tall y r t te in omega (arith, ed, le) })

pub full_stands : {B : Type 0} (T : Option (List Token) → B → List Token → List Token → Type 0) (hT : B → ℕ) (d : ℕ) (ts us : List Token) (k : Kind) (at : Pos)
    (f : Refusal) (y : B) → f ≡ Depth at → d ≡ 256 → Own k at ts us → T (Some us) y ts us → 1 ≤ hT y → StandsOf T hT d ts f
full_stands T hT d ts us k at f y ef ed own sp tall = rw ef (record {
  tree = y;
  cut = us;
  last = k;
  spelled = sp;
  reaches = own_last k at ts us own;
  deep = omega (arith, ed, tall);
})
