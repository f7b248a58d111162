-- Begun trees.
use Rattle.std.specs.Prelude.{None, Some, Result, Ok, Err, IfErr}
use Rattle.std.specs.Result.{IsErrAnd}
use Rattle.std.proofs.Common.{◌≡◌, ℕ, ◌+◌, ◌<◌, ◌≤◌, inl, inr, List, [], refl, arith}
use Rattle.srcset.specs.declared.refusal.Pos.{Pos}
use Rattle.ctypes.specs.declared.types.IntType.{IntType}
use Rattle.lexer.specs.declared.token.Token.{Token}
use Rattle.lexer.specs.declared.token.Kind.{Kind}
use Rattle.lexer.specs.declared.token.Kind.TheVariants as kind
use Rattle.lexer.specs.declared.token.Keyword.TheVariants as keyword
use Rattle.lexer.specs.declared.token.Punctuator.TheVariants as sign
use Rattle.tree.specs.declared.expression.BinaryOp.{BinaryOp}
use Rattle.tree.specs.declared.expression.PrefixOp.{PrefixOp}
use Rattle.tree.specs.declared.expression.StepOp.{StepOp}
use Rattle.tree.specs.declared.expression.AssignOp.{AssignOp}
use Rattle.tree.specs.Tree.{Tree, hole, identifier, constant, string, paren, call, subscript, after, before, prefix, size_of, size_of_type, cast, binary, conditional, assign, no_trees, TypeTree, type_name}
use Rattle.tree.specs.Counts.{depth, type_depth}
use Rattle.parser_grammar.proofs.Exits.{err_passed_on}
use Rattle.parser_grammar.specs.declared.refusal.Refusal.{Refusal}
use Rattle.parser_grammar.specs.declared.refusal.Refusal.TheVariants.{Syntax, Depth, Memory}
use Rattle.parser_expressions.specs.declared.expressions.BoxedPart.{BoxedPart}
use Rattle.parser_grammar.specs.Expressions.{binary_sign, prefix_sign, step_sign, assign_sign, layer_of, layer, Spells}
use Rattle.parser_grammar.specs.Tokens.{Own, Reaches}
use Rattle.parser_grammar.specs.layer.Answer.{ReadsOf, Anywhere}
use Rattle.parser_expressions.specs.ExpressionAnswers.{Reads, Passes, Stands}
use Rattle.parser_grammar.proofs.Tokens.{mark_begun, reaches_on, own_reaches, own_last, mark_reaches}
use Rattle.parser_grammar.proofs.ExpressionBegun.{whole_is_begun, type_is_begun, whole_reaches, type_reaches}
use Rattle.parser_expressions.specs.inside.PartAnswers.{SpellsNamed, StandsArguments, StandsType}
use Rattle.parser_expressions.proofs.Spine.{Loop, layer_of_most}
use Rattle.parser_expressions.proofs.Postfix.{Growing}

-- A justified refusal of a part is one of the whole, where a begun part makes a begun whole.
pub lift : (n m d : ℕ) (ts us : List Token) (f : Refusal) (w : Tree → Tree) → Reaches ts us →
    ((b : Tree) (cut : List Token) → m ≤ layer b → Spells (Some cut) b us cut → Spells (Some cut) (w b) ts cut) → ((b : Tree) → n ≤ layer (w b)) →
    ((b : Tree) → depth b + 1 ≤ depth (w b)) → Stands m (d + 1) us f → Stands n d ts f
lift n m d ts us (Syntax at) w go sp le dep h = tt
lift n m d ts us Memory w go sp le dep h = tt
lift n m d ts us (Depth at) w go sp le dep h = record {
  tree = w h.tree;
  cut = h.cut;
  last = h.last;
  tight = le h.tree;
  spells = sp h.tree h.cut h.tight h.spells;
  ends = reaches_on ts us _ go h.ends;
  deep = omega (arith, h.deep, dep h.tree);
}

-- a looser layer
pub lift_layer : (m n d : ℕ) (ts : List Token) (f : Refusal) → m ≤ n → Stands n d ts f → Stands m d ts f
lift_layer m n d ts (Syntax at) le h = tt
lift_layer m n d ts Memory le h = tt
lift_layer m n d ts (Depth at) le h = record {
  tree = h.tree;
  cut = h.cut;
  last = h.last;
  tight = omega (arith, le, h.tight);
  spells = h.spells;
  ends = h.ends;
  deep = h.deep;
}

-- the same of a result
pub lift_result : (m n d : ℕ) (ts : List Token) (r : Result BoxedPart Refusal) → m ≤ n → IfErr r (λ f. Stands n d ts f) → IfErr r (λ f. Stands m d ts f)
lift_result m n d ts (Ok p) le h = tt
lift_result m n d ts (Err f) le h = lift_layer m n d ts f le h

-- ---- no room for a node whose token comes first

first_full : (n : ℕ) (k : Kind) (at : Pos) (ts us : List Token) (t : Tree) → n ≤ layer t → Own k at ts us → Spells (Some us) t ts us → 1 ≤ depth t →
    Passes n 256 ts at
first_full n k at ts us t le own sp deep = record {
  tree = t;
  cut = us;
  last = k;
  tight = le;
  spells = sp;
  ends = own_last k at ts us own;
  deep = omega
      (arith, deep);
}

pub before_full : (op : StepOp) (at : Pos) (ts us : List Token) → Own (kind.Punctuator (step_sign op)) at ts us → Passes 14 256 ts at
before_full op at ts us own = first_full 14 (kind.Punctuator (step_sign op)) at ts us (before at op hole) (omega arith) own (us, own, omega arith, (refl, refl))
    (omega arith)

pub cast_full : (at : Pos) (ts us : List Token) → Own (kind.Punctuator sign.ParenOpen) at ts us → Passes 13 256 ts at
cast_full at ts us own = first_full 13 (kind.Punctuator sign.ParenOpen) at ts us (cast at (type_name at [] no_trees) hole) (omega arith) own
    (us, us, us, own, (refl, refl), inr (refl, refl), omega arith, (refl, refl)) (omega arith)

pub prefix_full : (op : PrefixOp) (at : Pos) (ts us : List Token) → Own (kind.Punctuator (prefix_sign op)) at ts us → Passes 14 256 ts at
prefix_full op at ts us own = first_full 14 (kind.Punctuator (prefix_sign op)) at ts us (prefix at op hole) (omega arith) own
    (us, own, omega arith, (refl, refl)) (omega arith)

pub size_full : (at : Pos) (ts us : List Token) → Own (kind.Keyword keyword.Sizeof) at ts us → Passes 14 256 ts at
size_full at ts us own = first_full 14 (kind.Keyword keyword.Sizeof) at ts us (size_of at hole) (omega arith) own (us, own, omega arith, (refl, refl))
    (omega arith)

pub identifier_full : (n : ℕ) (at : Pos) (ts us : List Token) → Own (kind.Identifier n) at ts us → Passes 16 256 ts at
identifier_full n at ts us own = first_full 16 (kind.Identifier n) at ts us (identifier at n) (omega arith) own own (omega arith)

pub constant_full : (ty : IntType) (n : ℕ) (at : Pos) (ts us : List Token) → Own (kind.Constant ty n) at ts us → Passes 16 256 ts at
constant_full ty n at ts us own = first_full 16 (kind.Constant ty n) at ts us (constant at ty n) (omega arith) own own (omega arith)

pub string_full : (n : ℕ) (at : Pos) (ts us : List Token) → Own (kind.StringLiteral n) at ts us → Passes 16 256 ts at
string_full n at ts us own = first_full 16 (kind.StringLiteral n) at ts us (string at n) (omega arith) own own (omega arith)

pub paren_full : (at : Pos) (ts us : List Token) → Own (kind.Punctuator sign.ParenOpen) at ts us → Passes 16 256 ts at
paren_full at ts us own = first_full 16 (kind.Punctuator sign.ParenOpen) at ts us (paren hole) (omega arith) own
    (us, us, at, own, (refl, refl), inr (refl, refl)) (omega arith)

-- ---- no room for a node whose token comes after its first part

pub loop_passes : (top min d : ℕ) (ts cur mid : List Token) (left : Tree) (k : ℕ) (at : Pos) (op : BinaryOp) → min ≤ layer_of op → layer_of op < top →
    Own (kind.Punctuator (binary_sign op)) at cur mid → Loop top min d ts left k cur → 256 < d + 1 + k → Passes min d ts at
loop_passes top min d ts cur mid left k at op lo hi own h lt = record {
  tree = binary at op left hole;
  cut = mid;
  last = kind.Punctuator (binary_sign op);
  tight = lo;
  spells = (cur, mid, h.next op at mid hi own, whole_is_begun mid left ts cur h.spells, own, omega (arith, layer_of_most op), (refl, refl));
  ends = reaches_on ts cur _ (whole_reaches left ts cur h.spells) (own_last _ _ _ _ own);
  deep = omega (arith, lt, h.height);
}

pub choice_passes : (d : ℕ) (ts cur us : List Token) (e : Tree) (k : ℕ) (at : Pos) → Own (kind.Punctuator sign.Question) at cur us → Reads 3 d ts e k cur →
    256 < d + 1 + k → Passes 2 d ts at
choice_passes d ts cur us e k at own h lt = record {
  tree = conditional at e hole hole;
  cut = us;
  last = kind.Punctuator sign.Question;
  tight = omega arith;
  spells = (cur, us, us, us, h.tight, whole_is_begun us e ts cur h.spells, own, (refl, refl), inr (refl, refl), omega arith, (refl, refl));
  ends = reaches_on ts cur _ (whole_reaches e ts cur h.spells) (own_last _ _ _ _ own);
  deep = omega (arith, lt, h.height);
}

pub assign_passes : (d : ℕ) (ts cur us : List Token) (e : Tree) (k : ℕ) (at : Pos) (op : AssignOp) → Own (kind.Punctuator (assign_sign op)) at cur us →
    Reads 2 d ts e k cur → 14 ≤ layer e → 256 < d + 1 + k → Passes 1 d ts at
assign_passes d ts cur us e k at op own h le lt = record {
  tree = assign at op e hole;
  cut = us;
  last = kind.Punctuator (assign_sign op);
  tight = omega arith;
  spells = (cur, us, le, whole_is_begun us e ts cur h.spells, own, omega arith, (refl, refl));
  ends = reaches_on ts cur _ (whole_reaches e ts cur h.spells) (own_last _ _ _ _ own);
  deep = omega (arith, lt, h.height);
}

pub growing_step_passes : (d : ℕ) (ts cur us : List Token) (e : Tree) (k : ℕ) (at : Pos) (op : StepOp) → Own (kind.Punctuator (step_sign op)) at cur us →
    Growing d ts e k cur → 256 < d + 1 + k → Passes 15 d ts at
growing_step_passes d ts cur us e k at op own h lt = record {
  tree = after at op e;
  cut = us;
  last = kind.Punctuator (step_sign op);
  tight = omega arith;
  spells = (cur, h.tight, whole_is_begun us e ts cur h.spells, own);
  ends = reaches_on ts cur _ (whole_reaches e ts cur h.spells) (own_last _ _ _ _ own);
  deep = omega (arith, lt, h.height);
}

pub growing_index_passes : (d : ℕ) (ts cur us : List Token) (e : Tree) (k : ℕ) (at : Pos) → Own (kind.Punctuator sign.BracketOpen) at cur us →
    Growing d ts e k cur → 256 < d + 1 + k → Passes 15 d ts at
growing_index_passes d ts cur us e k at own h lt = record {
  tree = subscript at e hole;
  cut = us;
  last = (kind.Punctuator sign.BracketOpen);
  tight = omega arith;
  spells = (cur, us, us, h.tight, whole_is_begun us e ts cur h.spells, own, (refl, refl), inr (refl, refl));
  ends = reaches_on ts cur _ (whole_reaches e ts cur h.spells) (own_last _ _ _ _ own);
  deep = omega (arith, lt, h.height);
}

-- ---- a part whose refusal is justified

pub before_lift : (d : ℕ) (op : StepOp) (at : Pos) (ts us : List Token) (f : Refusal) → Own (kind.Punctuator (step_sign op)) at ts us → Stands 14 (d + 1) us f →
    Stands 14 d ts f
before_lift d op at ts us f own h = lift 14 14 d ts us f (before at op) (own_reaches _ _ _ _ own) (λ b cut le sp. (us, own, le, sp)) (λ b. omega arith)
    (λ b. omega arith) h

pub prefix_lift : (d : ℕ) (op : PrefixOp) (at : Pos) (ts us : List Token) (f : Refusal) → Own (kind.Punctuator (prefix_sign op)) at ts us →
    Stands 13 (d + 1) us f → Stands 14 d ts f
prefix_lift d op at ts us f own h = lift 14 13 d ts us f (prefix at op) (own_reaches _ _ _ _ own) (λ b cut le sp. (us, own, le, sp)) (λ b. omega arith)
    (λ b. omega arith) h

pub size_lift : (d : ℕ) (at : Pos) (ts us : List Token) (f : Refusal) → Own (kind.Keyword keyword.Sizeof) at ts us → Stands 14 (d + 1) us f → Stands 14 d ts f
size_lift d at ts us f own h = lift 14 14 d ts us f (size_of at) (own_reaches _ _ _ _ own) (λ b cut le sp. (us, own, le, sp)) (λ b. omega arith)
    (λ b. omega arith) h

pub size_type_lift : (d : ℕ) (at p : Pos) (ts us vs : List Token) (f : Refusal) → Own (kind.Keyword keyword.Sizeof) at ts us →
    Own (kind.Punctuator sign.ParenOpen) p us vs → StandsType (d + 1) vs f → Stands 14 d ts f
size_type_lift d at p ts us vs (Syntax x) o1 o2 h = tt
size_type_lift d at p ts us vs Memory o1 o2 h = tt
size_type_lift d at p ts us vs (Depth x) o1 o2 h = record {
  tree = size_of_type at h.tree;
  cut = h.cut;
  last = h.last;
  tight = omega arith;
  spells = (us, vs, h.spelled.0, o1, inl (p, o2), h.spelled.1, h.spelled.2);
  ends = reaches_on ts us _ (own_reaches _ _ _ _ o1) (reaches_on us vs _ (own_reaches _ _ _ _ o2) h.reaches);
  deep = omega (arith, h.deep);
}

pub cast_type_lift : (d : ℕ) (at : Pos) (ts us : List Token) (f : Refusal) → Own (kind.Punctuator sign.ParenOpen) at ts us → StandsType (d + 1) us f →
    Stands 13 d ts f
cast_type_lift d at ts us (Syntax x) own h = tt
cast_type_lift d at ts us Memory own h = tt
cast_type_lift d at ts us (Depth x) own h = record {
  tree = cast at h.tree hole;
  cut = h.cut;
  last = h.last;
  tight = omega arith;
  spells = (us, h.spelled.0, h.cut, own, h.spelled.1, h.spelled.2, omega arith, (refl, refl));
  ends = reaches_on ts us _ (own_reaches _ _ _ _ own) h.reaches;
  deep = omega (arith, h.deep);
}

pub cast_lift : (d n : ℕ) (at : Pos) (ts us mid : List Token) (ty : TypeTree) (j : ℕ) (f : Refusal) → Own (kind.Punctuator sign.ParenOpen) at ts us →
    ReadsOf (SpellsNamed None) Anywhere type_depth n us ty j mid → Stands 13 (d + 1) mid f → Stands 13 d ts f
cast_lift d n at ts us mid ty j f own named h = lift 13 13 d ts mid f (cast at ty)
    (reaches_on ts us mid (own_reaches _ _ _ _ own) (reaches_on us named.spelled.0 mid (type_reaches ty us named.spelled.0 named.spelled.1)
    (mark_reaches _ _ _ named.spelled.2))) (λ b cut le sp. (
      us,
      named.spelled.0,
      mid,
      own,
      type_is_begun cut ty us named.spelled.0 named.spelled.1,
      mark_begun
          cut _ _ _ named.spelled.2,
      le,
      sp,
    )) (λ b. omega arith) (λ b. omega arith) h

pub paren_lift : (d : ℕ) (at : Pos) (ts us : List Token) (f : Refusal) → Own (kind.Punctuator sign.ParenOpen) at ts us → Stands 0 (d + 1) us f →
    Stands 16 d ts f
paren_lift d at ts us f own h = lift 16 0 d ts us f paren (own_reaches _ _ _ _ own) (λ b cut le sp. (us, cut, at, own, sp, inr (refl, refl))) (λ b. omega arith)
    (λ b. omega arith) h

pub call_lift : (d n : ℕ) (at p : Pos) (ts us vs : List Token) (f : Refusal) → Own (kind.Identifier n) at ts us → Own (kind.Punctuator sign.ParenOpen) p us vs →
    StandsArguments (d + 1) vs f → Stands 16 d ts f
call_lift d n at p ts us vs (Syntax x) o1 o2 h = tt
call_lift d n at p ts us vs Memory o1 o2 h = tt
call_lift d n at p ts us vs (Depth x) o1 o2 h = record {
  tree = call at n h.tree;
  cut = h.cut;
  last = h.last;
  tight = omega arith;
  spells = (us, vs, h.spelled.0, o1, inl (p, o2), h.spelled.1, h.spelled.2);
  ends = reaches_on ts us _ (own_reaches _ _ _ _ o1) (reaches_on us vs _ (own_reaches _ _ _ _ o2) h.reaches);
  deep = omega (arith, h.deep);
}

pub growing_index_lift : (d : ℕ) (ts cur us : List Token) (e : Tree) (k : ℕ) (at : Pos) (f : Refusal) → Own (kind.Punctuator sign.BracketOpen) at cur us →
    Growing d ts e k cur → Stands 0 (d + 1) us f → Stands 15 d ts f
growing_index_lift d ts cur us e k at f own h s =
    lift 15 0 d ts us f (subscript at e) (reaches_on ts cur us (whole_reaches e ts cur h.spells) (own_reaches _ _ _ _ own))
    (λ b cut le sp. (cur, us, cut, h.tight, whole_is_begun cut e ts cur h.spells, own, sp, inr (refl, refl))) (λ b. omega arith) (λ b. omega arith) s

pub loop_stands : (top min d : ℕ) (ts cur mid : List Token) (left : Tree) (k : ℕ) (at : Pos) (op : BinaryOp) (f : Refusal) → min ≤ layer_of op →
    layer_of op < top → Own (kind.Punctuator (binary_sign op)) at cur mid → Loop top min d ts left k cur → Stands (layer_of op + 1) (d + 1) mid f →
    Stands min d ts f
loop_stands top min d ts cur mid left k at op f lo hi own h s =
    lift min (layer_of op + 1) d ts mid f (binary at op left) (reaches_on ts cur mid (whole_reaches left ts cur h.spells) (own_reaches _ _ _ _ own))
    (λ b cut le sp. (cur, mid, h.next op at mid hi own, whole_is_begun cut left ts cur h.spells, own, omega (arith, le), sp)) (λ b. lo) (λ b. omega arith) s

-- the second part of a choice
pub choice_yes_lift : (d : ℕ) (ts cur us : List Token) (e : Tree) (k : ℕ) (at : Pos) (f : Refusal) → Own (kind.Punctuator sign.Question) at cur us →
    Reads 3 d ts e k cur → Stands 0 (d + 1) us f → Stands 2 d ts f
choice_yes_lift d ts cur us e k at f own h s =
    lift 2 0 d ts us f (λ b. conditional at e b hole) (reaches_on ts cur us (whole_reaches e ts cur h.spells) (own_reaches _ _ _ _ own))
    (λ b cut le sp. (cur, us, cut, cut, h.tight, whole_is_begun cut e ts cur h.spells, own, sp, inr (refl, refl), omega arith, (refl, refl)))
    (λ b. omega arith) (λ b. omega arith) s

-- the third part of a choice
pub choice_no_lift : (d n : ℕ) (ts cur us mid vs : List Token) (e b : Tree) (k j : ℕ) (at p : Pos) (f : Refusal) → Own (kind.Punctuator sign.Question) at cur us
    → Reads 3 d ts e k cur → Reads 0 n us b j mid → Own (kind.Punctuator sign.Colon) p mid vs → Stands 2 (d + 1) vs f → Stands 2 d ts f
choice_no_lift d n ts cur us mid vs e b k j at p f own h first colon s =
    lift 2 2 d ts vs f (λ x. conditional at e b x) (reaches_on ts cur vs (whole_reaches e ts cur h.spells)
    (reaches_on cur us vs (own_reaches _ _ _ _ own) (reaches_on us mid vs (whole_reaches b us mid first.spells) (own_reaches _ _ _ _ colon))))
    (λ x cut le sp. (
      cur,
      us,
      mid,
      vs,
      h.tight,
      whole_is_begun cut e ts cur h.spells,
      own,
      whole_is_begun cut b us mid first.spells,
      inl (p, colon),
      le,
      sp,
    )) (λ x. omega arith) (λ x. omega arith) s

pub assign_lift : (d : ℕ) (ts cur us : List Token) (e : Tree) (k : ℕ) (at : Pos) (op : AssignOp) (f : Refusal) → Own (kind.Punctuator (assign_sign op)) at cur
    us → Reads 2 d ts e k cur → 14 ≤ layer e → Stands 1 (d + 1) us f → Stands 1 d ts f
assign_lift d ts cur us e k at op f own h le s =
    lift 1 1 d ts us f (assign at op e) (reaches_on ts cur us (whole_reaches e ts cur h.spells) (own_reaches _ _ _ _ own))
    (λ b cut l sp. (cur, us, le, whole_is_begun cut e ts cur h.spells, own, l, sp)) (λ b. omega arith) (λ b. omega arith) s

-- ---- the exit of a `?`

pub pass_stands : (n d : ℕ) (ts : List Token) (r : Result BoxedPart Refusal) (f : Refusal) → IsErrAnd r (λ e. e ≡ f) → Stands n d ts f →
    IfErr r (λ e. Stands n d ts e)
pass_stands n d ts r f is h = err_passed_on (Stands n d ts) r f is h

-- a place that is full
pub full_stands : (n d : ℕ) (ts : List Token) (at : Pos) (f : Refusal) → f ≡ Depth at → d ≡ 256 → Passes n 256 ts at → Stands n d ts f
full_stands n d ts at f ef ed h = rw (ef, ed) h

pub passes_stands : (n d : ℕ) (ts : List Token) (at : Pos) (f : Refusal) → f ≡ Depth at → Passes n d ts at → Stands n d ts f
passes_stands n d ts at f ef h = rw ef h
