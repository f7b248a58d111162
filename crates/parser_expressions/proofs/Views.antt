-- The tree of each kind of expression.
use Rattle.std.proofs.Common.{◌≡◌, ℕ, rules, map, ap, ◌∙◌, Global}
use Rattle.std.specs.Prelude.{Box, Vec}
use Rattle.srcset.specs.declared.refusal.Pos.{Pos}
use Rattle.ctypes.specs.declared.types.IntType.{IntType}
use Rattle.tree.specs.declared.expression.PrefixOp.{PrefixOp}
use Rattle.tree.specs.declared.expression.StepOp.{StepOp}
use Rattle.tree.specs.declared.expression.AssignOp.{AssignOp}
use Rattle.tree.specs.declared.expression.TypeSpecifiers.{TypeSpecifiers}
use Rattle.tree.specs.declared.expression.TypeName.{TypeName, roll-TypeName}
use Rattle.tree.specs.declared.expression.Expr.{Expr, the_lemmas}
use Rattle.tree.specs.declared.expression.Expr.TheViews as V
use Rattle.tree.specs.declared.expression.Expr.TheVariants as W
use Rattle.tree.specs.Tree.{identifier, constant, string, paren, call, before, prefix, size_of, size_of_type, cast, conditional, assign, type_name}
use Rattle.tree.specs.View.{tree_of, trees_of, type_of}

pub tree_Name : (p : Pos) (n : ℕ) → tree_of (W.Name p n) ≡ identifier p n
tree_Name p n = search (rules, the_lemmas)

pub tree_Constant : (p : Pos) (ty : IntType) (n : ℕ) → tree_of (W.Constant p ty n) ≡ constant p ty n
tree_Constant p ty n = search (rules, the_lemmas)

pub tree_StringLiteral : (p : Pos) (n : ℕ) → tree_of (W.StringLiteral p n) ≡ string p n
tree_StringLiteral p n = search (rules, the_lemmas)

pub tree_SizeofType : (p : Pos) (ty : TypeName) → tree_of (W.SizeofType p ty) ≡ size_of_type p (type_of ty)
tree_SizeofType p ty = search (rules, the_lemmas)

pub type_TypeName : (s : TypeSpecifiers) (v : Vec Expr Global) → type_of (roll-TypeName (record { specifiers = s; sizes = v })) ≡ type_name s.pos s.list.items
    (trees_of (map tree_of v.items))
type_TypeName s v = search (rules, the_lemmas)

pub tree_Call : (p : Pos) (n : ℕ) (v : Vec Expr Global) → tree_of (W.Call p n v) ≡ call p n (trees_of (map tree_of v.items))
tree_Call p n v = search (rules, the_lemmas)

cast_value : (p : Pos) (ty : TypeName) (b : Box Expr Global) → tree_of (V.Cast p ty b) ≡ cast p (type_of ty) (tree_of b.value)
cast_value p ty b = search (rules, the_lemmas)

paren_value : (b : Box Expr Global) → tree_of (V.Paren b) ≡ paren (tree_of b.value)
paren_value b = search (rules, the_lemmas)

before_value : (p : Pos) (op : StepOp) (b : Box Expr Global) → tree_of (V.Before p op b) ≡ before p op (tree_of b.value)
before_value p op b = search (rules, the_lemmas)

prefix_value : (p : Pos) (op : PrefixOp) (b : Box Expr Global) → tree_of (V.Prefix p op b) ≡ prefix p op (tree_of b.value)
prefix_value p op b = search (rules, the_lemmas)

size_value : (p : Pos) (b : Box Expr Global) → tree_of (V.SizeofExpr p b) ≡ size_of p (tree_of b.value)
size_value p b = search (rules, the_lemmas)

assign_value : (p : Pos) (op : AssignOp) (b c : Box Expr Global) → tree_of (V.Assign p op b c) ≡ assign p op (tree_of b.value) (tree_of c.value)
assign_value p op b c = search (rules, the_lemmas)

cond_value : (p : Pos) (a b c : Box Expr Global) → tree_of (V.Conditional p a b c) ≡ conditional p (tree_of a.value) (tree_of b.value) (tree_of c.value)
cond_value p a b c = search (rules, the_lemmas)

pub tree_Cast : (p : Pos) (ty : TypeName) (b : Box Expr Global) (e : Expr) → b.value ≡ e → tree_of (V.Cast p ty b) ≡ cast p (type_of ty) (tree_of e)
tree_Cast p ty b e h = cast_value p ty b ∙ ap (λ x. cast p (type_of ty) (tree_of x)) h

pub tree_Paren : (b : Box Expr Global) (e : Expr) → b.value ≡ e → tree_of (V.Paren b) ≡ paren (tree_of e)
tree_Paren b e h = paren_value b ∙ ap (λ x. paren (tree_of x)) h

pub tree_Before : (p : Pos) (op : StepOp) (b : Box Expr Global) (e : Expr) → b.value ≡ e → tree_of (V.Before p op b) ≡ before p op (tree_of e)
tree_Before p op b e h = before_value p op b ∙ ap (λ x. before p op (tree_of x)) h

pub tree_Prefix : (p : Pos) (op : PrefixOp) (b : Box Expr Global) (e : Expr) → b.value ≡ e → tree_of (V.Prefix p op b) ≡ prefix p op (tree_of e)
tree_Prefix p op b e h = prefix_value p op b ∙ ap (λ x. prefix p op (tree_of x)) h

pub tree_SizeofExpr : (p : Pos) (b : Box Expr Global) (e : Expr) → b.value ≡ e → tree_of (V.SizeofExpr p b) ≡ size_of p (tree_of e)
tree_SizeofExpr p b e h = size_value p b ∙ ap (λ x. size_of p (tree_of x)) h

pub tree_Assign : (p : Pos) (op : AssignOp) (b c : Box Expr Global) (e f : Expr) → b.value ≡ e → c.value ≡ f → tree_of (V.Assign p op b c) ≡ assign p op
    (tree_of e) (tree_of f)
tree_Assign p op b c e f h i = assign_value p op b c ∙ ap (λ x. assign p op (tree_of x) (tree_of c.value)) h ∙ ap (λ x. assign p op (tree_of e) (tree_of x)) i

pub tree_Conditional : (p : Pos) (a b c : Box Expr Global) (d e f : Expr) → a.value ≡ d → b.value ≡ e → c.value ≡ f → tree_of (V.Conditional p a b c) ≡
    conditional p (tree_of d) (tree_of e) (tree_of f)
tree_Conditional p a b c d e f g h i = cond_value p a b c ∙ ap (λ x. conditional p (tree_of x) (tree_of b.value) (tree_of c.value)) g
    ∙ ap (λ x. conditional p (tree_of d) (tree_of x) (tree_of c.value)) h ∙ ap (λ x. conditional p (tree_of d) (tree_of e) (tree_of x)) i
