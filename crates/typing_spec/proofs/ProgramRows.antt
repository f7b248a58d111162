-- Typed programs, computed: conversions, places, numbers, values and weights; limits, and trees that no list of tokens has.
use Rattle.std.proofs.Common.{◌≡◌, ℕ, zero, suc, refl, List, [], ◌∷◌, Some, None, ℤ, pos, negsuc, true, false}
use Rattle.std.specs.Prelude.{◌++◌, codes}
use Rattle.srcset.specs.declared.refusal.Pos.{Pos}
use Rattle.ctypes.specs.declared.types.IntType.TheVariants as ty
use Rattle.tree.specs.declared.expression.Word.TheVariants as word
use Rattle.tree.specs.declared.expression.TypeSpecifier.TheVariants as specifier
use Rattle.tree.specs.declared.expression.BinaryOp.TheVariants as operator
use Rattle.tree.specs.declared.expression.PrefixOp.TheVariants as sign
use Rattle.tree.specs.declared.expression.StepOp.TheVariants as step
use Rattle.tree.specs.declared.expression.AssignOp.TheVariants as assigning
use Rattle.tree.specs.Tree.{Tree, identifier, constant, string, paren, call, subscript, after, before, prefix, size_of, size_of_type, cast, binary, conditional, assign, no_trees, one_more, type_name, one_init, braced_init, no_inits, and_init, extern_specifier, static_specifier, plain_specifier, enumerators_specifier, object, function, declared, assertion, expression_start, declaration_start, block_stmt, empty_stmt, expression_stmt, if_stmt, if_else_stmt, switch_stmt, case_stmt, default_stmt, while_stmt, do_while_stmt, for_stmt, break_stmt, continue_stmt, return_stmt, declaration_item, statement_item, no_pieces, and_piece, ExternalTree, definition, declaration}
use Rattle.ctypes.specs.declared.operators.BinOp.TheVariants as op
use Rattle.typing_spec.specs.Types.{ObjectType}
use Rattle.typing_spec.specs.Verdict.{Verdict, fine, broken}
use Rattle.typing_spec.specs.Program as typed
use Rattle.typing_spec.specs.Program.{Value, Statement, Statements, Function, Static, Program}
use Rattle.typing_spec.specs.Scope.{Scope, file_scope, an_enumerator, no_linkage, defined, with_name}
use Rattle.typing_spec.specs.Expressions.{constant_value, typing}
use Rattle.typing_spec.specs.Units.{unit_typed, within_limits, Built}
use Rattle.typing_spec.specs.Told.{told, fault}

abbrev at : ℕ → Pos
at n = record { file = 0; line = n }

-- parts of a program
abbrev functions_of : Verdict Program → List Function
functions_of (fine p) = p.functions
functions_of (broken vs) = []

abbrev statics_of : Verdict Program → List Static
statics_of (fine p) = p.statics
statics_of (broken vs) = []

abbrev literals_of : Verdict Program → List (List ℕ)
literals_of (fine p) = p.literals
literals_of (broken vs) = []

abbrev bodies : List Function → List Statement
bodies [] = []
bodies (f ∷ fs) = f.body ∷ bodies fs

abbrev weights : List Function → List ℕ
weights [] = []
weights (f ∷ fs) = f.weight ∷ weights fs

abbrev objects : List Function → List (List ObjectType)
objects [] = []
objects (f ∷ fs) = f.objects ∷ objects fs

abbrev values : List Static → List (List ℤ)
values [] = []
values (o ∷ os) = o.values ∷ values os

abbrev one_of : Statement → Statements
one_of x = typed.and_statement x typed.no_statements

abbrev int : ℕ → Value
int n = typed.constant ty.Int (pos n)

abbrev plain : (lengths : List ℕ) → ObjectType
plain lengths = record { element = ty.Int; constant = false; lengths = lengths }

-- int main(void) { return -1 < 1u; }
mixed_comparison : bodies (functions_of (unit_typed 1048576 (codes "main.c" ∷ codes "main" ∷ []) (at 0) ((definition (record {
  start = (at 1);
  specifiers =
      ((plain_specifier (specifier.Word word.Int)) ∷ []);
  at = (at 1);
  name = 1;
  parameters = [];
  brace = (at 1);
  body = (and_piece (statement_item
      (return_stmt (at 1) (Some (binary (at 1) operator.Less (prefix (at 1) sign.Minus (constant (at 1) ty.Int 1)) (constant (at 1) ty.UInt 1))))) no_pieces);
})) ∷ []))) ≡ typed.block 0 0 (one_of (typed.return_value ty.Int (typed.binary (at 1) op.Less ty.UInt (typed.unary (at 1) sign.Minus ty.Int (int 1))
    (typed.constant ty.UInt (pos 1))))) ∷ []
mixed_comparison = refl

-- int main(void) { return 1 << 2u; }
shift_converts_left_alone : bodies (functions_of (unit_typed 1048576 (codes "main.c" ∷ codes "main" ∷ []) (at 0) ((definition (record {
  start = (at 1);
  specifiers =
      ((plain_specifier (specifier.Word word.Int)) ∷ []);
  at = (at 1);
  name = 1;
  parameters = [];
  brace = (at 1);
  body = (and_piece (statement_item
      (return_stmt (at 1) (Some (binary (at 1) operator.ShiftLeft (constant (at 1) ty.Int 1) (constant (at 1) ty.UInt 2))))) no_pieces);
})) ∷ []))) ≡
    typed.block 0 0 (one_of (typed.return_value ty.Int (typed.binary (at 1) op.Shl ty.Int (int 1) (typed.constant ty.UInt (pos 2))))) ∷ []
shift_converts_left_alone = refl

-- int main(void) { char c = 1; c += 2u; return c++; }
compound_of_char : bodies (functions_of (unit_typed 1048576 (codes "main.c" ∷ codes "main" ∷ codes "c" ∷ []) (at 0) ((definition (record {
  start = (at 1);
  specifiers = ((plain_specifier (specifier.Word word.Int)) ∷ []);
  at = (at 1);
  name = 1;
  parameters = [];
  brace = (at 1);
  body = (and_piece
      (declaration_item (declared (at 1) ((plain_specifier (specifier.Word word.Char)) ∷ []) ((object (at 1) 2 [] (Some (one_init (constant (at 1) ty.Int
      1)))) ∷ []))) (and_piece (statement_item (expression_stmt (at 1) (assign (at 1) assigning.Add (identifier (at 1) 2) (constant (at 1) ty.UInt 2))))
      (and_piece (statement_item (return_stmt (at 1) (Some (after (at 1) step.Increment (identifier (at 1) 2))))) no_pieces)));
})) ∷ []))) ≡ typed.block 0 1
    (typed.and_statement (typed.define 0 (typed.one_value ty.Char (int 1))) (typed.and_statement (typed.evaluate (typed.compound (at 1) op.Add ty.Char
    ty.UInt (typed.named (at 1) (typed.automatic 0)) (typed.constant ty.UInt (pos 2)))) (one_of (typed.return_value ty.Int (typed.stepped (at 1) typed.after
    step.Increment ty.Char ty.Int (typed.named (at 1) (typed.automatic 0))))))) ∷ []
compound_of_char = refl

-- int f(int a, int p[][3], char b) { int c; c = p[b][a]; return c; }
-- int main(void) { int m[2][3]; return f(1, m, 2); }
parameters_by_kind : bodies (functions_of (unit_typed 1048576 (codes "main.c" ∷ codes "f" ∷ codes "a" ∷ codes "p" ∷ codes "b" ∷ codes "c" ∷ codes "main" ∷ codes "m"
    ∷ []) (at 0) ((definition (record {
      start = (at 1);
      specifiers = ((plain_specifier (specifier.Word word.Int)) ∷ []);
      at = (at 1);
      name = 1;
      parameters =
          (record { at = (at 1); start = (at 1); specifiers = ((specifier.Word word.Int) ∷ []); name = (Some 2); sizes = [] } ∷ record {
            at = (at 1);
            start = (at
                1);
            specifiers = ((specifier.Word word.Int) ∷ []);
            name = (Some 3);
            sizes = (None ∷ (Some (constant (at 1) ty.Int 3)) ∷ []);
          } ∷ record {
            at = (at 1);
            start = (at 1);
            specifiers = ((specifier.Word word.Char) ∷ []);
            name = (Some 4);
            sizes = [];
          } ∷ []);
      brace = (at 1);
      body = (and_piece (declaration_item
          (declared (at 1) ((plain_specifier (specifier.Word word.Int)) ∷ []) ((object (at 1) 5 [] None) ∷ []))) (and_piece (statement_item (expression_stmt (at
          1) (assign (at 1) assigning.Plain (identifier (at 1) 5) (subscript (at 1) (subscript (at 1) (identifier (at 1) 3) (identifier (at 1) 4)) (identifier (at
          1) 2))))) (and_piece (statement_item (return_stmt (at 1) (Some (identifier (at 1) 5)))) no_pieces)));
    })) ∷ (definition (record {
      start = (at 2);
      specifiers = ((plain_specifier (specifier.Word word.Int)) ∷ []);
      at = (at 2);
      name = 6;
      parameters = [];
      brace = (at 2);
      body = (and_piece
          (declaration_item (declared (at 2) ((plain_specifier (specifier.Word word.Int)) ∷ []) ((object (at 2) 7 ((Some (constant (at 2) ty.Int 2)) ∷ (Some
          (constant (at 2) ty.Int 3)) ∷ []) None) ∷ []))) (and_piece (statement_item (return_stmt (at 2) (Some (call (at 2) 1 (one_more (constant (at 2) ty.Int 1)
          (one_more (identifier (at 2) 7) (one_more (constant (at 2) ty.Int 2) no_trees))))))) no_pieces));
    })) ∷ []))) ≡ typed.block 2 1 (typed.and_statement
    (typed.declare 2) (typed.and_statement (typed.evaluate (typed.assigned (at 1) ty.Int (typed.named (at 1) (typed.automatic 2)) (typed.read ty.Int
    (typed.element (at 1) (typed.element (at 1) (typed.named (at 1) (typed.parameter 0)) (typed.read ty.Char (typed.named (at 1) (typed.automatic 1))))
    (typed.read ty.Int (typed.named (at 1) (typed.automatic 0))))))) (one_of (typed.return_value ty.Int (typed.read ty.Int (typed.named (at 1)
    (typed.automatic 2))))))) ∷ typed.block 0 1 (typed.and_statement (typed.declare 0) (one_of (typed.return_value ty.Int (typed.call (at 2) (typed.function
    0) (Some ty.Int) true (typed.and_number ty.Int (int 1) (typed.and_array (typed.named (at 2) (typed.automatic 0)) (typed.and_number ty.Char (int 2)
    typed.no_arguments))))))) ∷ []
parameters_by_kind = refl

-- int f(int a, int p[][3], char b) { int c; c = p[b][a]; return c; }
-- int main(void) { int m[2][3]; return f(1, m, 2); }
their_objects : objects (functions_of (unit_typed 1048576 (codes "main.c" ∷ codes "f" ∷ codes "a" ∷ codes "p" ∷ codes "b" ∷ codes "c" ∷ codes "main" ∷ codes "m" ∷
    []) (at 0) ((definition (record {
      start = (at 1);
      specifiers = ((plain_specifier (specifier.Word word.Int)) ∷ []);
      at = (at 1);
      name = 1;
      parameters =
          (record { at = (at 1); start = (at 1); specifiers = ((specifier.Word word.Int) ∷ []); name = (Some 2); sizes = [] } ∷ record {
            at = (at 1);
            start = (at
                1);
            specifiers = ((specifier.Word word.Int) ∷ []);
            name = (Some 3);
            sizes = (None ∷ (Some (constant (at 1) ty.Int 3)) ∷ []);
          } ∷ record {
            at = (at 1);
            start = (at 1);
            specifiers = ((specifier.Word word.Char) ∷ []);
            name = (Some 4);
            sizes = [];
          } ∷ []);
      brace = (at 1);
      body = (and_piece (declaration_item
          (declared (at 1) ((plain_specifier (specifier.Word word.Int)) ∷ []) ((object (at 1) 5 [] None) ∷ []))) (and_piece (statement_item (expression_stmt (at
          1) (assign (at 1) assigning.Plain (identifier (at 1) 5) (subscript (at 1) (subscript (at 1) (identifier (at 1) 3) (identifier (at 1) 4)) (identifier (at
          1) 2))))) (and_piece (statement_item (return_stmt (at 1) (Some (identifier (at 1) 5)))) no_pieces)));
    })) ∷ (definition (record {
      start = (at 2);
      specifiers = ((plain_specifier (specifier.Word word.Int)) ∷ []);
      at = (at 2);
      name = 6;
      parameters = [];
      brace = (at 2);
      body = (and_piece
          (declaration_item (declared (at 2) ((plain_specifier (specifier.Word word.Int)) ∷ []) ((object (at 2) 7 ((Some (constant (at 2) ty.Int 2)) ∷ (Some
          (constant (at 2) ty.Int 3)) ∷ []) None) ∷ []))) (and_piece (statement_item (return_stmt (at 2) (Some (call (at 2) 1 (one_more (constant (at 2) ty.Int 1)
          (one_more (identifier (at 2) 7) (one_more (constant (at 2) ty.Int 2) no_trees))))))) no_pieces));
    })) ∷ []))) ≡ (plain [] ∷ record {
      element = ty.Char;
      constant = false;
      lengths = [];
    } ∷ plain [] ∷ []) ∷ (plain (2 ∷ 3 ∷ []) ∷ []) ∷ []
their_objects = refl

-- int g(void) { return 1; }
-- int main(void) { g(); (void)g(); g(), g(); return (g(), g()); }
used_and_unused : bodies (functions_of (unit_typed 1048576 (codes "main.c" ∷ codes "g" ∷ codes "main" ∷ []) (at 0) ((definition (record {
  start = (at 1);
  specifiers
      = ((plain_specifier (specifier.Word word.Int)) ∷ []);
  at = (at 1);
  name = 1;
  parameters = [];
  brace = (at 1);
  body = (and_piece (statement_item
      (return_stmt (at 1) (Some (constant (at 1) ty.Int 1)))) no_pieces);
})) ∷ (definition (record {
  start = (at 2);
  specifiers = ((plain_specifier
      (specifier.Word word.Int)) ∷ []);
  at = (at 2);
  name = 2;
  parameters = [];
  brace = (at 2);
  body = (and_piece (statement_item (expression_stmt (at 2)
      (call (at 2) 1 no_trees))) (and_piece (statement_item (expression_stmt (at 2) (cast (at 2) (type_name (at 2) ((specifier.Word word.Void) ∷ []) no_trees)
      (call (at 2) 1 no_trees)))) (and_piece (statement_item (expression_stmt (at 2) (binary (at 2) operator.Comma (call (at 2) 1 no_trees) (call (at 2) 1
      no_trees)))) (and_piece (statement_item (return_stmt (at 2) (Some (paren (binary (at 2) operator.Comma (call (at 2) 1 no_trees) (call (at 2) 1
      no_trees)))))) no_pieces))));
})) ∷ []))) ≡ typed.block 0 0 (one_of (typed.return_value ty.Int (int 1))) ∷ typed.block 0 0 (typed.and_statement
    (typed.evaluate (typed.call (at 2) (typed.function 0) (Some ty.Int) false typed.no_arguments)) (typed.and_statement (typed.evaluate (typed.discarded
    (typed.call (at 2) (typed.function 0) (Some ty.Int) false typed.no_arguments))) (typed.and_statement (typed.evaluate (typed.sequence (typed.call (at 2)
    (typed.function 0) (Some ty.Int) false typed.no_arguments) (typed.call (at 2) (typed.function 0) (Some ty.Int) false typed.no_arguments))) (one_of
    (typed.return_value ty.Int (typed.sequence (typed.call (at 2) (typed.function 0) (Some ty.Int) false typed.no_arguments) (typed.call (at 2)
    (typed.function 0) (Some ty.Int) true typed.no_arguments))))))) ∷ []
used_and_unused = refl

-- int main(void) { sizeof "xy"; return "a"[0]; }
literals_in_order : literals_of (unit_typed 1048576 (codes "main.c" ∷ codes "main" ∷ (codes "xy" ++ 0 ∷ []) ∷ (codes "a" ++ 0 ∷ []) ∷ []) (at 0) ((definition (record {
  start = (at 1);
  specifiers = ((plain_specifier (specifier.Word word.Int)) ∷ []);
  at = (at 1);
  name = 1;
  parameters = [];
  brace = (at 1);
  body = (and_piece
      (statement_item (expression_stmt (at 1) (size_of (at 1) (string (at 1) 2)))) (and_piece (statement_item (return_stmt (at 1) (Some (subscript (at 1)
      (string (at 1) 3) (constant (at 1) ty.Int 0))))) no_pieces));
})) ∷ [])) ≡ (120 ∷ 121 ∷ 0 ∷ []) ∷ (97 ∷ 0 ∷ []) ∷ []
literals_in_order = refl

-- int main(void) { sizeof "xy"; return "a"[0]; }
literal_numbered : bodies (functions_of (unit_typed 1048576 (codes "main.c" ∷ codes "main" ∷ (codes "xy" ++ 0 ∷ []) ∷ (codes "a" ++ 0 ∷ []) ∷ []) (at 0) ((definition (record {
  start = (at
      1);
  specifiers = ((plain_specifier (specifier.Word word.Int)) ∷ []);
  at = (at 1);
  name = 1;
  parameters = [];
  brace = (at 1);
  body = (and_piece
      (statement_item (expression_stmt (at 1) (size_of (at 1) (string (at 1) 2)))) (and_piece (statement_item (return_stmt (at 1) (Some (subscript (at 1)
      (string (at 1) 3) (constant (at 1) ty.Int 0))))) no_pieces));
})) ∷ []))) ≡ typed.block 0 0 (typed.and_statement (typed.evaluate (typed.constant ty.UInt
    (pos 3))) (one_of (typed.return_value ty.Int (typed.read ty.Char (typed.element (at 1) (typed.named (at 1) (typed.literal 1)) (int 0)))))) ∷ []
literal_numbered = refl

-- static int m[2][2] = {{1}, {3, 4}}; char s[] = {"ab"}; unsigned char c = 300; char t[2][3] = {"a", "b"}; int z;
-- int main(void) { static int k = -1; return 0; }
static_values : values (statics_of (unit_typed 1048576 (codes "main.c" ∷ codes "m" ∷ codes "s" ∷ (codes "ab" ++ 0 ∷ []) ∷ codes "c" ∷ codes "t" ∷ (codes "a" ++ 0 ∷ []) ∷ (codes "b" ++ 0 ∷ []) ∷ codes
    "z" ∷ codes "main" ∷ codes "k" ∷ []) (at 0) ((declaration (declared (at 1) (static_specifier ∷ (plain_specifier (specifier.Word word.Int)) ∷ [])
    ((object (at 1) 1 ((Some (constant (at 1) ty.Int 2)) ∷ (Some (constant (at 1) ty.Int 2)) ∷ []) (Some (braced_init (at 1) (and_init (braced_init (at 1)
    (and_init (one_init (constant (at 1) ty.Int 1)) no_inits)) (and_init (braced_init (at 1) (and_init (one_init (constant (at 1) ty.Int 3)) (and_init
    (one_init (constant (at 1) ty.Int 4)) no_inits))) no_inits))))) ∷ []))) ∷ (declaration (declared (at 1) ((plain_specifier (specifier.Word word.Char)) ∷
    []) ((object (at 1) 2 (None ∷ []) (Some (braced_init (at 1) (and_init (one_init (string (at 1) 3)) no_inits)))) ∷ []))) ∷ (declaration (declared (at 1)
    ((plain_specifier (specifier.Word word.Unsigned)) ∷ (plain_specifier (specifier.Word word.Char)) ∷ []) ((object (at 1) 4 [] (Some (one_init (constant
    (at 1) ty.Int 300)))) ∷ []))) ∷ (declaration (declared (at 1) ((plain_specifier (specifier.Word word.Char)) ∷ []) ((object (at 1) 5 ((Some (constant (at
    1) ty.Int 2)) ∷ (Some (constant (at 1) ty.Int 3)) ∷ []) (Some (braced_init (at 1) (and_init (one_init (string (at 1) 6)) (and_init (one_init (string (at
    1) 7)) no_inits))))) ∷ []))) ∷ (declaration (declared (at 1) ((plain_specifier (specifier.Word word.Int)) ∷ []) ((object (at 1) 8 [] None) ∷ []))) ∷
    (definition (record {
      start = (at 2);
      specifiers = ((plain_specifier (specifier.Word word.Int)) ∷ []);
      at = (at 2);
      name = 9;
      parameters = [];
      brace =
          (at 2);
      body = (and_piece (declaration_item (declared (at 2) (static_specifier ∷ (plain_specifier (specifier.Word word.Int)) ∷ []) ((object (at 2) 10 []
          (Some (one_init (prefix (at 2) sign.Minus (constant (at 2) ty.Int 1))))) ∷ []))) (and_piece (statement_item (return_stmt (at 2) (Some (constant (at 2)
          ty.Int 0)))) no_pieces));
    })) ∷ []))) ≡ (pos 1 ∷ pos 0 ∷ pos 3 ∷ pos 4 ∷ []) ∷ (pos 97 ∷ pos 98 ∷ []) ∷ (pos 44 ∷ []) ∷ (pos 97 ∷ pos 0 ∷ pos 0 ∷ pos 98
    ∷ pos 0 ∷ pos 0 ∷ []) ∷ [] ∷ (negsuc 0 ∷ []) ∷ []
static_values = refl

-- int main(void) { switch (1u) { int x = 1; case -1: default: return x; } }
switch_of_unsigned : bodies (functions_of (unit_typed 1048576 (codes "main.c" ∷ codes "main" ∷ codes "x" ∷ []) (at 0) ((definition (record {
  start = (at 1);
  specifiers = ((plain_specifier (specifier.Word word.Int)) ∷ []);
  at = (at 1);
  name = 1;
  parameters = [];
  brace = (at 1);
  body = (and_piece
      (statement_item (switch_stmt (at 1) (constant (at 1) ty.UInt 1) (block_stmt (at 1) (and_piece (declaration_item (declared (at 1) ((plain_specifier
      (specifier.Word word.Int)) ∷ []) ((object (at 1) 2 [] (Some (one_init (constant (at 1) ty.Int 1)))) ∷ []))) (and_piece (statement_item (case_stmt (at 1)
      (prefix (at 1) sign.Minus (constant (at 1) ty.Int 1)) (default_stmt (at 1) (return_stmt (at 1) (Some (identifier (at 1) 2)))))) no_pieces)))))
      no_pieces);
})) ∷ []))) ≡ typed.block 0 1 (one_of (typed.switch ty.UInt (typed.constant ty.UInt (pos 1)) 0 1 (typed.and_statement (typed.define 0
    (typed.one_value ty.Int (int 1))) (typed.and_statement (typed.case (pos 4294967295)) (typed.and_statement typed.default (one_of (typed.return_value
    ty.Int (typed.read ty.Int (typed.named (at 1) (typed.automatic 0)))))))))) ∷ []
switch_of_unsigned = refl

-- int main(void) { return (int)(char)300 ? 1 : 2u; }
cast_is_a_node : bodies (functions_of (unit_typed 1048576 (codes "main.c" ∷ codes "main" ∷ []) (at 0) ((definition (record {
  start = (at 1);
  specifiers =
      ((plain_specifier (specifier.Word word.Int)) ∷ []);
  at = (at 1);
  name = 1;
  parameters = [];
  brace = (at 1);
  body = (and_piece (statement_item
      (return_stmt (at 1) (Some (conditional (at 1) (cast (at 1) (type_name (at 1) ((specifier.Word word.Int) ∷ []) no_trees) (cast (at 1) (type_name (at 1)
      ((specifier.Word word.Char) ∷ []) no_trees) (constant (at 1) ty.Int 300))) (constant (at 1) ty.Int 1) (constant (at 1) ty.UInt 2))))) no_pieces);
})) ∷
    []))) ≡ typed.block 0 0 (one_of (typed.return_value ty.Int (typed.chosen (Some ty.UInt) (typed.cast ty.Int (typed.cast ty.Char (int 300))) (int 1)
    (typed.constant ty.UInt (pos 2))))) ∷ []
cast_is_a_node = refl

-- int a[];
-- extern int b[];
-- int main(void) { return a[0]; }
sizes_left_unknown : statics_of (unit_typed 1048576 (codes "main.c" ∷ codes "a" ∷ codes "b" ∷ codes "main" ∷ []) (at 0) ((declaration (declared (at 1)
    ((plain_specifier (specifier.Word word.Int)) ∷ []) ((object (at 1) 1 (None ∷ []) None) ∷ []))) ∷ (declaration (declared (at 2) (extern_specifier ∷
    (plain_specifier (specifier.Word word.Int)) ∷ []) ((object (at 2) 2 (None ∷ []) None) ∷ []))) ∷ (definition (record {
      start = (at 3);
      specifiers =
          ((plain_specifier (specifier.Word word.Int)) ∷ []);
      at = (at 3);
      name = 3;
      parameters = [];
      brace = (at 3);
      body = (and_piece (statement_item
          (return_stmt (at 3) (Some (subscript (at 3) (identifier (at 3) 1) (constant (at 3) ty.Int 0))))) no_pieces);
    })) ∷ [])) ≡ record {
      type = plain (1 ∷ []);
      defined = true;
      values = [];
    } ∷ record { type = plain (1 ∷ []); defined = false; values = [] } ∷ []
sizes_left_unknown = refl

-- int f(int p[3]) { return 0; }
-- int main(void) { return 42; }
weight_with_a_reference : weights (functions_of (unit_typed 1048576 (codes "main.c" ∷ codes "f" ∷ codes "p" ∷ codes "main" ∷ []) (at 0) ((definition (record {
  start
      = (at 1);
  specifiers = ((plain_specifier (specifier.Word word.Int)) ∷ []);
  at = (at 1);
  name = 1;
  parameters = (record {
    at = (at 1);
    start = (at 1);
    specifiers = ((specifier.Word word.Int) ∷ []);
    name = (Some 2);
    sizes = ((Some (constant (at 1) ty.Int 3)) ∷ []);
  } ∷ []);
  brace = (at 1);
  body =
      (and_piece (statement_item (return_stmt (at 1) (Some (constant (at 1) ty.Int 0)))) no_pieces);
})) ∷ (definition (record {
  start = (at 2);
  specifiers =
      ((plain_specifier (specifier.Word word.Int)) ∷ []);
  at = (at 2);
  name = 3;
  parameters = [];
  brace = (at 2);
  body = (and_piece (statement_item
      (return_stmt (at 2) (Some (constant (at 2) ty.Int 42)))) no_pieces);
})) ∷ []))) ≡ 176 ∷ 128 ∷ []
weight_with_a_reference = refl

-- int main(void) { return 42; }
weight_of_the_least : weights (functions_of (unit_typed 1048576 (codes "main.c" ∷ codes "main" ∷ []) (at 0) ((definition (record {
  start = (at 1);
  specifiers =
      ((plain_specifier (specifier.Word word.Int)) ∷ []);
  at = (at 1);
  name = 1;
  parameters = [];
  brace = (at 1);
  body = (and_piece (statement_item
      (return_stmt (at 1) (Some (constant (at 1) ty.Int 42)))) no_pieces);
})) ∷ []))) ≡ 128 ∷ []
weight_of_the_least = refl

-- int f(int n) { if (n == 0) return 0; return f(n - 1); }
-- int main(void) { char pad[208]; return f(3447); }
weight_of_a_recursion : weights (functions_of (unit_typed 1048576 (codes "main.c" ∷ codes "f" ∷ codes "n" ∷ codes "main" ∷ codes "pad" ∷ []) (at 0) ((definition
    (record {
      start = (at 1);
      specifiers = ((plain_specifier (specifier.Word word.Int)) ∷ []);
      at = (at 1);
      name = 1;
      parameters = (record {
        at = (at 1);
        start = (at 1);
        specifiers = ((specifier.Word word.Int) ∷ []);
        name = (Some 2);
        sizes = [];
      } ∷ []);
      brace = (at 1);
      body = (and_piece (statement_item
          (if_stmt (at 1) (binary (at 1) operator.Equal (identifier (at 1) 2) (constant (at 1) ty.Int 0)) (return_stmt (at 1) (Some (constant (at 1) ty.Int 0)))))
          (and_piece (statement_item (return_stmt (at 1) (Some (call (at 1) 1 (one_more (binary (at 1) operator.Sub (identifier (at 1) 2) (constant (at 1) ty.Int
          1)) no_trees))))) no_pieces));
    })) ∷ (definition (record {
      start = (at 2);
      specifiers = ((plain_specifier (specifier.Word word.Int)) ∷ []);
      at = (at 2);
      name = 3;
      parameters = [];
      brace = (at 2);
      body = (and_piece (declaration_item (declared (at 2) ((plain_specifier (specifier.Word word.Char)) ∷ [])
          ((object (at 2) 4 ((Some (constant (at 2) ty.Int 208)) ∷ []) None) ∷ []))) (and_piece (statement_item (return_stmt (at 2) (Some (call (at 2) 1 (one_more
          (constant (at 2) ty.Int 3447) no_trees))))) no_pieces));
    })) ∷ []))) ≡ 304 ∷ 384 ∷ []
weight_of_a_recursion = refl

-- a scope with the enumerator 5 as the name 1
abbrev with_five : Scope
with_five = with_name (file_scope [] []) 1 (an_enumerator (pos 5)) no_linkage defined

-- 5 - 6u, of type unsigned int
constant_of_unsigned : constant_value with_five (binary (at 1) operator.Sub (identifier (at 1) 1) (constant (at 1) ty.UInt 6))
    ≡ fine (record { type = ty.UInt; v = pos 4294967295 })
constant_of_unsigned = refl

-- 0 && 1 / 0
not_evaluated : constant_value with_five (binary (at 1) operator.And (constant (at 1) ty.Int 0) (binary (at 1) operator.Div (constant (at 1) ty.Int 1) (constant (at 1) ty.Int 0)))
    ≡ fine (record { type = ty.Int; v = pos 0 })
not_evaluated = refl

-- 1 / 0 at line 1, 1 << 99 at line 2: the first evaluated
first_evaluated : told (constant_value with_five (binary (at 3) operator.Add (binary (at 1) operator.Div (constant (at 1) ty.Int 1) (constant (at 1) ty.Int 0))
    (binary (at 2) operator.ShiftLeft (constant (at 2) ty.Int 1) (constant (at 2) ty.Int 99)))) ≡ fault 503 1 ∷ []
first_evaluated = refl

-- f() + y, both undeclared: that it is no constant expression comes first
not_constant_first : told (constant_value with_five (binary (at 1) operator.Add (call (at 1) 8 no_trees) (identifier (at 1) 9))) ≡ fault 501 1 ∷ []
not_constant_first = refl

-- -2147483647 - 1 by an operation that is not there
least_negated : told (constant_value with_five (prefix (at 1) sign.Minus (binary (at 1) operator.Sub (prefix (at 1) sign.Minus (constant (at 1) ty.Int 2147483647)) (constant (at 1) ty.Int 1))))
    ≡ fault 502 1 ∷ []
least_negated = refl

-- a constant outside its type is taken as converted to it
outside_its_type : constant_value with_five (constant (at 1) ty.Char 300) ≡ fine (record { type = ty.Char; v = pos 44 })
outside_its_type = refl

-- a hole, which no list of tokens leaves
hole_in_a_tree : told (typing with_five Rattle.tree.specs.Tree.hole) ≡ fault 401 0 ∷ []
hole_in_a_tree = refl

-- as many functions as the profile has, and one more
abbrev repeated : {A : Type 0} → ℕ → A → List A
repeated zero x = []
repeated (suc n) x = x ∷ repeated n x

abbrev some_function : Function
some_function = record { name = 0; type = record { result = None; constant = false; parameters = [] }; objects = []; body = typed.empty; nodes = 2; weight = 96 }

abbrev built : ℕ → Built
built n = record { stack = 1048576; scope = file_scope [] []; functions = repeated n some_function; initial = [] }

most_functions : told (within_limits (at 0) (built 16384)) ≡ []
most_functions = refl

too_many_functions : told (within_limits (at 0) (built 16385)) ≡ fault 715 0 ∷ []
too_many_functions = refl
