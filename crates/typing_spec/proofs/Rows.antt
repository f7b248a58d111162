-- Expressions, statements and units: sources of the profile and the verdict of the rules on them, each fault with its line; 0 is that
-- of the whole unit.
use Rattle.std.proofs.Common.{◌≡◌, ℕ, refl, [], ◌∷◌, Some, None}
use Rattle.std.specs.Prelude.{◌++◌, codes}
use Rattle.srcset.specs.declared.refusal.Pos.{Pos}
use Rattle.ctypes.specs.declared.types.IntType.TheVariants as ty
use Rattle.tree.specs.declared.expression.Word.TheVariants as word
use Rattle.tree.specs.declared.expression.TypeSpecifier.TheVariants as specifier
use Rattle.tree.specs.declared.expression.BinaryOp.TheVariants as operator
use Rattle.tree.specs.declared.expression.PrefixOp.TheVariants as sign
use Rattle.tree.specs.declared.expression.StepOp.TheVariants as step
use Rattle.tree.specs.declared.expression.AssignOp.TheVariants as assigning
use Rattle.tree.specs.Tree.{identifier, constant, string, paren, call, subscript, after, before, prefix, size_of, size_of_type, cast, binary, conditional, assign, no_trees, one_more, type_name, one_init, braced_init, no_inits, and_init, extern_specifier, static_specifier, plain_specifier, enumerators_specifier, object, function, declared, assertion, expression_start, block_stmt, empty_stmt, expression_stmt, if_stmt, if_else_stmt, switch_stmt, case_stmt, default_stmt, while_stmt, do_while_stmt, for_stmt, break_stmt, continue_stmt, return_stmt, declaration_item, statement_item, no_pieces, and_piece, definition, declaration}
use Rattle.typing_spec.specs.Units.{unit_typed}
use Rattle.typing_spec.specs.Told.{told, fault}

abbrev at : ℕ → Pos
at n = record { file = 0; line = n }

-- int main(void) { return y; }
undeclared_name : told (unit_typed 1048576 (codes "main.c" ∷ codes "main" ∷ codes "y" ∷ []) (at 0) ((definition (record {
  start = (at 1);
  specifiers =
      ((plain_specifier (specifier.Word word.Int)) ∷ []);
  at = (at 1);
  name = 1;
  parameters = [];
  brace = (at 1);
  body = (and_piece (statement_item
      (return_stmt (at 1) (Some (identifier (at 1) 2)))) no_pieces);
})) ∷ [])) ≡ fault 528 1 ∷ []
undeclared_name = refl

-- int main(void) { return f(); }
undeclared_call : told (unit_typed 1048576 (codes "main.c" ∷ codes "main" ∷ codes "f" ∷ []) (at 0) ((definition (record {
  start = (at 1);
  specifiers =
      ((plain_specifier (specifier.Word word.Int)) ∷ []);
  at = (at 1);
  name = 1;
  parameters = [];
  brace = (at 1);
  body = (and_piece (statement_item
      (return_stmt (at 1) (Some (call (at 1) 2 no_trees)))) no_pieces);
})) ∷ [])) ≡ fault 528 1 ∷ []
undeclared_call = refl

-- int main(void) { return y +
-- z; }
two_undeclared : told (unit_typed 1048576 (codes "main.c" ∷ codes "main" ∷ codes "y" ∷ codes "z" ∷ []) (at 0) ((definition (record {
  start = (at 1);
  specifiers =
      ((plain_specifier (specifier.Word word.Int)) ∷ []);
  at = (at 1);
  name = 1;
  parameters = [];
  brace = (at 1);
  body = (and_piece (statement_item
      (return_stmt (at 1) (Some (binary (at 1) operator.Add (identifier (at 1) 2) (identifier (at 2) 3))))) no_pieces);
})) ∷ [])) ≡ fault 528 1 ∷ fault 528 2
    ∷ []
two_undeclared = refl

-- int main(void) { int x = 0; return x[0]; }
subscript_of_number : told (unit_typed 1048576 (codes "main.c" ∷ codes "main" ∷ codes "x" ∷ []) (at 0) ((definition (record {
  start = (at 1);
  specifiers =
      ((plain_specifier (specifier.Word word.Int)) ∷ []);
  at = (at 1);
  name = 1;
  parameters = [];
  brace = (at 1);
  body = (and_piece (declaration_item
      (declared (at 1) ((plain_specifier (specifier.Word word.Int)) ∷ []) ((object (at 1) 2 [] (Some (one_init (constant (at 1) ty.Int 0)))) ∷ [])))
      (and_piece (statement_item (return_stmt (at 1) (Some (subscript (at 1) (identifier (at 1) 2) (constant (at 1) ty.Int 0))))) no_pieces));
})) ∷ [])) ≡
    fault 529 1 ∷ []
subscript_of_number = refl

-- int main(void) { int a[2]; int b[2]; return a[b]; }
index_of_array : told (unit_typed 1048576 (codes "main.c" ∷ codes "main" ∷ codes "a" ∷ codes "b" ∷ []) (at 0) ((definition (record {
  start = (at 1);
  specifiers =
      ((plain_specifier (specifier.Word word.Int)) ∷ []);
  at = (at 1);
  name = 1;
  parameters = [];
  brace = (at 1);
  body = (and_piece (declaration_item
      (declared (at 1) ((plain_specifier (specifier.Word word.Int)) ∷ []) ((object (at 1) 2 ((Some (constant (at 1) ty.Int 2)) ∷ []) None) ∷ []))) (and_piece
      (declaration_item (declared (at 1) ((plain_specifier (specifier.Word word.Int)) ∷ []) ((object (at 1) 3 ((Some (constant (at 1) ty.Int 2)) ∷ []) None) ∷
      []))) (and_piece (statement_item (return_stmt (at 1) (Some (subscript (at 1) (identifier (at 1) 2) (identifier (at 1) 3))))) no_pieces)));
})) ∷ [])) ≡
    fault 529 1 ∷ []
index_of_array = refl

-- int main(void) { int a[2]; return 1[a]; }
reversed : told (unit_typed 1048576 (codes "main.c" ∷ codes "main" ∷ codes "a" ∷ []) (at 0) ((definition (record {
  start = (at 1);
  specifiers = ((plain_specifier
      (specifier.Word word.Int)) ∷ []);
  at = (at 1);
  name = 1;
  parameters = [];
  brace = (at 1);
  body = (and_piece (declaration_item (declared (at 1)
      ((plain_specifier (specifier.Word word.Int)) ∷ []) ((object (at 1) 2 ((Some (constant (at 1) ty.Int 2)) ∷ []) None) ∷ []))) (and_piece (statement_item
      (return_stmt (at 1) (Some (subscript (at 1) (constant (at 1) ty.Int 1) (identifier (at 1) 2))))) no_pieces));
})) ∷ [])) ≡ fault 621 1 ∷ []
reversed = refl

-- int main(void) { int x = 0; return x(); }
call_of_object : told (unit_typed 1048576 (codes "main.c" ∷ codes "main" ∷ codes "x" ∷ []) (at 0) ((definition (record {
  start = (at 1);
  specifiers =
      ((plain_specifier (specifier.Word word.Int)) ∷ []);
  at = (at 1);
  name = 1;
  parameters = [];
  brace = (at 1);
  body = (and_piece (declaration_item
      (declared (at 1) ((plain_specifier (specifier.Word word.Int)) ∷ []) ((object (at 1) 2 [] (Some (one_init (constant (at 1) ty.Int 0)))) ∷ [])))
      (and_piece (statement_item (return_stmt (at 1) (Some (call (at 1) 2 no_trees)))) no_pieces));
})) ∷ [])) ≡ fault 530 1 ∷ []
call_of_object = refl

-- enum { A }; int main(void) { return A(); }
call_of_enumerator : told (unit_typed 1048576 (codes "main.c" ∷ codes "A" ∷ codes "main" ∷ []) (at 0) ((declaration (declared (at 1) ((enumerators_specifier None
    (record { at = (at 1); name = 1; value = None } ∷ [])) ∷ []) [])) ∷ (definition (record {
      start = (at 1);
      specifiers = ((plain_specifier (specifier.Word
          word.Int)) ∷ []);
      at = (at 1);
      name = 2;
      parameters = [];
      brace = (at 1);
      body = (and_piece (statement_item (return_stmt (at 1) (Some (call (at 1) 1
          no_trees)))) no_pieces);
    })) ∷ [])) ≡ fault 530 1 ∷ []
call_of_enumerator = refl

-- int f(int a, int b) { return a + b; }
-- int main(void) { return f(1); }
too_few : told (unit_typed 1048576 (codes "main.c" ∷ codes "f" ∷ codes "a" ∷ codes "b" ∷ codes "main" ∷ []) (at 0) ((definition (record {
  start = (at 1);
  specifiers
      = ((plain_specifier (specifier.Word word.Int)) ∷ []);
  at = (at 1);
  name = 1;
  parameters = (record {
    at = (at 1);
    start = (at 1);
    specifiers =
        ((specifier.Word word.Int) ∷ []);
    name = (Some 2);
    sizes = [];
  } ∷ record {
    at = (at 1);
    start = (at 1);
    specifiers = ((specifier.Word word.Int) ∷ []);
    name = (Some 3);
    sizes = [];
  } ∷ []);
  brace = (at 1);
  body = (and_piece (statement_item (return_stmt (at 1) (Some (binary (at 1) operator.Add (identifier
      (at 1) 2) (identifier (at 1) 3))))) no_pieces);
})) ∷ (definition (record {
  start = (at 2);
  specifiers = ((plain_specifier (specifier.Word word.Int)) ∷
      []);
  at = (at 2);
  name = 4;
  parameters = [];
  brace = (at 2);
  body = (and_piece (statement_item (return_stmt (at 2) (Some (call (at 2) 1 (one_more
      (constant (at 2) ty.Int 1) no_trees))))) no_pieces);
})) ∷ [])) ≡ fault 531 2 ∷ []
too_few = refl

-- int f(void) { return 1; }
-- int main(void) { return f(1); }
too_many : told (unit_typed 1048576 (codes "main.c" ∷ codes "f" ∷ codes "main" ∷ []) (at 0) ((definition (record {
  start = (at 1);
  specifiers = ((plain_specifier
      (specifier.Word word.Int)) ∷ []);
  at = (at 1);
  name = 1;
  parameters = [];
  brace = (at 1);
  body = (and_piece (statement_item (return_stmt (at 1) (Some
      (constant (at 1) ty.Int 1)))) no_pieces);
})) ∷ (definition (record {
  start = (at 2);
  specifiers = ((plain_specifier (specifier.Word word.Int)) ∷ []);
  at
      = (at 2);
  name = 2;
  parameters = [];
  brace = (at 2);
  body = (and_piece (statement_item (return_stmt (at 2) (Some (call (at 2) 1 (one_more (constant (at
      2) ty.Int 1) no_trees))))) no_pieces);
})) ∷ [])) ≡ fault 531 2 ∷ []
too_many = refl

-- int rv_getbyte(void); void rv_putbyte(int c); void rv_exit(int status);
-- int f(int a) { return a; }
-- int main(void) { return f(rv_putbyte(1)); }
void_argument : told (unit_typed 1048576 (codes "main.c" ∷ codes "rv_getbyte" ∷ codes "rv_putbyte" ∷ codes "c" ∷ codes "rv_exit" ∷ codes "status" ∷ codes "f" ∷
    codes "a" ∷ codes "main" ∷ []) (at 0) ((declaration (declared (at 1) ((plain_specifier (specifier.Word word.Int)) ∷ []) ((function (at 1) 1 []) ∷ [])))
    ∷ (declaration (declared (at 1) ((plain_specifier (specifier.Word word.Void)) ∷ []) ((function (at 1) 2 (record {
      at = (at 1);
      start = (at 1);
      specifiers = ((specifier.Word word.Int) ∷ []);
      name = (Some 3);
      sizes = [];
    } ∷ [])) ∷ []))) ∷ (declaration (declared (at 1) ((plain_specifier
    (specifier.Word word.Void)) ∷ []) ((function (at 1) 4 (record {
      at = (at 1);
      start = (at 1);
      specifiers = ((specifier.Word word.Int) ∷ []);
      name = (Some
          5);
      sizes = [];
    } ∷ [])) ∷ []))) ∷ (definition (record {
      start = (at 2);
      specifiers = ((plain_specifier (specifier.Word word.Int)) ∷ []);
      at = (at 2);
      name = 6;
      parameters = (record { at = (at 2); start = (at 2); specifiers = ((specifier.Word word.Int) ∷ []); name = (Some 7); sizes = [] } ∷ []);
      brace
          = (at 2);
      body = (and_piece (statement_item (return_stmt (at 2) (Some (identifier (at 2) 7)))) no_pieces);
    })) ∷ (definition (record {
      start = (at 3);
      specifiers = ((plain_specifier (specifier.Word word.Int)) ∷ []);
      at = (at 3);
      name = 8;
      parameters = [];
      brace = (at 3);
      body = (and_piece
          (statement_item (return_stmt (at 3) (Some (call (at 3) 6 (one_more (call (at 3) 2 (one_more (constant (at 3) ty.Int 1) no_trees)) no_trees)))))
          no_pieces);
    })) ∷ [])) ≡ fault 532 3 ∷ []
void_argument = refl

-- int f(int p[]) { return p[0]; }
-- int main(void) { return f(0); }
number_for_array : told (unit_typed 1048576 (codes "main.c" ∷ codes "f" ∷ codes "p" ∷ codes "main" ∷ []) (at 0) ((definition (record {
  start = (at 1);
  specifiers =
      ((plain_specifier (specifier.Word word.Int)) ∷ []);
  at = (at 1);
  name = 1;
  parameters = (record {
    at = (at 1);
    start = (at 1);
    specifiers =
        ((specifier.Word word.Int) ∷ []);
    name = (Some 2);
    sizes = (None ∷ []);
  } ∷ []);
  brace = (at 1);
  body = (and_piece (statement_item (return_stmt (at 1)
      (Some (subscript (at 1) (identifier (at 1) 2) (constant (at 1) ty.Int 0))))) no_pieces);
})) ∷ (definition (record {
  start = (at 2);
  specifiers =
      ((plain_specifier (specifier.Word word.Int)) ∷ []);
  at = (at 2);
  name = 3;
  parameters = [];
  brace = (at 2);
  body = (and_piece (statement_item
      (return_stmt (at 2) (Some (call (at 2) 1 (one_more (constant (at 2) ty.Int 0) no_trees))))) no_pieces);
})) ∷ [])) ≡ fault 532 2 ∷ []
number_for_array = refl

-- int f(int a) { return a; }
-- int main(void) { int b[2]; return f(b); }
array_for_number : told (unit_typed 1048576 (codes "main.c" ∷ codes "f" ∷ codes "a" ∷ codes "main" ∷ codes "b" ∷ []) (at 0) ((definition (record {
  start = (at 1);
  specifiers = ((plain_specifier (specifier.Word word.Int)) ∷ []);
  at = (at 1);
  name = 1;
  parameters = (record {
    at = (at 1);
    start = (at 1);
    specifiers =
        ((specifier.Word word.Int) ∷ []);
    name = (Some 2);
    sizes = [];
  } ∷ []);
  brace = (at 1);
  body = (and_piece (statement_item (return_stmt (at 1) (Some
      (identifier (at 1) 2)))) no_pieces);
})) ∷ (definition (record {
  start = (at 2);
  specifiers = ((plain_specifier (specifier.Word word.Int)) ∷ []);
  at =
      (at 2);
  name = 3;
  parameters = [];
  brace = (at 2);
  body = (and_piece (declaration_item (declared (at 2) ((plain_specifier (specifier.Word word.Int)) ∷
      []) ((object (at 2) 4 ((Some (constant (at 2) ty.Int 2)) ∷ []) None) ∷ []))) (and_piece (statement_item (return_stmt (at 2) (Some (call (at 2) 1
      (one_more (identifier (at 2) 4) no_trees))))) no_pieces));
})) ∷ [])) ≡ fault 620 2 ∷ []
array_for_number = refl

-- int f(char p[]) { return p[0]; }
-- int main(void) { int b[2]; return f(b); }
other_elements : told (unit_typed 1048576 (codes "main.c" ∷ codes "f" ∷ codes "p" ∷ codes "main" ∷ codes "b" ∷ []) (at 0) ((definition (record {
  start = (at 1);
  specifiers = ((plain_specifier (specifier.Word word.Int)) ∷ []);
  at = (at 1);
  name = 1;
  parameters = (record {
    at = (at 1);
    start = (at 1);
    specifiers =
        ((specifier.Word word.Char) ∷ []);
    name = (Some 2);
    sizes = (None ∷ []);
  } ∷ []);
  brace = (at 1);
  body = (and_piece (statement_item (return_stmt (at 1)
      (Some (subscript (at 1) (identifier (at 1) 2) (constant (at 1) ty.Int 0))))) no_pieces);
})) ∷ (definition (record {
  start = (at 2);
  specifiers =
      ((plain_specifier (specifier.Word word.Int)) ∷ []);
  at = (at 2);
  name = 3;
  parameters = [];
  brace = (at 2);
  body = (and_piece (declaration_item
      (declared (at 2) ((plain_specifier (specifier.Word word.Int)) ∷ []) ((object (at 2) 4 ((Some (constant (at 2) ty.Int 2)) ∷ []) None) ∷ []))) (and_piece
      (statement_item (return_stmt (at 2) (Some (call (at 2) 1 (one_more (identifier (at 2) 4) no_trees))))) no_pieces));
})) ∷ [])) ≡ fault 532 2 ∷ []
other_elements = refl

-- int f(int p[]) { return p[0]; }
-- int main(void) { const int b[1] = {0}; return f(b); }
const_for_plain : told (unit_typed 1048576 (codes "main.c" ∷ codes "f" ∷ codes "p" ∷ codes "main" ∷ codes "b" ∷ []) (at 0) ((definition (record {
  start = (at 1);
  specifiers = ((plain_specifier (specifier.Word word.Int)) ∷ []);
  at = (at 1);
  name = 1;
  parameters = (record {
    at = (at 1);
    start = (at 1);
    specifiers =
        ((specifier.Word word.Int) ∷ []);
    name = (Some 2);
    sizes = (None ∷ []);
  } ∷ []);
  brace = (at 1);
  body = (and_piece (statement_item (return_stmt (at 1)
      (Some (subscript (at 1) (identifier (at 1) 2) (constant (at 1) ty.Int 0))))) no_pieces);
})) ∷ (definition (record {
  start = (at 2);
  specifiers =
      ((plain_specifier (specifier.Word word.Int)) ∷ []);
  at = (at 2);
  name = 3;
  parameters = [];
  brace = (at 2);
  body = (and_piece (declaration_item
      (declared (at 2) ((plain_specifier specifier.Const) ∷ (plain_specifier (specifier.Word word.Int)) ∷ []) ((object (at 2) 4 ((Some (constant (at 2) ty.Int
      1)) ∷ []) (Some (braced_init (at 2) (and_init (one_init (constant (at 2) ty.Int 0)) no_inits)))) ∷ []))) (and_piece (statement_item (return_stmt (at 2)
      (Some (call (at 2) 1 (one_more (identifier (at 2) 4) no_trees))))) no_pieces));
})) ∷ [])) ≡ fault 532 2 ∷ []
const_for_plain = refl

-- int f(const int p[]) { return p[0]; }
-- int main(void) { int a[3] = {0}; return f(a); }
plain_for_const : told (unit_typed 1048576 (codes "main.c" ∷ codes "f" ∷ codes "p" ∷ codes "main" ∷ codes "a" ∷ []) (at 0) ((definition (record {
  start = (at 1);
  specifiers = ((plain_specifier (specifier.Word word.Int)) ∷ []);
  at = (at 1);
  name = 1;
  parameters = (record {
    at = (at 1);
    start = (at 1);
    specifiers =
        (specifier.Const ∷ (specifier.Word word.Int) ∷ []);
    name = (Some 2);
    sizes = (None ∷ []);
  } ∷ []);
  brace = (at 1);
  body = (and_piece (statement_item
      (return_stmt (at 1) (Some (subscript (at 1) (identifier (at 1) 2) (constant (at 1) ty.Int 0))))) no_pieces);
})) ∷ (definition (record {
  start = (at 2);
  specifiers = ((plain_specifier (specifier.Word word.Int)) ∷ []);
  at = (at 2);
  name = 3;
  parameters = [];
  brace = (at 2);
  body = (and_piece
      (declaration_item (declared (at 2) ((plain_specifier (specifier.Word word.Int)) ∷ []) ((object (at 2) 4 ((Some (constant (at 2) ty.Int 3)) ∷ []) (Some
      (braced_init (at 2) (and_init (one_init (constant (at 2) ty.Int 0)) no_inits)))) ∷ []))) (and_piece (statement_item (return_stmt (at 2) (Some (call (at
      2) 1 (one_more (identifier (at 2) 4) no_trees))))) no_pieces));
})) ∷ [])) ≡ []
plain_for_const = refl

-- int f(const int p[][3]) { return p[0][0]; }
-- int main(void) { int a[2][3] = {{0}}; return f(a); }
plain_rows_for_const : told (unit_typed 1048576 (codes "main.c" ∷ codes "f" ∷ codes "p" ∷ codes "main" ∷ codes "a" ∷ []) (at 0) ((definition (record {
  start = (at
      1);
  specifiers = ((plain_specifier (specifier.Word word.Int)) ∷ []);
  at = (at 1);
  name = 1;
  parameters = (record {
    at = (at 1);
    start = (at 1);
    specifiers = (specifier.Const ∷ (specifier.Word word.Int) ∷ []);
    name = (Some 2);
    sizes = (None ∷ (Some (constant (at 1) ty.Int 3)) ∷ []);
  } ∷ []);
  brace
      = (at 1);
  body = (and_piece (statement_item (return_stmt (at 1) (Some (subscript (at 1) (subscript (at 1) (identifier (at 1) 2) (constant (at 1) ty.Int
      0)) (constant (at 1) ty.Int 0))))) no_pieces);
})) ∷ (definition (record {
  start = (at 2);
  specifiers = ((plain_specifier (specifier.Word word.Int)) ∷
      []);
  at = (at 2);
  name = 3;
  parameters = [];
  brace = (at 2);
  body = (and_piece (declaration_item (declared (at 2) ((plain_specifier (specifier.Word
      word.Int)) ∷ []) ((object (at 2) 4 ((Some (constant (at 2) ty.Int 2)) ∷ (Some (constant (at 2) ty.Int 3)) ∷ []) (Some (braced_init (at 2) (and_init
      (braced_init (at 2) (and_init (one_init (constant (at 2) ty.Int 0)) no_inits)) no_inits)))) ∷ []))) (and_piece (statement_item (return_stmt (at 2) (Some
      (call (at 2) 1 (one_more (identifier (at 2) 4) no_trees))))) no_pieces));
})) ∷ [])) ≡ fault 532 2 ∷ []
plain_rows_for_const = refl

-- int f(int p[]) { return p[0]; } int main(void) { static int m[5][3]; return f(m[1]) + f(m[2]); }
row_for_array : told (unit_typed 1048576 (codes "main.c" ∷ codes "f" ∷ codes "p" ∷ codes "main" ∷ codes "m" ∷ []) (at 0) ((definition (record {
  start = (at 1);
  specifiers = ((plain_specifier (specifier.Word word.Int)) ∷ []);
  at = (at 1);
  name = 1;
  parameters = (record {
    at = (at 1);
    start = (at 1);
    specifiers =
        ((specifier.Word word.Int) ∷ []);
    name = (Some 2);
    sizes = (None ∷ []);
  } ∷ []);
  brace = (at 1);
  body = (and_piece (statement_item (return_stmt (at 1)
      (Some (subscript (at 1) (identifier (at 1) 2) (constant (at 1) ty.Int 0))))) no_pieces);
})) ∷ (definition (record {
  start = (at 1);
  specifiers =
      ((plain_specifier (specifier.Word word.Int)) ∷ []);
  at = (at 1);
  name = 3;
  parameters = [];
  brace = (at 1);
  body = (and_piece (declaration_item
      (declared (at 1) (static_specifier ∷ (plain_specifier (specifier.Word word.Int)) ∷ []) ((object (at 1) 4 ((Some (constant (at 1) ty.Int 5)) ∷ (Some
      (constant (at 1) ty.Int 3)) ∷ []) None) ∷ []))) (and_piece (statement_item (return_stmt (at 1) (Some (binary (at 1) operator.Add (call (at 1) 1
      (one_more (subscript (at 1) (identifier (at 1) 4) (constant (at 1) ty.Int 1)) no_trees)) (call (at 1) 1 (one_more (subscript (at 1) (identifier (at 1)
      4) (constant (at 1) ty.Int 2)) no_trees)))))) no_pieces));
})) ∷ [])) ≡ []
row_for_array = refl

-- int f(char p[]) { return p[0]; } int main(void) { return f("abc"); }
text_for_array : told (unit_typed 1048576 (codes "main.c" ∷ codes "f" ∷ codes "p" ∷ codes "main" ∷ (codes "abc" ++ 0 ∷ []) ∷ []) (at 0) ((definition (record {
  start = (at 1);
  specifiers = ((plain_specifier (specifier.Word word.Int)) ∷ []);
  at = (at 1);
  name = 1;
  parameters = (record {
    at = (at 1);
    start = (at 1);
    specifiers =
        ((specifier.Word word.Char) ∷ []);
    name = (Some 2);
    sizes = (None ∷ []);
  } ∷ []);
  brace = (at 1);
  body = (and_piece (statement_item (return_stmt (at 1)
      (Some (subscript (at 1) (identifier (at 1) 2) (constant (at 1) ty.Int 0))))) no_pieces);
})) ∷ (definition (record {
  start = (at 1);
  specifiers =
      ((plain_specifier (specifier.Word word.Int)) ∷ []);
  at = (at 1);
  name = 3;
  parameters = [];
  brace = (at 1);
  body = (and_piece (statement_item
      (return_stmt (at 1) (Some (call (at 1) 1 (one_more (string (at 1) 4) no_trees))))) no_pieces);
})) ∷ [])) ≡ []
text_for_array = refl

-- int main(void) { 1 = 2; return 0; }
assigned_to_number : told (unit_typed 1048576 (codes "main.c" ∷ codes "main" ∷ []) (at 0) ((definition (record {
  start = (at 1);
  specifiers = ((plain_specifier
      (specifier.Word word.Int)) ∷ []);
  at = (at 1);
  name = 1;
  parameters = [];
  brace = (at 1);
  body = (and_piece (statement_item (expression_stmt (at 1)
      (assign (at 1) assigning.Plain (constant (at 1) ty.Int 1) (constant (at 1) ty.Int 2)))) (and_piece (statement_item (return_stmt (at 1) (Some (constant
      (at 1) ty.Int 0)))) no_pieces));
})) ∷ [])) ≡ fault 533 1 ∷ []
assigned_to_number = refl

-- int main(void) { const int x = 1; x = 2; return 0; }
assigned_to_const : told (unit_typed 1048576 (codes "main.c" ∷ codes "main" ∷ codes "x" ∷ []) (at 0) ((definition (record {
  start = (at 1);
  specifiers =
      ((plain_specifier (specifier.Word word.Int)) ∷ []);
  at = (at 1);
  name = 1;
  parameters = [];
  brace = (at 1);
  body = (and_piece (declaration_item
      (declared (at 1) ((plain_specifier specifier.Const) ∷ (plain_specifier (specifier.Word word.Int)) ∷ []) ((object (at 1) 2 [] (Some (one_init (constant
      (at 1) ty.Int 1)))) ∷ []))) (and_piece (statement_item (expression_stmt (at 1) (assign (at 1) assigning.Plain (identifier (at 1) 2) (constant (at 1)
      ty.Int 2)))) (and_piece (statement_item (return_stmt (at 1) (Some (constant (at 1) ty.Int 0)))) no_pieces)));
})) ∷ [])) ≡ fault 533 1 ∷ []
assigned_to_const = refl

-- int f(const int p[]) { p[0] = 1; return 0; }
-- int main(void) { return 0; }
const_element : told (unit_typed 1048576 (codes "main.c" ∷ codes "f" ∷ codes "p" ∷ codes "main" ∷ []) (at 0) ((definition (record {
  start = (at 1);
  specifiers =
      ((plain_specifier (specifier.Word word.Int)) ∷ []);
  at = (at 1);
  name = 1;
  parameters = (record {
    at = (at 1);
    start = (at 1);
    specifiers =
        (specifier.Const ∷ (specifier.Word word.Int) ∷ []);
    name = (Some 2);
    sizes = (None ∷ []);
  } ∷ []);
  brace = (at 1);
  body = (and_piece (statement_item
      (expression_stmt (at 1) (assign (at 1) assigning.Plain (subscript (at 1) (identifier (at 1) 2) (constant (at 1) ty.Int 0)) (constant (at 1) ty.Int 1))))
      (and_piece (statement_item (return_stmt (at 1) (Some (constant (at 1) ty.Int 0)))) no_pieces));
})) ∷ (definition (record {
  start = (at 2);
  specifiers =
      ((plain_specifier (specifier.Word word.Int)) ∷ []);
  at = (at 2);
  name = 3;
  parameters = [];
  brace = (at 2);
  body = (and_piece (statement_item
      (return_stmt (at 2) (Some (constant (at 2) ty.Int 0)))) no_pieces);
})) ∷ [])) ≡ fault 533 1 ∷ []
const_element = refl

-- int main(void) { const int x = 1; x++; return 0; }
const_step : told (unit_typed 1048576 (codes "main.c" ∷ codes "main" ∷ codes "x" ∷ []) (at 0) ((definition (record {
  start = (at 1);
  specifiers = ((plain_specifier
      (specifier.Word word.Int)) ∷ []);
  at = (at 1);
  name = 1;
  parameters = [];
  brace = (at 1);
  body = (and_piece (declaration_item (declared (at 1)
      ((plain_specifier specifier.Const) ∷ (plain_specifier (specifier.Word word.Int)) ∷ []) ((object (at 1) 2 [] (Some (one_init (constant (at 1) ty.Int
      1)))) ∷ []))) (and_piece (statement_item (expression_stmt (at 1) (after (at 1) step.Increment (identifier (at 1) 2)))) (and_piece (statement_item
      (return_stmt (at 1) (Some (constant (at 1) ty.Int 0)))) no_pieces)));
})) ∷ [])) ≡ fault 533 1 ∷ []
const_step = refl

-- int main(void) { int x = 1; ++x++; return 0; }
step_of_value : told (unit_typed 1048576 (codes "main.c" ∷ codes "main" ∷ codes "x" ∷ []) (at 0) ((definition (record {
  start = (at 1);
  specifiers =
      ((plain_specifier (specifier.Word word.Int)) ∷ []);
  at = (at 1);
  name = 1;
  parameters = [];
  brace = (at 1);
  body = (and_piece (declaration_item
      (declared (at 1) ((plain_specifier (specifier.Word word.Int)) ∷ []) ((object (at 1) 2 [] (Some (one_init (constant (at 1) ty.Int 1)))) ∷ [])))
      (and_piece (statement_item (expression_stmt (at 1) (before (at 1) step.Increment (after (at 1) step.Increment (identifier (at 1) 2))))) (and_piece
      (statement_item (return_stmt (at 1) (Some (constant (at 1) ty.Int 0)))) no_pieces)));
})) ∷ [])) ≡ fault 533 1 ∷ []
step_of_value = refl

-- int f(const int a) { a = 1; return 0; }
-- int main(void) { return 0; }
const_scalar_parameter : told (unit_typed 1048576 (codes "main.c" ∷ codes "f" ∷ codes "a" ∷ codes "main" ∷ []) (at 0) ((definition (record {
  start = (at 1);
  specifiers = ((plain_specifier (specifier.Word word.Int)) ∷ []);
  at = (at 1);
  name = 1;
  parameters = (record {
    at = (at 1);
    start = (at 1);
    specifiers =
        (specifier.Const ∷ (specifier.Word word.Int) ∷ []);
    name = (Some 2);
    sizes = [];
  } ∷ []);
  brace = (at 1);
  body = (and_piece (statement_item
      (expression_stmt (at 1) (assign (at 1) assigning.Plain (identifier (at 1) 2) (constant (at 1) ty.Int 1)))) (and_piece (statement_item (return_stmt (at
      1) (Some (constant (at 1) ty.Int 0)))) no_pieces));
})) ∷ (definition (record {
  start = (at 2);
  specifiers = ((plain_specifier (specifier.Word word.Int))
      ∷ []);
  at = (at 2);
  name = 3;
  parameters = [];
  brace = (at 2);
  body = (and_piece (statement_item (return_stmt (at 2) (Some (constant (at 2) ty.Int 0))))
      no_pieces);
})) ∷ [])) ≡ fault 533 1 ∷ []
const_scalar_parameter = refl

-- enum { A }; int main(void) { A = 1; return 0; }
enumerator_assigned : told (unit_typed 1048576 (codes "main.c" ∷ codes "A" ∷ codes "main" ∷ []) (at 0) ((declaration (declared (at 1) ((enumerators_specifier None
    (record { at = (at 1); name = 1; value = None } ∷ [])) ∷ []) [])) ∷ (definition (record {
      start = (at 1);
      specifiers = ((plain_specifier (specifier.Word
          word.Int)) ∷ []);
      at = (at 1);
      name = 2;
      parameters = [];
      brace = (at 1);
      body = (and_piece (statement_item (expression_stmt (at 1) (assign (at 1)
          assigning.Plain (identifier (at 1) 1) (constant (at 1) ty.Int 1)))) (and_piece (statement_item (return_stmt (at 1) (Some (constant (at 1) ty.Int 0))))
          no_pieces));
    })) ∷ [])) ≡ fault 533 1 ∷ []
enumerator_assigned = refl

-- int rv_getbyte(void); void rv_putbyte(int c); void rv_exit(int status);
-- int main(void) { int x; x = rv_putbyte(1); return 0; }
void_assigned : told (unit_typed 1048576 (codes "main.c" ∷ codes "rv_getbyte" ∷ codes "rv_putbyte" ∷ codes "c" ∷ codes "rv_exit" ∷ codes "status" ∷ codes "main" ∷
    codes "x" ∷ []) (at 0) ((declaration (declared (at 1) ((plain_specifier (specifier.Word word.Int)) ∷ []) ((function (at 1) 1 []) ∷ []))) ∷ (declaration
    (declared (at 1) ((plain_specifier (specifier.Word word.Void)) ∷ []) ((function (at 1) 2 (record {
      at = (at 1);
      start = (at 1);
      specifiers =
          ((specifier.Word word.Int) ∷ []);
      name = (Some 3);
      sizes = [];
    } ∷ [])) ∷ []))) ∷ (declaration (declared (at 1) ((plain_specifier (specifier.Word
    word.Void)) ∷ []) ((function (at 1) 4 (record {
      at = (at 1);
      start = (at 1);
      specifiers = ((specifier.Word word.Int) ∷ []);
      name = (Some 5);
      sizes = [];
    } ∷ [])) ∷ []))) ∷ (definition (record {
      start = (at 2);
      specifiers = ((plain_specifier (specifier.Word word.Int)) ∷ []);
      at = (at 2);
      name = 6;
      parameters = [];
      brace = (at 2);
      body = (and_piece (declaration_item (declared (at 2) ((plain_specifier (specifier.Word word.Int)) ∷ []) ((object (at 2)
          7 [] None) ∷ []))) (and_piece (statement_item (expression_stmt (at 2) (assign (at 2) assigning.Plain (identifier (at 2) 7) (call (at 2) 2 (one_more
          (constant (at 2) ty.Int 1) no_trees))))) (and_piece (statement_item (return_stmt (at 2) (Some (constant (at 2) ty.Int 0)))) no_pieces)));
    })) ∷ [])) ≡
    fault 534 2 ∷ []
void_assigned = refl

-- int rv_getbyte(void); void rv_putbyte(int c); void rv_exit(int status);
-- int main(void) { int x = rv_putbyte(1); return 0; }
void_initialiser : told (unit_typed 1048576 (codes "main.c" ∷ codes "rv_getbyte" ∷ codes "rv_putbyte" ∷ codes "c" ∷ codes "rv_exit" ∷ codes "status" ∷ codes "main"
    ∷ codes "x" ∷ []) (at 0) ((declaration (declared (at 1) ((plain_specifier (specifier.Word word.Int)) ∷ []) ((function (at 1) 1 []) ∷ []))) ∷
    (declaration (declared (at 1) ((plain_specifier (specifier.Word word.Void)) ∷ []) ((function (at 1) 2 (record {
      at = (at 1);
      start = (at 1);
      specifiers
          = ((specifier.Word word.Int) ∷ []);
      name = (Some 3);
      sizes = [];
    } ∷ [])) ∷ []))) ∷ (declaration (declared (at 1) ((plain_specifier (specifier.Word
    word.Void)) ∷ []) ((function (at 1) 4 (record {
      at = (at 1);
      start = (at 1);
      specifiers = ((specifier.Word word.Int) ∷ []);
      name = (Some 5);
      sizes = [];
    } ∷ [])) ∷ []))) ∷ (definition (record {
      start = (at 2);
      specifiers = ((plain_specifier (specifier.Word word.Int)) ∷ []);
      at = (at 2);
      name = 6;
      parameters = [];
      brace = (at 2);
      body = (and_piece (declaration_item (declared (at 2) ((plain_specifier (specifier.Word word.Int)) ∷ []) ((object (at 2)
          7 [] (Some (one_init (call (at 2) 2 (one_more (constant (at 2) ty.Int 1) no_trees))))) ∷ []))) (and_piece (statement_item (return_stmt (at 2) (Some
          (constant (at 2) ty.Int 0)))) no_pieces));
    })) ∷ [])) ≡ fault 534 2 ∷ []
void_initialiser = refl

-- int rv_getbyte(void); void rv_putbyte(int c); void rv_exit(int status);
-- int main(void) { return rv_putbyte(1); }
void_returned : told (unit_typed 1048576 (codes "main.c" ∷ codes "rv_getbyte" ∷ codes "rv_putbyte" ∷ codes "c" ∷ codes "rv_exit" ∷ codes "status" ∷ codes "main" ∷
    []) (at 0) ((declaration (declared (at 1) ((plain_specifier (specifier.Word word.Int)) ∷ []) ((function (at 1) 1 []) ∷ []))) ∷ (declaration (declared
    (at 1) ((plain_specifier (specifier.Word word.Void)) ∷ []) ((function (at 1) 2 (record {
      at = (at 1);
      start = (at 1);
      specifiers = ((specifier.Word
          word.Int) ∷ []);
      name = (Some 3);
      sizes = [];
    } ∷ [])) ∷ []))) ∷ (declaration (declared (at 1) ((plain_specifier (specifier.Word word.Void)) ∷ [])
    ((function (at 1) 4 (record { at = (at 1); start = (at 1); specifiers = ((specifier.Word word.Int) ∷ []); name = (Some 5); sizes = [] } ∷ [])) ∷ []))) ∷
    (definition (record {
      start = (at 2);
      specifiers = ((plain_specifier (specifier.Word word.Int)) ∷ []);
      at = (at 2);
      name = 6;
      parameters = [];
      brace =
          (at 2);
      body = (and_piece (statement_item (return_stmt (at 2) (Some (call (at 2) 2 (one_more (constant (at 2) ty.Int 1) no_trees))))) no_pieces);
    })) ∷
    [])) ≡ fault 534 2 ∷ []
void_returned = refl

-- int rv_getbyte(void); void rv_putbyte(int c); void rv_exit(int status);
-- int main(void) { return 1 + rv_putbyte(1); }
void_operand : told (unit_typed 1048576 (codes "main.c" ∷ codes "rv_getbyte" ∷ codes "rv_putbyte" ∷ codes "c" ∷ codes "rv_exit" ∷ codes "status" ∷ codes "main" ∷
    []) (at 0) ((declaration (declared (at 1) ((plain_specifier (specifier.Word word.Int)) ∷ []) ((function (at 1) 1 []) ∷ []))) ∷ (declaration (declared
    (at 1) ((plain_specifier (specifier.Word word.Void)) ∷ []) ((function (at 1) 2 (record {
      at = (at 1);
      start = (at 1);
      specifiers = ((specifier.Word
          word.Int) ∷ []);
      name = (Some 3);
      sizes = [];
    } ∷ [])) ∷ []))) ∷ (declaration (declared (at 1) ((plain_specifier (specifier.Word word.Void)) ∷ [])
    ((function (at 1) 4 (record { at = (at 1); start = (at 1); specifiers = ((specifier.Word word.Int) ∷ []); name = (Some 5); sizes = [] } ∷ [])) ∷ []))) ∷
    (definition (record {
      start = (at 2);
      specifiers = ((plain_specifier (specifier.Word word.Int)) ∷ []);
      at = (at 2);
      name = 6;
      parameters = [];
      brace =
          (at 2);
      body = (and_piece (statement_item (return_stmt (at 2) (Some (binary (at 2) operator.Add (constant (at 2) ty.Int 1) (call (at 2) 2 (one_more
          (constant (at 2) ty.Int 1) no_trees)))))) no_pieces);
    })) ∷ [])) ≡ fault 535 2 ∷ []
void_operand = refl

-- int rv_getbyte(void); void rv_putbyte(int c); void rv_exit(int status);
-- int main(void) { return -rv_putbyte(1); }
void_sign : told (unit_typed 1048576 (codes "main.c" ∷ codes "rv_getbyte" ∷ codes "rv_putbyte" ∷ codes "c" ∷ codes "rv_exit" ∷ codes "status" ∷ codes "main" ∷ [])
    (at 0) ((declaration (declared (at 1) ((plain_specifier (specifier.Word word.Int)) ∷ []) ((function (at 1) 1 []) ∷ []))) ∷ (declaration (declared (at 1)
    ((plain_specifier (specifier.Word word.Void)) ∷ []) ((function (at 1) 2 (record {
      at = (at 1);
      start = (at 1);
      specifiers = ((specifier.Word word.Int) ∷
          []);
      name = (Some 3);
      sizes = [];
    } ∷ [])) ∷ []))) ∷ (declaration (declared (at 1) ((plain_specifier (specifier.Word word.Void)) ∷ []) ((function (at 1)
    4 (record { at = (at 1); start = (at 1); specifiers = ((specifier.Word word.Int) ∷ []); name = (Some 5); sizes = [] } ∷ [])) ∷ []))) ∷ (definition
    (record {
      start = (at 2);
      specifiers = ((plain_specifier (specifier.Word word.Int)) ∷ []);
      at = (at 2);
      name = 6;
      parameters = [];
      brace = (at 2);
      body
          = (and_piece (statement_item (return_stmt (at 2) (Some (prefix (at 2) sign.Minus (call (at 2) 2 (one_more (constant (at 2) ty.Int 1) no_trees))))))
          no_pieces);
    })) ∷ [])) ≡ fault 535 2 ∷ []
void_sign = refl

-- int rv_getbyte(void); void rv_putbyte(int c); void rv_exit(int status);
-- int main(void) { return (int)rv_putbyte(1); }
void_cast : told (unit_typed 1048576 (codes "main.c" ∷ codes "rv_getbyte" ∷ codes "rv_putbyte" ∷ codes "c" ∷ codes "rv_exit" ∷ codes "status" ∷ codes "main" ∷ [])
    (at 0) ((declaration (declared (at 1) ((plain_specifier (specifier.Word word.Int)) ∷ []) ((function (at 1) 1 []) ∷ []))) ∷ (declaration (declared (at 1)
    ((plain_specifier (specifier.Word word.Void)) ∷ []) ((function (at 1) 2 (record {
      at = (at 1);
      start = (at 1);
      specifiers = ((specifier.Word word.Int) ∷
          []);
      name = (Some 3);
      sizes = [];
    } ∷ [])) ∷ []))) ∷ (declaration (declared (at 1) ((plain_specifier (specifier.Word word.Void)) ∷ []) ((function (at 1)
    4 (record { at = (at 1); start = (at 1); specifiers = ((specifier.Word word.Int) ∷ []); name = (Some 5); sizes = [] } ∷ [])) ∷ []))) ∷ (definition
    (record {
      start = (at 2);
      specifiers = ((plain_specifier (specifier.Word word.Int)) ∷ []);
      at = (at 2);
      name = 6;
      parameters = [];
      brace = (at 2);
      body
          = (and_piece (statement_item (return_stmt (at 2) (Some (cast (at 2) (type_name (at 2) ((specifier.Word word.Int) ∷ []) no_trees) (call (at 2) 2
          (one_more (constant (at 2) ty.Int 1) no_trees)))))) no_pieces);
    })) ∷ [])) ≡ fault 535 2 ∷ []
void_cast = refl

-- int rv_getbyte(void); void rv_putbyte(int c); void rv_exit(int status);
-- int main(void) { return rv_putbyte(1) ? 1 : 2; }
void_choice : told (unit_typed 1048576 (codes "main.c" ∷ codes "rv_getbyte" ∷ codes "rv_putbyte" ∷ codes "c" ∷ codes "rv_exit" ∷ codes "status" ∷ codes "main" ∷ [])
    (at 0) ((declaration (declared (at 1) ((plain_specifier (specifier.Word word.Int)) ∷ []) ((function (at 1) 1 []) ∷ []))) ∷ (declaration (declared (at 1)
    ((plain_specifier (specifier.Word word.Void)) ∷ []) ((function (at 1) 2 (record {
      at = (at 1);
      start = (at 1);
      specifiers = ((specifier.Word word.Int) ∷
          []);
      name = (Some 3);
      sizes = [];
    } ∷ [])) ∷ []))) ∷ (declaration (declared (at 1) ((plain_specifier (specifier.Word word.Void)) ∷ []) ((function (at 1)
    4 (record { at = (at 1); start = (at 1); specifiers = ((specifier.Word word.Int) ∷ []); name = (Some 5); sizes = [] } ∷ [])) ∷ []))) ∷ (definition
    (record {
      start = (at 2);
      specifiers = ((plain_specifier (specifier.Word word.Int)) ∷ []);
      at = (at 2);
      name = 6;
      parameters = [];
      brace = (at 2);
      body
          = (and_piece (statement_item (return_stmt (at 2) (Some (conditional (at 2) (call (at 2) 2 (one_more (constant (at 2) ty.Int 1) no_trees)) (constant (at
          2) ty.Int 1) (constant (at 2) ty.Int 2))))) no_pieces);
    })) ∷ [])) ≡ fault 535 2 ∷ []
void_choice = refl

-- int rv_getbyte(void); void rv_putbyte(int c); void rv_exit(int status);
-- int main(void) { return 1 && rv_putbyte(1); }
void_and : told (unit_typed 1048576 (codes "main.c" ∷ codes "rv_getbyte" ∷ codes "rv_putbyte" ∷ codes "c" ∷ codes "rv_exit" ∷ codes "status" ∷ codes "main" ∷ [])
    (at 0) ((declaration (declared (at 1) ((plain_specifier (specifier.Word word.Int)) ∷ []) ((function (at 1) 1 []) ∷ []))) ∷ (declaration (declared (at 1)
    ((plain_specifier (specifier.Word word.Void)) ∷ []) ((function (at 1) 2 (record {
      at = (at 1);
      start = (at 1);
      specifiers = ((specifier.Word word.Int) ∷
          []);
      name = (Some 3);
      sizes = [];
    } ∷ [])) ∷ []))) ∷ (declaration (declared (at 1) ((plain_specifier (specifier.Word word.Void)) ∷ []) ((function (at 1)
    4 (record { at = (at 1); start = (at 1); specifiers = ((specifier.Word word.Int) ∷ []); name = (Some 5); sizes = [] } ∷ [])) ∷ []))) ∷ (definition
    (record {
      start = (at 2);
      specifiers = ((plain_specifier (specifier.Word word.Int)) ∷ []);
      at = (at 2);
      name = 6;
      parameters = [];
      brace = (at 2);
      body
          = (and_piece (statement_item (return_stmt (at 2) (Some (binary (at 2) operator.And (constant (at 2) ty.Int 1) (call (at 2) 2 (one_more (constant (at 2)
          ty.Int 1) no_trees)))))) no_pieces);
    })) ∷ [])) ≡ fault 535 2 ∷ []
void_and = refl

-- int rv_getbyte(void); void rv_putbyte(int c); void rv_exit(int status);
-- int main(void) { int x = 0; x += rv_putbyte(1); return 0; }
void_compound : told (unit_typed 1048576 (codes "main.c" ∷ codes "rv_getbyte" ∷ codes "rv_putbyte" ∷ codes "c" ∷ codes "rv_exit" ∷ codes "status" ∷ codes "main" ∷
    codes "x" ∷ []) (at 0) ((declaration (declared (at 1) ((plain_specifier (specifier.Word word.Int)) ∷ []) ((function (at 1) 1 []) ∷ []))) ∷ (declaration
    (declared (at 1) ((plain_specifier (specifier.Word word.Void)) ∷ []) ((function (at 1) 2 (record {
      at = (at 1);
      start = (at 1);
      specifiers =
          ((specifier.Word word.Int) ∷ []);
      name = (Some 3);
      sizes = [];
    } ∷ [])) ∷ []))) ∷ (declaration (declared (at 1) ((plain_specifier (specifier.Word
    word.Void)) ∷ []) ((function (at 1) 4 (record {
      at = (at 1);
      start = (at 1);
      specifiers = ((specifier.Word word.Int) ∷ []);
      name = (Some 5);
      sizes = [];
    } ∷ [])) ∷ []))) ∷ (definition (record {
      start = (at 2);
      specifiers = ((plain_specifier (specifier.Word word.Int)) ∷ []);
      at = (at 2);
      name = 6;
      parameters = [];
      brace = (at 2);
      body = (and_piece (declaration_item (declared (at 2) ((plain_specifier (specifier.Word word.Int)) ∷ []) ((object (at 2)
          7 [] (Some (one_init (constant (at 2) ty.Int 0)))) ∷ []))) (and_piece (statement_item (expression_stmt (at 2) (assign (at 2) assigning.Add (identifier
          (at 2) 7) (call (at 2) 2 (one_more (constant (at 2) ty.Int 1) no_trees))))) (and_piece (statement_item (return_stmt (at 2) (Some (constant (at 2) ty.Int
          0)))) no_pieces)));
    })) ∷ [])) ≡ fault 535 2 ∷ []
void_compound = refl

-- int rv_getbyte(void); void rv_putbyte(int c); void rv_exit(int status);
-- int main(void) { return sizeof rv_putbyte(1); }
void_measured : told (unit_typed 1048576 (codes "main.c" ∷ codes "rv_getbyte" ∷ codes "rv_putbyte" ∷ codes "c" ∷ codes "rv_exit" ∷ codes "status" ∷ codes "main" ∷
    []) (at 0) ((declaration (declared (at 1) ((plain_specifier (specifier.Word word.Int)) ∷ []) ((function (at 1) 1 []) ∷ []))) ∷ (declaration (declared
    (at 1) ((plain_specifier (specifier.Word word.Void)) ∷ []) ((function (at 1) 2 (record {
      at = (at 1);
      start = (at 1);
      specifiers = ((specifier.Word
          word.Int) ∷ []);
      name = (Some 3);
      sizes = [];
    } ∷ [])) ∷ []))) ∷ (declaration (declared (at 1) ((plain_specifier (specifier.Word word.Void)) ∷ [])
    ((function (at 1) 4 (record { at = (at 1); start = (at 1); specifiers = ((specifier.Word word.Int) ∷ []); name = (Some 5); sizes = [] } ∷ [])) ∷ []))) ∷
    (definition (record {
      start = (at 2);
      specifiers = ((plain_specifier (specifier.Word word.Int)) ∷ []);
      at = (at 2);
      name = 6;
      parameters = [];
      brace =
          (at 2);
      body = (and_piece (statement_item (return_stmt (at 2) (Some (size_of (at 2) (call (at 2) 2 (one_more (constant (at 2) ty.Int 1) no_trees))))))
          no_pieces);
    })) ∷ [])) ≡ fault 536 2 ∷ []
void_measured = refl

-- int main(void) { return sizeof(void); }
void_type_measured : told (unit_typed 1048576 (codes "main.c" ∷ codes "main" ∷ []) (at 0) ((definition (record {
  start = (at 1);
  specifiers = ((plain_specifier
      (specifier.Word word.Int)) ∷ []);
  at = (at 1);
  name = 1;
  parameters = [];
  brace = (at 1);
  body = (and_piece (statement_item (return_stmt (at 1) (Some
      (size_of_type (at 1) (type_name (at 1) ((specifier.Word word.Void) ∷ []) no_trees))))) no_pieces);
})) ∷ [])) ≡ fault 536 1 ∷ []
void_type_measured = refl

-- int f(void) { return 0; } int main(void) { return sizeof f; }
function_measured : told (unit_typed 1048576 (codes "main.c" ∷ codes "f" ∷ codes "main" ∷ []) (at 0) ((definition (record {
  start = (at 1);
  specifiers =
      ((plain_specifier (specifier.Word word.Int)) ∷ []);
  at = (at 1);
  name = 1;
  parameters = [];
  brace = (at 1);
  body = (and_piece (statement_item
      (return_stmt (at 1) (Some (constant (at 1) ty.Int 0)))) no_pieces);
})) ∷ (definition (record {
  start = (at 1);
  specifiers = ((plain_specifier
      (specifier.Word word.Int)) ∷ []);
  at = (at 1);
  name = 2;
  parameters = [];
  brace = (at 1);
  body = (and_piece (statement_item (return_stmt (at 1) (Some
      (size_of (at 1) (identifier (at 1) 1))))) no_pieces);
})) ∷ [])) ≡ fault 536 1 ∷ []
function_measured = refl

-- extern int a[];
-- int main(void) { return sizeof a; }
incomplete_measured : told (unit_typed 1048576 (codes "main.c" ∷ codes "a" ∷ codes "main" ∷ []) (at 0) ((declaration (declared (at 1) (extern_specifier ∷
    (plain_specifier (specifier.Word word.Int)) ∷ []) ((object (at 1) 1 (None ∷ []) None) ∷ []))) ∷ (definition (record {
      start = (at 2);
      specifiers =
          ((plain_specifier (specifier.Word word.Int)) ∷ []);
      at = (at 2);
      name = 2;
      parameters = [];
      brace = (at 2);
      body = (and_piece (statement_item
          (return_stmt (at 2) (Some (size_of (at 2) (identifier (at 2) 1))))) no_pieces);
    })) ∷ [])) ≡ fault 536 2 ∷ []
incomplete_measured = refl

-- int main(void) { return (int[2])0; }
cast_to_array : told (unit_typed 1048576 (codes "main.c" ∷ codes "main" ∷ []) (at 0) ((definition (record {
  start = (at 1);
  specifiers = ((plain_specifier
      (specifier.Word word.Int)) ∷ []);
  at = (at 1);
  name = 1;
  parameters = [];
  brace = (at 1);
  body = (and_piece (statement_item (return_stmt (at 1) (Some
      (cast (at 1) (type_name (at 1) ((specifier.Word word.Int) ∷ []) (one_more (constant (at 1) ty.Int 2) no_trees)) (constant (at 1) ty.Int 0)))))
      no_pieces);
})) ∷ [])) ≡ fault 537 1 ∷ []
cast_to_array = refl

-- int main(void) { int x = 1; (void)x; return 0; }
cast_to_void : told (unit_typed 1048576 (codes "main.c" ∷ codes "main" ∷ codes "x" ∷ []) (at 0) ((definition (record {
  start = (at 1);
  specifiers =
      ((plain_specifier (specifier.Word word.Int)) ∷ []);
  at = (at 1);
  name = 1;
  parameters = [];
  brace = (at 1);
  body = (and_piece (declaration_item
      (declared (at 1) ((plain_specifier (specifier.Word word.Int)) ∷ []) ((object (at 1) 2 [] (Some (one_init (constant (at 1) ty.Int 1)))) ∷ [])))
      (and_piece (statement_item (expression_stmt (at 1) (cast (at 1) (type_name (at 1) ((specifier.Word word.Void) ∷ []) no_trees) (identifier (at 1) 2))))
      (and_piece (statement_item (return_stmt (at 1) (Some (constant (at 1) ty.Int 0)))) no_pieces)));
})) ∷ [])) ≡ []
cast_to_void = refl

-- int rv_getbyte(void); void rv_putbyte(int c); void rv_exit(int status);
-- int main(void) { return 1 ? rv_putbyte(1) : 2; }
arms_do_not_match : told (unit_typed 1048576 (codes "main.c" ∷ codes "rv_getbyte" ∷ codes "rv_putbyte" ∷ codes "c" ∷ codes "rv_exit" ∷ codes "status" ∷ codes "main"
    ∷ []) (at 0) ((declaration (declared (at 1) ((plain_specifier (specifier.Word word.Int)) ∷ []) ((function (at 1) 1 []) ∷ []))) ∷ (declaration (declared
    (at 1) ((plain_specifier (specifier.Word word.Void)) ∷ []) ((function (at 1) 2 (record {
      at = (at 1);
      start = (at 1);
      specifiers = ((specifier.Word
          word.Int) ∷ []);
      name = (Some 3);
      sizes = [];
    } ∷ [])) ∷ []))) ∷ (declaration (declared (at 1) ((plain_specifier (specifier.Word word.Void)) ∷ [])
    ((function (at 1) 4 (record { at = (at 1); start = (at 1); specifiers = ((specifier.Word word.Int) ∷ []); name = (Some 5); sizes = [] } ∷ [])) ∷ []))) ∷
    (definition (record {
      start = (at 2);
      specifiers = ((plain_specifier (specifier.Word word.Int)) ∷ []);
      at = (at 2);
      name = 6;
      parameters = [];
      brace =
          (at 2);
      body = (and_piece (statement_item (return_stmt (at 2) (Some (conditional (at 2) (constant (at 2) ty.Int 1) (call (at 2) 2 (one_more (constant
          (at 2) ty.Int 1) no_trees)) (constant (at 2) ty.Int 2))))) no_pieces);
    })) ∷ [])) ≡ fault 538 2 ∷ []
arms_do_not_match = refl

-- int rv_getbyte(void); void rv_putbyte(int c); void rv_exit(int status);
-- int main(void) { 1 ? rv_putbyte(65) : rv_putbyte(66); return 0; }
void_arms : told (unit_typed 1048576 (codes "main.c" ∷ codes "rv_getbyte" ∷ codes "rv_putbyte" ∷ codes "c" ∷ codes "rv_exit" ∷ codes "status" ∷ codes "main" ∷ [])
    (at 0) ((declaration (declared (at 1) ((plain_specifier (specifier.Word word.Int)) ∷ []) ((function (at 1) 1 []) ∷ []))) ∷ (declaration (declared (at 1)
    ((plain_specifier (specifier.Word word.Void)) ∷ []) ((function (at 1) 2 (record {
      at = (at 1);
      start = (at 1);
      specifiers = ((specifier.Word word.Int) ∷
          []);
      name = (Some 3);
      sizes = [];
    } ∷ [])) ∷ []))) ∷ (declaration (declared (at 1) ((plain_specifier (specifier.Word word.Void)) ∷ []) ((function (at 1)
    4 (record { at = (at 1); start = (at 1); specifiers = ((specifier.Word word.Int) ∷ []); name = (Some 5); sizes = [] } ∷ [])) ∷ []))) ∷ (definition
    (record {
      start = (at 2);
      specifiers = ((plain_specifier (specifier.Word word.Int)) ∷ []);
      at = (at 2);
      name = 6;
      parameters = [];
      brace = (at 2);
      body
          = (and_piece (statement_item (expression_stmt (at 2) (conditional (at 2) (constant (at 2) ty.Int 1) (call (at 2) 2 (one_more (constant (at 2) ty.Int 65)
          no_trees)) (call (at 2) 2 (one_more (constant (at 2) ty.Int 66) no_trees))))) (and_piece (statement_item (return_stmt (at 2) (Some (constant (at 2)
          ty.Int 0)))) no_pieces));
    })) ∷ [])) ≡ []
void_arms = refl

-- int main(void) { int a[2]; return a; }
array_as_value : told (unit_typed 1048576 (codes "main.c" ∷ codes "main" ∷ codes "a" ∷ []) (at 0) ((definition (record {
  start = (at 1);
  specifiers =
      ((plain_specifier (specifier.Word word.Int)) ∷ []);
  at = (at 1);
  name = 1;
  parameters = [];
  brace = (at 1);
  body = (and_piece (declaration_item
      (declared (at 1) ((plain_specifier (specifier.Word word.Int)) ∷ []) ((object (at 1) 2 ((Some (constant (at 1) ty.Int 2)) ∷ []) None) ∷ []))) (and_piece
      (statement_item (return_stmt (at 1) (Some (identifier (at 1) 2)))) no_pieces));
})) ∷ [])) ≡ fault 620 1 ∷ []
array_as_value = refl

-- int main(void) { int a[2][2]; return a[0] + 1; }
row_as_value : told (unit_typed 1048576 (codes "main.c" ∷ codes "main" ∷ codes "a" ∷ []) (at 0) ((definition (record {
  start = (at 1);
  specifiers =
      ((plain_specifier (specifier.Word word.Int)) ∷ []);
  at = (at 1);
  name = 1;
  parameters = [];
  brace = (at 1);
  body = (and_piece (declaration_item
      (declared (at 1) ((plain_specifier (specifier.Word word.Int)) ∷ []) ((object (at 1) 2 ((Some (constant (at 1) ty.Int 2)) ∷ (Some (constant (at 1) ty.Int
      2)) ∷ []) None) ∷ []))) (and_piece (statement_item (return_stmt (at 1) (Some (binary (at 1) operator.Add (subscript (at 1) (identifier (at 1) 2)
      (constant (at 1) ty.Int 0)) (constant (at 1) ty.Int 1))))) no_pieces));
})) ∷ [])) ≡ fault 620 1 ∷ []
row_as_value = refl

-- int f(void) { return 0; } int main(void) { f; return 0; }
function_as_value : told (unit_typed 1048576 (codes "main.c" ∷ codes "f" ∷ codes "main" ∷ []) (at 0) ((definition (record {
  start = (at 1);
  specifiers =
      ((plain_specifier (specifier.Word word.Int)) ∷ []);
  at = (at 1);
  name = 1;
  parameters = [];
  brace = (at 1);
  body = (and_piece (statement_item
      (return_stmt (at 1) (Some (constant (at 1) ty.Int 0)))) no_pieces);
})) ∷ (definition (record {
  start = (at 1);
  specifiers = ((plain_specifier
      (specifier.Word word.Int)) ∷ []);
  at = (at 1);
  name = 2;
  parameters = [];
  brace = (at 1);
  body = (and_piece (statement_item (expression_stmt (at 1)
      (identifier (at 1) 1))) (and_piece (statement_item (return_stmt (at 1) (Some (constant (at 1) ty.Int 0)))) no_pieces));
})) ∷ [])) ≡ fault 620 1 ∷ []
function_as_value = refl

-- int main(void) { int a[2]; int b[2]; a = b; return 0; }
array_assigned : told (unit_typed 1048576 (codes "main.c" ∷ codes "main" ∷ codes "a" ∷ codes "b" ∷ []) (at 0) ((definition (record {
  start = (at 1);
  specifiers =
      ((plain_specifier (specifier.Word word.Int)) ∷ []);
  at = (at 1);
  name = 1;
  parameters = [];
  brace = (at 1);
  body = (and_piece (declaration_item
      (declared (at 1) ((plain_specifier (specifier.Word word.Int)) ∷ []) ((object (at 1) 2 ((Some (constant (at 1) ty.Int 2)) ∷ []) None) ∷ []))) (and_piece
      (declaration_item (declared (at 1) ((plain_specifier (specifier.Word word.Int)) ∷ []) ((object (at 1) 3 ((Some (constant (at 1) ty.Int 2)) ∷ []) None) ∷
      []))) (and_piece (statement_item (expression_stmt (at 1) (assign (at 1) assigning.Plain (identifier (at 1) 2) (identifier (at 1) 3)))) (and_piece
      (statement_item (return_stmt (at 1) (Some (constant (at 1) ty.Int 0)))) no_pieces))));
})) ∷ [])) ≡ fault 620 1 ∷ fault 620 1 ∷ []
array_assigned = refl

-- int f(int p[]) { p = p; return 0; }
-- int main(void) { return 0; }
parameter_assigned : told (unit_typed 1048576 (codes "main.c" ∷ codes "f" ∷ codes "p" ∷ codes "main" ∷ []) (at 0) ((definition (record {
  start = (at 1);
  specifiers
      = ((plain_specifier (specifier.Word word.Int)) ∷ []);
  at = (at 1);
  name = 1;
  parameters = (record {
    at = (at 1);
    start = (at 1);
    specifiers =
        ((specifier.Word word.Int) ∷ []);
    name = (Some 2);
    sizes = (None ∷ []);
  } ∷ []);
  brace = (at 1);
  body = (and_piece (statement_item (expression_stmt (at
      1) (assign (at 1) assigning.Plain (identifier (at 1) 2) (identifier (at 1) 2)))) (and_piece (statement_item (return_stmt (at 1) (Some (constant (at 1)
      ty.Int 0)))) no_pieces));
})) ∷ (definition (record {
  start = (at 2);
  specifiers = ((plain_specifier (specifier.Word word.Int)) ∷ []);
  at = (at 2);
  name
      = 3;
  parameters = [];
  brace = (at 2);
  body = (and_piece (statement_item (return_stmt (at 2) (Some (constant (at 2) ty.Int 0)))) no_pieces);
})) ∷ [])) ≡
    fault 620 1 ∷ fault 620 1 ∷ []
parameter_assigned = refl

-- int main(void) { int a[2]; (void)a; return 0; }
array_cast_to_void : told (unit_typed 1048576 (codes "main.c" ∷ codes "main" ∷ codes "a" ∷ []) (at 0) ((definition (record {
  start = (at 1);
  specifiers =
      ((plain_specifier (specifier.Word word.Int)) ∷ []);
  at = (at 1);
  name = 1;
  parameters = [];
  brace = (at 1);
  body = (and_piece (declaration_item
      (declared (at 1) ((plain_specifier (specifier.Word word.Int)) ∷ []) ((object (at 1) 2 ((Some (constant (at 1) ty.Int 2)) ∷ []) None) ∷ []))) (and_piece
      (statement_item (expression_stmt (at 1) (cast (at 1) (type_name (at 1) ((specifier.Word word.Void) ∷ []) no_trees) (identifier (at 1) 2)))) (and_piece
      (statement_item (return_stmt (at 1) (Some (constant (at 1) ty.Int 0)))) no_pieces)));
})) ∷ [])) ≡ fault 620 1 ∷ []
array_cast_to_void = refl

-- int main(void) { return "a" == 0; }
text_as_value : told (unit_typed 1048576 (codes "main.c" ∷ codes "main" ∷ (codes "a" ++ 0 ∷ []) ∷ []) (at 0) ((definition (record {
  start = (at 1);
  specifiers =
      ((plain_specifier (specifier.Word word.Int)) ∷ []);
  at = (at 1);
  name = 1;
  parameters = [];
  brace = (at 1);
  body = (and_piece (statement_item
      (return_stmt (at 1) (Some (binary (at 1) operator.Equal (string (at 1) 2) (constant (at 1) ty.Int 0))))) no_pieces);
})) ∷ [])) ≡ fault 620 1 ∷ []
text_as_value = refl

-- int main(void) { return "abc"[1]; }
text_subscripted : told (unit_typed 1048576 (codes "main.c" ∷ codes "main" ∷ (codes "abc" ++ 0 ∷ []) ∷ []) (at 0) ((definition (record {
  start = (at 1);
  specifiers =
      ((plain_specifier (specifier.Word word.Int)) ∷ []);
  at = (at 1);
  name = 1;
  parameters = [];
  brace = (at 1);
  body = (and_piece (statement_item
      (return_stmt (at 1) (Some (subscript (at 1) (string (at 1) 2) (constant (at 1) ty.Int 1))))) no_pieces);
})) ∷ [])) ≡ []
text_subscripted = refl

-- int main(void) { int a[2]; return sizeof a + sizeof a[0] + sizeof "abc"; }
array_and_number_as_size : told (unit_typed 1048576 (codes "main.c" ∷ codes "main" ∷ codes "a" ∷ (codes "abc" ++ 0 ∷ []) ∷ []) (at 0) ((definition (record {
  start = (at 1);
  specifiers = ((plain_specifier (specifier.Word word.Int)) ∷ []);
  at = (at 1);
  name = 1;
  parameters = [];
  brace = (at 1);
  body = (and_piece
      (declaration_item (declared (at 1) ((plain_specifier (specifier.Word word.Int)) ∷ []) ((object (at 1) 2 ((Some (constant (at 1) ty.Int 2)) ∷ []) None) ∷
      []))) (and_piece (statement_item (return_stmt (at 1) (Some (binary (at 1) operator.Add (binary (at 1) operator.Add (size_of (at 1) (identifier (at 1)
      2)) (size_of (at 1) (subscript (at 1) (identifier (at 1) 2) (constant (at 1) ty.Int 0)))) (size_of (at 1) (string (at 1) 3)))))) no_pieces));
})) ∷ []))
    ≡ []
array_and_number_as_size = refl

-- int rv_getbyte(void); void rv_putbyte(int c); void rv_exit(int status);
-- int main(void) { if (rv_putbyte(1)) ; return 0; }
void_control : told (unit_typed 1048576 (codes "main.c" ∷ codes "rv_getbyte" ∷ codes "rv_putbyte" ∷ codes "c" ∷ codes "rv_exit" ∷ codes "status" ∷ codes "main" ∷
    []) (at 0) ((declaration (declared (at 1) ((plain_specifier (specifier.Word word.Int)) ∷ []) ((function (at 1) 1 []) ∷ []))) ∷ (declaration (declared
    (at 1) ((plain_specifier (specifier.Word word.Void)) ∷ []) ((function (at 1) 2 (record {
      at = (at 1);
      start = (at 1);
      specifiers = ((specifier.Word
          word.Int) ∷ []);
      name = (Some 3);
      sizes = [];
    } ∷ [])) ∷ []))) ∷ (declaration (declared (at 1) ((plain_specifier (specifier.Word word.Void)) ∷ [])
    ((function (at 1) 4 (record { at = (at 1); start = (at 1); specifiers = ((specifier.Word word.Int) ∷ []); name = (Some 5); sizes = [] } ∷ [])) ∷ []))) ∷
    (definition (record {
      start = (at 2);
      specifiers = ((plain_specifier (specifier.Word word.Int)) ∷ []);
      at = (at 2);
      name = 6;
      parameters = [];
      brace =
          (at 2);
      body = (and_piece (statement_item (if_stmt (at 2) (call (at 2) 2 (one_more (constant (at 2) ty.Int 1) no_trees)) (empty_stmt (at 2))))
          (and_piece (statement_item (return_stmt (at 2) (Some (constant (at 2) ty.Int 0)))) no_pieces));
    })) ∷ [])) ≡ fault 539 2 ∷ []
void_control = refl

-- int rv_getbyte(void); void rv_putbyte(int c); void rv_exit(int status);
-- int main(void) { while (rv_putbyte(1)) ; return 0; }
void_loop_control : told (unit_typed 1048576 (codes "main.c" ∷ codes "rv_getbyte" ∷ codes "rv_putbyte" ∷ codes "c" ∷ codes "rv_exit" ∷ codes "status" ∷ codes "main"
    ∷ []) (at 0) ((declaration (declared (at 1) ((plain_specifier (specifier.Word word.Int)) ∷ []) ((function (at 1) 1 []) ∷ []))) ∷ (declaration (declared
    (at 1) ((plain_specifier (specifier.Word word.Void)) ∷ []) ((function (at 1) 2 (record {
      at = (at 1);
      start = (at 1);
      specifiers = ((specifier.Word
          word.Int) ∷ []);
      name = (Some 3);
      sizes = [];
    } ∷ [])) ∷ []))) ∷ (declaration (declared (at 1) ((plain_specifier (specifier.Word word.Void)) ∷ [])
    ((function (at 1) 4 (record { at = (at 1); start = (at 1); specifiers = ((specifier.Word word.Int) ∷ []); name = (Some 5); sizes = [] } ∷ [])) ∷ []))) ∷
    (definition (record {
      start = (at 2);
      specifiers = ((plain_specifier (specifier.Word word.Int)) ∷ []);
      at = (at 2);
      name = 6;
      parameters = [];
      brace =
          (at 2);
      body = (and_piece (statement_item (while_stmt (at 2) (call (at 2) 2 (one_more (constant (at 2) ty.Int 1) no_trees)) (empty_stmt (at 2))))
          (and_piece (statement_item (return_stmt (at 2) (Some (constant (at 2) ty.Int 0)))) no_pieces));
    })) ∷ [])) ≡ fault 539 2 ∷ []
void_loop_control = refl

-- int rv_getbyte(void); void rv_putbyte(int c); void rv_exit(int status);
-- int main(void) { for (; rv_putbyte(1); ) ; return 0; }
void_for_control : told (unit_typed 1048576 (codes "main.c" ∷ codes "rv_getbyte" ∷ codes "rv_putbyte" ∷ codes "c" ∷ codes "rv_exit" ∷ codes "status" ∷ codes "main"
    ∷ []) (at 0) ((declaration (declared (at 1) ((plain_specifier (specifier.Word word.Int)) ∷ []) ((function (at 1) 1 []) ∷ []))) ∷ (declaration (declared
    (at 1) ((plain_specifier (specifier.Word word.Void)) ∷ []) ((function (at 1) 2 (record {
      at = (at 1);
      start = (at 1);
      specifiers = ((specifier.Word
          word.Int) ∷ []);
      name = (Some 3);
      sizes = [];
    } ∷ [])) ∷ []))) ∷ (declaration (declared (at 1) ((plain_specifier (specifier.Word word.Void)) ∷ [])
    ((function (at 1) 4 (record { at = (at 1); start = (at 1); specifiers = ((specifier.Word word.Int) ∷ []); name = (Some 5); sizes = [] } ∷ [])) ∷ []))) ∷
    (definition (record {
      start = (at 2);
      specifiers = ((plain_specifier (specifier.Word word.Int)) ∷ []);
      at = (at 2);
      name = 6;
      parameters = [];
      brace =
          (at 2);
      body = (and_piece (statement_item (for_stmt (at 2) (expression_start None) (Some (call (at 2) 2 (one_more (constant (at 2) ty.Int 1) no_trees)))
          None (empty_stmt (at 2)))) (and_piece (statement_item (return_stmt (at 2) (Some (constant (at 2) ty.Int 0)))) no_pieces));
    })) ∷ [])) ≡ fault 539 2 ∷ []
void_for_control = refl

-- int rv_getbyte(void); void rv_putbyte(int c); void rv_exit(int status);
-- int main(void) { switch (rv_putbyte(1)) { } return 0; }
void_switch : told (unit_typed 1048576 (codes "main.c" ∷ codes "rv_getbyte" ∷ codes "rv_putbyte" ∷ codes "c" ∷ codes "rv_exit" ∷ codes "status" ∷ codes "main" ∷ [])
    (at 0) ((declaration (declared (at 1) ((plain_specifier (specifier.Word word.Int)) ∷ []) ((function (at 1) 1 []) ∷ []))) ∷ (declaration (declared (at 1)
    ((plain_specifier (specifier.Word word.Void)) ∷ []) ((function (at 1) 2 (record {
      at = (at 1);
      start = (at 1);
      specifiers = ((specifier.Word word.Int) ∷
          []);
      name = (Some 3);
      sizes = [];
    } ∷ [])) ∷ []))) ∷ (declaration (declared (at 1) ((plain_specifier (specifier.Word word.Void)) ∷ []) ((function (at 1)
    4 (record { at = (at 1); start = (at 1); specifiers = ((specifier.Word word.Int) ∷ []); name = (Some 5); sizes = [] } ∷ [])) ∷ []))) ∷ (definition
    (record {
      start = (at 2);
      specifiers = ((plain_specifier (specifier.Word word.Int)) ∷ []);
      at = (at 2);
      name = 6;
      parameters = [];
      brace = (at 2);
      body
          = (and_piece (statement_item (switch_stmt (at 2) (call (at 2) 2 (one_more (constant (at 2) ty.Int 1) no_trees)) (block_stmt (at 2) no_pieces)))
          (and_piece (statement_item (return_stmt (at 2) (Some (constant (at 2) ty.Int 0)))) no_pieces));
    })) ∷ [])) ≡ fault 539 2 ∷ []
void_switch = refl

-- int main(void) { switch (1) { case 1: case 2 - 1: return 0; } return 1; }
case_twice : told (unit_typed 1048576 (codes "main.c" ∷ codes "main" ∷ []) (at 0) ((definition (record {
  start = (at 1);
  specifiers = ((plain_specifier
      (specifier.Word word.Int)) ∷ []);
  at = (at 1);
  name = 1;
  parameters = [];
  brace = (at 1);
  body = (and_piece (statement_item (switch_stmt (at 1)
      (constant (at 1) ty.Int 1) (block_stmt (at 1) (and_piece (statement_item (case_stmt (at 1) (constant (at 1) ty.Int 1) (case_stmt (at 1) (binary (at 1)
      operator.Sub (constant (at 1) ty.Int 2) (constant (at 1) ty.Int 1)) (return_stmt (at 1) (Some (constant (at 1) ty.Int 0)))))) no_pieces)))) (and_piece
      (statement_item (return_stmt (at 1) (Some (constant (at 1) ty.Int 1)))) no_pieces));
})) ∷ [])) ≡ fault 540 1 ∷ []
case_twice = refl

-- int main(void) { switch (1) { default: ;
-- default: ; } return 1; }
default_twice : told (unit_typed 1048576 (codes "main.c" ∷ codes "main" ∷ []) (at 0) ((definition (record {
  start = (at 1);
  specifiers = ((plain_specifier
      (specifier.Word word.Int)) ∷ []);
  at = (at 1);
  name = 1;
  parameters = [];
  brace = (at 1);
  body = (and_piece (statement_item (switch_stmt (at 1)
      (constant (at 1) ty.Int 1) (block_stmt (at 1) (and_piece (statement_item (default_stmt (at 1) (empty_stmt (at 1)))) (and_piece (statement_item
      (default_stmt (at 2) (empty_stmt (at 2)))) no_pieces))))) (and_piece (statement_item (return_stmt (at 2) (Some (constant (at 2) ty.Int 1)))) no_pieces));
})) ∷ [])) ≡ fault 540 2 ∷ []
default_twice = refl

-- int main(void) { switch (1u) { case -1: ;
-- case 4294967295u: ; } return 1; }
case_twice_by_conversion : told (unit_typed 1048576 (codes "main.c" ∷ codes "main" ∷ []) (at 0) ((definition (record {
  start = (at 1);
  specifiers =
      ((plain_specifier (specifier.Word word.Int)) ∷ []);
  at = (at 1);
  name = 1;
  parameters = [];
  brace = (at 1);
  body = (and_piece (statement_item
      (switch_stmt (at 1) (constant (at 1) ty.UInt 1) (block_stmt (at 1) (and_piece (statement_item (case_stmt (at 1) (prefix (at 1) sign.Minus (constant (at
      1) ty.Int 1)) (empty_stmt (at 1)))) (and_piece (statement_item (case_stmt (at 2) (constant (at 2) ty.UInt 4294967295) (empty_stmt (at 2))))
      no_pieces))))) (and_piece (statement_item (return_stmt (at 2) (Some (constant (at 2) ty.Int 1)))) no_pieces));
})) ∷ [])) ≡ fault 540 2 ∷ []
case_twice_by_conversion = refl

-- int main(void) { switch (1) { case 1: ; case 2: ; default: ; } return 1; }
cases_by_type : told (unit_typed 1048576 (codes "main.c" ∷ codes "main" ∷ []) (at 0) ((definition (record {
  start = (at 1);
  specifiers = ((plain_specifier
      (specifier.Word word.Int)) ∷ []);
  at = (at 1);
  name = 1;
  parameters = [];
  brace = (at 1);
  body = (and_piece (statement_item (switch_stmt (at 1)
      (constant (at 1) ty.Int 1) (block_stmt (at 1) (and_piece (statement_item (case_stmt (at 1) (constant (at 1) ty.Int 1) (empty_stmt (at 1)))) (and_piece
      (statement_item (case_stmt (at 1) (constant (at 1) ty.Int 2) (empty_stmt (at 1)))) (and_piece (statement_item (default_stmt (at 1) (empty_stmt (at 1))))
      no_pieces)))))) (and_piece (statement_item (return_stmt (at 1) (Some (constant (at 1) ty.Int 1)))) no_pieces));
})) ∷ [])) ≡ []
cases_by_type = refl

-- int main(void) { case 1: return 0; }
case_outside : told (unit_typed 1048576 (codes "main.c" ∷ codes "main" ∷ []) (at 0) ((definition (record {
  start = (at 1);
  specifiers = ((plain_specifier
      (specifier.Word word.Int)) ∷ []);
  at = (at 1);
  name = 1;
  parameters = [];
  brace = (at 1);
  body = (and_piece (statement_item (case_stmt (at 1) (constant
      (at 1) ty.Int 1) (return_stmt (at 1) (Some (constant (at 1) ty.Int 0))))) no_pieces);
})) ∷ [])) ≡ fault 541 1 ∷ []
case_outside = refl

-- int main(void) { while (0) default: ; return 0; }
default_outside : told (unit_typed 1048576 (codes "main.c" ∷ codes "main" ∷ []) (at 0) ((definition (record {
  start = (at 1);
  specifiers = ((plain_specifier
      (specifier.Word word.Int)) ∷ []);
  at = (at 1);
  name = 1;
  parameters = [];
  brace = (at 1);
  body = (and_piece (statement_item (while_stmt (at 1) (constant
      (at 1) ty.Int 0) (default_stmt (at 1) (empty_stmt (at 1))))) (and_piece (statement_item (return_stmt (at 1) (Some (constant (at 1) ty.Int 0))))
      no_pieces));
})) ∷ [])) ≡ fault 541 1 ∷ []
default_outside = refl

-- int main(void) { switch (1) { { case 1: ; } } return 0; }
label_in_inner_block : told (unit_typed 1048576 (codes "main.c" ∷ codes "main" ∷ []) (at 0) ((definition (record {
  start = (at 1);
  specifiers = ((plain_specifier
      (specifier.Word word.Int)) ∷ []);
  at = (at 1);
  name = 1;
  parameters = [];
  brace = (at 1);
  body = (and_piece (statement_item (switch_stmt (at 1)
      (constant (at 1) ty.Int 1) (block_stmt (at 1) (and_piece (statement_item (block_stmt (at 1) (and_piece (statement_item (case_stmt (at 1) (constant (at
      1) ty.Int 1) (empty_stmt (at 1)))) no_pieces))) no_pieces)))) (and_piece (statement_item (return_stmt (at 1) (Some (constant (at 1) ty.Int 0))))
      no_pieces));
})) ∷ [])) ≡ fault 623 1 ∷ []
label_in_inner_block = refl

-- int main(void) { switch (1) { case 0: while (0) { case 1: ; } } return 0; }
label_in_inner_loop : told (unit_typed 1048576 (codes "main.c" ∷ codes "main" ∷ []) (at 0) ((definition (record {
  start = (at 1);
  specifiers = ((plain_specifier
      (specifier.Word word.Int)) ∷ []);
  at = (at 1);
  name = 1;
  parameters = [];
  brace = (at 1);
  body = (and_piece (statement_item (switch_stmt (at 1)
      (constant (at 1) ty.Int 1) (block_stmt (at 1) (and_piece (statement_item (case_stmt (at 1) (constant (at 1) ty.Int 0) (while_stmt (at 1) (constant (at
      1) ty.Int 0) (block_stmt (at 1) (and_piece (statement_item (case_stmt (at 1) (constant (at 1) ty.Int 1) (empty_stmt (at 1)))) no_pieces)))))
      no_pieces)))) (and_piece (statement_item (return_stmt (at 1) (Some (constant (at 1) ty.Int 0)))) no_pieces));
})) ∷ [])) ≡ fault 623 1 ∷ []
label_in_inner_loop = refl

-- int main(void) { switch (1) case 1: ; return 0; }
switch_without_block : told (unit_typed 1048576 (codes "main.c" ∷ codes "main" ∷ []) (at 0) ((definition (record {
  start = (at 1);
  specifiers = ((plain_specifier
      (specifier.Word word.Int)) ∷ []);
  at = (at 1);
  name = 1;
  parameters = [];
  brace = (at 1);
  body = (and_piece (statement_item (switch_stmt (at 1)
      (constant (at 1) ty.Int 1) (case_stmt (at 1) (constant (at 1) ty.Int 1) (empty_stmt (at 1))))) (and_piece (statement_item (return_stmt (at 1) (Some
      (constant (at 1) ty.Int 0)))) no_pieces));
})) ∷ [])) ≡ fault 623 1 ∷ []
switch_without_block = refl

-- int main(void) { switch (1) { case 1: case 2: default: return 1; } return 0; }
labels_one_after_another : told (unit_typed 1048576 (codes "main.c" ∷ codes "main" ∷ []) (at 0) ((definition (record {
  start = (at 1);
  specifiers =
      ((plain_specifier (specifier.Word word.Int)) ∷ []);
  at = (at 1);
  name = 1;
  parameters = [];
  brace = (at 1);
  body = (and_piece (statement_item
      (switch_stmt (at 1) (constant (at 1) ty.Int 1) (block_stmt (at 1) (and_piece (statement_item (case_stmt (at 1) (constant (at 1) ty.Int 1) (case_stmt (at
      1) (constant (at 1) ty.Int 2) (default_stmt (at 1) (return_stmt (at 1) (Some (constant (at 1) ty.Int 1))))))) no_pieces)))) (and_piece (statement_item
      (return_stmt (at 1) (Some (constant (at 1) ty.Int 0)))) no_pieces));
})) ∷ [])) ≡ []
labels_one_after_another = refl

-- int main(void) { break; return 0; }
break_outside : told (unit_typed 1048576 (codes "main.c" ∷ codes "main" ∷ []) (at 0) ((definition (record {
  start = (at 1);
  specifiers = ((plain_specifier
      (specifier.Word word.Int)) ∷ []);
  at = (at 1);
  name = 1;
  parameters = [];
  brace = (at 1);
  body = (and_piece (statement_item (break_stmt (at 1)))
      (and_piece (statement_item (return_stmt (at 1) (Some (constant (at 1) ty.Int 0)))) no_pieces));
})) ∷ [])) ≡ fault 542 1 ∷ []
break_outside = refl

-- int main(void) { switch (1) { case 1: continue; } return 0; }
continue_in_switch : told (unit_typed 1048576 (codes "main.c" ∷ codes "main" ∷ []) (at 0) ((definition (record {
  start = (at 1);
  specifiers = ((plain_specifier
      (specifier.Word word.Int)) ∷ []);
  at = (at 1);
  name = 1;
  parameters = [];
  brace = (at 1);
  body = (and_piece (statement_item (switch_stmt (at 1)
      (constant (at 1) ty.Int 1) (block_stmt (at 1) (and_piece (statement_item (case_stmt (at 1) (constant (at 1) ty.Int 1) (continue_stmt (at 1))))
      no_pieces)))) (and_piece (statement_item (return_stmt (at 1) (Some (constant (at 1) ty.Int 0)))) no_pieces));
})) ∷ [])) ≡ fault 542 1 ∷ []
continue_in_switch = refl

-- int main(void) { for (;;) { switch (1) { case 1: continue; default: break; } break; } return 0; }
continue_in_loop : told (unit_typed 1048576 (codes "main.c" ∷ codes "main" ∷ []) (at 0) ((definition (record {
  start = (at 1);
  specifiers = ((plain_specifier
      (specifier.Word word.Int)) ∷ []);
  at = (at 1);
  name = 1;
  parameters = [];
  brace = (at 1);
  body = (and_piece (statement_item (for_stmt (at 1)
      (expression_start None) None None (block_stmt (at 1) (and_piece (statement_item (switch_stmt (at 1) (constant (at 1) ty.Int 1) (block_stmt (at 1)
      (and_piece (statement_item (case_stmt (at 1) (constant (at 1) ty.Int 1) (continue_stmt (at 1)))) (and_piece (statement_item (default_stmt (at 1)
      (break_stmt (at 1)))) no_pieces))))) (and_piece (statement_item (break_stmt (at 1))) no_pieces))))) (and_piece (statement_item (return_stmt (at 1) (Some
      (constant (at 1) ty.Int 0)))) no_pieces));
})) ∷ [])) ≡ []
continue_in_loop = refl

-- int main(void) { return; }
nothing_returned : told (unit_typed 1048576 (codes "main.c" ∷ codes "main" ∷ []) (at 0) ((definition (record {
  start = (at 1);
  specifiers = ((plain_specifier
      (specifier.Word word.Int)) ∷ []);
  at = (at 1);
  name = 1;
  parameters = [];
  brace = (at 1);
  body = (and_piece (statement_item (return_stmt (at 1) None))
      no_pieces);
})) ∷ [])) ≡ fault 543 1 ∷ []
nothing_returned = refl

-- void f(void) { return 1; }
-- int main(void) { return 0; }
value_from_void : told (unit_typed 1048576 (codes "main.c" ∷ codes "f" ∷ codes "main" ∷ []) (at 0) ((definition (record {
  start = (at 1);
  specifiers =
      ((plain_specifier (specifier.Word word.Void)) ∷ []);
  at = (at 1);
  name = 1;
  parameters = [];
  brace = (at 1);
  body = (and_piece (statement_item
      (return_stmt (at 1) (Some (constant (at 1) ty.Int 1)))) no_pieces);
})) ∷ (definition (record {
  start = (at 2);
  specifiers = ((plain_specifier
      (specifier.Word word.Int)) ∷ []);
  at = (at 2);
  name = 2;
  parameters = [];
  brace = (at 2);
  body = (and_piece (statement_item (return_stmt (at 2) (Some
      (constant (at 2) ty.Int 0)))) no_pieces);
})) ∷ [])) ≡ fault 543 1 ∷ []
value_from_void = refl

-- int rv_getbyte(void); void rv_putbyte(int c); void rv_exit(int status);
-- void f(void) { return rv_putbyte(1); }
-- int main(void) { return 0; }
void_from_void : told (unit_typed 1048576 (codes "main.c" ∷ codes "rv_getbyte" ∷ codes "rv_putbyte" ∷ codes "c" ∷ codes "rv_exit" ∷ codes "status" ∷ codes "f" ∷
    codes "main" ∷ []) (at 0) ((declaration (declared (at 1) ((plain_specifier (specifier.Word word.Int)) ∷ []) ((function (at 1) 1 []) ∷ []))) ∷
    (declaration (declared (at 1) ((plain_specifier (specifier.Word word.Void)) ∷ []) ((function (at 1) 2 (record {
      at = (at 1);
      start = (at 1);
      specifiers
          = ((specifier.Word word.Int) ∷ []);
      name = (Some 3);
      sizes = [];
    } ∷ [])) ∷ []))) ∷ (declaration (declared (at 1) ((plain_specifier (specifier.Word
    word.Void)) ∷ []) ((function (at 1) 4 (record {
      at = (at 1);
      start = (at 1);
      specifiers = ((specifier.Word word.Int) ∷ []);
      name = (Some 5);
      sizes = [];
    } ∷ [])) ∷ []))) ∷ (definition (record {
      start = (at 2);
      specifiers = ((plain_specifier (specifier.Word word.Void)) ∷ []);
      at = (at 2);
      name = 6;
      parameters = [];
      brace = (at 2);
      body = (and_piece (statement_item (return_stmt (at 2) (Some (call (at 2) 2 (one_more (constant (at 2) ty.Int 1)
          no_trees))))) no_pieces);
    })) ∷ (definition (record {
      start = (at 3);
      specifiers = ((plain_specifier (specifier.Word word.Int)) ∷ []);
      at = (at 3);
      name
          = 7;
      parameters = [];
      brace = (at 3);
      body = (and_piece (statement_item (return_stmt (at 3) (Some (constant (at 3) ty.Int 0)))) no_pieces);
    })) ∷ [])) ≡
    fault 543 2 ∷ []
void_from_void = refl

-- int f(void) { } int main(void) { return f(); }
ends_without_value : told (unit_typed 1048576 (codes "main.c" ∷ codes "f" ∷ codes "main" ∷ []) (at 0) ((definition (record {
  start = (at 1);
  specifiers =
      ((plain_specifier (specifier.Word word.Int)) ∷ []);
  at = (at 1);
  name = 1;
  parameters = [];
  brace = (at 1);
  body = no_pieces;
})) ∷ (definition (record {
  start = (at 1);
  specifiers = ((plain_specifier (specifier.Word word.Int)) ∷ []);
  at = (at 1);
  name = 2;
  parameters = [];
  brace = (at 1);
  body =
      (and_piece (statement_item (return_stmt (at 1) (Some (call (at 1) 1 no_trees)))) no_pieces);
})) ∷ [])) ≡ []
ends_without_value = refl

-- char a0[1048576];
-- char a1[1048576];
-- char a2[1048576];
-- char a3[1048576];
-- char a4[1048576];
-- char a5[1048576];
-- char a6[1048576];
-- char a7[1048576];
-- char a8[1048576];
-- char a9[1048576];
-- char a10[1048576];
-- char a11[1048576];
-- char a12[1048576];
-- char a13[1048576];
-- char a14[1048576];
-- char b[1048573];
-- int main(void) { char s[2] = "a"; return s[0]; }
text_of_initialiser_counts : told (unit_typed 1048576 (codes "main.c" ∷ codes "a0" ∷ codes "a1" ∷ codes "a2" ∷ codes "a3" ∷ codes "a4" ∷ codes "a5" ∷ codes "a6" ∷
    codes "a7" ∷ codes "a8" ∷ codes "a9" ∷ codes "a10" ∷ codes "a11" ∷ codes "a12" ∷ codes "a13" ∷ codes "a14" ∷ codes "b" ∷ codes "main" ∷ codes "s" ∷
    (codes "a" ++ 0 ∷ []) ∷ []) (at 0) ((declaration (declared (at 1) ((plain_specifier (specifier.Word word.Char)) ∷ []) ((object (at 1) 1 ((Some (constant (at 1)
    ty.Int 1048576)) ∷ []) None) ∷ []))) ∷ (declaration (declared (at 2) ((plain_specifier (specifier.Word word.Char)) ∷ []) ((object (at 2) 2 ((Some
    (constant (at 2) ty.Int 1048576)) ∷ []) None) ∷ []))) ∷ (declaration (declared (at 3) ((plain_specifier (specifier.Word word.Char)) ∷ []) ((object (at
    3) 3 ((Some (constant (at 3) ty.Int 1048576)) ∷ []) None) ∷ []))) ∷ (declaration (declared (at 4) ((plain_specifier (specifier.Word word.Char)) ∷ [])
    ((object (at 4) 4 ((Some (constant (at 4) ty.Int 1048576)) ∷ []) None) ∷ []))) ∷ (declaration (declared (at 5) ((plain_specifier (specifier.Word
    word.Char)) ∷ []) ((object (at 5) 5 ((Some (constant (at 5) ty.Int 1048576)) ∷ []) None) ∷ []))) ∷ (declaration (declared (at 6) ((plain_specifier
    (specifier.Word word.Char)) ∷ []) ((object (at 6) 6 ((Some (constant (at 6) ty.Int 1048576)) ∷ []) None) ∷ []))) ∷ (declaration (declared (at 7)
    ((plain_specifier (specifier.Word word.Char)) ∷ []) ((object (at 7) 7 ((Some (constant (at 7) ty.Int 1048576)) ∷ []) None) ∷ []))) ∷ (declaration
    (declared (at 8) ((plain_specifier (specifier.Word word.Char)) ∷ []) ((object (at 8) 8 ((Some (constant (at 8) ty.Int 1048576)) ∷ []) None) ∷ []))) ∷
    (declaration (declared (at 9) ((plain_specifier (specifier.Word word.Char)) ∷ []) ((object (at 9) 9 ((Some (constant (at 9) ty.Int 1048576)) ∷ []) None)
    ∷ []))) ∷ (declaration (declared (at 10) ((plain_specifier (specifier.Word word.Char)) ∷ []) ((object (at 10) 10 ((Some (constant (at 10) ty.Int
    1048576)) ∷ []) None) ∷ []))) ∷ (declaration (declared (at 11) ((plain_specifier (specifier.Word word.Char)) ∷ []) ((object (at 11) 11 ((Some (constant
    (at 11) ty.Int 1048576)) ∷ []) None) ∷ []))) ∷ (declaration (declared (at 12) ((plain_specifier (specifier.Word word.Char)) ∷ []) ((object (at 12) 12
    ((Some (constant (at 12) ty.Int 1048576)) ∷ []) None) ∷ []))) ∷ (declaration (declared (at 13) ((plain_specifier (specifier.Word word.Char)) ∷ [])
    ((object (at 13) 13 ((Some (constant (at 13) ty.Int 1048576)) ∷ []) None) ∷ []))) ∷ (declaration (declared (at 14) ((plain_specifier (specifier.Word
    word.Char)) ∷ []) ((object (at 14) 14 ((Some (constant (at 14) ty.Int 1048576)) ∷ []) None) ∷ []))) ∷ (declaration (declared (at 15) ((plain_specifier
    (specifier.Word word.Char)) ∷ []) ((object (at 15) 15 ((Some (constant (at 15) ty.Int 1048576)) ∷ []) None) ∷ []))) ∷ (declaration (declared (at 16)
    ((plain_specifier (specifier.Word word.Char)) ∷ []) ((object (at 16) 16 ((Some (constant (at 16) ty.Int 1048573)) ∷ []) None) ∷ []))) ∷ (definition
    (record {
      start = (at 17);
      specifiers = ((plain_specifier (specifier.Word word.Int)) ∷ []);
      at = (at 17);
      name = 17;
      parameters = [];
      brace = (at 17);
      body = (and_piece (declaration_item (declared (at 17) ((plain_specifier (specifier.Word word.Char)) ∷ []) ((object (at 17) 18 ((Some (constant (at 17)
          ty.Int 2)) ∷ []) (Some (one_init (string (at 17) 19)))) ∷ []))) (and_piece (statement_item (return_stmt (at 17) (Some (subscript (at 17) (identifier (at
          17) 18) (constant (at 17) ty.Int 0))))) no_pieces));
    })) ∷ [])) ≡ fault 713 0 ∷ []
text_of_initialiser_counts = refl

-- char a0[1048576];
-- char a1[1048576];
-- char a2[1048576];
-- char a3[1048576];
-- char a4[1048576];
-- char a5[1048576];
-- char a6[1048576];
-- char a7[1048576];
-- char a8[1048576];
-- char a9[1048576];
-- char a10[1048576];
-- char a11[1048576];
-- char a12[1048576];
-- char a13[1048576];
-- char a14[1048576];
-- char a15[1048576];
-- _Static_assert(1, "m");
-- int main(void) { return 0; }
text_of_assertion_counts_not : told (unit_typed 1048576 (codes "main.c" ∷ codes "a0" ∷ codes "a1" ∷ codes "a2" ∷ codes "a3" ∷ codes "a4" ∷ codes "a5" ∷ codes "a6" ∷
    codes "a7" ∷ codes "a8" ∷ codes "a9" ∷ codes "a10" ∷ codes "a11" ∷ codes "a12" ∷ codes "a13" ∷ codes "a14" ∷ codes "a15" ∷ codes "m" ∷ codes "main" ∷
    []) (at 0) ((declaration (declared (at 1) ((plain_specifier (specifier.Word word.Char)) ∷ []) ((object (at 1) 1 ((Some (constant (at 1) ty.Int 1048576))
    ∷ []) None) ∷ []))) ∷ (declaration (declared (at 2) ((plain_specifier (specifier.Word word.Char)) ∷ []) ((object (at 2) 2 ((Some (constant (at 2) ty.Int
    1048576)) ∷ []) None) ∷ []))) ∷ (declaration (declared (at 3) ((plain_specifier (specifier.Word word.Char)) ∷ []) ((object (at 3) 3 ((Some (constant (at
    3) ty.Int 1048576)) ∷ []) None) ∷ []))) ∷ (declaration (declared (at 4) ((plain_specifier (specifier.Word word.Char)) ∷ []) ((object (at 4) 4 ((Some
    (constant (at 4) ty.Int 1048576)) ∷ []) None) ∷ []))) ∷ (declaration (declared (at 5) ((plain_specifier (specifier.Word word.Char)) ∷ []) ((object (at
    5) 5 ((Some (constant (at 5) ty.Int 1048576)) ∷ []) None) ∷ []))) ∷ (declaration (declared (at 6) ((plain_specifier (specifier.Word word.Char)) ∷ [])
    ((object (at 6) 6 ((Some (constant (at 6) ty.Int 1048576)) ∷ []) None) ∷ []))) ∷ (declaration (declared (at 7) ((plain_specifier (specifier.Word
    word.Char)) ∷ []) ((object (at 7) 7 ((Some (constant (at 7) ty.Int 1048576)) ∷ []) None) ∷ []))) ∷ (declaration (declared (at 8) ((plain_specifier
    (specifier.Word word.Char)) ∷ []) ((object (at 8) 8 ((Some (constant (at 8) ty.Int 1048576)) ∷ []) None) ∷ []))) ∷ (declaration (declared (at 9)
    ((plain_specifier (specifier.Word word.Char)) ∷ []) ((object (at 9) 9 ((Some (constant (at 9) ty.Int 1048576)) ∷ []) None) ∷ []))) ∷ (declaration
    (declared (at 10) ((plain_specifier (specifier.Word word.Char)) ∷ []) ((object (at 10) 10 ((Some (constant (at 10) ty.Int 1048576)) ∷ []) None) ∷ [])))
    ∷ (declaration (declared (at 11) ((plain_specifier (specifier.Word word.Char)) ∷ []) ((object (at 11) 11 ((Some (constant (at 11) ty.Int 1048576)) ∷ [])
    None) ∷ []))) ∷ (declaration (declared (at 12) ((plain_specifier (specifier.Word word.Char)) ∷ []) ((object (at 12) 12 ((Some (constant (at 12) ty.Int
    1048576)) ∷ []) None) ∷ []))) ∷ (declaration (declared (at 13) ((plain_specifier (specifier.Word word.Char)) ∷ []) ((object (at 13) 13 ((Some (constant
    (at 13) ty.Int 1048576)) ∷ []) None) ∷ []))) ∷ (declaration (declared (at 14) ((plain_specifier (specifier.Word word.Char)) ∷ []) ((object (at 14) 14
    ((Some (constant (at 14) ty.Int 1048576)) ∷ []) None) ∷ []))) ∷ (declaration (declared (at 15) ((plain_specifier (specifier.Word word.Char)) ∷ [])
    ((object (at 15) 15 ((Some (constant (at 15) ty.Int 1048576)) ∷ []) None) ∷ []))) ∷ (declaration (declared (at 16) ((plain_specifier (specifier.Word
    word.Char)) ∷ []) ((object (at 16) 16 ((Some (constant (at 16) ty.Int 1048576)) ∷ []) None) ∷ []))) ∷ (declaration (assertion (at 17) (constant (at 17)
    ty.Int 1) 17)) ∷ (definition (record {
      start = (at 18);
      specifiers = ((plain_specifier (specifier.Word word.Int)) ∷ []);
      at = (at 18);
      name = 18;
      parameters = [];
      brace = (at 18);
      body = (and_piece (statement_item (return_stmt (at 18) (Some (constant (at 18) ty.Int 0)))) no_pieces);
    })) ∷ [])) ≡ []
text_of_assertion_counts_not = refl

empty_unit : told (unit_typed 1048576 (codes "main.c" ∷ []) (at 0) ([])) ≡ fault 551 0 ∷ []
empty_unit = refl

-- static int main(void) { return 0; }
static_main : told (unit_typed 1048576 (codes "main.c" ∷ codes "main" ∷ []) (at 0) ((definition (record {
  start = (at 1);
  specifiers = (static_specifier ∷
      (plain_specifier (specifier.Word word.Int)) ∷ []);
  at = (at 1);
  name = 1;
  parameters = [];
  brace = (at 1);
  body = (and_piece (statement_item
      (return_stmt (at 1) (Some (constant (at 1) ty.Int 0)))) no_pieces);
})) ∷ [])) ≡ fault 551 0 ∷ []
static_main = refl

-- void main(void) { }
void_main : told (unit_typed 1048576 (codes "main.c" ∷ codes "main" ∷ []) (at 0) ((definition (record {
  start = (at 1);
  specifiers = ((plain_specifier
      (specifier.Word word.Void)) ∷ []);
  at = (at 1);
  name = 1;
  parameters = [];
  brace = (at 1);
  body = no_pieces;
})) ∷ [])) ≡ fault 551 0 ∷ []
void_main = refl

-- int main(void);
main_declared : told (unit_typed 1048576 (codes "main.c" ∷ codes "main" ∷ []) (at 0) ((declaration (declared (at 1) ((plain_specifier (specifier.Word word.Int)) ∷
    []) ((function (at 1) 1 []) ∷ []))) ∷ [])) ≡ fault 551 0 ∷ []
main_declared = refl

-- int g(void);
-- int main(void) { return g(); }
undefined_function : told (unit_typed 1048576 (codes "main.c" ∷ codes "g" ∷ codes "main" ∷ []) (at 0) ((declaration (declared (at 1) ((plain_specifier
    (specifier.Word word.Int)) ∷ []) ((function (at 1) 1 []) ∷ []))) ∷ (definition (record {
      start = (at 2);
      specifiers = ((plain_specifier (specifier.Word
          word.Int)) ∷ []);
      at = (at 2);
      name = 2;
      parameters = [];
      brace = (at 2);
      body = (and_piece (statement_item (return_stmt (at 2) (Some (call (at 2) 1
          no_trees)))) no_pieces);
    })) ∷ [])) ≡ fault 552 2 ∷ []
undefined_function = refl

-- int g(void);
-- int main(void) { g();
-- return g(); }
undefined_function_twice : told (unit_typed 1048576 (codes "main.c" ∷ codes "g" ∷ codes "main" ∷ []) (at 0) ((declaration (declared (at 1) ((plain_specifier
    (specifier.Word word.Int)) ∷ []) ((function (at 1) 1 []) ∷ []))) ∷ (definition (record {
      start = (at 2);
      specifiers = ((plain_specifier (specifier.Word
          word.Int)) ∷ []);
      at = (at 2);
      name = 2;
      parameters = [];
      brace = (at 2);
      body = (and_piece (statement_item (expression_stmt (at 2) (call (at 2) 1
          no_trees))) (and_piece (statement_item (return_stmt (at 3) (Some (call (at 3) 1 no_trees)))) no_pieces));
    })) ∷ [])) ≡ fault 552 2 ∷ []
undefined_function_twice = refl

-- int g(void); int main(void) { return (int)sizeof(g()); }
undefined_but_measured : told (unit_typed 1048576 (codes "main.c" ∷ codes "g" ∷ codes "main" ∷ []) (at 0) ((declaration (declared (at 1) ((plain_specifier
    (specifier.Word word.Int)) ∷ []) ((function (at 1) 1 []) ∷ []))) ∷ (definition (record {
      start = (at 1);
      specifiers = ((plain_specifier (specifier.Word
          word.Int)) ∷ []);
      at = (at 1);
      name = 2;
      parameters = [];
      brace = (at 1);
      body = (and_piece (statement_item (return_stmt (at 1) (Some (cast (at 1)
          (type_name (at 1) ((specifier.Word word.Int) ∷ []) no_trees) (size_of (at 1) (paren (call (at 1) 1 no_trees))))))) no_pieces);
    })) ∷ [])) ≡ []
undefined_but_measured = refl

-- int g(void);
-- int main(void) { return 0 && g(); }
undefined_not_reached : told (unit_typed 1048576 (codes "main.c" ∷ codes "g" ∷ codes "main" ∷ []) (at 0) ((declaration (declared (at 1) ((plain_specifier
    (specifier.Word word.Int)) ∷ []) ((function (at 1) 1 []) ∷ []))) ∷ (definition (record {
      start = (at 2);
      specifiers = ((plain_specifier (specifier.Word
          word.Int)) ∷ []);
      at = (at 2);
      name = 2;
      parameters = [];
      brace = (at 2);
      body = (and_piece (statement_item (return_stmt (at 2) (Some (binary (at 2)
          operator.And (constant (at 2) ty.Int 0) (call (at 2) 1 no_trees))))) no_pieces);
    })) ∷ [])) ≡ fault 552 2 ∷ []
undefined_not_reached = refl

-- extern int x;
-- int main(void) { return x; }
undefined_object : told (unit_typed 1048576 (codes "main.c" ∷ codes "x" ∷ codes "main" ∷ []) (at 0) ((declaration (declared (at 1) (extern_specifier ∷
    (plain_specifier (specifier.Word word.Int)) ∷ []) ((object (at 1) 1 [] None) ∷ []))) ∷ (definition (record {
      start = (at 2);
      specifiers =
          ((plain_specifier (specifier.Word word.Int)) ∷ []);
      at = (at 2);
      name = 2;
      parameters = [];
      brace = (at 2);
      body = (and_piece (statement_item
          (return_stmt (at 2) (Some (identifier (at 2) 1)))) no_pieces);
    })) ∷ [])) ≡ fault 552 2 ∷ []
undefined_object = refl

-- extern int x[]; static int f(void); int main(void) { return 0; }
undefined_unused : told (unit_typed 1048576 (codes "main.c" ∷ codes "x" ∷ codes "f" ∷ codes "main" ∷ []) (at 0) ((declaration (declared (at 1) (extern_specifier ∷
    (plain_specifier (specifier.Word word.Int)) ∷ []) ((object (at 1) 1 (None ∷ []) None) ∷ []))) ∷ (declaration (declared (at 1) (static_specifier ∷
    (plain_specifier (specifier.Word word.Int)) ∷ []) ((function (at 1) 2 []) ∷ []))) ∷ (definition (record {
      start = (at 1);
      specifiers = ((plain_specifier
          (specifier.Word word.Int)) ∷ []);
      at = (at 1);
      name = 3;
      parameters = [];
      brace = (at 1);
      body = (and_piece (statement_item (return_stmt (at 1) (Some
          (constant (at 1) ty.Int 0)))) no_pieces);
    })) ∷ [])) ≡ []
undefined_unused = refl

-- extern int x; int g(void); int main(void) { return g() + x; } int g(void) { return 1; } int x;
defined_behind : told (unit_typed 1048576 (codes "main.c" ∷ codes "x" ∷ codes "g" ∷ codes "main" ∷ []) (at 0) ((declaration (declared (at 1) (extern_specifier ∷
    (plain_specifier (specifier.Word word.Int)) ∷ []) ((object (at 1) 1 [] None) ∷ []))) ∷ (declaration (declared (at 1) ((plain_specifier (specifier.Word
    word.Int)) ∷ []) ((function (at 1) 2 []) ∷ []))) ∷ (definition (record {
      start = (at 1);
      specifiers = ((plain_specifier (specifier.Word word.Int)) ∷
          []);
      at = (at 1);
      name = 3;
      parameters = [];
      brace = (at 1);
      body = (and_piece (statement_item (return_stmt (at 1) (Some (binary (at 1) operator.Add
          (call (at 1) 2 no_trees) (identifier (at 1) 1))))) no_pieces);
    })) ∷ (definition (record {
      start = (at 1);
      specifiers = ((plain_specifier (specifier.Word
          word.Int)) ∷ []);
      at = (at 1);
      name = 2;
      parameters = [];
      brace = (at 1);
      body = (and_piece (statement_item (return_stmt (at 1) (Some (constant (at 1)
          ty.Int 1)))) no_pieces);
    })) ∷ (declaration (declared (at 1) ((plain_specifier (specifier.Word word.Int)) ∷ []) ((object (at 1) 1 [] None) ∷ []))) ∷ []))
    ≡ []
defined_behind = refl

-- void rv_exit(int status) { }
-- int main(void) { return 0; }
built_in_defined : told (unit_typed 1048576 (codes "main.c" ∷ codes "rv_exit" ∷ codes "status" ∷ codes "main" ∷ []) (at 0) ((definition (record {
  start = (at 1);
  specifiers = ((plain_specifier (specifier.Word word.Void)) ∷ []);
  at = (at 1);
  name = 1;
  parameters = (record {
    at = (at 1);
    start = (at 1);
    specifiers
        = ((specifier.Word word.Int) ∷ []);
    name = (Some 2);
    sizes = [];
  } ∷ []);
  brace = (at 1);
  body = no_pieces;
})) ∷ (definition (record {
  start = (at 2);
  specifiers = ((plain_specifier (specifier.Word word.Int)) ∷ []);
  at = (at 2);
  name = 3;
  parameters = [];
  brace = (at 2);
  body = (and_piece
      (statement_item (return_stmt (at 2) (Some (constant (at 2) ty.Int 0)))) no_pieces);
})) ∷ [])) ≡ fault 553 1 ∷ []
built_in_defined = refl

-- int rv_getbyte(void); void rv_putbyte(int c); void rv_exit(int status);
-- int main(void) { int c; while ((c = rv_getbyte()) != -1) rv_putbyte(c); rv_exit(3); return 0; }
built_ins : told (unit_typed 1048576 (codes "main.c" ∷ codes "rv_getbyte" ∷ codes "rv_putbyte" ∷ codes "c" ∷ codes "rv_exit" ∷ codes "status" ∷ codes "main" ∷ [])
    (at 0) ((declaration (declared (at 1) ((plain_specifier (specifier.Word word.Int)) ∷ []) ((function (at 1) 1 []) ∷ []))) ∷ (declaration (declared (at 1)
    ((plain_specifier (specifier.Word word.Void)) ∷ []) ((function (at 1) 2 (record {
      at = (at 1);
      start = (at 1);
      specifiers = ((specifier.Word word.Int) ∷
          []);
      name = (Some 3);
      sizes = [];
    } ∷ [])) ∷ []))) ∷ (declaration (declared (at 1) ((plain_specifier (specifier.Word word.Void)) ∷ []) ((function (at 1)
    4 (record { at = (at 1); start = (at 1); specifiers = ((specifier.Word word.Int) ∷ []); name = (Some 5); sizes = [] } ∷ [])) ∷ []))) ∷ (definition
    (record {
      start = (at 2);
      specifiers = ((plain_specifier (specifier.Word word.Int)) ∷ []);
      at = (at 2);
      name = 6;
      parameters = [];
      brace = (at 2);
      body
          = (and_piece (declaration_item (declared (at 2) ((plain_specifier (specifier.Word word.Int)) ∷ []) ((object (at 2) 3 [] None) ∷ []))) (and_piece
          (statement_item (while_stmt (at 2) (binary (at 2) operator.NotEqual (paren (assign (at 2) assigning.Plain (identifier (at 2) 3) (call (at 2) 1
          no_trees))) (prefix (at 2) sign.Minus (constant (at 2) ty.Int 1))) (expression_stmt (at 2) (call (at 2) 2 (one_more (identifier (at 2) 3) no_trees)))))
          (and_piece (statement_item (expression_stmt (at 2) (call (at 2) 4 (one_more (constant (at 2) ty.Int 3) no_trees)))) (and_piece (statement_item
          (return_stmt (at 2) (Some (constant (at 2) ty.Int 0)))) no_pieces))));
    })) ∷ [])) ≡ []
built_ins = refl

-- int main(void) { char a[1048416]; return 0; }
greatest_weight : told (unit_typed 1048576 (codes "main.c" ∷ codes "main" ∷ codes "a" ∷ []) (at 0) ((definition (record {
  start = (at 1);
  specifiers =
      ((plain_specifier (specifier.Word word.Int)) ∷ []);
  at = (at 1);
  name = 1;
  parameters = [];
  brace = (at 1);
  body = (and_piece (declaration_item
      (declared (at 1) ((plain_specifier (specifier.Word word.Char)) ∷ []) ((object (at 1) 2 ((Some (constant (at 1) ty.Int 1048416)) ∷ []) None) ∷ [])))
      (and_piece (statement_item (return_stmt (at 1) (Some (constant (at 1) ty.Int 0)))) no_pieces));
})) ∷ [])) ≡ []
greatest_weight = refl

-- int main(void) { char a[1048417]; return 0; }
weight_too_large : told (unit_typed 1048576 (codes "main.c" ∷ codes "main" ∷ codes "a" ∷ []) (at 0) ((definition (record {
  start = (at 1);
  specifiers =
      ((plain_specifier (specifier.Word word.Int)) ∷ []);
  at = (at 1);
  name = 1;
  parameters = [];
  brace = (at 1);
  body = (and_piece (declaration_item
      (declared (at 1) ((plain_specifier (specifier.Word word.Char)) ∷ []) ((object (at 1) 2 ((Some (constant (at 1) ty.Int 1048417)) ∷ []) None) ∷ [])))
      (and_piece (statement_item (return_stmt (at 1) (Some (constant (at 1) ty.Int 0)))) no_pieces));
})) ∷ [])) ≡ fault 714 1 ∷ []
weight_too_large = refl

-- int main(void) { char a[3936]; return 0; }, by a stack of 4096 bytes
greatest_weight_of_4096 : told (unit_typed 4096 (codes "main.c" ∷ codes "main" ∷ codes "a" ∷ []) (at 0) ((definition (record {
  start = (at 1);
  specifiers =
      ((plain_specifier (specifier.Word word.Int)) ∷ []);
  at = (at 1);
  name = 1;
  parameters = [];
  brace = (at 1);
  body = (and_piece (declaration_item
      (declared (at 1) ((plain_specifier (specifier.Word word.Char)) ∷ []) ((object (at 1) 2 ((Some (constant (at 1) ty.Int 3936)) ∷ []) None) ∷ [])))
      (and_piece (statement_item (return_stmt (at 1) (Some (constant (at 1) ty.Int 0)))) no_pieces));
})) ∷ [])) ≡ []
greatest_weight_of_4096 = refl

-- int main(void) { char a[3937]; return 0; }, by a stack of 4096 bytes
weight_too_large_for_4096 : told (unit_typed 4096 (codes "main.c" ∷ codes "main" ∷ codes "a" ∷ []) (at 0) ((definition (record {
  start = (at 1);
  specifiers =
      ((plain_specifier (specifier.Word word.Int)) ∷ []);
  at = (at 1);
  name = 1;
  parameters = [];
  brace = (at 1);
  body = (and_piece (declaration_item
      (declared (at 1) ((plain_specifier (specifier.Word word.Char)) ∷ []) ((object (at 1) 2 ((Some (constant (at 1) ty.Int 3937)) ∷ []) None) ∷ [])))
      (and_piece (statement_item (return_stmt (at 1) (Some (constant (at 1) ty.Int 0)))) no_pieces));
})) ∷ [])) ≡ fault 714 1 ∷ []
weight_too_large_for_4096 = refl

-- char a0[1048576];
-- char a1[1048576];
-- char a2[1048576];
-- char a3[1048576];
-- char a4[1048576];
-- char a5[1048576];
-- char a6[1048576];
-- char a7[1048576];
-- char a8[1048576];
-- char a9[1048576];
-- char a10[1048576];
-- char a11[1048576];
-- char a12[1048576];
-- char a13[1048576];
-- char a14[1048576];
-- char a15[1048576];
-- char b;
-- int main(void) { return 0; }
statics_too_large : told (unit_typed 1048576 (codes "main.c" ∷ codes "a0" ∷ codes "a1" ∷ codes "a2" ∷ codes "a3" ∷ codes "a4" ∷ codes "a5" ∷ codes "a6" ∷ codes "a7"
    ∷ codes "a8" ∷ codes "a9" ∷ codes "a10" ∷ codes "a11" ∷ codes "a12" ∷ codes "a13" ∷ codes "a14" ∷ codes "a15" ∷ codes "b" ∷ codes "main" ∷ []) (at 0)
    ((declaration (declared (at 1) ((plain_specifier (specifier.Word word.Char)) ∷ []) ((object (at 1) 1 ((Some (constant (at 1) ty.Int 1048576)) ∷ [])
    None) ∷ []))) ∷ (declaration (declared (at 2) ((plain_specifier (specifier.Word word.Char)) ∷ []) ((object (at 2) 2 ((Some (constant (at 2) ty.Int
    1048576)) ∷ []) None) ∷ []))) ∷ (declaration (declared (at 3) ((plain_specifier (specifier.Word word.Char)) ∷ []) ((object (at 3) 3 ((Some (constant (at
    3) ty.Int 1048576)) ∷ []) None) ∷ []))) ∷ (declaration (declared (at 4) ((plain_specifier (specifier.Word word.Char)) ∷ []) ((object (at 4) 4 ((Some
    (constant (at 4) ty.Int 1048576)) ∷ []) None) ∷ []))) ∷ (declaration (declared (at 5) ((plain_specifier (specifier.Word word.Char)) ∷ []) ((object (at
    5) 5 ((Some (constant (at 5) ty.Int 1048576)) ∷ []) None) ∷ []))) ∷ (declaration (declared (at 6) ((plain_specifier (specifier.Word word.Char)) ∷ [])
    ((object (at 6) 6 ((Some (constant (at 6) ty.Int 1048576)) ∷ []) None) ∷ []))) ∷ (declaration (declared (at 7) ((plain_specifier (specifier.Word
    word.Char)) ∷ []) ((object (at 7) 7 ((Some (constant (at 7) ty.Int 1048576)) ∷ []) None) ∷ []))) ∷ (declaration (declared (at 8) ((plain_specifier
    (specifier.Word word.Char)) ∷ []) ((object (at 8) 8 ((Some (constant (at 8) ty.Int 1048576)) ∷ []) None) ∷ []))) ∷ (declaration (declared (at 9)
    ((plain_specifier (specifier.Word word.Char)) ∷ []) ((object (at 9) 9 ((Some (constant (at 9) ty.Int 1048576)) ∷ []) None) ∷ []))) ∷ (declaration
    (declared (at 10) ((plain_specifier (specifier.Word word.Char)) ∷ []) ((object (at 10) 10 ((Some (constant (at 10) ty.Int 1048576)) ∷ []) None) ∷ [])))
    ∷ (declaration (declared (at 11) ((plain_specifier (specifier.Word word.Char)) ∷ []) ((object (at 11) 11 ((Some (constant (at 11) ty.Int 1048576)) ∷ [])
    None) ∷ []))) ∷ (declaration (declared (at 12) ((plain_specifier (specifier.Word word.Char)) ∷ []) ((object (at 12) 12 ((Some (constant (at 12) ty.Int
    1048576)) ∷ []) None) ∷ []))) ∷ (declaration (declared (at 13) ((plain_specifier (specifier.Word word.Char)) ∷ []) ((object (at 13) 13 ((Some (constant
    (at 13) ty.Int 1048576)) ∷ []) None) ∷ []))) ∷ (declaration (declared (at 14) ((plain_specifier (specifier.Word word.Char)) ∷ []) ((object (at 14) 14
    ((Some (constant (at 14) ty.Int 1048576)) ∷ []) None) ∷ []))) ∷ (declaration (declared (at 15) ((plain_specifier (specifier.Word word.Char)) ∷ [])
    ((object (at 15) 15 ((Some (constant (at 15) ty.Int 1048576)) ∷ []) None) ∷ []))) ∷ (declaration (declared (at 16) ((plain_specifier (specifier.Word
    word.Char)) ∷ []) ((object (at 16) 16 ((Some (constant (at 16) ty.Int 1048576)) ∷ []) None) ∷ []))) ∷ (declaration (declared (at 17) ((plain_specifier
    (specifier.Word word.Char)) ∷ []) ((object (at 17) 17 [] None) ∷ []))) ∷ (definition (record {
      start = (at 18);
      specifiers = ((plain_specifier
          (specifier.Word word.Int)) ∷ []);
      at = (at 18);
      name = 18;
      parameters = [];
      brace = (at 18);
      body = (and_piece (statement_item (return_stmt (at 18)
          (Some (constant (at 18) ty.Int 0)))) no_pieces);
    })) ∷ [])) ≡ fault 713 0 ∷ []
statics_too_large = refl

-- char a0[1048576];
-- char a1[1048576];
-- char a2[1048576];
-- char a3[1048576];
-- char a4[1048576];
-- char a5[1048576];
-- char a6[1048576];
-- char a7[1048576];
-- char a8[1048576];
-- char a9[1048576];
-- char a10[1048576];
-- char a11[1048576];
-- char a12[1048576];
-- char a13[1048576];
-- char a14[1048576];
-- char a15[1048576];
-- extern char b[9];
-- int main(void) { return 0; }
greatest_statics : told (unit_typed 1048576 (codes "main.c" ∷ codes "a0" ∷ codes "a1" ∷ codes "a2" ∷ codes "a3" ∷ codes "a4" ∷ codes "a5" ∷ codes "a6" ∷ codes "a7"
    ∷ codes "a8" ∷ codes "a9" ∷ codes "a10" ∷ codes "a11" ∷ codes "a12" ∷ codes "a13" ∷ codes "a14" ∷ codes "a15" ∷ codes "b" ∷ codes "main" ∷ []) (at 0)
    ((declaration (declared (at 1) ((plain_specifier (specifier.Word word.Char)) ∷ []) ((object (at 1) 1 ((Some (constant (at 1) ty.Int 1048576)) ∷ [])
    None) ∷ []))) ∷ (declaration (declared (at 2) ((plain_specifier (specifier.Word word.Char)) ∷ []) ((object (at 2) 2 ((Some (constant (at 2) ty.Int
    1048576)) ∷ []) None) ∷ []))) ∷ (declaration (declared (at 3) ((plain_specifier (specifier.Word word.Char)) ∷ []) ((object (at 3) 3 ((Some (constant (at
    3) ty.Int 1048576)) ∷ []) None) ∷ []))) ∷ (declaration (declared (at 4) ((plain_specifier (specifier.Word word.Char)) ∷ []) ((object (at 4) 4 ((Some
    (constant (at 4) ty.Int 1048576)) ∷ []) None) ∷ []))) ∷ (declaration (declared (at 5) ((plain_specifier (specifier.Word word.Char)) ∷ []) ((object (at
    5) 5 ((Some (constant (at 5) ty.Int 1048576)) ∷ []) None) ∷ []))) ∷ (declaration (declared (at 6) ((plain_specifier (specifier.Word word.Char)) ∷ [])
    ((object (at 6) 6 ((Some (constant (at 6) ty.Int 1048576)) ∷ []) None) ∷ []))) ∷ (declaration (declared (at 7) ((plain_specifier (specifier.Word
    word.Char)) ∷ []) ((object (at 7) 7 ((Some (constant (at 7) ty.Int 1048576)) ∷ []) None) ∷ []))) ∷ (declaration (declared (at 8) ((plain_specifier
    (specifier.Word word.Char)) ∷ []) ((object (at 8) 8 ((Some (constant (at 8) ty.Int 1048576)) ∷ []) None) ∷ []))) ∷ (declaration (declared (at 9)
    ((plain_specifier (specifier.Word word.Char)) ∷ []) ((object (at 9) 9 ((Some (constant (at 9) ty.Int 1048576)) ∷ []) None) ∷ []))) ∷ (declaration
    (declared (at 10) ((plain_specifier (specifier.Word word.Char)) ∷ []) ((object (at 10) 10 ((Some (constant (at 10) ty.Int 1048576)) ∷ []) None) ∷ [])))
    ∷ (declaration (declared (at 11) ((plain_specifier (specifier.Word word.Char)) ∷ []) ((object (at 11) 11 ((Some (constant (at 11) ty.Int 1048576)) ∷ [])
    None) ∷ []))) ∷ (declaration (declared (at 12) ((plain_specifier (specifier.Word word.Char)) ∷ []) ((object (at 12) 12 ((Some (constant (at 12) ty.Int
    1048576)) ∷ []) None) ∷ []))) ∷ (declaration (declared (at 13) ((plain_specifier (specifier.Word word.Char)) ∷ []) ((object (at 13) 13 ((Some (constant
    (at 13) ty.Int 1048576)) ∷ []) None) ∷ []))) ∷ (declaration (declared (at 14) ((plain_specifier (specifier.Word word.Char)) ∷ []) ((object (at 14) 14
    ((Some (constant (at 14) ty.Int 1048576)) ∷ []) None) ∷ []))) ∷ (declaration (declared (at 15) ((plain_specifier (specifier.Word word.Char)) ∷ [])
    ((object (at 15) 15 ((Some (constant (at 15) ty.Int 1048576)) ∷ []) None) ∷ []))) ∷ (declaration (declared (at 16) ((plain_specifier (specifier.Word
    word.Char)) ∷ []) ((object (at 16) 16 ((Some (constant (at 16) ty.Int 1048576)) ∷ []) None) ∷ []))) ∷ (declaration (declared (at 17) (extern_specifier ∷
    (plain_specifier (specifier.Word word.Char)) ∷ []) ((object (at 17) 17 ((Some (constant (at 17) ty.Int 9)) ∷ []) None) ∷ []))) ∷ (definition (record {
      start = (at 18);
      specifiers = ((plain_specifier (specifier.Word word.Int)) ∷ []);
      at = (at 18);
      name = 18;
      parameters = [];
      brace = (at 18);
      body =
          (and_piece (statement_item (return_stmt (at 18) (Some (constant (at 18) ty.Int 0)))) no_pieces);
    })) ∷ [])) ≡ []
greatest_statics = refl

-- char a0[1048576];
-- char a1[1048576];
-- char a2[1048576];
-- char a3[1048576];
-- char a4[1048576];
-- char a5[1048576];
-- char a6[1048576];
-- char a7[1048576];
-- char a8[1048576];
-- char a9[1048576];
-- char a10[1048576];
-- char a11[1048576];
-- char a12[1048576];
-- char a13[1048576];
-- char a14[1048576];
-- char a15[1048576];
-- int main(void) { return sizeof "a"; }
text_counts : told (unit_typed 1048576 (codes "main.c" ∷ codes "a0" ∷ codes "a1" ∷ codes "a2" ∷ codes "a3" ∷ codes "a4" ∷ codes "a5" ∷ codes "a6" ∷ codes "a7" ∷
    codes "a8" ∷ codes "a9" ∷ codes "a10" ∷ codes "a11" ∷ codes "a12" ∷ codes "a13" ∷ codes "a14" ∷ codes "a15" ∷ codes "main" ∷ (codes "a" ++ 0 ∷ []) ∷ []) (at 0)
    ((declaration (declared (at 1) ((plain_specifier (specifier.Word word.Char)) ∷ []) ((object (at 1) 1 ((Some (constant (at 1) ty.Int 1048576)) ∷ [])
    None) ∷ []))) ∷ (declaration (declared (at 2) ((plain_specifier (specifier.Word word.Char)) ∷ []) ((object (at 2) 2 ((Some (constant (at 2) ty.Int
    1048576)) ∷ []) None) ∷ []))) ∷ (declaration (declared (at 3) ((plain_specifier (specifier.Word word.Char)) ∷ []) ((object (at 3) 3 ((Some (constant (at
    3) ty.Int 1048576)) ∷ []) None) ∷ []))) ∷ (declaration (declared (at 4) ((plain_specifier (specifier.Word word.Char)) ∷ []) ((object (at 4) 4 ((Some
    (constant (at 4) ty.Int 1048576)) ∷ []) None) ∷ []))) ∷ (declaration (declared (at 5) ((plain_specifier (specifier.Word word.Char)) ∷ []) ((object (at
    5) 5 ((Some (constant (at 5) ty.Int 1048576)) ∷ []) None) ∷ []))) ∷ (declaration (declared (at 6) ((plain_specifier (specifier.Word word.Char)) ∷ [])
    ((object (at 6) 6 ((Some (constant (at 6) ty.Int 1048576)) ∷ []) None) ∷ []))) ∷ (declaration (declared (at 7) ((plain_specifier (specifier.Word
    word.Char)) ∷ []) ((object (at 7) 7 ((Some (constant (at 7) ty.Int 1048576)) ∷ []) None) ∷ []))) ∷ (declaration (declared (at 8) ((plain_specifier
    (specifier.Word word.Char)) ∷ []) ((object (at 8) 8 ((Some (constant (at 8) ty.Int 1048576)) ∷ []) None) ∷ []))) ∷ (declaration (declared (at 9)
    ((plain_specifier (specifier.Word word.Char)) ∷ []) ((object (at 9) 9 ((Some (constant (at 9) ty.Int 1048576)) ∷ []) None) ∷ []))) ∷ (declaration
    (declared (at 10) ((plain_specifier (specifier.Word word.Char)) ∷ []) ((object (at 10) 10 ((Some (constant (at 10) ty.Int 1048576)) ∷ []) None) ∷ [])))
    ∷ (declaration (declared (at 11) ((plain_specifier (specifier.Word word.Char)) ∷ []) ((object (at 11) 11 ((Some (constant (at 11) ty.Int 1048576)) ∷ [])
    None) ∷ []))) ∷ (declaration (declared (at 12) ((plain_specifier (specifier.Word word.Char)) ∷ []) ((object (at 12) 12 ((Some (constant (at 12) ty.Int
    1048576)) ∷ []) None) ∷ []))) ∷ (declaration (declared (at 13) ((plain_specifier (specifier.Word word.Char)) ∷ []) ((object (at 13) 13 ((Some (constant
    (at 13) ty.Int 1048576)) ∷ []) None) ∷ []))) ∷ (declaration (declared (at 14) ((plain_specifier (specifier.Word word.Char)) ∷ []) ((object (at 14) 14
    ((Some (constant (at 14) ty.Int 1048576)) ∷ []) None) ∷ []))) ∷ (declaration (declared (at 15) ((plain_specifier (specifier.Word word.Char)) ∷ [])
    ((object (at 15) 15 ((Some (constant (at 15) ty.Int 1048576)) ∷ []) None) ∷ []))) ∷ (declaration (declared (at 16) ((plain_specifier (specifier.Word
    word.Char)) ∷ []) ((object (at 16) 16 ((Some (constant (at 16) ty.Int 1048576)) ∷ []) None) ∷ []))) ∷ (definition (record {
      start = (at 17);
      specifiers
          = ((plain_specifier (specifier.Word word.Int)) ∷ []);
      at = (at 17);
      name = 17;
      parameters = [];
      brace = (at 17);
      body = (and_piece (statement_item
          (return_stmt (at 17) (Some (size_of (at 17) (string (at 17) 18))))) no_pieces);
    })) ∷ [])) ≡ fault 713 0 ∷ []
text_counts = refl

-- int rv_getbyte(void); void rv_putbyte(int c); void rv_exit(int status);
-- int p(int c) { rv_putbyte(c); return c; }
-- int main(void) { return p(65) - p(66) + 2; }
printer : told (unit_typed 1048576 (codes "main.c" ∷ codes "rv_getbyte" ∷ codes "rv_putbyte" ∷ codes "c" ∷ codes "rv_exit" ∷ codes "status" ∷ codes "p" ∷ codes
    "main" ∷ []) (at 0) ((declaration (declared (at 1) ((plain_specifier (specifier.Word word.Int)) ∷ []) ((function (at 1) 1 []) ∷ []))) ∷ (declaration
    (declared (at 1) ((plain_specifier (specifier.Word word.Void)) ∷ []) ((function (at 1) 2 (record {
      at = (at 1);
      start = (at 1);
      specifiers =
          ((specifier.Word word.Int) ∷ []);
      name = (Some 3);
      sizes = [];
    } ∷ [])) ∷ []))) ∷ (declaration (declared (at 1) ((plain_specifier (specifier.Word
    word.Void)) ∷ []) ((function (at 1) 4 (record {
      at = (at 1);
      start = (at 1);
      specifiers = ((specifier.Word word.Int) ∷ []);
      name = (Some 5);
      sizes = [];
    } ∷ [])) ∷ []))) ∷ (definition (record {
      start = (at 2);
      specifiers = ((plain_specifier (specifier.Word word.Int)) ∷ []);
      at = (at 2);
      name = 6;
      parameters = (record { at = (at 2); start = (at 2); specifiers = ((specifier.Word word.Int) ∷ []); name = (Some 3); sizes = [] } ∷ []);
      brace = (at 2);
      body = (and_piece (statement_item (expression_stmt (at 2) (call (at 2) 2 (one_more (identifier (at 2) 3) no_trees)))) (and_piece (statement_item
          (return_stmt (at 2) (Some (identifier (at 2) 3)))) no_pieces));
    })) ∷ (definition (record {
      start = (at 3);
      specifiers = ((plain_specifier
          (specifier.Word word.Int)) ∷ []);
      at = (at 3);
      name = 7;
      parameters = [];
      brace = (at 3);
      body = (and_piece (statement_item (return_stmt (at 3) (Some
          (binary (at 3) operator.Add (binary (at 3) operator.Sub (call (at 3) 6 (one_more (constant (at 3) ty.Int 65) no_trees)) (call (at 3) 6 (one_more
          (constant (at 3) ty.Int 66) no_trees))) (constant (at 3) ty.Int 2))))) no_pieces);
    })) ∷ [])) ≡ []
printer = refl

-- int rv_getbyte(void); void rv_putbyte(int c); void rv_exit(int status);
-- void f(int a, int b, int c, int d, int e, int g, int h, int i, int j, int k) { rv_putbyte(j); rv_putbyte(k); }
-- int main(void) { f(65, 66, 67, 68, 69, 70, 71, 72, 73, 74); return 0; }
ten_parameters : told (unit_typed 1048576 (codes "main.c" ∷ codes "rv_getbyte" ∷ codes "rv_putbyte" ∷ codes "c" ∷ codes "rv_exit" ∷ codes "status" ∷ codes "f" ∷
    codes "a" ∷ codes "b" ∷ codes "d" ∷ codes "e" ∷ codes "g" ∷ codes "h" ∷ codes "i" ∷ codes "j" ∷ codes "k" ∷ codes "main" ∷ []) (at 0) ((declaration
    (declared (at 1) ((plain_specifier (specifier.Word word.Int)) ∷ []) ((function (at 1) 1 []) ∷ []))) ∷ (declaration (declared (at 1) ((plain_specifier
    (specifier.Word word.Void)) ∷ []) ((function (at 1) 2 (record {
      at = (at 1);
      start = (at 1);
      specifiers = ((specifier.Word word.Int) ∷ []);
      name = (Some
          3);
      sizes = [];
    } ∷ [])) ∷ []))) ∷ (declaration (declared (at 1) ((plain_specifier (specifier.Word word.Void)) ∷ []) ((function (at 1) 4 (record {
      at =
          (at 1);
      start = (at 1);
      specifiers = ((specifier.Word word.Int) ∷ []);
      name = (Some 5);
      sizes = [];
    } ∷ [])) ∷ []))) ∷ (definition (record {
      start = (at
          2);
      specifiers = ((plain_specifier (specifier.Word word.Void)) ∷ []);
      at = (at 2);
      name = 6;
      parameters = (record {
        at = (at 2);
        start = (at 2);
        specifiers = ((specifier.Word word.Int) ∷ []);
        name = (Some 7);
        sizes = [];
      } ∷ record {
        at = (at 2);
        start = (at 2);
        specifiers = ((specifier.Word
            word.Int) ∷ []);
        name = (Some 8);
        sizes = [];
      } ∷ record {
        at = (at 2);
        start = (at 2);
        specifiers = ((specifier.Word word.Int) ∷ []);
        name = (Some 3);
        sizes = [];
      } ∷ record { at = (at 2); start = (at 2); specifiers = ((specifier.Word word.Int) ∷ []); name = (Some 9); sizes = [] } ∷ record {
        at = (at
            2);
        start = (at 2);
        specifiers = ((specifier.Word word.Int) ∷ []);
        name = (Some 10);
        sizes = [];
      } ∷ record {
        at = (at 2);
        start = (at 2);
        specifiers =
            ((specifier.Word word.Int) ∷ []);
        name = (Some 11);
        sizes = [];
      } ∷ record {
        at = (at 2);
        start = (at 2);
        specifiers = ((specifier.Word word.Int) ∷ []);
        name = (Some 12);
        sizes = [];
      } ∷ record { at = (at 2); start = (at 2); specifiers = ((specifier.Word word.Int) ∷ []); name = (Some 13); sizes = [] } ∷
          record { at = (at 2); start = (at 2); specifiers = ((specifier.Word word.Int) ∷ []); name = (Some 14); sizes = [] } ∷ record {
            at = (at 2);
            start = (at
                2);
            specifiers = ((specifier.Word word.Int) ∷ []);
            name = (Some 15);
            sizes = [];
          } ∷ []);
      brace = (at 2);
      body = (and_piece (statement_item
          (expression_stmt (at 2) (call (at 2) 2 (one_more (identifier (at 2) 14) no_trees)))) (and_piece (statement_item (expression_stmt (at 2) (call (at 2) 2
          (one_more (identifier (at 2) 15) no_trees)))) no_pieces));
    })) ∷ (definition (record {
      start = (at 3);
      specifiers = ((plain_specifier (specifier.Word
          word.Int)) ∷ []);
      at = (at 3);
      name = 16;
      parameters = [];
      brace = (at 3);
      body = (and_piece (statement_item (expression_stmt (at 3) (call (at 3) 6
          (one_more (constant (at 3) ty.Int 65) (one_more (constant (at 3) ty.Int 66) (one_more (constant (at 3) ty.Int 67) (one_more (constant (at 3) ty.Int 68)
          (one_more (constant (at 3) ty.Int 69) (one_more (constant (at 3) ty.Int 70) (one_more (constant (at 3) ty.Int 71) (one_more (constant (at 3) ty.Int 72)
          (one_more (constant (at 3) ty.Int 73) (one_more (constant (at 3) ty.Int 74) no_trees))))))))))))) (and_piece (statement_item (return_stmt (at 3) (Some
          (constant (at 3) ty.Int 0)))) no_pieces));
    })) ∷ [])) ≡ []
ten_parameters = refl

-- int main(void) { char c; signed char d = 200; _Bool b = 256; return (int)sizeof(c + c) + (-1 < 1u) + b + (d < 0) + -7 / 2 + (-8 >> 1); }
mixed_rows : told (unit_typed 1048576 (codes "main.c" ∷ codes "main" ∷ codes "c" ∷ codes "d" ∷ codes "b" ∷ []) (at 0) ((definition (record {
  start = (at 1);
  specifiers = ((plain_specifier (specifier.Word word.Int)) ∷ []);
  at = (at 1);
  name = 1;
  parameters = [];
  brace = (at 1);
  body = (and_piece
      (declaration_item (declared (at 1) ((plain_specifier (specifier.Word word.Char)) ∷ []) ((object (at 1) 2 [] None) ∷ []))) (and_piece (declaration_item
      (declared (at 1) ((plain_specifier (specifier.Word word.Signed)) ∷ (plain_specifier (specifier.Word word.Char)) ∷ []) ((object (at 1) 3 [] (Some
      (one_init (constant (at 1) ty.Int 200)))) ∷ []))) (and_piece (declaration_item (declared (at 1) ((plain_specifier (specifier.Word word.Bool)) ∷ [])
      ((object (at 1) 4 [] (Some (one_init (constant (at 1) ty.Int 256)))) ∷ []))) (and_piece (statement_item (return_stmt (at 1) (Some (binary (at 1)
      operator.Add (binary (at 1) operator.Add (binary (at 1) operator.Add (binary (at 1) operator.Add (binary (at 1) operator.Add (cast (at 1) (type_name (at
      1) ((specifier.Word word.Int) ∷ []) no_trees) (size_of (at 1) (paren (binary (at 1) operator.Add (identifier (at 1) 2) (identifier (at 1) 2))))) (paren
      (binary (at 1) operator.Less (prefix (at 1) sign.Minus (constant (at 1) ty.Int 1)) (constant (at 1) ty.UInt 1)))) (identifier (at 1) 4)) (paren (binary
      (at 1) operator.Less (identifier (at 1) 3) (constant (at 1) ty.Int 0)))) (binary (at 1) operator.Div (prefix (at 1) sign.Minus (constant (at 1) ty.Int
      7)) (constant (at 1) ty.Int 2))) (paren (binary (at 1) operator.ShiftRight (prefix (at 1) sign.Minus (constant (at 1) ty.Int 8)) (constant (at 1) ty.Int
      1))))))) no_pieces))));
})) ∷ [])) ≡ []
mixed_rows = refl

-- int main(void) { switch (1) { int x = 1; case 1: return x; } }
switch_jumps_past : told (unit_typed 1048576 (codes "main.c" ∷ codes "main" ∷ codes "x" ∷ []) (at 0) ((definition (record {
  start = (at 1);
  specifiers =
      ((plain_specifier (specifier.Word word.Int)) ∷ []);
  at = (at 1);
  name = 1;
  parameters = [];
  brace = (at 1);
  body = (and_piece (statement_item
      (switch_stmt (at 1) (constant (at 1) ty.Int 1) (block_stmt (at 1) (and_piece (declaration_item (declared (at 1) ((plain_specifier (specifier.Word
      word.Int)) ∷ []) ((object (at 1) 2 [] (Some (one_init (constant (at 1) ty.Int 1)))) ∷ []))) (and_piece (statement_item (case_stmt (at 1) (constant (at
      1) ty.Int 1) (return_stmt (at 1) (Some (identifier (at 1) 2))))) no_pieces))))) no_pieces);
})) ∷ [])) ≡ []
switch_jumps_past = refl

-- int m[2][2] = {{1, 2}, {3, 4}};
-- int main(void) { return m[1][0] * 10 + (int)(sizeof(m) / sizeof(m[0])); }
matrix : told (unit_typed 1048576 (codes "main.c" ∷ codes "m" ∷ codes "main" ∷ []) (at 0) ((declaration (declared (at 1) ((plain_specifier (specifier.Word
    word.Int)) ∷ []) ((object (at 1) 1 ((Some (constant (at 1) ty.Int 2)) ∷ (Some (constant (at 1) ty.Int 2)) ∷ []) (Some (braced_init (at 1) (and_init
    (braced_init (at 1) (and_init (one_init (constant (at 1) ty.Int 1)) (and_init (one_init (constant (at 1) ty.Int 2)) no_inits))) (and_init (braced_init
    (at 1) (and_init (one_init (constant (at 1) ty.Int 3)) (and_init (one_init (constant (at 1) ty.Int 4)) no_inits))) no_inits))))) ∷ []))) ∷ (definition
    (record {
      start = (at 2);
      specifiers = ((plain_specifier (specifier.Word word.Int)) ∷ []);
      at = (at 2);
      name = 2;
      parameters = [];
      brace = (at 2);
      body
          = (and_piece (statement_item (return_stmt (at 2) (Some (binary (at 2) operator.Add (binary (at 2) operator.Mul (subscript (at 2) (subscript (at 2)
          (identifier (at 2) 1) (constant (at 2) ty.Int 1)) (constant (at 2) ty.Int 0)) (constant (at 2) ty.Int 10)) (cast (at 2) (type_name (at 2)
          ((specifier.Word word.Int) ∷ []) no_trees) (paren (binary (at 2) operator.Div (size_of (at 2) (paren (identifier (at 2) 1))) (size_of (at 2) (paren
          (subscript (at 2) (identifier (at 2) 1) (constant (at 2) ty.Int 0))))))))))) no_pieces);
    })) ∷ [])) ≡ []
matrix = refl

-- int main(void) { int a = 1, b = 2; a += b -= 3; a <<= 1; a = a ? b & 7 | a ^ 3 : ~b; a--; ++b; return !a && b || (a, b) >= 3 != a % 5; }
all_operators : told (unit_typed 1048576 (codes "main.c" ∷ codes "main" ∷ codes "a" ∷ codes "b" ∷ []) (at 0) ((definition (record {
  start = (at 1);
  specifiers =
      ((plain_specifier (specifier.Word word.Int)) ∷ []);
  at = (at 1);
  name = 1;
  parameters = [];
  brace = (at 1);
  body = (and_piece (declaration_item
      (declared (at 1) ((plain_specifier (specifier.Word word.Int)) ∷ []) ((object (at 1) 2 [] (Some (one_init (constant (at 1) ty.Int 1)))) ∷ (object (at 1)
      3 [] (Some (one_init (constant (at 1) ty.Int 2)))) ∷ []))) (and_piece (statement_item (expression_stmt (at 1) (assign (at 1) assigning.Add (identifier
      (at 1) 2) (assign (at 1) assigning.Sub (identifier (at 1) 3) (constant (at 1) ty.Int 3))))) (and_piece (statement_item (expression_stmt (at 1) (assign
      (at 1) assigning.ShiftLeft (identifier (at 1) 2) (constant (at 1) ty.Int 1)))) (and_piece (statement_item (expression_stmt (at 1) (assign (at 1)
      assigning.Plain (identifier (at 1) 2) (conditional (at 1) (identifier (at 1) 2) (binary (at 1) operator.BitOr (binary (at 1) operator.BitAnd (identifier
      (at 1) 3) (constant (at 1) ty.Int 7)) (binary (at 1) operator.BitXor (identifier (at 1) 2) (constant (at 1) ty.Int 3))) (prefix (at 1) sign.Complement
      (identifier (at 1) 3)))))) (and_piece (statement_item (expression_stmt (at 1) (after (at 1) step.Decrement (identifier (at 1) 2)))) (and_piece
      (statement_item (expression_stmt (at 1) (before (at 1) step.Increment (identifier (at 1) 3)))) (and_piece (statement_item (return_stmt (at 1) (Some
      (binary (at 1) operator.Or (binary (at 1) operator.And (prefix (at 1) sign.Not (identifier (at 1) 2)) (identifier (at 1) 3)) (binary (at 1)
      operator.NotEqual (binary (at 1) operator.GreaterEqual (paren (binary (at 1) operator.Comma (identifier (at 1) 2) (identifier (at 1) 3))) (constant (at
      1) ty.Int 3)) (binary (at 1) operator.Rem (identifier (at 1) 2) (constant (at 1) ty.Int 5))))))) no_pieces)))))));
})) ∷ [])) ≡ []
all_operators = refl

-- int main(void) { int i; for (i = 0; i < 3; i++) if (i) continue; else ; while (i--) { if (i == 1) break; } do i++; while (i < 4); for (;;) break; return i; }
all_loops : told (unit_typed 1048576 (codes "main.c" ∷ codes "main" ∷ codes "i" ∷ []) (at 0) ((definition (record {
  start = (at 1);
  specifiers = ((plain_specifier
      (specifier.Word word.Int)) ∷ []);
  at = (at 1);
  name = 1;
  parameters = [];
  brace = (at 1);
  body = (and_piece (declaration_item (declared (at 1)
      ((plain_specifier (specifier.Word word.Int)) ∷ []) ((object (at 1) 2 [] None) ∷ []))) (and_piece (statement_item (for_stmt (at 1) (expression_start
      (Some (assign (at 1) assigning.Plain (identifier (at 1) 2) (constant (at 1) ty.Int 0)))) (Some (binary (at 1) operator.Less (identifier (at 1) 2)
      (constant (at 1) ty.Int 3))) (Some (after (at 1) step.Increment (identifier (at 1) 2))) (if_else_stmt (at 1) (identifier (at 1) 2) (continue_stmt (at
      1)) (empty_stmt (at 1))))) (and_piece (statement_item (while_stmt (at 1) (after (at 1) step.Decrement (identifier (at 1) 2)) (block_stmt (at 1)
      (and_piece (statement_item (if_stmt (at 1) (binary (at 1) operator.Equal (identifier (at 1) 2) (constant (at 1) ty.Int 1)) (break_stmt (at 1))))
      no_pieces)))) (and_piece (statement_item (do_while_stmt (at 1) (expression_stmt (at 1) (after (at 1) step.Increment (identifier (at 1) 2))) (binary (at
      1) operator.Less (identifier (at 1) 2) (constant (at 1) ty.Int 4)))) (and_piece (statement_item (for_stmt (at 1) (expression_start None) None None
      (break_stmt (at 1)))) (and_piece (statement_item (return_stmt (at 1) (Some (identifier (at 1) 2)))) no_pieces))))));
})) ∷ [])) ≡ []
all_loops = refl

-- int main(void) { "abc"[0] = 1; return 0; }
literal_written : told (unit_typed 1048576 (codes "main.c" ∷ codes "main" ∷ (codes "abc" ++ 0 ∷ []) ∷ []) (at 0) ((definition (record {
  start = (at 1);
  specifiers =
      ((plain_specifier (specifier.Word word.Int)) ∷ []);
  at = (at 1);
  name = 1;
  parameters = [];
  brace = (at 1);
  body = (and_piece (statement_item
      (expression_stmt (at 1) (assign (at 1) assigning.Plain (subscript (at 1) (string (at 1) 2) (constant (at 1) ty.Int 0)) (constant (at 1) ty.Int 1))))
      (and_piece (statement_item (return_stmt (at 1) (Some (constant (at 1) ty.Int 0)))) no_pieces));
})) ∷ [])) ≡ []
literal_written = refl

-- int main(void) { static int n = 3, a[] = {1, 2}; return n + a[1] + sizeof a; }
static_in_block : told (unit_typed 1048576 (codes "main.c" ∷ codes "main" ∷ codes "n" ∷ codes "a" ∷ []) (at 0) ((definition (record {
  start = (at 1);
  specifiers =
      ((plain_specifier (specifier.Word word.Int)) ∷ []);
  at = (at 1);
  name = 1;
  parameters = [];
  brace = (at 1);
  body = (and_piece (declaration_item
      (declared (at 1) (static_specifier ∷ (plain_specifier (specifier.Word word.Int)) ∷ []) ((object (at 1) 2 [] (Some (one_init (constant (at 1) ty.Int
      3)))) ∷ (object (at 1) 3 (None ∷ []) (Some (braced_init (at 1) (and_init (one_init (constant (at 1) ty.Int 1)) (and_init (one_init (constant (at 1)
      ty.Int 2)) no_inits))))) ∷ []))) (and_piece (statement_item (return_stmt (at 1) (Some (binary (at 1) operator.Add (binary (at 1) operator.Add
      (identifier (at 1) 2) (subscript (at 1) (identifier (at 1) 3) (constant (at 1) ty.Int 1))) (size_of (at 1) (identifier (at 1) 3)))))) no_pieces));
})) ∷
    [])) ≡ []
static_in_block = refl

-- int odd(int n);
-- int even(int n) { return n == 0 ? 1 : odd(n - 1); }
-- int odd(int n) { return n == 0 ? 0 : even(n - 1); }
-- int main(void) { return even(4); }
recursion : told (unit_typed 1048576 (codes "main.c" ∷ codes "odd" ∷ codes "n" ∷ codes "even" ∷ codes "main" ∷ []) (at 0) ((declaration (declared (at 1)
    ((plain_specifier (specifier.Word word.Int)) ∷ []) ((function (at 1) 1 (record {
      at = (at 1);
      start = (at 1);
      specifiers = ((specifier.Word word.Int) ∷
          []);
      name = (Some 2);
      sizes = [];
    } ∷ [])) ∷ []))) ∷ (definition (record {
      start = (at 2);
      specifiers = ((plain_specifier (specifier.Word word.Int)) ∷
          []);
      at = (at 2);
      name = 3;
      parameters = (record {
        at = (at 2);
        start = (at 2);
        specifiers = ((specifier.Word word.Int) ∷ []);
        name = (Some 2);
        sizes =
            [];
      } ∷ []);
      brace = (at 2);
      body = (and_piece (statement_item (return_stmt (at 2) (Some (conditional (at 2) (binary (at 2) operator.Equal (identifier
          (at 2) 2) (constant (at 2) ty.Int 0)) (constant (at 2) ty.Int 1) (call (at 2) 1 (one_more (binary (at 2) operator.Sub (identifier (at 2) 2) (constant
          (at 2) ty.Int 1)) no_trees)))))) no_pieces);
    })) ∷ (definition (record {
      start = (at 3);
      specifiers = ((plain_specifier (specifier.Word word.Int)) ∷ []);
      at = (at 3);
      name = 1;
      parameters = (record { at = (at 3); start = (at 3); specifiers = ((specifier.Word word.Int) ∷ []); name = (Some 2); sizes = [] }
          ∷ []);
      brace = (at 3);
      body = (and_piece (statement_item (return_stmt (at 3) (Some (conditional (at 3) (binary (at 3) operator.Equal (identifier (at 3)
          2) (constant (at 3) ty.Int 0)) (constant (at 3) ty.Int 0) (call (at 3) 3 (one_more (binary (at 3) operator.Sub (identifier (at 3) 2) (constant (at 3)
          ty.Int 1)) no_trees)))))) no_pieces);
    })) ∷ (definition (record {
      start = (at 4);
      specifiers = ((plain_specifier (specifier.Word word.Int)) ∷ []);
      at =
          (at 4);
      name = 4;
      parameters = [];
      brace = (at 4);
      body = (and_piece (statement_item (return_stmt (at 4) (Some (call (at 4) 3 (one_more (constant (at 4)
          ty.Int 4) no_trees))))) no_pieces);
    })) ∷ [])) ≡ []
recursion = refl

-- enum e { A, B = 3, };
-- enum e f(enum e x) { return x == B ? A : B; }
-- int main(void) { enum e y = f(A); return y; }
enumerated_type : told (unit_typed 1048576 (codes "main.c" ∷ codes "e" ∷ codes "A" ∷ codes "B" ∷ codes "f" ∷ codes "x" ∷ codes "main" ∷ codes "y" ∷ []) (at 0)
    ((declaration (declared (at 1) ((enumerators_specifier (Some 1) (record { at = (at 1); name = 2; value = None } ∷ record {
      at = (at 1);
      name = 3;
      value
          = (Some (constant (at 1) ty.Int 3));
    } ∷ [])) ∷ []) [])) ∷ (definition (record {
      start = (at 2);
      specifiers = ((plain_specifier (specifier.Enum 1)) ∷
          []);
      at = (at 2);
      name = 4;
      parameters = (record { at = (at 2); start = (at 2); specifiers = ((specifier.Enum 1) ∷ []); name = (Some 5); sizes = [] } ∷
          []);
      brace = (at 2);
      body = (and_piece (statement_item (return_stmt (at 2) (Some (conditional (at 2) (binary (at 2) operator.Equal (identifier (at 2) 5)
          (identifier (at 2) 3)) (identifier (at 2) 2) (identifier (at 2) 3))))) no_pieces);
    })) ∷ (definition (record {
      start = (at 3);
      specifiers =
          ((plain_specifier (specifier.Word word.Int)) ∷ []);
      at = (at 3);
      name = 6;
      parameters = [];
      brace = (at 3);
      body = (and_piece (declaration_item
          (declared (at 3) ((plain_specifier (specifier.Enum 1)) ∷ []) ((object (at 3) 7 [] (Some (one_init (call (at 3) 4 (one_more (identifier (at 3) 2)
          no_trees))))) ∷ []))) (and_piece (statement_item (return_stmt (at 3) (Some (identifier (at 3) 7)))) no_pieces));
    })) ∷ [])) ≡ []
enumerated_type = refl

-- int main(void) { switch (1) { case 1: switch (2) { case 1: break; default: ; } break; case 2: ; } return 0; }
inner_switch : told (unit_typed 1048576 (codes "main.c" ∷ codes "main" ∷ []) (at 0) ((definition (record {
  start = (at 1);
  specifiers = ((plain_specifier
      (specifier.Word word.Int)) ∷ []);
  at = (at 1);
  name = 1;
  parameters = [];
  brace = (at 1);
  body = (and_piece (statement_item (switch_stmt (at 1)
      (constant (at 1) ty.Int 1) (block_stmt (at 1) (and_piece (statement_item (case_stmt (at 1) (constant (at 1) ty.Int 1) (switch_stmt (at 1) (constant (at
      1) ty.Int 2) (block_stmt (at 1) (and_piece (statement_item (case_stmt (at 1) (constant (at 1) ty.Int 1) (break_stmt (at 1)))) (and_piece (statement_item
      (default_stmt (at 1) (empty_stmt (at 1)))) no_pieces)))))) (and_piece (statement_item (break_stmt (at 1))) (and_piece (statement_item (case_stmt (at 1)
      (constant (at 1) ty.Int 2) (empty_stmt (at 1)))) no_pieces)))))) (and_piece (statement_item (return_stmt (at 1) (Some (constant (at 1) ty.Int 0))))
      no_pieces));
})) ∷ [])) ≡ []
inner_switch = refl

-- int f(void) { return 1; }
-- int main(void) { int f = 2; return f(); }
local_hides_function : told (unit_typed 1048576 (codes "main.c" ∷ codes "f" ∷ codes "main" ∷ []) (at 0) ((definition (record {
  start = (at 1);
  specifiers =
      ((plain_specifier (specifier.Word word.Int)) ∷ []);
  at = (at 1);
  name = 1;
  parameters = [];
  brace = (at 1);
  body = (and_piece (statement_item
      (return_stmt (at 1) (Some (constant (at 1) ty.Int 1)))) no_pieces);
})) ∷ (definition (record {
  start = (at 2);
  specifiers = ((plain_specifier
      (specifier.Word word.Int)) ∷ []);
  at = (at 2);
  name = 2;
  parameters = [];
  brace = (at 2);
  body = (and_piece (declaration_item (declared (at 2)
      ((plain_specifier (specifier.Word word.Int)) ∷ []) ((object (at 2) 1 [] (Some (one_init (constant (at 2) ty.Int 2)))) ∷ []))) (and_piece (statement_item
      (return_stmt (at 2) (Some (call (at 2) 1 no_trees)))) no_pieces));
})) ∷ [])) ≡ fault 530 2 ∷ []
local_hides_function = refl

-- enum x { A }; int x; int main(void) { enum x y = A; return x + y; }
tag_and_name_apart : told (unit_typed 1048576 (codes "main.c" ∷ codes "x" ∷ codes "A" ∷ codes "main" ∷ codes "y" ∷ []) (at 0) ((declaration (declared (at 1)
    ((enumerators_specifier (Some 1) (record { at = (at 1); name = 2; value = None } ∷ [])) ∷ []) [])) ∷ (declaration (declared (at 1) ((plain_specifier
    (specifier.Word word.Int)) ∷ []) ((object (at 1) 1 [] None) ∷ []))) ∷ (definition (record {
      start = (at 1);
      specifiers = ((plain_specifier
          (specifier.Word word.Int)) ∷ []);
      at = (at 1);
      name = 3;
      parameters = [];
      brace = (at 1);
      body = (and_piece (declaration_item (declared (at 1)
          ((plain_specifier (specifier.Enum 1)) ∷ []) ((object (at 1) 4 [] (Some (one_init (identifier (at 1) 2)))) ∷ []))) (and_piece (statement_item
          (return_stmt (at 1) (Some (binary (at 1) operator.Add (identifier (at 1) 1) (identifier (at 1) 4))))) no_pieces));
    })) ∷ [])) ≡ []
tag_and_name_apart = refl
