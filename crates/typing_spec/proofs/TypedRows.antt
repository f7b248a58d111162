-- Lines of faults in initialisers; accepted programs are typed as the layers above rely on.
use Rattle.std.proofs.Common.{◌≡◌, ℕ, refl, [], ◌∷◌, Some, None, true, false}
use Rattle.std.specs.Prelude.{◌++◌, codes}
use Rattle.srcset.specs.declared.refusal.Pos.{Pos}
use Rattle.ctypes.specs.declared.types.IntType.TheVariants as ty
use Rattle.tree.specs.declared.expression.Word.TheVariants as word
use Rattle.tree.specs.declared.expression.TypeSpecifier.TheVariants as specifier
use Rattle.tree.specs.declared.expression.BinaryOp.TheVariants as operator
use Rattle.tree.specs.declared.expression.PrefixOp.TheVariants as sign
use Rattle.tree.specs.declared.expression.StepOp.TheVariants as step
use Rattle.tree.specs.declared.expression.AssignOp.TheVariants as assigning
use Rattle.tree.specs.Tree.{identifier, constant, string, paren, call, subscript, after, before, prefix, size_of, cast, binary, conditional, assign, no_trees, one_more, type_name, one_init, braced_init, no_inits, and_init, extern_specifier, static_specifier, plain_specifier, enumerators_specifier, object, function, declared, assertion, expression_start, declaration_start, block_stmt, empty_stmt, expression_stmt, if_stmt, if_else_stmt, switch_stmt, case_stmt, default_stmt, while_stmt, do_while_stmt, for_stmt, break_stmt, continue_stmt, return_stmt, declaration_item, statement_item, no_pieces, and_piece, definition, declaration}
use Rattle.typing_spec.specs.Units.{unit_typed}
use Rattle.typing_spec.specs.Told.{told, fault}
use Rattle.std.specs.Prelude.{Bool}
use Rattle.typing_spec.specs.Verdict.{Verdict, fine, broken}
use Rattle.typing_spec.specs.Program.{Program}
use Rattle.typing_spec.specs.WellTyped.{is_typed}

abbrev at : ℕ → Pos
at n = record { file = 0; line = n }

abbrev typed_well : Verdict Program → Bool
typed_well (fine p) = is_typed p
typed_well (broken vs) = false

-- void v(void) { }
-- int main(void) { int x[2] = {
-- 1,
-- v()}; return 0; }
void_in_a_list : told (unit_typed 1048576 (codes "main.c" ∷ codes "v" ∷ codes "main" ∷ codes "x" ∷ []) (at 0) ((definition (record {
  start = (at 1);
  specifiers =
      ((plain_specifier (specifier.Word word.Void)) ∷ []);
  at = (at 1);
  name = 1;
  parameters = [];
  brace = (at 1);
  body = no_pieces;
})) ∷ (definition (record {
  start = (at 2);
  specifiers = ((plain_specifier (specifier.Word word.Int)) ∷ []);
  at = (at 2);
  name = 2;
  parameters = [];
  brace = (at 2);
  body =
      (and_piece (declaration_item (declared (at 2) ((plain_specifier (specifier.Word word.Int)) ∷ []) ((object (at 2) 3 ((Some (constant (at 2) ty.Int 2)) ∷
      []) (Some (braced_init (at 2) (and_init (one_init (constant (at 3) ty.Int 1)) (and_init (one_init (call (at 4) 1 no_trees)) no_inits))))) ∷ [])))
      (and_piece (statement_item (return_stmt (at 4) (Some (constant (at 4) ty.Int 0)))) no_pieces));
})) ∷ [])) ≡ fault 534 4 ∷ []
void_in_a_list = refl

-- void v(void) { }
-- int main(void) { int x
-- =
-- v(); return x; }
void_behind_the_sign : told (unit_typed 1048576 (codes "main.c" ∷ codes "v" ∷ codes "main" ∷ codes "x" ∷ []) (at 0) ((definition (record {
  start = (at 1);
  specifiers = ((plain_specifier (specifier.Word word.Void)) ∷ []);
  at = (at 1);
  name = 1;
  parameters = [];
  brace = (at 1);
  body = no_pieces;
})) ∷
    (definition (record {
      start = (at 2);
      specifiers = ((plain_specifier (specifier.Word word.Int)) ∷ []);
      at = (at 2);
      name = 2;
      parameters = [];
      brace =
          (at 2);
      body = (and_piece (declaration_item (declared (at 2) ((plain_specifier (specifier.Word word.Int)) ∷ []) ((object (at 2) 3 [] (Some (one_init
          (call (at 4) 1 no_trees)))) ∷ []))) (and_piece (statement_item (return_stmt (at 4) (Some (identifier (at 4) 3)))) no_pieces));
    })) ∷ [])) ≡ fault 534 4 ∷
    []
void_behind_the_sign = refl

-- int m[2][2][2] = {
-- {{1, 2}, {3, 4}},
-- {5, 6, 7, 8}};
-- int main(void) { return 0; }
braces_left_out_in_an_inner_list : told (unit_typed 1048576 (codes "main.c" ∷ codes "m" ∷ codes "main" ∷ []) (at 0) ((declaration (declared (at 1) ((plain_specifier
    (specifier.Word word.Int)) ∷ []) ((object (at 1) 1 ((Some (constant (at 1) ty.Int 2)) ∷ (Some (constant (at 1) ty.Int 2)) ∷ (Some (constant (at 1)
    ty.Int 2)) ∷ []) (Some (braced_init (at 1) (and_init (braced_init (at 2) (and_init (braced_init (at 2) (and_init (one_init (constant (at 2) ty.Int 1))
    (and_init (one_init (constant (at 2) ty.Int 2)) no_inits))) (and_init (braced_init (at 2) (and_init (one_init (constant (at 2) ty.Int 3)) (and_init
    (one_init (constant (at 2) ty.Int 4)) no_inits))) no_inits))) (and_init (braced_init (at 3) (and_init (one_init (constant (at 3) ty.Int 5)) (and_init
    (one_init (constant (at 3) ty.Int 6)) (and_init (one_init (constant (at 3) ty.Int 7)) (and_init (one_init (constant (at 3) ty.Int 8)) no_inits)))))
    no_inits))))) ∷ []))) ∷ (definition (record {
      start = (at 4);
      specifiers = ((plain_specifier (specifier.Word word.Int)) ∷ []);
      at = (at 4);
      name = 2;
      parameters = [];
      brace = (at 4);
      body = (and_piece (statement_item (return_stmt (at 4) (Some (constant (at 4) ty.Int 0)))) no_pieces);
    })) ∷ [])) ≡ fault
    622 3 ∷ fault 622 3 ∷ fault 622 3 ∷ fault 622 3 ∷ []
braces_left_out_in_an_inner_list = refl

-- int a[3]; int a[] = {sizeof a == 12 ? 1 : 2}; _Static_assert(sizeof a == 12, "m");
-- int main(void) { return 0; }
own_size_of_the_composite_type : told (unit_typed 1048576 (codes "main.c" ∷ codes "a" ∷ codes "m" ∷ codes "main" ∷ []) (at 0) ((declaration (declared (at 1)
    ((plain_specifier (specifier.Word word.Int)) ∷ []) ((object (at 1) 1 ((Some (constant (at 1) ty.Int 3)) ∷ []) None) ∷ []))) ∷ (declaration (declared (at
    1) ((plain_specifier (specifier.Word word.Int)) ∷ []) ((object (at 1) 1 (None ∷ []) (Some (braced_init (at 1) (and_init (one_init (conditional (at 1)
    (binary (at 1) operator.Equal (size_of (at 1) (identifier (at 1) 1)) (constant (at 1) ty.Int 12)) (constant (at 1) ty.Int 1) (constant (at 1) ty.Int
    2))) no_inits)))) ∷ []))) ∷ (declaration (assertion (at 1) (binary (at 1) operator.Equal (size_of (at 1) (identifier (at 1) 1)) (constant (at 1) ty.Int
    12)) 2)) ∷ (definition (record {
      start = (at 2);
      specifiers = ((plain_specifier (specifier.Word word.Int)) ∷ []);
      at = (at 2);
      name = 3;
      parameters =
          [];
      brace = (at 2);
      body = (and_piece (statement_item (return_stmt (at 2) (Some (constant (at 2) ty.Int 0)))) no_pieces);
    })) ∷ [])) ≡ []
own_size_of_the_composite_type = refl

-- int a[]; int a[] = {sizeof a};
-- int main(void) { return 0; }
own_size_unknown : told (unit_typed 1048576 (codes "main.c" ∷ codes "a" ∷ codes "main" ∷ []) (at 0) ((declaration (declared (at 1) ((plain_specifier (specifier.Word
    word.Int)) ∷ []) ((object (at 1) 1 (None ∷ []) None) ∷ []))) ∷ (declaration (declared (at 1) ((plain_specifier (specifier.Word word.Int)) ∷ []) ((object
    (at 1) 1 (None ∷ []) (Some (braced_init (at 1) (and_init (one_init (size_of (at 1) (identifier (at 1) 1))) no_inits)))) ∷ []))) ∷ (definition (record {
      start = (at 2);
      specifiers = ((plain_specifier (specifier.Word word.Int)) ∷ []);
      at = (at 2);
      name = 2;
      parameters = [];
      brace = (at 2);
      body =
          (and_piece (statement_item (return_stmt (at 2) (Some (constant (at 2) ty.Int 0)))) no_pieces);
    })) ∷ [])) ≡ fault 536 1 ∷ []
own_size_unknown = refl

-- int unsigned short x; int signed long const y; char signed z;
-- int main(void) { return 0; }
words_in_any_order_is_typed : typed_well (unit_typed 1048576 (codes "main.c" ∷ codes "x" ∷ codes "y" ∷ codes "z" ∷ codes "main" ∷ []) (at 0) ((declaration (declared
    (at 1) ((plain_specifier (specifier.Word word.Int)) ∷ (plain_specifier (specifier.Word word.Unsigned)) ∷ (plain_specifier (specifier.Word word.Short)) ∷
    []) ((object (at 1) 1 [] None) ∷ []))) ∷ (declaration (declared (at 1) ((plain_specifier (specifier.Word word.Int)) ∷ (plain_specifier (specifier.Word
    word.Signed)) ∷ (plain_specifier (specifier.Word word.Long)) ∷ (plain_specifier specifier.Const) ∷ []) ((object (at 1) 2 [] None) ∷ []))) ∷ (declaration
    (declared (at 1) ((plain_specifier (specifier.Word word.Char)) ∷ (plain_specifier (specifier.Word word.Signed)) ∷ []) ((object (at 1) 3 [] None) ∷ [])))
    ∷ (definition (record {
      start = (at 2);
      specifiers = ((plain_specifier (specifier.Word word.Int)) ∷ []);
      at = (at 2);
      name = 4;
      parameters = [];
      brace =
          (at 2);
      body = (and_piece (statement_item (return_stmt (at 2) (Some (constant (at 2) ty.Int 0)))) no_pieces);
    })) ∷ [])) ≡ true
words_in_any_order_is_typed = refl

-- enum { A, B };
-- int main(void) { return 0; }
enumerators_alone_is_typed : typed_well (unit_typed 1048576 (codes "main.c" ∷ codes "A" ∷ codes "B" ∷ codes "main" ∷ []) (at 0) ((declaration (declared (at 1)
    ((enumerators_specifier None (record { at = (at 1); name = 1; value = None } ∷ record { at = (at 1); name = 2; value = None } ∷ [])) ∷ []) [])) ∷
    (definition (record {
      start = (at 2);
      specifiers = ((plain_specifier (specifier.Word word.Int)) ∷ []);
      at = (at 2);
      name = 3;
      parameters = [];
      brace =
          (at 2);
      body = (and_piece (statement_item (return_stmt (at 2) (Some (constant (at 2) ty.Int 0)))) no_pieces);
    })) ∷ [])) ≡ true
enumerators_alone_is_typed = refl

-- int f(int a) { { int a; } return a; }
-- int main(void) { return 0; }
parameter_and_inner_block_is_typed : typed_well (unit_typed 1048576 (codes "main.c" ∷ codes "f" ∷ codes "a" ∷ codes "main" ∷ []) (at 0) ((definition (record {
  start
      = (at 1);
  specifiers = ((plain_specifier (specifier.Word word.Int)) ∷ []);
  at = (at 1);
  name = 1;
  parameters = (record {
    at = (at 1);
    start = (at 1);
    specifiers = ((specifier.Word word.Int) ∷ []);
    name = (Some 2);
    sizes = [];
  } ∷ []);
  brace = (at 1);
  body = (and_piece (statement_item (block_stmt (at 1)
      (and_piece (declaration_item (declared (at 1) ((plain_specifier (specifier.Word word.Int)) ∷ []) ((object (at 1) 2 [] None) ∷ []))) no_pieces)))
      (and_piece (statement_item (return_stmt (at 1) (Some (identifier (at 1) 2)))) no_pieces));
})) ∷ (definition (record {
  start = (at 2);
  specifiers =
      ((plain_specifier (specifier.Word word.Int)) ∷ []);
  at = (at 2);
  name = 3;
  parameters = [];
  brace = (at 2);
  body = (and_piece (statement_item
      (return_stmt (at 2) (Some (constant (at 2) ty.Int 0)))) no_pieces);
})) ∷ [])) ≡ true
parameter_and_inner_block_is_typed = refl

-- int main(void) { for (int i = 0; i < 3; i++) { int i; } return 0; }
loop_variable_again_is_typed : typed_well (unit_typed 1048576 (codes "main.c" ∷ codes "main" ∷ codes "i" ∷ []) (at 0) ((definition (record {
  start = (at 1);
  specifiers = ((plain_specifier (specifier.Word word.Int)) ∷ []);
  at = (at 1);
  name = 1;
  parameters = [];
  brace = (at 1);
  body = (and_piece
      (statement_item (for_stmt (at 1) (declaration_start (declared (at 1) ((plain_specifier (specifier.Word word.Int)) ∷ []) ((object (at 1) 2 [] (Some
      (one_init (constant (at 1) ty.Int 0)))) ∷ []))) (Some (binary (at 1) operator.Less (identifier (at 1) 2) (constant (at 1) ty.Int 3))) (Some (after (at
      1) step.Increment (identifier (at 1) 2))) (block_stmt (at 1) (and_piece (declaration_item (declared (at 1) ((plain_specifier (specifier.Word word.Int))
      ∷ []) ((object (at 1) 2 [] None) ∷ []))) no_pieces)))) (and_piece (statement_item (return_stmt (at 1) (Some (constant (at 1) ty.Int 0)))) no_pieces));
})) ∷ [])) ≡ true
loop_variable_again_is_typed = refl

-- int a[]; int a[3]; int a[]; int b[sizeof a == 12 ? 1 : -1];
-- int main(void) { return 0; }
size_follows_is_typed : typed_well (unit_typed 1048576 (codes "main.c" ∷ codes "a" ∷ codes "b" ∷ codes "main" ∷ []) (at 0) ((declaration (declared (at 1)
    ((plain_specifier (specifier.Word word.Int)) ∷ []) ((object (at 1) 1 (None ∷ []) None) ∷ []))) ∷ (declaration (declared (at 1) ((plain_specifier
    (specifier.Word word.Int)) ∷ []) ((object (at 1) 1 ((Some (constant (at 1) ty.Int 3)) ∷ []) None) ∷ []))) ∷ (declaration (declared (at 1)
    ((plain_specifier (specifier.Word word.Int)) ∷ []) ((object (at 1) 1 (None ∷ []) None) ∷ []))) ∷ (declaration (declared (at 1) ((plain_specifier
    (specifier.Word word.Int)) ∷ []) ((object (at 1) 2 ((Some (conditional (at 1) (binary (at 1) operator.Equal (size_of (at 1) (identifier (at 1) 1))
    (constant (at 1) ty.Int 12)) (constant (at 1) ty.Int 1) (prefix (at 1) sign.Minus (constant (at 1) ty.Int 1)))) ∷ []) None) ∷ []))) ∷ (definition
    (record {
      start = (at 2);
      specifiers = ((plain_specifier (specifier.Word word.Int)) ∷ []);
      at = (at 2);
      name = 3;
      parameters = [];
      brace = (at 2);
      body
          = (and_piece (statement_item (return_stmt (at 2) (Some (constant (at 2) ty.Int 0)))) no_pieces);
    })) ∷ [])) ≡ true
size_follows_is_typed = refl

-- int a[3]; int a[] = {1, 2}; _Static_assert(sizeof a == 12, "m");
-- int main(void) { return 0; }
size_before_initialiser_is_typed : typed_well (unit_typed 1048576 (codes "main.c" ∷ codes "a" ∷ codes "m" ∷ codes "main" ∷ []) (at 0) ((declaration (declared (at 1)
    ((plain_specifier (specifier.Word word.Int)) ∷ []) ((object (at 1) 1 ((Some (constant (at 1) ty.Int 3)) ∷ []) None) ∷ []))) ∷ (declaration (declared (at
    1) ((plain_specifier (specifier.Word word.Int)) ∷ []) ((object (at 1) 1 (None ∷ []) (Some (braced_init (at 1) (and_init (one_init (constant (at 1)
    ty.Int 1)) (and_init (one_init (constant (at 1) ty.Int 2)) no_inits))))) ∷ []))) ∷ (declaration (assertion (at 1) (binary (at 1) operator.Equal (size_of
    (at 1) (identifier (at 1) 1)) (constant (at 1) ty.Int 12)) 2)) ∷ (definition (record {
      start = (at 2);
      specifiers = ((plain_specifier (specifier.Word
          word.Int)) ∷ []);
      at = (at 2);
      name = 3;
      parameters = [];
      brace = (at 2);
      body = (and_piece (statement_item (return_stmt (at 2) (Some (constant (at 2)
          ty.Int 0)))) no_pieces);
    })) ∷ [])) ≡ true
size_before_initialiser_is_typed = refl

-- int f(int a); int f(const int b); int g(int p[2]); int g(int p[]);
-- int main(void) { return 0; }
const_parameter_is_typed : typed_well (unit_typed 1048576 (codes "main.c" ∷ codes "f" ∷ codes "a" ∷ codes "b" ∷ codes "g" ∷ codes "p" ∷ codes "main" ∷ []) (at 0)
    ((declaration (declared (at 1) ((plain_specifier (specifier.Word word.Int)) ∷ []) ((function (at 1) 1 (record {
      at = (at 1);
      start = (at 1);
      specifiers
          = ((specifier.Word word.Int) ∷ []);
      name = (Some 2);
      sizes = [];
    } ∷ [])) ∷ []))) ∷ (declaration (declared (at 1) ((plain_specifier (specifier.Word
    word.Int)) ∷ []) ((function (at 1) 1 (record {
      at = (at 1);
      start = (at 1);
      specifiers = (specifier.Const ∷ (specifier.Word word.Int) ∷ []);
      name =
          (Some 3);
      sizes = [];
    } ∷ [])) ∷ []))) ∷ (declaration (declared (at 1) ((plain_specifier (specifier.Word word.Int)) ∷ []) ((function (at 1) 4 (record {
      at = (at 1);
      start = (at 1);
      specifiers = ((specifier.Word word.Int) ∷ []);
      name = (Some 5);
      sizes = ((Some (constant (at 1) ty.Int 2)) ∷ []);
    } ∷ [])) ∷
    []))) ∷ (declaration (declared (at 1) ((plain_specifier (specifier.Word word.Int)) ∷ []) ((function (at 1) 4 (record {
      at = (at 1);
      start = (at 1);
      specifiers = ((specifier.Word word.Int) ∷ []);
      name = (Some 5);
      sizes = (None ∷ []);
    } ∷ [])) ∷ []))) ∷ (definition (record {
      start = (at 2);
      specifiers
          = ((plain_specifier (specifier.Word word.Int)) ∷ []);
      at = (at 2);
      name = 6;
      parameters = [];
      brace = (at 2);
      body = (and_piece (statement_item
          (return_stmt (at 2) (Some (constant (at 2) ty.Int 0)))) no_pieces);
    })) ∷ [])) ≡ true
const_parameter_is_typed = refl

-- int main(void) { int rv_exit = 1; return rv_exit; }
built_in_name_inside_is_typed : typed_well (unit_typed 1048576 (codes "main.c" ∷ codes "main" ∷ codes "rv_exit" ∷ []) (at 0) ((definition (record {
  start = (at 1);
  specifiers = ((plain_specifier (specifier.Word word.Int)) ∷ []);
  at = (at 1);
  name = 1;
  parameters = [];
  brace = (at 1);
  body = (and_piece
      (declaration_item (declared (at 1) ((plain_specifier (specifier.Word word.Int)) ∷ []) ((object (at 1) 2 [] (Some (one_init (constant (at 1) ty.Int 1))))
      ∷ []))) (and_piece (statement_item (return_stmt (at 1) (Some (identifier (at 1) 2)))) no_pieces));
})) ∷ [])) ≡ true
built_in_name_inside_is_typed = refl

-- static int x; extern int x;
-- int main(void) { return 0; }
static_then_extern_is_typed : typed_well (unit_typed 1048576 (codes "main.c" ∷ codes "x" ∷ codes "main" ∷ []) (at 0) ((declaration (declared (at 1)
    (static_specifier ∷ (plain_specifier (specifier.Word word.Int)) ∷ []) ((object (at 1) 1 [] None) ∷ []))) ∷ (declaration (declared (at 1)
    (extern_specifier ∷ (plain_specifier (specifier.Word word.Int)) ∷ []) ((object (at 1) 1 [] None) ∷ []))) ∷ (definition (record {
      start = (at 2);
      specifiers = ((plain_specifier (specifier.Word word.Int)) ∷ []);
      at = (at 2);
      name = 2;
      parameters = [];
      brace = (at 2);
      body = (and_piece
          (statement_item (return_stmt (at 2) (Some (constant (at 2) ty.Int 0)))) no_pieces);
    })) ∷ [])) ≡ true
static_then_extern_is_typed = refl

-- static int f(void); int f(void); int f(void) { return 0; }
-- int main(void) { return 0; }
static_function_is_typed : typed_well (unit_typed 1048576 (codes "main.c" ∷ codes "f" ∷ codes "main" ∷ []) (at 0) ((declaration (declared (at 1) (static_specifier ∷
    (plain_specifier (specifier.Word word.Int)) ∷ []) ((function (at 1) 1 []) ∷ []))) ∷ (declaration (declared (at 1) ((plain_specifier (specifier.Word
    word.Int)) ∷ []) ((function (at 1) 1 []) ∷ []))) ∷ (definition (record {
      start = (at 1);
      specifiers = ((plain_specifier (specifier.Word word.Int)) ∷
          []);
      at = (at 1);
      name = 1;
      parameters = [];
      brace = (at 1);
      body = (and_piece (statement_item (return_stmt (at 1) (Some (constant (at 1) ty.Int 0))))
          no_pieces);
    })) ∷ (definition (record {
      start = (at 2);
      specifiers = ((plain_specifier (specifier.Word word.Int)) ∷ []);
      at = (at 2);
      name = 2;
      parameters = [];
      brace = (at 2);
      body = (and_piece (statement_item (return_stmt (at 2) (Some (constant (at 2) ty.Int 0)))) no_pieces);
    })) ∷ [])) ≡ true
static_function_is_typed = refl

-- int x; int x = 5; int x; int main(void) { return x; }
tentative_is_typed : typed_well (unit_typed 1048576 (codes "main.c" ∷ codes "x" ∷ codes "main" ∷ []) (at 0) ((declaration (declared (at 1) ((plain_specifier
    (specifier.Word word.Int)) ∷ []) ((object (at 1) 1 [] None) ∷ []))) ∷ (declaration (declared (at 1) ((plain_specifier (specifier.Word word.Int)) ∷ [])
    ((object (at 1) 1 [] (Some (one_init (constant (at 1) ty.Int 5)))) ∷ []))) ∷ (declaration (declared (at 1) ((plain_specifier (specifier.Word word.Int))
    ∷ []) ((object (at 1) 1 [] None) ∷ []))) ∷ (definition (record {
      start = (at 1);
      specifiers = ((plain_specifier (specifier.Word word.Int)) ∷ []);
      at =
          (at 1);
      name = 2;
      parameters = [];
      brace = (at 1);
      body = (and_piece (statement_item (return_stmt (at 1) (Some (identifier (at 1) 1)))) no_pieces);
    })) ∷
    [])) ≡ true
tentative_is_typed = refl

-- int a[]; int main(void) { return a[0]; }
unknown_at_file_scope_is_typed : typed_well (unit_typed 1048576 (codes "main.c" ∷ codes "a" ∷ codes "main" ∷ []) (at 0) ((declaration (declared (at 1)
    ((plain_specifier (specifier.Word word.Int)) ∷ []) ((object (at 1) 1 (None ∷ []) None) ∷ []))) ∷ (definition (record {
      start = (at 1);
      specifiers =
          ((plain_specifier (specifier.Word word.Int)) ∷ []);
      at = (at 1);
      name = 2;
      parameters = [];
      brace = (at 1);
      body = (and_piece (statement_item
          (return_stmt (at 1) (Some (subscript (at 1) (identifier (at 1) 1) (constant (at 1) ty.Int 0))))) no_pieces);
    })) ∷ [])) ≡ true
unknown_at_file_scope_is_typed = refl

-- int main(void) { char s[3] = "abc"; return s[2]; }
text_without_zero_is_typed : typed_well (unit_typed 1048576 (codes "main.c" ∷ codes "main" ∷ codes "s" ∷ (codes "abc" ++ 0 ∷ []) ∷ []) (at 0) ((definition (record {
  start = (at
      1);
  specifiers = ((plain_specifier (specifier.Word word.Int)) ∷ []);
  at = (at 1);
  name = 1;
  parameters = [];
  brace = (at 1);
  body = (and_piece
      (declaration_item (declared (at 1) ((plain_specifier (specifier.Word word.Char)) ∷ []) ((object (at 1) 2 ((Some (constant (at 1) ty.Int 3)) ∷ []) (Some
      (one_init (string (at 1) 3)))) ∷ []))) (and_piece (statement_item (return_stmt (at 1) (Some (subscript (at 1) (identifier (at 1) 2) (constant (at 1)
      ty.Int 2))))) no_pieces));
})) ∷ [])) ≡ true
text_without_zero_is_typed = refl

-- int main(void) { int x = {1}; return x; }
number_in_braces_is_typed : typed_well (unit_typed 1048576 (codes "main.c" ∷ codes "main" ∷ codes "x" ∷ []) (at 0) ((definition (record {
  start = (at 1);
  specifiers
      = ((plain_specifier (specifier.Word word.Int)) ∷ []);
  at = (at 1);
  name = 1;
  parameters = [];
  brace = (at 1);
  body = (and_piece (declaration_item
      (declared (at 1) ((plain_specifier (specifier.Word word.Int)) ∷ []) ((object (at 1) 2 [] (Some (braced_init (at 1) (and_init (one_init (constant (at 1)
      ty.Int 1)) no_inits)))) ∷ []))) (and_piece (statement_item (return_stmt (at 1) (Some (identifier (at 1) 2)))) no_pieces));
})) ∷ [])) ≡ true
number_in_braces_is_typed = refl

-- int main(void) { char s[] = {"ab"}; unsigned char t[2][3] = {"ab", {"c"}}; return sizeof s == 3; }
text_in_braces_is_typed : typed_well (unit_typed 1048576 (codes "main.c" ∷ codes "main" ∷ codes "s" ∷ (codes "ab" ++ 0 ∷ []) ∷ codes "t" ∷ (codes "c" ++ 0 ∷ []) ∷ []) (at 0) ((definition
    (record {
      start = (at 1);
      specifiers = ((plain_specifier (specifier.Word word.Int)) ∷ []);
      at = (at 1);
      name = 1;
      parameters = [];
      brace = (at 1);
      body
          = (and_piece (declaration_item (declared (at 1) ((plain_specifier (specifier.Word word.Char)) ∷ []) ((object (at 1) 2 (None ∷ []) (Some (braced_init (at
          1) (and_init (one_init (string (at 1) 3)) no_inits)))) ∷ []))) (and_piece (declaration_item (declared (at 1) ((plain_specifier (specifier.Word
          word.Unsigned)) ∷ (plain_specifier (specifier.Word word.Char)) ∷ []) ((object (at 1) 4 ((Some (constant (at 1) ty.Int 2)) ∷ (Some (constant (at 1)
          ty.Int 3)) ∷ []) (Some (braced_init (at 1) (and_init (one_init (string (at 1) 3)) (and_init (braced_init (at 1) (and_init (one_init (string (at 1) 5))
          no_inits)) no_inits))))) ∷ []))) (and_piece (statement_item (return_stmt (at 1) (Some (binary (at 1) operator.Equal (size_of (at 1) (identifier (at 1)
          2)) (constant (at 1) ty.Int 3))))) no_pieces)));
    })) ∷ [])) ≡ true
text_in_braces_is_typed = refl

-- static char s[] = "ab"; static signed char t[] = {"a"};
-- int main(void) { return 0; }
static_text_is_typed : typed_well (unit_typed 1048576 (codes "main.c" ∷ codes "s" ∷ (codes "ab" ++ 0 ∷ []) ∷ codes "t" ∷ (codes "a" ++ 0 ∷ []) ∷ codes "main" ∷ []) (at 0) ((declaration
    (declared (at 1) (static_specifier ∷ (plain_specifier (specifier.Word word.Char)) ∷ []) ((object (at 1) 1 (None ∷ []) (Some (one_init (string (at 1)
    2)))) ∷ []))) ∷ (declaration (declared (at 1) (static_specifier ∷ (plain_specifier (specifier.Word word.Signed)) ∷ (plain_specifier (specifier.Word
    word.Char)) ∷ []) ((object (at 1) 3 (None ∷ []) (Some (braced_init (at 1) (and_init (one_init (string (at 1) 4)) no_inits)))) ∷ []))) ∷ (definition
    (record {
      start = (at 2);
      specifiers = ((plain_specifier (specifier.Word word.Int)) ∷ []);
      at = (at 2);
      name = 5;
      parameters = [];
      brace = (at 2);
      body
          = (and_piece (statement_item (return_stmt (at 2) (Some (constant (at 2) ty.Int 0)))) no_pieces);
    })) ∷ [])) ≡ true
static_text_is_typed = refl

-- _Static_assert(1 || 1 / 0, "m");
-- int main(void) { return 0; }
assertion_of_unevaluated_is_typed : typed_well (unit_typed 1048576 (codes "main.c" ∷ codes "m" ∷ codes "main" ∷ []) (at 0) ((declaration (assertion (at 1) (binary
    (at 1) operator.Or (constant (at 1) ty.Int 1) (binary (at 1) operator.Div (constant (at 1) ty.Int 1) (constant (at 1) ty.Int 0))) 1)) ∷ (definition
    (record {
      start = (at 2);
      specifiers = ((plain_specifier (specifier.Word word.Int)) ∷ []);
      at = (at 2);
      name = 2;
      parameters = [];
      brace = (at 2);
      body
          = (and_piece (statement_item (return_stmt (at 2) (Some (constant (at 2) ty.Int 0)))) no_pieces);
    })) ∷ [])) ≡ true
assertion_of_unevaluated_is_typed = refl

-- enum e { A }; int main(void) { enum e { A = 3 }; enum e x = A; return x; }
tag_in_inner_block_is_typed : typed_well (unit_typed 1048576 (codes "main.c" ∷ codes "e" ∷ codes "A" ∷ codes "main" ∷ codes "x" ∷ []) (at 0) ((declaration (declared
    (at 1) ((enumerators_specifier (Some 1) (record { at = (at 1); name = 2; value = None } ∷ [])) ∷ []) [])) ∷ (definition (record {
      start = (at 1);
      specifiers = ((plain_specifier (specifier.Word word.Int)) ∷ []);
      at = (at 1);
      name = 3;
      parameters = [];
      brace = (at 1);
      body = (and_piece
          (declaration_item (declared (at 1) ((enumerators_specifier (Some 1) (record { at = (at 1); name = 2; value = (Some (constant (at 1) ty.Int 3)) } ∷ []))
          ∷ []) [])) (and_piece (declaration_item (declared (at 1) ((plain_specifier (specifier.Enum 1)) ∷ []) ((object (at 1) 4 [] (Some (one_init (identifier
          (at 1) 2)))) ∷ []))) (and_piece (statement_item (return_stmt (at 1) (Some (identifier (at 1) 4)))) no_pieces)));
    })) ∷ [])) ≡ true
tag_in_inner_block_is_typed = refl

-- enum { A = 4, B = A * 2, C }; _Static_assert(C == 9, "m");
-- int main(void) { return 0; }
enumerator_in_next_is_typed : typed_well (unit_typed 1048576 (codes "main.c" ∷ codes "A" ∷ codes "B" ∷ codes "C" ∷ codes "m" ∷ codes "main" ∷ []) (at 0)
    ((declaration (declared (at 1) ((enumerators_specifier None (record { at = (at 1); name = 1; value = (Some (constant (at 1) ty.Int 4)) } ∷ record {
      at =
          (at 1);
      name = 2;
      value = (Some (binary (at 1) operator.Mul (identifier (at 1) 1) (constant (at 1) ty.Int 2)));
    } ∷ record {
      at = (at 1);
      name = 3;
      value
          = None;
    } ∷ [])) ∷ []) [])) ∷ (declaration (assertion (at 1) (binary (at 1) operator.Equal (identifier (at 1) 3) (constant (at 1) ty.Int 9)) 4)) ∷
    (definition (record {
      start = (at 2);
      specifiers = ((plain_specifier (specifier.Word word.Int)) ∷ []);
      at = (at 2);
      name = 5;
      parameters = [];
      brace =
          (at 2);
      body = (and_piece (statement_item (return_stmt (at 2) (Some (constant (at 2) ty.Int 0)))) no_pieces);
    })) ∷ [])) ≡ true
enumerator_in_next_is_typed = refl

-- int f(int);
-- int main(void) { return 0; }
unnamed_in_declaration_is_typed : typed_well (unit_typed 1048576 (codes "main.c" ∷ codes "f" ∷ codes "main" ∷ []) (at 0) ((declaration (declared (at 1)
    ((plain_specifier (specifier.Word word.Int)) ∷ []) ((function (at 1) 1 (record {
      at = (at 1);
      start = (at 1);
      specifiers = ((specifier.Word word.Int) ∷
          []);
      name = None;
      sizes = [];
    } ∷ [])) ∷ []))) ∷ (definition (record {
      start = (at 2);
      specifiers = ((plain_specifier (specifier.Word word.Int)) ∷ []);
      at = (at 2);
      name = 2;
      parameters = [];
      brace = (at 2);
      body = (and_piece (statement_item (return_stmt (at 2) (Some (constant (at 2) ty.Int 0))))
          no_pieces);
    })) ∷ [])) ≡ true
unnamed_in_declaration_is_typed = refl

-- int main(void) { for (_Static_assert(1, "m"); ; ) return 0; }
assertion_in_for_is_typed : typed_well (unit_typed 1048576 (codes "main.c" ∷ codes "main" ∷ codes "m" ∷ []) (at 0) ((definition (record {
  start = (at 1);
  specifiers
      = ((plain_specifier (specifier.Word word.Int)) ∷ []);
  at = (at 1);
  name = 1;
  parameters = [];
  brace = (at 1);
  body = (and_piece (statement_item
      (for_stmt (at 1) (declaration_start (assertion (at 1) (constant (at 1) ty.Int 1) 2)) None None (return_stmt (at 1) (Some (constant (at 1) ty.Int 0)))))
      no_pieces);
})) ∷ [])) ≡ true
assertion_in_for_is_typed = refl

-- int x[3]; int a[sizeof x[1] + sizeof "ab"]; _Static_assert(sizeof a == 28, "m");
-- int main(void) { return 0; }
size_by_measured_names_is_typed : typed_well (unit_typed 1048576 (codes "main.c" ∷ codes "x" ∷ codes "a" ∷ (codes "ab" ++ 0 ∷ []) ∷ codes "m" ∷ codes "main" ∷ []) (at 0)
    ((declaration (declared (at 1) ((plain_specifier (specifier.Word word.Int)) ∷ []) ((object (at 1) 1 ((Some (constant (at 1) ty.Int 3)) ∷ []) None) ∷
    []))) ∷ (declaration (declared (at 1) ((plain_specifier (specifier.Word word.Int)) ∷ []) ((object (at 1) 2 ((Some (binary (at 1) operator.Add (size_of
    (at 1) (subscript (at 1) (identifier (at 1) 1) (constant (at 1) ty.Int 1))) (size_of (at 1) (string (at 1) 3)))) ∷ []) None) ∷ []))) ∷ (declaration
    (assertion (at 1) (binary (at 1) operator.Equal (size_of (at 1) (identifier (at 1) 2)) (constant (at 1) ty.Int 28)) 4)) ∷ (definition (record {
      start =
          (at 2);
      specifiers = ((plain_specifier (specifier.Word word.Int)) ∷ []);
      at = (at 2);
      name = 5;
      parameters = [];
      brace = (at 2);
      body = (and_piece
          (statement_item (return_stmt (at 2) (Some (constant (at 2) ty.Int 0)))) no_pieces);
    })) ∷ [])) ≡ true
size_by_measured_names_is_typed = refl

-- static unsigned char c = 300; static int x = 4294967295u; static _Bool b = 2;
-- int main(void) { return 0; }
wraps_by_conversion_is_typed : typed_well (unit_typed 1048576 (codes "main.c" ∷ codes "c" ∷ codes "x" ∷ codes "b" ∷ codes "main" ∷ []) (at 0) ((declaration
    (declared (at 1) (static_specifier ∷ (plain_specifier (specifier.Word word.Unsigned)) ∷ (plain_specifier (specifier.Word word.Char)) ∷ []) ((object (at
    1) 1 [] (Some (one_init (constant (at 1) ty.Int 300)))) ∷ []))) ∷ (declaration (declared (at 1) (static_specifier ∷ (plain_specifier (specifier.Word
    word.Int)) ∷ []) ((object (at 1) 2 [] (Some (one_init (constant (at 1) ty.UInt 4294967295)))) ∷ []))) ∷ (declaration (declared (at 1) (static_specifier
    ∷ (plain_specifier (specifier.Word word.Bool)) ∷ []) ((object (at 1) 3 [] (Some (one_init (constant (at 1) ty.Int 2)))) ∷ []))) ∷ (definition (record {
      start = (at 2);
      specifiers = ((plain_specifier (specifier.Word word.Int)) ∷ []);
      at = (at 2);
      name = 4;
      parameters = [];
      brace = (at 2);
      body =
          (and_piece (statement_item (return_stmt (at 2) (Some (constant (at 2) ty.Int 0)))) no_pieces);
    })) ∷ [])) ≡ true
wraps_by_conversion_is_typed = refl

-- unsigned x = 0u - 1; _Static_assert(-1 > 0u && 0u - 1 == 4294967295u, "m");
-- int main(void) { return 0; }
unsigned_wraps_is_typed : typed_well (unit_typed 1048576 (codes "main.c" ∷ codes "x" ∷ codes "m" ∷ codes "main" ∷ []) (at 0) ((declaration (declared (at 1)
    ((plain_specifier (specifier.Word word.Unsigned)) ∷ []) ((object (at 1) 1 [] (Some (one_init (binary (at 1) operator.Sub (constant (at 1) ty.UInt 0)
    (constant (at 1) ty.Int 1))))) ∷ []))) ∷ (declaration (assertion (at 1) (binary (at 1) operator.And (binary (at 1) operator.Greater (prefix (at 1)
    sign.Minus (constant (at 1) ty.Int 1)) (constant (at 1) ty.UInt 0)) (binary (at 1) operator.Equal (binary (at 1) operator.Sub (constant (at 1) ty.UInt
    0) (constant (at 1) ty.Int 1)) (constant (at 1) ty.UInt 4294967295))) 2)) ∷ (definition (record {
      start = (at 2);
      specifiers = ((plain_specifier
          (specifier.Word word.Int)) ∷ []);
      at = (at 2);
      name = 3;
      parameters = [];
      brace = (at 2);
      body = (and_piece (statement_item (return_stmt (at 2) (Some
          (constant (at 2) ty.Int 0)))) no_pieces);
    })) ∷ [])) ≡ true
unsigned_wraps_is_typed = refl

-- int main(void) { int x = x; return x; }
own_name_in_scope_is_typed : typed_well (unit_typed 1048576 (codes "main.c" ∷ codes "main" ∷ codes "x" ∷ []) (at 0) ((definition (record {
  start = (at 1);
  specifiers = ((plain_specifier (specifier.Word word.Int)) ∷ []);
  at = (at 1);
  name = 1;
  parameters = [];
  brace = (at 1);
  body = (and_piece
      (declaration_item (declared (at 1) ((plain_specifier (specifier.Word word.Int)) ∷ []) ((object (at 1) 2 [] (Some (one_init (identifier (at 1) 2)))) ∷
      []))) (and_piece (statement_item (return_stmt (at 1) (Some (identifier (at 1) 2)))) no_pieces));
})) ∷ [])) ≡ true
own_name_in_scope_is_typed = refl

-- int f(int a, int p[sizeof a]);
-- int main(void) { return 0; }
measured_parameter_is_typed : typed_well (unit_typed 1048576 (codes "main.c" ∷ codes "f" ∷ codes "a" ∷ codes "p" ∷ codes "main" ∷ []) (at 0) ((declaration (declared
    (at 1) ((plain_specifier (specifier.Word word.Int)) ∷ []) ((function (at 1) 1 (record {
      at = (at 1);
      start = (at 1);
      specifiers = ((specifier.Word
          word.Int) ∷ []);
      name = (Some 2);
      sizes = [];
    } ∷ record {
      at = (at 1);
      start = (at 1);
      specifiers = ((specifier.Word word.Int) ∷ []);
      name = (Some 3);
      sizes = ((Some (size_of (at 1) (identifier (at 1) 2))) ∷ []);
    } ∷ [])) ∷ []))) ∷ (definition (record {
      start = (at 2);
      specifiers = ((plain_specifier
          (specifier.Word word.Int)) ∷ []);
      at = (at 2);
      name = 4;
      parameters = [];
      brace = (at 2);
      body = (and_piece (statement_item (return_stmt (at 2) (Some
          (constant (at 2) ty.Int 0)))) no_pieces);
    })) ∷ [])) ≡ true
measured_parameter_is_typed = refl

-- int x; int main(void) { { char x; } return sizeof x; }
name_back_again_is_typed : typed_well (unit_typed 1048576 (codes "main.c" ∷ codes "x" ∷ codes "main" ∷ []) (at 0) ((declaration (declared (at 1) ((plain_specifier
    (specifier.Word word.Int)) ∷ []) ((object (at 1) 1 [] None) ∷ []))) ∷ (definition (record {
      start = (at 1);
      specifiers = ((plain_specifier
          (specifier.Word word.Int)) ∷ []);
      at = (at 1);
      name = 2;
      parameters = [];
      brace = (at 1);
      body = (and_piece (statement_item (block_stmt (at 1)
          (and_piece (declaration_item (declared (at 1) ((plain_specifier (specifier.Word word.Char)) ∷ []) ((object (at 1) 1 [] None) ∷ []))) no_pieces)))
          (and_piece (statement_item (return_stmt (at 1) (Some (size_of (at 1) (identifier (at 1) 1))))) no_pieces));
    })) ∷ [])) ≡ true
name_back_again_is_typed = refl

-- char a[1048576];
-- int main(void) { return 0; }
largest_object_is_typed : typed_well (unit_typed 1048576 (codes "main.c" ∷ codes "a" ∷ codes "main" ∷ []) (at 0) ((declaration (declared (at 1) ((plain_specifier
    (specifier.Word word.Char)) ∷ []) ((object (at 1) 1 ((Some (constant (at 1) ty.Int 1048576)) ∷ []) None) ∷ []))) ∷ (definition (record {
      start = (at 2);
      specifiers = ((plain_specifier (specifier.Word word.Int)) ∷ []);
      at = (at 2);
      name = 2;
      parameters = [];
      brace = (at 2);
      body = (and_piece
          (statement_item (return_stmt (at 2) (Some (constant (at 2) ty.Int 0)))) no_pieces);
    })) ∷ [])) ≡ true
largest_object_is_typed = refl

-- int f(char p[2000000]);
-- int main(void) { return 0; }
large_parameter_is_typed : typed_well (unit_typed 1048576 (codes "main.c" ∷ codes "f" ∷ codes "p" ∷ codes "main" ∷ []) (at 0) ((declaration (declared (at 1)
    ((plain_specifier (specifier.Word word.Int)) ∷ []) ((function (at 1) 1 (record {
      at = (at 1);
      start = (at 1);
      specifiers = ((specifier.Word word.Char) ∷
          []);
      name = (Some 2);
      sizes = ((Some (constant (at 1) ty.Int 2000000)) ∷ []);
    } ∷ [])) ∷ []))) ∷ (definition (record {
      start = (at 2);
      specifiers =
          ((plain_specifier (specifier.Word word.Int)) ∷ []);
      at = (at 2);
      name = 3;
      parameters = [];
      brace = (at 2);
      body = (and_piece (statement_item
          (return_stmt (at 2) (Some (constant (at 2) ty.Int 0)))) no_pieces);
    })) ∷ [])) ≡ true
large_parameter_is_typed = refl

-- int f(const int p[]) { return p[0]; }
-- int main(void) { int a[3] = {0}; return f(a); }
plain_for_const_is_typed : typed_well (unit_typed 1048576 (codes "main.c" ∷ codes "f" ∷ codes "p" ∷ codes "main" ∷ codes "a" ∷ []) (at 0) ((definition (record {
  start = (at 1);
  specifiers = ((plain_specifier (specifier.Word word.Int)) ∷ []);
  at = (at 1);
  name = 1;
  parameters = (record {
    at = (at 1);
    start = (at
        1);
    specifiers = (specifier.Const ∷ (specifier.Word word.Int) ∷ []);
    name = (Some 2);
    sizes = (None ∷ []);
  } ∷ []);
  brace = (at 1);
  body = (and_piece
      (statement_item (return_stmt (at 1) (Some (subscript (at 1) (identifier (at 1) 2) (constant (at 1) ty.Int 0))))) no_pieces);
})) ∷ (definition (record {
  start = (at 2);
  specifiers = ((plain_specifier (specifier.Word word.Int)) ∷ []);
  at = (at 2);
  name = 3;
  parameters = [];
  brace = (at 2);
  body =
      (and_piece (declaration_item (declared (at 2) ((plain_specifier (specifier.Word word.Int)) ∷ []) ((object (at 2) 4 ((Some (constant (at 2) ty.Int 3)) ∷
      []) (Some (braced_init (at 2) (and_init (one_init (constant (at 2) ty.Int 0)) no_inits)))) ∷ []))) (and_piece (statement_item (return_stmt (at 2) (Some
      (call (at 2) 1 (one_more (identifier (at 2) 4) no_trees))))) no_pieces));
})) ∷ [])) ≡ true
plain_for_const_is_typed = refl

-- int f(int p[]) { return p[0]; } int main(void) { static int m[5][3]; return f(m[1]) + f(m[2]); }
row_for_array_is_typed : typed_well (unit_typed 1048576 (codes "main.c" ∷ codes "f" ∷ codes "p" ∷ codes "main" ∷ codes "m" ∷ []) (at 0) ((definition (record {
  start
      = (at 1);
  specifiers = ((plain_specifier (specifier.Word word.Int)) ∷ []);
  at = (at 1);
  name = 1;
  parameters = (record {
    at = (at 1);
    start = (at 1);
    specifiers = ((specifier.Word word.Int) ∷ []);
    name = (Some 2);
    sizes = (None ∷ []);
  } ∷ []);
  brace = (at 1);
  body = (and_piece (statement_item
      (return_stmt (at 1) (Some (subscript (at 1) (identifier (at 1) 2) (constant (at 1) ty.Int 0))))) no_pieces);
})) ∷ (definition (record {
  start = (at 1);
  specifiers = ((plain_specifier (specifier.Word word.Int)) ∷ []);
  at = (at 1);
  name = 3;
  parameters = [];
  brace = (at 1);
  body = (and_piece
      (declaration_item (declared (at 1) (static_specifier ∷ (plain_specifier (specifier.Word word.Int)) ∷ []) ((object (at 1) 4 ((Some (constant (at 1)
      ty.Int 5)) ∷ (Some (constant (at 1) ty.Int 3)) ∷ []) None) ∷ []))) (and_piece (statement_item (return_stmt (at 1) (Some (binary (at 1) operator.Add
      (call (at 1) 1 (one_more (subscript (at 1) (identifier (at 1) 4) (constant (at 1) ty.Int 1)) no_trees)) (call (at 1) 1 (one_more (subscript (at 1)
      (identifier (at 1) 4) (constant (at 1) ty.Int 2)) no_trees)))))) no_pieces));
})) ∷ [])) ≡ true
row_for_array_is_typed = refl

-- int f(char p[]) { return p[0]; } int main(void) { return f("abc"); }
text_for_array_is_typed : typed_well (unit_typed 1048576 (codes "main.c" ∷ codes "f" ∷ codes "p" ∷ codes "main" ∷ (codes "abc" ++ 0 ∷ []) ∷ []) (at 0) ((definition (record {
  start = (at 1);
  specifiers = ((plain_specifier (specifier.Word word.Int)) ∷ []);
  at = (at 1);
  name = 1;
  parameters = (record {
    at = (at 1);
    start = (at
        1);
    specifiers = ((specifier.Word word.Char) ∷ []);
    name = (Some 2);
    sizes = (None ∷ []);
  } ∷ []);
  brace = (at 1);
  body = (and_piece (statement_item
      (return_stmt (at 1) (Some (subscript (at 1) (identifier (at 1) 2) (constant (at 1) ty.Int 0))))) no_pieces);
})) ∷ (definition (record {
  start = (at 1);
  specifiers = ((plain_specifier (specifier.Word word.Int)) ∷ []);
  at = (at 1);
  name = 3;
  parameters = [];
  brace = (at 1);
  body = (and_piece
      (statement_item (return_stmt (at 1) (Some (call (at 1) 1 (one_more (string (at 1) 4) no_trees))))) no_pieces);
})) ∷ [])) ≡ true
text_for_array_is_typed = refl

-- int main(void) { int x = 1; (void)x; return 0; }
cast_to_void_is_typed : typed_well (unit_typed 1048576 (codes "main.c" ∷ codes "main" ∷ codes "x" ∷ []) (at 0) ((definition (record {
  start = (at 1);
  specifiers =
      ((plain_specifier (specifier.Word word.Int)) ∷ []);
  at = (at 1);
  name = 1;
  parameters = [];
  brace = (at 1);
  body = (and_piece (declaration_item
      (declared (at 1) ((plain_specifier (specifier.Word word.Int)) ∷ []) ((object (at 1) 2 [] (Some (one_init (constant (at 1) ty.Int 1)))) ∷ [])))
      (and_piece (statement_item (expression_stmt (at 1) (cast (at 1) (type_name (at 1) ((specifier.Word word.Void) ∷ []) no_trees) (identifier (at 1) 2))))
      (and_piece (statement_item (return_stmt (at 1) (Some (constant (at 1) ty.Int 0)))) no_pieces)));
})) ∷ [])) ≡ true
cast_to_void_is_typed = refl

-- int rv_getbyte(void); void rv_putbyte(int c); void rv_exit(int status);
-- int main(void) { 1 ? rv_putbyte(65) : rv_putbyte(66); return 0; }
void_arms_is_typed : typed_well (unit_typed 1048576 (codes "main.c" ∷ codes "rv_getbyte" ∷ codes "rv_putbyte" ∷ codes "c" ∷ codes "rv_exit" ∷ codes "status" ∷ codes
    "main" ∷ []) (at 0) ((declaration (declared (at 1) ((plain_specifier (specifier.Word word.Int)) ∷ []) ((function (at 1) 1 []) ∷ []))) ∷ (declaration
    (declared (at 1) ((plain_specifier (specifier.Word word.Void)) ∷ []) ((function (at 1) 2 (record {
      at = (at 1);
      start = (at 1);
      specifiers =
          ((specifier.Word word.Int) ∷ []);
      name = (Some 3);
      sizes = [];
    } ∷ [])) ∷ []))) ∷ (declaration (declared (at 1) ((plain_specifier (specifier.Word
    word.Void)) ∷ []) ((function (at 1) 4 (record {
      at = (at 1);
      start = (at 1);
      specifiers = ((specifier.Word word.Int) ∷ []);
      name = (Some 5);
      sizes = [];
    } ∷ [])) ∷ []))) ∷ (definition (record {
      start = (at 2);
      specifiers = ((plain_specifier (specifier.Word word.Int)) ∷ []);
      at = (at 2);
      name = 6;
      parameters = [];
      brace = (at 2);
      body = (and_piece (statement_item (expression_stmt (at 2) (conditional (at 2) (constant (at 2) ty.Int 1) (call (at 2) 2
          (one_more (constant (at 2) ty.Int 65) no_trees)) (call (at 2) 2 (one_more (constant (at 2) ty.Int 66) no_trees))))) (and_piece (statement_item
          (return_stmt (at 2) (Some (constant (at 2) ty.Int 0)))) no_pieces));
    })) ∷ [])) ≡ true
void_arms_is_typed = refl

-- int main(void) { return "abc"[1]; }
text_subscripted_is_typed : typed_well (unit_typed 1048576 (codes "main.c" ∷ codes "main" ∷ (codes "abc" ++ 0 ∷ []) ∷ []) (at 0) ((definition (record {
  start = (at 1);
  specifiers = ((plain_specifier (specifier.Word word.Int)) ∷ []);
  at = (at 1);
  name = 1;
  parameters = [];
  brace = (at 1);
  body = (and_piece
      (statement_item (return_stmt (at 1) (Some (subscript (at 1) (string (at 1) 2) (constant (at 1) ty.Int 1))))) no_pieces);
})) ∷ [])) ≡ true
text_subscripted_is_typed = refl

-- int main(void) { int a[2]; return sizeof a + sizeof a[0] + sizeof "abc"; }
array_and_number_as_size_is_typed : typed_well (unit_typed 1048576 (codes "main.c" ∷ codes "main" ∷ codes "a" ∷ (codes "abc" ++ 0 ∷ []) ∷ []) (at 0) ((definition (record {
  start = (at 1);
  specifiers = ((plain_specifier (specifier.Word word.Int)) ∷ []);
  at = (at 1);
  name = 1;
  parameters = [];
  brace = (at 1);
  body =
      (and_piece (declaration_item (declared (at 1) ((plain_specifier (specifier.Word word.Int)) ∷ []) ((object (at 1) 2 ((Some (constant (at 1) ty.Int 2)) ∷
      []) None) ∷ []))) (and_piece (statement_item (return_stmt (at 1) (Some (binary (at 1) operator.Add (binary (at 1) operator.Add (size_of (at 1)
      (identifier (at 1) 2)) (size_of (at 1) (subscript (at 1) (identifier (at 1) 2) (constant (at 1) ty.Int 0)))) (size_of (at 1) (string (at 1) 3))))))
      no_pieces));
})) ∷ [])) ≡ true
array_and_number_as_size_is_typed = refl

-- int main(void) { switch (1) { case 1: ; case 2: ; default: ; } return 1; }
cases_by_type_is_typed : typed_well (unit_typed 1048576 (codes "main.c" ∷ codes "main" ∷ []) (at 0) ((definition (record {
  start = (at 1);
  specifiers =
      ((plain_specifier (specifier.Word word.Int)) ∷ []);
  at = (at 1);
  name = 1;
  parameters = [];
  brace = (at 1);
  body = (and_piece (statement_item
      (switch_stmt (at 1) (constant (at 1) ty.Int 1) (block_stmt (at 1) (and_piece (statement_item (case_stmt (at 1) (constant (at 1) ty.Int 1) (empty_stmt
      (at 1)))) (and_piece (statement_item (case_stmt (at 1) (constant (at 1) ty.Int 2) (empty_stmt (at 1)))) (and_piece (statement_item (default_stmt (at 1)
      (empty_stmt (at 1)))) no_pieces)))))) (and_piece (statement_item (return_stmt (at 1) (Some (constant (at 1) ty.Int 1)))) no_pieces));
})) ∷ [])) ≡ true
cases_by_type_is_typed = refl

-- int main(void) { switch (1) { case 1: case 2: default: return 1; } return 0; }
labels_one_after_another_is_typed : typed_well (unit_typed 1048576 (codes "main.c" ∷ codes "main" ∷ []) (at 0) ((definition (record {
  start = (at 1);
  specifiers =
      ((plain_specifier (specifier.Word word.Int)) ∷ []);
  at = (at 1);
  name = 1;
  parameters = [];
  brace = (at 1);
  body = (and_piece (statement_item
      (switch_stmt (at 1) (constant (at 1) ty.Int 1) (block_stmt (at 1) (and_piece (statement_item (case_stmt (at 1) (constant (at 1) ty.Int 1) (case_stmt (at
      1) (constant (at 1) ty.Int 2) (default_stmt (at 1) (return_stmt (at 1) (Some (constant (at 1) ty.Int 1))))))) no_pieces)))) (and_piece (statement_item
      (return_stmt (at 1) (Some (constant (at 1) ty.Int 0)))) no_pieces));
})) ∷ [])) ≡ true
labels_one_after_another_is_typed = refl

-- int main(void) { for (;;) { switch (1) { case 1: continue; default: break; } break; } return 0; }
continue_in_loop_is_typed : typed_well (unit_typed 1048576 (codes "main.c" ∷ codes "main" ∷ []) (at 0) ((definition (record {
  start = (at 1);
  specifiers =
      ((plain_specifier (specifier.Word word.Int)) ∷ []);
  at = (at 1);
  name = 1;
  parameters = [];
  brace = (at 1);
  body = (and_piece (statement_item (for_stmt
      (at 1) (expression_start None) None None (block_stmt (at 1) (and_piece (statement_item (switch_stmt (at 1) (constant (at 1) ty.Int 1) (block_stmt (at 1)
      (and_piece (statement_item (case_stmt (at 1) (constant (at 1) ty.Int 1) (continue_stmt (at 1)))) (and_piece (statement_item (default_stmt (at 1)
      (break_stmt (at 1)))) no_pieces))))) (and_piece (statement_item (break_stmt (at 1))) no_pieces))))) (and_piece (statement_item (return_stmt (at 1) (Some
      (constant (at 1) ty.Int 0)))) no_pieces));
})) ∷ [])) ≡ true
continue_in_loop_is_typed = refl

-- int f(void) { } int main(void) { return f(); }
ends_without_value_is_typed : typed_well (unit_typed 1048576 (codes "main.c" ∷ codes "f" ∷ codes "main" ∷ []) (at 0) ((definition (record {
  start = (at 1);
  specifiers = ((plain_specifier (specifier.Word word.Int)) ∷ []);
  at = (at 1);
  name = 1;
  parameters = [];
  brace = (at 1);
  body = no_pieces;
})) ∷
    (definition (record {
      start = (at 1);
      specifiers = ((plain_specifier (specifier.Word word.Int)) ∷ []);
      at = (at 1);
      name = 2;
      parameters = [];
      brace =
          (at 1);
      body = (and_piece (statement_item (return_stmt (at 1) (Some (call (at 1) 1 no_trees)))) no_pieces);
    })) ∷ [])) ≡ true
ends_without_value_is_typed = refl

-- int g(void); int main(void) { return (int)sizeof(g()); }
undefined_but_measured_is_typed : typed_well (unit_typed 1048576 (codes "main.c" ∷ codes "g" ∷ codes "main" ∷ []) (at 0) ((declaration (declared (at 1)
    ((plain_specifier (specifier.Word word.Int)) ∷ []) ((function (at 1) 1 []) ∷ []))) ∷ (definition (record {
      start = (at 1);
      specifiers =
          ((plain_specifier (specifier.Word word.Int)) ∷ []);
      at = (at 1);
      name = 2;
      parameters = [];
      brace = (at 1);
      body = (and_piece (statement_item
          (return_stmt (at 1) (Some (cast (at 1) (type_name (at 1) ((specifier.Word word.Int) ∷ []) no_trees) (size_of (at 1) (paren (call (at 1) 1
          no_trees))))))) no_pieces);
    })) ∷ [])) ≡ true
undefined_but_measured_is_typed = refl

-- extern int x[]; static int f(void); int main(void) { return 0; }
undefined_unused_is_typed : typed_well (unit_typed 1048576 (codes "main.c" ∷ codes "x" ∷ codes "f" ∷ codes "main" ∷ []) (at 0) ((declaration (declared (at 1)
    (extern_specifier ∷ (plain_specifier (specifier.Word word.Int)) ∷ []) ((object (at 1) 1 (None ∷ []) None) ∷ []))) ∷ (declaration (declared (at 1)
    (static_specifier ∷ (plain_specifier (specifier.Word word.Int)) ∷ []) ((function (at 1) 2 []) ∷ []))) ∷ (definition (record {
      start = (at 1);
      specifiers
          = ((plain_specifier (specifier.Word word.Int)) ∷ []);
      at = (at 1);
      name = 3;
      parameters = [];
      brace = (at 1);
      body = (and_piece (statement_item
          (return_stmt (at 1) (Some (constant (at 1) ty.Int 0)))) no_pieces);
    })) ∷ [])) ≡ true
undefined_unused_is_typed = refl

-- extern int x; int g(void); int main(void) { return g() + x; } int g(void) { return 1; } int x;
defined_behind_is_typed : typed_well (unit_typed 1048576 (codes "main.c" ∷ codes "x" ∷ codes "g" ∷ codes "main" ∷ []) (at 0) ((declaration (declared (at 1)
    (extern_specifier ∷ (plain_specifier (specifier.Word word.Int)) ∷ []) ((object (at 1) 1 [] None) ∷ []))) ∷ (declaration (declared (at 1)
    ((plain_specifier (specifier.Word word.Int)) ∷ []) ((function (at 1) 2 []) ∷ []))) ∷ (definition (record {
      start = (at 1);
      specifiers =
          ((plain_specifier (specifier.Word word.Int)) ∷ []);
      at = (at 1);
      name = 3;
      parameters = [];
      brace = (at 1);
      body = (and_piece (statement_item
          (return_stmt (at 1) (Some (binary (at 1) operator.Add (call (at 1) 2 no_trees) (identifier (at 1) 1))))) no_pieces);
    })) ∷ (definition (record {
      start =
          (at 1);
      specifiers = ((plain_specifier (specifier.Word word.Int)) ∷ []);
      at = (at 1);
      name = 2;
      parameters = [];
      brace = (at 1);
      body = (and_piece
          (statement_item (return_stmt (at 1) (Some (constant (at 1) ty.Int 1)))) no_pieces);
    })) ∷ (declaration (declared (at 1) ((plain_specifier (specifier.Word
    word.Int)) ∷ []) ((object (at 1) 1 [] None) ∷ []))) ∷ [])) ≡ true
defined_behind_is_typed = refl

-- int rv_getbyte(void); void rv_putbyte(int c); void rv_exit(int status);
-- int main(void) { int c; while ((c = rv_getbyte()) != -1) rv_putbyte(c); rv_exit(3); return 0; }
built_ins_is_typed : typed_well (unit_typed 1048576 (codes "main.c" ∷ codes "rv_getbyte" ∷ codes "rv_putbyte" ∷ codes "c" ∷ codes "rv_exit" ∷ codes "status" ∷ codes
    "main" ∷ []) (at 0) ((declaration (declared (at 1) ((plain_specifier (specifier.Word word.Int)) ∷ []) ((function (at 1) 1 []) ∷ []))) ∷ (declaration
    (declared (at 1) ((plain_specifier (specifier.Word word.Void)) ∷ []) ((function (at 1) 2 (record {
      at = (at 1);
      start = (at 1);
      specifiers =
          ((specifier.Word word.Int) ∷ []);
      name = (Some 3);
      sizes = [];
    } ∷ [])) ∷ []))) ∷ (declaration (declared (at 1) ((plain_specifier (specifier.Word
    word.Void)) ∷ []) ((function (at 1) 4 (record {
      at = (at 1);
      start = (at 1);
      specifiers = ((specifier.Word word.Int) ∷ []);
      name = (Some 5);
      sizes = [];
    } ∷ [])) ∷ []))) ∷ (definition (record {
      start = (at 2);
      specifiers = ((plain_specifier (specifier.Word word.Int)) ∷ []);
      at = (at 2);
      name = 6;
      parameters = [];
      brace = (at 2);
      body = (and_piece (declaration_item (declared (at 2) ((plain_specifier (specifier.Word word.Int)) ∷ []) ((object (at 2)
          3 [] None) ∷ []))) (and_piece (statement_item (while_stmt (at 2) (binary (at 2) operator.NotEqual (paren (assign (at 2) assigning.Plain (identifier (at
          2) 3) (call (at 2) 1 no_trees))) (prefix (at 2) sign.Minus (constant (at 2) ty.Int 1))) (expression_stmt (at 2) (call (at 2) 2 (one_more (identifier (at
          2) 3) no_trees))))) (and_piece (statement_item (expression_stmt (at 2) (call (at 2) 4 (one_more (constant (at 2) ty.Int 3) no_trees)))) (and_piece
          (statement_item (return_stmt (at 2) (Some (constant (at 2) ty.Int 0)))) no_pieces))));
    })) ∷ [])) ≡ true
built_ins_is_typed = refl

-- int main(void) { char a[1048416]; return 0; }
greatest_weight_is_typed : typed_well (unit_typed 1048576 (codes "main.c" ∷ codes "main" ∷ codes "a" ∷ []) (at 0) ((definition (record {
  start = (at 1);
  specifiers
      = ((plain_specifier (specifier.Word word.Int)) ∷ []);
  at = (at 1);
  name = 1;
  parameters = [];
  brace = (at 1);
  body = (and_piece (declaration_item
      (declared (at 1) ((plain_specifier (specifier.Word word.Char)) ∷ []) ((object (at 1) 2 ((Some (constant (at 1) ty.Int 1048416)) ∷ []) None) ∷ [])))
      (and_piece (statement_item (return_stmt (at 1) (Some (constant (at 1) ty.Int 0)))) no_pieces));
})) ∷ [])) ≡ true
greatest_weight_is_typed = refl

-- int rv_getbyte(void); void rv_putbyte(int c); void rv_exit(int status);
-- int p(int c) { rv_putbyte(c); return c; }
-- int main(void) { return p(65) - p(66) + 2; }
printer_is_typed : typed_well (unit_typed 1048576 (codes "main.c" ∷ codes "rv_getbyte" ∷ codes "rv_putbyte" ∷ codes "c" ∷ codes "rv_exit" ∷ codes "status" ∷ codes
    "p" ∷ codes "main" ∷ []) (at 0) ((declaration (declared (at 1) ((plain_specifier (specifier.Word word.Int)) ∷ []) ((function (at 1) 1 []) ∷ []))) ∷
    (declaration (declared (at 1) ((plain_specifier (specifier.Word word.Void)) ∷ []) ((function (at 1) 2 (record {
      at = (at 1);
      start = (at 1);
      specifiers
          = ((specifier.Word word.Int) ∷ []);
      name = (Some 3);
      sizes = [];
    } ∷ [])) ∷ []))) ∷ (declaration (declared (at 1) ((plain_specifier (specifier.Word
    word.Void)) ∷ []) ((function (at 1) 4 (record {
      at = (at 1);
      start = (at 1);
      specifiers = ((specifier.Word word.Int) ∷ []);
      name = (Some 5);
      sizes = [];
    } ∷ [])) ∷ []))) ∷ (definition (record {
      start = (at 2);
      specifiers = ((plain_specifier (specifier.Word word.Int)) ∷ []);
      at = (at 2);
      name = 6;
      parameters = (record { at = (at 2); start = (at 2); specifiers = ((specifier.Word word.Int) ∷ []); name = (Some 3); sizes = [] } ∷ []);
      brace = (at 2);
      body = (and_piece (statement_item (expression_stmt (at 2) (call (at 2) 2 (one_more (identifier (at 2) 3) no_trees)))) (and_piece (statement_item
          (return_stmt (at 2) (Some (identifier (at 2) 3)))) no_pieces));
    })) ∷ (definition (record {
      start = (at 3);
      specifiers = ((plain_specifier
          (specifier.Word word.Int)) ∷ []);
      at = (at 3);
      name = 7;
      parameters = [];
      brace = (at 3);
      body = (and_piece (statement_item (return_stmt (at 3) (Some
          (binary (at 3) operator.Add (binary (at 3) operator.Sub (call (at 3) 6 (one_more (constant (at 3) ty.Int 65) no_trees)) (call (at 3) 6 (one_more
          (constant (at 3) ty.Int 66) no_trees))) (constant (at 3) ty.Int 2))))) no_pieces);
    })) ∷ [])) ≡ true
printer_is_typed = refl

-- int rv_getbyte(void); void rv_putbyte(int c); void rv_exit(int status);
-- void f(int a, int b, int c, int d, int e, int g, int h, int i, int j, int k) { rv_putbyte(j); rv_putbyte(k); }
-- int main(void) { f(65, 66, 67, 68, 69, 70, 71, 72, 73, 74); return 0; }
ten_parameters_is_typed : typed_well (unit_typed 1048576 (codes "main.c" ∷ codes "rv_getbyte" ∷ codes "rv_putbyte" ∷ codes "c" ∷ codes "rv_exit" ∷ codes "status" ∷
    codes "f" ∷ codes "a" ∷ codes "b" ∷ codes "d" ∷ codes "e" ∷ codes "g" ∷ codes "h" ∷ codes "i" ∷ codes "j" ∷ codes "k" ∷ codes "main" ∷ []) (at 0)
    ((declaration (declared (at 1) ((plain_specifier (specifier.Word word.Int)) ∷ []) ((function (at 1) 1 []) ∷ []))) ∷ (declaration (declared (at 1)
    ((plain_specifier (specifier.Word word.Void)) ∷ []) ((function (at 1) 2 (record {
      at = (at 1);
      start = (at 1);
      specifiers = ((specifier.Word word.Int) ∷
          []);
      name = (Some 3);
      sizes = [];
    } ∷ [])) ∷ []))) ∷ (declaration (declared (at 1) ((plain_specifier (specifier.Word word.Void)) ∷ []) ((function (at 1)
    4 (record { at = (at 1); start = (at 1); specifiers = ((specifier.Word word.Int) ∷ []); name = (Some 5); sizes = [] } ∷ [])) ∷ []))) ∷ (definition
    (record {
      start = (at 2);
      specifiers = ((plain_specifier (specifier.Word word.Void)) ∷ []);
      at = (at 2);
      name = 6;
      parameters = (record {
        at = (at 2);
        start = (at 2);
        specifiers = ((specifier.Word word.Int) ∷ []);
        name = (Some 7);
        sizes = [];
      } ∷ record {
        at = (at 2);
        start = (at 2);
        specifiers =
            ((specifier.Word word.Int) ∷ []);
        name = (Some 8);
        sizes = [];
      } ∷ record {
        at = (at 2);
        start = (at 2);
        specifiers = ((specifier.Word word.Int) ∷ []);
        name = (Some 3);
        sizes = [];
      } ∷ record { at = (at 2); start = (at 2); specifiers = ((specifier.Word word.Int) ∷ []); name = (Some 9); sizes = [] } ∷
          record { at = (at 2); start = (at 2); specifiers = ((specifier.Word word.Int) ∷ []); name = (Some 10); sizes = [] } ∷ record {
            at = (at 2);
            start = (at
                2);
            specifiers = ((specifier.Word word.Int) ∷ []);
            name = (Some 11);
            sizes = [];
          } ∷ record {
            at = (at 2);
            start = (at 2);
            specifiers = ((specifier.Word
                word.Int) ∷ []);
            name = (Some 12);
            sizes = [];
          } ∷ record {
            at = (at 2);
            start = (at 2);
            specifiers = ((specifier.Word word.Int) ∷ []);
            name = (Some 13);
            sizes = [];
          } ∷ record { at = (at 2); start = (at 2); specifiers = ((specifier.Word word.Int) ∷ []); name = (Some 14); sizes = [] } ∷ record {
            at = (at
                2);
            start = (at 2);
            specifiers = ((specifier.Word word.Int) ∷ []);
            name = (Some 15);
            sizes = [];
          } ∷ []);
      brace = (at 2);
      body = (and_piece
          (statement_item (expression_stmt (at 2) (call (at 2) 2 (one_more (identifier (at 2) 14) no_trees)))) (and_piece (statement_item (expression_stmt (at 2)
          (call (at 2) 2 (one_more (identifier (at 2) 15) no_trees)))) no_pieces));
    })) ∷ (definition (record {
      start = (at 3);
      specifiers = ((plain_specifier
          (specifier.Word word.Int)) ∷ []);
      at = (at 3);
      name = 16;
      parameters = [];
      brace = (at 3);
      body = (and_piece (statement_item (expression_stmt (at 3)
          (call (at 3) 6 (one_more (constant (at 3) ty.Int 65) (one_more (constant (at 3) ty.Int 66) (one_more (constant (at 3) ty.Int 67) (one_more (constant (at
          3) ty.Int 68) (one_more (constant (at 3) ty.Int 69) (one_more (constant (at 3) ty.Int 70) (one_more (constant (at 3) ty.Int 71) (one_more (constant (at
          3) ty.Int 72) (one_more (constant (at 3) ty.Int 73) (one_more (constant (at 3) ty.Int 74) no_trees))))))))))))) (and_piece (statement_item (return_stmt
          (at 3) (Some (constant (at 3) ty.Int 0)))) no_pieces));
    })) ∷ [])) ≡ true
ten_parameters_is_typed = refl

-- int main(void) { char c; signed char d = 200; _Bool b = 256; return (int)sizeof(c + c) + (-1 < 1u) + b + (d < 0) + -7 / 2 + (-8 >> 1); }
mixed_rows_is_typed : typed_well (unit_typed 1048576 (codes "main.c" ∷ codes "main" ∷ codes "c" ∷ codes "d" ∷ codes "b" ∷ []) (at 0) ((definition (record {
  start =
      (at 1);
  specifiers = ((plain_specifier (specifier.Word word.Int)) ∷ []);
  at = (at 1);
  name = 1;
  parameters = [];
  brace = (at 1);
  body = (and_piece
      (declaration_item (declared (at 1) ((plain_specifier (specifier.Word word.Char)) ∷ []) ((object (at 1) 2 [] None) ∷ []))) (and_piece (declaration_item
      (declared (at 1) ((plain_specifier (specifier.Word word.Signed)) ∷ (plain_specifier (specifier.Word word.Char)) ∷ []) ((object (at 1) 3 [] (Some
      (one_init (constant (at 1) ty.Int 200)))) ∷ []))) (and_piece (declaration_item (declared (at 1) ((plain_specifier (specifier.Word word.Bool)) ∷ [])
      ((object (at 1) 4 [] (Some (one_init (constant (at 1) ty.Int 256)))) ∷ []))) (and_piece (statement_item (return_stmt (at 1) (Some (binary (at 1)
      operator.Add (binary (at 1) operator.Add (binary (at 1) operator.Add (binary (at 1) operator.Add (binary (at 1) operator.Add (cast (at 1) (type_name (at
      1) ((specifier.Word word.Int) ∷ []) no_trees) (size_of (at 1) (paren (binary (at 1) operator.Add (identifier (at 1) 2) (identifier (at 1) 2))))) (paren
      (binary (at 1) operator.Less (prefix (at 1) sign.Minus (constant (at 1) ty.Int 1)) (constant (at 1) ty.UInt 1)))) (identifier (at 1) 4)) (paren (binary
      (at 1) operator.Less (identifier (at 1) 3) (constant (at 1) ty.Int 0)))) (binary (at 1) operator.Div (prefix (at 1) sign.Minus (constant (at 1) ty.Int
      7)) (constant (at 1) ty.Int 2))) (paren (binary (at 1) operator.ShiftRight (prefix (at 1) sign.Minus (constant (at 1) ty.Int 8)) (constant (at 1) ty.Int
      1))))))) no_pieces))));
})) ∷ [])) ≡ true
mixed_rows_is_typed = refl

-- int main(void) { switch (1) { int x = 1; case 1: return x; } }
switch_jumps_past_is_typed : typed_well (unit_typed 1048576 (codes "main.c" ∷ codes "main" ∷ codes "x" ∷ []) (at 0) ((definition (record {
  start = (at 1);
  specifiers = ((plain_specifier (specifier.Word word.Int)) ∷ []);
  at = (at 1);
  name = 1;
  parameters = [];
  brace = (at 1);
  body = (and_piece
      (statement_item (switch_stmt (at 1) (constant (at 1) ty.Int 1) (block_stmt (at 1) (and_piece (declaration_item (declared (at 1) ((plain_specifier
      (specifier.Word word.Int)) ∷ []) ((object (at 1) 2 [] (Some (one_init (constant (at 1) ty.Int 1)))) ∷ []))) (and_piece (statement_item (case_stmt (at 1)
      (constant (at 1) ty.Int 1) (return_stmt (at 1) (Some (identifier (at 1) 2))))) no_pieces))))) no_pieces);
})) ∷ [])) ≡ true
switch_jumps_past_is_typed = refl

-- int m[2][2] = {{1, 2}, {3, 4}};
-- int main(void) { return m[1][0] * 10 + (int)(sizeof(m) / sizeof(m[0])); }
matrix_is_typed : typed_well (unit_typed 1048576 (codes "main.c" ∷ codes "m" ∷ codes "main" ∷ []) (at 0) ((declaration (declared (at 1) ((plain_specifier
    (specifier.Word word.Int)) ∷ []) ((object (at 1) 1 ((Some (constant (at 1) ty.Int 2)) ∷ (Some (constant (at 1) ty.Int 2)) ∷ []) (Some (braced_init (at
    1) (and_init (braced_init (at 1) (and_init (one_init (constant (at 1) ty.Int 1)) (and_init (one_init (constant (at 1) ty.Int 2)) no_inits))) (and_init
    (braced_init (at 1) (and_init (one_init (constant (at 1) ty.Int 3)) (and_init (one_init (constant (at 1) ty.Int 4)) no_inits))) no_inits))))) ∷ []))) ∷
    (definition (record {
      start = (at 2);
      specifiers = ((plain_specifier (specifier.Word word.Int)) ∷ []);
      at = (at 2);
      name = 2;
      parameters = [];
      brace =
          (at 2);
      body = (and_piece (statement_item (return_stmt (at 2) (Some (binary (at 2) operator.Add (binary (at 2) operator.Mul (subscript (at 2) (subscript
          (at 2) (identifier (at 2) 1) (constant (at 2) ty.Int 1)) (constant (at 2) ty.Int 0)) (constant (at 2) ty.Int 10)) (cast (at 2) (type_name (at 2)
          ((specifier.Word word.Int) ∷ []) no_trees) (paren (binary (at 2) operator.Div (size_of (at 2) (paren (identifier (at 2) 1))) (size_of (at 2) (paren
          (subscript (at 2) (identifier (at 2) 1) (constant (at 2) ty.Int 0))))))))))) no_pieces);
    })) ∷ [])) ≡ true
matrix_is_typed = refl

-- int main(void) { int a = 1, b = 2; a += b -= 3; a <<= 1; a = a ? b & 7 | a ^ 3 : ~b; a--; ++b; return !a && b || (a, b) >= 3 != a % 5; }
all_operators_is_typed : typed_well (unit_typed 1048576 (codes "main.c" ∷ codes "main" ∷ codes "a" ∷ codes "b" ∷ []) (at 0) ((definition (record {
  start = (at 1);
  specifiers = ((plain_specifier (specifier.Word word.Int)) ∷ []);
  at = (at 1);
  name = 1;
  parameters = [];
  brace = (at 1);
  body = (and_piece
      (declaration_item (declared (at 1) ((plain_specifier (specifier.Word word.Int)) ∷ []) ((object (at 1) 2 [] (Some (one_init (constant (at 1) ty.Int 1))))
      ∷ (object (at 1) 3 [] (Some (one_init (constant (at 1) ty.Int 2)))) ∷ []))) (and_piece (statement_item (expression_stmt (at 1) (assign (at 1)
      assigning.Add (identifier (at 1) 2) (assign (at 1) assigning.Sub (identifier (at 1) 3) (constant (at 1) ty.Int 3))))) (and_piece (statement_item
      (expression_stmt (at 1) (assign (at 1) assigning.ShiftLeft (identifier (at 1) 2) (constant (at 1) ty.Int 1)))) (and_piece (statement_item
      (expression_stmt (at 1) (assign (at 1) assigning.Plain (identifier (at 1) 2) (conditional (at 1) (identifier (at 1) 2) (binary (at 1) operator.BitOr
      (binary (at 1) operator.BitAnd (identifier (at 1) 3) (constant (at 1) ty.Int 7)) (binary (at 1) operator.BitXor (identifier (at 1) 2) (constant (at 1)
      ty.Int 3))) (prefix (at 1) sign.Complement (identifier (at 1) 3)))))) (and_piece (statement_item (expression_stmt (at 1) (after (at 1) step.Decrement
      (identifier (at 1) 2)))) (and_piece (statement_item (expression_stmt (at 1) (before (at 1) step.Increment (identifier (at 1) 3)))) (and_piece
      (statement_item (return_stmt (at 1) (Some (binary (at 1) operator.Or (binary (at 1) operator.And (prefix (at 1) sign.Not (identifier (at 1) 2))
      (identifier (at 1) 3)) (binary (at 1) operator.NotEqual (binary (at 1) operator.GreaterEqual (paren (binary (at 1) operator.Comma (identifier (at 1) 2)
      (identifier (at 1) 3))) (constant (at 1) ty.Int 3)) (binary (at 1) operator.Rem (identifier (at 1) 2) (constant (at 1) ty.Int 5))))))) no_pieces)))))));
})) ∷ [])) ≡ true
all_operators_is_typed = refl

-- int main(void) { int i; for (i = 0; i < 3; i++) if (i) continue; else ; while (i--) { if (i == 1) break; } do i++; while (i < 4); for (;;) break; return i; }
all_loops_is_typed : typed_well (unit_typed 1048576 (codes "main.c" ∷ codes "main" ∷ codes "i" ∷ []) (at 0) ((definition (record {
  start = (at 1);
  specifiers =
      ((plain_specifier (specifier.Word word.Int)) ∷ []);
  at = (at 1);
  name = 1;
  parameters = [];
  brace = (at 1);
  body = (and_piece (declaration_item
      (declared (at 1) ((plain_specifier (specifier.Word word.Int)) ∷ []) ((object (at 1) 2 [] None) ∷ []))) (and_piece (statement_item (for_stmt (at 1)
      (expression_start (Some (assign (at 1) assigning.Plain (identifier (at 1) 2) (constant (at 1) ty.Int 0)))) (Some (binary (at 1) operator.Less
      (identifier (at 1) 2) (constant (at 1) ty.Int 3))) (Some (after (at 1) step.Increment (identifier (at 1) 2))) (if_else_stmt (at 1) (identifier (at 1) 2)
      (continue_stmt (at 1)) (empty_stmt (at 1))))) (and_piece (statement_item (while_stmt (at 1) (after (at 1) step.Decrement (identifier (at 1) 2))
      (block_stmt (at 1) (and_piece (statement_item (if_stmt (at 1) (binary (at 1) operator.Equal (identifier (at 1) 2) (constant (at 1) ty.Int 1))
      (break_stmt (at 1)))) no_pieces)))) (and_piece (statement_item (do_while_stmt (at 1) (expression_stmt (at 1) (after (at 1) step.Increment (identifier
      (at 1) 2))) (binary (at 1) operator.Less (identifier (at 1) 2) (constant (at 1) ty.Int 4)))) (and_piece (statement_item (for_stmt (at 1)
      (expression_start None) None None (break_stmt (at 1)))) (and_piece (statement_item (return_stmt (at 1) (Some (identifier (at 1) 2)))) no_pieces))))));
})) ∷ [])) ≡ true
all_loops_is_typed = refl

-- int main(void) { "abc"[0] = 1; return 0; }
literal_written_is_typed : typed_well (unit_typed 1048576 (codes "main.c" ∷ codes "main" ∷ (codes "abc" ++ 0 ∷ []) ∷ []) (at 0) ((definition (record {
  start = (at 1);
  specifiers = ((plain_specifier (specifier.Word word.Int)) ∷ []);
  at = (at 1);
  name = 1;
  parameters = [];
  brace = (at 1);
  body = (and_piece
      (statement_item (expression_stmt (at 1) (assign (at 1) assigning.Plain (subscript (at 1) (string (at 1) 2) (constant (at 1) ty.Int 0)) (constant (at 1)
      ty.Int 1)))) (and_piece (statement_item (return_stmt (at 1) (Some (constant (at 1) ty.Int 0)))) no_pieces));
})) ∷ [])) ≡ true
literal_written_is_typed = refl

-- int main(void) { static int n = 3, a[] = {1, 2}; return n + a[1] + sizeof a; }
static_in_block_is_typed : typed_well (unit_typed 1048576 (codes "main.c" ∷ codes "main" ∷ codes "n" ∷ codes "a" ∷ []) (at 0) ((definition (record {
  start = (at 1);
  specifiers = ((plain_specifier (specifier.Word word.Int)) ∷ []);
  at = (at 1);
  name = 1;
  parameters = [];
  brace = (at 1);
  body = (and_piece
      (declaration_item (declared (at 1) (static_specifier ∷ (plain_specifier (specifier.Word word.Int)) ∷ []) ((object (at 1) 2 [] (Some (one_init (constant
      (at 1) ty.Int 3)))) ∷ (object (at 1) 3 (None ∷ []) (Some (braced_init (at 1) (and_init (one_init (constant (at 1) ty.Int 1)) (and_init (one_init
      (constant (at 1) ty.Int 2)) no_inits))))) ∷ []))) (and_piece (statement_item (return_stmt (at 1) (Some (binary (at 1) operator.Add (binary (at 1)
      operator.Add (identifier (at 1) 2) (subscript (at 1) (identifier (at 1) 3) (constant (at 1) ty.Int 1))) (size_of (at 1) (identifier (at 1) 3))))))
      no_pieces));
})) ∷ [])) ≡ true
static_in_block_is_typed = refl

-- int odd(int n);
-- int even(int n) { return n == 0 ? 1 : odd(n - 1); }
-- int odd(int n) { return n == 0 ? 0 : even(n - 1); }
-- int main(void) { return even(4); }
recursion_is_typed : typed_well (unit_typed 1048576 (codes "main.c" ∷ codes "odd" ∷ codes "n" ∷ codes "even" ∷ codes "main" ∷ []) (at 0) ((declaration (declared (at
    1) ((plain_specifier (specifier.Word word.Int)) ∷ []) ((function (at 1) 1 (record {
      at = (at 1);
      start = (at 1);
      specifiers = ((specifier.Word word.Int)
          ∷ []);
      name = (Some 2);
      sizes = [];
    } ∷ [])) ∷ []))) ∷ (definition (record {
      start = (at 2);
      specifiers = ((plain_specifier (specifier.Word word.Int)) ∷
          []);
      at = (at 2);
      name = 3;
      parameters = (record {
        at = (at 2);
        start = (at 2);
        specifiers = ((specifier.Word word.Int) ∷ []);
        name = (Some 2);
        sizes =
            [];
      } ∷ []);
      brace = (at 2);
      body = (and_piece (statement_item (return_stmt (at 2) (Some (conditional (at 2) (binary (at 2) operator.Equal (identifier
          (at 2) 2) (constant (at 2) ty.Int 0)) (constant (at 2) ty.Int 1) (call (at 2) 1 (one_more (binary (at 2) operator.Sub (identifier (at 2) 2) (constant
          (at 2) ty.Int 1)) no_trees)))))) no_pieces);
    })) ∷ (definition (record {
      start = (at 3);
      specifiers = ((plain_specifier (specifier.Word word.Int)) ∷ []);
      at = (at 3);
      name = 1;
      parameters = (record { at = (at 3); start = (at 3); specifiers = ((specifier.Word word.Int) ∷ []); name = (Some 2); sizes = [] }
          ∷ []);
      brace = (at 3);
      body = (and_piece (statement_item (return_stmt (at 3) (Some (conditional (at 3) (binary (at 3) operator.Equal (identifier (at 3)
          2) (constant (at 3) ty.Int 0)) (constant (at 3) ty.Int 0) (call (at 3) 3 (one_more (binary (at 3) operator.Sub (identifier (at 3) 2) (constant (at 3)
          ty.Int 1)) no_trees)))))) no_pieces);
    })) ∷ (definition (record {
      start = (at 4);
      specifiers = ((plain_specifier (specifier.Word word.Int)) ∷ []);
      at =
          (at 4);
      name = 4;
      parameters = [];
      brace = (at 4);
      body = (and_piece (statement_item (return_stmt (at 4) (Some (call (at 4) 3 (one_more (constant (at 4)
          ty.Int 4) no_trees))))) no_pieces);
    })) ∷ [])) ≡ true
recursion_is_typed = refl

-- enum e { A, B = 3, };
-- enum e f(enum e x) { return x == B ? A : B; }
-- int main(void) { enum e y = f(A); return y; }
enumerated_type_is_typed : typed_well (unit_typed 1048576 (codes "main.c" ∷ codes "e" ∷ codes "A" ∷ codes "B" ∷ codes "f" ∷ codes "x" ∷ codes "main" ∷ codes "y" ∷
    []) (at 0) ((declaration (declared (at 1) ((enumerators_specifier (Some 1) (record { at = (at 1); name = 2; value = None } ∷ record {
      at = (at 1);
      name
          = 3;
      value = (Some (constant (at 1) ty.Int 3));
    } ∷ [])) ∷ []) [])) ∷ (definition (record {
      start = (at 2);
      specifiers = ((plain_specifier
          (specifier.Enum 1)) ∷ []);
      at = (at 2);
      name = 4;
      parameters = (record {
        at = (at 2);
        start = (at 2);
        specifiers = ((specifier.Enum 1) ∷ []);
        name =
            (Some 5);
        sizes = [];
      } ∷ []);
      brace = (at 2);
      body = (and_piece (statement_item (return_stmt (at 2) (Some (conditional (at 2) (binary (at 2)
          operator.Equal (identifier (at 2) 5) (identifier (at 2) 3)) (identifier (at 2) 2) (identifier (at 2) 3))))) no_pieces);
    })) ∷ (definition (record {
      start
          = (at 3);
      specifiers = ((plain_specifier (specifier.Word word.Int)) ∷ []);
      at = (at 3);
      name = 6;
      parameters = [];
      brace = (at 3);
      body = (and_piece
          (declaration_item (declared (at 3) ((plain_specifier (specifier.Enum 1)) ∷ []) ((object (at 3) 7 [] (Some (one_init (call (at 3) 4 (one_more (identifier
          (at 3) 2) no_trees))))) ∷ []))) (and_piece (statement_item (return_stmt (at 3) (Some (identifier (at 3) 7)))) no_pieces));
    })) ∷ [])) ≡ true
enumerated_type_is_typed = refl

-- int main(void) { switch (1) { case 1: switch (2) { case 1: break; default: ; } break; case 2: ; } return 0; }
inner_switch_is_typed : typed_well (unit_typed 1048576 (codes "main.c" ∷ codes "main" ∷ []) (at 0) ((definition (record {
  start = (at 1);
  specifiers =
      ((plain_specifier (specifier.Word word.Int)) ∷ []);
  at = (at 1);
  name = 1;
  parameters = [];
  brace = (at 1);
  body = (and_piece (statement_item
      (switch_stmt (at 1) (constant (at 1) ty.Int 1) (block_stmt (at 1) (and_piece (statement_item (case_stmt (at 1) (constant (at 1) ty.Int 1) (switch_stmt
      (at 1) (constant (at 1) ty.Int 2) (block_stmt (at 1) (and_piece (statement_item (case_stmt (at 1) (constant (at 1) ty.Int 1) (break_stmt (at 1))))
      (and_piece (statement_item (default_stmt (at 1) (empty_stmt (at 1)))) no_pieces)))))) (and_piece (statement_item (break_stmt (at 1))) (and_piece
      (statement_item (case_stmt (at 1) (constant (at 1) ty.Int 2) (empty_stmt (at 1)))) no_pieces)))))) (and_piece (statement_item (return_stmt (at 1) (Some
      (constant (at 1) ty.Int 0)))) no_pieces));
})) ∷ [])) ≡ true
inner_switch_is_typed = refl

-- enum x { A }; int x; int main(void) { enum x y = A; return x + y; }
tag_and_name_apart_is_typed : typed_well (unit_typed 1048576 (codes "main.c" ∷ codes "x" ∷ codes "A" ∷ codes "main" ∷ codes "y" ∷ []) (at 0) ((declaration (declared
    (at 1) ((enumerators_specifier (Some 1) (record { at = (at 1); name = 2; value = None } ∷ [])) ∷ []) [])) ∷ (declaration (declared (at 1)
    ((plain_specifier (specifier.Word word.Int)) ∷ []) ((object (at 1) 1 [] None) ∷ []))) ∷ (definition (record {
      start = (at 1);
      specifiers =
          ((plain_specifier (specifier.Word word.Int)) ∷ []);
      at = (at 1);
      name = 3;
      parameters = [];
      brace = (at 1);
      body = (and_piece (declaration_item
          (declared (at 1) ((plain_specifier (specifier.Enum 1)) ∷ []) ((object (at 1) 4 [] (Some (one_init (identifier (at 1) 2)))) ∷ []))) (and_piece
          (statement_item (return_stmt (at 1) (Some (binary (at 1) operator.Add (identifier (at 1) 1) (identifier (at 1) 4))))) no_pieces));
    })) ∷ [])) ≡ true
tag_and_name_apart_is_typed = refl

-- int f(int a, char s[], int b) { int c; { int d; for (int e = 0; e < a; e++) { int g; } int h; } switch (a) { int i; case 1: { int j; } } int k; return s[b]; }
-- int main(void) { return f(1, "abc", 2) + sizeof "x" + "yz"[1]; }
objects_of_blocks_is_typed : typed_well (unit_typed 1048576 (codes "main.c" ∷ codes "f" ∷ codes "a" ∷ codes "s" ∷ codes "b" ∷ codes "c" ∷ codes "d" ∷ codes "e" ∷
    codes "g" ∷ codes "h" ∷ codes "i" ∷ codes "j" ∷ codes "k" ∷ codes "main" ∷ (codes "abc" ++ 0 ∷ []) ∷ (codes "x" ++ 0 ∷ []) ∷ (codes "yz" ++ 0 ∷ []) ∷ []) (at 0) ((definition (record {
      start = (at 1);
      specifiers = ((plain_specifier (specifier.Word word.Int)) ∷ []);
      at = (at 1);
      name = 1;
      parameters = (record {
        at = (at 1);
        start = (at
            1);
        specifiers = ((specifier.Word word.Int) ∷ []);
        name = (Some 2);
        sizes = [];
      } ∷ record {
        at = (at 1);
        start = (at 1);
        specifiers = ((specifier.Word
            word.Char) ∷ []);
        name = (Some 3);
        sizes = (None ∷ []);
      } ∷ record {
        at = (at 1);
        start = (at 1);
        specifiers = ((specifier.Word word.Int) ∷ []);
        name =
            (Some 4);
        sizes = [];
      } ∷ []);
      brace = (at 1);
      body = (and_piece (declaration_item (declared (at 1) ((plain_specifier (specifier.Word word.Int)) ∷ [])
          ((object (at 1) 5 [] None) ∷ []))) (and_piece (statement_item (block_stmt (at 1) (and_piece (declaration_item (declared (at 1) ((plain_specifier
          (specifier.Word word.Int)) ∷ []) ((object (at 1) 6 [] None) ∷ []))) (and_piece (statement_item (for_stmt (at 1) (declaration_start (declared (at 1)
          ((plain_specifier (specifier.Word word.Int)) ∷ []) ((object (at 1) 7 [] (Some (one_init (constant (at 1) ty.Int 0)))) ∷ []))) (Some (binary (at 1)
          operator.Less (identifier (at 1) 7) (identifier (at 1) 2))) (Some (after (at 1) step.Increment (identifier (at 1) 7))) (block_stmt (at 1) (and_piece
          (declaration_item (declared (at 1) ((plain_specifier (specifier.Word word.Int)) ∷ []) ((object (at 1) 8 [] None) ∷ []))) no_pieces)))) (and_piece
          (declaration_item (declared (at 1) ((plain_specifier (specifier.Word word.Int)) ∷ []) ((object (at 1) 9 [] None) ∷ []))) no_pieces))))) (and_piece
          (statement_item (switch_stmt (at 1) (identifier (at 1) 2) (block_stmt (at 1) (and_piece (declaration_item (declared (at 1) ((plain_specifier
          (specifier.Word word.Int)) ∷ []) ((object (at 1) 10 [] None) ∷ []))) (and_piece (statement_item (case_stmt (at 1) (constant (at 1) ty.Int 1) (block_stmt
          (at 1) (and_piece (declaration_item (declared (at 1) ((plain_specifier (specifier.Word word.Int)) ∷ []) ((object (at 1) 11 [] None) ∷ [])))
          no_pieces)))) no_pieces))))) (and_piece (declaration_item (declared (at 1) ((plain_specifier (specifier.Word word.Int)) ∷ []) ((object (at 1) 12 []
          None) ∷ []))) (and_piece (statement_item (return_stmt (at 1) (Some (subscript (at 1) (identifier (at 1) 3) (identifier (at 1) 4))))) no_pieces)))));
    }))
    ∷ (definition (record {
      start = (at 2);
      specifiers = ((plain_specifier (specifier.Word word.Int)) ∷ []);
      at = (at 2);
      name = 13;
      parameters = [];
      brace
          = (at 2);
      body = (and_piece (statement_item (return_stmt (at 2) (Some (binary (at 2) operator.Add (binary (at 2) operator.Add (call (at 2) 1 (one_more
          (constant (at 2) ty.Int 1) (one_more (string (at 2) 14) (one_more (constant (at 2) ty.Int 2) no_trees)))) (size_of (at 2) (string (at 2) 15)))
          (subscript (at 2) (string (at 2) 16) (constant (at 2) ty.Int 1)))))) no_pieces);
    })) ∷ [])) ≡ true
objects_of_blocks_is_typed = refl

-- int t(char s[2][3], int n, int p[]) { static int q[] = {1, 2}, r = sizeof "abc"; char u[] = "xyz", w[2][2] = {"ab", {'b'}}; while (n--) for (int i = 0; i < 3; i++) if (s[1][i]) p[i] += w[0][1] + u[2]; else do q[1]++; while (0); return q[0] + r; }
-- int main(void) { char c[2][3] = {"ab", "cd"}; int p[3] = {0}; return t(c, 3, p); }
rows_and_texts_is_typed : typed_well (unit_typed 1048576 (codes "main.c" ∷ codes "t" ∷ codes "s" ∷ codes "n" ∷ codes "p" ∷ codes "q" ∷ codes "r" ∷ (codes "abc" ++ 0 ∷ []) ∷
    codes "u" ∷ (codes "xyz" ++ 0 ∷ []) ∷ codes "w" ∷ (codes "ab" ++ 0 ∷ []) ∷ codes "i" ∷ codes "main" ∷ codes "c" ∷ (codes "cd" ++ 0 ∷ []) ∷ []) (at 0) ((definition (record {
      start = (at 1);
      specifiers = ((plain_specifier (specifier.Word word.Int)) ∷ []);
      at = (at 1);
      name = 1;
      parameters = (record {
        at = (at 1);
        start = (at 1);
        specifiers =
            ((specifier.Word word.Char) ∷ []);
        name = (Some 2);
        sizes = ((Some (constant (at 1) ty.Int 2)) ∷ (Some (constant (at 1) ty.Int 3)) ∷ []);
      } ∷ record {
        at
            = (at 1);
        start = (at 1);
        specifiers = ((specifier.Word word.Int) ∷ []);
        name = (Some 3);
        sizes = [];
      } ∷ record {
        at = (at 1);
        start = (at 1);
        specifiers = ((specifier.Word word.Int) ∷ []);
        name = (Some 4);
        sizes = (None ∷ []);
      } ∷ []);
      brace = (at 1);
      body = (and_piece (declaration_item
          (declared (at 1) (static_specifier ∷ (plain_specifier (specifier.Word word.Int)) ∷ []) ((object (at 1) 5 (None ∷ []) (Some (braced_init (at 1) (and_init
          (one_init (constant (at 1) ty.Int 1)) (and_init (one_init (constant (at 1) ty.Int 2)) no_inits))))) ∷ (object (at 1) 6 [] (Some (one_init (size_of (at
          1) (string (at 1) 7))))) ∷ []))) (and_piece (declaration_item (declared (at 1) ((plain_specifier (specifier.Word word.Char)) ∷ []) ((object (at 1) 8
          (None ∷ []) (Some (one_init (string (at 1) 9)))) ∷ (object (at 1) 10 ((Some (constant (at 1) ty.Int 2)) ∷ (Some (constant (at 1) ty.Int 2)) ∷ []) (Some
          (braced_init (at 1) (and_init (one_init (string (at 1) 11)) (and_init (braced_init (at 1) (and_init (one_init (constant (at 1) ty.Int 98)) no_inits))
          no_inits))))) ∷ []))) (and_piece (statement_item (while_stmt (at 1) (after (at 1) step.Decrement (identifier (at 1) 3)) (for_stmt (at 1)
          (declaration_start (declared (at 1) ((plain_specifier (specifier.Word word.Int)) ∷ []) ((object (at 1) 12 [] (Some (one_init (constant (at 1) ty.Int
          0)))) ∷ []))) (Some (binary (at 1) operator.Less (identifier (at 1) 12) (constant (at 1) ty.Int 3))) (Some (after (at 1) step.Increment (identifier (at
          1) 12))) (if_else_stmt (at 1) (subscript (at 1) (subscript (at 1) (identifier (at 1) 2) (constant (at 1) ty.Int 1)) (identifier (at 1) 12))
          (expression_stmt (at 1) (assign (at 1) assigning.Add (subscript (at 1) (identifier (at 1) 4) (identifier (at 1) 12)) (binary (at 1) operator.Add
          (subscript (at 1) (subscript (at 1) (identifier (at 1) 10) (constant (at 1) ty.Int 0)) (constant (at 1) ty.Int 1)) (subscript (at 1) (identifier (at 1)
          8) (constant (at 1) ty.Int 2))))) (do_while_stmt (at 1) (expression_stmt (at 1) (after (at 1) step.Increment (subscript (at 1) (identifier (at 1) 5)
          (constant (at 1) ty.Int 1)))) (constant (at 1) ty.Int 0)))))) (and_piece (statement_item (return_stmt (at 1) (Some (binary (at 1) operator.Add
          (subscript (at 1) (identifier (at 1) 5) (constant (at 1) ty.Int 0)) (identifier (at 1) 6))))) no_pieces))));
    })) ∷ (definition (record {
      start = (at 2);
      specifiers = ((plain_specifier (specifier.Word word.Int)) ∷ []);
      at = (at 2);
      name = 13;
      parameters = [];
      brace = (at 2);
      body = (and_piece
          (declaration_item (declared (at 2) ((plain_specifier (specifier.Word word.Char)) ∷ []) ((object (at 2) 14 ((Some (constant (at 2) ty.Int 2)) ∷ (Some
          (constant (at 2) ty.Int 3)) ∷ []) (Some (braced_init (at 2) (and_init (one_init (string (at 2) 11)) (and_init (one_init (string (at 2) 15))
          no_inits))))) ∷ []))) (and_piece (declaration_item (declared (at 2) ((plain_specifier (specifier.Word word.Int)) ∷ []) ((object (at 2) 4 ((Some
          (constant (at 2) ty.Int 3)) ∷ []) (Some (braced_init (at 2) (and_init (one_init (constant (at 2) ty.Int 0)) no_inits)))) ∷ []))) (and_piece
          (statement_item (return_stmt (at 2) (Some (call (at 2) 1 (one_more (identifier (at 2) 14) (one_more (constant (at 2) ty.Int 3) (one_more (identifier (at
          2) 4) no_trees))))))) no_pieces)));
    })) ∷ [])) ≡ true
rows_and_texts_is_typed = refl
