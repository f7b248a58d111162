-- Declarations, constants and initialisers: sources of the profile and the verdict of the rules on them, each fault with its line.
use Rattle.std.proofs.Common.{◌≡◌, ℕ, refl, [], ◌∷◌, Some, None}
use Rattle.std.specs.Prelude.{◌++◌, codes}
use Rattle.srcset.specs.declared.refusal.Pos.{Pos}
use Rattle.ctypes.specs.declared.types.IntType.TheVariants as ty
use Rattle.tree.specs.declared.expression.Word.TheVariants as word
use Rattle.tree.specs.declared.expression.TypeSpecifier.TheVariants as specifier
use Rattle.tree.specs.declared.expression.BinaryOp.TheVariants as operator
use Rattle.tree.specs.declared.expression.PrefixOp.TheVariants as sign
use Rattle.tree.specs.declared.expression.StepOp.TheVariants as step
use Rattle.tree.specs.Tree.{identifier, constant, string, paren, call, subscript, after, prefix, size_of, size_of_type, cast, binary, conditional, no_trees, one_more, type_name, one_init, braced_init, no_inits, and_init, extern_specifier, static_specifier, plain_specifier, enumerators_specifier, object, function, declared, assertion, declaration_start, block_stmt, empty_stmt, switch_stmt, case_stmt, for_stmt, return_stmt, declaration_item, statement_item, no_pieces, and_piece, definition, declaration}
use Rattle.typing_spec.specs.Units.{unit_typed}
use Rattle.typing_spec.specs.Told.{told, fault}

abbrev at : ℕ → Pos
at n = record { file = 0; line = n }

-- long unsigned char x;
-- int main(void) { return 0; }
bad_words : told (unit_typed 1048576 (codes "main.c" ∷ codes "x" ∷ codes "main" ∷ []) (at 0) ((declaration (declared (at 1) ((plain_specifier (specifier.Word
    word.Long)) ∷ (plain_specifier (specifier.Word word.Unsigned)) ∷ (plain_specifier (specifier.Word word.Char)) ∷ []) ((object (at 1) 1 [] None) ∷ []))) ∷
    (definition (record {
      start = (at 2);
      specifiers = ((plain_specifier (specifier.Word word.Int)) ∷ []);
      at = (at 2);
      name = 2;
      parameters = [];
      brace =
          (at 2);
      body = (and_piece (statement_item (return_stmt (at 2) (Some (constant (at 2) ty.Int 0)))) no_pieces);
    })) ∷ [])) ≡ fault 511 1 ∷ []
bad_words = refl

-- long long x;
-- int main(void) { return 0; }
long_long : told (unit_typed 1048576 (codes "main.c" ∷ codes "x" ∷ codes "main" ∷ []) (at 0) ((declaration (declared (at 1) ((plain_specifier (specifier.Word
    word.Long)) ∷ (plain_specifier (specifier.Word word.Long)) ∷ []) ((object (at 1) 1 [] None) ∷ []))) ∷ (definition (record {
      start = (at 2);
      specifiers =
          ((plain_specifier (specifier.Word word.Int)) ∷ []);
      at = (at 2);
      name = 2;
      parameters = [];
      brace = (at 2);
      body = (and_piece (statement_item
          (return_stmt (at 2) (Some (constant (at 2) ty.Int 0)))) no_pieces);
    })) ∷ [])) ≡ fault 511 1 ∷ []
long_long = refl

-- void int f(void);
-- int main(void) { return 0; }
void_and_int : told (unit_typed 1048576 (codes "main.c" ∷ codes "f" ∷ codes "main" ∷ []) (at 0) ((declaration (declared (at 1) ((plain_specifier (specifier.Word
    word.Void)) ∷ (plain_specifier (specifier.Word word.Int)) ∷ []) ((function (at 1) 1 []) ∷ []))) ∷ (definition (record {
      start = (at 2);
      specifiers =
          ((plain_specifier (specifier.Word word.Int)) ∷ []);
      at = (at 2);
      name = 2;
      parameters = [];
      brace = (at 2);
      body = (and_piece (statement_item
          (return_stmt (at 2) (Some (constant (at 2) ty.Int 0)))) no_pieces);
    })) ∷ [])) ≡ fault 511 1 ∷ []
void_and_int = refl

-- signed unsigned x;
-- int main(void) { return 0; }
signed_unsigned : told (unit_typed 1048576 (codes "main.c" ∷ codes "x" ∷ codes "main" ∷ []) (at 0) ((declaration (declared (at 1) ((plain_specifier (specifier.Word
    word.Signed)) ∷ (plain_specifier (specifier.Word word.Unsigned)) ∷ []) ((object (at 1) 1 [] None) ∷ []))) ∷ (definition (record {
      start = (at 2);
      specifiers = ((plain_specifier (specifier.Word word.Int)) ∷ []);
      at = (at 2);
      name = 2;
      parameters = [];
      brace = (at 2);
      body = (and_piece
          (statement_item (return_stmt (at 2) (Some (constant (at 2) ty.Int 0)))) no_pieces);
    })) ∷ [])) ≡ fault 511 1 ∷ []
signed_unsigned = refl

-- char int x;
-- int main(void) { return 0; }
char_int : told (unit_typed 1048576 (codes "main.c" ∷ codes "x" ∷ codes "main" ∷ []) (at 0) ((declaration (declared (at 1) ((plain_specifier (specifier.Word
    word.Char)) ∷ (plain_specifier (specifier.Word word.Int)) ∷ []) ((object (at 1) 1 [] None) ∷ []))) ∷ (definition (record {
      start = (at 2);
      specifiers =
          ((plain_specifier (specifier.Word word.Int)) ∷ []);
      at = (at 2);
      name = 2;
      parameters = [];
      brace = (at 2);
      body = (and_piece (statement_item
          (return_stmt (at 2) (Some (constant (at 2) ty.Int 0)))) no_pieces);
    })) ∷ [])) ≡ fault 511 1 ∷ []
char_int = refl

-- _Bool int x;
-- int main(void) { return 0; }
bool_int : told (unit_typed 1048576 (codes "main.c" ∷ codes "x" ∷ codes "main" ∷ []) (at 0) ((declaration (declared (at 1) ((plain_specifier (specifier.Word
    word.Bool)) ∷ (plain_specifier (specifier.Word word.Int)) ∷ []) ((object (at 1) 1 [] None) ∷ []))) ∷ (definition (record {
      start = (at 2);
      specifiers =
          ((plain_specifier (specifier.Word word.Int)) ∷ []);
      at = (at 2);
      name = 2;
      parameters = [];
      brace = (at 2);
      body = (and_piece (statement_item
          (return_stmt (at 2) (Some (constant (at 2) ty.Int 0)))) no_pieces);
    })) ∷ [])) ≡ fault 511 1 ∷ []
bool_int = refl

-- int int x;
-- int main(void) { return 0; }
int_twice : told (unit_typed 1048576 (codes "main.c" ∷ codes "x" ∷ codes "main" ∷ []) (at 0) ((declaration (declared (at 1) ((plain_specifier (specifier.Word
    word.Int)) ∷ (plain_specifier (specifier.Word word.Int)) ∷ []) ((object (at 1) 1 [] None) ∷ []))) ∷ (definition (record {
      start = (at 2);
      specifiers =
          ((plain_specifier (specifier.Word word.Int)) ∷ []);
      at = (at 2);
      name = 2;
      parameters = [];
      brace = (at 2);
      body = (and_piece (statement_item
          (return_stmt (at 2) (Some (constant (at 2) ty.Int 0)))) no_pieces);
    })) ∷ [])) ≡ fault 511 1 ∷ []
int_twice = refl

-- short long x;
-- int main(void) { return 0; }
short_long : told (unit_typed 1048576 (codes "main.c" ∷ codes "x" ∷ codes "main" ∷ []) (at 0) ((declaration (declared (at 1) ((plain_specifier (specifier.Word
    word.Short)) ∷ (plain_specifier (specifier.Word word.Long)) ∷ []) ((object (at 1) 1 [] None) ∷ []))) ∷ (definition (record {
      start = (at 2);
      specifiers
          = ((plain_specifier (specifier.Word word.Int)) ∷ []);
      at = (at 2);
      name = 2;
      parameters = [];
      brace = (at 2);
      body = (and_piece (statement_item
          (return_stmt (at 2) (Some (constant (at 2) ty.Int 0)))) no_pieces);
    })) ∷ [])) ≡ fault 511 1 ∷ []
short_long = refl

-- enum e { A }; int enum e x;
-- int main(void) { return 0; }
enum_and_int : told (unit_typed 1048576 (codes "main.c" ∷ codes "e" ∷ codes "A" ∷ codes "x" ∷ codes "main" ∷ []) (at 0) ((declaration (declared (at 1)
    ((enumerators_specifier (Some 1) (record { at = (at 1); name = 2; value = None } ∷ [])) ∷ []) [])) ∷ (declaration (declared (at 1) ((plain_specifier
    (specifier.Word word.Int)) ∷ (plain_specifier (specifier.Enum 1)) ∷ []) ((object (at 1) 3 [] None) ∷ []))) ∷ (definition (record {
      start = (at 2);
      specifiers = ((plain_specifier (specifier.Word word.Int)) ∷ []);
      at = (at 2);
      name = 4;
      parameters = [];
      brace = (at 2);
      body = (and_piece
          (statement_item (return_stmt (at 2) (Some (constant (at 2) ty.Int 0)))) no_pieces);
    })) ∷ [])) ≡ fault 511 1 ∷ []
enum_and_int = refl

-- int main(void) { return (unsigned signed)1; }
words_in_a_cast : told (unit_typed 1048576 (codes "main.c" ∷ codes "main" ∷ []) (at 0) ((definition (record {
  start = (at 1);
  specifiers = ((plain_specifier
      (specifier.Word word.Int)) ∷ []);
  at = (at 1);
  name = 1;
  parameters = [];
  brace = (at 1);
  body = (and_piece (statement_item (return_stmt (at 1) (Some
      (cast (at 1) (type_name (at 1) ((specifier.Word word.Unsigned) ∷ (specifier.Word word.Signed) ∷ []) no_trees) (constant (at 1) ty.Int 1))))) no_pieces);
})) ∷ [])) ≡ fault 511 1 ∷ []
words_in_a_cast = refl

-- int f(long short a);
-- int main(void) { return 0; }
words_of_a_parameter : told (unit_typed 1048576 (codes "main.c" ∷ codes "f" ∷ codes "a" ∷ codes "main" ∷ []) (at 0) ((declaration (declared (at 1) ((plain_specifier
    (specifier.Word word.Int)) ∷ []) ((function (at 1) 1 (record {
      at = (at 1);
      start = (at 1);
      specifiers = ((specifier.Word word.Long) ∷ (specifier.Word
          word.Short) ∷ []);
      name = (Some 2);
      sizes = [];
    } ∷ [])) ∷ []))) ∷ (definition (record {
      start = (at 2);
      specifiers = ((plain_specifier (specifier.Word
          word.Int)) ∷ []);
      at = (at 2);
      name = 3;
      parameters = [];
      brace = (at 2);
      body = (and_piece (statement_item (return_stmt (at 2) (Some (constant (at 2)
          ty.Int 0)))) no_pieces);
    })) ∷ [])) ≡ fault 511 1 ∷ []
words_of_a_parameter = refl

-- const x;
-- int main(void) { return 0; }
no_type : told (unit_typed 1048576 (codes "main.c" ∷ codes "x" ∷ codes "main" ∷ []) (at 0) ((declaration (declared (at 1) ((plain_specifier specifier.Const) ∷ [])
    ((object (at 1) 1 [] None) ∷ []))) ∷ (definition (record {
      start = (at 2);
      specifiers = ((plain_specifier (specifier.Word word.Int)) ∷ []);
      at = (at 2);
      name = 2;
      parameters = [];
      brace = (at 2);
      body = (and_piece (statement_item (return_stmt (at 2) (Some (constant (at 2) ty.Int 0)))) no_pieces);
    })) ∷
    [])) ≡ fault 511 1 ∷ []
no_type = refl

-- enum e { A } enum e x;
-- int main(void) { return 0; }
two_enums : told (unit_typed 1048576 (codes "main.c" ∷ codes "e" ∷ codes "A" ∷ codes "x" ∷ codes "main" ∷ []) (at 0) ((declaration (declared (at 1)
    ((enumerators_specifier (Some 1) (record { at = (at 1); name = 2; value = None } ∷ [])) ∷ (plain_specifier (specifier.Enum 1)) ∷ []) ((object (at 1) 3
    [] None) ∷ []))) ∷ (definition (record {
      start = (at 2);
      specifiers = ((plain_specifier (specifier.Word word.Int)) ∷ []);
      at = (at 2);
      name = 4;
      parameters = [];
      brace = (at 2);
      body = (and_piece (statement_item (return_stmt (at 2) (Some (constant (at 2) ty.Int 0)))) no_pieces);
    })) ∷ [])) ≡ fault
    511 1 ∷ []
two_enums = refl

-- int unsigned short x; int signed long const y; char signed z;
-- int main(void) { return 0; }
words_in_any_order : told (unit_typed 1048576 (codes "main.c" ∷ codes "x" ∷ codes "y" ∷ codes "z" ∷ codes "main" ∷ []) (at 0) ((declaration (declared (at 1)
    ((plain_specifier (specifier.Word word.Int)) ∷ (plain_specifier (specifier.Word word.Unsigned)) ∷ (plain_specifier (specifier.Word word.Short)) ∷ [])
    ((object (at 1) 1 [] None) ∷ []))) ∷ (declaration (declared (at 1) ((plain_specifier (specifier.Word word.Int)) ∷ (plain_specifier (specifier.Word
    word.Signed)) ∷ (plain_specifier (specifier.Word word.Long)) ∷ (plain_specifier specifier.Const) ∷ []) ((object (at 1) 2 [] None) ∷ []))) ∷ (declaration
    (declared (at 1) ((plain_specifier (specifier.Word word.Char)) ∷ (plain_specifier (specifier.Word word.Signed)) ∷ []) ((object (at 1) 3 [] None) ∷ [])))
    ∷ (definition (record {
      start = (at 2);
      specifiers = ((plain_specifier (specifier.Word word.Int)) ∷ []);
      at = (at 2);
      name = 4;
      parameters = [];
      brace =
          (at 2);
      body = (and_piece (statement_item (return_stmt (at 2) (Some (constant (at 2) ty.Int 0)))) no_pieces);
    })) ∷ [])) ≡ []
words_in_any_order = refl

-- static extern int x;
-- int main(void) { return 0; }
two_classes : told (unit_typed 1048576 (codes "main.c" ∷ codes "x" ∷ codes "main" ∷ []) (at 0) ((declaration (declared (at 1) (static_specifier ∷ extern_specifier ∷
    (plain_specifier (specifier.Word word.Int)) ∷ []) ((object (at 1) 1 [] None) ∷ []))) ∷ (definition (record {
      start = (at 2);
      specifiers =
          ((plain_specifier (specifier.Word word.Int)) ∷ []);
      at = (at 2);
      name = 2;
      parameters = [];
      brace = (at 2);
      body = (and_piece (statement_item
          (return_stmt (at 2) (Some (constant (at 2) ty.Int 0)))) no_pieces);
    })) ∷ [])) ≡ fault 512 1 ∷ []
two_classes = refl

-- static static int x;
-- int main(void) { return 0; }
one_class_twice : told (unit_typed 1048576 (codes "main.c" ∷ codes "x" ∷ codes "main" ∷ []) (at 0) ((declaration (declared (at 1) (static_specifier ∷
    static_specifier ∷ (plain_specifier (specifier.Word word.Int)) ∷ []) ((object (at 1) 1 [] None) ∷ []))) ∷ (definition (record {
      start = (at 2);
      specifiers = ((plain_specifier (specifier.Word word.Int)) ∷ []);
      at = (at 2);
      name = 2;
      parameters = [];
      brace = (at 2);
      body = (and_piece
          (statement_item (return_stmt (at 2) (Some (constant (at 2) ty.Int 0)))) no_pieces);
    })) ∷ [])) ≡ fault 512 1 ∷ []
one_class_twice = refl

-- int;
-- int main(void) { return 0; }
nothing : told (unit_typed 1048576 (codes "main.c" ∷ codes "main" ∷ []) (at 0) ((declaration (declared (at 1) ((plain_specifier (specifier.Word word.Int)) ∷ [])
    [])) ∷ (definition (record {
      start = (at 2);
      specifiers = ((plain_specifier (specifier.Word word.Int)) ∷ []);
      at = (at 2);
      name = 1;
      parameters = [];
      brace = (at 2);
      body = (and_piece (statement_item (return_stmt (at 2) (Some (constant (at 2) ty.Int 0)))) no_pieces);
    })) ∷ [])) ≡ fault 513 1 ∷ []
nothing = refl

-- enum e { A };
-- enum e;
-- int main(void) { return 0; }
tag_again : told (unit_typed 1048576 (codes "main.c" ∷ codes "e" ∷ codes "A" ∷ codes "main" ∷ []) (at 0) ((declaration (declared (at 1) ((enumerators_specifier
    (Some 1) (record { at = (at 1); name = 2; value = None } ∷ [])) ∷ []) [])) ∷ (declaration (declared (at 2) ((plain_specifier (specifier.Enum 1)) ∷ [])
    [])) ∷ (definition (record {
      start = (at 3);
      specifiers = ((plain_specifier (specifier.Word word.Int)) ∷ []);
      at = (at 3);
      name = 3;
      parameters = [];
      brace = (at 3);
      body = (and_piece (statement_item (return_stmt (at 3) (Some (constant (at 3) ty.Int 0)))) no_pieces);
    })) ∷ [])) ≡ fault 513 2 ∷ []
tag_again = refl

-- enum e;
-- int main(void) { return 0; }
tag_alone : told (unit_typed 1048576 (codes "main.c" ∷ codes "e" ∷ codes "main" ∷ []) (at 0) ((declaration (declared (at 1) ((plain_specifier (specifier.Enum 1)) ∷
    []) [])) ∷ (definition (record {
      start = (at 2);
      specifiers = ((plain_specifier (specifier.Word word.Int)) ∷ []);
      at = (at 2);
      name = 2;
      parameters =
          [];
      brace = (at 2);
      body = (and_piece (statement_item (return_stmt (at 2) (Some (constant (at 2) ty.Int 0)))) no_pieces);
    })) ∷ [])) ≡ fault 525 1 ∷ []
tag_alone = refl

-- enum { A, B };
-- int main(void) { return 0; }
enumerators_alone : told (unit_typed 1048576 (codes "main.c" ∷ codes "A" ∷ codes "B" ∷ codes "main" ∷ []) (at 0) ((declaration (declared (at 1)
    ((enumerators_specifier None (record { at = (at 1); name = 1; value = None } ∷ record { at = (at 1); name = 2; value = None } ∷ [])) ∷ []) [])) ∷
    (definition (record {
      start = (at 2);
      specifiers = ((plain_specifier (specifier.Word word.Int)) ∷ []);
      at = (at 2);
      name = 3;
      parameters = [];
      brace =
          (at 2);
      body = (and_piece (statement_item (return_stmt (at 2) (Some (constant (at 2) ty.Int 0)))) no_pieces);
    })) ∷ [])) ≡ []
enumerators_alone = refl

-- int main(void) { int x;
-- int x; return 0; }
twice_in_a_block : told (unit_typed 1048576 (codes "main.c" ∷ codes "main" ∷ codes "x" ∷ []) (at 0) ((definition (record {
  start = (at 1);
  specifiers =
      ((plain_specifier (specifier.Word word.Int)) ∷ []);
  at = (at 1);
  name = 1;
  parameters = [];
  brace = (at 1);
  body = (and_piece (declaration_item
      (declared (at 1) ((plain_specifier (specifier.Word word.Int)) ∷ []) ((object (at 1) 2 [] None) ∷ []))) (and_piece (declaration_item (declared (at 2)
      ((plain_specifier (specifier.Word word.Int)) ∷ []) ((object (at 2) 2 [] None) ∷ []))) (and_piece (statement_item (return_stmt (at 2) (Some (constant (at
      2) ty.Int 0)))) no_pieces)));
})) ∷ [])) ≡ fault 514 2 ∷ []
twice_in_a_block = refl

-- int f(int a) {
-- int a; return 0; }
-- int main(void) { return 0; }
parameter_and_body : told (unit_typed 1048576 (codes "main.c" ∷ codes "f" ∷ codes "a" ∷ codes "main" ∷ []) (at 0) ((definition (record {
  start = (at 1);
  specifiers
      = ((plain_specifier (specifier.Word word.Int)) ∷ []);
  at = (at 1);
  name = 1;
  parameters = (record {
    at = (at 1);
    start = (at 1);
    specifiers =
        ((specifier.Word word.Int) ∷ []);
    name = (Some 2);
    sizes = [];
  } ∷ []);
  brace = (at 1);
  body = (and_piece (declaration_item (declared (at 2)
      ((plain_specifier (specifier.Word word.Int)) ∷ []) ((object (at 2) 2 [] None) ∷ []))) (and_piece (statement_item (return_stmt (at 2) (Some (constant (at
      2) ty.Int 0)))) no_pieces));
})) ∷ (definition (record {
  start = (at 3);
  specifiers = ((plain_specifier (specifier.Word word.Int)) ∷ []);
  at = (at 3);
  name = 3;
  parameters = [];
  brace = (at 3);
  body = (and_piece (statement_item (return_stmt (at 3) (Some (constant (at 3) ty.Int 0)))) no_pieces);
})) ∷
    [])) ≡ fault 514 2 ∷ []
parameter_and_body = refl

-- int f(int a) { { int a; } return a; }
-- int main(void) { return 0; }
parameter_and_inner_block : told (unit_typed 1048576 (codes "main.c" ∷ codes "f" ∷ codes "a" ∷ codes "main" ∷ []) (at 0) ((definition (record {
  start = (at 1);
  specifiers = ((plain_specifier (specifier.Word word.Int)) ∷ []);
  at = (at 1);
  name = 1;
  parameters = (record {
    at = (at 1);
    start = (at 1);
    specifiers =
        ((specifier.Word word.Int) ∷ []);
    name = (Some 2);
    sizes = [];
  } ∷ []);
  brace = (at 1);
  body = (and_piece (statement_item (block_stmt (at 1) (and_piece
      (declaration_item (declared (at 1) ((plain_specifier (specifier.Word word.Int)) ∷ []) ((object (at 1) 2 [] None) ∷ []))) no_pieces))) (and_piece
      (statement_item (return_stmt (at 1) (Some (identifier (at 1) 2)))) no_pieces));
})) ∷ (definition (record {
  start = (at 2);
  specifiers =
      ((plain_specifier (specifier.Word word.Int)) ∷ []);
  at = (at 2);
  name = 3;
  parameters = [];
  brace = (at 2);
  body = (and_piece (statement_item
      (return_stmt (at 2) (Some (constant (at 2) ty.Int 0)))) no_pieces);
})) ∷ [])) ≡ []
parameter_and_inner_block = refl

-- int f(int a, int a);
-- int main(void) { return 0; }
two_parameters : told (unit_typed 1048576 (codes "main.c" ∷ codes "f" ∷ codes "a" ∷ codes "main" ∷ []) (at 0) ((declaration (declared (at 1) ((plain_specifier
    (specifier.Word word.Int)) ∷ []) ((function (at 1) 1 (record {
      at = (at 1);
      start = (at 1);
      specifiers = ((specifier.Word word.Int) ∷ []);
      name = (Some
          2);
      sizes = [];
    } ∷ record { at = (at 1); start = (at 1); specifiers = ((specifier.Word word.Int) ∷ []); name = (Some 2); sizes = [] } ∷ [])) ∷ []))) ∷
    (definition (record {
      start = (at 2);
      specifiers = ((plain_specifier (specifier.Word word.Int)) ∷ []);
      at = (at 2);
      name = 3;
      parameters = [];
      brace =
          (at 2);
      body = (and_piece (statement_item (return_stmt (at 2) (Some (constant (at 2) ty.Int 0)))) no_pieces);
    })) ∷ [])) ≡ fault 514 1 ∷ []
two_parameters = refl

-- int x;
-- enum { x };
-- int main(void) { return 0; }
enumerator_and_object : told (unit_typed 1048576 (codes "main.c" ∷ codes "x" ∷ codes "main" ∷ []) (at 0) ((declaration (declared (at 1) ((plain_specifier
    (specifier.Word word.Int)) ∷ []) ((object (at 1) 1 [] None) ∷ []))) ∷ (declaration (declared (at 2) ((enumerators_specifier None (record {
      at = (at 2);
      name = 1;
      value = None;
    } ∷ [])) ∷ []) [])) ∷ (definition (record {
      start = (at 3);
      specifiers = ((plain_specifier (specifier.Word word.Int)) ∷ []);
      at =
          (at 3);
      name = 2;
      parameters = [];
      brace = (at 3);
      body = (and_piece (statement_item (return_stmt (at 3) (Some (constant (at 3) ty.Int 0)))) no_pieces);
    })) ∷ [])) ≡ fault 514 2 ∷ []
enumerator_and_object = refl

-- enum { x };
-- int x;
-- int main(void) { return 0; }
object_and_enumerator : told (unit_typed 1048576 (codes "main.c" ∷ codes "x" ∷ codes "main" ∷ []) (at 0) ((declaration (declared (at 1) ((enumerators_specifier None
    (record { at = (at 1); name = 1; value = None } ∷ [])) ∷ []) [])) ∷ (declaration (declared (at 2) ((plain_specifier (specifier.Word word.Int)) ∷ [])
    ((object (at 2) 1 [] None) ∷ []))) ∷ (definition (record {
      start = (at 3);
      specifiers = ((plain_specifier (specifier.Word word.Int)) ∷ []);
      at = (at 3);
      name = 2;
      parameters = [];
      brace = (at 3);
      body = (and_piece (statement_item (return_stmt (at 3) (Some (constant (at 3) ty.Int 0)))) no_pieces);
    })) ∷
    [])) ≡ fault 514 2 ∷ []
object_and_enumerator = refl

-- int main(void) { for (int i = 0; i < 3; i++) { int i; } return 0; }
loop_variable_again : told (unit_typed 1048576 (codes "main.c" ∷ codes "main" ∷ codes "i" ∷ []) (at 0) ((definition (record {
  start = (at 1);
  specifiers =
      ((plain_specifier (specifier.Word word.Int)) ∷ []);
  at = (at 1);
  name = 1;
  parameters = [];
  brace = (at 1);
  body = (and_piece (statement_item (for_stmt
      (at 1) (declaration_start (declared (at 1) ((plain_specifier (specifier.Word word.Int)) ∷ []) ((object (at 1) 2 [] (Some (one_init (constant (at 1)
      ty.Int 0)))) ∷ []))) (Some (binary (at 1) operator.Less (identifier (at 1) 2) (constant (at 1) ty.Int 3))) (Some (after (at 1) step.Increment
      (identifier (at 1) 2))) (block_stmt (at 1) (and_piece (declaration_item (declared (at 1) ((plain_specifier (specifier.Word word.Int)) ∷ []) ((object (at
      1) 2 [] None) ∷ []))) no_pieces)))) (and_piece (statement_item (return_stmt (at 1) (Some (constant (at 1) ty.Int 0)))) no_pieces));
})) ∷ [])) ≡ []
loop_variable_again = refl

-- int f(int a);
-- long f(int a);
-- int main(void) { return 0; }
other_result : told (unit_typed 1048576 (codes "main.c" ∷ codes "f" ∷ codes "a" ∷ codes "main" ∷ []) (at 0) ((declaration (declared (at 1) ((plain_specifier
    (specifier.Word word.Int)) ∷ []) ((function (at 1) 1 (record {
      at = (at 1);
      start = (at 1);
      specifiers = ((specifier.Word word.Int) ∷ []);
      name = (Some
          2);
      sizes = [];
    } ∷ [])) ∷ []))) ∷ (declaration (declared (at 2) ((plain_specifier (specifier.Word word.Long)) ∷ []) ((function (at 2) 1 (record {
      at =
          (at 2);
      start = (at 2);
      specifiers = ((specifier.Word word.Int) ∷ []);
      name = (Some 2);
      sizes = [];
    } ∷ [])) ∷ []))) ∷ (definition (record {
      start = (at
          3);
      specifiers = ((plain_specifier (specifier.Word word.Int)) ∷ []);
      at = (at 3);
      name = 3;
      parameters = [];
      brace = (at 3);
      body = (and_piece
          (statement_item (return_stmt (at 3) (Some (constant (at 3) ty.Int 0)))) no_pieces);
    })) ∷ [])) ≡ fault 515 2 ∷ []
other_result = refl

-- int a[2];
-- int a[3];
-- int main(void) { return 0; }
other_size : told (unit_typed 1048576 (codes "main.c" ∷ codes "a" ∷ codes "main" ∷ []) (at 0) ((declaration (declared (at 1) ((plain_specifier (specifier.Word
    word.Int)) ∷ []) ((object (at 1) 1 ((Some (constant (at 1) ty.Int 2)) ∷ []) None) ∷ []))) ∷ (declaration (declared (at 2) ((plain_specifier
    (specifier.Word word.Int)) ∷ []) ((object (at 2) 1 ((Some (constant (at 2) ty.Int 3)) ∷ []) None) ∷ []))) ∷ (definition (record {
      start = (at 3);
      specifiers = ((plain_specifier (specifier.Word word.Int)) ∷ []);
      at = (at 3);
      name = 2;
      parameters = [];
      brace = (at 3);
      body = (and_piece
          (statement_item (return_stmt (at 3) (Some (constant (at 3) ty.Int 0)))) no_pieces);
    })) ∷ [])) ≡ fault 515 2 ∷ []
other_size = refl

-- int a[]; int a[3]; int a[]; int b[sizeof a == 12 ? 1 : -1];
-- int main(void) { return 0; }
size_follows : told (unit_typed 1048576 (codes "main.c" ∷ codes "a" ∷ codes "b" ∷ codes "main" ∷ []) (at 0) ((declaration (declared (at 1) ((plain_specifier
    (specifier.Word word.Int)) ∷ []) ((object (at 1) 1 (None ∷ []) None) ∷ []))) ∷ (declaration (declared (at 1) ((plain_specifier (specifier.Word
    word.Int)) ∷ []) ((object (at 1) 1 ((Some (constant (at 1) ty.Int 3)) ∷ []) None) ∷ []))) ∷ (declaration (declared (at 1) ((plain_specifier
    (specifier.Word word.Int)) ∷ []) ((object (at 1) 1 (None ∷ []) None) ∷ []))) ∷ (declaration (declared (at 1) ((plain_specifier (specifier.Word
    word.Int)) ∷ []) ((object (at 1) 2 ((Some (conditional (at 1) (binary (at 1) operator.Equal (size_of (at 1) (identifier (at 1) 1)) (constant (at 1)
    ty.Int 12)) (constant (at 1) ty.Int 1) (prefix (at 1) sign.Minus (constant (at 1) ty.Int 1)))) ∷ []) None) ∷ []))) ∷ (definition (record {
      start = (at
          2);
      specifiers = ((plain_specifier (specifier.Word word.Int)) ∷ []);
      at = (at 2);
      name = 3;
      parameters = [];
      brace = (at 2);
      body = (and_piece
          (statement_item (return_stmt (at 2) (Some (constant (at 2) ty.Int 0)))) no_pieces);
    })) ∷ [])) ≡ []
size_follows = refl

-- int a[3]; int a[] = {1, 2}; _Static_assert(sizeof a == 12, "m");
-- int main(void) { return 0; }
size_before_initialiser : told (unit_typed 1048576 (codes "main.c" ∷ codes "a" ∷ codes "m" ∷ codes "main" ∷ []) (at 0) ((declaration (declared (at 1)
    ((plain_specifier (specifier.Word word.Int)) ∷ []) ((object (at 1) 1 ((Some (constant (at 1) ty.Int 3)) ∷ []) None) ∷ []))) ∷ (declaration (declared (at
    1) ((plain_specifier (specifier.Word word.Int)) ∷ []) ((object (at 1) 1 (None ∷ []) (Some (braced_init (at 1) (and_init (one_init (constant (at 1)
    ty.Int 1)) (and_init (one_init (constant (at 1) ty.Int 2)) no_inits))))) ∷ []))) ∷ (declaration (assertion (at 1) (binary (at 1) operator.Equal (size_of
    (at 1) (identifier (at 1) 1)) (constant (at 1) ty.Int 12)) 2)) ∷ (definition (record {
      start = (at 2);
      specifiers = ((plain_specifier (specifier.Word
          word.Int)) ∷ []);
      at = (at 2);
      name = 3;
      parameters = [];
      brace = (at 2);
      body = (and_piece (statement_item (return_stmt (at 2) (Some (constant (at 2)
          ty.Int 0)))) no_pieces);
    })) ∷ [])) ≡ []
size_before_initialiser = refl

-- int a[3];
-- int a[] = {1, 2, 3, 4};
-- int main(void) { return 0; }
size_before_long_initialiser : told (unit_typed 1048576 (codes "main.c" ∷ codes "a" ∷ codes "main" ∷ []) (at 0) ((declaration (declared (at 1) ((plain_specifier
    (specifier.Word word.Int)) ∷ []) ((object (at 1) 1 ((Some (constant (at 1) ty.Int 3)) ∷ []) None) ∷ []))) ∷ (declaration (declared (at 2)
    ((plain_specifier (specifier.Word word.Int)) ∷ []) ((object (at 2) 1 (None ∷ []) (Some (braced_init (at 2) (and_init (one_init (constant (at 2) ty.Int
    1)) (and_init (one_init (constant (at 2) ty.Int 2)) (and_init (one_init (constant (at 2) ty.Int 3)) (and_init (one_init (constant (at 2) ty.Int 4))
    no_inits))))))) ∷ []))) ∷ (definition (record {
      start = (at 3);
      specifiers = ((plain_specifier (specifier.Word word.Int)) ∷ []);
      at = (at 3);
      name = 2;
      parameters = [];
      brace = (at 3);
      body = (and_piece (statement_item (return_stmt (at 3) (Some (constant (at 3) ty.Int 0)))) no_pieces);
    })) ∷ [])) ≡ fault
    520 2 ∷ []
size_before_long_initialiser = refl

-- int a[] = {1, 2};
-- int a[3];
-- int main(void) { return 0; }
size_after_initialiser : told (unit_typed 1048576 (codes "main.c" ∷ codes "a" ∷ codes "main" ∷ []) (at 0) ((declaration (declared (at 1) ((plain_specifier
    (specifier.Word word.Int)) ∷ []) ((object (at 1) 1 (None ∷ []) (Some (braced_init (at 1) (and_init (one_init (constant (at 1) ty.Int 1)) (and_init
    (one_init (constant (at 1) ty.Int 2)) no_inits))))) ∷ []))) ∷ (declaration (declared (at 2) ((plain_specifier (specifier.Word word.Int)) ∷ []) ((object
    (at 2) 1 ((Some (constant (at 2) ty.Int 3)) ∷ []) None) ∷ []))) ∷ (definition (record {
      start = (at 3);
      specifiers = ((plain_specifier (specifier.Word
          word.Int)) ∷ []);
      at = (at 3);
      name = 2;
      parameters = [];
      brace = (at 3);
      body = (and_piece (statement_item (return_stmt (at 3) (Some (constant (at 3)
          ty.Int 0)))) no_pieces);
    })) ∷ [])) ≡ fault 515 2 ∷ []
size_after_initialiser = refl

-- int f;
-- int f(void);
-- int main(void) { return 0; }
object_as_function : told (unit_typed 1048576 (codes "main.c" ∷ codes "f" ∷ codes "main" ∷ []) (at 0) ((declaration (declared (at 1) ((plain_specifier
    (specifier.Word word.Int)) ∷ []) ((object (at 1) 1 [] None) ∷ []))) ∷ (declaration (declared (at 2) ((plain_specifier (specifier.Word word.Int)) ∷ [])
    ((function (at 2) 1 []) ∷ []))) ∷ (definition (record {
      start = (at 3);
      specifiers = ((plain_specifier (specifier.Word word.Int)) ∷ []);
      at = (at 3);
      name = 2;
      parameters = [];
      brace = (at 3);
      body = (and_piece (statement_item (return_stmt (at 3) (Some (constant (at 3) ty.Int 0)))) no_pieces);
    })) ∷
    [])) ≡ fault 515 2 ∷ []
object_as_function = refl

-- extern int x;
-- extern const int x;
-- int main(void) { return 0; }
const_object : told (unit_typed 1048576 (codes "main.c" ∷ codes "x" ∷ codes "main" ∷ []) (at 0) ((declaration (declared (at 1) (extern_specifier ∷ (plain_specifier
    (specifier.Word word.Int)) ∷ []) ((object (at 1) 1 [] None) ∷ []))) ∷ (declaration (declared (at 2) (extern_specifier ∷ (plain_specifier
    specifier.Const) ∷ (plain_specifier (specifier.Word word.Int)) ∷ []) ((object (at 2) 1 [] None) ∷ []))) ∷ (definition (record {
      start = (at 3);
      specifiers = ((plain_specifier (specifier.Word word.Int)) ∷ []);
      at = (at 3);
      name = 2;
      parameters = [];
      brace = (at 3);
      body = (and_piece
          (statement_item (return_stmt (at 3) (Some (constant (at 3) ty.Int 0)))) no_pieces);
    })) ∷ [])) ≡ fault 515 2 ∷ []
const_object = refl

-- int f(int a); int f(const int b); int g(int p[2]); int g(int p[]);
-- int main(void) { return 0; }
const_parameter : told (unit_typed 1048576 (codes "main.c" ∷ codes "f" ∷ codes "a" ∷ codes "b" ∷ codes "g" ∷ codes "p" ∷ codes "main" ∷ []) (at 0) ((declaration
    (declared (at 1) ((plain_specifier (specifier.Word word.Int)) ∷ []) ((function (at 1) 1 (record {
      at = (at 1);
      start = (at 1);
      specifiers =
          ((specifier.Word word.Int) ∷ []);
      name = (Some 2);
      sizes = [];
    } ∷ [])) ∷ []))) ∷ (declaration (declared (at 1) ((plain_specifier (specifier.Word
    word.Int)) ∷ []) ((function (at 1) 1 (record {
      at = (at 1);
      start = (at 1);
      specifiers = (specifier.Const ∷ (specifier.Word word.Int) ∷ []);
      name =
          (Some 3);
      sizes = [];
    } ∷ [])) ∷ []))) ∷ (declaration (declared (at 1) ((plain_specifier (specifier.Word word.Int)) ∷ []) ((function (at 1) 4 (record {
      at = (at 1);
      start = (at 1);
      specifiers = ((specifier.Word word.Int) ∷ []);
      name = (Some 5);
      sizes = ((Some (constant (at 1) ty.Int 2)) ∷ []);
    } ∷ [])) ∷
    []))) ∷ (declaration (declared (at 1) ((plain_specifier (specifier.Word word.Int)) ∷ []) ((function (at 1) 4 (record {
      at = (at 1);
      start = (at 1);
      specifiers = ((specifier.Word word.Int) ∷ []);
      name = (Some 5);
      sizes = (None ∷ []);
    } ∷ [])) ∷ []))) ∷ (definition (record {
      start = (at 2);
      specifiers
          = ((plain_specifier (specifier.Word word.Int)) ∷ []);
      at = (at 2);
      name = 6;
      parameters = [];
      brace = (at 2);
      body = (and_piece (statement_item
          (return_stmt (at 2) (Some (constant (at 2) ty.Int 0)))) no_pieces);
    })) ∷ [])) ≡ []
const_parameter = refl

-- int f(int p[]);
-- int f(const int p[]);
-- int main(void) { return 0; }
const_elements : told (unit_typed 1048576 (codes "main.c" ∷ codes "f" ∷ codes "p" ∷ codes "main" ∷ []) (at 0) ((declaration (declared (at 1) ((plain_specifier
    (specifier.Word word.Int)) ∷ []) ((function (at 1) 1 (record {
      at = (at 1);
      start = (at 1);
      specifiers = ((specifier.Word word.Int) ∷ []);
      name = (Some
          2);
      sizes = (None ∷ []);
    } ∷ [])) ∷ []))) ∷ (declaration (declared (at 2) ((plain_specifier (specifier.Word word.Int)) ∷ []) ((function (at 2) 1 (record
    { at = (at 2); start = (at 2); specifiers = (specifier.Const ∷ (specifier.Word word.Int) ∷ []); name = (Some 2); sizes = (None ∷ []) } ∷ [])) ∷ []))) ∷
    (definition (record {
      start = (at 3);
      specifiers = ((plain_specifier (specifier.Word word.Int)) ∷ []);
      at = (at 3);
      name = 3;
      parameters = [];
      brace =
          (at 3);
      body = (and_piece (statement_item (return_stmt (at 3) (Some (constant (at 3) ty.Int 0)))) no_pieces);
    })) ∷ [])) ≡ fault 515 2 ∷ []
const_elements = refl

-- int rv_putbyte(int c);
-- int main(void) { return 0; }
built_in_type : told (unit_typed 1048576 (codes "main.c" ∷ codes "rv_putbyte" ∷ codes "c" ∷ codes "main" ∷ []) (at 0) ((declaration (declared (at 1)
    ((plain_specifier (specifier.Word word.Int)) ∷ []) ((function (at 1) 1 (record {
      at = (at 1);
      start = (at 1);
      specifiers = ((specifier.Word word.Int) ∷
          []);
      name = (Some 2);
      sizes = [];
    } ∷ [])) ∷ []))) ∷ (definition (record {
      start = (at 2);
      specifiers = ((plain_specifier (specifier.Word word.Int)) ∷
          []);
      at = (at 2);
      name = 3;
      parameters = [];
      brace = (at 2);
      body = (and_piece (statement_item (return_stmt (at 2) (Some (constant (at 2) ty.Int 0))))
          no_pieces);
    })) ∷ [])) ≡ fault 515 1 ∷ []
built_in_type = refl

-- int rv_exit;
-- int main(void) { return 0; }
built_in_object : told (unit_typed 1048576 (codes "main.c" ∷ codes "rv_exit" ∷ codes "main" ∷ []) (at 0) ((declaration (declared (at 1) ((plain_specifier
    (specifier.Word word.Int)) ∷ []) ((object (at 1) 1 [] None) ∷ []))) ∷ (definition (record {
      start = (at 2);
      specifiers = ((plain_specifier
          (specifier.Word word.Int)) ∷ []);
      at = (at 2);
      name = 2;
      parameters = [];
      brace = (at 2);
      body = (and_piece (statement_item (return_stmt (at 2) (Some
          (constant (at 2) ty.Int 0)))) no_pieces);
    })) ∷ [])) ≡ fault 515 1 ∷ []
built_in_object = refl

-- enum { rv_exit };
-- int main(void) { return 0; }
built_in_enumerator : told (unit_typed 1048576 (codes "main.c" ∷ codes "rv_exit" ∷ codes "main" ∷ []) (at 0) ((declaration (declared (at 1) ((enumerators_specifier
    None (record { at = (at 1); name = 1; value = None } ∷ [])) ∷ []) [])) ∷ (definition (record {
      start = (at 2);
      specifiers = ((plain_specifier
          (specifier.Word word.Int)) ∷ []);
      at = (at 2);
      name = 2;
      parameters = [];
      brace = (at 2);
      body = (and_piece (statement_item (return_stmt (at 2) (Some
          (constant (at 2) ty.Int 0)))) no_pieces);
    })) ∷ [])) ≡ fault 515 1 ∷ []
built_in_enumerator = refl

-- int main(void) { int rv_exit = 1; return rv_exit; }
built_in_name_inside : told (unit_typed 1048576 (codes "main.c" ∷ codes "main" ∷ codes "rv_exit" ∷ []) (at 0) ((definition (record {
  start = (at 1);
  specifiers =
      ((plain_specifier (specifier.Word word.Int)) ∷ []);
  at = (at 1);
  name = 1;
  parameters = [];
  brace = (at 1);
  body = (and_piece (declaration_item
      (declared (at 1) ((plain_specifier (specifier.Word word.Int)) ∷ []) ((object (at 1) 2 [] (Some (one_init (constant (at 1) ty.Int 1)))) ∷ [])))
      (and_piece (statement_item (return_stmt (at 1) (Some (identifier (at 1) 2)))) no_pieces));
})) ∷ [])) ≡ []
built_in_name_inside = refl

-- extern int x;
-- static int x;
-- int main(void) { return 0; }
extern_then_static : told (unit_typed 1048576 (codes "main.c" ∷ codes "x" ∷ codes "main" ∷ []) (at 0) ((declaration (declared (at 1) (extern_specifier ∷
    (plain_specifier (specifier.Word word.Int)) ∷ []) ((object (at 1) 1 [] None) ∷ []))) ∷ (declaration (declared (at 2) (static_specifier ∷
    (plain_specifier (specifier.Word word.Int)) ∷ []) ((object (at 2) 1 [] None) ∷ []))) ∷ (definition (record {
      start = (at 3);
      specifiers =
          ((plain_specifier (specifier.Word word.Int)) ∷ []);
      at = (at 3);
      name = 2;
      parameters = [];
      brace = (at 3);
      body = (and_piece (statement_item
          (return_stmt (at 3) (Some (constant (at 3) ty.Int 0)))) no_pieces);
    })) ∷ [])) ≡ fault 516 2 ∷ []
extern_then_static = refl

-- static int x; extern int x;
-- int main(void) { return 0; }
static_then_extern : told (unit_typed 1048576 (codes "main.c" ∷ codes "x" ∷ codes "main" ∷ []) (at 0) ((declaration (declared (at 1) (static_specifier ∷
    (plain_specifier (specifier.Word word.Int)) ∷ []) ((object (at 1) 1 [] None) ∷ []))) ∷ (declaration (declared (at 1) (extern_specifier ∷
    (plain_specifier (specifier.Word word.Int)) ∷ []) ((object (at 1) 1 [] None) ∷ []))) ∷ (definition (record {
      start = (at 2);
      specifiers =
          ((plain_specifier (specifier.Word word.Int)) ∷ []);
      at = (at 2);
      name = 2;
      parameters = [];
      brace = (at 2);
      body = (and_piece (statement_item
          (return_stmt (at 2) (Some (constant (at 2) ty.Int 0)))) no_pieces);
    })) ∷ [])) ≡ []
static_then_extern = refl

-- static int x;
-- int x;
-- int main(void) { return 0; }
static_then_plain : told (unit_typed 1048576 (codes "main.c" ∷ codes "x" ∷ codes "main" ∷ []) (at 0) ((declaration (declared (at 1) (static_specifier ∷
    (plain_specifier (specifier.Word word.Int)) ∷ []) ((object (at 1) 1 [] None) ∷ []))) ∷ (declaration (declared (at 2) ((plain_specifier (specifier.Word
    word.Int)) ∷ []) ((object (at 2) 1 [] None) ∷ []))) ∷ (definition (record {
      start = (at 3);
      specifiers = ((plain_specifier (specifier.Word word.Int)) ∷
          []);
      at = (at 3);
      name = 2;
      parameters = [];
      brace = (at 3);
      body = (and_piece (statement_item (return_stmt (at 3) (Some (constant (at 3) ty.Int 0))))
          no_pieces);
    })) ∷ [])) ≡ fault 516 2 ∷ []
static_then_plain = refl

-- static int f(void); int f(void); int f(void) { return 0; }
-- int main(void) { return 0; }
static_function : told (unit_typed 1048576 (codes "main.c" ∷ codes "f" ∷ codes "main" ∷ []) (at 0) ((declaration (declared (at 1) (static_specifier ∷
    (plain_specifier (specifier.Word word.Int)) ∷ []) ((function (at 1) 1 []) ∷ []))) ∷ (declaration (declared (at 1) ((plain_specifier (specifier.Word
    word.Int)) ∷ []) ((function (at 1) 1 []) ∷ []))) ∷ (definition (record {
      start = (at 1);
      specifiers = ((plain_specifier (specifier.Word word.Int)) ∷
          []);
      at = (at 1);
      name = 1;
      parameters = [];
      brace = (at 1);
      body = (and_piece (statement_item (return_stmt (at 1) (Some (constant (at 1) ty.Int 0))))
          no_pieces);
    })) ∷ (definition (record {
      start = (at 2);
      specifiers = ((plain_specifier (specifier.Word word.Int)) ∷ []);
      at = (at 2);
      name = 2;
      parameters = [];
      brace = (at 2);
      body = (and_piece (statement_item (return_stmt (at 2) (Some (constant (at 2) ty.Int 0)))) no_pieces);
    })) ∷ [])) ≡ []
static_function = refl

-- int f(void);
-- static int f(void);
-- int main(void) { return 0; }
function_then_static : told (unit_typed 1048576 (codes "main.c" ∷ codes "f" ∷ codes "main" ∷ []) (at 0) ((declaration (declared (at 1) ((plain_specifier
    (specifier.Word word.Int)) ∷ []) ((function (at 1) 1 []) ∷ []))) ∷ (declaration (declared (at 2) (static_specifier ∷ (plain_specifier (specifier.Word
    word.Int)) ∷ []) ((function (at 2) 1 []) ∷ []))) ∷ (definition (record {
      start = (at 3);
      specifiers = ((plain_specifier (specifier.Word word.Int)) ∷
          []);
      at = (at 3);
      name = 2;
      parameters = [];
      brace = (at 3);
      body = (and_piece (statement_item (return_stmt (at 3) (Some (constant (at 3) ty.Int 0))))
          no_pieces);
    })) ∷ [])) ≡ fault 516 2 ∷ []
function_then_static = refl

-- static int rv_getbyte(void);
-- int main(void) { return 0; }
static_built_in : told (unit_typed 1048576 (codes "main.c" ∷ codes "rv_getbyte" ∷ codes "main" ∷ []) (at 0) ((declaration (declared (at 1) (static_specifier ∷
    (plain_specifier (specifier.Word word.Int)) ∷ []) ((function (at 1) 1 []) ∷ []))) ∷ (definition (record {
      start = (at 2);
      specifiers = ((plain_specifier
          (specifier.Word word.Int)) ∷ []);
      at = (at 2);
      name = 2;
      parameters = [];
      brace = (at 2);
      body = (and_piece (statement_item (return_stmt (at 2) (Some
          (constant (at 2) ty.Int 0)))) no_pieces);
    })) ∷ [])) ≡ fault 516 1 ∷ []
static_built_in = refl

-- int x = 1;
-- int x = 2;
-- int main(void) { return 0; }
object_twice : told (unit_typed 1048576 (codes "main.c" ∷ codes "x" ∷ codes "main" ∷ []) (at 0) ((declaration (declared (at 1) ((plain_specifier (specifier.Word
    word.Int)) ∷ []) ((object (at 1) 1 [] (Some (one_init (constant (at 1) ty.Int 1)))) ∷ []))) ∷ (declaration (declared (at 2) ((plain_specifier
    (specifier.Word word.Int)) ∷ []) ((object (at 2) 1 [] (Some (one_init (constant (at 2) ty.Int 2)))) ∷ []))) ∷ (definition (record {
      start = (at 3);
      specifiers = ((plain_specifier (specifier.Word word.Int)) ∷ []);
      at = (at 3);
      name = 2;
      parameters = [];
      brace = (at 3);
      body = (and_piece
          (statement_item (return_stmt (at 3) (Some (constant (at 3) ty.Int 0)))) no_pieces);
    })) ∷ [])) ≡ fault 517 2 ∷ []
object_twice = refl

-- int f(void) { return 0; }
-- int f(void) { return 1; }
-- int main(void) { return 0; }
function_twice : told (unit_typed 1048576 (codes "main.c" ∷ codes "f" ∷ codes "main" ∷ []) (at 0) ((definition (record {
  start = (at 1);
  specifiers =
      ((plain_specifier (specifier.Word word.Int)) ∷ []);
  at = (at 1);
  name = 1;
  parameters = [];
  brace = (at 1);
  body = (and_piece (statement_item
      (return_stmt (at 1) (Some (constant (at 1) ty.Int 0)))) no_pieces);
})) ∷ (definition (record {
  start = (at 2);
  specifiers = ((plain_specifier
      (specifier.Word word.Int)) ∷ []);
  at = (at 2);
  name = 1;
  parameters = [];
  brace = (at 2);
  body = (and_piece (statement_item (return_stmt (at 2) (Some
      (constant (at 2) ty.Int 1)))) no_pieces);
})) ∷ (definition (record {
  start = (at 3);
  specifiers = ((plain_specifier (specifier.Word word.Int)) ∷ []);
  at
      = (at 3);
  name = 2;
  parameters = [];
  brace = (at 3);
  body = (and_piece (statement_item (return_stmt (at 3) (Some (constant (at 3) ty.Int 0))))
      no_pieces);
})) ∷ [])) ≡ fault 517 2 ∷ []
function_twice = refl

-- int x; int x = 5; int x; int main(void) { return x; }
tentative : told (unit_typed 1048576 (codes "main.c" ∷ codes "x" ∷ codes "main" ∷ []) (at 0) ((declaration (declared (at 1) ((plain_specifier (specifier.Word
    word.Int)) ∷ []) ((object (at 1) 1 [] None) ∷ []))) ∷ (declaration (declared (at 1) ((plain_specifier (specifier.Word word.Int)) ∷ []) ((object (at 1) 1
    [] (Some (one_init (constant (at 1) ty.Int 5)))) ∷ []))) ∷ (declaration (declared (at 1) ((plain_specifier (specifier.Word word.Int)) ∷ []) ((object (at
    1) 1 [] None) ∷ []))) ∷ (definition (record {
      start = (at 1);
      specifiers = ((plain_specifier (specifier.Word word.Int)) ∷ []);
      at = (at 1);
      name = 2;
      parameters = [];
      brace = (at 1);
      body = (and_piece (statement_item (return_stmt (at 1) (Some (identifier (at 1) 1)))) no_pieces);
    })) ∷ [])) ≡ []
tentative = refl

-- int a[0];
-- int main(void) { return 0; }
no_size : told (unit_typed 1048576 (codes "main.c" ∷ codes "a" ∷ codes "main" ∷ []) (at 0) ((declaration (declared (at 1) ((plain_specifier (specifier.Word
    word.Int)) ∷ []) ((object (at 1) 1 ((Some (constant (at 1) ty.Int 0)) ∷ []) None) ∷ []))) ∷ (definition (record {
      start = (at 2);
      specifiers =
          ((plain_specifier (specifier.Word word.Int)) ∷ []);
      at = (at 2);
      name = 2;
      parameters = [];
      brace = (at 2);
      body = (and_piece (statement_item
          (return_stmt (at 2) (Some (constant (at 2) ty.Int 0)))) no_pieces);
    })) ∷ [])) ≡ fault 518 1 ∷ []
no_size = refl

-- int a[-1];
-- int main(void) { return 0; }
negative_size : told (unit_typed 1048576 (codes "main.c" ∷ codes "a" ∷ codes "main" ∷ []) (at 0) ((declaration (declared (at 1) ((plain_specifier (specifier.Word
    word.Int)) ∷ []) ((object (at 1) 1 ((Some (prefix (at 1) sign.Minus (constant (at 1) ty.Int 1))) ∷ []) None) ∷ []))) ∷ (definition (record {
      start = (at
          2);
      specifiers = ((plain_specifier (specifier.Word word.Int)) ∷ []);
      at = (at 2);
      name = 2;
      parameters = [];
      brace = (at 2);
      body = (and_piece
          (statement_item (return_stmt (at 2) (Some (constant (at 2) ty.Int 0)))) no_pieces);
    })) ∷ [])) ≡ fault 518 1 ∷ []
negative_size = refl

-- int a[2][];
-- int main(void) { return 0; }
inner_unknown : told (unit_typed 1048576 (codes "main.c" ∷ codes "a" ∷ codes "main" ∷ []) (at 0) ((declaration (declared (at 1) ((plain_specifier (specifier.Word
    word.Int)) ∷ []) ((object (at 1) 1 ((Some (constant (at 1) ty.Int 2)) ∷ None ∷ []) None) ∷ []))) ∷ (definition (record {
      start = (at 2);
      specifiers =
          ((plain_specifier (specifier.Word word.Int)) ∷ []);
      at = (at 2);
      name = 2;
      parameters = [];
      brace = (at 2);
      body = (and_piece (statement_item
          (return_stmt (at 2) (Some (constant (at 2) ty.Int 0)))) no_pieces);
    })) ∷ [])) ≡ fault 518 1 ∷ []
inner_unknown = refl

-- void a[3];
-- int main(void) { return 0; }
array_of_void : told (unit_typed 1048576 (codes "main.c" ∷ codes "a" ∷ codes "main" ∷ []) (at 0) ((declaration (declared (at 1) ((plain_specifier (specifier.Word
    word.Void)) ∷ []) ((object (at 1) 1 ((Some (constant (at 1) ty.Int 3)) ∷ []) None) ∷ []))) ∷ (definition (record {
      start = (at 2);
      specifiers =
          ((plain_specifier (specifier.Word word.Int)) ∷ []);
      at = (at 2);
      name = 2;
      parameters = [];
      brace = (at 2);
      body = (and_piece (statement_item
          (return_stmt (at 2) (Some (constant (at 2) ty.Int 0)))) no_pieces);
    })) ∷ [])) ≡ fault 518 1 ∷ []
array_of_void = refl

-- int f(int p[0]);
-- int main(void) { return 0; }
parameter_size : told (unit_typed 1048576 (codes "main.c" ∷ codes "f" ∷ codes "p" ∷ codes "main" ∷ []) (at 0) ((declaration (declared (at 1) ((plain_specifier
    (specifier.Word word.Int)) ∷ []) ((function (at 1) 1 (record {
      at = (at 1);
      start = (at 1);
      specifiers = ((specifier.Word word.Int) ∷ []);
      name = (Some
          2);
      sizes = ((Some (constant (at 1) ty.Int 0)) ∷ []);
    } ∷ [])) ∷ []))) ∷ (definition (record {
      start = (at 2);
      specifiers = ((plain_specifier
          (specifier.Word word.Int)) ∷ []);
      at = (at 2);
      name = 3;
      parameters = [];
      brace = (at 2);
      body = (and_piece (statement_item (return_stmt (at 2) (Some
          (constant (at 2) ty.Int 0)))) no_pieces);
    })) ∷ [])) ≡ fault 518 1 ∷ []
parameter_size = refl

-- int f(void p[]);
-- int main(void) { return 0; }
void_elements : told (unit_typed 1048576 (codes "main.c" ∷ codes "f" ∷ codes "p" ∷ codes "main" ∷ []) (at 0) ((declaration (declared (at 1) ((plain_specifier
    (specifier.Word word.Int)) ∷ []) ((function (at 1) 1 (record {
      at = (at 1);
      start = (at 1);
      specifiers = ((specifier.Word word.Void) ∷ []);
      name = (Some
          2);
      sizes = (None ∷ []);
    } ∷ [])) ∷ []))) ∷ (definition (record {
      start = (at 2);
      specifiers = ((plain_specifier (specifier.Word word.Int)) ∷ []);
      at =
          (at 2);
      name = 3;
      parameters = [];
      brace = (at 2);
      body = (and_piece (statement_item (return_stmt (at 2) (Some (constant (at 2) ty.Int 0)))) no_pieces);
    })) ∷ [])) ≡ fault 518 1 ∷ []
void_elements = refl

-- int main(void) { return sizeof(int[0]); }
type_name_size : told (unit_typed 1048576 (codes "main.c" ∷ codes "main" ∷ []) (at 0) ((definition (record {
  start = (at 1);
  specifiers = ((plain_specifier
      (specifier.Word word.Int)) ∷ []);
  at = (at 1);
  name = 1;
  parameters = [];
  brace = (at 1);
  body = (and_piece (statement_item (return_stmt (at 1) (Some
      (size_of_type (at 1) (type_name (at 1) ((specifier.Word word.Int) ∷ []) (one_more (constant (at 1) ty.Int 0) no_trees)))))) no_pieces);
})) ∷ [])) ≡
    fault 518 1 ∷ []
type_name_size = refl

-- void x;
-- int main(void) { return 0; }
void_object : told (unit_typed 1048576 (codes "main.c" ∷ codes "x" ∷ codes "main" ∷ []) (at 0) ((declaration (declared (at 1) ((plain_specifier (specifier.Word
    word.Void)) ∷ []) ((object (at 1) 1 [] None) ∷ []))) ∷ (definition (record {
      start = (at 2);
      specifiers = ((plain_specifier (specifier.Word word.Int)) ∷
          []);
      at = (at 2);
      name = 2;
      parameters = [];
      brace = (at 2);
      body = (and_piece (statement_item (return_stmt (at 2) (Some (constant (at 2) ty.Int 0))))
          no_pieces);
    })) ∷ [])) ≡ fault 519 1 ∷ []
void_object = refl

-- extern void x;
-- int main(void) { return 0; }
extern_void : told (unit_typed 1048576 (codes "main.c" ∷ codes "x" ∷ codes "main" ∷ []) (at 0) ((declaration (declared (at 1) (extern_specifier ∷ (plain_specifier
    (specifier.Word word.Void)) ∷ []) ((object (at 1) 1 [] None) ∷ []))) ∷ (definition (record {
      start = (at 2);
      specifiers = ((plain_specifier
          (specifier.Word word.Int)) ∷ []);
      at = (at 2);
      name = 2;
      parameters = [];
      brace = (at 2);
      body = (and_piece (statement_item (return_stmt (at 2) (Some
          (constant (at 2) ty.Int 0)))) no_pieces);
    })) ∷ [])) ≡ fault 519 1 ∷ []
extern_void = refl

-- static int a[];
-- int main(void) { return 0; }
static_unknown : told (unit_typed 1048576 (codes "main.c" ∷ codes "a" ∷ codes "main" ∷ []) (at 0) ((declaration (declared (at 1) (static_specifier ∷
    (plain_specifier (specifier.Word word.Int)) ∷ []) ((object (at 1) 1 (None ∷ []) None) ∷ []))) ∷ (definition (record {
      start = (at 2);
      specifiers =
          ((plain_specifier (specifier.Word word.Int)) ∷ []);
      at = (at 2);
      name = 2;
      parameters = [];
      brace = (at 2);
      body = (and_piece (statement_item
          (return_stmt (at 2) (Some (constant (at 2) ty.Int 0)))) no_pieces);
    })) ∷ [])) ≡ fault 519 1 ∷ []
static_unknown = refl

-- int main(void) { int a[]; return 0; }
unknown_in_block : told (unit_typed 1048576 (codes "main.c" ∷ codes "main" ∷ codes "a" ∷ []) (at 0) ((definition (record {
  start = (at 1);
  specifiers =
      ((plain_specifier (specifier.Word word.Int)) ∷ []);
  at = (at 1);
  name = 1;
  parameters = [];
  brace = (at 1);
  body = (and_piece (declaration_item
      (declared (at 1) ((plain_specifier (specifier.Word word.Int)) ∷ []) ((object (at 1) 2 (None ∷ []) None) ∷ []))) (and_piece (statement_item (return_stmt
      (at 1) (Some (constant (at 1) ty.Int 0)))) no_pieces));
})) ∷ [])) ≡ fault 519 1 ∷ []
unknown_in_block = refl

-- int a[]; int main(void) { return a[0]; }
unknown_at_file_scope : told (unit_typed 1048576 (codes "main.c" ∷ codes "a" ∷ codes "main" ∷ []) (at 0) ((declaration (declared (at 1) ((plain_specifier
    (specifier.Word word.Int)) ∷ []) ((object (at 1) 1 (None ∷ []) None) ∷ []))) ∷ (definition (record {
      start = (at 1);
      specifiers = ((plain_specifier
          (specifier.Word word.Int)) ∷ []);
      at = (at 1);
      name = 2;
      parameters = [];
      brace = (at 1);
      body = (and_piece (statement_item (return_stmt (at 1) (Some
          (subscript (at 1) (identifier (at 1) 1) (constant (at 1) ty.Int 0))))) no_pieces);
    })) ∷ [])) ≡ []
unknown_at_file_scope = refl

-- int main(void) { char s[3] = "abcd"; return 0; }
text_too_long : told (unit_typed 1048576 (codes "main.c" ∷ codes "main" ∷ codes "s" ∷ (codes "abcd" ++ 0 ∷ []) ∷ []) (at 0) ((definition (record {
  start = (at 1);
  specifiers =
      ((plain_specifier (specifier.Word word.Int)) ∷ []);
  at = (at 1);
  name = 1;
  parameters = [];
  brace = (at 1);
  body = (and_piece (declaration_item
      (declared (at 1) ((plain_specifier (specifier.Word word.Char)) ∷ []) ((object (at 1) 2 ((Some (constant (at 1) ty.Int 3)) ∷ []) (Some (one_init (string
      (at 1) 3)))) ∷ []))) (and_piece (statement_item (return_stmt (at 1) (Some (constant (at 1) ty.Int 0)))) no_pieces));
})) ∷ [])) ≡ fault 520 1 ∷ []
text_too_long = refl

-- int main(void) { char s[3] = "abc"; return s[2]; }
text_without_zero : told (unit_typed 1048576 (codes "main.c" ∷ codes "main" ∷ codes "s" ∷ (codes "abc" ++ 0 ∷ []) ∷ []) (at 0) ((definition (record {
  start = (at 1);
  specifiers
      = ((plain_specifier (specifier.Word word.Int)) ∷ []);
  at = (at 1);
  name = 1;
  parameters = [];
  brace = (at 1);
  body = (and_piece (declaration_item
      (declared (at 1) ((plain_specifier (specifier.Word word.Char)) ∷ []) ((object (at 1) 2 ((Some (constant (at 1) ty.Int 3)) ∷ []) (Some (one_init (string
      (at 1) 3)))) ∷ []))) (and_piece (statement_item (return_stmt (at 1) (Some (subscript (at 1) (identifier (at 1) 2) (constant (at 1) ty.Int 2)))))
      no_pieces));
})) ∷ [])) ≡ []
text_without_zero = refl

-- int main(void) { int a[2] = {1, 2,
-- 3}; return 0; }
list_too_long : told (unit_typed 1048576 (codes "main.c" ∷ codes "main" ∷ codes "a" ∷ []) (at 0) ((definition (record {
  start = (at 1);
  specifiers =
      ((plain_specifier (specifier.Word word.Int)) ∷ []);
  at = (at 1);
  name = 1;
  parameters = [];
  brace = (at 1);
  body = (and_piece (declaration_item
      (declared (at 1) ((plain_specifier (specifier.Word word.Int)) ∷ []) ((object (at 1) 2 ((Some (constant (at 1) ty.Int 2)) ∷ []) (Some (braced_init (at 1)
      (and_init (one_init (constant (at 1) ty.Int 1)) (and_init (one_init (constant (at 1) ty.Int 2)) (and_init (one_init (constant (at 2) ty.Int 3))
      no_inits)))))) ∷ []))) (and_piece (statement_item (return_stmt (at 2) (Some (constant (at 2) ty.Int 0)))) no_pieces));
})) ∷ [])) ≡ fault 520 1 ∷ []
list_too_long = refl

-- int main(void) { int x = {1, 2}; return 0; }
number_too_long : told (unit_typed 1048576 (codes "main.c" ∷ codes "main" ∷ codes "x" ∷ []) (at 0) ((definition (record {
  start = (at 1);
  specifiers =
      ((plain_specifier (specifier.Word word.Int)) ∷ []);
  at = (at 1);
  name = 1;
  parameters = [];
  brace = (at 1);
  body = (and_piece (declaration_item
      (declared (at 1) ((plain_specifier (specifier.Word word.Int)) ∷ []) ((object (at 1) 2 [] (Some (braced_init (at 1) (and_init (one_init (constant (at 1)
      ty.Int 1)) (and_init (one_init (constant (at 1) ty.Int 2)) no_inits))))) ∷ []))) (and_piece (statement_item (return_stmt (at 1) (Some (constant (at 1)
      ty.Int 0)))) no_pieces));
})) ∷ [])) ≡ fault 520 1 ∷ []
number_too_long = refl

-- int main(void) { int x = {1}; return x; }
number_in_braces : told (unit_typed 1048576 (codes "main.c" ∷ codes "main" ∷ codes "x" ∷ []) (at 0) ((definition (record {
  start = (at 1);
  specifiers =
      ((plain_specifier (specifier.Word word.Int)) ∷ []);
  at = (at 1);
  name = 1;
  parameters = [];
  brace = (at 1);
  body = (and_piece (declaration_item
      (declared (at 1) ((plain_specifier (specifier.Word word.Int)) ∷ []) ((object (at 1) 2 [] (Some (braced_init (at 1) (and_init (one_init (constant (at 1)
      ty.Int 1)) no_inits)))) ∷ []))) (and_piece (statement_item (return_stmt (at 1) (Some (identifier (at 1) 2)))) no_pieces));
})) ∷ [])) ≡ []
number_in_braces = refl

-- int main(void) { int x = {{1}}; return x; }
number_in_two_braces : told (unit_typed 1048576 (codes "main.c" ∷ codes "main" ∷ codes "x" ∷ []) (at 0) ((definition (record {
  start = (at 1);
  specifiers =
      ((plain_specifier (specifier.Word word.Int)) ∷ []);
  at = (at 1);
  name = 1;
  parameters = [];
  brace = (at 1);
  body = (and_piece (declaration_item
      (declared (at 1) ((plain_specifier (specifier.Word word.Int)) ∷ []) ((object (at 1) 2 [] (Some (braced_init (at 1) (and_init (braced_init (at 1)
      (and_init (one_init (constant (at 1) ty.Int 1)) no_inits)) no_inits)))) ∷ []))) (and_piece (statement_item (return_stmt (at 1) (Some (identifier (at 1)
      2)))) no_pieces));
})) ∷ [])) ≡ fault 521 1 ∷ []
number_in_two_braces = refl

-- int main(void) { int a[2] = 5; return 0; }
array_by_number : told (unit_typed 1048576 (codes "main.c" ∷ codes "main" ∷ codes "a" ∷ []) (at 0) ((definition (record {
  start = (at 1);
  specifiers =
      ((plain_specifier (specifier.Word word.Int)) ∷ []);
  at = (at 1);
  name = 1;
  parameters = [];
  brace = (at 1);
  body = (and_piece (declaration_item
      (declared (at 1) ((plain_specifier (specifier.Word word.Int)) ∷ []) ((object (at 1) 2 ((Some (constant (at 1) ty.Int 2)) ∷ []) (Some (one_init (constant
      (at 1) ty.Int 5)))) ∷ []))) (and_piece (statement_item (return_stmt (at 1) (Some (constant (at 1) ty.Int 0)))) no_pieces));
})) ∷ [])) ≡ fault 521 1 ∷ []
array_by_number = refl

-- int main(void) { int a[2]; int b[2] = a; return 0; }
array_by_array : told (unit_typed 1048576 (codes "main.c" ∷ codes "main" ∷ codes "a" ∷ codes "b" ∷ []) (at 0) ((definition (record {
  start = (at 1);
  specifiers =
      ((plain_specifier (specifier.Word word.Int)) ∷ []);
  at = (at 1);
  name = 1;
  parameters = [];
  brace = (at 1);
  body = (and_piece (declaration_item
      (declared (at 1) ((plain_specifier (specifier.Word word.Int)) ∷ []) ((object (at 1) 2 ((Some (constant (at 1) ty.Int 2)) ∷ []) None) ∷ []))) (and_piece
      (declaration_item (declared (at 1) ((plain_specifier (specifier.Word word.Int)) ∷ []) ((object (at 1) 3 ((Some (constant (at 1) ty.Int 2)) ∷ []) (Some
      (one_init (identifier (at 1) 2)))) ∷ []))) (and_piece (statement_item (return_stmt (at 1) (Some (constant (at 1) ty.Int 0)))) no_pieces)));
})) ∷ [])) ≡
    fault 521 1 ∷ []
array_by_array = refl

-- int main(void) { int a[2] = "a"; return 0; }
int_array_by_text : told (unit_typed 1048576 (codes "main.c" ∷ codes "main" ∷ (codes "a" ++ 0 ∷ []) ∷ []) (at 0) ((definition (record {
  start = (at 1);
  specifiers =
      ((plain_specifier (specifier.Word word.Int)) ∷ []);
  at = (at 1);
  name = 1;
  parameters = [];
  brace = (at 1);
  body = (and_piece (declaration_item
      (declared (at 1) ((plain_specifier (specifier.Word word.Int)) ∷ []) ((object (at 1) 2 ((Some (constant (at 1) ty.Int 2)) ∷ []) (Some (one_init (string
      (at 1) 2)))) ∷ []))) (and_piece (statement_item (return_stmt (at 1) (Some (constant (at 1) ty.Int 0)))) no_pieces));
})) ∷ [])) ≡ fault 521 1 ∷ []
int_array_by_text = refl

-- int main(void) { char s[] = ("a"); return 0; }
text_in_parentheses : told (unit_typed 1048576 (codes "main.c" ∷ codes "main" ∷ codes "s" ∷ (codes "a" ++ 0 ∷ []) ∷ []) (at 0) ((definition (record {
  start = (at 1);
  specifiers
      = ((plain_specifier (specifier.Word word.Int)) ∷ []);
  at = (at 1);
  name = 1;
  parameters = [];
  brace = (at 1);
  body = (and_piece (declaration_item
      (declared (at 1) ((plain_specifier (specifier.Word word.Char)) ∷ []) ((object (at 1) 2 (None ∷ []) (Some (one_init (paren (string (at 1) 3))))) ∷ [])))
      (and_piece (statement_item (return_stmt (at 1) (Some (constant (at 1) ty.Int 0)))) no_pieces));
})) ∷ [])) ≡ fault 521 1 ∷ fault 521 1 ∷ []
text_in_parentheses = refl

-- int main(void) { char s[] = {"ab"}; unsigned char t[2][3] = {"ab", {"c"}}; return sizeof s == 3; }
text_in_braces : told (unit_typed 1048576 (codes "main.c" ∷ codes "main" ∷ codes "s" ∷ (codes "ab" ++ 0 ∷ []) ∷ codes "t" ∷ (codes "c" ++ 0 ∷ []) ∷ []) (at 0) ((definition (record {
  start
      = (at 1);
  specifiers = ((plain_specifier (specifier.Word word.Int)) ∷ []);
  at = (at 1);
  name = 1;
  parameters = [];
  brace = (at 1);
  body = (and_piece
      (declaration_item (declared (at 1) ((plain_specifier (specifier.Word word.Char)) ∷ []) ((object (at 1) 2 (None ∷ []) (Some (braced_init (at 1) (and_init
      (one_init (string (at 1) 3)) no_inits)))) ∷ []))) (and_piece (declaration_item (declared (at 1) ((plain_specifier (specifier.Word word.Unsigned)) ∷
      (plain_specifier (specifier.Word word.Char)) ∷ []) ((object (at 1) 4 ((Some (constant (at 1) ty.Int 2)) ∷ (Some (constant (at 1) ty.Int 3)) ∷ []) (Some
      (braced_init (at 1) (and_init (one_init (string (at 1) 3)) (and_init (braced_init (at 1) (and_init (one_init (string (at 1) 5)) no_inits)) no_inits)))))
      ∷ []))) (and_piece (statement_item (return_stmt (at 1) (Some (binary (at 1) operator.Equal (size_of (at 1) (identifier (at 1) 2)) (constant (at 1)
      ty.Int 3))))) no_pieces)));
})) ∷ [])) ≡ []
text_in_braces = refl

-- int main(void) { int m[2][2] = {{1, 2}, 3}; return 0; }
braces_left_out : told (unit_typed 1048576 (codes "main.c" ∷ codes "main" ∷ codes "m" ∷ []) (at 0) ((definition (record {
  start = (at 1);
  specifiers =
      ((plain_specifier (specifier.Word word.Int)) ∷ []);
  at = (at 1);
  name = 1;
  parameters = [];
  brace = (at 1);
  body = (and_piece (declaration_item
      (declared (at 1) ((plain_specifier (specifier.Word word.Int)) ∷ []) ((object (at 1) 2 ((Some (constant (at 1) ty.Int 2)) ∷ (Some (constant (at 1) ty.Int
      2)) ∷ []) (Some (braced_init (at 1) (and_init (braced_init (at 1) (and_init (one_init (constant (at 1) ty.Int 1)) (and_init (one_init (constant (at 1)
      ty.Int 2)) no_inits))) (and_init (one_init (constant (at 1) ty.Int 3)) no_inits))))) ∷ []))) (and_piece (statement_item (return_stmt (at 1) (Some
      (constant (at 1) ty.Int 0)))) no_pieces));
})) ∷ [])) ≡ fault 622 1 ∷ []
braces_left_out = refl

-- int main(void) { int m[2][2] = {1, 2, 3, 4}; return 0; }
all_braces_left_out : told (unit_typed 1048576 (codes "main.c" ∷ codes "main" ∷ codes "m" ∷ []) (at 0) ((definition (record {
  start = (at 1);
  specifiers =
      ((plain_specifier (specifier.Word word.Int)) ∷ []);
  at = (at 1);
  name = 1;
  parameters = [];
  brace = (at 1);
  body = (and_piece (declaration_item
      (declared (at 1) ((plain_specifier (specifier.Word word.Int)) ∷ []) ((object (at 1) 2 ((Some (constant (at 1) ty.Int 2)) ∷ (Some (constant (at 1) ty.Int
      2)) ∷ []) (Some (braced_init (at 1) (and_init (one_init (constant (at 1) ty.Int 1)) (and_init (one_init (constant (at 1) ty.Int 2)) (and_init (one_init
      (constant (at 1) ty.Int 3)) (and_init (one_init (constant (at 1) ty.Int 4)) no_inits))))))) ∷ []))) (and_piece (statement_item (return_stmt (at 1) (Some
      (constant (at 1) ty.Int 0)))) no_pieces));
})) ∷ [])) ≡ fault 622 1 ∷ fault 622 1 ∷ fault 622 1 ∷ fault 622 1 ∷ []
all_braces_left_out = refl

-- int main(void) { int m[2][2] = {{1, 2, 3}, {4}}; return 0; }
list_too_long_inside : told (unit_typed 1048576 (codes "main.c" ∷ codes "main" ∷ codes "m" ∷ []) (at 0) ((definition (record {
  start = (at 1);
  specifiers =
      ((plain_specifier (specifier.Word word.Int)) ∷ []);
  at = (at 1);
  name = 1;
  parameters = [];
  brace = (at 1);
  body = (and_piece (declaration_item
      (declared (at 1) ((plain_specifier (specifier.Word word.Int)) ∷ []) ((object (at 1) 2 ((Some (constant (at 1) ty.Int 2)) ∷ (Some (constant (at 1) ty.Int
      2)) ∷ []) (Some (braced_init (at 1) (and_init (braced_init (at 1) (and_init (one_init (constant (at 1) ty.Int 1)) (and_init (one_init (constant (at 1)
      ty.Int 2)) (and_init (one_init (constant (at 1) ty.Int 3)) no_inits)))) (and_init (braced_init (at 1) (and_init (one_init (constant (at 1) ty.Int 4))
      no_inits)) no_inits))))) ∷ []))) (and_piece (statement_item (return_stmt (at 1) (Some (constant (at 1) ty.Int 0)))) no_pieces));
})) ∷ [])) ≡ fault 520 1
    ∷ []
list_too_long_inside = refl

-- int main(void) { int a[2] = {}; return 0; }
no_parts : told (unit_typed 1048576 (codes "main.c" ∷ codes "main" ∷ codes "a" ∷ []) (at 0) ((definition (record {
  start = (at 1);
  specifiers = ((plain_specifier
      (specifier.Word word.Int)) ∷ []);
  at = (at 1);
  name = 1;
  parameters = [];
  brace = (at 1);
  body = (and_piece (declaration_item (declared (at 1)
      ((plain_specifier (specifier.Word word.Int)) ∷ []) ((object (at 1) 2 ((Some (constant (at 1) ty.Int 2)) ∷ []) (Some (braced_init (at 1) no_inits))) ∷
      []))) (and_piece (statement_item (return_stmt (at 1) (Some (constant (at 1) ty.Int 0)))) no_pieces));
})) ∷ [])) ≡ fault 521 1 ∷ []
no_parts = refl

-- static char s[] = "ab"; static signed char t[] = {"a"};
-- int main(void) { return 0; }
static_text : told (unit_typed 1048576 (codes "main.c" ∷ codes "s" ∷ (codes "ab" ++ 0 ∷ []) ∷ codes "t" ∷ (codes "a" ++ 0 ∷ []) ∷ codes "main" ∷ []) (at 0) ((declaration (declared (at 1)
    (static_specifier ∷ (plain_specifier (specifier.Word word.Char)) ∷ []) ((object (at 1) 1 (None ∷ []) (Some (one_init (string (at 1) 2)))) ∷ []))) ∷
    (declaration (declared (at 1) (static_specifier ∷ (plain_specifier (specifier.Word word.Signed)) ∷ (plain_specifier (specifier.Word word.Char)) ∷ [])
    ((object (at 1) 3 (None ∷ []) (Some (braced_init (at 1) (and_init (one_init (string (at 1) 4)) no_inits)))) ∷ []))) ∷ (definition (record {
      start = (at
          2);
      specifiers = ((plain_specifier (specifier.Word word.Int)) ∷ []);
      at = (at 2);
      name = 5;
      parameters = [];
      brace = (at 2);
      body = (and_piece
          (statement_item (return_stmt (at 2) (Some (constant (at 2) ty.Int 0)))) no_pieces);
    })) ∷ [])) ≡ []
static_text = refl

-- static char s[3] = ("a");
-- int main(void) { return 0; }
static_text_in_parentheses : told (unit_typed 1048576 (codes "main.c" ∷ codes "s" ∷ (codes "a" ++ 0 ∷ []) ∷ codes "main" ∷ []) (at 0) ((declaration (declared (at 1)
    (static_specifier ∷ (plain_specifier (specifier.Word word.Char)) ∷ []) ((object (at 1) 1 ((Some (constant (at 1) ty.Int 3)) ∷ []) (Some (one_init (paren
    (string (at 1) 2))))) ∷ []))) ∷ (definition (record {
      start = (at 2);
      specifiers = ((plain_specifier (specifier.Word word.Int)) ∷ []);
      at = (at 2);
      name
          = 3;
      parameters = [];
      brace = (at 2);
      body = (and_piece (statement_item (return_stmt (at 2) (Some (constant (at 2) ty.Int 0)))) no_pieces);
    })) ∷ [])) ≡
    fault 521 1 ∷ []
static_text_in_parentheses = refl

-- _Static_assert(0, "m");
-- int main(void) { return 0; }
assertion_fails : told (unit_typed 1048576 (codes "main.c" ∷ codes "m" ∷ codes "main" ∷ []) (at 0) ((declaration (assertion (at 1) (constant (at 1) ty.Int 0) 1)) ∷
    (definition (record {
      start = (at 2);
      specifiers = ((plain_specifier (specifier.Word word.Int)) ∷ []);
      at = (at 2);
      name = 2;
      parameters = [];
      brace =
          (at 2);
      body = (and_piece (statement_item (return_stmt (at 2) (Some (constant (at 2) ty.Int 0)))) no_pieces);
    })) ∷ [])) ≡ fault 523 1 ∷ []
assertion_fails = refl

-- _Static_assert(1 || 1 / 0, "m");
-- int main(void) { return 0; }
assertion_of_unevaluated : told (unit_typed 1048576 (codes "main.c" ∷ codes "m" ∷ codes "main" ∷ []) (at 0) ((declaration (assertion (at 1) (binary (at 1)
    operator.Or (constant (at 1) ty.Int 1) (binary (at 1) operator.Div (constant (at 1) ty.Int 1) (constant (at 1) ty.Int 0))) 1)) ∷ (definition (record {
      start = (at 2);
      specifiers = ((plain_specifier (specifier.Word word.Int)) ∷ []);
      at = (at 2);
      name = 2;
      parameters = [];
      brace = (at 2);
      body =
          (and_piece (statement_item (return_stmt (at 2) (Some (constant (at 2) ty.Int 0)))) no_pieces);
    })) ∷ [])) ≡ []
assertion_of_unevaluated = refl

-- _Static_assert(1 / 0, "m");
-- int main(void) { return 0; }
assertion_divides : told (unit_typed 1048576 (codes "main.c" ∷ codes "m" ∷ codes "main" ∷ []) (at 0) ((declaration (assertion (at 1) (binary (at 1) operator.Div
    (constant (at 1) ty.Int 1) (constant (at 1) ty.Int 0)) 1)) ∷ (definition (record {
      start = (at 2);
      specifiers = ((plain_specifier (specifier.Word
          word.Int)) ∷ []);
      at = (at 2);
      name = 2;
      parameters = [];
      brace = (at 2);
      body = (and_piece (statement_item (return_stmt (at 2) (Some (constant (at 2)
          ty.Int 0)))) no_pieces);
    })) ∷ [])) ≡ fault 503 1 ∷ []
assertion_divides = refl

-- _Static_assert(2147483647 + 1, "m");
-- int main(void) { return 0; }
assertion_overflows : told (unit_typed 1048576 (codes "main.c" ∷ codes "m" ∷ codes "main" ∷ []) (at 0) ((declaration (assertion (at 1) (binary (at 1) operator.Add
    (constant (at 1) ty.Int 2147483647) (constant (at 1) ty.Int 1)) 1)) ∷ (definition (record {
      start = (at 2);
      specifiers = ((plain_specifier
          (specifier.Word word.Int)) ∷ []);
      at = (at 2);
      name = 2;
      parameters = [];
      brace = (at 2);
      body = (and_piece (statement_item (return_stmt (at 2) (Some
          (constant (at 2) ty.Int 0)))) no_pieces);
    })) ∷ [])) ≡ fault 502 1 ∷ []
assertion_overflows = refl

-- enum e { A = 2147483647,
-- B };
-- int main(void) { return 0; }
enumerator_follows : told (unit_typed 1048576 (codes "main.c" ∷ codes "e" ∷ codes "A" ∷ codes "B" ∷ codes "main" ∷ []) (at 0) ((declaration (declared (at 1)
    ((enumerators_specifier (Some 1) (record { at = (at 1); name = 2; value = (Some (constant (at 1) ty.Int 2147483647)) } ∷ record {
      at = (at 2);
      name = 3;
      value = None;
    } ∷ [])) ∷ []) [])) ∷ (definition (record {
      start = (at 3);
      specifiers = ((plain_specifier (specifier.Word word.Int)) ∷ []);
      at = (at 3);
      name = 4;
      parameters = [];
      brace = (at 3);
      body = (and_piece (statement_item (return_stmt (at 3) (Some (constant (at 3) ty.Int 0)))) no_pieces);
    })) ∷
    [])) ≡ fault 524 2 ∷ []
enumerator_follows = refl

-- enum { A = 4294967295u };
-- int main(void) { return 0; }
enumerator_too_large : told (unit_typed 1048576 (codes "main.c" ∷ codes "A" ∷ codes "main" ∷ []) (at 0) ((declaration (declared (at 1) ((enumerators_specifier None
    (record { at = (at 1); name = 1; value = (Some (constant (at 1) ty.UInt 4294967295)) } ∷ [])) ∷ []) [])) ∷ (definition (record {
      start = (at 2);
      specifiers = ((plain_specifier (specifier.Word word.Int)) ∷ []);
      at = (at 2);
      name = 2;
      parameters = [];
      brace = (at 2);
      body = (and_piece
          (statement_item (return_stmt (at 2) (Some (constant (at 2) ty.Int 0)))) no_pieces);
    })) ∷ [])) ≡ fault 524 1 ∷ []
enumerator_too_large = refl

-- enum e { A = sizeof(enum e) };
-- int main(void) { return 0; }
tag_in_its_list : told (unit_typed 1048576 (codes "main.c" ∷ codes "e" ∷ codes "A" ∷ codes "main" ∷ []) (at 0) ((declaration (declared (at 1)
    ((enumerators_specifier (Some 1) (record {
      at = (at 1);
      name = 2;
      value = (Some (size_of_type (at 1) (type_name (at 1) ((specifier.Enum 1) ∷ [])
          no_trees)));
    } ∷ [])) ∷ []) [])) ∷ (definition (record {
      start = (at 2);
      specifiers = ((plain_specifier (specifier.Word word.Int)) ∷ []);
      at = (at 2);
      name = 3;
      parameters = [];
      brace = (at 2);
      body = (and_piece (statement_item (return_stmt (at 2) (Some (constant (at 2) ty.Int 0)))) no_pieces);
    })) ∷
    [])) ≡ fault 525 1 ∷ []
tag_in_its_list = refl

-- enum e { A };
-- enum e { B };
-- int main(void) { return 0; }
tag_twice : told (unit_typed 1048576 (codes "main.c" ∷ codes "e" ∷ codes "A" ∷ codes "B" ∷ codes "main" ∷ []) (at 0) ((declaration (declared (at 1)
    ((enumerators_specifier (Some 1) (record { at = (at 1); name = 2; value = None } ∷ [])) ∷ []) [])) ∷ (declaration (declared (at 2)
    ((enumerators_specifier (Some 1) (record { at = (at 2); name = 3; value = None } ∷ [])) ∷ []) [])) ∷ (definition (record {
      start = (at 3);
      specifiers =
          ((plain_specifier (specifier.Word word.Int)) ∷ []);
      at = (at 3);
      name = 4;
      parameters = [];
      brace = (at 3);
      body = (and_piece (statement_item
          (return_stmt (at 3) (Some (constant (at 3) ty.Int 0)))) no_pieces);
    })) ∷ [])) ≡ fault 525 2 ∷ []
tag_twice = refl

-- enum e x;
-- int main(void) { return 0; }
tag_before_list : told (unit_typed 1048576 (codes "main.c" ∷ codes "e" ∷ codes "x" ∷ codes "main" ∷ []) (at 0) ((declaration (declared (at 1) ((plain_specifier
    (specifier.Enum 1)) ∷ []) ((object (at 1) 2 [] None) ∷ []))) ∷ (definition (record {
      start = (at 2);
      specifiers = ((plain_specifier (specifier.Word
          word.Int)) ∷ []);
      at = (at 2);
      name = 3;
      parameters = [];
      brace = (at 2);
      body = (and_piece (statement_item (return_stmt (at 2) (Some (constant (at 2)
          ty.Int 0)))) no_pieces);
    })) ∷ [])) ≡ fault 525 1 ∷ []
tag_before_list = refl

-- enum e { A }; int main(void) { enum e { A = 3 }; enum e x = A; return x; }
tag_in_inner_block : told (unit_typed 1048576 (codes "main.c" ∷ codes "e" ∷ codes "A" ∷ codes "main" ∷ codes "x" ∷ []) (at 0) ((declaration (declared (at 1)
    ((enumerators_specifier (Some 1) (record { at = (at 1); name = 2; value = None } ∷ [])) ∷ []) [])) ∷ (definition (record {
      start = (at 1);
      specifiers =
          ((plain_specifier (specifier.Word word.Int)) ∷ []);
      at = (at 1);
      name = 3;
      parameters = [];
      brace = (at 1);
      body = (and_piece (declaration_item
          (declared (at 1) ((enumerators_specifier (Some 1) (record { at = (at 1); name = 2; value = (Some (constant (at 1) ty.Int 3)) } ∷ [])) ∷ []) []))
          (and_piece (declaration_item (declared (at 1) ((plain_specifier (specifier.Enum 1)) ∷ []) ((object (at 1) 4 [] (Some (one_init (identifier (at 1) 2))))
          ∷ []))) (and_piece (statement_item (return_stmt (at 1) (Some (identifier (at 1) 4)))) no_pieces)));
    })) ∷ [])) ≡ []
tag_in_inner_block = refl

-- enum { A = 4, B = A * 2, C }; _Static_assert(C == 9, "m");
-- int main(void) { return 0; }
enumerator_in_next : told (unit_typed 1048576 (codes "main.c" ∷ codes "A" ∷ codes "B" ∷ codes "C" ∷ codes "m" ∷ codes "main" ∷ []) (at 0) ((declaration (declared
    (at 1) ((enumerators_specifier None (record { at = (at 1); name = 1; value = (Some (constant (at 1) ty.Int 4)) } ∷ record {
      at = (at 1);
      name = 2;
      value
          = (Some (binary (at 1) operator.Mul (identifier (at 1) 1) (constant (at 1) ty.Int 2)));
    } ∷ record { at = (at 1); name = 3; value = None } ∷ [])) ∷ [])
    [])) ∷ (declaration (assertion (at 1) (binary (at 1) operator.Equal (identifier (at 1) 3) (constant (at 1) ty.Int 9)) 4)) ∷ (definition (record {
      start
          = (at 2);
      specifiers = ((plain_specifier (specifier.Word word.Int)) ∷ []);
      at = (at 2);
      name = 5;
      parameters = [];
      brace = (at 2);
      body = (and_piece
          (statement_item (return_stmt (at 2) (Some (constant (at 2) ty.Int 0)))) no_pieces);
    })) ∷ [])) ≡ []
enumerator_in_next = refl

-- int f(int a, void);
-- int main(void) { return 0; }
void_parameter : told (unit_typed 1048576 (codes "main.c" ∷ codes "f" ∷ codes "a" ∷ codes "main" ∷ []) (at 0) ((declaration (declared (at 1) ((plain_specifier
    (specifier.Word word.Int)) ∷ []) ((function (at 1) 1 (record {
      at = (at 1);
      start = (at 1);
      specifiers = ((specifier.Word word.Int) ∷ []);
      name = (Some
          2);
      sizes = [];
    } ∷ record { at = (at 1); start = (at 1); specifiers = ((specifier.Word word.Void) ∷ []); name = None; sizes = [] } ∷ [])) ∷ []))) ∷
    (definition (record {
      start = (at 2);
      specifiers = ((plain_specifier (specifier.Word word.Int)) ∷ []);
      at = (at 2);
      name = 3;
      parameters = [];
      brace =
          (at 2);
      body = (and_piece (statement_item (return_stmt (at 2) (Some (constant (at 2) ty.Int 0)))) no_pieces);
    })) ∷ [])) ≡ fault 526 1 ∷ []
void_parameter = refl

-- int f(void a);
-- int main(void) { return 0; }
named_void_parameter : told (unit_typed 1048576 (codes "main.c" ∷ codes "f" ∷ codes "a" ∷ codes "main" ∷ []) (at 0) ((declaration (declared (at 1) ((plain_specifier
    (specifier.Word word.Int)) ∷ []) ((function (at 1) 1 (record {
      at = (at 1);
      start = (at 1);
      specifiers = ((specifier.Word word.Void) ∷ []);
      name = (Some
          2);
      sizes = [];
    } ∷ [])) ∷ []))) ∷ (definition (record {
      start = (at 2);
      specifiers = ((plain_specifier (specifier.Word word.Int)) ∷ []);
      at = (at 2);
      name = 3;
      parameters = [];
      brace = (at 2);
      body = (and_piece (statement_item (return_stmt (at 2) (Some (constant (at 2) ty.Int 0)))) no_pieces);
    })) ∷
    [])) ≡ fault 526 1 ∷ []
named_void_parameter = refl

-- int f(const void);
-- int main(void) { return 0; }
const_void_parameter : told (unit_typed 1048576 (codes "main.c" ∷ codes "f" ∷ codes "main" ∷ []) (at 0) ((declaration (declared (at 1) ((plain_specifier
    (specifier.Word word.Int)) ∷ []) ((function (at 1) 1 (record {
      at = (at 1);
      start = (at 1);
      specifiers = (specifier.Const ∷ (specifier.Word word.Void) ∷
          []);
      name = None;
      sizes = [];
    } ∷ [])) ∷ []))) ∷ (definition (record {
      start = (at 2);
      specifiers = ((plain_specifier (specifier.Word word.Int)) ∷ []);
      at = (at 2);
      name = 2;
      parameters = [];
      brace = (at 2);
      body = (and_piece (statement_item (return_stmt (at 2) (Some (constant (at 2) ty.Int 0))))
          no_pieces);
    })) ∷ [])) ≡ fault 526 1 ∷ []
const_void_parameter = refl

-- int f(int) { return 0; }
-- int main(void) { return 0; }
unnamed_parameter : told (unit_typed 1048576 (codes "main.c" ∷ codes "f" ∷ codes "main" ∷ []) (at 0) ((definition (record {
  start = (at 1);
  specifiers =
      ((plain_specifier (specifier.Word word.Int)) ∷ []);
  at = (at 1);
  name = 1;
  parameters = (record {
    at = (at 1);
    start = (at 1);
    specifiers =
        ((specifier.Word word.Int) ∷ []);
    name = None;
    sizes = [];
  } ∷ []);
  brace = (at 1);
  body = (and_piece (statement_item (return_stmt (at 1) (Some (constant
      (at 1) ty.Int 0)))) no_pieces);
})) ∷ (definition (record {
  start = (at 2);
  specifiers = ((plain_specifier (specifier.Word word.Int)) ∷ []);
  at = (at 2);
  name = 2;
  parameters = [];
  brace = (at 2);
  body = (and_piece (statement_item (return_stmt (at 2) (Some (constant (at 2) ty.Int 0)))) no_pieces);
})) ∷
    [])) ≡ fault 527 1 ∷ []
unnamed_parameter = refl

-- int f(int);
-- int main(void) { return 0; }
unnamed_in_declaration : told (unit_typed 1048576 (codes "main.c" ∷ codes "f" ∷ codes "main" ∷ []) (at 0) ((declaration (declared (at 1) ((plain_specifier
    (specifier.Word word.Int)) ∷ []) ((function (at 1) 1 (record {
      at = (at 1);
      start = (at 1);
      specifiers = ((specifier.Word word.Int) ∷ []);
      name = None;
      sizes = [];
    } ∷ [])) ∷ []))) ∷ (definition (record {
      start = (at 2);
      specifiers = ((plain_specifier (specifier.Word word.Int)) ∷ []);
      at = (at 2);
      name =
          2;
      parameters = [];
      brace = (at 2);
      body = (and_piece (statement_item (return_stmt (at 2) (Some (constant (at 2) ty.Int 0)))) no_pieces);
    })) ∷ [])) ≡ []
unnamed_in_declaration = refl

-- int main(void) { for (static int i = 0; i < 1; i++) ; return 0; }
static_in_for : told (unit_typed 1048576 (codes "main.c" ∷ codes "main" ∷ codes "i" ∷ []) (at 0) ((definition (record {
  start = (at 1);
  specifiers =
      ((plain_specifier (specifier.Word word.Int)) ∷ []);
  at = (at 1);
  name = 1;
  parameters = [];
  brace = (at 1);
  body = (and_piece (statement_item (for_stmt
      (at 1) (declaration_start (declared (at 1) (static_specifier ∷ (plain_specifier (specifier.Word word.Int)) ∷ []) ((object (at 1) 2 [] (Some (one_init
      (constant (at 1) ty.Int 0)))) ∷ []))) (Some (binary (at 1) operator.Less (identifier (at 1) 2) (constant (at 1) ty.Int 1))) (Some (after (at 1)
      step.Increment (identifier (at 1) 2))) (empty_stmt (at 1)))) (and_piece (statement_item (return_stmt (at 1) (Some (constant (at 1) ty.Int 0))))
      no_pieces));
})) ∷ [])) ≡ fault 544 1 ∷ []
static_in_for = refl

-- int main(void) { for (enum { A } x = A; x; ) ; return 0; }
list_in_for : told (unit_typed 1048576 (codes "main.c" ∷ codes "main" ∷ codes "A" ∷ codes "x" ∷ []) (at 0) ((definition (record {
  start = (at 1);
  specifiers =
      ((plain_specifier (specifier.Word word.Int)) ∷ []);
  at = (at 1);
  name = 1;
  parameters = [];
  brace = (at 1);
  body = (and_piece (statement_item (for_stmt
      (at 1) (declaration_start (declared (at 1) ((enumerators_specifier None (record { at = (at 1); name = 2; value = None } ∷ [])) ∷ []) ((object (at 1) 3
      [] (Some (one_init (identifier (at 1) 2)))) ∷ []))) (Some (identifier (at 1) 3)) None (empty_stmt (at 1)))) (and_piece (statement_item (return_stmt (at
      1) (Some (constant (at 1) ty.Int 0)))) no_pieces));
})) ∷ [])) ≡ fault 544 1 ∷ []
list_in_for = refl

-- int main(void) { for (_Static_assert(1, "m"); ; ) return 0; }
assertion_in_for : told (unit_typed 1048576 (codes "main.c" ∷ codes "main" ∷ codes "m" ∷ []) (at 0) ((definition (record {
  start = (at 1);
  specifiers =
      ((plain_specifier (specifier.Word word.Int)) ∷ []);
  at = (at 1);
  name = 1;
  parameters = [];
  brace = (at 1);
  body = (and_piece (statement_item (for_stmt
      (at 1) (declaration_start (assertion (at 1) (constant (at 1) ty.Int 1) 2)) None None (return_stmt (at 1) (Some (constant (at 1) ty.Int 0))))) no_pieces);
})) ∷ [])) ≡ []
assertion_in_for = refl

-- int n = 2;
-- int a[n];
-- int main(void) { return 0; }
size_by_name : told (unit_typed 1048576 (codes "main.c" ∷ codes "n" ∷ codes "a" ∷ codes "main" ∷ []) (at 0) ((declaration (declared (at 1) ((plain_specifier
    (specifier.Word word.Int)) ∷ []) ((object (at 1) 1 [] (Some (one_init (constant (at 1) ty.Int 2)))) ∷ []))) ∷ (declaration (declared (at 2)
    ((plain_specifier (specifier.Word word.Int)) ∷ []) ((object (at 2) 2 ((Some (identifier (at 2) 1)) ∷ []) None) ∷ []))) ∷ (definition (record {
      start =
          (at 3);
      specifiers = ((plain_specifier (specifier.Word word.Int)) ∷ []);
      at = (at 3);
      name = 3;
      parameters = [];
      brace = (at 3);
      body = (and_piece
          (statement_item (return_stmt (at 3) (Some (constant (at 3) ty.Int 0)))) no_pieces);
    })) ∷ [])) ≡ fault 501 2 ∷ []
size_by_name = refl

-- int f(void);
-- int a[0 ? f() : 1];
-- int main(void) { return 0; }
size_by_call : told (unit_typed 1048576 (codes "main.c" ∷ codes "f" ∷ codes "a" ∷ codes "main" ∷ []) (at 0) ((declaration (declared (at 1) ((plain_specifier
    (specifier.Word word.Int)) ∷ []) ((function (at 1) 1 []) ∷ []))) ∷ (declaration (declared (at 2) ((plain_specifier (specifier.Word word.Int)) ∷ [])
    ((object (at 2) 2 ((Some (conditional (at 2) (constant (at 2) ty.Int 0) (call (at 2) 1 no_trees) (constant (at 2) ty.Int 1))) ∷ []) None) ∷ []))) ∷
    (definition (record {
      start = (at 3);
      specifiers = ((plain_specifier (specifier.Word word.Int)) ∷ []);
      at = (at 3);
      name = 3;
      parameters = [];
      brace =
          (at 3);
      body = (and_piece (statement_item (return_stmt (at 3) (Some (constant (at 3) ty.Int 0)))) no_pieces);
    })) ∷ [])) ≡ fault 501 2 ∷ []
size_by_call = refl

-- int f(void);
-- int a[sizeof f()];
-- int main(void) { return 0; }
size_by_unmeasured_call : told (unit_typed 1048576 (codes "main.c" ∷ codes "f" ∷ codes "a" ∷ codes "main" ∷ []) (at 0) ((declaration (declared (at 1)
    ((plain_specifier (specifier.Word word.Int)) ∷ []) ((function (at 1) 1 []) ∷ []))) ∷ (declaration (declared (at 2) ((plain_specifier (specifier.Word
    word.Int)) ∷ []) ((object (at 2) 2 ((Some (size_of (at 2) (call (at 2) 1 no_trees))) ∷ []) None) ∷ []))) ∷ (definition (record {
      start = (at 3);
      specifiers = ((plain_specifier (specifier.Word word.Int)) ∷ []);
      at = (at 3);
      name = 3;
      parameters = [];
      brace = (at 3);
      body = (and_piece
          (statement_item (return_stmt (at 3) (Some (constant (at 3) ty.Int 0)))) no_pieces);
    })) ∷ [])) ≡ fault 501 2 ∷ []
size_by_unmeasured_call = refl

-- int a[(void)0];
-- int main(void) { return 0; }
size_by_void : told (unit_typed 1048576 (codes "main.c" ∷ codes "a" ∷ codes "main" ∷ []) (at 0) ((declaration (declared (at 1) ((plain_specifier (specifier.Word
    word.Int)) ∷ []) ((object (at 1) 1 ((Some (cast (at 1) (type_name (at 1) ((specifier.Word word.Void) ∷ []) no_trees) (constant (at 1) ty.Int 0))) ∷ [])
    None) ∷ []))) ∷ (definition (record {
      start = (at 2);
      specifiers = ((plain_specifier (specifier.Word word.Int)) ∷ []);
      at = (at 2);
      name = 2;
      parameters
          = [];
      brace = (at 2);
      body = (and_piece (statement_item (return_stmt (at 2) (Some (constant (at 2) ty.Int 0)))) no_pieces);
    })) ∷ [])) ≡ fault 501 1 ∷ []
size_by_void = refl

-- int a[(1, 2)];
-- int main(void) { return 0; }
size_by_comma : told (unit_typed 1048576 (codes "main.c" ∷ codes "a" ∷ codes "main" ∷ []) (at 0) ((declaration (declared (at 1) ((plain_specifier (specifier.Word
    word.Int)) ∷ []) ((object (at 1) 1 ((Some (paren (binary (at 1) operator.Comma (constant (at 1) ty.Int 1) (constant (at 1) ty.Int 2)))) ∷ []) None) ∷
    []))) ∷ (definition (record {
      start = (at 2);
      specifiers = ((plain_specifier (specifier.Word word.Int)) ∷ []);
      at = (at 2);
      name = 2;
      parameters = [];
      brace = (at 2);
      body = (and_piece (statement_item (return_stmt (at 2) (Some (constant (at 2) ty.Int 0)))) no_pieces);
    })) ∷ [])) ≡ fault 501 1 ∷ []
size_by_comma = refl

-- int a["ab"[0]];
-- int main(void) { return 0; }
size_by_text : told (unit_typed 1048576 (codes "main.c" ∷ codes "a" ∷ (codes "ab" ++ 0 ∷ []) ∷ codes "main" ∷ []) (at 0) ((declaration (declared (at 1) ((plain_specifier
    (specifier.Word word.Int)) ∷ []) ((object (at 1) 1 ((Some (subscript (at 1) (string (at 1) 2) (constant (at 1) ty.Int 0))) ∷ []) None) ∷ []))) ∷
    (definition (record {
      start = (at 2);
      specifiers = ((plain_specifier (specifier.Word word.Int)) ∷ []);
      at = (at 2);
      name = 3;
      parameters = [];
      brace =
          (at 2);
      body = (and_piece (statement_item (return_stmt (at 2) (Some (constant (at 2) ty.Int 0)))) no_pieces);
    })) ∷ [])) ≡ fault 501 1 ∷ []
size_by_text = refl

-- int x[3]; int a[sizeof x[1] + sizeof "ab"]; _Static_assert(sizeof a == 28, "m");
-- int main(void) { return 0; }
size_by_measured_names : told (unit_typed 1048576 (codes "main.c" ∷ codes "x" ∷ codes "a" ∷ (codes "ab" ++ 0 ∷ []) ∷ codes "m" ∷ codes "main" ∷ []) (at 0) ((declaration
    (declared (at 1) ((plain_specifier (specifier.Word word.Int)) ∷ []) ((object (at 1) 1 ((Some (constant (at 1) ty.Int 3)) ∷ []) None) ∷ []))) ∷
    (declaration (declared (at 1) ((plain_specifier (specifier.Word word.Int)) ∷ []) ((object (at 1) 2 ((Some (binary (at 1) operator.Add (size_of (at 1)
    (subscript (at 1) (identifier (at 1) 1) (constant (at 1) ty.Int 1))) (size_of (at 1) (string (at 1) 3)))) ∷ []) None) ∷ []))) ∷ (declaration (assertion
    (at 1) (binary (at 1) operator.Equal (size_of (at 1) (identifier (at 1) 2)) (constant (at 1) ty.Int 28)) 4)) ∷ (definition (record {
      start = (at 2);
      specifiers = ((plain_specifier (specifier.Word word.Int)) ∷ []);
      at = (at 2);
      name = 5;
      parameters = [];
      brace = (at 2);
      body = (and_piece
          (statement_item (return_stmt (at 2) (Some (constant (at 2) ty.Int 0)))) no_pieces);
    })) ∷ [])) ≡ []
size_by_measured_names = refl

-- int x; int y = x;
-- int main(void) { return 0; }
static_by_name : told (unit_typed 1048576 (codes "main.c" ∷ codes "x" ∷ codes "y" ∷ codes "main" ∷ []) (at 0) ((declaration (declared (at 1) ((plain_specifier
    (specifier.Word word.Int)) ∷ []) ((object (at 1) 1 [] None) ∷ []))) ∷ (declaration (declared (at 1) ((plain_specifier (specifier.Word word.Int)) ∷ [])
    ((object (at 1) 2 [] (Some (one_init (identifier (at 1) 1)))) ∷ []))) ∷ (definition (record {
      start = (at 2);
      specifiers = ((plain_specifier
          (specifier.Word word.Int)) ∷ []);
      at = (at 2);
      name = 3;
      parameters = [];
      brace = (at 2);
      body = (and_piece (statement_item (return_stmt (at 2) (Some
          (constant (at 2) ty.Int 0)))) no_pieces);
    })) ∷ [])) ≡ fault 501 1 ∷ []
static_by_name = refl

-- int y = f();
-- int main(void) { return 0; }
static_by_undeclared_call : told (unit_typed 1048576 (codes "main.c" ∷ codes "y" ∷ codes "f" ∷ codes "main" ∷ []) (at 0) ((declaration (declared (at 1)
    ((plain_specifier (specifier.Word word.Int)) ∷ []) ((object (at 1) 1 [] (Some (one_init (call (at 1) 2 no_trees)))) ∷ []))) ∷ (definition (record {
      start = (at 2);
      specifiers = ((plain_specifier (specifier.Word word.Int)) ∷ []);
      at = (at 2);
      name = 3;
      parameters = [];
      brace = (at 2);
      body =
          (and_piece (statement_item (return_stmt (at 2) (Some (constant (at 2) ty.Int 0)))) no_pieces);
    })) ∷ [])) ≡ fault 501 1 ∷ []
static_by_undeclared_call = refl

-- static unsigned char c = 300; static int x = 4294967295u; static _Bool b = 2;
-- int main(void) { return 0; }
wraps_by_conversion : told (unit_typed 1048576 (codes "main.c" ∷ codes "c" ∷ codes "x" ∷ codes "b" ∷ codes "main" ∷ []) (at 0) ((declaration (declared (at 1)
    (static_specifier ∷ (plain_specifier (specifier.Word word.Unsigned)) ∷ (plain_specifier (specifier.Word word.Char)) ∷ []) ((object (at 1) 1 [] (Some
    (one_init (constant (at 1) ty.Int 300)))) ∷ []))) ∷ (declaration (declared (at 1) (static_specifier ∷ (plain_specifier (specifier.Word word.Int)) ∷ [])
    ((object (at 1) 2 [] (Some (one_init (constant (at 1) ty.UInt 4294967295)))) ∷ []))) ∷ (declaration (declared (at 1) (static_specifier ∷
    (plain_specifier (specifier.Word word.Bool)) ∷ []) ((object (at 1) 3 [] (Some (one_init (constant (at 1) ty.Int 2)))) ∷ []))) ∷ (definition (record {
      start = (at 2);
      specifiers = ((plain_specifier (specifier.Word word.Int)) ∷ []);
      at = (at 2);
      name = 4;
      parameters = [];
      brace = (at 2);
      body =
          (and_piece (statement_item (return_stmt (at 2) (Some (constant (at 2) ty.Int 0)))) no_pieces);
    })) ∷ [])) ≡ []
wraps_by_conversion = refl

-- int main(void) { int x = 1; switch (x) { case x: ; } return 0; }
case_by_name : told (unit_typed 1048576 (codes "main.c" ∷ codes "main" ∷ codes "x" ∷ []) (at 0) ((definition (record {
  start = (at 1);
  specifiers =
      ((plain_specifier (specifier.Word word.Int)) ∷ []);
  at = (at 1);
  name = 1;
  parameters = [];
  brace = (at 1);
  body = (and_piece (declaration_item
      (declared (at 1) ((plain_specifier (specifier.Word word.Int)) ∷ []) ((object (at 1) 2 [] (Some (one_init (constant (at 1) ty.Int 1)))) ∷ [])))
      (and_piece (statement_item (switch_stmt (at 1) (identifier (at 1) 2) (block_stmt (at 1) (and_piece (statement_item (case_stmt (at 1) (identifier (at 1)
      2) (empty_stmt (at 1)))) no_pieces)))) (and_piece (statement_item (return_stmt (at 1) (Some (constant (at 1) ty.Int 0)))) no_pieces)));
})) ∷ [])) ≡
    fault 501 1 ∷ []
case_by_name = refl

-- int x = 1 << 32;
-- int main(void) { return 0; }
shift_out_of_range : told (unit_typed 1048576 (codes "main.c" ∷ codes "x" ∷ codes "main" ∷ []) (at 0) ((declaration (declared (at 1) ((plain_specifier
    (specifier.Word word.Int)) ∷ []) ((object (at 1) 1 [] (Some (one_init (binary (at 1) operator.ShiftLeft (constant (at 1) ty.Int 1) (constant (at 1)
    ty.Int 32))))) ∷ []))) ∷ (definition (record {
      start = (at 2);
      specifiers = ((plain_specifier (specifier.Word word.Int)) ∷ []);
      at = (at 2);
      name = 2;
      parameters = [];
      brace = (at 2);
      body = (and_piece (statement_item (return_stmt (at 2) (Some (constant (at 2) ty.Int 0)))) no_pieces);
    })) ∷ [])) ≡ fault
    502 1 ∷ []
shift_out_of_range = refl

-- int x = (-2147483647 - 1) / -1;
-- int main(void) { return 0; }
least_by_minus_one : told (unit_typed 1048576 (codes "main.c" ∷ codes "x" ∷ codes "main" ∷ []) (at 0) ((declaration (declared (at 1) ((plain_specifier
    (specifier.Word word.Int)) ∷ []) ((object (at 1) 1 [] (Some (one_init (binary (at 1) operator.Div (paren (binary (at 1) operator.Sub (prefix (at 1)
    sign.Minus (constant (at 1) ty.Int 2147483647)) (constant (at 1) ty.Int 1))) (prefix (at 1) sign.Minus (constant (at 1) ty.Int 1)))))) ∷ []))) ∷
    (definition (record {
      start = (at 2);
      specifiers = ((plain_specifier (specifier.Word word.Int)) ∷ []);
      at = (at 2);
      name = 2;
      parameters = [];
      brace =
          (at 2);
      body = (and_piece (statement_item (return_stmt (at 2) (Some (constant (at 2) ty.Int 0)))) no_pieces);
    })) ∷ [])) ≡ fault 502 1 ∷ []
least_by_minus_one = refl

-- int x = 1 / 0 + (2147483647 + 1);
-- int main(void) { return 0; }
first_of_two : told (unit_typed 1048576 (codes "main.c" ∷ codes "x" ∷ codes "main" ∷ []) (at 0) ((declaration (declared (at 1) ((plain_specifier (specifier.Word
    word.Int)) ∷ []) ((object (at 1) 1 [] (Some (one_init (binary (at 1) operator.Add (binary (at 1) operator.Div (constant (at 1) ty.Int 1) (constant (at
    1) ty.Int 0)) (paren (binary (at 1) operator.Add (constant (at 1) ty.Int 2147483647) (constant (at 1) ty.Int 1))))))) ∷ []))) ∷ (definition (record {
      start = (at 2);
      specifiers = ((plain_specifier (specifier.Word word.Int)) ∷ []);
      at = (at 2);
      name = 2;
      parameters = [];
      brace = (at 2);
      body =
          (and_piece (statement_item (return_stmt (at 2) (Some (constant (at 2) ty.Int 0)))) no_pieces);
    })) ∷ [])) ≡ fault 503 1 ∷ []
first_of_two = refl

-- unsigned x = 0u - 1; _Static_assert(-1 > 0u && 0u - 1 == 4294967295u, "m");
-- int main(void) { return 0; }
unsigned_wraps : told (unit_typed 1048576 (codes "main.c" ∷ codes "x" ∷ codes "m" ∷ codes "main" ∷ []) (at 0) ((declaration (declared (at 1) ((plain_specifier
    (specifier.Word word.Unsigned)) ∷ []) ((object (at 1) 1 [] (Some (one_init (binary (at 1) operator.Sub (constant (at 1) ty.UInt 0) (constant (at 1)
    ty.Int 1))))) ∷ []))) ∷ (declaration (assertion (at 1) (binary (at 1) operator.And (binary (at 1) operator.Greater (prefix (at 1) sign.Minus (constant
    (at 1) ty.Int 1)) (constant (at 1) ty.UInt 0)) (binary (at 1) operator.Equal (binary (at 1) operator.Sub (constant (at 1) ty.UInt 0) (constant (at 1)
    ty.Int 1)) (constant (at 1) ty.UInt 4294967295))) 2)) ∷ (definition (record {
      start = (at 2);
      specifiers = ((plain_specifier (specifier.Word word.Int))
          ∷ []);
      at = (at 2);
      name = 3;
      parameters = [];
      brace = (at 2);
      body = (and_piece (statement_item (return_stmt (at 2) (Some (constant (at 2) ty.Int 0))))
          no_pieces);
    })) ∷ [])) ≡ []
unsigned_wraps = refl

-- int main(void) { int a = b, b; return 0; }
items_in_order : told (unit_typed 1048576 (codes "main.c" ∷ codes "main" ∷ codes "a" ∷ codes "b" ∷ []) (at 0) ((definition (record {
  start = (at 1);
  specifiers =
      ((plain_specifier (specifier.Word word.Int)) ∷ []);
  at = (at 1);
  name = 1;
  parameters = [];
  brace = (at 1);
  body = (and_piece (declaration_item
      (declared (at 1) ((plain_specifier (specifier.Word word.Int)) ∷ []) ((object (at 1) 2 [] (Some (one_init (identifier (at 1) 3)))) ∷ (object (at 1) 3 []
      None) ∷ []))) (and_piece (statement_item (return_stmt (at 1) (Some (constant (at 1) ty.Int 0)))) no_pieces));
})) ∷ [])) ≡ fault 528 1 ∷ []
items_in_order = refl

-- int main(void) { int x = x; return x; }
own_name_in_scope : told (unit_typed 1048576 (codes "main.c" ∷ codes "main" ∷ codes "x" ∷ []) (at 0) ((definition (record {
  start = (at 1);
  specifiers =
      ((plain_specifier (specifier.Word word.Int)) ∷ []);
  at = (at 1);
  name = 1;
  parameters = [];
  brace = (at 1);
  body = (and_piece (declaration_item
      (declared (at 1) ((plain_specifier (specifier.Word word.Int)) ∷ []) ((object (at 1) 2 [] (Some (one_init (identifier (at 1) 2)))) ∷ []))) (and_piece
      (statement_item (return_stmt (at 1) (Some (identifier (at 1) 2)))) no_pieces));
})) ∷ [])) ≡ []
own_name_in_scope = refl

-- int f(int a, int p[sizeof a]);
-- int main(void) { return 0; }
measured_parameter : told (unit_typed 1048576 (codes "main.c" ∷ codes "f" ∷ codes "a" ∷ codes "p" ∷ codes "main" ∷ []) (at 0) ((declaration (declared (at 1)
    ((plain_specifier (specifier.Word word.Int)) ∷ []) ((function (at 1) 1 (record {
      at = (at 1);
      start = (at 1);
      specifiers = ((specifier.Word word.Int) ∷
          []);
      name = (Some 2);
      sizes = [];
    } ∷ record {
      at = (at 1);
      start = (at 1);
      specifiers = ((specifier.Word word.Int) ∷ []);
      name = (Some 3);
      sizes =
          ((Some (size_of (at 1) (identifier (at 1) 2))) ∷ []);
    } ∷ [])) ∷ []))) ∷ (definition (record {
      start = (at 2);
      specifiers = ((plain_specifier
          (specifier.Word word.Int)) ∷ []);
      at = (at 2);
      name = 4;
      parameters = [];
      brace = (at 2);
      body = (and_piece (statement_item (return_stmt (at 2) (Some
          (constant (at 2) ty.Int 0)))) no_pieces);
    })) ∷ [])) ≡ []
measured_parameter = refl

-- int x; int main(void) { { char x; } return sizeof x; }
name_back_again : told (unit_typed 1048576 (codes "main.c" ∷ codes "x" ∷ codes "main" ∷ []) (at 0) ((declaration (declared (at 1) ((plain_specifier (specifier.Word
    word.Int)) ∷ []) ((object (at 1) 1 [] None) ∷ []))) ∷ (definition (record {
      start = (at 1);
      specifiers = ((plain_specifier (specifier.Word word.Int)) ∷
          []);
      at = (at 1);
      name = 2;
      parameters = [];
      brace = (at 1);
      body = (and_piece (statement_item (block_stmt (at 1) (and_piece (declaration_item (declared
          (at 1) ((plain_specifier (specifier.Word word.Char)) ∷ []) ((object (at 1) 1 [] None) ∷ []))) no_pieces))) (and_piece (statement_item (return_stmt (at
          1) (Some (size_of (at 1) (identifier (at 1) 1))))) no_pieces));
    })) ∷ [])) ≡ []
name_back_again = refl

-- char a[1048577];
-- int main(void) { return 0; }
large_object : told (unit_typed 1048576 (codes "main.c" ∷ codes "a" ∷ codes "main" ∷ []) (at 0) ((declaration (declared (at 1) ((plain_specifier (specifier.Word
    word.Char)) ∷ []) ((object (at 1) 1 ((Some (constant (at 1) ty.Int 1048577)) ∷ []) None) ∷ []))) ∷ (definition (record {
      start = (at 2);
      specifiers =
          ((plain_specifier (specifier.Word word.Int)) ∷ []);
      at = (at 2);
      name = 2;
      parameters = [];
      brace = (at 2);
      body = (and_piece (statement_item
          (return_stmt (at 2) (Some (constant (at 2) ty.Int 0)))) no_pieces);
    })) ∷ [])) ≡ fault 712 1 ∷ []
large_object = refl

-- char a[1048576];
-- int main(void) { return 0; }
largest_object : told (unit_typed 1048576 (codes "main.c" ∷ codes "a" ∷ codes "main" ∷ []) (at 0) ((declaration (declared (at 1) ((plain_specifier (specifier.Word
    word.Char)) ∷ []) ((object (at 1) 1 ((Some (constant (at 1) ty.Int 1048576)) ∷ []) None) ∷ []))) ∷ (definition (record {
      start = (at 2);
      specifiers =
          ((plain_specifier (specifier.Word word.Int)) ∷ []);
      at = (at 2);
      name = 2;
      parameters = [];
      brace = (at 2);
      body = (and_piece (statement_item
          (return_stmt (at 2) (Some (constant (at 2) ty.Int 0)))) no_pieces);
    })) ∷ [])) ≡ []
largest_object = refl

-- int f(char p[][1048577]);
-- int main(void) { return 0; }
large_element : told (unit_typed 1048576 (codes "main.c" ∷ codes "f" ∷ codes "p" ∷ codes "main" ∷ []) (at 0) ((declaration (declared (at 1) ((plain_specifier
    (specifier.Word word.Int)) ∷ []) ((function (at 1) 1 (record {
      at = (at 1);
      start = (at 1);
      specifiers = ((specifier.Word word.Char) ∷ []);
      name = (Some
          2);
      sizes = (None ∷ (Some (constant (at 1) ty.Int 1048577)) ∷ []);
    } ∷ [])) ∷ []))) ∷ (definition (record {
      start = (at 2);
      specifiers =
          ((plain_specifier (specifier.Word word.Int)) ∷ []);
      at = (at 2);
      name = 3;
      parameters = [];
      brace = (at 2);
      body = (and_piece (statement_item
          (return_stmt (at 2) (Some (constant (at 2) ty.Int 0)))) no_pieces);
    })) ∷ [])) ≡ fault 712 1 ∷ []
large_element = refl

-- int f(char p[2000000]);
-- int main(void) { return 0; }
large_parameter : told (unit_typed 1048576 (codes "main.c" ∷ codes "f" ∷ codes "p" ∷ codes "main" ∷ []) (at 0) ((declaration (declared (at 1) ((plain_specifier
    (specifier.Word word.Int)) ∷ []) ((function (at 1) 1 (record {
      at = (at 1);
      start = (at 1);
      specifiers = ((specifier.Word word.Char) ∷ []);
      name = (Some
          2);
      sizes = ((Some (constant (at 1) ty.Int 2000000)) ∷ []);
    } ∷ [])) ∷ []))) ∷ (definition (record {
      start = (at 2);
      specifiers = ((plain_specifier
          (specifier.Word word.Int)) ∷ []);
      at = (at 2);
      name = 3;
      parameters = [];
      brace = (at 2);
      body = (and_piece (statement_item (return_stmt (at 2) (Some
          (constant (at 2) ty.Int 0)))) no_pieces);
    })) ∷ [])) ≡ []
large_parameter = refl

-- int main(void) { return sizeof(char[1048577]); }
large_type_name : told (unit_typed 1048576 (codes "main.c" ∷ codes "main" ∷ []) (at 0) ((definition (record {
  start = (at 1);
  specifiers = ((plain_specifier
      (specifier.Word word.Int)) ∷ []);
  at = (at 1);
  name = 1;
  parameters = [];
  brace = (at 1);
  body = (and_piece (statement_item (return_stmt (at 1) (Some
      (size_of_type (at 1) (type_name (at 1) ((specifier.Word word.Char) ∷ []) (one_more (constant (at 1) ty.Int 1048577) no_trees)))))) no_pieces);
})) ∷ []))
    ≡ fault 712 1 ∷ []
large_type_name = refl
