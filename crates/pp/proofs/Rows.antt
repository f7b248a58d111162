-- Worked rows of phase 4, each computed by the definition. The first four are those of ISO/IEC 9899:2011 6.10.3.5.
use Rattle.std.proofs.Common.{◌≡◌, ℕ, List, [], ◌∷◌, ◌++◌, Option, Some, None, refl}
use Rattle.std.specs.Prelude.{codes, decimal}
use Rattle.srcset.specs.declared.code.Code.{Code}
use Rattle.srcset.specs.declared.code.Code.TheVariants as code
use Rattle.srcset.specs.Files.{Files}
use Rattle.srcset.specs.Headers.{stdbool_h}
use Rattle.srcset.specs.NameTable.{Texts}
use Rattle.phases.specs.Token.{Token}
use Rattle.phases.specs.Text.{logical, trigraph}
use Rattle.phases.specs.Grammar.{longest_within, punctuators}
use Rattle.phases.specs.Lines.{found}
use Rattle.lexer.specs.Numbers.{suffix_of}
use Rattle.lexer.specs.Literals.{simple, elements}
use Rattle.macros_substitution.specs.Substitution.{strings_made, is_expanded, arguments_put, all_joined, substituted}
use Rattle.pp_expand.specs.Expansion.{text_of, arguments_in, turn, arguments_expanded, replace, walk, expanded_by, expanded}
use Rattle.pp_cond.specs.Values.{value_of}
use Rattle.pp_cond.specs.Condition.{read, holds}
use Rattle.phases.specs.LineEnds.{line_ends}
use Rattle.pp.specs.Lines.{lines_of}
use Rattle.pp.specs.Groups.{parsed, groups}
use Rattle.pp.specs.Phase4.{Phase4, Fault, goes, Around, start, ending_of, phase4, run_done, include_done, line_done, directive_done, defined_resolved, branch_taken, skipped, branches_skipped, group_done, branches_done, branches_left, file_done, entered}

abbrev texts : Texts
texts = codes "main.c" ∷ codes "a.h" ∷ codes "q.c" ∷ codes "z.c" ∷ codes "<stdbool.h>" ∷ codes "a.c" ∷ []

-- the spellings, one space between
abbrev spaced : List Token → List ℕ
spaced [] = []
spaced (x ∷ []) = x.spelling
spaced (x ∷ y ∷ rest) = x.spelling ++ codes " " ++ spaced (y ∷ rest)

-- the outcome of a set of files: the text, or the number of the fault's code, its file, line and text
pub data Shown : Type 0 where
  Prints : (text : List ℕ) → Shown
  Refuses : (c : Code) (file : List ℕ) (line : ℕ) (text : List ℕ) → Shown

abbrev shown : Phase4 → Option Fault → Shown
shown p None = Prints (spaced p.tokens)
shown p (Some f) = Refuses f.code (text_of texts f.at.file) f.at.line f.text

abbrev shown_whole : Phase4 → Shown
shown_whole p = shown p p.fault

abbrev of_files : Files → Shown
of_files files = shown_whole (phase4 files texts (codes "main.c"))

standard_example : of_files ((codes "main.c", codes "#define x 2\n#define f(a) f(x * (a))\n#define g f\n#define z z[0]\n#define t(a) a\nf(y+1) + f(f(z)) % t(t(g)(0) + t)(1);\n") ∷ [])
    ≡ Prints (codes "f ( 2 * ( y + 1 ) ) + f ( 2 * ( f ( 2 * ( z [ 0 ] ) ) ) ) % f ( 2 * ( 0 ) ) + t ( 1 ) ;")
unfolding longest_within punctuators found logical trigraph suffix_of simple elements strings_made is_expanded arguments_put all_joined substituted
    arguments_in turn arguments_expanded replace walk expanded_by expanded read value_of holds line_ends lines_of parsed groups run_done
    include_done line_done directive_done defined_resolved branch_taken skipped branches_skipped group_done branches_done branches_left
    file_done entered phase4 stdbool_h
standard_example = refl

joined_arguments : of_files ((codes "main.c", codes "#define t(x,y,z) x ## y ## z\nt(1,2,3), t(,4,5), t(6,,7), t(,,)\n") ∷ [])
    ≡ Prints (codes "123 , 45 , 67 ,")
unfolding longest_within punctuators found logical trigraph suffix_of simple elements strings_made is_expanded arguments_put all_joined substituted
    arguments_in turn arguments_expanded replace walk expanded_by expanded read value_of holds line_ends lines_of parsed groups run_done
    include_done line_done directive_done defined_resolved branch_taken skipped branches_skipped group_done branches_done branches_left
    file_done entered phase4 stdbool_h
joined_arguments = refl

hash_hash : of_files ((codes "main.c", codes "#define hash_hash # ## #\n#define mkstr(a) # a\n#define in_between(a) mkstr(a)\n#define join(c, d) in_between(c hash_hash d)\njoin(x, y)\n") ∷ [])
    ≡ Prints (codes "\"x ## y\"")
unfolding longest_within punctuators found logical trigraph suffix_of simple elements strings_made is_expanded arguments_put all_joined substituted
    arguments_in turn arguments_expanded replace walk expanded_by expanded read value_of holds line_ends lines_of parsed groups run_done
    include_done line_done directive_done defined_resolved branch_taken skipped branches_skipped group_done branches_done branches_left
    file_done entered phase4 stdbool_h
hash_hash = refl

nested_names : of_files ((codes "main.c", codes "#define f(a) a*g\n#define g(a) f(a)\nf(2)(9)\n") ∷ [])
    ≡ Prints (codes "2 * 9 * g")
unfolding longest_within punctuators found logical trigraph suffix_of simple elements strings_made is_expanded arguments_put all_joined substituted
    arguments_in turn arguments_expanded replace walk expanded_by expanded read value_of holds line_ends lines_of parsed groups run_done
    include_done line_done directive_done defined_resolved branch_taken skipped branches_skipped group_done branches_done branches_left
    file_done entered phase4 stdbool_h
nested_names = refl

open_arguments : of_files ((codes "main.c", codes "#define f(a) a\nint x = f(1\n#undef f\n);\n") ∷ [])
    ≡ Refuses code.OpenMacroArguments (codes "main.c") 2 (codes "")
unfolding longest_within punctuators found logical trigraph suffix_of simple elements strings_made is_expanded arguments_put all_joined substituted
    arguments_in turn arguments_expanded replace walk expanded_by expanded read value_of holds line_ends lines_of parsed groups run_done
    include_done line_done directive_done defined_resolved branch_taken skipped branches_skipped group_done branches_done branches_left
    file_done entered phase4 stdbool_h
open_arguments = refl

name_ends_run : of_files ((codes "main.c", codes "#define f(a) a\nint y = f\n#define z 1\n(2);\n") ∷ [])
    ≡ Refuses code.MacroNameEndsRun (codes "main.c") 2 (codes "")
unfolding longest_within punctuators found logical trigraph suffix_of simple elements strings_made is_expanded arguments_put all_joined substituted
    arguments_in turn arguments_expanded replace walk expanded_by expanded read value_of holds line_ends lines_of parsed groups run_done
    include_done line_done directive_done defined_resolved branch_taken skipped branches_skipped group_done branches_done branches_left
    file_done entered phase4 stdbool_h
name_ends_run = refl

guarded_header : of_files ((codes "main.c", codes "#define H \"a.h\"\n#include H\nv\n") ∷ (codes "a.h", codes "#ifndef A\n#define A\n#define v 5\n#include \"a.h\"\n#endif\n") ∷ [])
    ≡ Prints (codes "5")
unfolding longest_within punctuators found logical trigraph suffix_of simple elements strings_made is_expanded arguments_put all_joined substituted
    arguments_in turn arguments_expanded replace walk expanded_by expanded read value_of holds line_ends lines_of parsed groups run_done
    include_done line_done directive_done defined_resolved branch_taken skipped branches_skipped group_done branches_done branches_left
    file_done entered phase4 stdbool_h
guarded_header = refl

presumed_line : of_files ((codes "main.c", codes "#line 7 \"q.c\"\n__FILE__ __LINE__\n") ∷ [])
    ≡ Prints (codes "\"q.c\" " ++ decimal 7)
unfolding longest_within punctuators found logical trigraph suffix_of simple elements strings_made is_expanded arguments_put all_joined substituted
    arguments_in turn arguments_expanded replace walk expanded_by expanded read value_of holds line_ends lines_of parsed groups run_done
    include_done line_done directive_done defined_resolved branch_taken skipped branches_skipped group_done branches_done branches_left
    file_done entered phase4 stdbool_h
presumed_line = refl

error_line : of_files ((codes "main.c", codes "#error stop \"it\"\n") ∷ [])
    ≡ Refuses code.ErrorDirective (codes "main.c") 1 (codes " stop \"it\"")
unfolding longest_within punctuators found logical trigraph suffix_of simple elements strings_made is_expanded arguments_put all_joined substituted
    arguments_in turn arguments_expanded replace walk expanded_by expanded read value_of holds line_ends lines_of parsed groups run_done
    include_done line_done directive_done defined_resolved branch_taken skipped branches_skipped group_done branches_done branches_left
    file_done entered phase4 stdbool_h
error_line = refl

defined_made : of_files ((codes "main.c", codes "#define D defined(X)\n#if D\n#endif\n") ∷ [])
    ≡ Refuses code.DefinedMadeByMacro (codes "main.c") 2 (codes "")
unfolding longest_within punctuators found logical trigraph suffix_of simple elements strings_made is_expanded arguments_put all_joined substituted
    arguments_in turn arguments_expanded replace walk expanded_by expanded read value_of holds line_ends lines_of parsed groups run_done
    include_done line_done directive_done defined_resolved branch_taken skipped branches_skipped group_done branches_done branches_left
    file_done entered phase4 stdbool_h
defined_made = refl

elif_not_read : of_files ((codes "main.c", codes "#if 1\n#elif 1/0\n#endif\n") ∷ [])
    ≡ Prints (codes "")
unfolding longest_within punctuators found logical trigraph suffix_of simple elements strings_made is_expanded arguments_put all_joined substituted
    arguments_in turn arguments_expanded replace walk expanded_by expanded read value_of holds line_ends lines_of parsed groups run_done
    include_done line_done directive_done defined_resolved branch_taken skipped branches_skipped group_done branches_done branches_left
    file_done entered phase4 stdbool_h
elif_not_read = refl

overflow : of_files ((codes "main.c", codes "#if 0x7fffffffffffffff + 1\n#endif\n") ∷ [])
    ≡ Refuses code.ConditionOutOfRange (codes "main.c") 1 (codes "")
unfolding longest_within punctuators found logical trigraph suffix_of simple elements strings_made is_expanded arguments_put all_joined substituted
    arguments_in turn arguments_expanded replace walk expanded_by expanded read value_of holds line_ends lines_of parsed groups run_done
    include_done line_done directive_done defined_resolved branch_taken skipped branches_skipped group_done branches_done branches_left
    file_done entered phase4 stdbool_h
overflow = refl

unsigned_wraps : of_files ((codes "main.c", codes "#if 18446744073709551615u + 1 == 0\ny\n#endif\n") ∷ [])
    ≡ Prints (codes "y")
unfolding longest_within punctuators found logical trigraph suffix_of simple elements strings_made is_expanded arguments_put all_joined substituted
    arguments_in turn arguments_expanded replace walk expanded_by expanded read value_of holds line_ends lines_of parsed groups run_done
    include_done line_done directive_done defined_resolved branch_taken skipped branches_skipped group_done branches_done branches_left
    file_done entered phase4 stdbool_h
unsigned_wraps = refl

missing_endif : of_files ((codes "main.c", codes "#if 1\n") ∷ [])
    ≡ Refuses code.UnbalancedConditional (codes "main.c") 1 (codes "")
unfolding longest_within punctuators found logical trigraph suffix_of simple elements strings_made is_expanded arguments_put all_joined substituted
    arguments_in turn arguments_expanded replace walk expanded_by expanded read value_of holds line_ends lines_of parsed groups run_done
    include_done line_done directive_done defined_resolved branch_taken skipped branches_skipped group_done branches_done branches_left
    file_done entered phase4 stdbool_h
missing_endif = refl

mixed_signs : of_files ((codes "main.c", codes "#if -1 > 0u\ny\n#endif\n") ∷ [])
    ≡ Prints (codes "y")
unfolding longest_within punctuators found logical trigraph suffix_of simple elements strings_made is_expanded arguments_put all_joined substituted
    arguments_in turn arguments_expanded replace walk expanded_by expanded read value_of holds line_ends lines_of parsed groups run_done
    include_done line_done directive_done defined_resolved branch_taken skipped branches_skipped group_done branches_done branches_left
    file_done entered phase4 stdbool_h
mixed_signs = refl

unevaluated : of_files ((codes "main.c", codes "#if 0 && 1/0\ny\n#endif\n") ∷ [])
    ≡ Prints (codes "")
unfolding longest_within punctuators found logical trigraph suffix_of simple elements strings_made is_expanded arguments_put all_joined substituted
    arguments_in turn arguments_expanded replace walk expanded_by expanded read value_of holds line_ends lines_of parsed groups run_done
    include_done line_done directive_done defined_resolved branch_taken skipped branches_skipped group_done branches_done branches_left
    file_done entered phase4 stdbool_h
unevaluated = refl

evaluated : of_files ((codes "main.c", codes "#if 1/0\n#endif\n") ∷ [])
    ≡ Refuses code.ConditionOutOfRange (codes "main.c") 1 (codes "")
unfolding longest_within punctuators found logical trigraph suffix_of simple elements strings_made is_expanded arguments_put all_joined substituted
    arguments_in turn arguments_expanded replace walk expanded_by expanded read value_of holds line_ends lines_of parsed groups run_done
    include_done line_done directive_done defined_resolved branch_taken skipped branches_skipped group_done branches_done branches_left
    file_done entered phase4 stdbool_h
evaluated = refl

self_inclusion : of_files ((codes "main.c", codes "#include \"main.c\"\n") ∷ [])
    ≡ Refuses code.NestingLimit (codes "main.c") 1 (codes "")
unfolding longest_within punctuators found logical trigraph suffix_of simple elements strings_made is_expanded arguments_put all_joined substituted
    arguments_in turn arguments_expanded replace walk expanded_by expanded read value_of holds line_ends lines_of parsed groups run_done
    include_done line_done directive_done defined_resolved branch_taken skipped branches_skipped group_done branches_done branches_left
    file_done entered phase4 stdbool_h
self_inclusion = refl

nested_branches : of_files ((codes "main.c", codes "#if 0\n#if 1\na\n#else\nb\n#endif\n#else\nc\n#endif\nd\n") ∷ [])
    ≡ Prints (codes "c d")
unfolding longest_within punctuators found logical trigraph suffix_of simple elements strings_made is_expanded arguments_put all_joined substituted
    arguments_in turn arguments_expanded replace walk expanded_by expanded read value_of holds line_ends lines_of parsed groups run_done
    include_done line_done directive_done defined_resolved branch_taken skipped branches_skipped group_done branches_done branches_left
    file_done entered phase4 stdbool_h
nested_branches = refl

innermost_missing : of_files ((codes "main.c", codes "a\n#if 0\n#if 1\n#endif\n#if x\nb\n") ∷ [])
    ≡ Refuses code.UnbalancedConditional (codes "main.c") 5 (codes "")
unfolding longest_within punctuators found logical trigraph suffix_of simple elements strings_made is_expanded arguments_put all_joined substituted
    arguments_in turn arguments_expanded replace walk expanded_by expanded read value_of holds line_ends lines_of parsed groups run_done
    include_done line_done directive_done defined_resolved branch_taken skipped branches_skipped group_done branches_done branches_left
    file_done entered phase4 stdbool_h
innermost_missing = refl

else_twice : of_files ((codes "main.c", codes "#if 1\n#else\n#else\n#endif\n#if\n") ∷ [])
    ≡ Refuses code.UnbalancedConditional (codes "main.c") 3 (codes "")
unfolding longest_within punctuators found logical trigraph suffix_of simple elements strings_made is_expanded arguments_put all_joined substituted
    arguments_in turn arguments_expanded replace walk expanded_by expanded read value_of holds line_ends lines_of parsed groups run_done
    include_done line_done directive_done defined_resolved branch_taken skipped branches_skipped group_done branches_done branches_left
    file_done entered phase4 stdbool_h
else_twice = refl

endif_alone : of_files ((codes "main.c", codes "x\n#endif\n#if\n") ∷ [])
    ≡ Refuses code.UnbalancedConditional (codes "main.c") 2 (codes "")
unfolding longest_within punctuators found logical trigraph suffix_of simple elements strings_made is_expanded arguments_put all_joined substituted
    arguments_in turn arguments_expanded replace walk expanded_by expanded read value_of holds line_ends lines_of parsed groups run_done
    include_done line_done directive_done defined_resolved branch_taken skipped branches_skipped group_done branches_done branches_left
    file_done entered phase4 stdbool_h
endif_alone = refl

fault_at_presumed_line : of_files ((codes "main.c", codes "#line 100 \"z.c\"\n#if 1/0\n#endif\n") ∷ [])
    ≡ Refuses code.ConditionOutOfRange (codes "z.c") 100 (codes "")
unfolding longest_within punctuators found logical trigraph suffix_of simple elements strings_made is_expanded arguments_put all_joined substituted
    arguments_in turn arguments_expanded replace walk expanded_by expanded read value_of holds line_ends lines_of parsed groups run_done
    include_done line_done directive_done defined_resolved branch_taken skipped branches_skipped group_done branches_done branches_left
    file_done entered phase4 stdbool_h
fault_at_presumed_line = refl

missing_endif_presumed : of_files ((codes "main.c", codes "#line 100 \"z.c\"\n#if 1\n#line 7\n") ∷ [])
    ≡ Refuses code.UnbalancedConditional (codes "z.c") 100 (codes "")
unfolding longest_within punctuators found logical trigraph suffix_of simple elements strings_made is_expanded arguments_put all_joined substituted
    arguments_in turn arguments_expanded replace walk expanded_by expanded read value_of holds line_ends lines_of parsed groups run_done
    include_done line_done directive_done defined_resolved branch_taken skipped branches_skipped group_done branches_done branches_left
    file_done entered phase4 stdbool_h
missing_endif_presumed = refl

extra_behind_endif : of_files ((codes "main.c", codes "#if 0\n#endif x\n") ∷ [])
    ≡ Refuses code.BadDirective (codes "main.c") 2 (codes "")
unfolding longest_within punctuators found logical trigraph suffix_of simple elements strings_made is_expanded arguments_put all_joined substituted
    arguments_in turn arguments_expanded replace walk expanded_by expanded read value_of holds line_ends lines_of parsed groups run_done
    include_done line_done directive_done defined_resolved branch_taken skipped branches_skipped group_done branches_done branches_left
    file_done entered phase4 stdbool_h
extra_behind_endif = refl

extra_behind_skipped_endif : of_files ((codes "main.c", codes "#if 0\n#if 1\n#endif x\n#endif\ny\n") ∷ [])
    ≡ Prints (codes "y")
unfolding longest_within punctuators found logical trigraph suffix_of simple elements strings_made is_expanded arguments_put all_joined substituted
    arguments_in turn arguments_expanded replace walk expanded_by expanded read value_of holds line_ends lines_of parsed groups run_done
    include_done line_done directive_done defined_resolved branch_taken skipped branches_skipped group_done branches_done branches_left
    file_done entered phase4 stdbool_h
extra_behind_skipped_endif = refl

line_in_decimal : of_files ((codes "main.c", codes "#line 010\n__LINE__\n") ∷ [])
    ≡ Prints (decimal 10)
unfolding longest_within punctuators found logical trigraph suffix_of simple elements strings_made is_expanded arguments_put all_joined substituted
    arguments_in turn arguments_expanded replace walk expanded_by expanded read value_of holds line_ends lines_of parsed groups run_done
    include_done line_done directive_done defined_resolved branch_taken skipped branches_skipped group_done branches_done branches_left
    file_done entered phase4 stdbool_h
line_in_decimal = refl

line_of_zero : of_files ((codes "main.c", codes "#line 0\n") ∷ [])
    ≡ Refuses code.BadLineDirective (codes "main.c") 1 (codes "")
unfolding longest_within punctuators found logical trigraph suffix_of simple elements strings_made is_expanded arguments_put all_joined substituted
    arguments_in turn arguments_expanded replace walk expanded_by expanded read value_of holds line_ends lines_of parsed groups run_done
    include_done line_done directive_done defined_resolved branch_taken skipped branches_skipped group_done branches_done branches_left
    file_done entered phase4 stdbool_h
line_of_zero = refl

built_in_header : of_files ((codes "main.c", codes "#include <stdbool.h>\ntrue\n") ∷ [])
    ≡ Prints (codes "1")
unfolding longest_within punctuators found logical trigraph suffix_of simple elements strings_made is_expanded arguments_put all_joined substituted
    arguments_in turn arguments_expanded replace walk expanded_by expanded read value_of holds line_ends lines_of parsed groups run_done
    include_done line_done directive_done defined_resolved branch_taken skipped branches_skipped group_done branches_done branches_left
    file_done entered phase4 stdbool_h
built_in_header = refl

built_in_by_quotes : of_files ((codes "main.c", codes "#include \"stdbool.h\"\ntrue\n") ∷ [])
    ≡ Prints (codes "1")
unfolding longest_within punctuators found logical trigraph suffix_of simple elements strings_made is_expanded arguments_put all_joined substituted
    arguments_in turn arguments_expanded replace walk expanded_by expanded read value_of holds line_ends lines_of parsed groups run_done
    include_done line_done directive_done defined_resolved branch_taken skipped branches_skipped group_done branches_done branches_left
    file_done entered phase4 stdbool_h
built_in_by_quotes = refl

no_such_header : of_files ((codes "main.c", codes "#include \"none.h\"\n") ∷ [])
    ≡ Refuses code.IncludeNotFound (codes "main.c") 1 (codes "")
unfolding longest_within punctuators found logical trigraph suffix_of simple elements strings_made is_expanded arguments_put all_joined substituted
    arguments_in turn arguments_expanded replace walk expanded_by expanded read value_of holds line_ends lines_of parsed groups run_done
    include_done line_done directive_done defined_resolved branch_taken skipped branches_skipped group_done branches_done branches_left
    file_done entered phase4 stdbool_h
no_such_header = refl

space_matters : of_files ((codes "main.c", codes "#define A 1 + 2\n#define A 1 +2\n") ∷ [])
    ≡ Refuses code.MacroRedefined (codes "main.c") 2 (codes "")
unfolding longest_within punctuators found logical trigraph suffix_of simple elements strings_made is_expanded arguments_put all_joined substituted
    arguments_in turn arguments_expanded replace walk expanded_by expanded read value_of holds line_ends lines_of parsed groups run_done
    include_done line_done directive_done defined_resolved branch_taken skipped branches_skipped group_done branches_done branches_left
    file_done entered phase4 stdbool_h
space_matters = refl

white_space_alike : of_files ((codes "main.c", codes "#define A   1 + 2\n#define A 1   +/**/2\nA\n") ∷ [])
    ≡ Prints (codes "1 + 2")
unfolding longest_within punctuators found logical trigraph suffix_of simple elements strings_made is_expanded arguments_put all_joined substituted
    arguments_in turn arguments_expanded replace walk expanded_by expanded read value_of holds line_ends lines_of parsed groups run_done
    include_done line_done directive_done defined_resolved branch_taken skipped branches_skipped group_done branches_done branches_left
    file_done entered phase4 stdbool_h
white_space_alike = refl

number_behind_hash : of_files ((codes "main.c", codes "# 33\n") ∷ [])
    ≡ Refuses code.BadDirective (codes "main.c") 1 (codes "")
unfolding longest_within punctuators found logical trigraph suffix_of simple elements strings_made is_expanded arguments_put all_joined substituted
    arguments_in turn arguments_expanded replace walk expanded_by expanded read value_of holds line_ends lines_of parsed groups run_done
    include_done line_done directive_done defined_resolved branch_taken skipped branches_skipped group_done branches_done branches_left
    file_done entered phase4 stdbool_h
number_behind_hash = refl

alone_hash : of_files ((codes "main.c", codes "a\n#\nb\n") ∷ [])
    ≡ Prints (codes "a b")
unfolding longest_within punctuators found logical trigraph suffix_of simple elements strings_made is_expanded arguments_put all_joined substituted
    arguments_in turn arguments_expanded replace walk expanded_by expanded read value_of holds line_ends lines_of parsed groups run_done
    include_done line_done directive_done defined_resolved branch_taken skipped branches_skipped group_done branches_done branches_left
    file_done entered phase4 stdbool_h
alone_hash = refl

paste_makes_no_token : of_files ((codes "main.c", codes "#define p(a, b) a ## b\np(/, /)\n") ∷ [])
    ≡ Refuses code.PasteMakesNoToken (codes "main.c") 2 (codes "")
unfolding longest_within punctuators found logical trigraph suffix_of simple elements strings_made is_expanded arguments_put all_joined substituted
    arguments_in turn arguments_expanded replace walk expanded_by expanded read value_of holds line_ends lines_of parsed groups run_done
    include_done line_done directive_done defined_resolved branch_taken skipped branches_skipped group_done branches_done branches_left
    file_done entered phase4 stdbool_h
paste_makes_no_token = refl

stringized_backslash : of_files ((codes "main.c", codes "#define s(a) #a\ns(\\)\n") ∷ [])
    ≡ Refuses code.HashMakesNoString (codes "main.c") 2 (codes "")
unfolding longest_within punctuators found logical trigraph suffix_of simple elements strings_made is_expanded arguments_put all_joined substituted
    arguments_in turn arguments_expanded replace walk expanded_by expanded read value_of holds line_ends lines_of parsed groups run_done
    include_done line_done directive_done defined_resolved branch_taken skipped branches_skipped group_done branches_done branches_left
    file_done entered phase4 stdbool_h
stringized_backslash = refl

reserved_name : of_files ((codes "main.c", codes "#define __LINE__ 1\n") ∷ [])
    ≡ Refuses code.ReservedMacroName (codes "main.c") 1 (codes "")
unfolding longest_within punctuators found logical trigraph suffix_of simple elements strings_made is_expanded arguments_put all_joined substituted
    arguments_in turn arguments_expanded replace walk expanded_by expanded read value_of holds line_ends lines_of parsed groups run_done
    include_done line_done directive_done defined_resolved branch_taken skipped branches_skipped group_done branches_done branches_left
    file_done entered phase4 stdbool_h
reserved_name = refl

no_arguments : of_files ((codes "main.c", codes "#define f() 1\n#define g(a) [a]\nf() f( ) g() g( )\n") ∷ [])
    ≡ Prints (codes "1 1 [ ] [ ]")
unfolding longest_within punctuators found logical trigraph suffix_of simple elements strings_made is_expanded arguments_put all_joined substituted
    arguments_in turn arguments_expanded replace walk expanded_by expanded read value_of holds line_ends lines_of parsed groups run_done
    include_done line_done directive_done defined_resolved branch_taken skipped branches_skipped group_done branches_done branches_left
    file_done entered phase4 stdbool_h
no_arguments = refl

too_many_arguments : of_files ((codes "main.c", codes "#define f(a) a\nf(1,2)\n") ∷ [])
    ≡ Refuses code.MacroArgumentCount (codes "main.c") 2 (codes "")
unfolding longest_within punctuators found logical trigraph suffix_of simple elements strings_made is_expanded arguments_put all_joined substituted
    arguments_in turn arguments_expanded replace walk expanded_by expanded read value_of holds line_ends lines_of parsed groups run_done
    include_done line_done directive_done defined_resolved branch_taken skipped branches_skipped group_done branches_done branches_left
    file_done entered phase4 stdbool_h
too_many_arguments = refl

line_in_body : of_files ((codes "main.c", codes "#define L __LINE__\n\nL\n") ∷ [])
    ≡ Prints (decimal 3)
unfolding longest_within punctuators found logical trigraph suffix_of simple elements strings_made is_expanded arguments_put all_joined substituted
    arguments_in turn arguments_expanded replace walk expanded_by expanded read value_of holds line_ends lines_of parsed groups run_done
    include_done line_done directive_done defined_resolved branch_taken skipped branches_skipped group_done branches_done branches_left
    file_done entered phase4 stdbool_h
line_in_body = refl

name_in_skipped_text : of_files ((codes "main.c", codes "#if 0\n'\n#endif\nx\n") ∷ [])
    ≡ Prints (codes "x")
unfolding longest_within punctuators found logical trigraph suffix_of simple elements strings_made is_expanded arguments_put all_joined substituted
    arguments_in turn arguments_expanded replace walk expanded_by expanded read value_of holds line_ends lines_of parsed groups run_done
    include_done line_done directive_done defined_resolved branch_taken skipped branches_skipped group_done branches_done branches_left
    file_done entered phase4 stdbool_h
name_in_skipped_text = refl

open_file_ends : of_files ((codes "main.c", codes "int x;") ∷ [])
    ≡ Refuses code.NoFinalNewline (codes "main.c") 1 (codes "")
unfolding longest_within punctuators found logical trigraph suffix_of simple elements strings_made is_expanded arguments_put all_joined substituted
    arguments_in turn arguments_expanded replace walk expanded_by expanded read value_of holds line_ends lines_of parsed groups run_done
    include_done line_done directive_done defined_resolved branch_taken skipped branches_skipped group_done branches_done branches_left
    file_done entered phase4 stdbool_h
open_file_ends = refl

parentheses_left : of_files ((codes "main.c", codes "#if (1\n#endif\n") ∷ [])
    ≡ Refuses code.NotConstantCondition (codes "main.c") 1 (codes "")
unfolding longest_within punctuators found logical trigraph suffix_of simple elements strings_made is_expanded arguments_put all_joined substituted
    arguments_in turn arguments_expanded replace walk expanded_by expanded read value_of holds line_ends lines_of parsed groups run_done
    include_done line_done directive_done defined_resolved branch_taken skipped branches_skipped group_done branches_done branches_left
    file_done entered phase4 stdbool_h
parentheses_left = refl

large_decimal : of_files ((codes "main.c", codes "#if 9223372036854775808\n#endif\n") ∷ [])
    ≡ Refuses code.NotConstantCondition (codes "main.c") 1 (codes "")
unfolding longest_within punctuators found logical trigraph suffix_of simple elements strings_made is_expanded arguments_put all_joined substituted
    arguments_in turn arguments_expanded replace walk expanded_by expanded read value_of holds line_ends lines_of parsed groups run_done
    include_done line_done directive_done defined_resolved branch_taken skipped branches_skipped group_done branches_done branches_left
    file_done entered phase4 stdbool_h
large_decimal = refl

least_by_minus_one : of_files ((codes "main.c", codes "#if (-9223372036854775807 - 1) / -1\n#endif\n") ∷ [])
    ≡ Refuses code.ConditionOutOfRange (codes "main.c") 1 (codes "")
unfolding longest_within punctuators found logical trigraph suffix_of simple elements strings_made is_expanded arguments_put all_joined substituted
    arguments_in turn arguments_expanded replace walk expanded_by expanded read value_of holds line_ends lines_of parsed groups run_done
    include_done line_done directive_done defined_resolved branch_taken skipped branches_skipped group_done branches_done branches_left
    file_done entered phase4 stdbool_h
least_by_minus_one = refl

choice_is_unsigned : of_files ((codes "main.c", codes "#if (1 ? -1 : 0u) > 0 && -7 / 2 == -3 && -7 % 2 == -1 && (-8 >> 1) == -4\ny\n#endif\n") ∷ [])
    ≡ Prints (codes "y")
unfolding longest_within punctuators found logical trigraph suffix_of simple elements strings_made is_expanded arguments_put all_joined substituted
    arguments_in turn arguments_expanded replace walk expanded_by expanded read value_of holds line_ends lines_of parsed groups run_done
    include_done line_done directive_done defined_resolved branch_taken skipped branches_skipped group_done branches_done branches_left
    file_done entered phase4 stdbool_h
choice_is_unsigned = refl

characters : of_files ((codes "main.c", codes "#if 'A' == 65 && '\\377' == 255\ny\n#endif\n") ∷ [])
    ≡ Prints (codes "y")
unfolding longest_within punctuators found logical trigraph suffix_of simple elements strings_made is_expanded arguments_put all_joined substituted
    arguments_in turn arguments_expanded replace walk expanded_by expanded read value_of holds line_ends lines_of parsed groups run_done
    include_done line_done directive_done defined_resolved branch_taken skipped branches_skipped group_done branches_done branches_left
    file_done entered phase4 stdbool_h
characters = refl

comma : of_files ((codes "main.c", codes "#if 1, 1\n#endif\n") ∷ [])
    ≡ Refuses code.NotConstantCondition (codes "main.c") 1 (codes "")
unfolding longest_within punctuators found logical trigraph suffix_of simple elements strings_made is_expanded arguments_put all_joined substituted
    arguments_in turn arguments_expanded replace walk expanded_by expanded read value_of holds line_ends lines_of parsed groups run_done
    include_done line_done directive_done defined_resolved branch_taken skipped branches_skipped group_done branches_done branches_left
    file_done entered phase4 stdbool_h
comma = refl

joint_behind_joint : of_files ((codes "main.c", codes "#define j a ## ## b\nj\n") ∷ [])
    ≡ Refuses code.PasteMakesNoToken (codes "main.c") 2 (codes "")
unfolding longest_within punctuators found logical trigraph suffix_of simple elements strings_made is_expanded arguments_put all_joined substituted
    arguments_in turn arguments_expanded replace walk expanded_by expanded read value_of holds line_ends lines_of parsed groups run_done
    include_done line_done directive_done defined_resolved branch_taken skipped branches_skipped group_done branches_done branches_left
    file_done entered phase4 stdbool_h
joint_behind_joint = refl

one_hidden : of_files ((codes "main.c", codes "#define p(a,b) a ## b\n#define A2 p(A,\nA2 2)\n") ∷ [])
    ≡ Prints (codes "p ( A ,")
unfolding longest_within punctuators found logical trigraph suffix_of simple elements strings_made is_expanded arguments_put all_joined substituted
    arguments_in turn arguments_expanded replace walk expanded_by expanded read value_of holds line_ends lines_of parsed groups run_done
    include_done line_done directive_done defined_resolved branch_taken skipped branches_skipped group_done branches_done branches_left
    file_done entered phase4 stdbool_h
one_hidden = refl

both_hidden : of_files ((codes "main.c", codes "#define p(a,b) a ## b\n#define q(a,b) p(a,b)\n#define AB q(A,B)\nAB\n") ∷ [])
    ≡ Prints (codes "AB")
unfolding longest_within punctuators found logical trigraph suffix_of simple elements strings_made is_expanded arguments_put all_joined substituted
    arguments_in turn arguments_expanded replace walk expanded_by expanded read value_of holds line_ends lines_of parsed groups run_done
    include_done line_done directive_done defined_resolved branch_taken skipped branches_skipped group_done branches_done branches_left
    file_done entered phase4 stdbool_h
both_hidden = refl

made_joint_is_plain : of_files ((codes "main.c", codes "#define hh # ## #\n#define j(a) a hh b\nj(x)\n") ∷ [])
    ≡ Prints (codes "x ## b")
unfolding longest_within punctuators found logical trigraph suffix_of simple elements strings_made is_expanded arguments_put all_joined substituted
    arguments_in turn arguments_expanded replace walk expanded_by expanded read value_of holds line_ends lines_of parsed groups run_done
    include_done line_done directive_done defined_resolved branch_taken skipped branches_skipped group_done branches_done branches_left
    file_done entered phase4 stdbool_h
made_joint_is_plain = refl

open_in_argument : of_files ((codes "main.c", codes "#define f(a) a\n#define o f (\nf(o 1)\n") ∷ [])
    ≡ Refuses code.OpenMacroArguments (codes "main.c") 3 (codes "")
unfolding longest_within punctuators found logical trigraph suffix_of simple elements strings_made is_expanded arguments_put all_joined substituted
    arguments_in turn arguments_expanded replace walk expanded_by expanded read value_of holds line_ends lines_of parsed groups run_done
    include_done line_done directive_done defined_resolved branch_taken skipped branches_skipped group_done branches_done branches_left
    file_done entered phase4 stdbool_h
open_in_argument = refl

include_restores : of_files ((codes "main.c", codes "#line 7 \"q.c\"\n#include \"a.h\"\n#if\n#endif\n") ∷ (codes "a.h", codes "__FILE__\n#line 100 \"z.c\"\n__FILE__\n") ∷ [])
    ≡ Refuses code.NotConstantCondition (codes "q.c") 8 (codes "")
unfolding longest_within punctuators found logical trigraph suffix_of simple elements strings_made is_expanded arguments_put all_joined substituted
    arguments_in turn arguments_expanded replace walk expanded_by expanded read value_of holds line_ends lines_of parsed groups run_done
    include_done line_done directive_done defined_resolved branch_taken skipped branches_skipped group_done branches_done branches_left
    file_done entered phase4 stdbool_h
include_restores = refl

built_in_fault : of_files ((codes "main.c", codes "#define true 2\n#include <stdbool.h>\n") ∷ [])
    ≡ Refuses code.MacroRedefined (codes "<stdbool.h>") 2 (codes "")
unfolding longest_within punctuators found logical trigraph suffix_of simple elements strings_made is_expanded arguments_put all_joined substituted
    arguments_in turn arguments_expanded replace walk expanded_by expanded read value_of holds line_ends lines_of parsed groups run_done
    include_done line_done directive_done defined_resolved branch_taken skipped branches_skipped group_done branches_done branches_left
    file_done entered phase4 stdbool_h
built_in_fault = refl

line_behind_physical_end : of_files ((codes "main.c", codes "#line 7 \\\n \"q.c\" /*\n */ \n#if\n#endif\n") ∷ [])
    ≡ Refuses code.NotConstantCondition (codes "q.c") 7 (codes "")
unfolding longest_within punctuators found logical trigraph suffix_of simple elements strings_made is_expanded arguments_put all_joined substituted
    arguments_in turn arguments_expanded replace walk expanded_by expanded read value_of holds line_ends lines_of parsed groups run_done
    include_done line_done directive_done defined_resolved branch_taken skipped branches_skipped group_done branches_done branches_left
    file_done entered phase4 stdbool_h
line_behind_physical_end = refl

defined_joined : of_files ((codes "main.c", codes "#define p(a,b) a ## b\n#if p(def,ined) x\n#endif\n") ∷ [])
    ≡ Refuses code.DefinedMadeByMacro (codes "main.c") 2 (codes "")
unfolding longest_within punctuators found logical trigraph suffix_of simple elements strings_made is_expanded arguments_put all_joined substituted
    arguments_in turn arguments_expanded replace walk expanded_by expanded read value_of holds line_ends lines_of parsed groups run_done
    include_done line_done directive_done defined_resolved branch_taken skipped branches_skipped group_done branches_done branches_left
    file_done entered phase4 stdbool_h
defined_joined = refl

nested_in_untaken : of_files ((codes "main.c", codes "#if 1\n#else\n#if 1/0\n#elif\n#else x\n#endif x\n#endif\nz\n") ∷ [])
    ≡ Prints (codes "z")
unfolding longest_within punctuators found logical trigraph suffix_of simple elements strings_made is_expanded arguments_put all_joined substituted
    arguments_in turn arguments_expanded replace walk expanded_by expanded read value_of holds line_ends lines_of parsed groups run_done
    include_done line_done directive_done defined_resolved branch_taken skipped branches_skipped group_done branches_done branches_left
    file_done entered phase4 stdbool_h
nested_in_untaken = refl

main_missing : of_files ((codes "a.c", codes "x\n") ∷ [])
    ≡ Refuses code.NoMainFile (codes "main.c") 0 (codes "")
unfolding longest_within punctuators found logical trigraph suffix_of simple elements strings_made is_expanded arguments_put all_joined substituted
    arguments_in turn arguments_expanded replace walk expanded_by expanded read value_of holds line_ends lines_of parsed groups run_done
    include_done line_done directive_done defined_resolved branch_taken skipped branches_skipped group_done branches_done branches_left
    file_done entered phase4 stdbool_h
main_missing = refl

abbrev lone_file : Around
lone_file = record { texts = texts; enter = λ name at s. goes s }

-- the file main.c alone, with this number of replacements left
abbrev of_left : ℕ → List ℕ → Shown
of_left n bytes = shown_whole (ending_of (file_done lone_file (codes "main.c") bytes (record start { left = n })))

one_count_for_all_runs : of_left 1 (codes "#define a b\n#define f(x) x x\n#define n(x) c\na\n#pragma\na\n")
    ≡ Refuses code.ReplacementLimit (codes "main.c") 6 (codes "")
unfolding longest_within punctuators found logical trigraph suffix_of simple elements strings_made is_expanded arguments_put all_joined substituted
    arguments_in turn arguments_expanded replace walk expanded_by expanded read value_of holds line_ends lines_of parsed groups run_done
    include_done line_done directive_done defined_resolved branch_taken skipped branches_skipped group_done branches_done branches_left
    file_done entered phase4 stdbool_h
one_count_for_all_runs = refl

argument_expanded_once : of_left 2 (codes "#define a b\n#define f(x) x x\n#define n(x) c\nf(a)\n")
    ≡ Prints (codes "b b")
unfolding longest_within punctuators found logical trigraph suffix_of simple elements strings_made is_expanded arguments_put all_joined substituted
    arguments_in turn arguments_expanded replace walk expanded_by expanded read value_of holds line_ends lines_of parsed groups run_done
    include_done line_done directive_done defined_resolved branch_taken skipped branches_skipped group_done branches_done branches_left
    file_done entered phase4 stdbool_h
argument_expanded_once = refl

unused_argument_counts_none : of_left 1 (codes "#define a b\n#define f(x) x x\n#define n(x) c\nn(a)\n")
    ≡ Prints (codes "c")
unfolding longest_within punctuators found logical trigraph suffix_of simple elements strings_made is_expanded arguments_put all_joined substituted
    arguments_in turn arguments_expanded replace walk expanded_by expanded read value_of holds line_ends lines_of parsed groups run_done
    include_done line_done directive_done defined_resolved branch_taken skipped branches_skipped group_done branches_done branches_left
    file_done entered phase4 stdbool_h
unused_argument_counts_none = refl

-- ---- variable arguments (6.10.3p4, p5, p12, 6.10.3.1p2)

variable_arguments_as_a_string : of_files ((codes "main.c", codes "#define s(...) #__VA_ARGS__\ns(a,b , c) s()\n") ∷ [])
    ≡ Prints (codes "\"a,b , c\" \"\"")
unfolding longest_within punctuators found logical trigraph suffix_of simple elements strings_made is_expanded arguments_put all_joined substituted
    arguments_in turn arguments_expanded replace walk expanded_by expanded read value_of holds line_ends lines_of parsed groups run_done
    include_done line_done directive_done defined_resolved branch_taken skipped branches_skipped group_done branches_done branches_left
    file_done entered phase4 stdbool_h
variable_arguments_as_a_string = refl

variable_arguments_passed_on : of_files ((codes "main.c", codes "#define e(f, ...) f(__VA_ARGS__)\ne(g,1,2) e(g,)\n") ∷ [])
    ≡ Prints (codes "g ( 1 , 2 ) g ( )")
unfolding longest_within punctuators found logical trigraph suffix_of simple elements strings_made is_expanded arguments_put all_joined substituted
    arguments_in turn arguments_expanded replace walk expanded_by expanded read value_of holds line_ends lines_of parsed groups run_done
    include_done line_done directive_done defined_resolved branch_taken skipped branches_skipped group_done branches_done branches_left
    file_done entered phase4 stdbool_h
variable_arguments_passed_on = refl

variable_arguments_joined : of_files ((codes "main.c", codes "#define p(x, ...) x ## __VA_ARGS__\np(a,b,c)\n") ∷ [])
    ≡ Prints (codes "ab , c")
unfolding longest_within punctuators found logical trigraph suffix_of simple elements strings_made is_expanded arguments_put all_joined substituted
    arguments_in turn arguments_expanded replace walk expanded_by expanded read value_of holds line_ends lines_of parsed groups run_done
    include_done line_done directive_done defined_resolved branch_taken skipped branches_skipped group_done branches_done branches_left
    file_done entered phase4 stdbool_h
variable_arguments_joined = refl

variable_arguments_to_a_plain_macro : of_files ((codes "main.c", codes "#define f(a, b) [a|b]\n#define g(...) f(__VA_ARGS__)\ng(1,2)\n") ∷ [])
    ≡ Prints (codes "[ 1 | 2 ]")
unfolding longest_within punctuators found logical trigraph suffix_of simple elements strings_made is_expanded arguments_put all_joined substituted
    arguments_in turn arguments_expanded replace walk expanded_by expanded read value_of holds line_ends lines_of parsed groups run_done
    include_done line_done directive_done defined_resolved branch_taken skipped branches_skipped group_done branches_done branches_left
    file_done entered phase4 stdbool_h
variable_arguments_to_a_plain_macro = refl

variable_arguments_are_two_behind : of_files ((codes "main.c", codes "#define q(...) f((__VA_ARGS__), __VA_ARGS__)\n#define f(a, ...) a\nq(x, y)\n") ∷ [])
    ≡ Prints (codes "( x , y )")
unfolding longest_within punctuators found logical trigraph suffix_of simple elements strings_made is_expanded arguments_put all_joined substituted
    arguments_in turn arguments_expanded replace walk expanded_by expanded read value_of holds line_ends lines_of parsed groups run_done
    include_done line_done directive_done defined_resolved branch_taken skipped branches_skipped group_done branches_done branches_left
    file_done entered phase4 stdbool_h
variable_arguments_are_two_behind = refl

no_variable_argument : of_files ((codes "main.c", codes "#define e(f, ...) f(__VA_ARGS__)\ne(g)\n") ∷ [])
    ≡ Refuses code.NoVariableArgument (codes "main.c") 2 (codes "")
unfolding longest_within punctuators found logical trigraph suffix_of simple elements strings_made is_expanded arguments_put all_joined substituted
    arguments_in turn arguments_expanded replace walk expanded_by expanded read value_of holds line_ends lines_of parsed groups run_done
    include_done line_done directive_done defined_resolved branch_taken skipped branches_skipped group_done branches_done branches_left
    file_done entered phase4 stdbool_h
no_variable_argument = refl

no_argument_at_all : of_files ((codes "main.c", codes "#define e(f, ...) f(__VA_ARGS__)\n\ne()\n") ∷ [])
    ≡ Refuses code.NoVariableArgument (codes "main.c") 3 (codes "")
unfolding longest_within punctuators found logical trigraph suffix_of simple elements strings_made is_expanded arguments_put all_joined substituted
    arguments_in turn arguments_expanded replace walk expanded_by expanded read value_of holds line_ends lines_of parsed groups run_done
    include_done line_done directive_done defined_resolved branch_taken skipped branches_skipped group_done branches_done branches_left
    file_done entered phase4 stdbool_h
no_argument_at_all = refl

too_few_named_arguments : of_files ((codes "main.c", codes "#define h(a, b, ...) a\nh(1)\n") ∷ [])
    ≡ Refuses code.MacroArgumentCount (codes "main.c") 2 (codes "")
unfolding longest_within punctuators found logical trigraph suffix_of simple elements strings_made is_expanded arguments_put all_joined substituted
    arguments_in turn arguments_expanded replace walk expanded_by expanded read value_of holds line_ends lines_of parsed groups run_done
    include_done line_done directive_done defined_resolved branch_taken skipped branches_skipped group_done branches_done branches_left
    file_done entered phase4 stdbool_h
too_few_named_arguments = refl

named_arguments_alone : of_files ((codes "main.c", codes "#define h(a, b, ...) a\nh(1,2)\n") ∷ [])
    ≡ Refuses code.NoVariableArgument (codes "main.c") 2 (codes "")
unfolding longest_within punctuators found logical trigraph suffix_of simple elements strings_made is_expanded arguments_put all_joined substituted
    arguments_in turn arguments_expanded replace walk expanded_by expanded read value_of holds line_ends lines_of parsed groups run_done
    include_done line_done directive_done defined_resolved branch_taken skipped branches_skipped group_done branches_done branches_left
    file_done entered phase4 stdbool_h
named_arguments_alone = refl

variable_arguments_outside : of_files ((codes "main.c", codes "#define k(x) __VA_ARGS__\n") ∷ [])
    ≡ Refuses code.VariableArgumentsOutside (codes "main.c") 1 (codes "")
unfolding longest_within punctuators found logical trigraph suffix_of simple elements strings_made is_expanded arguments_put all_joined substituted
    arguments_in turn arguments_expanded replace walk expanded_by expanded read value_of holds line_ends lines_of parsed groups run_done
    include_done line_done directive_done defined_resolved branch_taken skipped branches_skipped group_done branches_done branches_left
    file_done entered phase4 stdbool_h
variable_arguments_outside = refl

variable_arguments_outside_before_a_lone_hash : of_files ((codes "main.c", codes "#define k(x) # __VA_ARGS__ ##\n") ∷ [])
    ≡ Refuses code.VariableArgumentsOutside (codes "main.c") 1 (codes "")
unfolding longest_within punctuators found logical trigraph suffix_of simple elements strings_made is_expanded arguments_put all_joined substituted
    arguments_in turn arguments_expanded replace walk expanded_by expanded read value_of holds line_ends lines_of parsed groups run_done
    include_done line_done directive_done defined_resolved branch_taken skipped branches_skipped group_done branches_done branches_left
    file_done entered phase4 stdbool_h
variable_arguments_outside_before_a_lone_hash = refl

reserved_parameter_before_variable_arguments : of_files ((codes "main.c", codes "#define k(__VA_ARGS__, ...) __VA_ARGS__\n") ∷ [])
    ≡ Refuses code.ReservedMacroName (codes "main.c") 1 (codes "")
unfolding longest_within punctuators found logical trigraph suffix_of simple elements strings_made is_expanded arguments_put all_joined substituted
    arguments_in turn arguments_expanded replace walk expanded_by expanded read value_of holds line_ends lines_of parsed groups run_done
    include_done line_done directive_done defined_resolved branch_taken skipped branches_skipped group_done branches_done branches_left
    file_done entered phase4 stdbool_h
reserved_parameter_before_variable_arguments = refl

ellipsis_alone_behind_a_name : of_files ((codes "main.c", codes "#define k(x ...) x\n") ∷ [])
    ≡ Refuses code.BadMacroDefinition (codes "main.c") 1 (codes "")
unfolding longest_within punctuators found logical trigraph suffix_of simple elements strings_made is_expanded arguments_put all_joined substituted
    arguments_in turn arguments_expanded replace walk expanded_by expanded read value_of holds line_ends lines_of parsed groups run_done
    include_done line_done directive_done defined_resolved branch_taken skipped branches_skipped group_done branches_done branches_left
    file_done entered phase4 stdbool_h
ellipsis_alone_behind_a_name = refl

ellipsis_not_last : of_files ((codes "main.c", codes "#define k(..., x) x\n") ∷ [])
    ≡ Refuses code.BadMacroDefinition (codes "main.c") 1 (codes "")
unfolding longest_within punctuators found logical trigraph suffix_of simple elements strings_made is_expanded arguments_put all_joined substituted
    arguments_in turn arguments_expanded replace walk expanded_by expanded read value_of holds line_ends lines_of parsed groups run_done
    include_done line_done directive_done defined_resolved branch_taken skipped branches_skipped group_done branches_done branches_left
    file_done entered phase4 stdbool_h
ellipsis_not_last = refl

redefined_without_ellipsis : of_files ((codes "main.c", codes "#define k(x, ...) x\n#define k(x) x\n") ∷ [])
    ≡ Refuses code.MacroRedefined (codes "main.c") 2 (codes "")
unfolding longest_within punctuators found logical trigraph suffix_of simple elements strings_made is_expanded arguments_put all_joined substituted
    arguments_in turn arguments_expanded replace walk expanded_by expanded read value_of holds line_ends lines_of parsed groups run_done
    include_done line_done directive_done defined_resolved branch_taken skipped branches_skipped group_done branches_done branches_left
    file_done entered phase4 stdbool_h
redefined_without_ellipsis = refl

redefined_alike_with_ellipsis : of_files ((codes "main.c", codes "#define k(x, ...) x\n#define k(x, ...) x\nk(1,)\n") ∷ [])
    ≡ Prints (codes "1")
unfolding longest_within punctuators found logical trigraph suffix_of simple elements strings_made is_expanded arguments_put all_joined substituted
    arguments_in turn arguments_expanded replace walk expanded_by expanded read value_of holds line_ends lines_of parsed groups run_done
    include_done line_done directive_done defined_resolved branch_taken skipped branches_skipped group_done branches_done branches_left
    file_done entered phase4 stdbool_h
redefined_alike_with_ellipsis = refl

plain_identifier_in_text : of_files ((codes "main.c", codes "__VA_ARGS__\n") ∷ [])
    ≡ Prints (codes "__VA_ARGS__")
unfolding longest_within punctuators found logical trigraph suffix_of simple elements strings_made is_expanded arguments_put all_joined substituted
    arguments_in turn arguments_expanded replace walk expanded_by expanded read value_of holds line_ends lines_of parsed groups run_done
    include_done line_done directive_done defined_resolved branch_taken skipped branches_skipped group_done branches_done branches_left
    file_done entered phase4 stdbool_h
plain_identifier_in_text = refl
