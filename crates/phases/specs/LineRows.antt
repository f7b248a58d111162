-- Rows of the token lines.
use Rattle.std.specs.Prelude.{ℕ, List, [], ◌∷◌, ◌++◌, Result, Ok, Err, codes, ◌≡◌, refl}
use Rattle.srcset.specs.declared.refusal.Refusal.{Refusal}
use Rattle.srcset.specs.declared.refusal.Refusal.TheVariants.{Memory, At, Told}
use Rattle.phases.specs.Text.{logical, trigraph}
use Rattle.phases.specs.Grammar.{longest_within, punctuators}
use Rattle.srcset.specs.Codes.{number_of}
use Rattle.phases.specs.Token.{Token}
use Rattle.phases.specs.Lines.{found, scanned}

-- each token with its line, in bytes
abbrev pub shown_line : List Token → List ℕ
shown_line [] = 10 ∷ []
shown_line (x ∷ xs) = x.spelling ++ 32 ∷ shown_line xs

abbrev pub shown_lines : List (List Token) → List ℕ
shown_lines [] = []
shown_lines (l ∷ ls) = shown_line l ++ shown_lines ls

abbrev pub shown_refusal : Refusal → List ℕ
shown_refusal Memory = []
shown_refusal (At code pos) = number_of code ∷ pos.line ∷ []
shown_refusal (Told code pos text) = []

abbrev pub shown : Result (List (List Token)) Refusal → List ℕ
shown (Ok ls) = shown_lines ls
shown (Err e) = shown_refusal e

pub row_splice_and_trigraph : shown (scanned 0 (codes "int main(void) { re\\\nturn 3; }\n??=define X 7\n")) ≡ codes "int main ( void ) { return 3 ; } \n# define X 7 \n"
unfolding logical found trigraph longest_within punctuators
row_splice_and_trigraph = refl

pub row_comments : shown (scanned 0 (codes "a /* x\n */ b // c\n#include <a/*b>\n'x \"/*\" 1.e+5 @\n")) ≡ codes "a b \n# include <a/*b> \n' x \"/*\" 1.e+5 @ \n"
unfolding logical found trigraph longest_within punctuators
row_comments = refl

pub row_no_newline : shown (scanned 0 (codes "a\nb")) ≡ 111 ∷ 2 ∷ []
unfolding logical found trigraph longest_within punctuators
row_no_newline = refl

pub row_splice_at_end : shown (scanned 0 (codes "a\nb??/\n")) ≡ 112 ∷ 2 ∷ []
unfolding logical found trigraph longest_within punctuators
row_splice_at_end = refl

pub row_unclosed : shown (scanned 0 (codes "a\n /*\nb\n")) ≡ 113 ∷ 2 ∷ []
unfolding logical found trigraph longest_within punctuators
row_unclosed = refl

pub row_header_only_after_include : shown (scanned 0 (codes "#define <a> x\n# include <a b>\n %: /**/include \"a\\\"\n")) ≡ codes "# define < a > x \n# include <a b> \n%: include \"a\\\" \n"
unfolding logical found trigraph longest_within punctuators
row_header_only_after_include = refl

pub row_longest : shown (scanned 0 (codes "a>>=b+++c%:%:...<::>.5e-3+x.'\\'' u8\"\" L'' ..\n")) ≡ codes "a >>= b ++ + c %:%: ... <: :> .5e-3 + x . '\\'' u8\"\" L ' ' . . \n"
unfolding logical found trigraph longest_within punctuators
row_longest = refl
