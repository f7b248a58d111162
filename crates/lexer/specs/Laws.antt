-- Laws of the definitions, in the words of ISO/IEC 9899:2011 6.4.4 and 6.4.5: constants are read by their digits,
-- have values of their types, and the characters of literals are bytes. And laws of the first tokens of a list.
use Rattle.std.specs.Prelude.{◌≡◌, ℕ, ◌<◌, ◌^◌, ◌==◌, ◌&&◌, nat_le, not, Bool, true, false, pos, List, [], ◌∷◌, ◌++◌, length, Ok, Some, None}
use Rattle.std.specs.Fmt.{digits}
use Rattle.std.specs.List.{list_all}
use Rattle.phases.specs.Characters.{backslash, double_quote}
use Rattle.phases.specs.Token.{Token as PpToken}
use Rattle.srcset.specs.NameTable.{Texts, KeepsNumbers}
use Rattle.srcset.specs.declared.fault.Fault.{Fault}
use Rattle.srcset.specs.declared.refusal.Refusal.{Refusal}
use Rattle.ctypes.specs.Types.{is_value_of}
use Rattle.lexer.specs.declared.token.Kind.{Kind}
use Rattle.lexer.specs.declared.token.Kind.TheVariants as kind
use Rattle.lexer.specs.declared.token.Token.{Token}
use Rattle.lexer.specs.declared.reading.Lexer.{Lexer}
use Rattle.lexer.specs.CTokens.{ctokens}
use Rattle.lexer.specs.Digits.{value_of}
use Rattle.lexer.specs.Literals.{is_plain, first_part, elements, string}
use Rattle.lexer.specs.Meanings.{CToken}
use Rattle.lexer.specs.Numbering.{IsTokenFault}
use Rattle.lexer.specs.Reading.{finished, HasRead, HasTakenUp, refusal_of}

-- the digits of a number denote that number, in decimal, in octal and, of either case, in hexadecimal
pub record AreDigitsOf (n : ℕ) : Type 0 where
  pub decimal : value_of 10 (digits 10 false n) ≡ n
  pub octal : value_of 8 (digits 8 false n) ≡ n
  pub small : value_of 16 (digits 16 false n) ≡ n
  pub capital : value_of 16 (digits 16 true n) ≡ n

abbrev pub DigitsStandForTheirNumber : ℕ → Type 0
DigitsStandForTheirNumber n = n < 2 ^ 64 → AreDigitsOf n

-- the bytes of a string literal are values of unsigned char
abbrev pub HasBytes : List ℕ → Type 0
HasBytes spelling = (bytes : List ℕ) → string spelling ≡ Ok bytes → list_all (λ b. nat_le b 255) bytes ≡ true

-- a printable character, or a tab, that begins no escape sequence
abbrev pub stands_for_itself : ℕ → Bool
stands_for_itself b = is_plain b && not (b == backslash)

-- a literal without escape sequences denotes its own characters
abbrev pub IsItself : List ℕ → Type 0
IsItself text = list_all stands_for_itself text ≡ true → string (double_quote ∷ text ++ double_quote ∷ []) ≡ Ok text

-- the first part between the quotes, b ∷ bs, denotes one element, and the text after it the others
abbrev pub GoesOnBehind : ℕ → List ℕ → List ℕ → Type 0
GoesOnBehind b bs rest =
    (first_part b (bs ++ rest)).count ≡ length (b ∷ bs) → elements 0 (b ∷ bs ++ rest) ≡ (first_part b (bs ++ rest)).element ∷ elements 0 rest

-- a constant is a value of its type
abbrev pub is_in_its_type : Kind → Bool
is_in_its_type (kind.Constant type value) = is_value_of type (pos value)
is_in_its_type k = true

abbrev pub AreInTheirTypes : List Token → Type 0
AreInTheirTypes ts = list_all (λ t. is_in_its_type t.kind) ts ≡ true

-- the fault of the first tokens is the fault of all
abbrev pub FaultStays : Type 0
FaultStays = (front rest : List PpToken) (r : Refusal) → (ctokens front).fault ≡ Some r → (ctokens (front ++ rest)).fault ≡ Some r

-- an error that reports the fault of the first tokens reports that of all
abbrev pub ToldStays : Type 0
ToldStays = (front rest : List PpToken) (fault : Fault) (texts : Texts) → IsTokenFault fault texts (ctokens front).fault → IsTokenFault fault texts (ctokens (front ++ rest)).fault

-- the finished C tokens of the first tokens are the first C tokens of all
abbrev pub FinishedStay : Type 0
FinishedStay = (front rest : List PpToken) → (more : List CToken) × ((ctokens (front ++ rest)).tokens ≡ finished (ctokens front).tokens ++ more)

-- the tokens that a lexer has read stay read when the table gains texts
abbrev pub ReadIsKept : Type 0
ReadIsKept = (texts later : Texts) (front : List PpToken) (lexer : Lexer) → HasRead texts front lexer → KeepsNumbers texts later → HasRead later front lexer

-- the table under which a lexer has read tokens has their texts
abbrev pub ReadIsTakenUp : Type 0
ReadIsTakenUp = (texts : Texts) (front : List PpToken) (lexer : Lexer) → HasRead texts front lexer → refusal_of lexer ≡ None → HasTakenUp texts front texts
