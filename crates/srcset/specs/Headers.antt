-- The built-in headers.
use Rattle.std.specs.Prelude.{ℕ, List, [], ◌∷◌, ◌++◌, codes, Option, Some, None, if◌then◌else◌}
use Rattle.std.specs.Str.{bytes_eq}

-- the lines, each of them ended by a newline
abbrev pub lines_of : List (List ℕ) → List ℕ
lines_of [] = []
lines_of (line ∷ lines) = line ++ codes "\n" ++ lines_of lines

-- a line for each macro, given by its name and its replacement
abbrev pub defines_of : List (List ℕ) → List ℕ
defines_of [] = []
defines_of (row ∷ rows) = codes "#define " ++ row ++ codes "\n" ++ defines_of rows

-- the calls of the compiler's own
unfoldable pub rvio_h : List ℕ
rvio_h = lines_of (codes "int rv_getbyte(void);" ∷ codes "void rv_putbyte(int c);" ∷ codes "void rv_exit(int status);" ∷ [])

-- <limits.h>, ISO/IEC 9899:2011 5.2.4.2.1
unfoldable pub limits_h : List ℕ
limits_h =
    defines_of (
    codes "CHAR_BIT 8" ∷
    codes "SCHAR_MIN (-128)" ∷
    codes "SCHAR_MAX 127" ∷
    codes "UCHAR_MAX 255" ∷
    codes "CHAR_MIN 0" ∷
    codes "CHAR_MAX 255" ∷
    codes "MB_LEN_MAX 1" ∷
    codes "SHRT_MIN (-32768)" ∷
    codes "SHRT_MAX 32767" ∷
    codes "USHRT_MAX 65535" ∷
    codes "INT_MIN (-2147483647-1)" ∷
    codes "INT_MAX 2147483647" ∷
    codes "UINT_MAX 4294967295U" ∷
    codes "LONG_MIN (-2147483647L-1L)" ∷
    codes "LONG_MAX 2147483647L" ∷
    codes "ULONG_MAX 4294967295UL" ∷ [])

-- <stdbool.h>, ISO/IEC 9899:2011 7.18
unfoldable pub stdbool_h : List ℕ
stdbool_h = defines_of (codes "bool _Bool" ∷ codes "true 1" ∷ codes "false 0" ∷ codes "__bool_true_false_are_defined 1" ∷ [])

-- <iso646.h>, ISO/IEC 9899:2011 7.9
unfoldable pub iso646_h : List ℕ
iso646_h =
    defines_of (
    codes "and &&" ∷
    codes "and_eq &=" ∷
    codes "bitand &" ∷
    codes "bitor |" ∷
    codes "compl ~" ∷
    codes "not !" ∷
    codes "not_eq !=" ∷
    codes "or ||" ∷
    codes "or_eq |=" ∷
    codes "xor ^" ∷
    codes "xor_eq ^=" ∷ [])

-- the text of the built-in header with this name
abbrev pub header_of : List ℕ → Option (List ℕ)
header_of name =
    if bytes_eq name (codes "rvio.h") then Some rvio_h else
    if bytes_eq name (codes "limits.h") then Some limits_h else
    if bytes_eq name (codes "stdbool.h") then Some stdbool_h else
    if bytes_eq name (codes "iso646.h") then Some iso646_h else
    None
