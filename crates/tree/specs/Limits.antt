-- The limits of a syntax tree (ISO/IEC 9899:2011 5.2.4.1 leaves them to the implementation, above its minima).
use Rattle.std.specs.Prelude.{ℕ}

-- the greatest depth
abbrev pub depth_limit : ℕ
depth_limit = 256

-- the most nodes of one function definition
abbrev pub function_node_limit : ℕ
function_node_limit = 8000

-- the most nodes of a translation unit
abbrev pub program_node_limit : ℕ
program_node_limit = 262144
