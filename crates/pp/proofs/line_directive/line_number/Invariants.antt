use Rattle.std.proofs.Common.{◌≡◌, ◌≤◌, drop}
use Rattle.std.specs.List.{list_all}
use Rattle.phases.specs.Characters.{is_digit}
use Rattle.lexer.specs.Digits.{value_behind}
use Rattle.pp.proofs.line_directive.line_number.Given as goal

abbrev pub invariant-loop-byte : goal.invariant-loop-byte
invariant-loop-byte l = record {
  low : l.value ≤ 2147483647;
  digits : list_all is_digit l.text ≡ list_all is_digit (drop l.byte-index l.text);
  number : value_behind 10 0 l.text ≡ value_behind 10 l.value (drop l.byte-index l.text);
}
