-- The state of a literal that is read byte by byte.
use Rattle.std.specs.Prelude.{ℕ, ◌==◌, Bool, false, if◌then◌else◌, List}
use Rattle.phases.specs.declared.kinds.Quote.{Quote}
use Rattle.phases.specs.declared.kinds.Quote.TheVariants.{Open, Escaped, Closed, Broken}
use Rattle.phases.specs.Characters.{newline, backslash}
use Rattle.phases.specs.Grammar.{is_empty, closes_quote, escapes}

-- the state after one more byte, which is no newline
abbrev pub quote_with : Quote → ℕ → ℕ → Quote
quote_with Open quote b = if b == quote then Closed else if b == backslash then Escaped else Open
quote_with Escaped quote b = Open
quote_with Closed quote b = Broken
quote_with Broken quote b = Broken

abbrev pub quote_after : Quote → ℕ → ℕ → Quote
quote_after state quote b = if b == newline then Broken else quote_with state quote b

-- whether the following bytes close it
abbrev pub closes_from : Quote → ℕ → List ℕ → Bool
closes_from Open quote bs = closes_quote quote bs
closes_from Escaped quote bs = escapes quote bs
closes_from Closed quote bs = is_empty bs
closes_from Broken quote bs = false
