-- Quotes that are not closed on their line.
use Rattle.std.specs.Prelude.{◌≡◌, ℕ, zero, suc, ◌==◌, ◌&&◌, Bool, true, false, if◌then◌else◌, is_none, List, [], ◌∷◌}
use Rattle.phases.specs.declared.cursor.Hopeless.{Hopeless}
use Rattle.phases.specs.inside.Lexical.{to_close}

-- no quote `q` among the first `m` characters is closed
abbrev pub unclosed_for : ℕ → ℕ → List ℕ → Bool
unclosed_for q zero bs = true
unclosed_for q (suc m) [] = true
unclosed_for q (suc m) (b ∷ bs) = (if b == q then is_none (to_close q true false bs) else true) && unclosed_for q m bs

pub record IsHopeless (h : Hopeless) (bs : List ℕ) : Type 0 where
  pub single : unclosed_for 39 h.single bs ≡ true
  pub double : unclosed_for 34 h.double bs ≡ true
