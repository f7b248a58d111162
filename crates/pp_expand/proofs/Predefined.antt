-- The token of a predefined macro, from its parts.
use Rattle.std.proofs.Common.{◌≡◌, ℕ, List, Bool, ap, ◌∙◌}
use Rattle.srcset.specs.declared.refusal.Pos.{Pos}
use Rattle.phases.specs.declared.token.Kind.{Kind}
use Rattle.phases.specs.Token.{Token}
use Rattle.macros_substitution.specs.Substitution.{Hidden}
use Rattle.pp_expand.specs.Expansion.{Known, predefined_token, predefined_front}

pub token_is : (known : Known) (x : Hidden) (token : Token) (k : Kind) (s name : List ℕ) (b : Bool) (pos : Pos) → token ≡ record { kind = k; spelling = s; space_before = b; pos = pos } → (k, s) ≡ predefined_token known name pos → name ≡ x.token.spelling → b ≡ x.token.space_before → pos ≡ x.token.pos → record { token = token; hides = x.hides } ≡ predefined_front known x
token_is known x token k s name b pos t p n m q =
    ap (λ (t : Token). let h : Hidden = record { token = t; hides = x.hides } in h) t ∙ ap (λ (z : Kind × List ℕ). let h : Hidden = record { token = record { kind = z.0; spelling = z.1; space_before = b; pos = pos }; hides = x.hides } in h) p ∙ ap (λ (n : List ℕ). let h : Hidden = record { token = record { kind = (predefined_token known n pos).0; spelling = (predefined_token known n pos).1; space_before = b; pos = pos }; hides = x.hides } in h) n ∙ ap (λ (b : Bool). let h : Hidden = record { token = record { kind = (predefined_token known x.token.spelling pos).0; spelling = (predefined_token known x.token.spelling pos).1; space_before = b; pos = pos }; hides = x.hides } in h) m ∙ ap (λ (pos : Pos). let h : Hidden = record { token = record { kind = (predefined_token known x.token.spelling pos).0; spelling = (predefined_token known x.token.spelling pos).1; space_before = x.token.space_before; pos = pos }; hides = x.hides } in h) q
