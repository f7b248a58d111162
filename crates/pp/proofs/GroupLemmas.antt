-- Lines of text in a run.
use Rattle.std.proofs.Common.{◌≡◌, List, [], ◌∷◌, ◌++◌, Bool, true, false, refl, sym, ap, ◌∙◌}
use Rattle.std.specs.Prelude.{◌&&◌}
use Rattle.phases.specs.Token.{Token}
use Rattle.pp.specs.Groups.{Group, ends, run, directive, section, open_section, missing_end, unbalanced, with_text, behind_newline}
use Rattle.pp.specs.Rest.{pending}
use Rattle.pp.specs.inside.Stepping.{behind_line}

newline_twice : (ys : List Token) → behind_newline (behind_newline ys) ≡ behind_newline ys
newline_twice [] = refl
newline_twice (y ∷ ys) = refl

newline_front : (ts ys : List Token) → behind_newline (ts ++ behind_newline ys) ≡ behind_newline ts ++ behind_newline ys
newline_front [] ys = newline_twice ys
newline_front (t ∷ ts) ys = refl

append_assoc : (xs ys zs : List Token) → xs ++ (ys ++ zs) ≡ (xs ++ ys) ++ zs
append_assoc [] ys zs = refl
append_assoc (x ∷ xs) ys zs = ap (λ l. x ∷ l) (append_assoc xs ys zs)

pub text_twice : (xs ts : List Token) (g : Group) → with_text xs (with_text ts g) ≡ with_text (xs ++ behind_newline ts) g
text_twice xs ts ends = refl
text_twice xs ts (run ys g) =
    ap (λ l. run l g) (ap (λ l. xs ++ l) (newline_front ts ys) ∙ append_assoc xs (behind_newline ts) (behind_newline ys))
text_twice xs ts (directive l g) = refl
text_twice xs ts (section bs e g) = refl
text_twice xs ts (open_section bs) = refl
text_twice xs ts missing_end = refl
text_twice xs ts (unbalanced at) = refl

later_line : (ts : List Token) → behind_line true ts ≡ behind_newline ts
later_line [] = refl
later_line (t ∷ ts) = refl

first_line_of : (ts : List Token) → behind_line false ts ≡ ts
first_line_of [] = refl
first_line_of (t ∷ ts) = refl

-- a text line goes to the run
pub text_pending : (b : Bool) (xs ts : List Token) (g : Group) → (b ≡ false → xs ≡ []) → pending b xs (with_text ts g) ≡ pending true (xs ++ behind_line b ts) g
text_pending false xs ts g fresh = ap (λ l. with_text l g) (sym (first_line_of ts) ∙ ap (λ l. l ++ behind_line false ts) (sym (fresh refl)))
text_pending true xs ts g fresh = text_twice xs ts g ∙ ap (λ l. with_text (xs ++ l) g) (sym (later_line ts))

pub and_left : (a b : Bool) → (a && b) ≡ true → a ≡ true
and_left true b e = refl
and_left false b e = e

pub and_right : (a b : Bool) → (a && b) ≡ true → b ≡ true
and_right true b e = e
and_right false true e = refl
and_right false false e = e
