-- Functions of the items so far.
use Rattle.std.proofs.Common.{◌≡◌, ℕ, ◌+◌, ◌<◌, Bool, true, false, ◌||◌, List, [], ◌∷◌, ◌++◌, take, get_or, length, refl, ap, sym, ◌∙◌}
use Rattle.std.proofs.lemmas.List.{take_more}
use Rattle.typing_spec.specs.Program.{Arguments}
use Rattle.typed_ast.specs.View.{Given, number_given, array_given, and_given}
use Rattle.lower_correct.specs.Values.{arguments_call, arguments_write}
use Rattle.lower_exprs.specs.inside.Given.{given_calls, given_writes}

or_false : (b : Bool) → b || false ≡ b
or_false true = refl
or_false false = refl

or_assoc : (a b c : Bool) → (a || b) || c ≡ a || (b || c)
or_assoc true b c = refl
or_assoc false b c = refl

some_snoc : {X : Type 0} (G : List X → Bool) (g : X → Bool) → G [] ≡ false → ((x : X) (xs : List X) → G (x ∷ xs) ≡ g x || G xs) → (xs : List X) (y : X) → G (xs ++ y ∷ []) ≡ G xs || g y
some_snoc G g none step [] y = step y [] ∙ ap (λ k. g y || k) none ∙ or_false (g y) ∙ ap (λ k. k || g y) (sym none)
some_snoc G g none step (x ∷ xs) y =
    step x (xs ++ y ∷ []) ∙ ap (λ k. g x || k) (some_snoc G g none step xs y) ∙ sym (or_assoc (g x) (G xs) (g y)) ∙ ap (λ k. k || g y) (sym (step x xs))

pub next_some : {X : Type 0} (G : List X → Bool) (g : X → Bool) → G [] ≡ false → ((x : X) (xs : List X) → G (x ∷ xs) ≡ g x || G xs)
    → (xs : List X) (i : ℕ) (x : X) → i < length xs → (some more next : Bool) → some ≡ G (take i xs) → x ≡ get_or xs i x → more ≡ g x → next ≡ some || more → next ≡ G (take (i + 1) xs)
next_some G g none step xs i x l some more next a e m n =
    n ∙ ap (λ k. k || more) a ∙ ap (λ k. G (take i xs) || k) (m ∙ ap g e) ∙ sym (ap G (take_more xs i x l) ∙ some_snoc G g none step (take i xs) (get_or xs i x))

-- ---- arguments

pub calls_step : (a : Given) (more : Arguments) → arguments_call (and_given a more) ≡ given_calls a || arguments_call more
calls_step (number_given t e) more = refl
calls_step (array_given p) more = refl

pub writes_step : (a : Given) (more : Arguments) (x : ℕ) → arguments_write (and_given a more) x ≡ given_writes a x || arguments_write more x
writes_step (number_given t e) more x = refl
writes_step (array_given p) more x = refl
