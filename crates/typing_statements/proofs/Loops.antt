-- The declarations that the first part of a `for` may not contain.
use Rattle.std.proofs.Common.{◌≡◌, ℕ, ◌+◌, Bool, true, false, not, ◌||◌, nat_eq, List, [], ◌∷◌, map, refl, sym, ap, ◌∙◌, arith}
use Rattle.std.specs.List.{list_any}
use Rattle.tree.specs.declared.declaration.Item.{Item}
use Rattle.tree.specs.declared.declaration.Item.TheVariants as item
use Rattle.tree.specs.declared.declaration.Specifier.{Specifier}
use Rattle.tree.specs.declared.declaration.Specifier.TheVariants.{Extern, Static, Plain, Enumerators}
use Rattle.tree.specs.View.{item_of, specifier_of}
use Rattle.typing_spec.specs.Declarations.{classes_of, lists_in}
use Rattle.typing_spec.specs.Statements as typed
use Rattle.typing_spec.specs.Statements.{has_class}
use Rattle.typing_statements.specs.inside.Loops.{declares_function, is_kept_out, unfit}

functions_in : (is : List Item) → list_any declares_function is ≡ typed.declares_function (map item_of is)
functions_in [] = refl
functions_in (item.Object o ∷ is) = functions_in is
functions_in (item.Function f ∷ is) = refl

abbrev kept : List Specifier → Bool
kept ss = has_class (classes_of (map specifier_of ss)) || not (nat_eq (lists_in (map specifier_of ss)) 0)

some : (n : ℕ) → nat_eq (n + 1) 0 ≡ false
some n = grind arith

or_true : (b : Bool) → b || true ≡ true
or_true true = refl
or_true false = refl

kept_out_in : (ss : List Specifier) → list_any is_kept_out ss ≡ kept ss
kept_out_in [] = refl
kept_out_in (Extern ∷ ss) = refl
kept_out_in (Static ∷ ss) = refl
kept_out_in (Plain s ∷ ss) = kept_out_in ss
kept_out_in (Enumerators tag list ∷ ss) =
    sym (ap (λ b. has_class (classes_of (map specifier_of ss)) || not b) (some (lists_in (map specifier_of ss))) ∙ or_true (has_class (classes_of (map specifier_of ss))))

or_or : (a b c : Bool) → a || (b || c) ≡ (a || b) || c
or_or true b c = refl
or_or false b c = refl

pub unfit_is : (ss : List Specifier) (is : List Item) → (list_any is_kept_out ss || list_any declares_function is) ≡ unfit (map specifier_of ss) (map item_of is)
unfit_is ss is =
    sym (or_or (has_class (classes_of (map specifier_of ss))) (not (nat_eq (lists_in (map specifier_of ss)) 0)) (typed.declares_function (map item_of is))
    ∙ ap (λ b. b || typed.declares_function (map item_of is)) (sym (kept_out_in ss)) ∙ ap (λ b. list_any is_kept_out ss || b) (sym (functions_in is)))
