-- Quick parts, which are therefore not left to be evaluated elsewhere.
use Rattle.std.proofs.Common.{◌≡◌, List, ◌∷◌, map, refl, subst}
use Rattle.std.specs.Prelude.{Bool, true, ◌&&◌}
use Rattle.std.proofs.lemmas.Bool.{and_from, and_parts}
use Rattle.typed_ast.specs.declared.statements.Statement.{Statement}
use Rattle.typed_ast.specs.View.{statement_of, statements_of}
use Rattle.interp_eval.specs.layer.Quick.{quick_all, quick_statement}

-- a loop with no step
pub no_step : (test a : Bool) → (test && a) ≡ true → (test && a && true) ≡ true
no_step test a q = and_from (test && a) true q refl

-- `for`
module _ (start test step declared a : Bool) (q : ((start && test && step) && declared && a) ≡ true) where
  before : ((start && test && step) && declared) ≡ true
  before = (and_parts ((start && test && step) && declared) a q).0

  control : ((start && test) && step) ≡ true
  control = (and_parts (start && test && step) declared before).0

  pub for_start : start ≡ true
  for_start = (and_parts start test (and_parts (start && test) step control).0).0

  pub for_declared : declared ≡ true
  for_declared = (and_parts (start && test && step) declared before).1

  pub for_turns : (test && a && step) ≡ true
  for_turns =
      let tests = (and_parts start test (and_parts (start && test) step control).0).1 in
      let body = (and_parts ((start && test && step) && declared) a q).1 in
      and_from (test && a) step (and_from test a tests body) (and_parts (start && test) step control).1

-- statements one after the other
all_quick : (xs : List Statement) (x : Statement) (more : List Statement) → xs ≡ x ∷ more → quick_all (statements_of (map statement_of xs)) ≡ true →
    (quick_statement (statement_of x) ≡ true) × (quick_all (statements_of (map statement_of more)) ≡ true)
all_quick xs x more e q =
    let P : List Statement → Type 0 = λ xs. quick_all (statements_of (map statement_of xs)) ≡ true in
    and_parts (quick_statement (statement_of x)) (quick_all (statements_of (map statement_of more))) (subst P e q)

pub first_quick : (xs : List Statement) (x : Statement) (more : List Statement) → xs ≡ x ∷ more → quick_all (statements_of (map statement_of xs)) ≡ true → quick_statement (statement_of x) ≡ true
first_quick xs x more e q = (all_quick xs x more e q).0

pub rest_quick : (xs : List Statement) (x : Statement) (more : List Statement) → xs ≡ x ∷ more → quick_all (statements_of (map statement_of xs)) ≡ true →
    quick_all (statements_of (map statement_of more)) ≡ true
rest_quick xs x more e q = (all_quick xs x more e q).1
