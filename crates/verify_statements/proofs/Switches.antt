-- A switch, from the results for each part.
use Rattle.std.proofs.Common.{◌≡◌, ◌<◌, ◌∙◌, ◌++◌, ℕ, zero, suc, ℤ, List, [], ◌∷◌, map, length, get_or, refl, sym, subst, arith}
use Rattle.std.specs.Prelude.{Option, Some, None, Bool, true, false}
use Rattle.ctypes.specs.declared.types.IntType.{IntType}
use Rattle.typing_spec.specs.Program as typed
use Rattle.typing_spec.specs.Program.{Value, Statement, Statements}
use Rattle.typed_ast.specs.declared.statements.Statement as held
use Rattle.typed_ast.specs.View.{statement_of, statements_of}
use Rattle.csem.specs.Statements.{labels_at, labels_of}
use Rattle.verify_logic.specs.declared.abstract_values.Interval.{Interval}
use Rattle.verify_logic.specs.States.{Known, Frame, Implies}
use Rattle.verify_logic.specs.Judgements.{Evaluates}
use Rattle.verify_logic.specs.Statements.{Ways, Executes, Enters, Follows, Renews, has_default}
use Rattle.verify_logic.proofs.StatementRules.{enters_none, enters_label, enters_statement, switch_rule, switch_ways, with_normal}
use Rattle.verify_logic.proofs.Objects.{implies_then}
use Rattle.verify_statements.specs.Switches.{is_default, is_label, EntersOne, EntersLabel, EntersAll}

label_at : (a : Statement) → is_label a ≡ true → (v : Option ℤ) × (labels_at a ≡ v ∷ [])
label_at (typed.case v) e = (Some v, refl)
label_at typed.default e = (None, refl)
label_at typed.empty e = absurd (cc e)
label_at (typed.evaluate x) e = absurd (cc e)
label_at (typed.declare n) e = absurd (cc e)
label_at (typed.define n i) e = absurd (cc e)
label_at (typed.block first count all) e = absurd (cc e)
label_at (typed.branch x a) e = absurd (cc e)
label_at (typed.branches x a b) e = absurd (cc e)
label_at (typed.switch t x first count all) e = absurd (cc e)
label_at (typed.while x a) e = absurd (cc e)
label_at (typed.do_while a x) e = absurd (cc e)
label_at (typed.for declared start test step a) e = absurd (cc e)
label_at typed.break e = absurd (cc e)
label_at typed.continue e = absurd (cc e)
label_at typed.return_nothing e = absurd (cc e)
label_at (typed.return_value t x) e = absurd (cc e)

no_label : (a : Statement) → is_label a ≡ false → labels_at a ≡ []
no_label (typed.case v) e = absurd (cc e)
no_label typed.default e = absurd (cc e)
no_label typed.empty e = refl
no_label (typed.evaluate x) e = refl
no_label (typed.declare n) e = refl
no_label (typed.define n i) e = refl
no_label (typed.block first count all) e = refl
no_label (typed.branch x a) e = refl
no_label (typed.branches x a b) e = refl
no_label (typed.switch t x first count all) e = refl
no_label (typed.while x a) e = refl
no_label (typed.do_while a x) e = refl
no_label (typed.for declared start test step a) e = refl
no_label typed.break e = refl
no_label typed.continue e = refl
no_label typed.return_nothing e = refl
no_label (typed.return_value t x) e = refl

pub label_one : (fr : Frame) (entry : Option Known) (so_far : Ways) (b : Bool) (a : Statement) (w : Ways) → b ≡ is_label a → b ≡ true → EntersLabel fr entry so_far a w → EntersOne fr entry so_far a w
label_one fr entry so_far b a w eb et h = let q = label_at a (sym eb ∙ et) in record {
  leads = λ more out k. enters_label fr entry so_far a q.0 h.both w more out q.1 h.jumped h.behind h.follows k;
}

pub statement_one : (fr : Frame) (entry : Option Known) (so_far : Ways) (b : Bool) (a : Statement) (w : Ways) → b ≡ is_label a → b ≡ false → Follows fr so_far a w → EntersOne fr entry so_far a w
statement_one fr entry so_far b a w eb ef h = record { leads = λ more out k. enters_statement fr entry so_far a w more out (no_label a (sym eb ∙ ef)) h k }

pub label_follows : (fr : Frame) (entry copy : Option Known) (so_far before : Ways) (both : Option Known) (a : Statement) (w : Ways) → copy ≡ entry → Implies copy both → Implies so_far.normal both → before ≡ with_normal both so_far → Follows fr before a w →
    EntersLabel fr entry so_far a w
label_follows fr entry copy so_far before both a w ec hc hs eb h =
    let P : Option Known → Type 0 = λ o. Implies o both in
    let Q : Ways → Type 0 = λ v. Follows fr v a w in
    record { both = both; jumped = subst P ec hc; behind = hs; follows = subst Q eb h }

-- ---- the statements of a switch, one by one

pub one_less : (fr : Frame) (entry : Option Known) (xs : List held.Statement) (x : held.Statement) (more : List held.Statement) (w w2 out : Ways) → xs ≡ x ∷ more → EntersOne fr entry w (statement_of x) w2 →
    Enters fr entry w2 (statements_of (map statement_of more)) out → Enters fr entry w (statements_of (map statement_of xs)) out
one_less fr entry xs x more w w2 out e h k =
    let P : List held.Statement → Type 0 = λ xs. Enters fr entry w (statements_of (map statement_of xs)) out in
    subst P (sym e) (h.leads (statements_of (map statement_of more)) out k)

pub none_left : (fr : Frame) (entry : Option Known) (xs : List held.Statement) (w : Ways) → length xs ≡ 0 → Enters fr entry w (statements_of (map statement_of xs)) w
none_left fr entry [] w e = enters_none fr entry w
none_left fr entry (x ∷ xs) w e = absurd (cc e)

pub enters_all : (fr : Frame) (entry : Option Known) (all : Statements) (nothing w : Ways) → Enters fr entry nothing all w → EntersAll fr entry all w
enters_all fr entry all nothing w h = record { nothing = nothing; enters = h }

-- ---- default

default_first : (a : Statement) (labels : List (Option ℤ)) → is_default a ≡ true → has_default (labels_at a ++ labels) ≡ true
default_first typed.default labels e = refl
default_first (typed.case v) labels e = absurd (cc e)
default_first typed.empty labels e = absurd (cc e)
default_first (typed.evaluate x) labels e = absurd (cc e)
default_first (typed.declare n) labels e = absurd (cc e)
default_first (typed.define n i) labels e = absurd (cc e)
default_first (typed.block first count all) labels e = absurd (cc e)
default_first (typed.branch x a) labels e = absurd (cc e)
default_first (typed.branches x a b) labels e = absurd (cc e)
default_first (typed.switch t x first count all) labels e = absurd (cc e)
default_first (typed.while x a) labels e = absurd (cc e)
default_first (typed.do_while a x) labels e = absurd (cc e)
default_first (typed.for declared start test step a) labels e = absurd (cc e)
default_first typed.break labels e = absurd (cc e)
default_first typed.continue labels e = absurd (cc e)
default_first typed.return_nothing labels e = absurd (cc e)
default_first (typed.return_value t x) labels e = absurd (cc e)

default_behind : (before labels : List (Option ℤ)) → has_default labels ≡ true → has_default (before ++ labels) ≡ true
default_behind [] labels e = e
default_behind (None ∷ before) labels e = refl
default_behind (Some v ∷ before) labels e = default_behind before labels e

default_at : (xs : List held.Statement) (n : ℕ) (d : held.Statement) → n < length xs → is_default (statement_of (get_or xs n d)) ≡ true → has_default (labels_of (statements_of (map statement_of xs))) ≡ true
default_at [] n d lt e = absurd (omega (arith, lt))
default_at (x ∷ xs) zero d lt e = default_first (statement_of x) (labels_of (statements_of (map statement_of xs))) e
default_at (x ∷ xs) (suc n) d lt e = default_behind (labels_at (statement_of x)) (labels_of (statements_of (map statement_of xs))) (default_at xs n d (let q : suc n < suc (length xs) = lt in omega (arith, q)) e)

pub default_there : (xs : List held.Statement) (n : ℕ) (x : held.Statement) (b : Bool) → n < length xs → x ≡ get_or xs n x → b ≡ is_default (statement_of x) → b ≡ true → has_default (labels_of (statements_of (map statement_of xs))) ≡ true
default_there xs n x b lt ex eb et = let P : held.Statement → Type 0 = λ y. is_default (statement_of y) ≡ true in default_at xs n x lt (subst P ex (sym eb ∙ et))

-- ---- the whole

pub switch_as : (fr : Frame) (t : IntType) (e : Value) (first count : ℕ) (all : Statements) (o : Option Known) (i : Interval) (o2 o3 : Option Known) (w : Ways) (both out : Option Known) (any : Bool) → Evaluates fr e o i o2 → Renews fr first count o2 o3 →
    EntersAll fr o3 all w → Implies w.normal both → Implies w.broken both → (any ≡ true → has_default (labels_of all) ≡ true) → Implies both out → (any ≡ false → Implies o3 out) → Executes fr (typed.switch t e first count all) o (switch_ways out w)
switch_as fr t e first count all o i o2 o3 w both out any he hr h n b d bo x =
    switch_rule fr t e first count all o i o2 o3 h.nothing w out he hr h.enters (implies_then w.normal both out n bo) (implies_then w.broken both out b bo) (λ q. missing any refl q)
  where
    missing : (c : Bool) → c ≡ any → has_default (labels_of all) ≡ false → Implies o3 out
    missing true q f = absurd (let r : true ≡ false = sym (d (sym q)) ∙ f in cc r)
    missing false q f = x (sym q)
