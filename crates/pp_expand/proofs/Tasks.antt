-- The replacements that tasks represent.
use Rattle.std.specs.Prelude.{Vec, nat_lt, option_map, codes}
use Rattle.std.proofs.Common.{◌≡◌, ℕ, suc, ◌-◌, ◌<◌, ◌≤◌, List, [], ◌∷◌, length, drop, get_or, slice_get, nat_eq, Bool, true, false, cond, Option, Some, None, Ok, Err, refl, sym, ap, ◌∙◌, arith}
use Rattle.std.specs.List.{list_any, filter}
use Rattle.std.proofs.lemmas.List.{length-map, length-append}
use Rattle.std.proofs.lemmas.Bool.Decides.{nat_tests}
use Rattle.std.specs.declared.alloc.Global.{Global}
use Rattle.srcset.specs.NameTable.{Texts, NumbersOnce}
use Rattle.srcset.specs.declared.code.Code.TheVariants as code
use Rattle.srcset.specs.declared.refusal.Refusal.{Refusal}
use Rattle.srcset.specs.declared.refusal.Refusal.TheVariants.{Memory, At, Told}
use Rattle.phases.specs.Token.{Token}
use Rattle.macros.specs.Macro.{Parameters, Macro, is_spelled}
use Rattle.macros.specs.Definition.{names_of, with_variable}
use Rattle.macros.specs.Table.{NumberedParameters, IsMacro, AreNumbered, AreParameters, places, is_variadic, numbers_of}
use Rattle.macros_substitution.specs.Substitution.{Hidden, common}
use Rattle.macros_substitution.specs.HideSets.{Sets, members, Extends, NamesBelow, name_of, spelled}
use Rattle.macros_substitution.specs.declared.piece.HiddenToken.{HiddenToken}
use Rattle.macros_substitution.specs.Meaning.{hidden_of, hidden_all, hidden_lists}
use Rattle.pp_expand.specs.declared.task.Task.{Task}
use Rattle.pp_expand.specs.declared.task.Step.TheVariants.{Replaced}
use Rattle.pp_expand.specs.declared.task.Turned.TheVariants.{Takes}
use Rattle.pp_expand.specs.Expansion.{Ending, Taken, separated, count_fault, arguments_for, arguments_in, opens, closes, separates, other, mark_of, Turn, stands, refused, replaced, object_turn, taken_turn, last_turn, function_turn, turn_by}
use Rattle.pp_expand.specs.inside.Turns.{gathered, TaskTurn, TurnIs}
use Rattle.pp_expand.proofs.Sets.{members_below, common_names, name_is}

-- ---- the names that a replacement hides

module _ (texts : Texts) (sets new later : Sets) (set : ℕ) (within : set ≤ length sets) (grown : Extends sets later) where
  -- one more name
  pub one_more : (n made : ℕ) (text : List ℕ) → slice_get texts n ≡ Some text → Extends new later → made ≤ length new → members new made ≡ n ∷ members sets set → text ∷ spelled texts (members later set) ≡ spelled texts (members later made)
  one_more n made text e grown_new below made_is =
      ap (λ t. t ∷ spelled texts (members later set)) (sym (name_is texts n text e)) ∙ ap (λ l. name_of texts n ∷ spelled texts l) (grown.same set within) ∙ ap (spelled texts) (sym made_is) ∙ ap (spelled texts) (sym (grown_new.same made below))

  -- the names that both hide
  pub both_hide : (closing : ℕ) → closing ≤ length sets → NumbersOnce texts → NamesBelow (length texts) sets → (made : ℕ) → Extends new later → made ≤ length new → members new made ≡ filter (λ n. list_any (nat_eq n) (members sets closing)) (members sets set) → common (spelled texts (members later set)) (spelled texts (members later closing)) ≡ spelled texts (members later made)
  both_hide closing within_other once below made grown_new made_below made_is =
      ap (λ l. common (spelled texts l) (spelled texts (members later closing))) (grown.same set within) ∙ ap (λ l. common (spelled texts (members sets set)) (spelled texts l)) (grown.same closing within_other) ∙ common_names texts once (members sets set) (members sets closing) (members_below (length texts) sets below set) (members_below (length texts) sets below closing) ∙ ap (spelled texts) (sym made_is) ∙ ap (spelled texts) (sym (grown_new.same made made_below))

-- ---- tasks

pub object_is : (texts : Texts) (later : Sets) (x : HiddenToken) (m : Macro) (rest : List HiddenToken) (k : Task) → IsMacro texts k.definition.now m → k.space_before ≡ x.token.space_before → k.at ≡ x.token.pos → k.arguments.items ≡ [] → x.token.spelling ∷ spelled texts (members later x.hides) ≡ spelled texts (members later k.hides) → TaskTurn texts later x.token.pos (object_turn (hidden_of texts later x) m (hidden_all texts later rest)) (Ok k) rest
object_is texts later x m rest k is_macro space at none hides = (
  _,
  (
    record {
      space_is = sym space;
      at_is = sym at;
      arguments_are = ap (hidden_lists texts later) (sym none);
      hides_are = hides;
      rest_is = refl;
      macro_is = is_macro;
    },
    refl,
  ),
)

module _ (x : Hidden) (m : Macro) (q : Parameters) where
  abbrev names : List (List ℕ)
  names = names_of (Some q)

  abbrev pub call_replaced : List (List Hidden) → Hidden → List Hidden → Turn
  call_replaced arguments close rest =
      replaced (record { name = x; call = record { macro = m; at = x.token.pos; arguments = arguments }; hides = x.token.spelling ∷ common x.hides close.hides; rest = rest })

  abbrev found : Option Taken → Option (List (List Hidden) × Hidden × List Hidden)
  found o = gathered q.variadic (length q.names) [] [] o

  pub not_closed : (o : Option Taken) → found o ≡ None → taken_turn x m q o ≡ refused code.OpenMacroArguments
  not_closed None h = refl
  not_closed (Some t) h = cc

  abbrev miscounted : ℕ → Turn
  miscounted count = refused (count_fault q.variadic (length q.names) count)

  abbrev counted : List (List Hidden) → Hidden → List Hidden → Turn
  counted arguments close rest =
      cond (nat_lt 127 (length arguments)) (refused code.MacroParameterLimit) (cond (nat_eq (length arguments) (length names)) (call_replaced arguments close rest) (miscounted (length arguments)))

  closed : (o : Option Taken) (z : List (List Hidden) × Hidden × List Hidden) → found o ≡ Some z → taken_turn x m q o ≡ counted (arguments_for names z.0) z.1 z.2
  closed None z h = cc
  closed (Some t) z h =
      let n : length q.names ≡ length q.names - 0 = omega arith in
      let f = ap (λ n. Some (separated q.variadic n t.first t.more, t.close, t.rest)) n ∙ h in
      let e : (separated q.variadic (length q.names) t.first t.more, t.close, t.rest) ≡ z = cc in
      ap (λ (z : List (List Hidden) × Hidden × List Hidden). counted (arguments_for names z.0) z.1 z.2) e

  module _ (o : Option Taken) (z : List (List Hidden) × Hidden × List Hidden) (h : found o ≡ Some z) where
    pub too_many : 127 < length (arguments_for names z.0) → taken_turn x m q o ≡ refused code.MacroParameterLimit
    too_many l =
        let b : nat_lt 127 (length (arguments_for names z.0)) ≡ true = grind (arith, nat_tests) in
        closed o z h ∙ ap (λ b. cond b (refused code.MacroParameterLimit) (cond (nat_eq (length (arguments_for names z.0)) (length names)) (call_replaced (arguments_for names z.0) z.1 z.2) (miscounted (length (arguments_for names z.0))))) b

    few : length (arguments_for names z.0) ≤ 127 → (d : Bool) → nat_eq (length (arguments_for names z.0)) (length names) ≡ d → taken_turn x m q o ≡ cond d (call_replaced (arguments_for names z.0) z.1 z.2) (miscounted (length (arguments_for names z.0)))
    few l d e =
        let b : nat_lt 127 (length (arguments_for names z.0)) ≡ false = grind (arith, nat_tests) in
        closed o z h ∙ ap (λ b. cond b (refused code.MacroParameterLimit) (cond (nat_eq (length (arguments_for names z.0)) (length names)) (call_replaced (arguments_for names z.0) z.1 z.2) (miscounted (length (arguments_for names z.0))))) b ∙ ap (λ d. cond d (call_replaced (arguments_for names z.0) z.1 z.2) (miscounted (length (arguments_for names z.0)))) e

    pub wrong_count : (count : ℕ) → length (arguments_for names z.0) ≡ count → count ≤ 127 → (count ≡ length names → ⊥) → taken_turn x m q o ≡ miscounted count
    wrong_count count is l n =
        let d : nat_eq (length (arguments_for names z.0)) (length names) ≡ false = grind (arith, nat_tests) in
        few (omega (arith, is, l)) false d ∙ ap miscounted is

    pub called : length (arguments_for names z.0) ≤ 127 → length (arguments_for names z.0) ≡ length names → taken_turn x m q o ≡ call_replaced (arguments_for names z.0) z.1 z.2
    called l n =
        let d : nat_eq (length (arguments_for names z.0)) (length names) ≡ true = grind (arith, nat_tests) in
        few l true d

pub same_call : (o : Option Taken) (v w : Bool) (n m : ℕ) → v ≡ w → n ≡ m → gathered v n [] [] o ≡ gathered w m [] [] o
same_call o v w n m e k = ap (λ v. gathered v n [] [] o) e ∙ ap (λ n. gathered w n [] [] o) k

pub lists_length : (texts : Texts) (sets : Sets) (lists : List (Vec HiddenToken Global)) → length (hidden_lists texts sets lists) ≡ length lists
lists_length texts sets lists = length-map lists (λ (v : Vec HiddenToken Global). hidden_all texts sets v.items)

-- a call's task
pub call_is : (texts : Texts) (later : Sets) (x close : HiddenToken) (m : Macro) (q : Parameters) (o : Option Taken) (given : List (List Hidden)) (after : List HiddenToken) (k : Task) → gathered q.variadic (length q.names) [] [] o ≡ Some (given, hidden_of texts later close, hidden_all texts later after) → IsMacro texts k.definition.now m → k.space_before ≡ x.token.space_before → k.at ≡ x.token.pos → hidden_lists texts later k.arguments.items ≡ arguments_for (names_of (Some q)) given → length k.arguments.items ≤ 127 → length k.arguments.items ≡ length (names_of (Some q)) → x.token.spelling ∷ common (spelled texts (members later x.hides)) (spelled texts (members later close.hides)) ≡ spelled texts (members later k.hides) → TaskTurn texts later x.token.pos (taken_turn (hidden_of texts later x) m q o) (Ok k) after
call_is texts later x close m q o given after k found is_macro space at arguments few count hides =
    let n : length (arguments_for (names_of (Some q)) given) ≡ length k.arguments.items = sym (ap length arguments) ∙ lists_length texts later k.arguments.items in (
      _,
      (
        record {
          space_is = sym space;
          at_is = sym at;
          arguments_are = sym arguments;
          hides_are = hides;
          rest_is = refl;
          macro_is = is_macro;
        },
        called (hidden_of texts later x) m q o (given, hidden_of texts later close, hidden_all texts later after) found (omega (arith, n, few)) (omega (arith, n, count)),
      ),
    )

-- ---- parameters

numbered_count : (texts : Texts) (ns : List ℕ) (names : List (List ℕ)) → AreNumbered texts ns names → length ns ≡ length names
numbered_count texts [] [] h = refl
numbered_count texts [] (t ∷ ts) h = absurd h
numbered_count texts (n ∷ ns) [] h = absurd h
numbered_count texts (n ∷ ns) (t ∷ ts) h = omega (arith, numbered_count texts ns ts h.1)

pub no_parameters : (texts : Texts) (n : Option NumberedParameters) (m : Option Parameters) → AreParameters texts n m → option_map places n ≡ None → m ≡ None
no_parameters texts None None h e = refl
no_parameters texts None (Some q) h e = absurd h
no_parameters texts (Some p) m h e = cc

places_count : (v : Bool) (n : ℕ) (names : List (List ℕ)) → n ≡ length names → length (with_variable v names) ≡ cond v (suc n) n
places_count true n names e = length-append names (codes "__VA_ARGS__" ∷ []) ∙ omega (arith, e)
places_count false n names e = sym e

pub some_parameters : (texts : Texts) (n : Option NumberedParameters) (m : Option Parameters) (count : ℕ) → AreParameters texts n m → option_map places n ≡ Some count → (q : Parameters) × ((m ≡ Some q) × (length (names_of (Some q)) ≡ count))
some_parameters texts None m count h e = cc
some_parameters texts (Some p) None count h e = absurd h
some_parameters texts (Some p) (Some q) count h e =
    let k : places p ≡ count = cc in
    (q, (refl, places_count q.variadic (length p.names) q.names (numbered_count texts p.names q.names h.0) ∙ ap (λ v. cond v (suc (length p.names)) (length p.names)) (sym h.1) ∙ k))

-- whether an ellipsis ends them, and how many are named
pub shape_is : (texts : Texts) (n : Option NumberedParameters) (m : Option Parameters) (q : Parameters) → m ≡ Some q → AreParameters texts n m
    → (is_variadic n ≡ q.variadic) × (length (numbers_of n) ≡ length q.names)
shape_is texts None None q e h = cc
shape_is texts None (Some r) q e h = absurd h
shape_is texts (Some p) None q e h = absurd h
shape_is texts (Some p) (Some r) q e h =
    let k : r ≡ q = cc in (h.1 ∙ ap (λ q. q.variadic) k, numbered_count texts p.names r.names h.0 ∙ ap (λ q. length q.names) k)

-- ---- a name of the table

module _ (texts : Texts) (later : Sets) (x : HiddenToken) (m : Macro) (rest : List HiddenToken) (ending : Ending) where
  abbrev pub does : Turn
  does = turn_by (hidden_of texts later x) m m.parameters (hidden_all texts later rest) ending

  by_parameters : (p : Option Parameters) → m.parameters ≡ p → does ≡ turn_by (hidden_of texts later x) m p (hidden_all texts later rest) ending
  by_parameters p e = ap (λ p. turn_by (hidden_of texts later x) m p (hidden_all texts later rest) ending) e

  pub ok_name : (t : Turn) → does ≡ t → (k : Task) (after : List HiddenToken) → TaskTurn texts later x.token.pos t (Ok k) after → TurnIs texts later x rest does (Ok (Takes (Replaced k))) after
  ok_name t e k after h = (h.0, (h.1.0, e ∙ h.1.1))

  pub err_name : (t : Turn) → does ≡ t → (f : Refusal) (after : List HiddenToken) → TaskTurn texts later x.token.pos t (Err f) after → TurnIs texts later x rest does (Err f) after
  err_name t e Memory after h = tt
  err_name t e (At c pos) after h = (h.0, e ∙ h.1)
  err_name t e (Told c pos text) after h = h

  pub object_name : m.parameters ≡ None → does ≡ object_turn (hidden_of texts later x) m (hidden_all texts later rest)
  object_name e = by_parameters None e

  module _ (q : Parameters) (e : m.parameters ≡ Some q) where
    pub last_name : rest ≡ [] → does ≡ last_turn ending
    last_name r =
        by_parameters (Some q) e ∙ ap (λ l. function_turn (hidden_of texts later x) m q (hidden_all texts later l) ending) r

    module _ (y : HiddenToken) (ys : List HiddenToken) (r : rest ≡ y ∷ ys) where
      followed : does ≡ function_turn (hidden_of texts later x) m q (hidden_of texts later y ∷ hidden_all texts later ys) ending
      followed =
          by_parameters (Some q) e ∙ ap (λ l. function_turn (hidden_of texts later x) m q (hidden_all texts later l) ending) r

      pub opens_call : is_spelled (codes "(") y.token ≡ true → does ≡ taken_turn (hidden_of texts later x) m q (arguments_in 0 (hidden_all texts later ys))
      opens_call o =
          followed ∙ ap (λ b. cond b (taken_turn (hidden_of texts later x) m q (arguments_in 0 (hidden_all texts later ys))) stands) o

      pub no_call : is_spelled (codes "(") y.token ≡ false → does ≡ stands
      no_call o =
          followed ∙ ap (λ b. cond b (taken_turn (hidden_of texts later x) m q (arguments_in 0 (hidden_all texts later ys))) stands) o

pub first_rest : {X : Type 0} (l : List X) (y : X) → 0 < length l → y ≡ get_or l 0 y → l ≡ y ∷ drop 1 l
first_rest [] y h e = absurd (omega (arith, h))
first_rest (x ∷ l) y h e = ap (λ z. z ∷ l) (sym e)

-- a parenthesis by its mark
pub is_open : (x : Token) → mark_of x ≡ opens → is_spelled (codes "(") x ≡ true
is_open x e = by_test (is_spelled (codes "(") x) refl
  where
    by_test : (b : Bool) → is_spelled (codes "(") x ≡ b → is_spelled (codes "(") x ≡ true
    by_test true p = p
    by_test false p =
        let q : cond (is_spelled (codes ")") x) closes (cond (is_spelled (codes ",") x) separates other) ≡ opens = sym (ap (λ b. cond b opens (cond (is_spelled (codes ")") x) closes (cond (is_spelled (codes ",") x) separates other))) p) ∙ e in
        absurd (never (is_spelled (codes ")") x) (is_spelled (codes ",") x) q)
      where
        never : (b d : Bool) → cond b closes (cond d separates other) ≡ opens → ⊥
        never true d q = cc
        never false true q = cc
        never false false q = cc

pub is_not_open : (x : Token) → (mark_of x ≡ opens → ⊥) → is_spelled (codes "(") x ≡ false
is_not_open x e = by_test (is_spelled (codes "(") x) refl
  where
    by_test : (b : Bool) → is_spelled (codes "(") x ≡ b → is_spelled (codes "(") x ≡ false
    by_test true p = absurd (e (ap (λ b. cond b opens (cond (is_spelled (codes ")") x) closes (cond (is_spelled (codes ",") x) separates other))) p))
    by_test false p = p
