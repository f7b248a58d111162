-- The contents of the table: look-ups, and how they change as texts get numbers and macros are defined and undefined.
use Rattle.std.proofs.Common.{◌≡◌, ℕ, suc, ◌+◌, List, [], ◌∷◌, ◌++◌, Bool, true, false, cond, length, Option, Some, None, is_some, refl, ap, sym, subst, ◌∙◌, slice_get, nat_eq, true≢false, if◌then◌else◌, arith}
use Rattle.std.proofs.lemmas.Bool.{eqb-true, eq-eqb}
use Rattle.std.proofs.lemmas.Slice.Eq.{bytes_eq-Decides}
use Rattle.std.specs.Str.{bytes_eq}
use Rattle.srcset.specs.NameTable.{Texts, KeepsNumbers, NumbersOnce}
use Rattle.macros.specs.Macro.{Macro, Macros, Parameters, macro_named}
use Rattle.macros.specs.Definition.{without}
use Rattle.macros.specs.Table.{Table, NumberedMacro, NumberedParameters, IsTable, IsMacro, AreNumbered, AreParameters, AreSame, IsFound, NamedOnce, numbered}

module _ (texts : Texts) (table : Table) (macros : Macros) (is : IsTable texts table macros) (text : List ℕ) where
  pub unknown_text : ((n : ℕ) → slice_get texts n ≡ Some text → ⊥) → IsFound texts text None (macro_named macros text)
  unknown_text absent = rw (is.unknown text absent) tt

  pub absent_number : (n : ℕ) → slice_get texts n ≡ Some text → numbered table n ≡ None → IsFound texts text None (macro_named macros text)
  absent_number n at none = by (macro_named macros text) (subst (λ o. AreSame texts o (macro_named macros text)) none (is.known n text at))
    where
      by : (o : Option Macro) → AreSame texts None o → IsFound texts text None o
      by None p = tt
      by (Some m) p = absurd p

  pub present_number : (n : ℕ) (x : NumberedMacro) → slice_get texts n ≡ Some text → numbered table n ≡ Some x → IsFound texts text (Some (n, x)) (macro_named macros text)
  present_number n x at some = by (macro_named macros text) (subst (λ o. AreSame texts o (macro_named macros text)) some (is.known n text at))
    where
      by : (o : Option Macro) → AreSame texts (Some x) o → IsFound texts text (Some (n, x)) o
      by None p = absurd p
      by (Some m) p = (at, p)

-- ---- tests of equality

pub text_same : (s t : List ℕ) → bytes_eq s t ≡ true → s ≡ t
text_same s t e = (bytes_eq-Decides s t).0 e

pub text_itself : (s : List ℕ) → bytes_eq s s ≡ true
text_itself s = (bytes_eq-Decides s s).1 refl

-- two tests that hold together are one
pub same_test : (a b : Bool) → (a ≡ true → b ≡ true) → (b ≡ true → a ≡ true) → a ≡ b
same_test true b f g = sym (f refl)
same_test false true f g = g refl
same_test false false f g = refl

pub text_swapped : (s t : List ℕ) → bytes_eq s t ≡ bytes_eq t s
text_swapped s t = same_test _ _ (λ e. rw (text_same s t e) (text_itself t)) (λ e. rw (text_same t s e) (text_itself s))

pub number_same : (m n : ℕ) → nat_eq m n ≡ true → m ≡ n
number_same m n e = eqb-true m n e

pub number_itself : (n : ℕ) → nat_eq n n ≡ true
number_itself n = eq-eqb n n refl

-- numbers are alike where their texts are
pub alike : (texts : Texts) → NumbersOnce texts → (m n : ℕ) (s t : List ℕ) → slice_get texts m ≡ Some s → slice_get texts n ≡ Some t → nat_eq m n ≡ bytes_eq s t
alike texts once m n s t at_m at_n =
    same_test _ _
    (λ e. let p : s ≡ t = (let q = sym at_m ∙ ap (slice_get texts) (number_same m n e) ∙ at_n in cc) in rw p (text_itself t))
    (λ e. let p = once m n t (at_m ∙ ap Some (text_same s t e)) at_n in rw p (number_itself n))

-- ---- texts get numbers

pub numbered_still : (old new : Texts) → KeepsNumbers old new → (ns : List ℕ) (names : List (List ℕ)) → AreNumbered old ns names → AreNumbered new ns names
numbered_still old new keeps [] [] p = tt
numbered_still old new keeps [] (t ∷ ts) p = absurd p
numbered_still old new keeps (n ∷ ns) [] p = absurd p
numbered_still old new keeps (n ∷ ns) (t ∷ ts) p = (keeps n t p.0, numbered_still old new keeps ns ts p.1)

pub parameters_still : (old new : Texts) → KeepsNumbers old new → (p : Option NumberedParameters) (q : Option Parameters) → AreParameters old p q → AreParameters new p q
parameters_still old new keeps None None h = tt
parameters_still old new keeps None (Some q) h = absurd h
parameters_still old new keeps (Some p) None h = absurd h
parameters_still old new keeps (Some p) (Some q) h = (numbered_still old new keeps p.names q.names h.0, h.1)

pub macro_still : (old new : Texts) → KeepsNumbers old new → (n : NumberedMacro) (m : Macro) → IsMacro old n m → IsMacro new n m
macro_still old new keeps n m h = record { parameters_are = parameters_still old new keeps n.parameters m.parameters h.parameters_are; body_is = h.body_is }

pub same_still : (old new : Texts) → KeepsNumbers old new → (a : Option NumberedMacro) (b : Option Macro) → AreSame old a b → AreSame new a b
same_still old new keeps None None h = tt
same_still old new keeps None (Some m) h = absurd h
same_still old new keeps (Some n) None h = absurd h
same_still old new keeps (Some n) (Some m) h = macro_still old new keeps n m h

none_some : {A : Type 0} {a : Option A} {x : A} → a ≡ None → a ≡ Some x → ⊥
none_some p q = let e = sym p ∙ q in absurd (cc)

-- the table means the same macros under more texts
pub table_grows : (old new : Texts) (table : Table) (macros : Macros) → KeepsNumbers old new → NumbersOnce new → IsTable old table macros → IsTable new table macros
table_grows old new table macros keeps once is = record {
  known = λ n text at. by_known n text at (slice_get old n) refl;
  unknown = λ text absent. is.unknown text (λ n e. absent n (keeps n text e));
  within = λ n none. by_within n none (slice_get old n) refl;
  once = is.once;
  count = is.count;
}
  where
    by_known : (n : ℕ) (text : List ℕ) → slice_get new n ≡ Some text → (o : Option (List ℕ)) → slice_get old n ≡ o → AreSame new (numbered table n) (macro_named macros text)
    by_known n text at None e =
        rw (is.within n e, is.unknown text (λ k h. none_some e (subst (λ i. slice_get old i ≡ Some text) (once k n text (keeps k text h) at) h))) tt
    by_known n text at (Some t) e =
        let same : t ≡ text = (let q = sym (keeps n t e) ∙ at in cc) in
        same_still old new keeps (numbered table n) (macro_named macros text) (is.known n text (e ∙ ap Some same))

    by_within : (n : ℕ) → slice_get new n ≡ None → (o : Option (List ℕ)) → slice_get old n ≡ o → numbered table n ≡ None
    by_within n none None e = is.within n e
    by_within n none (Some t) e = absurd (none_some none (keeps n t e))

-- ---- macros by their names

pub named_without : (ms : Macros) (name text : List ℕ) → NamedOnce ms → macro_named (without ms name) text ≡ cond (bytes_eq text name) None (macro_named ms text)
named_without [] name text once = by (bytes_eq text name)
  where
    by : (b : Bool) → macro_named [] text ≡ cond b None (macro_named [] text)
    by true = refl
    by false = refl
named_without (m ∷ ms) name text once = by (bytes_eq m.0 name) refl (named_without ms name text once.1)
  where
    first : (b : Bool) → bytes_eq text name ≡ b → m.0 ≡ name → macro_named ms text ≡ cond b None (cond b (Some m.1) (macro_named ms text))
    first true e same = ap (macro_named ms) (text_same text name e ∙ sym same) ∙ once.0
    first false e same = refl

    later : (b c : Bool) → bytes_eq text m.0 ≡ b → bytes_eq text name ≡ c → bytes_eq m.0 name ≡ false → cond b (Some m.1) (cond c None (macro_named ms text)) ≡ cond c None (cond b (Some m.1) (macro_named ms text))
    later true true e f g = absurd (true≢false (sym (rw (sym (text_same text m.0 e)) f) ∙ g))
    later true false e f g = refl
    later false c e f g = refl

    by : (b : Bool) → bytes_eq m.0 name ≡ b → macro_named (without ms name) text ≡ cond (bytes_eq text name) None (macro_named ms text) → macro_named (cond b ms (m ∷ without ms name)) text ≡ cond (bytes_eq text name) None (macro_named (m ∷ ms) text)
    by true e below =
        let same = text_same m.0 name e in
        first (bytes_eq text name) refl same ∙ ap (λ k. cond (bytes_eq text name) None (cond (bytes_eq text k) (Some m.1) (macro_named ms text))) (sym same)
    by false e below = ap (cond (bytes_eq text m.0) (Some m.1)) below ∙ later (bytes_eq text m.0) (bytes_eq text name) refl refl e

pub once_without : (ms : Macros) (name : List ℕ) → NamedOnce ms → NamedOnce (without ms name)
once_without [] name once = tt
once_without (m ∷ ms) name once = by (bytes_eq m.0 name) (once_without ms name once.1)
  where
    gone : (b : Bool) → cond b None (macro_named ms m.0) ≡ None
    gone true = refl
    gone false = once.0

    by : (b : Bool) → NamedOnce (without ms name) → NamedOnce (cond b ms (m ∷ without ms name))
    by true rest = once.1
    by false rest = (named_without ms name m.0 once.1 ∙ gone (bytes_eq m.0 name), rest)

pub length_without : (ms : Macros) (name : List ℕ) → length (without ms name) + (if is_some (macro_named ms name) then 1 else 0) ≡ length ms
length_without [] name = refl
length_without (m ∷ ms) name = rw (text_swapped name m.0) (by (bytes_eq m.0 name) (length_without ms name))
  where
    by : (b : Bool) → length (without ms name) + (if is_some (macro_named ms name) then 1 else 0) ≡ length ms
        → length (cond b ms (m ∷ without ms name)) + (if is_some (cond b (Some m.1) (macro_named ms name)) then 1 else 0) ≡ suc (length ms)
    by true rest = omega (arith)
    by false rest = omega (arith, rest)

pub named_push : (ms : Macros) (name : List ℕ) (x : Macro) (text : List ℕ) → macro_named ms name ≡ None → macro_named (ms ++ (name, x) ∷ []) text ≡ cond (bytes_eq text name) (Some x) (macro_named ms text)
named_push [] name x text none = refl
named_push (m ∷ ms) name x text none = by (bytes_eq name m.0) refl (named_push ms name x text)
  where
    other : (b c : Bool) → bytes_eq text m.0 ≡ b → bytes_eq text name ≡ c → bytes_eq name m.0 ≡ false → cond b (Some m.1) (cond c (Some x) (macro_named ms text)) ≡ cond c (Some x) (cond b (Some m.1) (macro_named ms text))
    other true true e f g = absurd (true≢false (sym (rw (sym (text_same text name f)) e) ∙ g))
    other true false e f g = refl
    other false c e f g = refl

    by : (b : Bool) → bytes_eq name m.0 ≡ b → (macro_named ms name ≡ None → macro_named (ms ++ (name, x) ∷ []) text ≡ cond (bytes_eq text name) (Some x) (macro_named ms text))
        → macro_named ((m ∷ ms) ++ (name, x) ∷ []) text ≡ cond (bytes_eq text name) (Some x) (macro_named (m ∷ ms) text)
    by true e below = absurd (none_some none (ap (λ b. cond b (Some m.1) (macro_named ms name)) e))
    by false e below =
        let rest : macro_named ms name ≡ None = sym (ap (λ b. cond b (Some m.1) (macro_named ms name)) e) ∙ none in
        ap (cond (bytes_eq text m.0) (Some m.1)) (below rest) ∙ other (bytes_eq text m.0) (bytes_eq text name) refl refl e

pub once_push : (ms : Macros) (name : List ℕ) (x : Macro) → macro_named ms name ≡ None → NamedOnce ms → NamedOnce (ms ++ (name, x) ∷ [])
once_push [] name x none once = (refl, tt)
once_push (m ∷ ms) name x none once = by (bytes_eq name m.0) refl (λ rest. once_push ms name x rest once.1)
  where
    by : (b : Bool) → bytes_eq name m.0 ≡ b → (macro_named ms name ≡ None → NamedOnce (ms ++ (name, x) ∷ [])) → NamedOnce ((m ∷ ms) ++ (name, x) ∷ [])
    by true e below = absurd (none_some none (ap (λ b. cond b (Some m.1) (macro_named ms name)) e))
    by false e below =
        let rest : macro_named ms name ≡ None = sym (ap (λ b. cond b (Some m.1) (macro_named ms name)) e) ∙ none in
        let apart = text_swapped m.0 name ∙ e in
        (named_push ms name x m.0 rest ∙ ap (λ b. cond b (Some x) (macro_named ms m.0)) apart ∙ once.0, below rest)

-- ---- macros come and go

pub same_some : (texts : Texts) (a : Option NumberedMacro) (b : Option Macro) → AreSame texts a b → is_some a ≡ is_some b
same_some texts None None h = refl
same_some texts None (Some m) h = absurd h
same_some texts (Some n) None h = absurd h
same_some texts (Some n) (Some m) h = refl

same_cond : (texts : Texts) (test : Bool) (a c : Option NumberedMacro) (b d : Option Macro) → AreSame texts a b → AreSame texts c d → AreSame texts (cond test a c) (cond test b d)
same_cond texts true a c b d h k = h
same_cond texts false a c b d h k = k

cond_none : {A : Type 0} (test : Bool) (o : Option A) → o ≡ None → cond test None o ≡ None
cond_none true o e = refl
cond_none false o e = e

module _ (texts : Texts) (once : NumbersOnce texts) (table new : Table) (macros : Macros) (is : IsTable texts table macros)
    (n : ℕ) (name : List ℕ) (at : slice_get texts n ≡ Some name) where
  pub removed : ((q : ℕ) → numbered new q ≡ cond (nat_eq n q) None (numbered table q)) → length new + (if is_some (numbered table n) then 1 else 0) ≡ length table → IsTable texts new (without macros name)
  removed looks counted = record {
    known = λ k text e.
        rw (looks k, named_without macros name text is.once, alike texts once n k name text at e, text_swapped text name)
        (same_cond texts (bytes_eq name text) None (numbered table k) None (macro_named macros text) tt (is.known k text e));
    unknown = λ text absent. named_without macros name text is.once ∙ cond_none (bytes_eq text name) (macro_named macros text) (is.unknown text absent);
    within = λ k none. looks k ∙ cond_none (nat_eq n k) (numbered table k) (is.within k none);
    once = once_without macros name is.once;
    count =
        let both = same_some texts (numbered table n) (macro_named macros name) (is.known n name at) in
        let other = length_without macros name in
        let this = subst (λ b. length new + (if b then 1 else 0) ≡ length table) both counted in
        cancel (if is_some (macro_named macros name) then 1 else 0) (length new) (length (without macros name)) (this ∙ is.count ∙ sym other);
  }
    where
      cancel : (k a b : ℕ) → a + k ≡ b + k → a ≡ b
      cancel k a b e = omega (arith, e)

  pub inserted : (x : NumberedMacro) (m : Macro) → IsMacro texts x m → numbered table n ≡ None → ((q : ℕ) → numbered new q ≡ cond (nat_eq n q) (Some x) (numbered table q)) → length new ≡ length table + 1 → IsTable texts new (macros ++ (name, m) ∷ [])
  inserted x m means none looks counted = record {
    known = λ k text e.
        rw (looks k, named_push macros name m text absent, alike texts once n k name text at e, text_swapped text name)
        (same_cond texts (bytes_eq name text) (Some x) (numbered table k) (Some m) (macro_named macros text) means (is.known k text e));
    unknown = λ text missing. named_push macros name m text absent ∙ other text missing (bytes_eq text name) refl;
    within = λ k missing. looks k ∙ outside k missing (nat_eq n k) refl;
    once = once_push macros name m absent is.once;
    count = counted ∙ longer;
  }
    where
      absent : macro_named macros name ≡ None
      absent = by (macro_named macros name) (subst (λ o. AreSame texts o (macro_named macros name)) none (is.known n name at))
        where
          by : (o : Option Macro) → AreSame texts None o → o ≡ None
          by None p = refl
          by (Some y) p = absurd p

      other : (text : List ℕ) → ((k : ℕ) → slice_get texts k ≡ Some text → ⊥) → (b : Bool) → bytes_eq text name ≡ b → cond b (Some m) (macro_named macros text) ≡ None
      other text missing true e = absurd (missing n (at ∙ ap Some (sym (text_same text name e))))
      other text missing false e = is.unknown text missing

      outside : (k : ℕ) → slice_get texts k ≡ None → (b : Bool) → nat_eq n k ≡ b → cond b (Some x) (numbered table k) ≡ None
      outside k missing true e = absurd (none_some missing (sym (ap (slice_get texts) (number_same n k e)) ∙ at))
      outside k missing false e = is.within k missing

      one_longer : (ms : Macros) (y : List ℕ × Macro) → length (ms ++ y ∷ []) ≡ length ms + 1
      one_longer [] y = omega (arith)
      one_longer (z ∷ ms) y = let e = one_longer ms y in omega (arith, e)

      longer : length table + 1 ≡ length (macros ++ (name, m) ∷ [])
      longer = ap (λ k. k + 1) is.count ∙ sym (one_longer macros (name, m))

unnamed : (ms : Macros) (name : List ℕ) → macro_named ms name ≡ None → without ms name ≡ ms
unnamed [] name none = refl
unnamed (m ∷ ms) name none = rw (text_swapped m.0 name) (by (bytes_eq name m.0) none (unnamed ms name))
  where
    by : (b : Bool) → cond b (Some m.1) (macro_named ms name) ≡ None → (macro_named ms name ≡ None → without ms name ≡ ms) → cond b ms (m ∷ without ms name) ≡ m ∷ ms
    by true e below = absurd (none_some e refl)
    by false e below = ap (λ l. m ∷ l) (below e)

-- a name without a number has no macro to take out
pub nothing_removed : (texts : Texts) (table : Table) (macros : Macros) (name : List ℕ) → IsTable texts table macros → ((n : ℕ) → slice_get texts n ≡ Some name → ⊥) → IsTable texts table (without macros name)
nothing_removed texts table macros name is missing = rw (unnamed macros name (is.unknown name missing)) is
