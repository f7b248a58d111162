-- A list of external declarations so far.
use Rattle.std.specs.Prelude.{Option, None, Some}
use Rattle.std.proofs.Common.{◌≡◌, ℕ, ◌+◌, ◌<◌, ◌≤◌, max, inl, inr, List, [], ◌∷◌, ◌++◌, length, refl, sym, ap, ◌∙◌, subst, arith, map, append_assoc, length-append}
use Rattle.srcset.specs.declared.refusal.Pos.{Pos}
use Rattle.srcset.specs.declared.refusal.Refusal.{Refusal as Fault}
use Rattle.lexer.specs.declared.token.Token.{Token}
use Rattle.lexer.specs.declared.token.Kind.{Kind}
use Rattle.std.proofs.lemmas.List.{map-append}
use Rattle.tree.specs.declared.unit.External.{External}
use Rattle.tree.specs.View.{external_of}
use Rattle.tree.specs.Tree.{ExternalTree, definition, declaration, declared, assertion}
use Rattle.tree.specs.Counts.{external_depth, unit_depth, external_nodes, unit_nodes}
use Rattle.parser_grammar.specs.declared.refusal.Refusal.{Refusal}
use Rattle.parser_grammar.specs.declared.refusal.Refusal.TheVariants.{Syntax, Depth, Memory}
use Rattle.parser_grammar.specs.Statements.{SpellsExternal, SpellsUnit}
use Rattle.parser_grammar.specs.Tokens.{Reaches}
use Rattle.parser.specs.Units.{Limit, of_depth, of_function, of_program, IsSmall, AreSmall, Keeps, IsTreeWithin, IsOnly, HasNoTree, Exceeds, IsRefused}
use Rattle.parser.specs.inside.UnitAnswers.{ReadsExternal, FailsExternal, StandsExternal, IsLocated, Counts, CountsTooMany}
use Rattle.parser_grammar.proofs.Tokens.{reaches_on}
use Rattle.parser_grammar.proofs.UnitBegun.{external_is_begun, external_reaches, unit_is_begun, unit_reaches}

-- ---- lists of external declarations

unit_append : (b : Option (List Token)) (es fs : List ExternalTree) (ts us rest : List Token) → SpellsUnit b es ts us → SpellsUnit b fs us rest →
    SpellsUnit b (es ++ fs) ts rest
unit_append b [] fs ts us rest h g = subst (λ (x : List Token). SpellsUnit b fs x rest) (sym h) g
unit_append b (e ∷ es) fs ts us rest h g = (h.0, h.1, unit_append b es fs h.0 us rest h.2 g)

depth_append : (es fs : List ExternalTree) → unit_depth (es ++ fs) ≡ max (unit_depth es) (unit_depth fs)
depth_append [] fs = omega arith
depth_append (e ∷ es) fs = let h = depth_append es fs in omega arith

nodes_append : (es fs : List ExternalTree) → unit_nodes (es ++ fs) ≡ unit_nodes es + unit_nodes fs
nodes_append [] fs = omega arith
nodes_append (e ∷ es) fs = let h = nodes_append es fs in omega arith

small_append : (es : List ExternalTree) (e : ExternalTree) → AreSmall es → IsSmall e → AreSmall (es ++ e ∷ [])
small_append [] e h s = (s, tt)
small_append (x ∷ es) e h s = (h.0, small_append es e h.1 s)

small_part : (es : List ExternalTree) (e : ExternalTree) (fs : List ExternalTree) → AreSmall (es ++ e ∷ fs) → IsSmall e
small_part [] e fs h = h.0
small_part (x ∷ es) e fs h = small_part es e fs h.1

nothing : (t : Token) (ts : List Token) → [] ≡ t ∷ ts → ⊥
nothing t ts e = cc

-- no external declaration spells nothing
some_external : (e : ExternalTree) (r : List Token) → SpellsExternal None e [] r → ⊥
some_external (definition f) r h = nothing _ _ h.7.2
some_external (declaration (declared at ss is)) r h = nothing _ _ h.2.2
some_external (declaration (assertion at e n)) r h = nothing _ _ h.6

-- the rest of the unit is one external declaration, and more
record Next (vs : List ExternalTree) (rest : List Token) : Type 0 where
  first : ExternalTree
  more : List ExternalTree
  behind : List Token
  is : vs ≡ first ∷ more
  spelled : SpellsExternal None first rest behind
  goes_on : SpellsUnit None more behind []

next : (vs : List ExternalTree) (rest : List Token) → 0 < length rest → SpellsUnit None vs rest [] → Next vs rest
next [] rest some h = absurd (omega (arith, ap length h))
next (v ∷ vs) rest some h = record { first = v; more = vs; behind = h.0; is = refl; spelled = h.1; goes_on = h.2 }

-- ---- the loop

-- es, n nodes, are read, every tree of the list continues from them, and the limits are kept
pub record Going (ts : List Token) (es : List ExternalTree) (n : ℕ) (rest : List Token) : Type 0 where
  pub spelled : SpellsUnit None es ts rest
  pub deep : unit_depth es ≤ 256
  pub small : AreSmall es
  pub count : n ≡ unit_nodes es
  pub few : n ≤ 262144
  pub only : (us : List ExternalTree) → SpellsUnit None us ts [] → (vs : List ExternalTree) × (us ≡ es ++ vs) × SpellsUnit None vs rest []

pub going_starts : (ts : List Token) → Going ts [] 0 ts
going_starts ts = record { spelled = refl; deep = omega arith; small = tt; count = refl; few = omega arith; only = λ us h. (us, refl, h) }

pub going_more : (ts : List Token) (es : List ExternalTree) (n : ℕ) (rest : List Token) (e : ExternalTree) (m : ℕ) (after : List Token)
    → Going ts es n rest → 0 < length rest → ReadsExternal rest e after → Counts n e m → Going ts (es ++ e ∷ []) m after
going_more ts es n rest e m after g some reads counts = record {
  spelled = unit_append None es (e ∷ []) ts rest after g.spelled (after, reads.spelled, refl);
  deep = let d = depth_append es (e ∷ []) in omega (arith, g.deep, reads.fits);
  small = small_append es e g.small counts.small;
  count = let d = nodes_append es (e ∷ []) in omega (arith, g.count, counts.total);
  few = counts.few;
  only = λ us h.
      let o = g.only us h in
      let x = next o.0 rest some o.2 in
      let p = reads.only x.first x.behind x.spelled tt in (
        x.more,
        o.1 ∙ ap (λ (vs : List ExternalTree). es ++ vs) (x.is ∙ ap (λ (v : ExternalTree). v ∷ x.more) p.0) ∙ sym (append_assoc es (e ∷ []) x.more),
        subst (λ (t : List Token). SpellsUnit None x.more t []) p.1 x.goes_on,
      );
}

-- the same, where the list is pushed on
pub going_pushed : (ts : List Token) (xs ys : List External) (n : ℕ) (rest : List Token) (x : External) (m : ℕ) (after : List Token)
    → Going ts (map external_of xs) n rest → 0 < length rest → ReadsExternal rest (external_of x) after → Counts n (external_of x) m → ys ≡ xs ++ x ∷ [] →
    Going ts (map external_of ys) m after
going_pushed ts xs ys n rest x m after g some reads counts e =
    subst (λ (es : List ExternalTree). Going ts es m after) (sym (ap (map external_of) e ∙ map-append external_of xs (x ∷ [])))
    (going_more ts (map external_of xs) n rest (external_of x) m after g some reads counts)

-- the rest after one more is a tail
pub going_reaches : (ts : List Token) (es : List ExternalTree) (n : ℕ) (rest : List Token) (e : ExternalTree) (after : List Token) → Going ts es n rest →
    ReadsExternal rest e after → Reaches ts after
going_reaches ts es n rest e after g reads = reaches_on ts rest after (unit_reaches es ts rest g.spelled) (external_reaches e rest after reads.spelled)

-- the rest is no longer than the list
pub going_longer : (ts : List Token) (es : List ExternalTree) (n : ℕ) (rest : List Token) → Going ts es n rest → length rest ≤ length ts
going_longer ts es n rest g = let r = unit_reaches es ts rest g.spelled in omega (arith, ap length r.1 ∙ length-append r.0 rest)

ends_here : (es vs : List ExternalTree) → SpellsUnit None vs [] [] → es ++ vs ≡ es
ends_here [] [] h = refl
ends_here (e ∷ es) [] h = ap (λ (x : List ExternalTree). e ∷ x) (ends_here es [] h)
ends_here es (v ∷ vs) h = absurd (some_external v h.0 h.1)

ended : (ts : List Token) (es : List ExternalTree) (n : ℕ) (rest : List Token) → length rest ≡ 0 → Going ts es n rest → Going ts es n []
ended ts es n [] e g = g
ended ts es n (t ∷ rest) e g = absurd (omega (arith, e))

within_limits : (ts : List Token) (es : List ExternalTree) (n : ℕ) → Going ts es n [] → IsTreeWithin ts es
within_limits ts es n g = record { spelled = g.spelled; within = within }
  where
    within : (l : Limit) → Keeps l es
    within of_depth = g.deep
    within of_function = g.small
    within of_program = omega (arith, g.count, g.few)

pub going_ends : (ts : List Token) (es : List ExternalTree) (n : ℕ) (rest : List Token) → length rest ≡ 0 → Going ts es n rest → IsTreeWithin ts es
going_ends ts es n rest e h = within_limits ts es n (ended ts es n rest e h)

pub going_alone : (ts : List Token) (es : List ExternalTree) (n : ℕ) (rest : List Token) → length rest ≡ 0 → Going ts es n rest → IsOnly ts es
going_alone ts es n rest e start us h = let g = ended ts es n rest e start in let o = g.only us h in o.1 ∙ ends_here es o.0 o.2

-- ---- refusals

too_deep : (es vs : List ExternalTree) (v : ExternalTree) (us : List ExternalTree) → us ≡ es ++ v ∷ vs → external_depth v ≤ unit_depth us
too_deep es vs v us e = let d = ap unit_depth e ∙ depth_append es (v ∷ vs) in omega (arith, d)

too_many : (es vs : List ExternalTree) (v : ExternalTree) (us : List ExternalTree) → us ≡ es ++ v ∷ vs → unit_nodes es + external_nodes v ≤ unit_nodes us
too_many es vs v us e = let d = ap unit_nodes e ∙ nodes_append es (v ∷ vs) in omega (arith, d)

no_tree : (ts : List Token) (es : List ExternalTree) (n : ℕ) (rest : List Token) (left : ℕ) → Going ts es n rest → 0 < length rest →
    FailsExternal rest (Syntax left) → HasNoTree ts
no_tree ts es n rest left g some fails us h =
    let o = g.only us h in
    let x = next o.0 rest some o.2 in
    fails.each x.first x.behind x.spelled tt

deep_tree : (ts : List Token) (es : List ExternalTree) (n : ℕ) (rest : List Token) (at : Pos) → Going ts es n rest → 0 < length rest →
    FailsExternal rest (Depth at) → StandsExternal rest (Depth at)
    → Exceeds of_depth ts at
deep_tree ts es n rest at g some fails p = record {
  none = λ us h keeps.
      let o = g.only us h in
      let x = next o.0 rest some o.2 in
      let d : 256 < 0 + external_depth x.first = fails.each x.first x.behind x.spelled tt in
      let le = too_deep es x.more x.first us (o.1 ∙ ap (λ (vs : List ExternalTree). es ++ vs) x.is) in
      omega (arith, d, le, keeps);
  tree = es ++ p.tree ∷ [];
  cut = p.cut;
  last = p.last;
  begun = unit_append (Some p.cut) es (p.tree ∷ []) ts rest p.cut (unit_is_begun p.cut es ts rest g.spelled) (p.cut, p.spelled, refl);
  reaches = reaches_on ts rest _ (unit_reaches es ts rest g.spelled) p.reaches;
  passes = λ keeps. let le = too_deep es [] p.tree (es ++ p.tree ∷ []) refl in omega (arith, p.deep, le, keeps);
}

pub going_fails : (ts : List Token) (es : List ExternalTree) (n : ℕ) (rest : List Token) (f : Refusal) (r : Fault)
    → Going ts es n rest → 0 < length rest → FailsExternal rest f → StandsExternal rest f → IsLocated ts f r → IsRefused ts r
going_fails ts es n rest (Syntax left) r g some fails stands e = subst (IsRefused ts) (sym e.2) (inl (refl, no_tree ts es n rest left g some fails, e.1))
going_fails ts es n rest (Depth at) r g some fails stands e = subst (IsRefused ts) (sym e) (inr (of_depth, refl, deep_tree ts es n rest at g some fails stands))
going_fails ts es n rest Memory r g some fails stands e = subst (IsRefused ts) (sym e) tt

-- an external declaration with which the unit passes a limit
full : (l : Limit) (ts : List Token) (es : List ExternalTree) (n : ℕ) (rest : List Token) (e : ExternalTree) (after : List Token) (last : Kind) (end : Pos)
    → Going ts es n rest → 0 < length rest → ReadsExternal rest e after → Reaches ts (record { kind = last; pos = end } ∷ after)
    → ((vs : List ExternalTree) → Keeps l (es ++ e ∷ vs) → ⊥) → Exceeds l ts end
full l ts es n rest e after last end g some reads reaches passes = record {
  none = λ us h keeps.
      let o = g.only us h in
      let x = next o.0 rest some o.2 in
      let p = reads.only x.first x.behind x.spelled tt in
      passes x.more (subst (Keeps l) (o.1 ∙ ap (λ (vs : List ExternalTree). es ++ vs) (x.is ∙ ap (λ (v : ExternalTree). v ∷ x.more) p.0)) keeps);
  tree = es ++ e ∷ [];
  cut = after;
  last = last;
  begun = unit_append (Some after) es (e ∷ []) ts rest after (unit_is_begun after es ts rest g.spelled)
      (after, external_is_begun after e rest after reads.spelled, refl);
  reaches = reaches;
  passes = passes [];
}

pub going_full : (ts : List Token) (es : List ExternalTree) (n : ℕ) (rest : List Token) (e : ExternalTree) (after : List Token) (end : Pos) (r : Fault)
    → Going ts es n rest → 0 < length rest → ReadsExternal rest e after → (last : Kind) × Reaches ts (record { kind = last; pos = end } ∷ after)
    → CountsTooMany n e end r → IsRefused ts r
going_full ts es n rest e after end r g some reads reaches (inl h) =
    subst (IsRefused ts) (sym h.0) (inr (
      of_function,
      refl,
      full of_function ts es n rest e after reaches.0 end g some reads reaches.1
          (λ vs keeps. h.1 (small_part es e vs keeps)),
    ))
going_full ts es n rest e after end r g some reads reaches (inr h) =
    subst (IsRefused ts) (sym h.0) (inr (
      of_program,
      refl,
      full of_program ts es n rest e after reaches.0 end g some reads reaches.1
          (λ vs keeps. let le = too_many es vs e (es ++ e ∷ vs) refl in omega (arith, g.count, h.1, le, keeps)),
    ))
