-- Specifiers of a declaration.
use Rattle.std.specs.Prelude.{Option, None, Some, max}
use Rattle.std.proofs.Common.{◌≡◌, ℕ, ◌<◌, ◌≤◌, List, [], ◌∷◌, ◌++◌, length, refl, sym, ap, ◌∙◌, subst, arith}
use Rattle.lexer.specs.declared.token.Token.{Token}
use Rattle.tree.specs.Tree.{SpecifierTree}
use Rattle.tree.specs.Counts.{specifier_depth, specifiers_depth}
use Rattle.parser_grammar.specs.declared.refusal.Refusal.{Refusal}
use Rattle.parser_grammar.specs.declared.refusal.Refusal.TheVariants.{Syntax, Depth, Memory}
use Rattle.parser_grammar.specs.Declarations.{SpellsDeclarationSpecifier, SpellsDeclarationSpecifiers}
use Rattle.parser_grammar.specs.layer.Answer.{Excuses, ReadsOf, FailsOf, StandsOf}
use Rattle.parser_declarations.specs.inside.SpecifierAnswers.{SpellsSomeSpecifiers, EndsSpecifiers, BeginsSpecifier}
use Rattle.parser_declarations.specs.inside.DeclarationParts.{EndsSpecifier}
use Rattle.parser_grammar.proofs.Exits.{excuses_grow}
use Rattle.parser_grammar.proofs.Series.{Chain, tallest, Going, going_starts, going_more, going_fails, going_ends, going_stands}
use Rattle.parser_grammar.specs.declared.scope.Scope.{Scope}
use Rattle.parser_declarations.proofs.SpecifierParts.{specifier_starts, specifier_no_brace}
use Rattle.parser_grammar.proofs.DeclarationBegun.{specifier_is_begun, declaration_specifier_reaches}

module _ (scope : Scope) where
  abbrev SpecifierOf : Option (List Token) → SpecifierTree → List Token → List Token → Type 0
  SpecifierOf b y ts r = SpellsDeclarationSpecifier b scope y ts r

  abbrev SpecifiersOf : Option (List Token) → List SpecifierTree → List Token → List Token → Type 0
  SpecifiersOf b ys ts r = SpellsDeclarationSpecifiers b scope ys ts r

  specifiers_chain : (b : Option (List Token)) (ys : List SpecifierTree) (ts r : List Token) → SpellsDeclarationSpecifiers b scope ys ts r →
      Chain (SpecifierOf b) ys ts r
  specifiers_chain b [] ts r s = s
  specifiers_chain b (y ∷ ys) ts r s = (s.0, s.1, specifiers_chain b ys s.0 r s.2)

  chain_specifiers : (b : Option (List Token)) (ys : List SpecifierTree) (ts r : List Token) → Chain (SpecifierOf b) ys ts r →
      SpellsDeclarationSpecifiers b scope ys ts r
  chain_specifiers b [] ts r s = s
  chain_specifiers b (y ∷ ys) ts r s = (s.0, s.1, chain_specifiers b ys s.0 r s.2)

  -- the loop invariant
  abbrev pub SpecifiersLoop : ℕ → List Token → List SpecifierTree → ℕ → List Token → Type 0
  SpecifiersLoop d ts xs k cur = Going SpecifierOf SpecifiersOf EndsSpecifiers specifier_depth d ts xs k cur

  pub specifiers_tallest : (ss : List SpecifierTree) → specifiers_depth ss ≡ tallest specifier_depth ss
  specifiers_tallest [] = refl
  specifiers_tallest (s ∷ ss) = ap (λ z. max (specifier_depth s) z) (specifiers_tallest ss)

  follows : (us : List SpecifierTree) (y : SpecifierTree) (r : List Token) → EndsSpecifiers us r → EndsSpecifier y r
  follows us y r e = e.1

  precedes : (y z : SpecifierTree) (t r : List Token) → SpecifierOf None z t r → EndsSpecifier y t
  precedes y z t r s = specifier_no_brace scope z t r s

  some_fails : (d : ℕ) (ts : List Token) (f : Refusal) → FailsOf (SpecifiersOf None) EndsSpecifiers (tallest specifier_depth) d ts f →
      FailsOf (SpellsSomeSpecifiers scope) EndsSpecifiers specifiers_depth d ts f
  some_fails d ts f h = record { each = λ y r s e. subst (λ z. Excuses f d z) (sym (specifiers_tallest y)) (h.each y r s.spells e) }

  list_stands : (d : ℕ) (ts : List Token) (f : Refusal) → StandsOf SpecifiersOf (tallest specifier_depth) d ts f →
      StandsOf (λ b. SpellsDeclarationSpecifiers b scope) specifiers_depth d ts f
  list_stands d ts (Syntax at) h = tt
  list_stands d ts Memory h = tt
  list_stands d ts (Depth at) h = record {
    tree = h.tree;
    cut = h.cut;
    last = h.last;
    spelled = h.spelled;
    reaches = h.reaches;
    deep = omega
        (arith, h.deep, specifiers_tallest h.tree);
  }

  begins_here : (d : ℕ) (ts : List Token) → d ≤ 256 → SpecifiersLoop d ts [] 0 ts
  begins_here d ts room = going_starts SpecifierOf SpecifiersOf EndsSpecifiers EndsSpecifier specifier_depth d ts (λ m r s. chain_specifiers None m ts r s)
      (λ c m r s. chain_specifiers (Some c) m ts r s) (λ us r s. specifiers_chain None us ts r s) room

  -- the first specifier fails
  pub specifiers_first_fail : (d : ℕ) (ts : List Token) (f : Refusal) → FailsOf (SpellsDeclarationSpecifier None scope) EndsSpecifier specifier_depth d ts f →
      FailsOf (SpellsSomeSpecifiers scope) EndsSpecifiers specifiers_depth d ts f
  specifiers_first_fail d ts f h = record { each = λ y r s e. on y r s.some s.spells e }
    where
      next_ends : (us m : List SpecifierTree) (y : SpecifierTree) (t r : List Token) → SpellsDeclarationSpecifiers None scope m t r → EndsSpecifiers us r →
          EndsSpecifier y t
      next_ends us [] y t r s e = subst (λ z. EndsSpecifier y z) (sym s) e.1
      next_ends us (z ∷ m) y t r s e = specifier_no_brace scope z t s.0 s.1

      on : (y : List SpecifierTree) (r : List Token) → 0 < length y → SpellsDeclarationSpecifiers None scope y ts r → EndsSpecifiers y r →
          Excuses f d (specifiers_depth y)
      on [] r some s e = absurd (omega (arith, some))
      on (y ∷ ys) r some s e = excuses_grow f d d (specifier_depth y) (specifiers_depth (y ∷ ys)) (omega arith)
          (h.each y s.0 s.1 (next_ends (y ∷ ys) ys y s.0 r s.2 e))

  pub specifiers_first_stand : (d : ℕ) (ts : List Token) (f : Refusal) → StandsOf (λ b. SpellsDeclarationSpecifier b scope) specifier_depth d ts f →
      StandsOf (λ b. SpellsDeclarationSpecifiers b scope) specifiers_depth d ts f
  specifiers_first_stand d ts (Syntax at) h = tt
  specifiers_first_stand d ts Memory h = tt
  specifiers_first_stand d ts (Depth at) h = record {
    tree = h.tree ∷ [];
    cut = h.cut;
    last = h.last;
    spelled = (h.cut, h.spelled, refl);
    reaches = h.reaches;
    deep = omega (arith, h.deep);
  }

  pub specifiers_begin : (d : ℕ) (ts : List Token) (x : SpecifierTree) (k : ℕ) (cur : List Token) → d ≤ 256 → ReadsOf (SpellsDeclarationSpecifier None scope)
      EndsSpecifier specifier_depth d ts x k cur → SpecifiersLoop d ts (x ∷ []) k cur
  specifiers_begin d ts x k cur room read = going_more SpecifierOf SpecifiersOf EndsSpecifiers EndsSpecifier specifier_depth d ts [] 0 ts x k cur k
      (λ us e. e.0 (specifier_starts scope x ts cur read.spelled)) follows precedes (λ c. specifier_is_begun c scope)
      (declaration_specifier_reaches scope x ts cur read.spelled) (begins_here d ts room) read (omega arith)

  pub specifiers_more : (d : ℕ) (ts : List Token) (xs : List SpecifierTree) (k : ℕ) (cur : List Token) (x : SpecifierTree) (j : ℕ) (next : List Token) (n : ℕ) →
      SpecifiersLoop d ts xs k cur → ReadsOf (SpellsDeclarationSpecifier None scope) EndsSpecifier specifier_depth d cur x j next → n ≡ max k j →
      SpecifiersLoop d ts (xs ++ x ∷ []) n next
  specifiers_more d ts xs k cur x j next n g read en = going_more SpecifierOf SpecifiersOf EndsSpecifiers EndsSpecifier specifier_depth d ts xs k cur x j next n
      (λ us e. e.0 (specifier_starts scope x cur next read.spelled)) follows precedes (λ c. specifier_is_begun c scope)
      (declaration_specifier_reaches scope x cur next read.spelled) g read en

  pub specifiers_fail : (d : ℕ) (ts : List Token) (xs : List SpecifierTree) (k : ℕ) (cur : List Token) (f : Refusal) → BeginsSpecifier cur →
      SpecifiersLoop d ts xs k cur → FailsOf (SpellsDeclarationSpecifier None scope) EndsSpecifier specifier_depth d cur f →
      FailsOf (SpellsSomeSpecifiers scope) EndsSpecifiers specifiers_depth d ts f
  specifiers_fail d ts xs k cur f begins g bad = some_fails d ts f (going_fails SpecifierOf SpecifiersOf EndsSpecifiers EndsSpecifier specifier_depth d ts xs k
      cur f (λ us e. e.0 begins) follows precedes g bad)

  pub specifiers_stand : (d : ℕ) (ts : List Token) (xs : List SpecifierTree) (k : ℕ) (cur : List Token) (f : Refusal) → SpecifiersLoop d ts xs k cur →
      StandsOf (λ b. SpellsDeclarationSpecifier b scope) specifier_depth d cur f → StandsOf (λ b. SpellsDeclarationSpecifiers b scope) specifiers_depth d ts f
  specifiers_stand d ts xs k cur f g s = list_stands d ts f (going_stands SpecifierOf SpecifiersOf EndsSpecifiers EndsSpecifier specifier_depth d ts xs k cur f
      g s)

  pub specifiers_end : (d : ℕ) (ts : List Token) (xs : List SpecifierTree) (k : ℕ) (cur : List Token) → (BeginsSpecifier cur → ⊥) → length cur < length ts →
      SpecifiersLoop d ts xs k cur → ReadsOf (SpellsSomeSpecifiers scope) EndsSpecifiers specifiers_depth d ts xs k cur
  specifiers_end d ts xs k cur none less g =
      let h = going_ends SpecifierOf SpecifiersOf EndsSpecifiers EndsSpecifier specifier_depth d ts xs k cur (λ y r s. none (specifier_starts scope y cur r s))
      g in
      record {
        spelled = record { some = has_some xs h.spelled; spells = h.spelled };
        tall = h.tall ∙ sym (specifiers_tallest xs);
        fits = h.fits;
        only = λ y r s e. h.only y r s.spells e;
      }
    where
      has_some : (xs : List SpecifierTree) → SpellsDeclarationSpecifiers None scope xs ts cur → 0 < length xs
      has_some [] s = absurd (omega (arith, ap length s, less))
      has_some (x ∷ xs) s = omega arith
