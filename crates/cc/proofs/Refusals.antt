-- Why a main file is refused.
use Rattle.std.proofs.Common.{◌≡◌, ℕ, List, Option, Some, None, inl, inr, refl, sym, subst}
use Rattle.std.specs.Prelude.{Result, Ok, Err, ◌⊎◌, IfOk, IfErr, MatchResult, slice_get}
use Rattle.std.specs.Result.{IsErrAnd}
use Rattle.std.proofs.lemmas.Result.{err_from_is_err_and}
use Rattle.srcset.specs.Files.{Files}
use Rattle.srcset.specs.declared.fault.Fault.{Fault}
use Rattle.srcset.specs.Fault.{IsMemoryFault}
use Rattle.srcset.specs.NameTable.{Texts, KeepsNumbers, NumbersOnce}
use Rattle.srcset.specs.declared.refusal.Refusal.{Refusal}
use Rattle.phases.specs.Token.{Token as PpToken}
use Rattle.lexer.specs.CTokens.{ctokens}
use Rattle.lexer.specs.Numbering.{AreAll, IsTokenFault}
use Rattle.lexer.specs.declared.token.Token.{Token}
use Rattle.tree.specs.Tree.{ExternalTree}
use Rattle.parser.specs.Units.{IsTreeWithin, IsOnly, IsFaultOfUnit}
use Rattle.cc.specs.declared.stopping.Stop.{Stop}
use Rattle.cc.specs.declared.stopping.Stop.TheVariants.{Memory, At, Told}
use Rattle.cc.specs.Compiled.{HasList, HasTokens, HasTree}
use Rattle.cc.specs.Refused.{FailsPreprocessing, FailsTokens, BreaksConstraint, IsRefused}
use Rattle.cc.specs.inside.Stops.{IsTold, IsMemory, Stops}

-- the property of an error that `?` propagates
pub handed_on : {A B : Type 0} (r : Result A B) (f : B) (P : B → Type 0) → IsErrAnd r (λ e. e ≡ f) → P f → IfErr r P
handed_on r f P is h = let p = err_from_is_err_and r is in rw (p.1, p.2) h

pub handed_match : {A B : Type 0} (r : Result A B) (f : B) (P : A → Type 0) (Q : B → Type 0) → IsErrAnd r (λ e. e ≡ f) → Q f → MatchResult r P Q
handed_match r f P Q is h = let p = err_from_is_err_and r is in rw (p.1, p.2) h

-- a property of a value or of an error, weakened
pub ok_means : {A B : Type 0} (r : Result A B) (P Q : A → Type 0) → ((x : A) → P x → Q x) → IfOk r P → IfOk r Q
ok_means (Ok x) P Q means h = means x h
ok_means (Err f) P Q means h = h

pub error_means : {A B : Type 0} (r : Result A B) (P Q : B → Type 0) → ((f : B) → P f → Q f) → IfErr r P → IfErr r Q
error_means (Ok x) P Q means h = h
error_means (Err f) P Q means h = means f h

module _ (stack : ℕ) (set : Files) (name : List ℕ) where
  wants : (fault : Fault) → IsMemoryFault fault → IsRefused stack set name fault
  wants fault m = inr (inr (inr (inr m)))

  told_stops : (stop : Stop) (P : Fault → Type 0) → ((f : Fault) → P f → IsRefused stack set name f) → IsTold P stop → Stops stack set name stop
  told_stops Memory P each h = absurd h
  told_stops (At code line) P each h = absurd h
  told_stops (Told told) P each h = λ fault is. subst (IsRefused stack set name) (sym is) (each told h)

  no_tokens : (fault : Fault) → FailsPreprocessing set name fault ⊎ FailsTokens set name fault ⊎ IsMemoryFault fault → IsRefused stack set name fault
  no_tokens fault (inl f) = inl f
  no_tokens fault (inr (inl t)) = inr (inl t)
  no_tokens fault (inr (inr m)) = wants fault m

  pub tokens_stop : (stop : Stop) → IsTold (λ fault. FailsPreprocessing set name fault ⊎ FailsTokens set name fault ⊎ IsMemoryFault fault) stop → Stops stack set name stop
  tokens_stop stop told = told_stops stop (λ fault. FailsPreprocessing set name fault ⊎ FailsTokens set name fault ⊎ IsMemoryFault fault) no_tokens told

  pub has_tree : (texts : Texts) (tokens slice : List Token) (unit : List ExternalTree) → slice ≡ tokens → HasTokens set name texts tokens → IsTreeWithin slice unit → IsOnly slice unit → HasTree set name texts unit
  has_tree texts tokens slice unit e has tree only = record { tokens = slice; has_tokens = subst (HasTokens set name texts) (sym e) has; tree = tree; only = only }

  pub has_number : (texts : Texts) (tokens : List Token) → HasTokens set name texts tokens → (n : ℕ) × (slice_get texts n ≡ Some name)
  has_number texts tokens has = (has.has_list.numbers.file, has.has_list.numbers.named)

  pub tree_stops : (texts : Texts) (tokens : List Token) (stop : Stop) → HasTokens set name texts tokens → IsTold (λ fault. IsFaultOfUnit fault texts tokens) stop → Stops stack set name stop
  tree_stops texts tokens stop has told =
      told_stops stop (λ fault. IsFaultOfUnit fault texts tokens) (λ f h. inr (inr (inl (record { texts = texts; tokens = tokens; has_tokens = has; fault_is = h })))) told

  pub check_stops : (texts : Texts) (unit : List ExternalTree) (stop : Stop) → HasTree set name texts unit → IsTold (BreaksConstraint stack name texts unit) stop → Stops stack set name stop
  check_stops texts unit stop has told =
      told_stops stop (BreaksConstraint stack name texts unit) (λ f h. inr (inr (inr (inl (record { texts = texts; unit = unit; has_tree = has; breaks = h }))))) told

  pub memory_stops : (stop : Stop) → IsMemory stop → Stops stack set name stop
  memory_stops Memory h = λ fault is. wants fault is
  memory_stops (At code line) h = absurd h
  memory_stops (Told told) h = λ fault is. subst (IsRefused stack set name) (sym is) (wants told h)
