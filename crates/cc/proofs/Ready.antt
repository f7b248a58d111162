-- The typed program of a unit within the limits is one for which the back end makes code.
use Rattle.std.proofs.Common.{◌≡◌, ◌≤◌, ℕ, zero, suc, List, [], ◌∷◌, Some, ap, sym, subst}
use Rattle.std.proofs.Math.Nat.{le_trans}
use Rattle.std.specs.Prelude.{slice_get}
use Rattle.srcset.specs.NameTable.{Texts}
use Rattle.tree.specs.Tree.{FunctionTree, ExternalTree, definition}
use Rattle.typing_spec.specs.Program.{Program}
use Rattle.typing_spec.specs.Verdict.{fine}
use Rattle.typing_spec.specs.Units.{unit_typed}
use Rattle.parser.specs.Units.{IsTreeWithin, of_function, of_program, IsSmall, AreSmall}
use Rattle.lexer.specs.declared.token.Token.{Token}
use Rattle.lower_wf.specs.Laws.{AreTexts, IsWithinNodes}
use Rattle.lower_wf.proofs.AskedStatements.{program_is_asked}
use Rattle.lower_wf_units.proofs.Whole.{program_is_checked}
use Rattle.cc_backend.specs.Made.{IsReady}
use Rattle.cc_backend.proofs.Bounds.{units_are_small}
use Rattle.cc.specs.Compiled.{typed_at, IsProgramOf}

same_some : {A : Type 0} (x y : A) → Some x ≡ Some y → x ≡ y
same_some x y e = cc

within_nodes : (unit : List ExternalTree) → AreSmall unit → IsWithinNodes unit
within_nodes [] h k f e = absurd (let z : ⊥ = cc in z)
within_nodes (x ∷ es) h zero f e = subst IsSmall (same_some x (definition f) e) h.0
within_nodes (x ∷ es) h (suc k) f e = within_nodes es h.1 k f e

typed_is : (stack : ℕ) (texts : Texts) (file : ℕ) (unit : List ExternalTree) (p : Program) → typed_at stack texts file unit ≡ fine p → unit_typed stack texts (record { file = file; line = 1 }) unit ≡ fine p
unfolding typed_at
typed_is stack texts file unit p e = e

pub is_ready : (stack : ℕ) (name : List ℕ) (texts : Texts) (tokens : List Token) (unit : List ExternalTree) (p : Program) → stack ≤ 16777216 → AreTexts texts → IsTreeWithin tokens unit → IsProgramOf stack name texts unit p → IsReady p
is_ready stack name texts tokens unit p l a w h =
    let e = typed_is stack texts h.file unit p h.typed in record {
      checked = program_is_checked stack texts (record { file = h.file; line = 1 }) unit p l a (within_nodes unit (w.within of_function)) e;
      asked = program_is_asked stack texts (record { file = h.file; line = 1 }) unit p e;
      few = le_trans (units_are_small stack texts (record { file = h.file; line = 1 }) unit p e) (w.within of_program);
    }
