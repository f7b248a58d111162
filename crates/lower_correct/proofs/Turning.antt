-- One turn of a loop that clears elements of an array (ISO/IEC 9899:2011 6.7.9p21).
use Rattle.std.proofs.Common.{◌≡◌, ℕ, suc, ◌+◌, ◌<◌, List, [], length, Some, false, ℤ, pos, inr, refl, sym, ap, ◌∙◌, subst}
use Rattle.std.specs.Prelude.{slice_get, nat_lt, if◌then◌else◌}
use Rattle.ctypes.specs.declared.types.IntType.{IntType}
use Rattle.ctypes.specs.Types.{IsValueOf}
use Rattle.typing_spec.specs.Types.{ObjectType, elements_in}
use Rattle.typing_spec.specs.Program as typed
use Rattle.csem.specs.Store.{Tree, Element, Reference, put}
use Rattle.csem.specs.Machine as machine
use Rattle.tac_code.specs.declared.code.Operand.TheVariants as operand
use Rattle.tac_code.specs.declared.code.Target.TheVariants as target
use Rattle.tac_code.specs.declared.code.Place.TheVariants as place
use Rattle.tac_code.specs.declared.code.Reading.TheVariants as reading
use Rattle.tac_code.specs.declared.code.Operation.TheVariants as operation
use Rattle.tac_code.specs.declared.code.Comparison.TheVariants as comparison
use Rattle.tac_code.specs.Code.{Program, function_at}
use Rattle.tac_code.specs.Run.{Call, State, running, word, operate, holds, path_of, first_of}
use Rattle.lower_correct.specs.Code.{zero_word}
use Rattle.lower_correct.specs.Initialisers.{ClearsTo}
use Rattle.lower_correct.proofs.Steps.{Reaches, reaches_on}
use Rattle.lower_correct.proofs.Shapes.{HasShape, Leads}
use Rattle.lower_correct.proofs.Elements.{path_there}
use Rattle.lower_correct.proofs.Written.{set_no, written}
use Rattle.lower_correct.proofs.Zeros.{number, first_is}
use Rattle.lower_correct.proofs.Filling.{with_object, got_object, put_element}
use Rattle.lower_correct.proofs.Stores.{all_types, Refers, Fine}
use Rattle.lower_correct.proofs.Standing.{Scratch, here, put_scratch, set_same, Holds, does_compute, does_branch, world}
use Rattle.lower_correct.proofs.Memory.{IsAt, put_reference, held_word, does_element, does_store}

-- an array of the call that is initialised from element `first` on: where it is, its type, and the tree that it was
pub record Array (p : typed.Program) (q : Program) (f : ℕ) (ws : List Call) (s : machine.State) (t : IntType) (first : ℕ) : Type 0 where
  pub object : ℕ
  pub type : ObjectType
  pub at : slice_get (all_types (world p q f ws)) object ≡ Some type
  pub element : type.element ≡ t
  pub is_array : type.lengths ≡ [] → ⊥
  pub no_literal : nat_lt object (length q.literals) ≡ false
  pub tree : Tree
  pub there : slice_get s.store object ≡ Some tree
  pub path : List ℕ
  pub leads : Leads path type.lengths []
  pub number : number type.lengths path ≡ first

-- `give` has the value of each element from the first one on
module _ (p : typed.Program) (q : Program) (f : ℕ) (ws : List Call) (s : machine.State) (t : IntType) (first : ℕ) (a : Array p q f ws s t first)
    (give : ℕ → ℤ) where
  -- the state where j elements are written
  abbrev pub reached : ℕ → machine.State
  reached j = record s { store = with_object s.store a.object (written a.tree first j give) }

  abbrev pub first_one : Reference
  first_one = record { object = a.object; path = a.path }

  pub refers : (path : List ℕ) → Leads path a.type.lengths [] → Refers (world p q f ws) (record { object = a.object; path = path }) t []
  refers path h = record { object = a.type; at = a.at; element = a.element; leads = h; memory = inr a.is_array }

  -- temporary 0 counts, temporary 1 has the reference of the first element
  pub record Counts (j : ℕ) (now : Scratch) (z : machine.State) : Type 0 where
    pub count : Holds q f (operand.Temporary 0) j now z
    pub base : IsAt p q f (place.At (operand.Temporary 1)) first_one now z

  pub record Turned (j c top pc2 : ℕ) (now : Scratch) (z : State) : Type 0 where
    pub now2 : Scratch
    pub reaches : Reaches q z 4 39 (running (here f (if nat_lt (suc j) c then top else pc2) now2 ws (reached (suc j))))
    pub counts : Counts (suc j) now2 (reached (suc j))
    pub kept : now2.kept ≡ now.kept

  pub turn : (j c top pc2 : ℕ) (now : Scratch) → ClearsTo (function_at q f).code t c top pc2 → Counts j now (reached j)
      → HasShape t a.type.lengths (written a.tree first j give) → first + j < elements_in a.type.lengths → IsValueOf t (pos 0)
      → Fine (world p q f ws) (reached j) → operate operation.Add reading.Unsigned j 1 ≡ Some (suc j)
      → holds comparison.Less reading.Unsigned (suc j) c ≡ nat_lt (suc j) c → give j ≡ pos 0
      → Turned j c top pc2 now (here f top now ws (reached j))
  turn j c top pc2 now i has shape lt hv fine adds less zero =
      let tree = written a.tree first j give in
      let s1 = reached j in
      let there : slice_get s1.store a.object ≡ Some tree = got_object s.store a.object a.tree tree a.there in
      let way = path_there t a.type.lengths tree (first + j) shape lt in
      let r : Reference = record { object = a.object; path = way.path } in
      let start : first_of tree a.path ≡ first = first_is t a.path a.type.lengths [] tree shape a.leads ∙ a.number in
      let found : path_of tree (first_of tree a.path + j) ≡ Some way.path = ap (λ n. path_of tree (n + j)) start ∙ way.is in
      let now1 = put_reference (target.Temporary 2) r now in
      let one = does_element p q f t (target.Temporary 2) (operand.Temporary 1) (operand.Temporary 0) first_one [] tree j way.path top i.0 now ws s1 i.2 has.base has.count (refers a.path a.leads) there found tt in
      let at2 : IsAt p q f (place.At (operand.Temporary 2)) r now1 s1 = reference_set r now s1 in
      let s2 : machine.State = record s1 { store = put s1.store r (Element (Some (pos 0))) } in
      let two = does_store p q f t zero_word (place.At (operand.Temporary 2)) r 0 (pos 0) i.0 i.1 now1 ws s1 i.3 refl at2 (refers way.path way.leads) fine a.no_literal (held_word t (pos 0) hv) in
      let same : put s1.store r (Element (Some (pos 0))) ≡ with_object s.store a.object (written a.tree first (suc j) give) =
      put_element s.store a.object a.tree tree (first + j) way.path (pos 0) a.there way.is
      ∙ ap (λ v. with_object s.store a.object (set_no tree (first + j) v)) (sym zero) in
      let two2 : Reaches q (here f i.0 now1 ws s1) 1 7 (running (here f i.1 now1 ws (reached (suc j)))) =
      subst (λ store. Reaches q (here f i.0 now1 ws s1) 1 7 (running (here f i.1 now1 ws (record s { store = store })))) same two in
      let now2 = put_scratch (target.Temporary 0) (suc j) now1 in
      let s3 = reached (suc j) in
      let three = does_compute q f operation.Add reading.Unsigned (target.Temporary 0) (operand.Temporary 0) (operand.Constant 1) j 1 (suc j) i.1 i.4.0 now1 ws s3 i.4.1
      (count_stays j r now s1 s3 has.count) refl adds tt in
      let four = does_branch q f comparison.Less reading.Unsigned (operand.Temporary 0) (operand.Constant c) top (suc j) c (nat_lt (suc j) c) i.4.0 pc2 now2 ws s3 i.4.2
      (set_same now1.temporaries 0 (word (suc j))) refl less in
      record {
        now2 = now2;
        reaches = reaches_on q (here f top now ws s1) (here f i.0 now1 ws s1) 1 13 3 26 (running (here f (if nat_lt (suc j) c then top else pc2) now2 ws s3)) one
            (reaches_on q (here f i.0 now1 ws s1) (here f i.1 now1 ws s3) 1 7 2 19 (running (here f (if nat_lt (suc j) c then top else pc2) now2 ws s3)) two2
            (reaches_on q (here f i.1 now1 ws s3) (here f i.4.0 now2 ws s3) 1 11 1 8 (running (here f (if nat_lt (suc j) c then top else pc2) now2 ws s3)) three four));
        counts = record { count = set_same now1.temporaries 0 (word (suc j)); base = base_stays (suc j) r now s1 s3 has.base };
        kept = refl;
      }
    where
      reference_set : (r : Reference) (now : Scratch) (z : machine.State) → IsAt p q f (place.At (operand.Temporary 2)) r (put_reference (target.Temporary 2) r now) z
      reference_set r now z = refl

      count_stays : (j : ℕ) (r : Reference) (now : Scratch) (z z2 : machine.State) → Holds q f (operand.Temporary 0) j now z → Holds q f (operand.Temporary 0) j (put_reference (target.Temporary 2) r now) z2
      count_stays j r now z z2 h = h

      base_stays : (k : ℕ) (r : Reference) (now : Scratch) (z z2 : machine.State) → IsAt p q f (place.At (operand.Temporary 1)) first_one now z
          → IsAt p q f (place.At (operand.Temporary 1)) first_one (put_scratch (target.Temporary 0) k (put_reference (target.Temporary 2) r now)) z2
      base_stays k r now z z2 h = h
