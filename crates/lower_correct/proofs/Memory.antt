-- The effect of one instruction that loads, stores, or makes a reference.
use Rattle.std.proofs.Common.{◌≡◌, ℕ, zero, suc, ◌+◌, ◌*◌, ◌<◌, List, [], ◌∷◌, ◌++◌, length, map, Option, Some, None, true, false, not, ◌&&◌, ℤ, pos, refl, sym, ap, ◌∙◌, subst, arith}
use Rattle.std.specs.Prelude.{◌==◌, nat_lt, slice_get, option_map, if◌then◌else◌}
use Rattle.std.proofs.lemmas.Int.{ints}
use Rattle.std.proofs.lemmas.Bool.Decides.{nat_tests}
use Rattle.ctypes.specs.declared.types.IntType.{IntType}
use Rattle.ctypes.specs.declared.types.IntType.TheVariants as ty
use Rattle.ctypes.specs.Types.{IsValueOf, bytes_of}
use Rattle.ctypes.proofs.Uses.{converted_keeps}
use Rattle.typing_spec.specs.Types.{ObjectType, same_type, elements_in}
use Rattle.typing_spec.specs.Program as typed
use Rattle.csem.specs.Store.{Tree, Element, Array, Store, Reference, into, tree_at, at_path, length_of, value_at, put}
use Rattle.csem.specs.Machine as machine
use Rattle.tac_code.specs.declared.code.Operand.{Operand}
use Rattle.tac_code.specs.declared.code.Operand.TheVariants as operand
use Rattle.tac_code.specs.declared.code.Target.{Target}
use Rattle.tac_code.specs.declared.code.Target.TheVariants as target
use Rattle.tac_code.specs.declared.code.Place.{Place}
use Rattle.tac_code.specs.declared.code.Place.TheVariants as place
use Rattle.tac_code.specs.declared.code.Instruction.TheVariants as instruction
use Rattle.tac_code.specs.Code.{Program, function_at}
use Rattle.tac_code.specs.Run.{Value, reference, with_at, Call, State, Progress, running, ◌>>=◌, where_true, reference_in, word_for, number_of, held_by, value, word_at, gives, gives_word, element_types, element_type, is_type, may_write, is_element, elements_of, path_of, first_of, first_at, element_behind, reference_to, loaded, stored, part, element}
use Rattle.tac_code.specs.Run as tac
use Rattle.lower_correct.specs.Code.{One}
use Rattle.lower_correct.proofs.Words.{ranged, converts_again}
use Rattle.lower_correct.proofs.Steps.{Reaches}
use Rattle.lower_correct.proofs.Shapes.{HasShape, Leads, Sub, sub_there, is_scalar_tree, parts_are, elements_are, set_there}
use Rattle.lower_correct.proofs.Stores.{World, all_types, Refers, Fine, tree_is}
use Rattle.lower_correct.proofs.Standing.{Scratch, here, put_scratch, put_state, Takes, Holds, given, word_there, is_same, does_one, literal_type, types_below, world}

-- ---- the types of the elements of all objects

map_joined : {A B : Type 0} (f : A → B) (xs ys : List A) → map f (xs ++ ys) ≡ map f xs ++ map f ys
map_joined f [] ys = refl
map_joined f (x ∷ xs) ys = ap (λ l. f x ∷ l) (map_joined f xs ys)

map_twice : {A B C : Type 0} (f : B → C) (g : A → B) (xs : List A) → map (λ x. f (g x)) xs ≡ map f (map g xs)
map_twice f g [] = refl
map_twice f g (x ∷ xs) = ap (λ l. f (g x) ∷ l) (map_twice f g xs)

pub got_mapped : {A B : Type 0} (f : A → B) (xs : List A) (n : ℕ) (x : A) → slice_get xs n ≡ Some x → slice_get (map f xs) n ≡ Some (f x)
got_mapped f [] n x e = absurd (let z : ⊥ = cc in z)
got_mapped f (y ∷ xs) zero x e = let same : y ≡ x = cc in ap (λ z. Some (f z)) same
got_mapped f (y ∷ xs) (suc n) x e = got_mapped f xs n x e

abbrev element_of : ObjectType → IntType
element_of o = o.element

elements_below : (q : Program) (ws : List Call) → element_types q ws ≡ map element_of (types_below q ws)
elements_below q [] =
    ap (λ l. l ++ map (λ o. o.type.element) q.statics) (map_twice element_of literal_type q.literals)
    ∙ (ap (λ l. map element_of (map literal_type q.literals) ++ l) (map_twice element_of (λ o. o.type) q.statics)
    ∙ sym (map_joined element_of (map literal_type q.literals) (map (λ o. o.type) q.statics)))
elements_below q (c ∷ ws) =
    ap (λ l. l ++ map element_of (function_at q c.function).objects) (elements_below q ws)
    ∙ sym (map_joined element_of (types_below q ws) (function_at q c.function).objects)

same_itself : (t : IntType) → same_type t t ≡ true
same_itself t = grind (arith, nat_tests)

-- ---- the target of a reference

pub tree_there : (W : World) (r : Reference) (t : IntType) (l : List ℕ) (s : machine.State) → Fine W s → Refers W r t l → Sub t l (tree_at s.store r)
tree_there W r t l s fine h =
    let old = tree_is h.object (slice_get s.store r.object) (fine.fits r.object h.object h.at) in
    let sub = sub_there r.path h.object.element h.object.lengths l old.0 h.leads old.2 in
    record {
      tree = sub.tree;
      is = ap (λ o. at_path o r.path) old.1 ∙ sub.is;
      has = subst (λ y. HasShape y l sub.tree) h.element sub.has;
    }

-- what is put there is what the abstract machine stores (6.5.16p3)
pub element_is_stored : (W : World) (r : Reference) (t : IntType) (v : ℤ) (s : machine.State) → Fine W s → Refers W r t []
    → record s { store = put s.store r (Element (Some v)) } ≡ machine.stored r v s
element_is_stored W r t v s fine h = ap (λ (l : Store). record s { store = l }) (sym (set_there s.store r t v (tree_there W r t [] s fine h)))

leads_into : (path from : List ℕ) (n i : ℕ) (rest : List ℕ) → Leads path from (n ∷ rest) → i < n → Leads (path ++ i ∷ []) from rest
leads_into [] from n i rest h lt = subst (λ l. Leads (i ∷ []) l rest) (sym h) (lt, refl)
leads_into (j ∷ path) [] n i rest h lt = absurd h
leads_into (j ∷ path) (m ∷ from) n i rest h lt = (h.0, leads_into path from n i rest h.1 lt)

pub refers_into : (W : World) (r : Reference) (t : IntType) (n i : ℕ) (rest : List ℕ) → Refers W r t (n ∷ rest) → i < n → Refers W (into r i) t rest
refers_into W r t n i rest h lt = record {
  object = h.object;
  at = h.at;
  element = h.element;
  leads = leads_into r.path h.object.lengths n i rest h.leads lt;
  memory = h.memory;
}

length_is : (t : IntType) (n : ℕ) (rest : List ℕ) (tree : Tree) → HasShape t (n ∷ rest) tree → length_of (Some tree) ≡ n
length_is t n rest (Element v) h = absurd h
length_is t n rest (Array row) h = parts_are t n rest row h

pub length_there : (W : World) (r : Reference) (t : IntType) (n : ℕ) (rest : List ℕ) (s : machine.State) → Fine W s → Refers W r t (n ∷ rest)
    → length_of (tree_at s.store r) ≡ n
length_there W r t n rest s fine h =
    let sub = tree_there W r t (n ∷ rest) s fine h in ap length_of sub.is ∙ length_is t n rest sub.tree sub.has

-- ---- the value of an element

pub held_word : (u : IntType) (v : ℤ) → IsValueOf u v → held_by u (word_for v) ≡ Some v
held_word ty.Bool (pos zero) h = refl
held_word ty.Bool (pos (suc zero)) h = refl
held_word ty.Bool (pos (suc (suc n))) h = absurd (omega (arith, ints, h.1))
held_word ty.Bool (ℤ.negsuc n) h = absurd (omega (arith, ints, h.0))
held_word ty.Char v h = ap Some (converts_again ty.Char v (ranged ty.Char v h) ∙ converted_keeps ty.Char v h)
held_word ty.SChar v h = ap Some (converts_again ty.SChar v (ranged ty.SChar v h) ∙ converted_keeps ty.SChar v h)
held_word ty.UChar v h = ap Some (converts_again ty.UChar v (ranged ty.UChar v h) ∙ converted_keeps ty.UChar v h)
held_word ty.Short v h = ap Some (converts_again ty.Short v (ranged ty.Short v h) ∙ converted_keeps ty.Short v h)
held_word ty.UShort v h = ap Some (converts_again ty.UShort v (ranged ty.UShort v h) ∙ converted_keeps ty.UShort v h)
held_word ty.Int v h = ap Some (converts_again ty.Int v (ranged ty.Int v h) ∙ converted_keeps ty.Int v h)
held_word ty.UInt v h = ap Some (converts_again ty.UInt v (ranged ty.UInt v h) ∙ converted_keeps ty.UInt v h)
held_word ty.Long v h = ap Some (converts_again ty.Long v (ranged ty.Long v h) ∙ converted_keeps ty.Long v h)
held_word ty.ULong v h = ap Some (converts_again ty.ULong v (ranged ty.ULong v h) ∙ converted_keeps ty.ULong v h)

-- ---- a reference to a target that is no object

abbrev pub put_reference : Target → Reference → Scratch → Scratch
put_reference (target.Temporary k) r now = record { temporaries = with_at now.temporaries k (reference r); kept = now.kept }
put_reference (target.Kept k) r now = record { temporaries = now.temporaries; kept = with_at now.kept k (reference r) }
put_reference (target.Object n) r now = now

abbrev pub IsAside : Target → Type 0
IsAside (target.Temporary k) = Unit {0}
IsAside (target.Kept k) = Unit {0}
IsAside (target.Object n) = ⊥

module _ (p : typed.Program) (q : Program) (f : ℕ) where
  -- the reference of a place
  abbrev pub IsAt : Place → Reference → Scratch → machine.State → Type 0
  IsAt a r now s = reference_to q (here f 0 now [] s) a ≡ Some r

  reference_there : (a : Place) (pc : ℕ) (r : Reference) (now : Scratch) (ws : List Call) (s : machine.State) → IsAt a r now s
      → reference_to q (here f pc now ws s) a ≡ Some r
  reference_there (place.Literal n) pc r now ws s h = h
  reference_there (place.Static n) pc r now ws s h = h
  reference_there (place.Array n) pc r now ws s h = h
  reference_there (place.Element n i u) pc r now ws s h = h
  reference_there (place.At (operand.Temporary j)) pc r now ws s h = h
  reference_there (place.At (operand.Kept j)) pc r now ws s h = h
  reference_there (place.At (operand.Object x)) pc r now ws s h = h
  reference_there (place.At (operand.Parameter n)) pc r now ws s h = h
  reference_there (place.At (operand.Constant v)) pc r now ws s h = h

  element_there : (pc : ℕ) (r : Reference) (t : IntType) (l : List ℕ) (now : Scratch) (ws : List Call) (s : machine.State) → Refers (world p q f ws) r t l
      → element_type q (here f pc now ws s) r ≡ Some t
  element_there pc r t l now ws s h =
      ap (λ types. slice_get types r.object) (elements_below q (record { function = f; at = pc; kept = now.kept; base = s.base; arrays = s.arrays } ∷ ws))
      ∙ (got_mapped element_of (all_types (world p q f ws)) r.object h.object h.at ∙ ap Some h.element)

  pub does_load : (u : IntType) (g : Target) (a : Place) (r : Reference) (v : ℤ) (pc pc2 : ℕ) (now : Scratch) (ws : List Call) (s : machine.State)
      → One (function_at q f).code (instruction.Load u g a) pc pc2 → IsAt a r now s → Refers (world p q f ws) r u [] → value_at s.store r ≡ Some v
      → Takes q f g (word_for v)
      → Reaches q (here f pc now ws s) 1 7 (running (here f pc2 (put_scratch g (word_for v) now) ws (put_state q f g (word_for v) s)))
  does_load u g a r v pc pc2 now ws s i ha hr hv k =
      let t = here f pc now ws s in
      let w = word_for v in
      does_one q f (instruction.Load u g a) pc pc2 now ws s (running (here f pc2 (put_scratch g w now) ws (put_state q f g w s))) i
      (ap (λ o. o >>= loaded q t u g) (reference_there a pc r now ws s ha)
      ∙ (ap (λ o. where_true (is_type u o) (value_at s.store r >>= λ v. gives_word q g t (word_for v))) (element_there pc r u [] now ws s hr)
      ∙ (ap (λ b. where_true b (value_at s.store r >>= λ v. gives_word q g t (word_for v))) (same_itself u)
      ∙ (ap (λ o. o >>= λ v. gives_word q g t (word_for v)) hv
      ∙ (given q f g pc w now ws s k ∙ ap (λ n. running (here f n (put_scratch g w now) ws (put_state q f g w s))) i.next)))))

  pub does_store : (u : IntType) (x : Operand) (a : Place) (r : Reference) (w : ℕ) (v : ℤ) (pc pc2 : ℕ) (now : Scratch) (ws : List Call) (s : machine.State)
      → One (function_at q f).code (instruction.Store u x a) pc pc2 → Holds q f x w now s → IsAt a r now s → Refers (world p q f ws) r u []
      → Fine (world p q f ws) s → nat_lt r.object (length q.literals) ≡ false → held_by u w ≡ Some v
      → Reaches q (here f pc now ws s) 1 7 (running (here f pc2 now ws (record s { store = put s.store r (Element (Some v)) })))
  does_store u x a r w v pc pc2 now ws s i hx ha hr fine hl hv =
      let t = here f pc now ws s in
      let s2 : machine.State = record s { store = put s.store r (Element (Some v)) } in
      let sub = tree_there (world p q f ws) r u [] s fine hr in
      let go : Progress = held_by u w >>= λ v. running (tac.with_number r v (tac.next t)) in
      let there : is_element (tree_at s.store r) ≡ true = ap is_element sub.is ∙ is_scalar_tree u sub.tree sub.has in
      let may : (is_type u (element_type q t r) && (may_write q r && is_element (tree_at s.store r))) ≡ true =
      ap (λ o. is_type u o && (may_write q r && is_element (tree_at s.store r))) (element_there pc r u [] now ws s hr)
      ∙ (ap (λ b. b && (may_write q r && is_element (tree_at s.store r))) (same_itself u)
      ∙ (ap (λ b. not b && is_element (tree_at s.store r)) hl ∙ there)) in
      does_one q f (instruction.Store u x a) pc pc2 now ws s (running (here f pc2 now ws s2)) i
      (ap (λ o. o >>= λ n. reference_to q t a >>= stored q t u n) (word_there q f x pc w now ws s hx)
      ∙ (ap (λ o. o >>= stored q t u w) (reference_there a pc r now ws s ha)
      ∙ (ap (λ b. where_true b go) may
      ∙ (ap (λ o. o >>= λ v. running (tac.with_number r v (tac.next t))) hv ∙ ap (λ n. running (here f n now ws s2)) i.next))))

  -- a reference to a target
  given_reference : (g : Target) (pc : ℕ) (r : Reference) (now : Scratch) (ws : List Call) (s : machine.State) → IsAside g
      → gives q g (here f pc now ws s) (reference r) ≡ running (here f (pc + 1) (put_reference g r now) ws s)
  given_reference (target.Temporary k) pc r now ws s h = refl
  given_reference (target.Kept k) pc r now ws s h = refl
  given_reference (target.Object n) pc r now ws s h = absurd h

  pub does_address : (g : Target) (a : Place) (r : Reference) (pc pc2 : ℕ) (now : Scratch) (ws : List Call) (s : machine.State)
      → One (function_at q f).code (instruction.Address g a) pc pc2 → IsAt a r now s → IsAside g
      → Reaches q (here f pc now ws s) 1 6 (running (here f pc2 (put_reference g r now) ws s))
  does_address g a r pc pc2 now ws s i ha hg =
      does_one q f (instruction.Address g a) pc pc2 now ws s (running (here f pc2 (put_reference g r now) ws s)) i
      (ap (λ o. o >>= λ r. gives q g (here f pc now ws s) (reference r)) (reference_there a pc r now ws s ha)
      ∙ (given_reference g pc r now ws s hg ∙ ap (λ n. running (here f n (put_reference g r now) ws s)) i.next))

  pub value_is : (o : Option Value) (r : Reference) → reference_in o ≡ Some r → o ≡ Some (reference r)
  value_is None r e = absurd (let z : ⊥ = cc in z)
  value_is (Some (tac.word w)) r e = absurd (let z : ⊥ = cc in z)
  value_is (Some (tac.reference x)) r e = let same : x ≡ r = cc in ap (λ z. Some (reference z)) same

  value_there : (o : Operand) (pc : ℕ) (r : Reference) (now : Scratch) (ws : List Call) (s : machine.State) → IsAt (place.At o) r now s
      → value (here f pc now ws s) o ≡ Some (reference r)
  value_there o pc r now ws s h = value_is (value (here f pc now ws s) o) r (reference_there (place.At o) pc r now ws s h)

  pub does_move_reference : (g : Target) (o : Operand) (r : Reference) (pc pc2 : ℕ) (now : Scratch) (ws : List Call) (s : machine.State)
      → One (function_at q f).code (instruction.Move g o) pc pc2 → IsAt (place.At o) r now s → IsAside g
      → Reaches q (here f pc now ws s) 1 6 (running (here f pc2 (put_reference g r now) ws s))
  does_move_reference g o r pc pc2 now ws s i ha hg =
      does_one q f (instruction.Move g o) pc pc2 now ws s (running (here f pc2 (put_reference g r now) ws s)) i
      (ap (λ x. x >>= gives q g (here f pc now ws s)) (value_there o pc r now ws s ha)
      ∙ (given_reference g pc r now ws s hg ∙ ap (λ n. running (here f n (put_reference g r now) ws s)) i.next))

  -- element or row i of an array of n
  pub does_part : (g : Target) (x y : Operand) (size n i : ℕ) (rest : List ℕ) (t : IntType) (r : Reference) (pc pc2 : ℕ) (now : Scratch) (ws : List Call)
      (s : machine.State)
      → One (function_at q f).code (instruction.Part g x y size) pc pc2 → IsAt (place.At x) r now s → Holds q f y i now s
      → Refers (world p q f ws) r t (n ∷ rest) → Fine (world p q f ws) s → i < n → size ≡ bytes_of t * elements_in rest → IsAside g
      → Reaches q (here f pc now ws s) 1 13 (running (here f pc2 (put_reference g (into r i) now) ws s))
  does_part g x y size n i rest t r pc pc2 now ws s o hx hy hr fine lt hs hg =
      let z = here f pc now ws s in
      let r2 = into r i in
      let inner = refers_into (world p q f ws) r t n i rest hr lt in
      let sub = tree_there (world p q f ws) r2 t rest s fine inner in
      let sized : (bytes_of t * elements_of sub.tree == size) ≡ true =
      ap (λ k. bytes_of t * k == size) (elements_are t rest sub.tree sub.has)
      ∙ (ap (λ k. bytes_of t * elements_in rest == k) hs ∙ is_same (bytes_of t * elements_in rest)) in
      does_one q f (instruction.Part g x y size) pc pc2 now ws s (running (here f pc2 (put_reference g r2 now) ws s)) o
      (ap (λ a. a >>= λ r. word_at z y >>= λ i. part q z g (into r i) size) (reference_there (place.At x) pc r now ws s hx)
      ∙ (ap (λ a. a >>= λ i. part q z g (into r i) size) (word_there q f y pc i now ws s hy)
      ∙ (ap (λ a. a >>= λ t. tree_at s.store r2 >>= λ tree. where_true (bytes_of t * elements_of tree == size) (gives q g z (reference r2)))
      (element_there pc r2 t rest now ws s inner)
      ∙ (ap (λ a. a >>= λ tree. where_true (bytes_of t * elements_of tree == size) (gives q g z (reference r2))) sub.is
      ∙ (ap (λ b. where_true b (gives q g z (reference r2))) sized
      ∙ (given_reference g pc r2 now ws s hg ∙ ap (λ n. running (here f n (put_reference g r2 now) ws s)) o.next))))))

  -- the element `count` elements after the first one that a reference leads to, in an object of these lengths
  pub does_element : (t : IntType) (g : Target) (x y : Operand) (r : Reference) (rest : List ℕ) (tree : Tree) (i : ℕ) (path : List ℕ) (pc pc2 : ℕ) (now : Scratch)
      (ws : List Call) (s : machine.State)
      → One (function_at q f).code (instruction.Element t g x y) pc pc2 → IsAt (place.At x) r now s → Holds q f y i now s
      → Refers (world p q f ws) r t rest → slice_get s.store r.object ≡ Some tree → path_of tree (first_of tree r.path + i) ≡ Some path → IsAside g
      → Reaches q (here f pc now ws s) 1 13 (running (here f pc2 (put_reference g (record { object = r.object; path = path }) now) ws s))
  does_element t g x y r rest tree i path pc pc2 now ws s o hx hy hr ht hp hg =
      let z = here f pc now ws s in
      let r2 : Reference = record { object = r.object; path = path } in
      let behind : element_behind s.store r i ≡ Some r2 =
      ap (λ a. tac.element_of r.object a (first_at a r.path + i)) ht ∙ ap (λ a. option_map (λ path. record { object = r.object; path = path }) a) hp in
      does_one q f (instruction.Element t g x y) pc pc2 now ws s (running (here f pc2 (put_reference g r2 now) ws s)) o
      (ap (λ a. a >>= λ r. word_at z y >>= λ i. element q z t g r i) (reference_there (place.At x) pc r now ws s hx)
      ∙ (ap (λ a. a >>= λ i. element q z t g r i) (word_there q f y pc i now ws s hy)
      ∙ (ap (λ a. where_true (is_type t a) (element_behind s.store r i >>= λ r3. gives q g z (reference r3))) (element_there pc r t rest now ws s hr)
      ∙ (ap (λ b. where_true b (element_behind s.store r i >>= λ r3. gives q g z (reference r3))) (same_itself t)
      ∙ (ap (λ a. a >>= λ r3. gives q g z (reference r3)) behind
      ∙ (given_reference g pc r2 now ws s hg ∙ ap (λ n. running (here f n (put_reference g r2 now) ws s)) o.next))))))

  -- an element of an array of the call, by its number
  pub is_at_element : (n i : ℕ) (t : IntType) (o : ObjectType) (tree : Tree) (path : List ℕ) (now : Scratch) (s : machine.State)
      → slice_get (function_at q f).objects n ≡ Some o → t ≡ o.element → slice_get s.store (s.base + n) ≡ Some tree → path_of tree i ≡ Some path
      → IsAt (place.Element n i t) (record { object = s.base + n; path = path }) now s
  is_at_element n i t o tree path now s ho ht hs hp =
      let test : is_type t (option_map (λ (x : ObjectType). x.element) (slice_get (function_at q f).objects n)) ≡ true =
      ap (λ a. is_type t (option_map (λ (x : ObjectType). x.element) a)) ho ∙ (ap (λ u. same_type t u) (sym ht) ∙ same_itself t) in
      ap (λ b. if b then tac.element_of (s.base + n) (slice_get s.store (s.base + n)) i else None) test
      ∙ (ap (λ a. tac.element_of (s.base + n) a i) hs ∙ ap (λ a. option_map (λ path. record { object = s.base + n; path = path }) a) hp)
