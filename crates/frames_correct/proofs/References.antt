-- References to places, and to parts of arrays.
use Rattle.std.proofs.Common.{◌≡◌, ℕ, ◌+◌, ◌*◌, List, [], ◌∷◌, ◌++◌, Some, sym, ap, ◌∙◌, subst, arith}
use Rattle.std.specs.Prelude.{slice_get, ◌==◌}
use Rattle.std.proofs.lemmas.Bool.Decides.{nat_tests}
use Rattle.ctypes.specs.declared.types.IntType.{IntType}
use Rattle.ctypes.specs.Types.{bytes_of}
use Rattle.csem.specs.Store.{Tree, Reference, into, at_path, tree_at}
use Rattle.tac_code.specs.declared.code.Operand.{Operand}
use Rattle.tac_code.specs.declared.code.Target.{Target}
use Rattle.tac_code.specs.declared.code.Place.{Place}
use Rattle.tac_code.specs.declared.code.Instruction.TheVariants as instruction
use Rattle.tac_code.specs.Code.{Program}
use Rattle.tac_code.specs.Run as tac
use Rattle.tac_code.specs.Run.{State, Value, word, reference, Progress, value, word_at, reference_in, reference_to, element_type, elements_of, path_of, first_of, first_at, element_of, element_behind, is_type, gives, part, element, where_true, open_calls, ◌>>=◌}
use Rattle.tac_code.specs.Sound.{OperandFits, TargetFits, PlaceFits}
use Rattle.frames_code.specs.Code as flat_code
use Rattle.frames_code.specs.Run as flat
use Rattle.frames.specs.Layout.{layout_of, starts_of}
use Rattle.frames.specs.Translated.{operand_of, target_of, location_of, translated}
use Rattle.frames_correct.specs.Matched.{Spot, Matched, Alike, Leads, elements_before, offset_at, list_in, offset_in}
use Rattle.frames_correct.proofs.Lists.{same_some}
use Rattle.frames_correct.proofs.Trees.{behind, reached, count_elements, before_more}
use Rattle.frames_correct.proofs.Values.{gave, word_shows, reference_shows}
use Rattle.frames_correct.proofs.Elements.{path_found, first_is}
use Rattle.frames_correct.proofs.Accesses.{type_known}
use Rattle.frames_correct.proofs.Targets.{bound, tested, found, given}
use Rattle.frames_correct.proofs.Places.{xs, the, place_there, type_is}
use Rattle.frames_correct.proofs.Ground.{IsMadeOf}

-- the part found at the target of the reference
pub record PartThere (xs : List Spot) (r : Reference) (i : ℕ) (t : Tree) : Type 0 where
  pub leads : Leads xs (into r i)
  pub offset : offset_in (slice_get xs r.object) (into r i).path ≡ offset_in (slice_get xs r.object) r.path + i * (bytes_of leads.spot.type.element * elements_of t)

offset_more : (o b e i k n : ℕ) → n ≡ e + i * k → o + b * n ≡ o + b * e + i * (b * k)
offset_more o b e i k n h = let d : b * (e + i * k) ≡ b * e + i * (b * k) = grind arith in let c : b * n ≡ b * (e + i * k) = ap (λ z. b * z) h in omega (arith, d, c)

module _ (q : Program) (f : flat_code.Program) (g : IsMadeOf q f) (t : State) (s : flat.State) (m : Matched q f t s) where
  part_there : (r : Reference) (i : ℕ) (tree : Tree) → Leads (xs q f g t s m) r → tree_at t.store (into r i) ≡ Some tree → PartThere (xs q f g t s m) r i tree
  part_there r i tree l e =
      let in_place = m.in_place r.object l.spot l.spot_is l.in_bytes in
      let x = l.spot in
      let there : at_path (Some in_place.tree) (r.path ++ i ∷ []) ≡ Some tree = ap (λ o. at_path o (r.path ++ i ∷ [])) (sym in_place.tree_is) ∙ e in
      let reach = reached x.type.lengths in_place.tree (r.path ++ i ∷ []) tree in_place.shaped there in
      let more = before_more x.type.lengths r.path i reach.within in
      let count = count_elements (behind x.type.lengths (r.path ++ i ∷ [])) tree reach.shaped in
      let sum : offset_at x (r.path ++ i ∷ []) ≡ offset_at x r.path + i * (bytes_of x.type.element * elements_of tree) =
      offset_more x.offset (bytes_of x.type.element) (elements_before x.type.lengths r.path) i (elements_of tree) (elements_before x.type.lengths (r.path ++ i ∷ [])) (more ∙ ap (λ k. elements_before x.type.lengths r.path + i * k) (sym count)) in
      record {
        leads = record { spot = x; spot_is = l.spot_is; in_bytes = l.in_bytes; path = reach.within };
        offset = ap (λ o. offset_in o (r.path ++ i ∷ [])) l.spot_is ∙ (sum ∙ ap (λ o. offset_in o r.path + i * (bytes_of x.type.element * elements_of tree)) (sym l.spot_is));
      }

  pub does_address : (d : Target) (l : Place) → TargetFits (the q f g t s m) d → PlaceFits q (the q f g t s m) l
      → Alike q f (tac.act q t (instruction.Address d l)) (flat.act f s (translated (starts_of q) (layout_of (the q f g t s m)) (instruction.Address d l)))
  does_address d l fd fl =
      let lay = layout_of (the q f g t s m) in
      let here = xs q f g t s m in
      bound q f (reference_to q t l) (λ r. gives q d t (reference r)) (flat.act f s (translated (starts_of q) lay (instruction.Address d l))) (λ r er.
      let h = place_there q f g t s m l r fl er in
      found q f (gives q d t (reference r)) (flat.place f s (location_of (starts_of q) lay l)) (record { list = list_in (slice_get here r.object); offset = offset_in (slice_get here r.object) r.path }) (λ p. flat.gives (target_of lay d) s (flat.reference p.list p.offset)) h.is
      (given q f t s m d (reference r) flat.unset fd h.leads))

  pub does_part : (d : Target) (x y : Operand) (size : ℕ) → TargetFits (the q f g t s m) d → OperandFits (the q f g t s m) x → OperandFits (the q f g t s m) y
      → Alike q f (tac.act q t (instruction.Part d x y size)) (flat.act f s (translated (starts_of q) (layout_of (the q f g t s m)) (instruction.Part d x y size)))
  does_part d x y size fd fx fy =
      let lay = layout_of (the q f g t s m) in
      let here = xs q f g t s m in
      let last : flat.Reference → ℕ → flat.Progress = λ r n. flat.gives (target_of lay d) s (flat.reference r.list (r.offset + n * size)) in
      bound q f (reference_in (value t x)) (λ r. word_at t y >>= λ i. part q t d (into r i) size) (flat.act f s (translated (starts_of q) lay (instruction.Part d x y size))) (λ r er.
      let hx = reference_shows q f t s m x r fx er in
      let at : flat.Reference = record { list = list_in (slice_get here r.object); offset = offset_in (slice_get here r.object) r.path } in
      found q f (word_at t y >>= λ i. part q t d (into r i) size) (flat.reference_in (flat.value s (operand_of lay x))) at (λ r2. flat.◌>>=◌ (flat.word_at s (operand_of lay y)) (last r2)) hx.is
      (bound q f (word_at t y) (λ i. part q t d (into r i) size) (flat.◌>>=◌ (flat.word_at s (operand_of lay y)) (last at)) (λ i ei.
      let hy = word_shows q f t s m y i fy ei in
      found q f (part q t d (into r i) size) (flat.word_at s (operand_of lay y)) i (last at) hy.is
      (parts r i at hx.leads))))
    where
      parts : (r : Reference) (i : ℕ) (at : flat.Reference) → Leads (xs q f g t s m) r → Alike q f (part q t d (into r i) size) (flat.gives (target_of (layout_of (the q f g t s m)) d) s (flat.reference (list_in (slice_get (xs q f g t s m) r.object)) (offset_in (slice_get (xs q f g t s m) r.object) r.path + i * size)))
      parts r i at l =
          let here = xs q f g t s m in
          let lay = layout_of (the q f g t s m) in
          let R = flat.gives (target_of lay d) s (flat.reference (list_in (slice_get here r.object)) (offset_in (slice_get here r.object) r.path + i * size)) in
          let go : IntType → Tree → Progress = λ e tree. where_true (bytes_of e * elements_of tree == size) (gives q d t (reference (into r i))) in
          bound q f (element_type q t (into r i)) (λ e. tree_at t.store (into r i) >>= go e) R (λ e ee.
          bound q f (tree_at t.store (into r i)) (go e) R (λ tree et.
          tested q f (bytes_of e * elements_of tree == size) (gives q d t (reference (into r i))) R (λ es.
          let h = part_there r i tree l et in
          let kind : e ≡ h.leads.spot.type.element = same_some e h.leads.spot.type.element (sym ee ∙ type_is q t (into r i) h.leads.spot h.leads.spot_is) in
          let is : bytes_of e * elements_of tree ≡ size = grind (arith, nat_tests) in
          let sizes : bytes_of h.leads.spot.type.element * elements_of tree ≡ size = ap (λ z. bytes_of z * elements_of tree) (sym kind) ∙ is in
          let offset : offset_in (slice_get here r.object) (into r i).path ≡ offset_in (slice_get here r.object) r.path + i * size = h.offset ∙ ap (λ k. offset_in (slice_get here r.object) r.path + i * k) sizes in
          subst (λ k. Alike q f (gives q d t (reference (into r i))) (flat.gives (target_of lay d) s (flat.reference (list_in (slice_get here r.object)) k))) offset
          (given q f t s m d (reference (into r i)) flat.unset fd h.leads))))

  -- the number of an element after a reference, in bytes
  on_by : (o b e n i : ℕ) → n ≡ e + i → o + b * n ≡ o + b * e + i * b
  on_by o b e n i h = let d : b * (e + i) ≡ b * e + i * b = grind arith in let c : b * n ≡ b * (e + i) = ap (λ z. b * z) h in omega (arith, d, c)

  pub does_element : (e : IntType) (d : Target) (x y : Operand) → TargetFits (the q f g t s m) d → OperandFits (the q f g t s m) x → OperandFits (the q f g t s m) y
      → Alike q f (tac.act q t (instruction.Element e d x y)) (flat.act f s (translated (starts_of q) (layout_of (the q f g t s m)) (instruction.Element e d x y)))
  does_element e d x y fd fx fy =
      let lay = layout_of (the q f g t s m) in
      let here = xs q f g t s m in
      let last : flat.Reference → ℕ → flat.Progress = λ r n. flat.gives (target_of lay d) s (flat.reference r.list (r.offset + n * bytes_of e)) in
      bound q f (reference_in (value t x)) (λ r. word_at t y >>= λ i. element q t e d r i) (flat.act f s (translated (starts_of q) lay (instruction.Element e d x y))) (λ r er.
      let hx = reference_shows q f t s m x r fx er in
      let at : flat.Reference = record { list = list_in (slice_get here r.object); offset = offset_in (slice_get here r.object) r.path } in
      found q f (word_at t y >>= λ i. element q t e d r i) (flat.reference_in (flat.value s (operand_of lay x))) at (λ r2. flat.◌>>=◌ (flat.word_at s (operand_of lay y)) (last r2)) hx.is
      (bound q f (word_at t y) (λ i. element q t e d r i) (flat.◌>>=◌ (flat.word_at s (operand_of lay y)) (last at)) (λ i ei.
      let hy = word_shows q f t s m y i fy ei in
      found q f (element q t e d r i) (flat.word_at s (operand_of lay y)) i (last at) hy.is
      (elements r i hx.leads))))
    where
      elements : (r : Reference) (i : ℕ) → Leads (xs q f g t s m) r → Alike q f (element q t e d r i) (flat.gives (target_of (layout_of (the q f g t s m)) d) s (flat.reference (list_in (slice_get (xs q f g t s m) r.object)) (offset_in (slice_get (xs q f g t s m) r.object) r.path + i * bytes_of e)))
      elements r i l =
          let here = xs q f g t s m in
          let lay = layout_of (the q f g t s m) in
          let R = flat.gives (target_of lay d) s (flat.reference (list_in (slice_get here r.object)) (offset_in (slice_get here r.object) r.path + i * bytes_of e)) in
          let z = l.spot in
          let in_place = m.in_place r.object z l.spot_is l.in_bytes in
          tested q f (is_type e (element_type q t r)) (element_behind t.store r i >>= λ r2. gives q d t (reference r2)) R (λ et.
          let kind : e ≡ z.type.element = type_known e z.type.element (element_type q t r) (type_is q t r z l.spot_is) et in
          bound q f (element_behind t.store r i) (λ r2. gives q d t (reference r2)) R (λ r2 e2.
          let behind_it : element_of r.object (Some in_place.tree) (first_of in_place.tree r.path + i) ≡ Some r2 = ap (λ o. element_of r.object o (first_at o r.path + i)) (sym in_place.tree_is) ∙ e2 in
          let gv = gave (λ path. record { object = r.object; path = path }) (path_of in_place.tree (first_of in_place.tree r.path + i)) r2 behind_it in
          let p = path_found z.type.lengths in_place.tree (first_of in_place.tree r.path + i) gv.from in_place.shaped gv.from_is in
          let number : elements_before z.type.lengths gv.from ≡ elements_before z.type.lengths r.path + i = p.number ∙ ap (λ k. k + i) (first_is z.type.lengths r.path in_place.tree in_place.shaped l.path) in
          let sum : offset_at z gv.from ≡ offset_at z r.path + i * bytes_of z.type.element = on_by z.offset (bytes_of z.type.element) (elements_before z.type.lengths r.path) (elements_before z.type.lengths gv.from) i number in
          let offset : offset_in (slice_get here r.object) gv.from ≡ offset_in (slice_get here r.object) r.path + i * bytes_of e =
          ap (λ o. offset_in o gv.from) l.spot_is ∙ (sum ∙ (ap (λ u. offset_at z r.path + i * bytes_of u) (sym kind) ∙ ap (λ o. offset_in o r.path + i * bytes_of e) (sym l.spot_is))) in
          subst (λ r3. Alike q f (gives q d t (reference r3)) R) gv.is
          (subst (λ k. Alike q f (gives q d t (reference (record { object = r.object; path = gv.from }))) (flat.gives (target_of lay d) s (flat.reference (list_in (slice_get here r.object)) k))) offset
          (given q f t s m d (reference (record { object = r.object; path = gv.from })) flat.unset fd (record { spot = z; spot_is = l.spot_is; in_bytes = l.in_bytes; path = p.within })))))
