-- The known facts are an invariant of a run.
use Rattle.std.proofs.Common.{◌≡◌, ◌⊎◌, inl, inr, ⊎_elim, ℕ, zero, suc, ◌+◌, ◌*◌, ◌%◌, ◌^◌, List, [], ◌∷◌, Option, Some, None, Bool, true, false, refl, sym, ap, ◌∙◌, subst, arith}
use Rattle.std.specs.Prelude.{◌==◌, ◌&&◌, if◌then◌else◌, map, set, replicate}
use Rattle.std.proofs.lemmas.Bool.{eqb-true, eqb-false, ne_eqb}
use Rattle.std.proofs.lemmas.List.{get_or-set_other}
use Rattle.rv32.specs.declared.instr.RegisterOp.TheVariants as register_op
use Rattle.rv32.specs.Arithmetic.{compare_of}
use Rattle.frames_code.specs.declared.code.Operand.{Operand}
use Rattle.frames_code.specs.declared.code.Operand.TheVariants as operand
use Rattle.frames_code.specs.declared.code.Target.{Target}
use Rattle.frames_code.specs.declared.code.Target.TheVariants as target
use Rattle.frames_code.specs.declared.code.Width.{Width}
use Rattle.frames_code.specs.declared.code.Base.{Base}
use Rattle.frames_code.specs.declared.code.Base.TheVariants as base
use Rattle.frames_code.specs.declared.code.Location.{Location}
use Rattle.frames_code.specs.declared.code.Location.TheVariants as location
use Rattle.frames_code.specs.declared.code.Operation.{Operation}
use Rattle.frames_code.specs.declared.code.Operation.TheVariants as operation
use Rattle.frames_code.specs.declared.code.Instruction.{Instruction}
use Rattle.frames_code.specs.declared.code.Instruction.TheVariants as instruction
use Rattle.frames_code.specs.Code.{Program, frame_bytes}
use Rattle.frames_code.specs.Run.{Value, Values, Bytes, Frame, State, Reference, Progress, running, ended, stuck, word, reference, value, word_at, word_in, reference_in, indexed, set as set_target, with_at, next, past, goes_to, place, memory, with_memory, with_element, element_in, fits, gives, gives_word, operate, converted, loaded, stored, put, got, returned, result_of, act, function_at, name_of, changed_among, with_frames, ◌>>=◌}
use Rattle.frames_opt.specs.declared.room.Room.{Room}
use Rattle.frames_opt.specs.declared.facts.Known.{Known}
use Rattle.frames_opt.specs.declared.facts.Known.TheVariants as known
use Rattle.frames_opt.specs.inside.Facts.{nothing, held, known_of, reference_to, is_target, killed, all_killed, learned, room_of, is_index, is_cheap, is_near, indexed_if, from_base, moved, further, indexed_from, result_on, computed, behind}
use Rattle.frames_opt.specs.inside.Passes.{jump_of}
use Rattle.frames_opt.proofs.Acts.{base_at, index_in, Leads, Knows, Holds, name_in, home_in, word_is, known_holds}
use Rattle.frames_opt.proofs.Alike.{left_true, right_true, bytes_changed}

-- ---- where a step leads

same_some : {A : Type 0} (x y : A) → Some x ≡ Some y → x ≡ y
same_some x y e = cc

abbrev spot : (list offset : ℕ) → Reference
spot list offset = record { list = list; offset = offset }

abbrev pub Sat : (State → Type 0) → Progress → Type 0
Sat P (running s) = P s
Sat P (ended status input trace) = Unit {0}
Sat P stuck = Unit {0}

sat_bind : {A : Type 0} (P : State → Type 0) (o : Option A) (go : A → Progress) → ((x : A) → o ≡ Some x → Sat P (go x)) → Sat P (o >>= go)
sat_bind P None go each = tt
sat_bind P (Some x) go each = each x refl

sat_if : (P : State → Type 0) (t : Bool) (x y : Progress) → Sat P x → Sat P y → Sat P (if t then x else y)
sat_if P true x y a b = a
sat_if P false x y a b = b

sat_either : (P : State → Type 0) (t : Bool) (x y : State) → P x → P y → P (if t then x else y)
sat_either P true x y a b = a
sat_either P false x y a b = b

-- ---- lists of known facts

pub held_in : (n k : ℕ) → held (replicate n known.Unknown) k ≡ known.Unknown
held_in zero k = refl
held_in (suc n) zero = refl
held_in (suc n) (suc k) = held_in n k

pub set_same : (l : List Known) (j : ℕ) (x : Known) → (held (set l j x) j ≡ x) ⊎ (held (set l j x) j ≡ known.Unknown)
set_same [] j x = inr refl
set_same (y ∷ ys) zero x = inl refl
set_same (y ∷ ys) (suc j) x = set_same ys j x

pub held_map : (f : Known → Known) → f known.Unknown ≡ known.Unknown → (l : List Known) (k : ℕ) → held (map f l) k ≡ f (held l k)
held_map f e [] k = sym e
held_map f e (x ∷ xs) zero = refl
held_map f e (x ∷ xs) (suc k) = held_map f e xs k

module _ (name home : ℕ) where
  knows_as : (c t : Values) (x y : Known) (m : Option Value) → x ≡ y → Knows name home c t y m → Knows name home c t x m
  knows_as c t x y m e h = subst (λ z. Knows name home c t z m) (sym e) h

  pub nothing_holds : (c t : Values) → Holds name home nothing c t
  nothing_holds c t k = knows_as c t (held nothing k) known.Unknown (t k) (held_in 8 k) tt

  -- ---- a word is written

  leads_as : (c t c2 t2 : Values) (b : Base) (y : Operand) (size : ℕ) (m : Option Value) → index_in c2 t2 y ≡ index_in c t y → Leads name home c t b y size m → Leads name home c2 t2 b y size m
  leads_as c t c2 t2 b y size m e h = record { index = h.index; is = h.is ∙ ap (indexed (base_at name home b) size) (sym e) }

  if_knows : (c t : Values) (u : Bool) (b : Base) (y : Operand) (size : ℕ) (m : Option Value) → (u ≡ false → Leads name home c t b y size m) → Knows name home c t (if u then known.Unknown else known.Indexed b y size) m
  if_knows c t true b y size m h = tt
  if_knows c t false b y size m h = h refl

  other_temporary : (c t : Values) (j : ℕ) (v : Value) (y : Operand) → is_target (target.Temporary j) y ≡ false → index_in c (with_at t j v) y ≡ index_in c t y
  other_temporary c t j v (operand.Temporary k) e =
      let other : (k == j) ≡ false = ne_eqb k j (λ g. eqb-false j k e (sym g)) in
      ap word_in (ap (λ u. if u then Some v else t k) other)
  other_temporary c t j v (operand.Cell e) g = refl
  other_temporary c t j v (operand.Constant w) e = refl
  other_temporary c t j v (operand.Argument k) e = refl

  other_cell : (c t : Values) (j : ℕ) (v : Value) (y : Operand) → is_target (target.Cell j) y ≡ false → index_in (with_at c j v) t y ≡ index_in c t y
  other_cell c t j v (operand.Temporary k) e = refl
  other_cell c t j v (operand.Cell k) e =
      let other : (k == j) ≡ false = ne_eqb k j (λ g. eqb-false j k e (sym g)) in
      ap word_in (ap (λ u. if u then Some v else c k) other)
  other_cell c t j v (operand.Constant w) e = refl
  other_cell c t j v (operand.Argument k) e = refl

  temporary_killed : (c t : Values) (j : ℕ) (v : Value) (x : Known) (m : Option Value) → Knows name home c t x m → Knows name home c (with_at t j v) (killed (target.Temporary j) x) m
  temporary_killed c t j v known.Unknown m h = tt
  temporary_killed c t j v (known.Word w) m h = h
  temporary_killed c t j v (known.Statics o) m h = h
  temporary_killed c t j v (known.Frame o) m h = h
  temporary_killed c t j v (known.Indexed b y size) m h =
      if_knows c (with_at t j v) (is_target (target.Temporary j) y) b y size m (λ e. leads_as c t c (with_at t j v) b y size m (other_temporary c t j v y e) h)

  cell_killed : (c t : Values) (j : ℕ) (v : Value) (x : Known) (m : Option Value) → Knows name home c t x m → Knows name home (with_at c j v) t (killed (target.Cell j) x) m
  cell_killed c t j v known.Unknown m h = tt
  cell_killed c t j v (known.Word w) m h = h
  cell_killed c t j v (known.Statics o) m h = h
  cell_killed c t j v (known.Frame o) m h = h
  cell_killed c t j v (known.Indexed b y size) m h =
      if_knows (with_at c j v) t (is_target (target.Cell j) y) b y size m (λ e. leads_as c t (with_at c j v) t b y size m (other_cell c t j v y e) h)

  cell_holds : (facts : List Known) (c t : Values) (j : ℕ) (v : Value) → Holds name home facts c t → Holds name home (all_killed (target.Cell j) facts) (with_at c j v) t
  cell_holds facts c t j v h k =
      knows_as (with_at c j v) t (held (all_killed (target.Cell j) facts) k) (killed (target.Cell j) (held facts k)) (t k) (held_map (killed (target.Cell j)) refl facts k)
      (cell_killed c t j v (held facts k) (t k) (h k))

  put_holds : (facts : List Known) (c t : Values) (j : ℕ) (x : Known) (v : Value) → Holds name home facts c t → Knows name home c t x (Some v)
      → Holds name home (set (all_killed (target.Temporary j) facts) j (killed (target.Temporary j) x)) c (with_at t j v)
  put_holds facts c t j x v h e k = on (k == j) refl
    where
      t3 : Values
      t3 = with_at t j v

      z : Known
      z = killed (target.Temporary j) x

      kept : List Known
      kept = all_killed (target.Temporary j) facts

      now : Knows name home c t3 z (Some v)
      now = temporary_killed c t j v x (Some v) e

      same : k ≡ j → Knows name home c t3 (held (set kept j z) k) (Some v)
      same u =
          subst (λ i. Knows name home c t3 (held (set kept j z) i) (Some v)) (sym u)
          (⊎_elim (λ a. knows_as c t3 (held (set kept j z) j) z (Some v) a now) (λ a. knows_as c t3 (held (set kept j z) j) known.Unknown (Some v) a tt) (set_same kept j z))

      on : (t2 : Bool) → (k == j) ≡ t2 → Knows name home c t3 (held (set kept j z) k) (if k == j then Some v else t k)
      on true u = rw u (same (eqb-true k j u))
      on false u = rw u
          (knows_as c t3 (held (set kept j z) k) (killed (target.Temporary j) (held facts k)) (t k)
          (get_or-set_other kept j k z known.Unknown (eqb-false k j u) ∙ held_map (killed (target.Temporary j)) refl facts k)
          (temporary_killed c t j v (held facts k) (t k) (h k)))

  -- ---- what an instruction gives

  result_knows : (c t : Values) (o : Operation) (a b : ℕ) → Knows name home c t (result_on o a b) (Some (word (operate o a b)))
  result_knows c t (operation.Machine register_op.Add) a b = refl
  result_knows c t (operation.Machine register_op.Sub) a b = refl
  result_knows c t (operation.Machine register_op.ShiftLeft) a b = refl
  result_knows c t (operation.Machine register_op.Less) a b = tt
  result_knows c t (operation.Machine register_op.LessUnsigned) a b = tt
  result_knows c t (operation.Machine register_op.Xor) a b = tt
  result_knows c t (operation.Machine register_op.ShiftRight) a b = tt
  result_knows c t (operation.Machine register_op.ShiftRightArithmetic) a b = tt
  result_knows c t (operation.Machine register_op.Or) a b = tt
  result_knows c t (operation.Machine register_op.And) a b = tt
  result_knows c t (operation.Machine register_op.Mul) a b = refl
  result_knows c t (operation.Machine register_op.MulHigh) a b = tt
  result_knows c t (operation.Machine register_op.MulHighSignedUnsigned) a b = tt
  result_knows c t (operation.Machine register_op.MulHighUnsigned) a b = tt
  result_knows c t (operation.Machine register_op.Div) a b = tt
  result_knows c t (operation.Machine register_op.DivUnsigned) a b = tt
  result_knows c t (operation.Machine register_op.Rem) a b = tt
  result_knows c t (operation.Machine register_op.RemUnsigned) a b = tt
  result_knows c t operation.Equal a b = tt
  result_knows c t operation.NotEqual a b = tt

  computed_knows : (c t : Values) (s : State) (o : Operation) (x y : Operand) (a b : ℕ) → word_at s x ≡ Some a → word_at s y ≡ Some b → Knows name home c t (computed o x y) (Some (word (operate o a b)))
  computed_knows c t s o (operand.Temporary k) y a b ex ey = tt
  computed_knows c t s o (operand.Cell e) y a b ex ey = tt
  computed_knows c t s o (operand.Argument k) y a b ex ey = tt
  computed_knows c t s o (operand.Constant v) (operand.Temporary k) a b ex ey = tt
  computed_knows c t s o (operand.Constant v) (operand.Cell e) a b ex ey = tt
  computed_knows c t s o (operand.Constant v) (operand.Argument k) a b ex ey = tt
  computed_knows c t s o (operand.Constant v) (operand.Constant w) a b ex ey =
      let one : v ≡ a = cc in
      let two : w ≡ b = cc in
      let right : Knows name home c t (result_on o v w) (Some (word (operate o v b))) = subst (λ m. Knows name home c t (result_on o v w) (Some (word (operate o v m)))) two (result_knows c t o v w) in
      subst (λ m. Knows name home c t (result_on o v w) (Some (word (operate o m b)))) one right

  indexed_if_knows : (c t : Values) (u : Bool) (b : Base) (y : Operand) (size : ℕ) (m : Option Value) → (u ≡ true → Leads name home c t b y size m) → Knows name home c t (indexed_if u b y size) m
  indexed_if_knows c t true b y size m h = h refl
  indexed_if_knows c t false b y size m h = tt

  from_base_knows : (room : Room) (s : State) (b : Base) (y : Operand) (size n : ℕ) → word_at s y ≡ Some n
      → Knows name home s.frame.cells s.temporaries (from_base room b y size) (Some (reference (base_at name home b).list ((base_at name home b).offset + n * size)))
  from_base_knows room s b y size n ey =
      indexed_if_knows s.frame.cells s.temporaries (is_near room b && is_cheap room y size) b y size _ (λ e.
      let index : is_index y ≡ true = left_true (is_index y) _ (right_true (is_near room b) _ e) in
      record { index = index; is = ap (indexed (base_at name home b) size) (sym ey ∙ word_is s y index) })

  pub moved_leads : (b : Base) (size k : ℕ) (o : Option ℕ) (r : Reference) → Some r ≡ indexed (base_at name home b) size o → Some (spot r.list (r.offset + k)) ≡ indexed (base_at name home (moved b k)) size o
  moved_leads b size k None r e = absurd (let z : ⊥ = cc in z)
  moved_leads (base.Statics o) size k (Some q) r e =
      let same : r ≡ spot 0 (o + q * size) = same_some r (spot 0 (o + q * size)) e in
      let sum : o + q * size + k ≡ o + k + q * size = omega arith in
      ap (λ (x : Reference). Some (spot x.list (x.offset + k))) same ∙ ap (λ n. Some (spot 0 n)) sum
  moved_leads (base.Frame o) size k (Some q) r e =
      let same : r ≡ spot name (home + o + q * size) = same_some r (spot name (home + o + q * size)) e in
      let sum : home + o + q * size + k ≡ home + (o + k) + q * size = omega arith in
      ap (λ (x : Reference). Some (spot x.list (x.offset + k))) same ∙ ap (λ n. Some (spot name n)) sum

  further_knows : (room : Room) (s : State) (b : Base) (z : Operand) (width : ℕ) (y : Operand) (size n : ℕ) (m : Option Value) (r : Reference)
      → Leads name home s.frame.cells s.temporaries b z width m → reference_in m ≡ Some r → word_at s y ≡ Some n
      → Knows name home s.frame.cells s.temporaries (further room b z width y size) (Some (reference r.list (r.offset + n * size)))
  further_knows room s b z width (operand.Temporary k) size n m r h er ey = tt
  further_knows room s b z width (operand.Cell c) size n m r h er ey = tt
  further_knows room s b z width (operand.Argument k) size n m r h er ey = tt
  further_knows room s b z width (operand.Constant w) size n m r h er ey =
      let same : w ≡ n = same_some w n ey in
      subst (λ j. Knows name home s.frame.cells s.temporaries (further room b z width (operand.Constant w) size) (Some (reference r.list (r.offset + j * size)))) same
      (indexed_if_knows s.frame.cells s.temporaries (is_near room (moved b (w * size))) (moved b (w * size)) z width _ (λ e.
      record { index = h.index; is = moved_leads b width (w * size) (index_in s.frame.cells s.temporaries z) r (sym er ∙ h.is) }))

  pub element_knows : (room : Room) (s : State) (x : Known) (y : Operand) (size n : ℕ) (m : Option Value) (r : Reference)
      → Knows name home s.frame.cells s.temporaries x m → reference_in m ≡ Some r → word_at s y ≡ Some n
      → Knows name home s.frame.cells s.temporaries (indexed_from room x y size) (Some (reference r.list (r.offset + n * size)))
  element_knows room s known.Unknown y size n m r h er ey = tt
  element_knows room s (known.Word w) y size n m r h er ey = tt
  element_knows room s (known.Statics o) y size n m r h er ey =
      let same : spot 0 o ≡ r = same_some (spot 0 o) r (ap reference_in (sym h) ∙ er) in
      subst (λ (q : Reference). Knows name home s.frame.cells s.temporaries (from_base room (base.Statics o) y size) (Some (reference q.list (q.offset + n * size)))) same
      (from_base_knows room s (base.Statics o) y size n ey)
  element_knows room s (known.Frame o) y size n m r h er ey =
      let same : spot name (home + o) ≡ r = same_some (spot name (home + o)) r (ap reference_in (sym h) ∙ er) in
      subst (λ (q : Reference). Knows name home s.frame.cells s.temporaries (from_base room (base.Frame o) y size) (Some (reference q.list (q.offset + n * size)))) same
      (from_base_knows room s (base.Frame o) y size n ey)
  element_knows room s (known.Indexed b z width) y size n m r h er ey = further_knows room s b z width y size n m r h er ey

-- ---- the facts known before each instruction of each function

-- after instruction i, which is y
pub record Flow (room : Room) (kn : ℕ → List Known) (calm : ℕ → Type 0) (i : ℕ) (y : Instruction) : Type 0 where
  pub next : (kn (i + 1) ≡ nothing) ⊎ (kn (i + 1) ≡ behind room (kn i) y)
  pub jumps : (to : ℕ) → jump_of y ≡ Some to → kn to ≡ nothing
  pub calls : (f : ℕ) → y ≡ instruction.Call f → calm (i + 1)

-- what has to be so where calls continue
abbrev pub Waits : (ℕ → ℕ → List Known) → (ℕ → ℕ → Type 0) → List Frame → Type 0
Waits kn calm [] = Unit {0}
Waits kn calm (f ∷ fs) = (kn f.function f.at ≡ nothing) × calm f.function f.at × Waits kn calm fs

-- the known facts hold; nothing is known where waiting calls continue
abbrev pub Stands : Program → (ℕ → ℕ → List Known) → (ℕ → ℕ → Type 0) → State → Type 0
Stands p kn calm s = Holds (name_in p s) (home_in p s) (kn s.frame.function s.frame.at) s.frame.cells s.temporaries × Waits kn calm s.waiting

module _ (p : Program) (kn : ℕ → ℕ → List Known) (calm : ℕ → ℕ → Type 0) where
  waits_changed : (fs : List Frame) (l : ℕ) (b : Bytes) → Waits kn calm fs → Waits kn calm (changed_among p fs l b)
  waits_changed [] l b w = tt
  waits_changed (f ∷ fs) l b w = on (waits_changed fs l b w.2) (name_of p f fs == l)
    where
      on : Waits kn calm (changed_among p fs l b) → (t : Bool) → Waits kn calm (if t then record f { area = b } ∷ fs else f ∷ changed_among p fs l b)
      on later true = w
      on later false = (w.0, w.1, later)

  memory_stands : (r : State) → Stands p kn calm r → (l : ℕ) (b : Bytes) → Stands p kn calm (with_memory p r l b)
  memory_stands r g zero b = g
  memory_stands r g (suc l) b = on (name_of p r.frame r.waiting == suc l)
    where
      on : (t : Bool) → Stands p kn calm (with_frames r (if t then record r.frame { area = b } ∷ r.waiting else r.frame ∷ changed_among p r.waiting (suc l) b))
      on true = g
      on false = (
        subst (λ n. Holds (frame_bytes (function_at p r.frame.function) + n) (home_in p r) (kn r.frame.function r.frame.at) r.frame.cells r.temporaries) (sym (bytes_changed p r.waiting (suc l) b)) g.0,
        waits_changed r.waiting (suc l) b g.1,
      )

  module _ (starts : (k : ℕ) → kn k 0 ≡ nothing) (s : State) (good : Stands p kn calm s) where
    abbrev here : ℕ → List Known
    here = kn s.frame.function

    abbrev facts : List Known
    facts = here s.frame.at

    abbrev name : ℕ
    name = name_in p s

    abbrev home : ℕ
    home = home_in p s

    abbrev room : Room
    room = room_of (function_at p s.frame.function)

    abbrev cells : Values
    cells = s.frame.cells

    empty_holds : (n h : ℕ) (f : List Known) (c t : Values) → f ≡ nothing → Holds n h f c t
    empty_holds n h f c t e = subst (λ g. Holds n h g c t) (sym e) (nothing_holds n h c t)

    at_next : (f : List Known) (c t : Values) → (here (s.frame.at + 1) ≡ nothing) ⊎ (here (s.frame.at + 1) ≡ f) → Holds name home f c t → Holds name home (here (s.frame.at + 1)) c t
    at_next f c t flow h = ⊎_elim (λ e. empty_holds name home (here (s.frame.at + 1)) c t e) (λ e. subst (λ g. Holds name home g c t) (sym e) h) flow

    gives_stands : (d : Target) (v : Value) (told : Known) → (here (s.frame.at + 1) ≡ nothing) ⊎ (here (s.frame.at + 1) ≡ learned facts d told) → Knows name home cells s.temporaries told (Some v) → Stands p kn calm (set_target d v (next s))
    gives_stands (target.Temporary j) v told flow e =
        (at_next (learned facts (target.Temporary j) told) cells (with_at s.temporaries j v) flow (put_holds name home facts cells s.temporaries j told v good.0 e), good.1)
    gives_stands (target.Cell j) v told flow e =
        (at_next (learned facts (target.Cell j) told) (with_at cells j v) s.temporaries flow (cell_holds name home facts cells s.temporaries j v good.0), good.1)

    past_stands : (d : Target) (v : Value) → Stands p kn calm (set_target d v (next s)) → Stands p kn calm (set_target d v (past s))
    past_stands (target.Temporary j) v g = g
    past_stands (target.Cell c) v g = g

    next_stands : (here (s.frame.at + 1) ≡ nothing) ⊎ (here (s.frame.at + 1) ≡ facts) → Stands p kn calm (next s)
    next_stands flow = (at_next facts cells s.temporaries flow good.0, good.1)

    loaded_stands : (w : Width) (d : Target) (r : Reference) → (here (s.frame.at + 1) ≡ nothing) ⊎ (here (s.frame.at + 1) ≡ learned facts d known.Unknown) → Sat (Stands p kn calm) (loaded p s w d r)
    loaded_stands w d r flow =
        sat_bind (Stands p kn calm) (memory p s r.list) (λ m. if fits w r.offset m then element_in w m.bytes r.offset >>= gives_word d s else stuck)
        (λ m e. sat_if (Stands p kn calm) (fits w r.offset m) (element_in w m.bytes r.offset >>= gives_word d s) stuck
        (sat_bind (Stands p kn calm) (element_in w m.bytes r.offset) (gives_word d s) (λ v e2. gives_stands d (word v) known.Unknown flow tt)) tt)

    stored_stands : (w : Width) (v : ℕ) (r : Reference) → (here (s.frame.at + 1) ≡ nothing) ⊎ (here (s.frame.at + 1) ≡ facts) → Sat (Stands p kn calm) (stored p s w v r)
    stored_stands w v r flow =
        sat_bind (Stands p kn calm) (memory p s r.list) (λ m. if fits w r.offset m then running (with_memory p (next s) r.list (with_element w m.bytes r.offset v)) else stuck)
        (λ m e. sat_if (Stands p kn calm) (fits w r.offset m) (running (with_memory p (next s) r.list (with_element w m.bytes r.offset v))) stuck
        (memory_stands (next s) (next_stands flow) r.list (with_element w m.bytes r.offset v)) tt)

    address_knows : (l : Location) (r : Reference) → place p s l ≡ Some r → Knows name home cells s.temporaries (reference_to l) (Some (reference r.list r.offset))
    address_knows (location.Statics o) r e = let same : spot 0 o ≡ r = same_some (spot 0 o) r e in ap (λ (z : Reference). Some (reference z.list z.offset)) (sym same)
    address_knows (location.Frame o) r e = let same : spot name (home + o) ≡ r = same_some (spot name (home + o)) r e in ap (λ (z : Reference). Some (reference z.list z.offset)) (sym same)
    address_knows (location.At x) r e = tt
    address_knows (location.Indexed b y size) r e = tt

    returned_stands : (result : Option Value) (ws : List Frame) → Waits kn calm ws → Sat (Stands p kn calm) (returned s result ws)
    returned_stands result [] w = sat_bind (Stands p kn calm) (word_in result) (λ v. ended (v % 2 ^ 8) s.input s.trace) (λ v e. tt)
    returned_stands result (f ∷ fs) w = (empty_holds _ _ (kn f.function f.at) _ _ w.0, w.2)

    got_stands : here (s.frame.at + 1) ≡ nothing → (input : List ℕ) → Sat (Stands p kn calm) (got s input)
    got_stands e [] = (empty_holds _ _ (here (s.frame.at + 1)) _ _ e, good.1)
    got_stands e (b ∷ rest) = (empty_holds _ _ (here (s.frame.at + 1)) _ _ e, good.1)

    emptied : (here (s.frame.at + 1) ≡ nothing) ⊎ (here (s.frame.at + 1) ≡ nothing) → here (s.frame.at + 1) ≡ nothing
    emptied flow = ⊎_elim (λ e. e) (λ e. e) flow

    pub act_stands : (y : Instruction) → Flow room here (calm s.frame.function) s.frame.at y → Sat (Stands p kn calm) (act p s y)
    act_stands instruction.Nothing flow = next_stands flow.next
    act_stands (instruction.Move d x) flow =
        sat_bind (Stands p kn calm) (value s x) (λ v. running (set_target d v (past s)))
        (λ v e. past_stands d v (gives_stands d v (known_of facts x) flow.next (subst (Knows name home cells s.temporaries (known_of facts x)) e (known_holds p s facts good.0 x))))
    act_stands (instruction.Compute o d x y) flow =
        sat_bind (Stands p kn calm) (word_at s x) (λ a. word_at s y >>= λ b. gives_word d s (operate o a b))
        (λ a ea. sat_bind (Stands p kn calm) (word_at s y) (λ b. gives_word d s (operate o a b))
        (λ b eb. gives_stands d (word (operate o a b)) (computed o x y) flow.next (computed_knows name home cells s.temporaries s o x y a b ea eb)))
    act_stands (instruction.Convert c d x) flow =
        sat_bind (Stands p kn calm) (word_at s x) (λ a. gives_word d s (converted c a)) (λ a e. gives_stands d (word (converted c a)) known.Unknown flow.next tt)
    act_stands (instruction.Load w d l) flow = sat_bind (Stands p kn calm) (place p s l) (loaded p s w d) (λ r e. loaded_stands w d r flow.next)
    act_stands (instruction.Store w x l) flow =
        sat_bind (Stands p kn calm) (word_at s x) (λ a. place p s l >>= stored p s w a)
        (λ a e. sat_bind (Stands p kn calm) (place p s l) (stored p s w a) (λ r e2. stored_stands w a r flow.next))
    act_stands (instruction.Address d l) flow =
        sat_bind (Stands p kn calm) (place p s l) (λ r. gives d s (reference r.list r.offset))
        (λ r e. gives_stands d (reference r.list r.offset) (reference_to l) flow.next (address_knows l r e))
    act_stands (instruction.Element d x y size) flow =
        sat_bind (Stands p kn calm) (reference_in (value s x)) (λ r. word_at s y >>= λ n. gives d s (reference r.list (r.offset + n * size)))
        (λ r e. sat_bind (Stands p kn calm) (word_at s y) (λ n. gives d s (reference r.list (r.offset + n * size)))
        (λ n e2. gives_stands d (reference r.list (r.offset + n * size)) (indexed_from room (known_of facts x) y size) flow.next
        (element_knows name home room s (known_of facts x) y size n (value s x) r (known_holds p s facts good.0 x) e e2)))
    act_stands (instruction.Jump to) flow = (empty_holds _ _ (here to) _ _ (flow.jumps to refl), good.1)
    act_stands (instruction.Branch t x y to) flow =
        sat_bind (Stands p kn calm) (word_at s x) (λ a. word_at s y >>= λ b. running (if compare_of t a b then goes_to s to else next s))
        (λ a ea. sat_bind (Stands p kn calm) (word_at s y) (λ b. running (if compare_of t a b then goes_to s to else next s))
        (λ b eb. sat_either (Stands p kn calm) (compare_of t a b) (goes_to s to) (next s) (empty_holds _ _ (here to) _ _ (flow.jumps to refl), good.1) (next_stands flow.next)))
    act_stands (instruction.Call f) flow = (empty_holds _ _ (kn f 0) _ _ (starts f), (emptied flow.next, flow.calls f refl, good.1))
    act_stands instruction.PutByte flow =
        sat_bind (Stands p kn calm) (word_at s (operand.Temporary 0)) (put s) (λ v e. (empty_holds _ _ (here (s.frame.at + 1)) _ _ (emptied flow.next), good.1))
    act_stands instruction.GetByte flow = got_stands (emptied flow.next) s.input
    act_stands instruction.Exit flow = sat_bind (Stands p kn calm) (word_at s (operand.Temporary 0)) (λ v. ended (v % 2 ^ 8) s.input s.trace) (λ v e. tt)
    act_stands instruction.Return flow = returned_stands (result_of p s) s.waiting good.1
