-- The file of a program whose flat code is made.
use Rattle.std.proofs.Common.{◌≡◌, ◌≤◌, ◌<◌, ℕ, suc, ◌+◌, ◌*◌, List, [], ◌∷◌, length, map, Option, Some, None, Ok, refl, sym, ap, ◌∙◌, subst, append_assoc, arith, Bool, true, ◌++◌}
use Rattle.std.proofs.Math.Nat.{le_trans, suc-mul}
use Rattle.std.specs.Prelude.{slice_get, sum_by, option_map}
use Rattle.std.proofs.lemmas.Option.{slice_get-map, slice_get_within}
use Rattle.std.proofs.lemmas.List.{length-map}
use Rattle.std.proofs.lemmas.List.Sums.{sum_by-append, sum_by-cons}
use Rattle.memory_map.specs.MemoryMap.{text_start, max_image}
use Rattle.loader.specs.File.{file_image}
use Rattle.elf_out.specs.Layout.{Parts}
use Rattle.elf_out.specs.Program.{program_image}
use Rattle.elf_out.specs.Written.{file_of}
use Rattle.elf_out.proofs.Memory.{written_image}
use Rattle.asm.specs.declared.item.Item.{Item}
use Rattle.asm.specs.Layout.{AllReach, IsLow, size, place, longest}
use Rattle.asm.specs.Placed.{IsFewest}
use Rattle.typing_spec.specs.Program as typed
use Rattle.csem.specs.History.{trace_of, active, weight_in, greatest_sum}
use Rattle.csem.specs.Meaning.{last_of}
use Rattle.tac_code.specs.Code as tac
use Rattle.tac_code.specs.Sound.{data_bytes}
use Rattle.tac_code.specs.Spans.{span}
use Rattle.tac_code.specs.Lowered.{IsLowered}
use Rattle.frames_code.specs.Code as flat
use Rattle.frames_code.specs.Code.{frame_bytes}
use Rattle.frames.specs.Translated.{flat_program}
use Rattle.frames.specs.Data.{data_of}
use Rattle.frames.proofs.Whole.{length_data, data_bytes_are}
use Rattle.frames_regalloc.specs.Renumbered.{IsRenumbered}
use Rattle.frames_regalloc.proofs.Soundness.{stays_sound}
use Rattle.select.specs.Program.{program_items, start_items, functions_items, function_items, shorten_calls, calls_are_near}
use Rattle.select.proofs.Nearer.{shortened_longest, shortened_append}
use Rattle.select.proofs.Lengths.{code_is_short}
use Rattle.select_correct.specs.Reaching.{rows_of}
use Rattle.select_correct.proofs.Reaching.{jumps_reach}
use Rattle.cc_backend.proofs.ShortPrograms.{code_fits, program_is_short}
use Rattle.cc_backend.specs.FlatImages.{IsImageOf}
use Rattle.cc_backend.specs.Forms.{IsFormOf}
use Rattle.cc_backend.specs.Simulation.{Doing, Done, both}
use Rattle.cc_backend.specs.Chain.{into_flat, into_file}
use Rattle.cc_backend.proofs.Forms.{none_within}
use Rattle.cc_backend.proofs.Making.{way_of, form_of}
use Rattle.cc_backend.proofs.Chain.{file_simulates_program, calls_are_within}
use Rattle.frames_correct.proofs.Whole.{flat_is_flattened}
use Rattle.cc_backend.specs.Better.{IsBetter}
use Rattle.cc_backend.specs.Runs.{RunsAs}
use Rattle.cc_backend.specs.Made.{IsReady, IsFlatCodeOf, FramesFit, FunctionsFit, most_text, IsFileOf, AreItemsOf}
use Rattle.cc_backend.proofs.FunctionSizes.{part_within, function_among}
use Rattle.cc_backend.proofs.Bounds.{has_room as room_of}

-- sums of lists that are less at each place
pub sums_within : {A B : Type 0} (g : A → ℕ) (h : B → ℕ) (xs : List A) (ys : List B) → length xs ≡ length ys
    → ((k : ℕ) (x : A) (y : B) → slice_get xs k ≡ Some x → slice_get ys k ≡ Some y → g x ≤ h y) → sum_by g xs ≤ sum_by h ys
sums_within g h [] ys same each = omega arith
sums_within g h (x ∷ xs) [] same each = absurd (omega (arith, same))
sums_within g h (x ∷ xs) (y ∷ ys) same each =
    let more = sums_within g h xs ys (omega (arith, same)) (λ k. each (suc k)) in
    omega (arith, sum_by-cons g x xs, sum_by-cons h y ys, each 0 x y refl refl, more)

-- the items of functions take no more than their rows
functions_short : (k first : ℕ) (fs : List flat.Function) → longest (functions_items k first fs) ≤ sum_by rows_of fs
functions_short k first [] = omega arith
functions_short k first (f ∷ fs) =
    let one = code_is_short f k first in
    let more = functions_short (k + 1) (first + (length f.code + 1)) fs in
    let both = sum_by-append (size true) (function_items k first f) (functions_items (k + 1) (first + (length f.code + 1)) fs) in
    omega (arith, one, more, both, sum_by-cons rows_of f fs)

past : (n a k : ℕ) → n ≤ a * k → 1 ≤ k → n < suc a * k
past n a k le some = let whole : suc a * k ≡ a * k + k = suc-mul a k in omega (arith, le, some, whole)

start_short : (main : ℕ) → longest (start_items main) ≡ 32
start_short main = refl

pub code_of : (p : typed.Program) (q : tac.Program) (g f : flat.Program) → IsLowered p q → IsBetter (flat_program q) g → IsRenumbered g f → IsFlatCodeOf p f
code_of p q g f made better renumbered = record {
  code = q;
  lowered = made;
  simpler = g;
  better = better;
  renumbered = renumbered;
  sound = stays_sound g f renumbered (better.optimised.sound (better.laid_out.sound (better.simplified.sound (flat_is_flattened q made.sound).sound)));
}

module _ (p : typed.Program) (f : flat.Program) (ready : IsReady p) (made : IsFlatCodeOf p f) where
  form : IsFormOf made.code f
  form = form_of p f made

  pub reach : (base : ℕ) → AllReach base (program_items f)
  reach base = jumps_reach f base made.sound (program_is_short p made.code f ready.checked made.lowered form)

  same_count : length f.functions ≡ length p.functions
  same_count = form.count ∙ made.lowered.count

  -- ---- frames

  frame_fits : (k : ℕ) (g : typed.Function) (b : Option tac.Function) (c : Option flat.Function) (bytes : ℕ) → slice_get p.functions k ≡ Some g → slice_get made.code.functions k ≡ b → slice_get f.functions k ≡ c
      → option_map frame_bytes c ≡ Some bytes → (bytes ≤ g.weight) × (bytes ≤ span g)
  frame_fits k g b None bytes eg eb ec e = absurd (let z : ⊥ = cc in z)
  frame_fits k g None (Some h) bytes eg eb ec e = absurd (none_within made.code.functions k eb (subst (λ n. k < n) form.count (slice_get_within f.functions k h ec)))
  frame_fits k g (Some y) (Some h) bytes eg eb ec e =
      let one = (form.each k y h eb ec).frame in
      let two = (made.lowered.each k g y eg eb).within_weight in
      let three = (made.lowered.each k g y eg eb).within_span in
      let same : frame_bytes h ≡ bytes = cc in
      (omega (arith, one, two, same), omega (arith, one, three, same))

  pub frames_fit : FramesFit p (map frame_bytes f.functions)
  frames_fit = (
    length-map f.functions frame_bytes ∙ same_count,
    λ k g bytes eg e. frame_fits k g (slice_get made.code.functions k) (slice_get f.functions k) bytes eg refl refl (sym (slice_get-map frame_bytes f.functions k) ∙ e),
  )

  -- ---- the text

  pub text_fits : longest (program_items f) ≤ most_text p
  text_fits =
      let rows = functions_short 0 (length f.functions) f.functions in
      let nodes = sums_within rows_of (λ g. 128 * g.nodes + 1024) f.functions p.functions same_count
      (λ k h g eh eg. code_fits p made.code f made.lowered form k g h eg eh) in
      let all = functions_items 0 (length f.functions) f.functions in
      let both = sum_by-append (size true) (start_items f.main) (shorten_calls (calls_are_near f) all) in
      omega (arith, rows, nodes, both, start_short f.main, shortened_longest (calls_are_near f) all)

  -- ---- each function's code

  pub functions_fit : (long : ℕ → Bool) → FunctionsFit p f long
  functions_fit long k g h eg eh =
      let among = function_among 0 (length f.functions) f.functions k h eh in
      let near = calls_are_near f in
      let own = shorten_calls near (function_items among.2 among.3 h) in
      let front = shorten_calls near among.0 in
      let behind = shorten_calls near among.1 in
      let before = start_items f.main ++ front in
      let parts : shorten_calls near (among.0 ++ (function_items among.2 among.3 h ++ among.1)) ≡ front ++ (own ++ behind) =
      shortened_append near among.0 (function_items among.2 among.3 h ++ among.1) ∙ ap (λ xs. front ++ xs) (shortened_append near (function_items among.2 among.3 h) among.1) in
      let all : program_items f ≡ before ++ (own ++ behind) =
      ap (λ xs. start_items f.main ++ shorten_calls near xs) among.4 ∙ (ap (λ xs. start_items f.main ++ xs) parts ∙ sym (append_assoc (start_items f.main) front (own ++ behind))) in
      let short : longest own ≤ 128 * g.nodes + 1024 =
      le_trans (shortened_longest near (function_items among.2 among.3 h)) (le_trans (code_is_short h among.2 among.3) (code_fits p made.code f made.lowered form k g h eg eh)) in
      let part = part_within long text_start before own behind in
      let fits : place long text_start (before ++ (own ++ behind)) (length before + length own) ≤ place long text_start (before ++ (own ++ behind)) (length before) + (128 * g.nodes + 1024) =
      omega (arith, part, short) in
      (before, own, behind, among.2, among.3, all, refl, subst (λ xs. place long text_start xs (length before + length own) ≤ place long text_start xs (length before) + (128 * g.nodes + 1024)) (sym all) fits)

  -- ---- the data

  pub data_fits : (parts : Parts) → IsImageOf f parts → length parts.statics ≤ 16 + data_bytes p.literals p.statics
  data_fits parts image =
      let q = made.code in
      let whole : length parts.statics ≡ length (data_of q) = ap length (image.statics ∙ form.statics) in
      let same : data_bytes q.literals q.statics ≡ data_bytes p.literals p.statics =
      ap (λ l. data_bytes l q.statics) made.lowered.literals ∙ ap (λ o. data_bytes p.literals o) made.lowered.statics in
      omega (arith, whole, length_data q, data_bytes_are q.literals q.statics, same)

  pub has_room : longest (program_items f) + length f.statics ≤ max_image
  has_room =
      let q = made.code in
      let whole : length f.statics ≡ length (data_of q) = ap length form.statics in
      let same : data_bytes q.literals q.statics ≡ data_bytes p.literals p.statics =
      ap (λ l. data_bytes l q.statics) made.lowered.literals ∙ ap (λ o. data_bytes p.literals o) made.lowered.statics in
      room_of p (longest (program_items f)) (length f.statics) ready text_fits (omega (arith, whole, length_data q, data_bytes_are q.literals q.statics, same))

  -- ---- the run

  pub runs : (parts : Parts) (file : List ℕ) → IsImageOf f parts → file_image file ≡ Ok (program_image parts) → RunsAs parts.stack p (map frame_bytes f.functions) file
  runs parts file image loads = record {
    image = program_image parts;
    loads = loads;
    ends = λ input bytes n status s over small.
        let fit = calls_are_within p input parts.stack n (subst (λ r. greatest_sum (weight_in p) (last_of r).history ≤ parts.stack) (sym over) small) in
        let x : Done = record { status = status; trace = trace_of s.history; input = s.input } in
        let w = (file_simulates_program p f parts input (way_of p f made) image bytes).ends n x (s, over, refl, refl) fit in
        (w.0, w.2.0, omega (arith, w.1), (w.2.1, (w.2.2, w.2.3)));
    slack = suc (both into_flat (into_file f)).slack;
    goes_on = λ input bytes n s over small.
        let fit = calls_are_within p input parts.stack n (subst (λ r. greatest_sum (weight_in p) (last_of r).history ≤ parts.stack) (sym over) small) in
        let x : Doing = record { trace = trace_of s.history; input = s.input; calls = active s.history } in
        let w = (file_simulates_program p f parts input (way_of p f made) image bytes).goes_on n x (s, over, refl, refl, refl) fit in
        (w.0, w.4.0, omega (arith, w.3), (past n (both into_flat (into_file f)).slack w.0 w.1 w.2, (w.4.1, (w.4.2, w.4.3), w.4.4)));
    stops = λ input bytes n act at s over small.
        let fit = calls_are_within p input parts.stack n (subst (λ r. greatest_sum (weight_in p) (last_of r).history ≤ parts.stack) (sym over) small) in
        let x : Doing = record { trace = trace_of s.history; input = s.input; calls = active s.history } in
        let w = (file_simulates_program p f parts input (way_of p f made) image bytes).halts n x (act, at, s, over, refl, refl, refl) fit in
        (w.0, w.2.0, omega (arith, w.1), (w.2.1, (w.2.2, w.2.3), w.2.4));
  }

  abbrev pub is_file : (stack : ℕ) (parts : Parts) (file frames : List ℕ) → parts.stack ≡ stack → IsImageOf f parts → IsFewest (program_items f) text_start parts.text → length parts.text ≤ longest (program_items f)
      → frames ≡ map frame_bytes f.functions → file ≡ file_of parts → IsFileOf stack p file frames
  is_file stack parts file frames at image fewest short sizes written = record {
    well_typed = ready.checked.well_typed;
    code = f;
    code_is = made;
    frames_are = sizes;
    frames_fit = subst (FramesFit p) (sym sizes) frames_fit;
    parts = parts;
    stack_is = at;
    file_is = written;
    image_is = image;
    fewest = fewest;
    functions_fit = functions_fit fewest.long;
    text_fits = omega (arith, short, text_fits);
    data_fits = data_fits parts image;
  }

  pub runs_with : (stack : ℕ) (parts : Parts) (file frames : List ℕ) → parts.stack ≡ stack → IsImageOf f parts → frames ≡ map frame_bytes f.functions → file_image file ≡ Ok (program_image parts)
      → RunsAs stack p frames file
  runs_with stack parts file frames at image sizes loads =
      subst (λ n. RunsAs n p frames file) at (subst (λ xs. RunsAs parts.stack p xs file) (sym sizes) (runs parts file image loads))

  -- the items of the file that the image is written to
  pub items_of : (stack : ℕ) (parts : Parts) (items : List Item) → parts.stack ≡ stack → IsImageOf f parts → IsFewest (program_items f) text_start parts.text → length parts.text ≤ longest (program_items f)
      → items ≡ program_items f → IsLow text_start items → AreItemsOf stack p items
  items_of stack parts items at image fewest short are low = record {
    file = file_of parts;
    frames = map frame_bytes f.functions;
    runs = runs_with stack parts (file_of parts) (map frame_bytes f.functions) at image refl (written_image parts image.size image.stack.2);
    is_file = is_file stack parts (file_of parts) (map frame_bytes f.functions) at image fewest short refl refl;
    items_are = are;
    low = low;
    reach = subst (AllReach text_start) (sym are) (reach text_start);
  }
