-- A program's functions as a slice.
use Rattle.std.proofs.Common.{◌≡◌, ℕ, ◌+◌, List, ◌++◌, length, map, Some, sym, ap, ◌∙◌, subst}
use Rattle.std.specs.Prelude.{slice_get}
use Rattle.std.proofs.lemmas.List.{length-map}
use Rattle.asm.specs.declared.item.Item.{Item}
use Rattle.asm.specs.Layout.{IsSound}
use Rattle.frames_code.specs.declared.code.Function.{Function as Held}
use Rattle.frames_code.specs.declared.code.FlatProgram.{FlatProgram}
use Rattle.frames_code.specs.Code.{Function, function_of, program_of}
use Rattle.frames_code.specs.Sound.{FunctionFits, IsSoundProgram, places_of}
use Rattle.select.specs.Program.{functions_items, start_items}
use Rattle.select.proofs.Sound.{is_sound}

pub each_fits : (p : FlatProgram) → IsSoundProgram (program_of p) → (fs : List Held) → fs ≡ p.functions.items → (k : ℕ) (f : Function) → slice_get (map function_of fs) k ≡ Some f → FunctionFits (length fs) f
each_fits p s fs e k f g =
    let there : slice_get (map function_of p.functions.items) k ≡ Some f = ap (λ xs. slice_get (map function_of xs) k) (sym e) ∙ g in
    let count : length (map function_of p.functions.items) ≡ length fs = length-map p.functions.items function_of ∙ ap length (sym e) in
    subst (λ n. FunctionFits n f) count (s.each k f there)

pub can_be_assembled : (p : FlatProgram) → IsSoundProgram (program_of p) → (fs : List Held) (labels : ℕ) (list : List Item) → fs ≡ p.functions.items → labels ≡ length fs + places_of (map function_of fs) → list ≡ start_items p.main ++ functions_items 0 (length fs) (map function_of fs) → IsSound labels list
can_be_assembled p s fs labels list e el ei =
    let count : length (map function_of p.functions.items) ≡ length fs = length-map p.functions.items function_of ∙ ap length (sym e) in
    let all : map function_of p.functions.items ≡ map function_of fs = ap (map function_of) (sym e) in
    let sound : IsSound (length (map function_of p.functions.items) + places_of (map function_of p.functions.items)) (start_items p.main ++ functions_items 0 (length (map function_of p.functions.items)) (map function_of p.functions.items)) = is_sound (program_of p) s in
    let here : IsSound (length fs + places_of (map function_of fs)) (start_items p.main ++ functions_items 0 (length fs) (map function_of fs)) =
    subst (λ n. IsSound (n + places_of (map function_of fs)) (start_items p.main ++ functions_items 0 n (map function_of fs))) count
    (subst (λ xs. IsSound (length (map function_of p.functions.items) + places_of xs) (start_items p.main ++ functions_items 0 (length (map function_of p.functions.items)) xs)) all sound) in
    subst (λ n. IsSound n list) (sym el) (subst (IsSound (length fs + places_of (map function_of fs))) (sym ei) here)
