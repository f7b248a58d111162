-- The code of a lowered program's functions.
use Rattle.std.proofs.Common.{◌≡◌, ⊎_elim, ℕ, ◌+◌, ◌*◌, ◌<◌, ◌≤◌, List, length, Some, ◌∙◌, subst, arith}
use Rattle.std.specs.Prelude.{slice_get}
use Rattle.std.proofs.Math.Nat.{le_trans}
use Rattle.std.proofs.lemmas.Option.{slice_get_within, slice_get_cases}
use Rattle.select_correct.specs.Reaching.{rows_of}
use Rattle.cc_backend.specs.Sizes.{CodeFits, ProgramIsShort}
use Rattle.cc_backend.proofs.Rows.{rows_fit}

-- there is an element at each number below the length
some_at : {A : Type 0} (xs : List A) (k : ℕ) → k < length xs → (x : A) × (slice_get xs k ≡ Some x)
some_at xs k lt = ⊎_elim (λ h. (h.0, h.2)) (λ h. absurd (let past = h.0 in omega (arith, lt, past))) (slice_get_cases xs k).1

pub code_fits : CodeFits
code_fits p q f lowered form k g h there here =
    let lt : k < length f.functions = slice_get_within f.functions k h here in
    let m = some_at q.functions k (subst (λ n. k < n) form.count lt) in
    let fit = form.sound.each k h here in
    let one = rows_fit h fit.few fit.all in
    let two = (form.each k m.0 h m.1 here).code in
    let three = (lowered.each k g m.0 there m.1).code in
    le_trans (le_trans one two) three

pub program_is_short : ProgramIsShort
program_is_short p q f checked lowered form = record {
  each = λ k h here.
      let lt : k < length f.functions = slice_get_within f.functions k h here in
      let g = some_at p.functions k (subst (λ n. k < n) (form.count ∙ lowered.count) lt) in
      let one : rows_of h ≤ 128 * g.0.nodes + 1024 = code_fits p q f lowered form k g.0 h g.1 here in
      let two : g.0.nodes ≤ 8000 = (checked.each k g.0 g.1).nodes in
      omega (arith, one, two);
}
