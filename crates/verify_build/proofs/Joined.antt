-- The file of a program that was verified.
use Rattle.std.proofs.Common.{◌≡◌, ◌≤◌, ℕ, List, [], ◌∷◌, Option, Some, None, length, map, refl, sym, ap, ◌∙◌, subst}
use Rattle.std.specs.Prelude.{String, IfSome, slice_get}
use Rattle.std.specs.Global.{Global}
use Rattle.srcset.specs.Files.{Files}
use Rattle.srcset.specs.NameTable.{Texts}
use Rattle.tree.specs.Tree.{ExternalTree}
use Rattle.typing_spec.specs.Program.{Function, Program}
use Rattle.cc_backend.specs.Runs.{bytes_or_none}
use Rattle.cc.specs.declared.compiling.Built.{Built}
use Rattle.cc.specs.Compiled.{HasProgram, shown_entry, entry_of, entries}
use Rattle.cc.specs.Made.{IsMade, MakesProgram}
use Rattle.cc_laws.specs.Frames.{frame_in}
use Rattle.verify.specs.declared.verdict.Verdict.{Verdict}
use Rattle.verify.specs.declared.verdict.Verdict.TheVariants.{Defined}
use Rattle.verify.specs.Says as verdict
use Rattle.verify_stack.specs.declared.bounds.Bound.{Bound}
use Rattle.verify_stack.specs.declared.bounds.Bound.TheVariants.{AtMost}
use Rattle.verify_stack.specs.Bounds as stack_bounds
use Rattle.verify_stack.specs.Bounds.{SumsWithin, size_or_none, size_in}
use Rattle.verify_stack.proofs.Whole.{sums_same}
use Rattle.verify_theorem.proofs.Joined as laws
use Rattle.verify_build.specs.declared.Verified.{Verified}
use Rattle.verify_build.specs.Verified.{IsShown, IsVerified}
use Rattle.verify_build.specs.Sizes.{frames_listed}

-- the frames that are listed are those of the file
listed_are : (texts : Texts) (fs : List Function) (frames : List ℕ) (list : List (String Global × ℕ × ℕ)) → length frames ≡ length fs → map shown_entry list ≡ entries texts fs frames → frames_listed list ≡ frames
listed_are texts [] [] [] l e = refl
listed_are texts [] [] (x ∷ list) l e = absurd (cc e)
listed_are texts [] (n ∷ frames) list l e = absurd (cc l)
listed_are texts (f ∷ fs) [] list l e = absurd (cc l)
listed_are texts (f ∷ fs) (n ∷ frames) [] l e = absurd (cc e)
listed_are texts (f ∷ fs) (n ∷ frames) (x ∷ list) l e =
    let head : shown_entry x ≡ entry_of texts f n = cc e in
    let first : x.1 ≡ n = ap (λ (e : List ℕ × ℕ × ℕ). e.1) head in
    let rest : map shown_entry list ≡ entries texts fs frames = cc e in
    let short : length frames ≡ length fs = cc l in
    rw (first, listed_are texts fs frames list short rest) refl

-- a size by its number is one frame
same_size : (o : Option ℕ) → size_or_none o ≡ bytes_or_none o
same_size None = refl
same_size (Some n) = refl

by_frames : (frames : List ℕ) (f : ℕ) → size_in frames f ≡ frame_in frames f
by_frames frames f = same_size (slice_get frames f)

-- what was found of a program and its file
pub shown_is : (stack : ℕ) (texts : Texts) (p : Program) (v : Verdict) (b : Bound) (built : Built) (most : ℕ) → verdict.Says p v → MakesProgram stack texts p built
    → stack_bounds.Says (size_in (frames_listed built.frames.items)) p b → v ≡ Defined → b ≡ AtMost most → most ≤ stack → IsShown stack texts p built most
shown_is stack texts p v b built most says makes bounded is_defined is_bound fits =
    let within : SumsWithin (size_in (frames_listed built.frames.items)) most p = subst (stack_bounds.Says (size_in (frames_listed built.frames.items)) p) is_bound bounded in
    let listed : frames_listed built.frames.items ≡ makes.builds.frames = listed_are texts p.functions makes.builds.frames built.frames.items makes.builds.each makes.builds.entries_are in
    record {
      makes = makes;
      defined = subst (verdict.Says p) is_defined says;
      within = sums_same (size_in (frames_listed built.frames.items)) (frame_in makes.builds.frames) p most (λ f. ap (λ xs. size_in xs f) listed ∙ by_frames makes.builds.frames f) within;
      fits = fits;
    }

-- so it is of the file that is answered
pub shown_file : (stack : ℕ) (texts : Texts) (p : Program) (v : Verdict) (b : Bound) (built : Built) (o : Option Verified) → verdict.Says p v → MakesProgram stack texts p built → stack_bounds.Says (size_in (frames_listed built.frames.items)) p b
    → IfSome o (λ f. (f.built ≡ built) × (v ≡ Defined) × (b ≡ AtMost f.most) × (f.most ≤ stack)) → IfSome o (λ f. IsShown stack texts p f.built f.most)
shown_file stack texts p v b built None says makes bounded h = tt
shown_file stack texts p v b built (Some f) says makes bounded h =
    subst (λ x. IsShown stack texts p x f.most) (sym h.0) (shown_is stack texts p v b built f.most says makes bounded h.1 h.2 h.3)

pub verified : (stack : ℕ) (set : Files) (name : List ℕ) (texts : Texts) (unit : List ExternalTree) (p : Program) (built : Built) (most : ℕ) → HasProgram stack set name texts unit p →
    IsShown stack texts p built most → IsVerified stack set name built most
verified stack set name texts unit p built most has shown =
    let made : IsMade stack set name built = record { compiles = record { texts = texts; unit = unit; program = p; has_program = has; builds = shown.makes.builds }; file = shown.makes.file } in
    record { made = made; fits = shown.fits; does = laws.theorem_by_frames stack most set name built made shown.defined shown.within shown.fits }

pub some_means : {A : Type 0} (o : Option A) (P Q : A → Type 0) → ((a : A) → P a → Q a) → IfSome o P → IfSome o Q
some_means None P Q k h = tt
some_means (Some a) P Q k h = k a h
