-- The model of a map from texts to vectors as a list of files.
use Rattle.std.proofs.Common.{◌≡◌, ℕ, ◌<◌, ◌≤◌, List, [], ◌∷◌, ◌++◌, map, length, Option, Some, None, Bool, true, false, cond, if◌then◌else◌, not, nat_lt, nat_le, length-append, ◌&&◌, ◌||◌, is_some, refl, sym, ap, ◌∙◌, subst, arith, String, Global, Vec}
use Rattle.std.proofs.lemmas.Bool.{le-leb}
use Rattle.std.proofs.lemmas.Bool.Decides.{nat_tests}
use Rattle.std.specs.List.{list_all, list_any}
use Rattle.std.specs.Map.{lookup}
use Rattle.std.specs.Option.{option_map}
use Rattle.std.specs.Str.{bytes_eq}
use Rattle.std.specs.String.{string_bytes, string_eq}
use Rattle.srcset.specs.Files.{Files, file_of, names_of, add_fault, is_file_name, max_file_bytes, max_files, IsWithinLimits, IsFileMap}
use Rattle.srcset.specs.declared.code.Code.{Code}
use Rattle.srcset.specs.declared.code.Code.TheVariants.{BadFileName, FileGivenTwice, FileSizeLimit, FileLimit}
use Rattle.srcset.specs.NameTable.{NumbersOnce}
use Rattle.srcset.proofs.NameLemmas.{same_text, numbers_once_push}
use Rattle.indexmap.specs.IndexMap.{IndexMap, get, insert_entry}
use Rattle.indexmap.proofs.CallerLemmas.{insert_entry-new}
use Rattle.std.proofs.lemmas.List.{map-append}
use Rattle.srcset.proofs.ViewLemmas.{lookup-view}

abbrev pub Entries : Type 0
Entries = List (String Global × Vec ℕ Global)

abbrev pub files_of : Entries → Files
files_of es = map (λ (e : String Global × Vec ℕ Global). (string_bytes e.0, e.1.items)) es

pub file_of-files_of : (es : Entries) (name : List ℕ) → file_of (files_of es) name ≡ option_map (λ (v : Vec ℕ Global). v.items) (lookup (λ k. bytes_eq name (string_bytes k)) es)
file_of-files_of es name = lookup-view string_bytes (λ (v : Vec ℕ Global). v.items) (bytes_eq name) es

pub is_some-option_map : {A B : Type 0} (f : A → B) (o : Option A) → is_some (option_map f o) ≡ is_some o
is_some-option_map f None = refl
is_some-option_map f (Some x) = refl

pub both : (a b : Bool) → (a && b) ≡ true → (a ≡ true) × (b ≡ true)
both true b e = (refl, e)
both false b e = absurd (cc)

-- each file that is found satisfies a test that all files satisfy
pub found_passes : {K V : Type 0} (p : V → Bool) (test : K → Bool) (es : List (K × V)) (v : V) → list_all (λ e. p e.1) es ≡ true → lookup test es ≡ Some v → p v ≡ true
found_passes p test [] v all e = absurd (cc)
found_passes p test (x ∷ es) v all e =
    let split = both (p x.1) _ all in
    let rest = found_passes p test es v split.1 in
    (elim (test x.0) as (λ b. cond b (Some x.1) (lookup test es) ≡ Some v → p v ≡ true) [
      | true ↦ λ h. let same : x.1 ≡ v = cc in subst (λ w. p w ≡ true) same split.0
      | false ↦ rest
    ]) e

-- a property of all elements extends to one more
pub list_all_push : {X : Type 0} (p : X → Bool) (xs : List X) (y : X) → list_all p xs ≡ true → p y ≡ true → list_all p (xs ++ y ∷ []) ≡ true
list_all_push p [] y all here = rw here refl
list_all_push p (x ∷ xs) y all here =
    let split = both (p x) _ all in
    rw (split.0, list_all_push p xs y split.1 here) refl

first_fault : Bool → Bool → Bool → Bool → Option Code
first_fault a b c d = if not a then Some BadFileName else if b then Some FileGivenTwice else if c then Some FileSizeLimit else if d then Some FileLimit else None

passes : (a b c d : Bool) → first_fault a b c d ≡ None → (b ≡ false) × (c ≡ false) × (d ≡ false) × (a ≡ true)
unfolding first_fault
passes false b c d e = absurd (cc)
passes true true c d e = absurd (cc)
passes true false true d e = absurd (cc)
passes true false false true e = absurd (cc)
passes true false false false e = (refl, refl, refl, refl)

-- a file that is not rejected is new, small, finds room, and has an allowed name
pub accepted : (files : Files) (name bytes : List ℕ) → add_fault files name bytes ≡ None
    → (is_some (file_of files name) ≡ false) × (length bytes ≤ max_file_bytes) × (length files < max_files) × (is_file_name name ≡ true)
unfolding first_fault
accepted files name bytes e =
    let tests = passes (is_file_name name) (is_some (file_of files name)) (nat_lt max_file_bytes (length bytes)) (nat_le max_files (length files)) e in
    (tests.0, grind (arith, nat_tests, tests.1), grind (arith, nat_tests, tests.2), tests.3)

pub within_limits_push : (files : Files) (name bytes : List ℕ) → IsWithinLimits files → length bytes ≤ max_file_bytes → length files < max_files → IsWithinLimits (files ++ (name, bytes) ∷ [])
within_limits_push files name bytes old small room =
    (simp length-append (omega arith), list_all_push (λ f. nat_le (length f.1) max_file_bytes) files (name, bytes) old.1 (le-leb _ _ small))

-- a name is found where it is one of the names
is_some-lookup : (files : Files) (name : List ℕ) → is_some (file_of files name) ≡ list_any (bytes_eq name) (names_of files)
is_some-lookup [] name = refl
is_some-lookup (f ∷ files) name =
    let rest = is_some-lookup files name in
    elim (bytes_eq name f.0) as (λ b. is_some (cond b (Some f.1) (lookup (bytes_eq name) files)) ≡ (b || list_any (bytes_eq name) (names_of files))) [
      | true ↦ refl
      | false ↦ rest
    ]

found_name_step : (name first bytes : List ℕ) (later : Option (List ℕ)) → is_file_name first ≡ true → (is_some later ≡ true → is_file_name name ≡ true)
    → is_some (cond (bytes_eq name first) (Some bytes) later) ≡ true → is_file_name name ≡ true
found_name_step name first bytes later here rest e = by (bytes_eq name first) refl e
  where
    by : (b : Bool) → bytes_eq name first ≡ b → is_some (cond b (Some bytes) later) ≡ true → is_file_name name ≡ true
    by true same found = rw (same_text name first same) here
    by false other found = rest found

-- a name that is found is one that a file may have
pub found_name : (files : Files) (name : List ℕ) → list_all (λ f. is_file_name f.0) files ≡ true → is_some (file_of files name) ≡ true → is_file_name name ≡ true
found_name [] name all e = absurd (cc)
found_name (f ∷ files) name all e =
    let split = both (is_file_name f.0) _ all in
    found_name_step name f.0 f.1 (file_of files name) split.0 (found_name files name split.1) e

-- a new file keeps the set a map
pub file_map_push : (files : Files) (name bytes : List ℕ) → IsFileMap files → add_fault files name bytes ≡ None → IsFileMap (files ++ (name, bytes) ∷ [])
file_map_push files name bytes old e =
    let fits = accepted files name bytes e in
    let once : NumbersOnce (names_of (files ++ (name, bytes) ∷ [])) =
    rw (map-append (λ (f : List ℕ × List ℕ). f.0) files ((name, bytes) ∷ [])) (numbers_once_push (names_of files) name (sym (is_some-lookup files name) ∙ fits.0) old.2) in
    (within_limits_push files name bytes old.0 fits.1 fits.2, list_all_push (λ f. is_file_name f.0) files (name, bytes) old.1 fits.3, once)

pub none_found : {A : Type 0} (o : Option A) → is_some o ≡ false → o ≡ None
none_found None e = refl
none_found (Some x) e = absurd (cc)

module _ {S : Type 0} (m : IndexMap (String Global) (Vec ℕ Global) S) (key : String Global) (bytes : Vec ℕ Global) where
  -- a new name goes last
  pub files_of-insert : (name : List ℕ) → string_bytes key ≡ name → is_some (file_of (files_of m.entries) name) ≡ false
      → files_of (insert_entry string_eq m.entries key bytes) ≡ files_of m.entries ++ (name, bytes.items) ∷ []
  files_of-insert name named absent =
      let look = file_of-files_of m.entries name in
      let none : lookup (λ k. bytes_eq name (string_bytes k)) m.entries ≡ None =
      none_found _ (sym (is_some-option_map (λ (v : Vec ℕ Global). v.items) _) ∙ ap is_some (sym look) ∙ absent) in
      let none_at_key : get string_eq m key ≡ None =
      subst (λ n. lookup (λ k. bytes_eq n (string_bytes k)) m.entries ≡ None) (sym named) none in
      rw (insert_entry-new string_eq m key bytes none_at_key, map-append, named) refl
