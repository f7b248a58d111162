-- Which file an #include enters, and the rest after it.
use Rattle.std.proofs.Common.{◌≡◌, ◌≤◌, ◌<◌, ◌-◌, ℕ, zero, suc, List, [], ◌∷◌, length, take, drop, Bool, true, false, Option, Some, None, Result, Ok, Err, codes, slice_index_or, IfOk, refl, sym, ap, subst, ◌∙◌, arith}
use Rattle.std.specs.Prelude.{slice_index, ◌==◌, ◌&&◌}
use Rattle.srcset.specs.declared.refusal.Pos.{Pos}
use Rattle.srcset.specs.declared.refusal.Refusal.{Refusal}
use Rattle.srcset.specs.declared.code.Code.TheVariants as code
use Rattle.srcset.specs.Files.{Files, file_of}
use Rattle.srcset.specs.Headers.{header_of}
use Rattle.srcset.specs.NameTable.{Texts, KeepsNumbers, NumbersOnce}
use Rattle.pp.proofs.TextLemmas.{same_text}
use Rattle.phases.specs.Characters.{double_quote}
use Rattle.phases.specs.Token.{Token}
use Rattle.macros.specs.Macro.{is_identifier, is_spelled, is_hash}
use Rattle.macros.proofs.TableLemmas.{table_grows}
use Rattle.pp_expand.specs.Expansion.{of_directive}
use Rattle.pp.specs.declared.conditionals.Open.{Open}
use Rattle.pp.specs.declared.file.OpenFile.{OpenFile}
use Rattle.pp.specs.declared.includes.Source.{Source}
use Rattle.pp.specs.declared.run.Run.{Run}
use Rattle.pp.specs.declared.state.State.{State as Held}
use Rattle.pp.specs.declared.words.Role.TheVariants as word
use Rattle.pp.specs.Groups.{stands_alone, role_of, hash_role, word_role, Parsed, with_line}
use Rattle.pp.specs.Phase4.{State, Outcome, ◌>>=◌, Enter, fails, presume, expand, entered, entered_by, file_done, file_meant, built_in, or_built_in, inside, resumed, is_header_kind, is_plain_string, include_named, include_made, include_done, named, Around, directive_done}
use Rattle.pp.specs.Left.{around_with, Stands}
use Rattle.pp.specs.inside.Including.{is_include, Means, Enters, EntersOrStops, IncludesOrStops, IncludedOrStops}
use Rattle.pp.specs.inside.Pending.{run_ended}
use Rattle.pp.specs.Rest.{is_active, rest_done}
use Rattle.pp.specs.Held.{presumed_of, Agrees}
use Rattle.pp.specs.inside.Stepping.{presumed_by, placed, line_with, Goes, GivesFirst, Stops, StopsAs}
use Rattle.pp.proofs.BranchLemmas.{alone_skipped}
use Rattle.pp.proofs.FileLemmas.{directive_is, directive_stands, stops_all, ends_with}
use Rattle.pp.proofs.PhaseLemmas.{number_kept}
use Rattle.pp.proofs.RestLemmas.{directive_rest}
use Rattle.pp.proofs.StateLemmas.{Reads, expand_given, if_true, if_false, true-false, directive_as}

-- a longer table
pub agrees_grows : (names after : Texts) (held : Held) (s : State) → KeepsNumbers names after → NumbersOnce after → Agrees names held s → Agrees after held s
agrees_grows names after held s keeps once a = record {
  table_is = table_grows names after held.table s.macros keeps once a.table_is;
  left_is = a.left_is;
  given_is = a.given_is;
  presumed_is = a.presumed_is;
}

-- ---- the file that is meant

pub quoted_is : (files : Files) (spelling : List ℕ) (o : Option (List ℕ)) → (slice_index spelling 0 == double_quote) ≡ true → file_of files (inside spelling) ≡ o
    → file_meant files spelling ≡ or_built_in o (inside spelling)
quoted_is files spelling o q e =
    if_true (slice_index spelling 0 == double_quote) (or_built_in (file_of files (inside spelling)) (inside spelling)) (built_in (header_of (inside spelling)) (inside spelling)) q
    ∙ ap (λ o. or_built_in o (inside spelling)) e

pub bracketed_is : (files : Files) (spelling : List ℕ) → (slice_index spelling 0 == double_quote) ≡ false
    → file_meant files spelling ≡ built_in (header_of (inside spelling)) (inside spelling)
bracketed_is files spelling q =
    if_false (slice_index spelling 0 == double_quote) (or_built_in (file_of files (inside spelling)) (inside spelling)) (built_in (header_of (inside spelling)) (inside spelling)) q

-- ---- the file that is entered

entered_none : (room : ℕ) (files : Files) (texts : Texts) (spelling : List ℕ) (at : Pos) (s : State) → file_meant files spelling ≡ None
    → entered room files texts spelling at s ≡ fails s code.IncludeNotFound at
unfolding entered
entered_none zero files texts spelling at s e = ap (λ m. entered_by m at s (λ _ _. fails s code.NestingLimit at)) e
entered_none (suc n) files texts spelling at s e = ap (λ m. entered_by m at s (λ name bytes. file_done (around_with n files texts) name bytes s)) e

entered_full : (files : Files) (texts : Texts) (spelling : List ℕ) (at : Pos) (s : State) (name bytes : List ℕ) → file_meant files spelling ≡ Some (name, bytes)
    → entered 0 files texts spelling at s ≡ fails s code.NestingLimit at
unfolding entered
entered_full files texts spelling at s name bytes e = ap (λ m. entered_by m at s (λ _ _. fails s code.NestingLimit at)) e

entered_file : (n : ℕ) (files : Files) (texts : Texts) (spelling : List ℕ) (at : Pos) (s : State) (name bytes : List ℕ) → file_meant files spelling ≡ Some (name, bytes)
    → entered (suc n) files texts spelling at s ≡ file_done (around_with n files texts) name bytes s
unfolding entered
entered_file n files texts spelling at s name bytes e = ap (λ m. entered_by m at s (λ name bytes. file_done (around_with n files texts) name bytes s)) e

pub not_found : (room : ℕ) (files : Files) (texts : Texts) (spelling : List ℕ) (at : Pos) (s : State) → file_meant files spelling ≡ None
    → Stops s.given code.IncludeNotFound at [] (entered room files texts spelling at s)
not_found room files texts spelling at s e = record { stops_is = entered_none room files texts spelling at s e }

pub no_room : (names : Texts) (source : Source) (room : ℕ) (files : Files) (texts : Texts) (spelling : List ℕ) (at : Pos) (s : State) → room ≡ 0 → Means names source (file_meant files spelling)
    → Stops s.given code.NestingLimit at [] (entered room files texts spelling at s)
no_room names source room files texts spelling at s z m = record {
  stops_is = ap (λ n. entered n files texts spelling at s) z ∙ entered_full files texts spelling at s m.name source.bytes.now m.meant_is;
}

pub positive : (n : ℕ) → (n ≡ 0 → ⊥) → 0 < n
positive zero h = absurd (h refl)
positive (suc n) h = omega arith

pub room_for : (room : ℕ) (names : Texts) (source : Source) (files : Files) (texts : Texts) (spelling : List ℕ) (at : Pos) (s : State) → (room ≡ 0 → ⊥) → KeepsNumbers names texts
    → Means names source (file_meant files spelling) → Enters files texts room source s (entered room files texts spelling at s)
room_for zero names source files texts spelling at s z keeps m = absurd (z refl)
room_for (suc n) names source files texts spelling at s z keeps m = record {
  further = n;
  room_is = refl;
  name = m.name;
  number_is = number_kept names texts m.name source.name m.number_is.once keeps m.number_is.text_is;
  enters = entered_file n files texts spelling at s m.name source.bytes.now m.meant_is;
}

-- ---- the directive

-- the rest of the entered file is resumed
pub includes_then : (result : Result Source Refusal) (names after : Texts) (held : Held) (files : Files) (texts : Texts) (room : ℕ) (s : State) (o whole : Outcome State)
    → Agrees names held s → KeepsNumbers names after → IfOk result (λ x. NumbersOnce after) → whole ≡ (o >>= resumed s)
    → EntersOrStops result after files texts room s o → IncludesOrStops s.given result after held files texts room whole
includes_then (Ok source) names after held files texts room s o whole a keeps once e h = record { after = s; agrees = agrees_grows names after held s keeps once a; done = o; enters = h; includes = e }
includes_then (Err r) names after held files texts room s o whole a keeps once e h = stops_all s.given after r o whole (resumed s) e h

pub header_includes : (result : Result Source Refusal) (names after : Texts) (held : Held) (files : Files) (texts : Texts) (room : ℕ) (enter : Enter) (at : Pos) (xs : List Token) (x : Token) (spelling : List ℕ) (s : State)
    → xs ≡ x ∷ [] → spelling ≡ x.spelling → Agrees names held s → KeepsNumbers names after → IfOk result (λ x. NumbersOnce after) → EntersOrStops result after files texts room s (enter spelling at s)
    → IncludesOrStops s.given result after held files texts room (include_named enter at (presume s xs) s)
header_includes result names after held files texts room enter at xs x spelling s e w a keeps once h =
    includes_then result names after held files texts room s (enter spelling at s) (include_named enter at (presume s xs) s) a keeps once
    (ap (λ xs. include_named enter at (presume s xs) s) e ∙ ap (λ t. enter t at s >>= resumed s) (sym w)) h

pub string_includes : (result : Result Source Refusal) (names after : Texts) (held : Held) (files : Files) (texts : Texts) (room : ℕ) (enter : Enter) (at : Pos) (xs : List Token) (x : Token) (spelling : List ℕ) (s : State)
    → xs ≡ x ∷ [] → spelling ≡ x.spelling → is_plain_string x ≡ true → Agrees names held s → KeepsNumbers names after → IfOk result (λ x. NumbersOnce after) → EntersOrStops result after files texts room s (enter spelling at s)
    → IncludesOrStops s.given result after held files texts room (include_made enter at (xs, s))
string_includes result names after held files texts room enter at xs x spelling s e w p a keeps once h =
    includes_then result names after held files texts room s (enter spelling at s) (include_made enter at (xs, s)) a keeps once
    (ap (λ xs. include_made enter at (xs, s)) e ∙ if_true (is_plain_string x) (enter x.spelling at s >>= resumed s) (fails s code.BadDirective at) p ∙ ap (λ t. enter t at s >>= resumed s) (sym w)) h

pub string_bad : (enter : Enter) (at : Pos) (xs : List Token) (x : Token) (s : State) → xs ≡ x ∷ [] → is_plain_string x ≡ false
    → Stops s.given code.BadDirective at [] (include_made enter at (xs, s))
string_bad enter at xs x s e p = record {
  stops_is = ap (λ xs. include_made enter at (xs, s)) e ∙ if_false (is_plain_string x) (enter x.spelling at s >>= resumed s) (fails s code.BadDirective at) p;
}

-- a list that is no single token
pub named_alone : (enter : Enter) (at : Pos) (xs : List Token) (s : State) → (length xs ≡ 1 → ⊥) → Stops s.given code.BadDirective at [] (include_named enter at (presume s xs) s)
named_alone enter at [] s h = record { stops_is = refl }
named_alone enter at (x ∷ []) s h = absurd (h refl)
named_alone enter at (x ∷ y ∷ xs) s h = record { stops_is = refl }

pub made_alone : (enter : Enter) (at : Pos) (xs : List Token) (s : State) → (length xs ≡ 1 → ⊥) → Stops s.given code.BadDirective at [] (include_made enter at (xs, s))
made_alone enter at [] s h = record { stops_is = refl }
made_alone enter at (x ∷ []) s h = absurd (h refl)
made_alone enter at (x ∷ y ∷ xs) s h = record { stops_is = refl }

-- by the first token after the name
pub none_left : (xs : List Token) → length xs < 1 → xs ≡ []
none_left [] h = refl
none_left (x ∷ xs) h = absurd (omega (arith, h))

pub done_none : (texts : Texts) (enter : Enter) (at : Pos) (xs : List Token) (s : State) → xs ≡ [] → Stops s.given code.BadDirective at [] (include_done texts enter at (presume s xs) s)
unfolding include_done
done_none texts enter at xs s e = record { stops_is = ap (λ xs. include_done texts enter at (presume s xs) s) e }

pub done_header : (texts : Texts) (enter : Enter) (at : Pos) (xs rest : List Token) (x : Token) (s : State) → xs ≡ x ∷ rest → is_header_kind x.kind ≡ true
    → include_done texts enter at (presume s xs) s ≡ include_named enter at (presume s xs) s
unfolding include_done
done_header texts enter at xs rest x s e k =
    ap (λ xs. include_done texts enter at (presume s xs) s) e
    ∙ if_true (is_header_kind x.kind) (include_named enter at (presume s (x ∷ rest)) s) (expand texts (presume s (x ∷ rest)) of_directive s >>= include_made enter at) k
    ∙ ap (λ xs. include_named enter at (presume s xs) s) (sym e)

pub done_made : (texts : Texts) (enter : Enter) (at : Pos) (xs rest : List Token) (x : Token) (s : State) → xs ≡ x ∷ rest → is_header_kind x.kind ≡ false
    → include_done texts enter at (presume s xs) s ≡ (expand texts (presume s xs) of_directive s >>= include_made enter at)
unfolding include_done
done_made texts enter at xs rest x s e k =
    ap (λ xs. include_done texts enter at (presume s xs) s) e
    ∙ if_false (is_header_kind x.kind) (include_named enter at (presume s (x ∷ rest)) s) (expand texts (presume s (x ∷ rest)) of_directive s >>= include_made enter at) k
    ∙ ap (λ xs. expand texts (presume s xs) of_directive s >>= include_made enter at) (sym e)

-- by the tokens that macro expansion produces, at their presumed places
pub made_is : (texts names : Texts) (enter : Enter) (at : Pos) (held : Held) (xs tokens rest : List Token) (x : Token) (s : State) → Agrees names held s → tokens ≡ placed (presumed_of held.presumed) xs
    → xs ≡ x ∷ rest → is_header_kind x.kind ≡ false
    → include_done texts enter at (presume s xs) s ≡ (expand texts tokens of_directive s >>= include_made enter at)
made_is texts names enter at held xs tokens rest x s a t e k =
    done_made texts enter at xs rest x s e k
    ∙ ap (λ l. expand texts l of_directive s >>= include_made enter at) (ap (λ p. placed p xs) a.presumed_is ∙ sym t)

pub made_stops : (r : Refusal) (texts names after : Texts) (enter : Enter) (at : Pos) (held : Held) (xs tokens rest : List Token) (x : Token) (s : State) → Agrees names held s → tokens ≡ placed (presumed_of held.presumed) xs
    → xs ≡ x ∷ rest → is_header_kind x.kind ≡ false → StopsAs s.given after r (expand texts tokens of_directive s) → StopsAs s.given after r (include_done texts enter at (presume s xs) s)
made_stops r texts names after enter at held xs tokens rest x s a t e k st =
    stops_all s.given after r (expand texts tokens of_directive s) (include_done texts enter at (presume s xs) s) (include_made enter at) (made_is texts names enter at held xs tokens rest x s a t e k) st

include_first : (enter : Enter) (at : Pos) (whole : List Token) (s : State) → include_made enter at (whole, s) ≡ include_made enter at (take 2 whole, s)
include_first enter at [] s = refl
include_first enter at (x ∷ []) s = refl
include_first enter at (x ∷ y ∷ rest) s = refl

-- the first two tokens determine which file it includes
include_made_first : (texts names : Texts) (enter : Enter) (at : Pos) (new : Held) (tokens list : List Token) (s : State) (g : GivesFirst 2 list names new (expand texts tokens of_directive s))
    → (expand texts tokens of_directive s >>= include_made enter at) ≡ include_made enter at (list, g.gives.after)
include_made_first texts names enter at new tokens list s g =
    ap (λ o. o >>= include_made enter at) g.gives.gives_is ∙ include_first enter at g.whole g.gives.after
    ∙ ap (λ (l : List Token). include_made enter at (l, g.gives.after)) (sym g.first_is)

pub made_includes : (result : Result Source Refusal) (texts names after : Texts) (enter : Enter) (at : Pos) (held new : Held) (files : Files) (room : ℕ) (xs tokens rest list : List Token) (x : Token) (s : State) → Agrees names held s → tokens ≡ placed (presumed_of held.presumed) xs
    → xs ≡ x ∷ rest → is_header_kind x.kind ≡ false → (g : GivesFirst 2 list names new (expand texts tokens of_directive s))
    → IncludesOrStops g.gives.after.given result after new files texts room (include_made enter at (list, g.gives.after))
    → IncludesOrStops s.given result after new files texts room (include_done texts enter at (presume s xs) s)
made_includes result texts names after enter at held new files room xs tokens rest list x s a t e k g h =
    subst (IncludesOrStops s.given result after new files texts room) (sym (made_is texts names enter at held xs tokens rest x s a t e k ∙ include_made_first texts names enter at new tokens list s g))
    (subst (λ l. IncludesOrStops l result after new files texts room (include_made enter at (list, g.gives.after))) (expand_given texts tokens of_directive s (g.whole, g.gives.after) g.gives.gives_is) h)

-- ---- the line

include_word : (x : Token) → is_spelled (codes "include") x ≡ true → word_role x ≡ stands_alone
include_word x e = ap (λ (t : List ℕ). word_role (record x { spelling = t })) (same_text x.spelling (codes "include") e)

include_role_by : (a b c : Bool) (h x : Token) (xs : List Token) → is_hash h ≡ a → is_identifier x ≡ b → is_spelled (codes "include") x ≡ c → (a && (b && c)) ≡ true → role_of (h ∷ x ∷ xs) ≡ stands_alone
include_role_by true true true h x xs ea eb ec e =
    if_true (is_hash h) (hash_role (x ∷ xs)) (role_of []) ea ∙ if_true (is_identifier x) (word_role x) stands_alone eb ∙ include_word x ec
include_role_by false b c h x xs ea eb ec e = absurd (true-false (sym e))
include_role_by true false c h x xs ea eb ec e = absurd (true-false (sym e))
include_role_by true true false h x xs ea eb ec e = absurd (true-false (sym e))

pub include_role : (ts : List Token) → is_include ts ≡ true → role_of ts ≡ stands_alone
include_role [] e = absurd (true-false (sym e))
include_role (h ∷ []) e = absurd (true-false (sym e))
include_role (h ∷ x ∷ xs) e = include_role_by (is_hash h) (is_identifier x) (is_spelled (codes "include") x) h x xs refl refl refl e

named_include : (texts : Texts) (enter : Enter) (x : Token) (xs : List Token) (end : ℕ) (at : Pos) (s : State) → is_spelled (codes "include") x ≡ true
    → named texts enter x xs end at s ≡ include_done texts enter at xs s
named_include texts enter x xs end at s e = ap (λ (t : List ℕ). named texts enter (record x { spelling = t }) xs end at s) (same_text x.spelling (codes "include") e)

parts : (a b c : Bool) → (a && (b && c)) ≡ true → (b ≡ true) × (c ≡ true)
parts true true c e = (refl, e)
parts false b c e = absurd (true-false (sym e))
parts true false c e = absurd (true-false (sym e))

pub include_is : (texts names : Texts) (enter : Enter) (held : Held) (ts : List Token) (end : ℕ) (h : Token) (at : Pos) (s : State) → 2 ≤ length ts → h ≡ slice_index_or ts 0 h
    → at ≡ presumed_by (presumed_of held.presumed) h.pos → is_include ts ≡ true → Agrees names held s
    → directive_done texts enter (line_with ts end) s ≡ include_done texts enter at (presume s (take (length ts - 2) (drop 2 ts))) s
include_is texts names enter held [] end h at s n f p i a = absurd (omega (arith, n))
include_is texts names enter held (k ∷ []) end h at s n f p i a = absurd (omega (arith, n))
include_is texts names enter held (k ∷ x ∷ ts) end h at s n f p i a =
    let r : Reads held (k ∷ x ∷ ts) h x at = record { long = n; first = f; second = refl; at_is = p } in
    let q = parts (is_hash k) (is_identifier x) (is_spelled (codes "include") x) i in
    let rest = presume s (take (length (k ∷ x ∷ ts) - 2) (drop 2 (k ∷ x ∷ ts))) in
    directive_as texts names enter held (k ∷ x ∷ ts) end h x at s r a
    ∙ if_true (is_identifier x) (named texts enter x rest end at s) (fails s code.BadDirective at) q.0
    ∙ named_include texts enter x rest end at s q.1

-- the rest after the run results in the directive and the rest after that
pub line_is : (texts names between : Texts) (held now : Held) (run : Run) (around : Around) (os : List Open) (ts : List Token) (end : ℕ) (p : Parsed) (o : Outcome State)
    → is_include ts ≡ true → (st : Stands names held run around os (with_line (role_of ts) (line_with ts end) p) o)
    → (m : Goes between now (run_ended around.texts run.begun st.text st.now)) → is_active os ≡ true
    → o ≡ (directive_done around.texts around.enter (line_with ts end) m.after >>= rest_done around os p)
line_is texts names between held now run around os ts end p o i st m active =
    directive_is names held run around os word.StandsAlone (line_with ts end) p o (include_role ts i) st
    ∙ ap (λ k. k >>= λ s. rest_done around os (with_line stands_alone (line_with ts end) p) s) m.goes_is
    ∙ directive_rest around os (line_with ts end) p m.after active

pub line_skipped : (names : Texts) (held now : Held) (run run' : Run) (around : Around) (os : List Open) (ts : List Token) (end : ℕ) (p : Parsed) (o : Outcome State)
    → is_include ts ≡ true → (st : Stands names held run around os (with_line (role_of ts) (line_with ts end) p) o) → run'.begun ≡ false → run'.tokens ≡ []
    → Goes names now (run_ended around.texts run.begun st.text st.now) → is_active os ≡ false → Stands names now run' around os p o
line_skipped names held now run run' around os ts end p o i st begun tokens m out =
    directive_stands {A = Bool} (Ok true) names names held now now run run' around os os word.StandsAlone (line_with ts end) p o (include_role ts i) st begun tokens m refl
    (λ s a. alone_skipped names now around os (line_with ts end) p s out a)

pub line_includes : (result : Result Source Refusal) (names after : Texts) (held now new : Held) (run : Run) (file : OpenFile) (files : Files) (texts : Texts) (room : ℕ) (ts : List Token) (end : ℕ) (p : Parsed) (o : Outcome State) (h : Token) (at : Pos)
    → is_include ts ≡ true → (st : Stands names held run (around_with room files texts) file.conditionals (with_line (role_of ts) (line_with ts end) p) o)
    → (m : Goes names now (run_ended texts run.begun st.text st.now)) → is_active file.conditionals ≡ true
    → 2 ≤ length ts → h ≡ slice_index_or ts 0 h → at ≡ presumed_by (presumed_of now.presumed) h.pos → new.given ≡ now.given
    → ((s : State) → Agrees names now s → IncludesOrStops s.given result after new files texts room (include_done texts (entered room files texts) at (presume s (take (length ts - 2) (drop 2 ts))) s))
    → IncludedOrStops result after new file files texts room p o
line_includes (Ok source) names after held now new run file files texts room ts end p o h at i st m active n f q kept does = record {
  made = include_done texts (entered room files texts) at (presume m.after (take (length ts - 2) (drop 2 ts))) m.after;
  includes = does m.after m.agrees;
  waits = line_is texts names names held now run (around_with room files texts) file.conditionals ts end p o i st m active
      ∙ ap (λ k. k >>= rest_done (around_with room files texts) file.conditionals p) (include_is texts names (entered room files texts) now ts end h at m.after n f q i m.agrees);
}
line_includes (Err r) names after held now new run file files texts room ts end p o h at i st m active n f q kept does =
    ends_with now.given new.given m.after.given after r o kept m.agrees.given_is
    (stops_all m.after.given after r (include_done texts (entered room files texts) at (presume m.after (take (length ts - 2) (drop 2 ts))) m.after) o (rest_done (around_with room files texts) file.conditionals p)
    (line_is texts names names held now run (around_with room files texts) file.conditionals ts end p o i st m active
    ∙ ap (λ k. k >>= rest_done (around_with room files texts) file.conditionals p) (include_is texts names (entered room files texts) now ts end h at m.after n f q i m.agrees))
    (does m.after m.agrees))
