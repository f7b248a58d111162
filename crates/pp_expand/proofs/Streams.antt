-- A list that is expanded one token at a time: the names of its hide sets, and the result of a call.
use Rattle.std.proofs.Common.{◌≡◌, ℕ, zero, suc, ◌+◌, ◌*◌, ◌^◌, ◌<◌, ◌≤◌, List, [], ◌∷◌, ◌++◌, map, length, Option, Some, None, Result, Ok, Err, refl, sym, ap, ◌∙◌, subst, arith, append-nil, ⊎_elim}
use Rattle.std.specs.Prelude.{slice_get, get_or, option_map, IfSome}
use Rattle.std.proofs.lemmas.Option.{slice_get-get_or, slice_get_within}
use Rattle.std.proofs.lemmas.List.{map-append}
use Rattle.srcset.specs.declared.refusal.Refusal.{Refusal}
use Rattle.srcset.specs.declared.refusal.Refusal.TheVariants.{Memory, At, Told}
use Rattle.srcset.specs.NameTable.{Texts, KeepsNumbers}
use Rattle.phases.specs.Token.{Token}
use Rattle.macros.specs.Macro.{Macros}
use Rattle.macros_substitution.specs.Substitution.{Hidden}
use Rattle.macros_substitution.specs.HideSets.{Sets, list_or_none, members, Extends, AreBelow, NamesBelow, name_of, spelled}
use Rattle.macros_substitution.specs.Meaning.{hidden_of, hidden_all, AreIn}
use Rattle.macros_substitution.specs.declared.piece.HiddenToken.{HiddenToken}
use Rattle.pp_expand.specs.Expansion.{Ending, unhidden}
use Rattle.pp_expand.specs.Expands.{HaveFiles, ending_of}
use Rattle.pp_expand.specs.Pulled.{pulled}
use Rattle.pp_expand.specs.Streams.{Stream, list_left, Knows, IsPulled}
use Rattle.pp_expand.specs.inside.Pulls.{PullsAs, FallsTo}
use Rattle.pp_expand.specs.inside.Unhidden.{IsUnhidden}
use Rattle.pp_expand.proofs.Sets.{members_below, are_in_append}
use Rattle.pp_expand.proofs.Whole.{begins_in, unhidden_all}
use Rattle.pp_expand.proofs.Handing.{tokens_all}
use Rattle.pp_expand.proofs.Files.{pulled_grows, pulled_files}

-- ---- later texts

pub longer : (t u : Texts) → KeepsNumbers t u → length t ≤ length u
longer [] u keeps = omega arith
longer (x ∷ t) u keeps =
    let n = length t in
    let last : n < length (x ∷ t) = omega arith in
    let within = slice_get_within u n (get_or (x ∷ t) n []) (keeps n (get_or (x ∷ t) n []) (slice_get-get_or (x ∷ t) n [] last)) in
    omega (arith, within)

module _ (t u : Texts) (keeps : KeepsNumbers t u) where
  name_kept : (n : ℕ) → n < length t → name_of t n ≡ name_of u n
  name_kept n h =
      let here : slice_get t n ≡ Some (get_or t n []) = slice_get-get_or t n [] h in
      ap list_or_none (here ∙ sym (keeps n (get_or t n []) here))

  spelled_kept : (ns : List ℕ) → AreBelow (length t) ns → spelled t ns ≡ spelled u ns
  spelled_kept [] h = refl
  spelled_kept (n ∷ ns) h =
      ap (λ x. x ∷ spelled t ns) (name_kept n h.0) ∙ ap (λ l. name_of u n ∷ l) (spelled_kept ns h.1)

  pub hidden_kept : (sets : Sets) → NamesBelow (length t) sets → (xs : List HiddenToken) → hidden_all t sets xs ≡ hidden_all u sets xs
  hidden_kept sets below [] = refl
  hidden_kept sets below (x ∷ xs) =
      ap (λ (names : List (List ℕ)). let h : Hidden = record { token = x.token; hides = names } in h ∷ hidden_all t sets xs) (spelled_kept (members sets x.hides) (members_below (length t) sets below x.hides)) ∙ ap (λ l. hidden_of u sets x ∷ l) (hidden_kept sets below xs)

  pub left_kept : (s : Stream) → Knows t s → list_left t s ≡ list_left u s
  left_kept s knows = ap (λ l. l ++ unhidden s.fresh) (hidden_kept s.sets knows.names_below s.list)

  names_more : (m n : ℕ) → m ≤ n → (ns : List ℕ) → AreBelow m ns → AreBelow n ns
  names_more m n le [] h = tt
  names_more m n le (k ∷ ns) h = (omega (arith, h.0, le), names_more m n le ns h.1)

  below_more : (m n : ℕ) → m ≤ n → (sets : Sets) → NamesBelow m sets → NamesBelow n sets
  below_more m n le [] h = tt
  below_more m n le (names ∷ sets) h = (names_more m n le names h.0, below_more m n le sets h.1)

  files_more : (xs : List Token) → HaveFiles t xs → HaveFiles u xs
  files_more xs h = λ i x at. omega (arith, h i x at, longer t u keeps)

  -- the facts known of a list stay true
  pub knows_more : (s : Stream) → Knows t s → Knows u s
  knows_more s k = record {
    names_below = below_more (length t) (length u) (longer t u keeps) s.sets k.names_below;
    list_files = files_more (map (λ x. x.token) s.list) k.list_files;
    fresh_files = files_more s.fresh k.fresh_files;
  }

-- ---- a table of hide sets that grows

hidden_later : (texts : Texts) (sets later : Sets) → Extends sets later → (xs : List HiddenToken) → AreIn (length sets) xs → hidden_all texts later xs ≡ hidden_all texts sets xs
hidden_later texts sets later grown [] h = refl
hidden_later texts sets later grown (x ∷ xs) h =
    ap (λ (names : List ℕ). let y : Hidden = record { token = x.token; hides = spelled texts names } in y ∷ hidden_all texts later xs) (grown.same x.hides h.0) ∙ ap (λ l. hidden_of texts sets x ∷ l) (hidden_later texts sets later grown xs h.1)

-- ---- the files of a list

have_append : (texts : Texts) (xs ys : List Token) → HaveFiles texts xs → HaveFiles texts ys → HaveFiles texts (xs ++ ys)
have_append texts [] ys h k i y at = k i y at
have_append texts (x ∷ xs) ys h k zero y at = h 0 y at
have_append texts (x ∷ xs) ys h k (suc i) y at = have_append texts xs ys (λ j z e. h (suc j) z e) k i y at

shown_unhidden : (xs : List Token) → map (λ x. x.token) (unhidden xs) ≡ xs
shown_unhidden [] = refl
shown_unhidden (x ∷ xs) = ap (λ l. x ∷ l) (shown_unhidden xs)

shown_left : (texts : Texts) (s : Stream) → map (λ x. x.token) (list_left texts s) ≡ map (λ x. x.token) s.list ++ s.fresh
shown_left texts s =
    map-append (λ x. x.token) (hidden_all texts s.sets s.list) (unhidden s.fresh) ∙ ap (λ l. l ++ map (λ x. x.token) (unhidden s.fresh)) (tokens_all texts s.sets s.list) ∙ ap (λ l. map (λ x. x.token) s.list ++ l) (shown_unhidden s.fresh)

pub left_files : (names texts : Texts) (s : Stream) → Knows names s → HaveFiles names (map (λ x. x.token) (list_left texts s))
left_files names texts s k =
    subst (HaveFiles names) (sym (shown_left texts s)) (have_append names (map (λ x. x.token) s.list) s.fresh k.list_files k.fresh_files)

-- ---- where a list begins

tokens_unhidden : (xs : List Token) → map (λ x. x.token) (map (λ x. let y : HiddenToken = record { token = x; hides = 0 } in y) xs) ≡ xs
tokens_unhidden [] = refl
tokens_unhidden (x ∷ xs) = ap (λ l. x ∷ l) (tokens_unhidden xs)

no_files : (names : Texts) → HaveFiles names []
no_files names = λ i y at. let z : ⊥ = cc in absurd z

pub of_left : (texts : Texts) (s : Stream) (xs : List Token) → IsUnhidden xs s.list → s.fresh ≡ [] → list_left texts s ≡ unhidden xs
of_left texts s xs e none =
    ap (λ (l : List Token). hidden_all texts s.sets s.list ++ unhidden l) none ∙ append-nil (hidden_all texts s.sets s.list) ∙ ap (hidden_all texts s.sets) e ∙ unhidden_all texts s.sets xs

pub of_known : (names : Texts) (s : Stream) (xs : List Token) → IsUnhidden xs s.list → s.fresh ≡ [] → s.sets ≡ [] → HaveFiles names xs → Knows names s
of_known names s xs e none empty have = record {
  names_below = subst (λ sets. NamesBelow (length names) sets) (sym empty) tt;
  list_files = subst (HaveFiles names) (sym (ap (map (λ x. x.token)) e ∙ tokens_unhidden xs)) have;
  fresh_files = subst (HaveFiles names) (sym none) (no_files names);
}

-- tokens that have not been scanned yet, appended to the others
pub fresh_in : (count : ℕ) (list new : List HiddenToken) (fresh : List Token) → AreIn count list → new ≡ list ++ map (λ x. record { token = x; hides = 0 }) fresh → AreIn count new
fresh_in count list new fresh held e =
    subst (AreIn count) (sym e) (are_in_append count list (map (λ x. record { token = x; hides = 0 }) fresh) held (begins_in count fresh (map (λ x. record { token = x; hides = 0 }) fresh) refl))

pub fresh_behind : (texts : Texts) (sets : Sets) (list new : List HiddenToken) (fresh : List Token) → new ≡ list ++ map (λ x. record { token = x; hides = 0 }) fresh → hidden_all texts sets new ≡ hidden_all texts sets list ++ unhidden fresh
fresh_behind texts sets list new fresh e =
    ap (hidden_all texts sets) e ∙ map-append (λ x. hidden_of texts sets x) list (map (λ x. record { token = x; hides = 0 }) fresh) ∙ ap (λ l. hidden_all texts sets list ++ l) (unhidden_all texts sets fresh)

-- ---- a call

module _ (macros : Macros) (names : Texts) (s new : Stream) (knows : Knows names s) (held : AreIn (length s.sets) s.list) (grown : Extends s.sets new.sets) (below : NamesBelow (length names) new.sets) (none : new.fresh ≡ []) (ending : Ending) (left after : ℕ) where
  as_held : pulled (record { macros = macros; texts = names }) (hidden_all names new.sets s.list ++ unhidden s.fresh) ending left ≡ pulled (record { macros = macros; texts = names }) (list_left names s) ending left
  as_held =
      ap (λ l. pulled (record { macros = macros; texts = names }) (l ++ unhidden s.fresh) ending left) (hidden_later names s.sets new.sets grown s.list held)

  -- the facts known of the list after it
  module _ (x : HiddenToken) (p : PullsAs names new.sets (Ok (Some x)) new.list after (pulled (record { macros = macros; texts = names }) (hidden_all names new.sets s.list ++ unhidden s.fresh) ending left)) where
    files : (x.token.pos.file < length names) × HaveFiles names (map (λ y. y.token) (hidden_all names new.sets new.list))
    files =
        pulled_files macros names (list_left names s) ending left (hidden_of names new.sets x) (hidden_all names new.sets new.list) after (left_files names names s knows) (sym as_held ∙ p)

    pub file_known : x.token.pos.file < length names
    file_known = files.0

    pub some_known : Knows names new
    some_known = record {
      names_below = below;
      list_files = subst (HaveFiles names) (tokens_all names new.sets new.list) files.1;
      fresh_files = subst (HaveFiles names) (sym none) (no_files names);
    }

  pub none_known : new.list ≡ [] → Knows names new
  none_known e = record {
    names_below = below;
    list_files = subst (λ (l : List HiddenToken). HaveFiles names (map (λ y. y.token) l)) (sym e) (no_files names);
    fresh_files = subst (HaveFiles names) (sym none) (no_files names);
  }

  module _ (texts : Texts) (keeps : KeepsNumbers names texts) where
    as_later : pulled (record { macros = macros; texts = texts }) (list_left texts s) ending left ≡ pulled (record { macros = macros; texts = names }) (hidden_all names new.sets s.list ++ unhidden s.fresh) ending left
    as_later =
        ap (λ l. pulled (record { macros = macros; texts = texts }) l ending left) (sym (left_kept names texts keeps s knows)) ∙ sym (pulled_grows macros names texts (list_left names s) ending left keeps (left_files names names s knows)) ∙ sym as_held

    rest_later : hidden_all names new.sets new.list ≡ list_left texts new
    rest_later =
        hidden_kept names texts keeps new.sets below new.list ∙ sym (ap (λ (l : List Token). hidden_all texts new.sets new.list ++ unhidden l) none ∙ append-nil (hidden_all texts new.sets new.list))

    pub some_pulled : (x : HiddenToken) → PullsAs names new.sets (Ok (Some x)) new.list after (pulled (record { macros = macros; texts = names }) (hidden_all names new.sets s.list ++ unhidden s.fresh) ending left) → IsPulled (Ok (Some x.token)) (list_left texts new) left after (pulled (record { macros = macros; texts = texts }) (list_left texts s) ending left)
    some_pulled x p =
        (spelled names (members new.sets x.hides), as_later ∙ p ∙ ap (λ (l : List Hidden). Ok (Some (hidden_of names new.sets x), l, after)) rest_later)

    pub none_pulled : PullsAs names new.sets (Ok None) new.list after (pulled (record { macros = macros; texts = names }) (hidden_all names new.sets s.list ++ unhidden s.fresh) ending left) → IsPulled (Ok None) (list_left texts new) left after (pulled (record { macros = macros; texts = texts }) (list_left texts s) ending left)
    none_pulled p = (sym rest_later ∙ ap (hidden_all names new.sets) p.0, as_later ∙ p.1)

    pub err_pulled : (f : Refusal) (list : List HiddenToken) (behind : List Hidden) → PullsAs names new.sets (Err f) list after (pulled (record { macros = macros; texts = names }) (hidden_all names new.sets s.list ++ unhidden s.fresh) ending left) → IsPulled (Err f) behind left left (pulled (record { macros = macros; texts = texts }) (list_left texts s) ending left)
    err_pulled Memory list behind p = refl
    err_pulled (At c pos) list behind p = (as_later ∙ p, refl)
    err_pulled (Told c pos text) list behind p = p

-- the same of the list as it is seen, and of the replacements left by other names
module _ (macros : Macros) (names : Texts) (s seen new : Stream) (is : s ≡ seen) (held : AreIn (length s.sets) s.list) (grown : Extends s.sets new.sets) (below : NamesBelow (length names) s.sets → NamesBelow (length names) new.sets) (left counted after : ℕ) (count_is : left ≡ counted) where
  abbrev Pulls : Result (Option HiddenToken) Refusal → Type 0
  Pulls r =
      PullsAs names new.sets r new.list after (pulled (record { macros = macros; texts = names }) (hidden_all names new.sets s.list ++ unhidden s.fresh) (ending_of s.end) left)

  knows_it : Knows names seen → Knows names s
  knows_it k = subst (Knows names) (sym is) k

  pub call_known : new.fresh ≡ [] → (o : Option HiddenToken) → Pulls (Ok o) → Knows names seen → Knows names new
  call_known none (Some x) p k =
      some_known macros names s new (knows_it k) held grown (below (knows_it k).names_below) none (ending_of s.end) left after x p
  call_known none None p k =
      none_known macros names s new (knows_it k) held grown (below (knows_it k).names_below) none (ending_of s.end) left after p.0

  pub call_files : new.fresh ≡ [] → (o : Option HiddenToken) (shown : Option Token) → shown ≡ option_map (λ x. x.token) o → Pulls (Ok o) → Knows names seen → IfSome shown (λ x. x.pos.file < length names)
  call_files none (Some x) shown e p k =
      subst (λ (t : Option Token). IfSome t (λ x. x.pos.file < length names)) (sym e) (file_known macros names s new (knows_it k) held grown (below (knows_it k).names_below) none (ending_of s.end) left after x p)
  call_files none None shown e p k = subst (λ (t : Option Token). IfSome t (λ x. x.pos.file < length names)) (sym e) tt

  module _ (texts : Texts) (keeps : KeepsNumbers names texts) (k : Knows names seen) where
    abbrev Answers : Result (Option Token) Refusal → List Hidden → ℕ → Stream → ℕ → Type 0
    Answers r behind now z n = IsPulled r behind n now (pulled (record { macros = macros; texts = texts }) (list_left texts z) (ending_of z.end) n)

    as_seen : (r : Result (Option Token) Refusal) (behind : List Hidden) (now : ℕ) → Answers r behind now s left → Answers r behind now seen counted
    as_seen r behind now a =
        subst (λ z. Answers r behind now z counted) is (subst (λ n. Answers r behind now s n) count_is a)

    pub call_pulls : new.fresh ≡ [] → (now : ℕ) → now ≡ after → (o : Option HiddenToken) (shown : Option Token) → shown ≡ option_map (λ x. x.token) o → Pulls (Ok o) → IsPulled (Ok shown) (list_left texts new) counted now (pulled (record { macros = macros; texts = texts }) (list_left texts seen) (ending_of seen.end) counted)
    call_pulls none now n (Some x) shown e p =
        subst (λ (t : Option Token). Answers (Ok t) (list_left texts new) now seen counted) (sym e) (subst (λ m. Answers (Ok (Some x.token)) (list_left texts new) m seen counted) (sym n) (as_seen (Ok (Some x.token)) (list_left texts new) after (some_pulled macros names s new (knows_it k) held grown (below (knows_it k).names_below) none (ending_of s.end) left after texts keeps x p)))
    call_pulls none now n None shown e p =
        subst (λ (t : Option Token). Answers (Ok t) (list_left texts new) now seen counted) (sym e) (subst (λ m. Answers (Ok None) (list_left texts new) m seen counted) (sym n) (as_seen (Ok None) (list_left texts new) after (none_pulled macros names s new (knows_it k) held grown (below (knows_it k).names_below) none (ending_of s.end) left after texts keeps p)))

-- the same of a refusal, whatever is left of the list
module _ (macros : Macros) (names : Texts) (s seen : Stream) (sets : Sets) (is : s ≡ seen) (held : AreIn (length s.sets) s.list) (grown : Extends s.sets sets) (below : NamesBelow (length names) s.sets → NamesBelow (length names) sets) (left counted : ℕ) (count_is : left ≡ counted) (texts : Texts) (keeps : KeepsNumbers names texts) (k : Knows names seen) where
  pub call_fails : (f : Refusal) (list : List HiddenToken) (after : ℕ) (behind : List Hidden) → PullsAs names sets (Err f) list after (pulled (record { macros = macros; texts = names }) (hidden_all names sets s.list ++ unhidden s.fresh) (ending_of s.end) left) → IsPulled (Err f) behind counted counted (pulled (record { macros = macros; texts = texts }) (list_left texts seen) (ending_of seen.end) counted)
  call_fails f list after behind p =
      let new : Stream = record { list = []; fresh = []; sets = sets; end = s.end; refused = None } in
      let knows : Knows names s = subst (Knows names) (sym is) k in
      subst (λ (z : Stream). IsPulled (Err f) behind counted counted (pulled (record { macros = macros; texts = texts }) (list_left texts z) (ending_of z.end) counted)) is
      (subst (λ n. IsPulled (Err f) behind n n (pulled (record { macros = macros; texts = texts }) (list_left texts s) (ending_of s.end) n)) count_is
      (err_pulled macros names s new knows held grown (below knows.names_below) refl (ending_of s.end) left after texts keeps f list behind p))

-- less work is left
pub size_falls : (left long after short : ℕ) → FallsTo left long after short → short < 2 ^ 63 → after * 2 ^ 66 + (short + 0) < left * 2 ^ 66 + long
size_falls left long after short f bound =
    ⊎_elim (λ (h : after < left). omega (arith, h, bound)) (λ (h : (after ≡ left) × (short < long)). omega (arith, h.0, h.1)) f
