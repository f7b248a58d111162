-- The tokens of a stream, collected.
use Rattle.std.proofs.Common.{◌≡◌, ◌⊎◌, inl, inr, ℕ, List, [], ◌∷◌, ◌++◌, true, Option, Some, None, Ok, Err, refl, sym, ap, ◌∙◌}
use Rattle.std.specs.Prelude.{is_some}
use Rattle.srcset.specs.declared.refusal.Refusal.{Refusal}
use Rattle.srcset.specs.declared.refusal.Refusal.TheVariants.{Memory, At, Told}
use Rattle.srcset.specs.Files.{Files}
use Rattle.srcset.specs.NameTable.{Texts}
use Rattle.phases.specs.Token.{Token}
use Rattle.pp.specs.declared.stream.Pp.{Pp}
use Rattle.pp.specs.Phase4.{Fault, Phase4, phase4}
use Rattle.pp.specs.Preprocessed.{IsDone, IsRefused}
use Rattle.pp.specs.Stream.{IsRest, IsNext}
use Rattle.pp.specs.inside.Reading.{Collects}
use Rattle.pp.proofs.StateLemmas.{true-false}

pub collect_first : (names texts : Texts) (pp : Pp) (list : List Token) (whole : Phase4) → list ≡ [] → IsRest names texts pp whole → Collects names texts pp list whole
collect_first names texts pp list whole e r = record { rest = whole; is_rest = r; fault_is = refl; tokens_are = inl (ap (λ l. l ++ whole.tokens) (sym e)) }

append_one : (xs ys : List Token) (x : Token) → xs ++ x ∷ ys ≡ (xs ++ x ∷ []) ++ ys
append_one [] ys x = refl
append_one (y ∷ xs) ys x = ap (λ l. y ∷ l) (append_one xs ys x)

one_more : (list more tokens all : List Token) (x : Token) (fault : Type 0) → tokens ≡ x ∷ more → (all ≡ list ++ tokens) ⊎ fault → (all ≡ (list ++ x ∷ []) ++ more) ⊎ fault
one_more list more tokens all x fault e (inl h) = inl (h ∙ ap (λ l. list ++ l) e ∙ append_one list more x)
one_more list more tokens all x fault e (inr f) = inr f

-- a token more
pub collect_next : (names after texts : Texts) (pp new : Pp) (list longer : List Token) (x : Token) (whole : Phase4) (c : Collects names texts pp list whole)
    → IsNext (Ok (Some x)) after texts new c.rest → longer ≡ list ++ x ∷ [] → Collects after texts new longer whole
collect_next names after texts pp new list longer x whole c (inl n) e = record {
  rest = record { tokens = n.0; fault = c.rest.fault };
  is_rest = n.2;
  fault_is = c.fault_is;
  tokens_are = one_more_in (one_more list n.0 c.rest.tokens whole.tokens x (is_some c.rest.fault ≡ true) n.1 c.tokens_are);
}
  where
    one_more_in : (whole.tokens ≡ (list ++ x ∷ []) ++ n.0) ⊎ (is_some c.rest.fault ≡ true) → (whole.tokens ≡ longer ++ n.0) ⊎ (is_some c.rest.fault ≡ true)
    one_more_in (inl h) = inl (h ∙ ap (λ l. l ++ n.0) (sym e))
    one_more_in (inr f) = inr f
collect_next names after texts pp new list longer x whole c (inr n) e = record { rest = c.rest; is_rest = n.2; fault_is = c.fault_is; tokens_are = inr n.1 }

append_nothing : (xs : List Token) → xs ++ [] ≡ xs
append_nothing [] = refl
append_nothing (x ∷ xs) = ap (λ l. x ∷ l) (append_nothing xs)

all_collected : (list : List Token) (whole rest : Phase4) → rest ≡ record { tokens = []; fault = None } → (whole.tokens ≡ list ++ rest.tokens) ⊎ (is_some rest.fault ≡ true) → whole.tokens ≡ list
all_collected list whole rest e (inl h) = h ∙ ap (λ (p : Phase4). list ++ p.tokens) e ∙ append_nothing list
all_collected list whole rest e (inr f) = absurd (true-false (sym f ∙ ap (λ (p : Phase4). is_some p.fault) e))

-- the end
pub collect_done : (files : Files) (names after texts : Texts) (main : List ℕ) (pp new : Pp) (list : List Token) (c : Collects names texts pp list (phase4 files texts main))
    → IsNext (Ok None) after texts new c.rest → IsDone files texts main list
collect_done files names after texts main pp new list c n =
    let whole = phase4 files texts main in
    record {
      done = ap (λ (l : List Token). record { tokens = l; fault = whole.fault }) (all_collected list whole c.rest n.0 c.tokens_are)
          ∙ ap (λ (f : Option Fault). record { tokens = list; fault = f }) (c.fault_is ∙ ap (λ (p : Phase4). p.fault) n.0);
    }

pub collect_refused : (r : Refusal) (files : Files) (names after texts : Texts) (main : List ℕ) (pp new : Pp) (list : List Token) (c : Collects names texts pp list (phase4 files texts main))
    → IsNext (Err r) after texts new c.rest → IsRefused files texts main r
collect_refused Memory files names after texts main pp new list c n = tt
collect_refused (At k at) files names after texts main pp new list c n = record { stops = c.fault_is ∙ ap (λ (p : Phase4). p.fault) n.0 }
collect_refused (Told k at t) files names after texts main pp new list c n = record { stops = c.fault_is ∙ ap (λ (p : Phase4). p.fault) n.0 }
