-- No front that is longer than the token found is a token.
use Rattle.std.proofs.Common.{◌≡◌, ℕ, ◌≤◌, ◌<◌, eqb, leb, Bool, true, false, List, [], ◌∷◌, length, take, refl, sym, subst, arith, inl, inr}
use Rattle.std.proofs.lemmas.Bool.{cases_Bool, leb-true, leb-false, eqb-true, or_from}
use Rattle.phases.specs.declared.token.Kind.{Kind}
use Rattle.phases.specs.declared.token.Place.{Place}
use Rattle.phases.specs.declared.token.Place.TheVariants.{Start, AfterHash, AfterInclude, Elsewhere}
use Rattle.phases.specs.inside.Lexical.{character_len, string_len, name_len, number_len, punctuator_len, enclosed, header_len, header_or, plain_token}
use Rattle.phases.specs.inside.Grammar.{is_header, IsNoToken, IsLongest}
use Rattle.phases.proofs.LongestLemmas.{name_longest, number_longest, punctuator_longest, enclosed_longest}
use Rattle.phases.proofs.PrefixLemmas.{character_longest, string_longest}
use Rattle.phases.proofs.DominanceLemmas.{Within, plain_most}

no_token : (place : Place) (bs : List ℕ) (k m : ℕ) → Within (character_len bs) (string_len bs) (name_len bs) (number_len bs) (punctuator_len bs) k → k < m → m ≤ length bs → (place ≡ AfterInclude → is_header (take m bs) ≡ false) → IsNoToken place (take m bs)
no_token place bs k m w h l f = record {
  no_identifier = name_longest bs m (let x = w.name in omega arith) l;
  no_number = number_longest bs m (let x = w.number in omega arith) l;
  no_character = character_longest bs m (let x = w.character in omega arith) l;
  no_string = string_longest bs m (let x = w.string in omega arith) l;
  no_punctuator = punctuator_longest bs m (let x = w.punctuator in omega arith) l;
  no_header = f;
}

angle_header : (t : Bool) (b : ℕ) (bs : List ℕ) → eqb b 60 ≡ t → (enclosed 60 62 1 false (b ∷ bs) ≤ header_len (b ∷ bs)) × (enclosed 34 34 1 false (b ∷ bs) ≤ header_len (b ∷ bs))
angle_header true b bs e =
    let x = eqb-true b 60 e in
    subst (λ y. (enclosed 60 62 1 false (y ∷ bs) ≤ header_len (y ∷ bs)) × (enclosed 34 34 1 false (y ∷ bs) ≤ header_len (y ∷ bs))) (sym x) (omega arith, omega arith)
angle_header false b bs e =
    let x : enclosed 60 62 1 false (b ∷ bs) ≡ 0 = rw e refl in
    let y : header_len (b ∷ bs) ≡ enclosed 34 34 1 false (b ∷ bs) = rw e refl in
    (omega (arith, x), omega (arith, y))

pub header_longest : (bs : List ℕ) (m : ℕ) → header_len bs < m → m ≤ length bs → is_header (take m bs) ≡ false
header_longest [] m h l = absurd (omega arith)
header_longest (b ∷ bs) m h l =
    let w = angle_header (eqb b 60) b bs refl in
    or_from _ _ (enclosed_longest 60 62 1 false (b ∷ bs) m (λ p. let x = w.0 in omega arith) l) (enclosed_longest 34 34 1 false (b ∷ bs) m (λ p. let x = w.1 in omega arith) l)

header_least : (n : ℕ) (t : Kind × ℕ) → (n ≤ (header_or n t).1) × (t.1 ≤ (header_or n t).1)
header_least n t =
    elim (cases_Bool (leb t.1 n)) [ inl e ↦ (let x : (header_or n t).1 ≡ n = rw e refl in let y = leb-true t.1 n e in (omega (arith, x), omega (arith, x, y))) | inr e ↦ (let x : (header_or n t).1 ≡ t.1 = rw e refl in let y = leb-false t.1 n e in (omega (arith, x, y), omega (arith, x))) ]

wider : (c s n d p k j : ℕ) → Within c s n d p k → k ≤ j → Within c s n d p j
wider c s n d p k j w h =
    let x = w.character in let y = w.string in let z = w.name in let u = w.number in let v = w.punctuator in
    record { character = omega arith; string = omega arith; name = omega arith; number = omega arith; punctuator = omega arith }

pub front_longest : (place : Place) (bs : List ℕ) → IsLongest place bs
front_longest Start bs m h l = no_token Start bs (plain_token bs).1 m (plain_most bs) h l (λ e. absurd (cc))
front_longest AfterHash bs m h l = no_token AfterHash bs (plain_token bs).1 m (plain_most bs) h l (λ e. absurd (cc))
front_longest Elsewhere bs m h l = no_token Elsewhere bs (plain_token bs).1 m (plain_most bs) h l (λ e. absurd (cc))
front_longest AfterInclude bs m h l =
    let g = header_least (header_len bs) (plain_token bs) in
    let k = (header_or (header_len bs) (plain_token bs)).1 in
    no_token AfterInclude bs k m (wider _ _ _ _ _ (plain_token bs).1 k (plain_most bs) g.1) h l (λ e. header_longest bs m (let x = g.0 in omega arith) l)
