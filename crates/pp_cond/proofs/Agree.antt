-- The reading with a stack gives the result of the definition's reading.
use Rattle.std.proofs.Common.{◌≡◌, ℕ, zero, suc, ◌+◌, ◌*◌, ◌≤◌, ◌<◌, Bool, true, false, Option, Some, None, List, [], ◌∷◌, length, refl, sym, ap, ◌∙◌, arith}
use Rattle.std.specs.Prelude.{codes, nat_le, nat_lt, ◌==◌, if◌then◌else◌}
use Rattle.std.specs.Map.{lookup}
use Rattle.std.specs.Str.{bytes_eq}
use Rattle.std.proofs.lemmas.Bool.Decides.{nat_tests}
use Rattle.phases.specs.Token.{Token}
use Rattle.macros.specs.Macro.{is_spelled}
use Rattle.pp_cond.specs.declared.operators.Operator.{Operator}
use Rattle.pp_cond.specs.declared.operators.Operator.TheVariants.{OrElse, AndThen, Two}
use Rattle.pp_cond.specs.declared.operators.PrefixOperator.{PrefixOperator}
use Rattle.pp_cond.specs.declared.operators.PrefixOperator.TheVariants.{Plus, Minus, Complement, Negation}
use Rattle.pp_cond.specs.declared.operators.Role.{Role}
use Rattle.pp_cond.specs.declared.operators.Role.TheVariants.{Infix, Question, Colon, Close, Nothing}
use Rattle.pp_cond.specs.Values.{Value, Condition, constant, prefix, choice, value_of}
use Rattle.pp_cond.specs.Condition.{Level, levels, prefixes, joined_by, token_value, Read, then_read, past, whole, level, further, operand, constant_read, choice_read, maybe_choice, maybe_further, parentheses_or_constant, prefixed_or_primary, read, all_read, condition_of, condition_truth}
use Rattle.pp_cond.specs.inside.Operands.{Known, known, known_value, known_constant, known_prefix, known_joined, known_choice}
use Rattle.pp_cond.specs.inside.Roles.{role_of, bound_of}
use Rattle.pp_cond.specs.inside.Reading.{Waits, open_parenthesis, sign, left, asked, otherwise, closes, combined, closed, constant_taken, primary_taken, prefix_taken, followed, behind_as, alone_in, then_run, run, start, truth_known}
use Rattle.pp_cond.proofs.Roles.{at_level, is_question, is_colon, is_close, is_low, Fits, levels_fit, facts}

-- ---- the type and value of a compound

of_prefix : (op : PrefixOperator) (a : Condition) → known_prefix op (known a) ≡ known (prefix op a)
unfolding value_of
of_prefix Plus a = refl
of_prefix Minus a = refl
of_prefix Complement a = refl
of_prefix Negation a = refl

of_joined : (op : Operator) (a b : Condition) → known_joined op (known a) (known b) ≡ known (joined_by op a b)
unfolding value_of
of_joined OrElse a b = refl
of_joined AndThen a b = refl
of_joined (Two op) a b = refl

of_choice : (c a b : Condition) → known_choice (known c) (known a) (known b) ≡ known (choice c a b)
unfolding value_of
of_choice c a b = refl

of_constant : (v : Value) → known_value v ≡ known (constant v)
unfolding value_of
of_constant v = refl

-- ---- the stack's reading

abbrev after : List Waits → Known → List Token → Option Known
after ws a xs = run xs (record { waiting = ws; operand = Some a })

abbrev expect : List Waits → List Token → Option Known
expect ws xs = run xs (record { waiting = ws; operand = None })

-- the bound of the first token, which ends an operand before it
abbrev bound_at : List Token → ℕ
bound_at [] = 11
bound_at (x ∷ xs) = bound_of (role_of x.spelling)

if_true : {A : Type 0} (b : Bool) (x y : A) → b ≡ true → (if b then x else y) ≡ x
if_true true x y e = refl
if_true false x y e = cc

if_false : {A : Type 0} (b : Bool) (x y : A) → b ≡ false → (if b then x else y) ≡ y
if_false true x y e = cc
if_false false x y e = refl

closed_first : (bound : ℕ) (w : Waits) (ws : List Waits) (a : Known) → closes bound w ≡ true → closed bound (w ∷ ws) a ≡ closed bound ws (combined w a)
closed_first bound w ws a e = if_true (closes bound w) (closed bound ws (combined w a)) (record { waiting = w ∷ ws; operand = a }) e

-- a waiting frame that the next token ends is ended
ends : (w : Waits) (ws : List Waits) (a : Known) (xs : List Token) → closes (bound_at xs) w ≡ true → after (w ∷ ws) a xs ≡ after ws (combined w a) xs
ends w ws a [] e = ap alone_in (closed_first 11 w ws a e)
ends w ws a (x ∷ xs) e =
    let r = role_of x.spelling in
    ap (λ c. then_run (followed r c) (λ t. run xs t)) (closed_first (bound_of r) w ws a e)

-- frames that operators below a level do not end
abbrev Keeps : ℕ → List Waits → Type 0
Keeps n [] = Unit {0}
Keeps n (w ∷ ws) = (k : ℕ) → k < n → closes k w ≡ false

fewer : (m n : ℕ) (ws : List Waits) → m ≤ n → Keeps n ws → Keeps m ws
fewer m n [] h k = tt
fewer m n (w ∷ ws) h k = λ i l. k i (omega arith)

keeps_all : (n k : ℕ) (ws : List Waits) (a : Known) → k < n → Keeps n ws → closed k ws a ≡ record { waiting = ws; operand = a }
keeps_all n k [] a l h = refl
keeps_all n k (w ∷ ws) a l h = if_false (closes k w) (closed k ws (combined w a)) (record { waiting = w ∷ ws; operand = a }) (h k l)

left_keeps : (k : ℕ) (op : Operator) (a : Known) (ws : List Waits) → Keeps k (left k op a ∷ ws)
left_keeps k op a ws i l = grind (arith, nat_tests)

otherwise_keeps : (c a : Known) (ws : List Waits) → Keeps 11 (otherwise c a ∷ ws)
otherwise_keeps c a ws i l = grind (arith, nat_tests)

-- ---- a reading of the definition, and then the stack's

abbrev then_known : Read → (Known → List Token → Option Known) → Option Known
then_known None go = None
then_known (Some r) go = go (known r.0) r.1

abbrev OnRead : (List Token → Type 0) → Read → Type 0
OnRead Q None = Unit {0}
OnRead Q (Some r) = Q r.1

on_then : (Q P : List Token → Type 0) (r : Read) (go : Condition → List Token → Read) → OnRead Q r → ((a : Condition) (rest : List Token) → Q rest → OnRead P (go a rest)) → OnRead P (then_read r go)
on_then Q P None go h k = tt
on_then Q P (Some r) go h k = k r.0 r.1 h

bind : (Q : List Token → Type 0) (r : Read) (go : Condition → List Token → Read) (f g : Known → List Token → Option Known) → OnRead Q r → ((a : Condition) (rest : List Token) → Q rest → f (known a) rest ≡ then_known (go a rest) g) → then_known r f ≡ then_known (then_read r go) g
bind Q None go f g h k = refl
bind Q (Some r) go f g h k = k r.0 r.1 h

-- ---- the rest after a reading: fewer tokens, and none that the reading would have taken

abbrev Rests : ℕ → ℕ → List Token → Type 0
Rests n bound rest = (length rest < n) × (bound ≤ bound_at rest)

weaker : (m n b c : ℕ) (r : Read) → m ≤ n → c ≤ b → OnRead (Rests m b) r → OnRead (Rests n c) r
weaker m n b c None l k h = tt
weaker m n b c (Some r) l k h = (omega (arith, h.0), omega (arith, h.1))

record Leaves (n : ℕ) : Type 0 where
  of_operand : (xs : List Token) → OnRead (Rests (length xs) 0) (read n operand xs)
  of_level : (ls : List Level) (xs : List Token) → Fits ls → OnRead (Rests (length xs) (length ls)) (read n (level ls) xs)
  of_further : (l : Level) (tighter : List Level) (a : Condition) (xs : List Token) → Fits (l ∷ tighter) → length tighter ≤ bound_at xs → OnRead (Rests (suc (length xs)) (suc (length tighter))) (read n (further l tighter a) xs)
  of_whole : (xs : List Token) → OnRead (Rests (length xs) 11) (read n whole xs)

leaves_none : Leaves zero
unfolding read
leaves_none = record { of_operand = λ xs. tt; of_level = λ ls xs f. tt; of_further = λ l tighter a xs f h. tt; of_whole = λ xs. tt }

-- after a token of this spelling
on_past : (P : List Token → Type 0) (text : List ℕ) (xs : List Token) (go : List Token → Read) → ((rest : List Token) → suc (length rest) ≤ length xs → OnRead P (go rest)) → OnRead P (past text xs go)
on_past P text [] go h = tt
on_past P text (x ∷ xs) go h = by (is_spelled text x)
  where
    by : (b : Bool) → OnRead P (if b then go xs else None)
    by true = h xs (omega arith)
    by false = tt

on_constant : (v : Option Value) (rest : List Token) → OnRead (Rests (suc (length rest)) 0) (constant_read v rest)
on_constant None rest = tt
on_constant (Some v) rest = (omega arith, omega arith)

leaves_parentheses : (n : ℕ) → Leaves n → (b : Bool) (x : Token) (rest : List Token) → OnRead (Rests (suc (length rest)) 0) (parentheses_or_constant b x rest (λ r. read n whole r))
leaves_parentheses n h true x rest =
    on_then (Rests (length rest) 11) (Rests (suc (length rest)) 0) (read n whole rest) (λ a r. past (codes ")") r (λ q. Some (a, q))) (h.of_whole rest)
    (λ a r k. on_past (Rests (suc (length rest)) 0) (codes ")") r (λ q. Some (a, q)) (λ q l. (omega (arith, k.0), omega arith)))
leaves_parentheses n h false x rest = on_constant (token_value x) rest

leaves_operand_by : (n : ℕ) → Leaves n → (o : Option PrefixOperator) (x : Token) (rest : List Token) → OnRead (Rests (suc (length rest)) 0) (prefixed_or_primary o x rest (λ r. read n operand r) (λ r. read n whole r))
leaves_operand_by n h (Some op) x rest =
    on_then (Rests (length rest) 0) (Rests (suc (length rest)) 0) (read n operand rest) (λ a r. Some (prefix op a, r)) (h.of_operand rest) (λ a r k. (omega (arith, k.0), omega arith))
leaves_operand_by n h None x rest = leaves_parentheses n h (is_spelled (codes "(") x) x rest

leaves_operand : (n : ℕ) → Leaves n → (xs : List Token) → OnRead (Rests (length xs) 0) (read (suc n) operand xs)
unfolding read
leaves_operand n h [] = tt
leaves_operand n h (x ∷ rest) = leaves_operand_by n h (lookup (bytes_eq x.spelling) prefixes) x rest

leaves_level : (n : ℕ) → Leaves n → (ls : List Level) (xs : List Token) → Fits ls → OnRead (Rests (length xs) (length ls)) (read (suc n) (level ls) xs)
unfolding read
leaves_level n h [] xs f = h.of_operand xs
leaves_level n h (l ∷ tighter) xs f =
    on_then (Rests (length xs) (length tighter)) (Rests (length xs) (suc (length tighter))) (read n (level tighter) xs) (λ a rest. read n (further l tighter a) rest) (h.of_level tighter xs f.2)
    (λ a rest k. weaker (suc (length rest)) (length xs) (suc (length tighter)) (suc (length tighter)) (read n (further l tighter a) rest) (omega (arith, k.0)) (omega arith) (h.of_further l tighter a rest f k.1))

-- a token that is no operator of a level, nor of the tighter ones, is looser
looser : (k : ℕ) (r : Role) → k ≤ 9 → k ≤ bound_of r → at_level k r ≡ None → suc k ≤ bound_of r
looser k (Infix j op) low h e = by (j == k) refl
  where
    by : (b : Bool) → (j == k) ≡ b → suc k ≤ j
    by true t = let g : Some op ≡ None = sym (ap (λ b. if b then Some op else None) t) ∙ e in absurd (grind arith)
    by false t = grind (arith, nat_tests)
looser k Question low h e = omega arith
looser k Colon low h e = omega arith
looser k Close low h e = omega arith
looser k Nothing low h e = omega arith

leaves_further_by : (n : ℕ) → Leaves n → (l : Level) (tighter : List Level) (a : Condition) (x : Token) (rest : List Token) → Fits (l ∷ tighter) → length tighter ≤ bound_of (role_of x.spelling)
    → (o : Option Operator) → o ≡ at_level (length tighter) (role_of x.spelling)
    → OnRead (Rests (suc (suc (length rest))) (suc (length tighter))) (maybe_further o a x rest (λ r. read n (level tighter) r) (λ b r. read n (further l tighter b) r))
leaves_further_by n h l tighter a x rest f low None e = (omega arith, looser (length tighter) (role_of x.spelling) f.0 low (sym e))
leaves_further_by n h l tighter a x rest f low (Some op) e =
    on_then (Rests (length rest) (length tighter)) (Rests (suc (suc (length rest))) (suc (length tighter))) (read n (level tighter) rest) (λ b r. read n (further l tighter (joined_by op a b)) r) (h.of_level tighter rest f.2)
    (λ b r k. weaker (suc (length r)) (suc (suc (length rest))) (suc (length tighter)) (suc (length tighter)) (read n (further l tighter (joined_by op a b)) r) (omega (arith, k.0)) (omega arith) (h.of_further l tighter (joined_by op a b) r f k.1))

leaves_further : (n : ℕ) → Leaves n → (l : Level) (tighter : List Level) (a : Condition) (xs : List Token) → Fits (l ∷ tighter) → length tighter ≤ bound_at xs → OnRead (Rests (suc (length xs)) (suc (length tighter))) (read (suc n) (further l tighter a) xs)
unfolding read
leaves_further n h l tighter a [] f low = (omega arith, omega (arith, f.0))
leaves_further n h l tighter a (x ∷ rest) f low = leaves_further_by n h l tighter a x rest f low (lookup (bytes_eq x.spelling) l) (f.1 x.spelling)

-- after all operators and `?` come only tokens that end a whole condition
whole_ends : (r : Role) → is_low r ≡ true → 10 ≤ bound_of r → is_question r ≡ false → 11 ≤ bound_of r
whole_ends (Infix j op) low h e = absurd (grind (arith, nat_tests))
whole_ends Question low h e = cc
whole_ends Colon low h e = omega arith
whole_ends Close low h e = omega arith
whole_ends Nothing low h e = omega arith

leaves_choice : (n : ℕ) → Leaves n → (c : Condition) (x : Token) (more : List Token) → 10 ≤ bound_of (role_of x.spelling) → (b : Bool) → b ≡ is_question (role_of x.spelling)
    → OnRead (Rests (suc (suc (length more))) 11) (choice_read b c x more (λ r. read n whole r))
leaves_choice n h c x more low false e = (omega arith, whole_ends (role_of x.spelling) (facts x.spelling).13 low (sym e))
leaves_choice n h c x more low true e =
    on_then (Rests (length more) 11) (Rests (suc (suc (length more))) 11) (read n whole more) _ (h.of_whole more)
    (λ a r k. on_past (Rests (suc (suc (length more))) 11) (codes ":") r _ (λ q l.
    on_then (Rests (length q) 11) (Rests (suc (suc (length more))) 11) (read n whole q) (λ b s. Some (choice c a b, s)) (h.of_whole q)
    (λ b s m. (omega (arith, k.0, m.0), m.1))))

leaves_maybe : (n : ℕ) → Leaves n → (c : Condition) (xs : List Token) → 10 ≤ bound_at xs → OnRead (Rests (suc (length xs)) 11) (maybe_choice c xs (λ r. read n whole r))
leaves_maybe n h c [] low = (omega arith, omega arith)
leaves_maybe n h c (x ∷ more) low = leaves_choice n h c x more low (is_spelled (codes "?") x) (facts x.spelling).10

leaves_whole : (n : ℕ) → Leaves n → (xs : List Token) → OnRead (Rests (length xs) 11) (read (suc n) whole xs)
unfolding read
leaves_whole n h xs =
    on_then (Rests (length xs) 10) (Rests (length xs) 11) (read n (level levels) xs) (λ c rest. maybe_choice c rest (λ more. read n whole more)) (h.of_level levels xs levels_fit)
    (λ c rest k. weaker (suc (length rest)) (length xs) 11 11 (maybe_choice c rest (λ more. read n whole more)) (omega (arith, k.0)) (omega arith) (leaves_maybe n h c rest k.1))

leaves : (n : ℕ) → Leaves n
leaves zero = leaves_none
leaves (suc n) =
    let h = leaves n in
    record { of_operand = leaves_operand n h; of_level = leaves_level n h; of_further = leaves_further n h; of_whole = leaves_whole n h }

-- ---- the stack agrees, where the number of calls is enough

record Agrees (n : ℕ) : Type 0 where
  on_operand : (xs : List Token) (ws : List Waits) → 16 * length xs + 1 ≤ n → expect ws xs ≡ then_known (read n operand xs) (after ws)
  on_level : (ls : List Level) (xs : List Token) (ws : List Waits) → Fits ls → Keeps (length ls) ws → 16 * length xs + length ls + 2 ≤ n → expect ws xs ≡ then_known (read n (level ls) xs) (after ws)
  on_further : (l : Level) (tighter : List Level) (a : Condition) (xs : List Token) (ws : List Waits) → Fits (l ∷ tighter) → Keeps (suc (length tighter)) ws → length tighter ≤ bound_at xs → 16 * length xs + 1 ≤ n → after ws (known a) xs ≡ then_known (read n (further l tighter a) xs) (after ws)
  on_whole : (xs : List Token) (ws : List Waits) → Keeps 11 ws → 16 * length xs + 13 ≤ n → expect ws xs ≡ then_known (read n whole xs) (after ws)

agrees_none : Agrees zero
agrees_none = record {
  on_operand = λ xs ws h. absurd (omega arith);
  on_level = λ ls xs ws f k h. absurd (omega arith);
  on_further = λ l tighter a xs ws f k b h. absurd (omega arith);
  on_whole = λ xs ws k h. absurd (omega arith);
}

-- a parenthesis is closed by `)` alone
closes_as : (r : Role) (b : Bool) (a : Condition) (q : List Token) (ws : List Waits) → 11 ≤ bound_of r → is_low r ≡ true → b ≡ is_close r
    → then_run (behind_as r (open_parenthesis ∷ ws) (known a)) (λ t. run q t) ≡ then_known (if b then Some (a, q) else None) (after ws)
closes_as (Infix j op) b a q ws h low e = absurd (grind (arith, nat_tests))
closes_as Question b a q ws h low e = absurd (omega arith)
closes_as Colon true a q ws h low e = cc
closes_as Colon false a q ws h low e = refl
closes_as Close true a q ws h low e = refl
closes_as Close false a q ws h low e = cc
closes_as Nothing true a q ws h low e = cc
closes_as Nothing false a q ws h low e = refl

parenthesis_ends : (a : Condition) (r : List Token) (ws : List Waits) → 11 ≤ bound_at r → after (open_parenthesis ∷ ws) (known a) r ≡ then_known (past (codes ")") r (λ q. Some (a, q))) (after ws)
parenthesis_ends a [] ws h = refl
parenthesis_ends a (x ∷ q) ws h = closes_as (role_of x.spelling) (is_spelled (codes ")") x) a q ws h (facts x.spelling).13 (facts x.spelling).12

constant_agrees : (v : Option Value) (rest : List Token) (ws : List Waits) → then_run (constant_taken ws (known_constant v)) (λ t. run rest t) ≡ then_known (constant_read v rest) (after ws)
constant_agrees None rest ws = refl
constant_agrees (Some v) rest ws = ap (λ k. after ws k rest) (of_constant v)

primary_agrees : (n : ℕ) → Agrees n → (b : Bool) (x : Token) (rest : List Token) (ws : List Waits) → 16 * length rest + 13 ≤ n
    → then_run (primary_taken ws b (known_constant (token_value x))) (λ t. run rest t) ≡ then_known (parentheses_or_constant b x rest (λ r. read n whole r)) (after ws)
primary_agrees n g true x rest ws l =
    let inner = g.on_whole rest (open_parenthesis ∷ ws) (λ k m. refl) l in
    inner ∙ bind (Rests (length rest) 11) (read n whole rest) (λ a r. past (codes ")") r (λ q. Some (a, q))) (after (open_parenthesis ∷ ws)) (after ws) ((leaves n).of_whole rest) (λ a r k. parenthesis_ends a r ws k.1)
primary_agrees n g false x rest ws l = constant_agrees (token_value x) rest ws

operand_by : (n : ℕ) → Agrees n → (o : Option PrefixOperator) (x : Token) (rest : List Token) (ws : List Waits) → 16 * length rest + 13 ≤ n
    → then_run (prefix_taken ws o (is_spelled (codes "(") x) (known_constant (token_value x))) (λ t. run rest t) ≡ then_known (prefixed_or_primary o x rest (λ r. read n operand r) (λ r. read n whole r)) (after ws)
operand_by n g (Some op) x rest ws l =
    let inner = g.on_operand rest (sign op ∷ ws) (omega arith) in
    inner ∙ bind (Rests (length rest) 0) (read n operand rest) (λ a r. Some (prefix op a, r)) (after (sign op ∷ ws)) (after ws) ((leaves n).of_operand rest)
    (λ a r k. ends (sign op) ws (known a) r refl ∙ ap (λ v. after ws v r) (of_prefix op a))
operand_by n g None x rest ws l = primary_agrees n g (is_spelled (codes "(") x) x rest ws l

agrees_operand : (n : ℕ) → Agrees n → (xs : List Token) (ws : List Waits) → 16 * length xs + 1 ≤ suc n → expect ws xs ≡ then_known (read (suc n) operand xs) (after ws)
unfolding read
agrees_operand n g [] ws l = refl
agrees_operand n g (x ∷ rest) ws l = operand_by n g (lookup (bytes_eq x.spelling) prefixes) x rest ws (omega arith)

agrees_level : (n : ℕ) → Agrees n → (ls : List Level) (xs : List Token) (ws : List Waits) → Fits ls → Keeps (length ls) ws → 16 * length xs + length ls + 2 ≤ suc n → expect ws xs ≡ then_known (read (suc n) (level ls) xs) (after ws)
unfolding read
agrees_level n g [] xs ws f k l = g.on_operand xs ws (omega arith)
agrees_level n g (m ∷ tighter) xs ws f k l =
    g.on_level tighter xs ws f.2 (fewer (length tighter) (suc (length tighter)) ws (omega arith) k) (omega arith)
    ∙ bind (Rests (length xs) (length tighter)) (read n (level tighter) xs) (λ a rest. read n (further m tighter a) rest) (after ws) (after ws) ((leaves n).of_level tighter xs f.2)
    (λ a rest q. g.on_further m tighter a rest ws f k q.1 (omega (arith, q.0)))

-- an operator of the level is followed by its right operand; anything else ends the level
further_as : (n : ℕ) → Agrees n → (l : Level) (tighter : List Level) (a : Condition) (x : Token) (rest : List Token) (ws : List Waits) → Fits (l ∷ tighter) → Keeps (suc (length tighter)) ws → 16 * length rest + 16 ≤ n
    → (r : Role) → r ≡ role_of x.spelling → (o : Option Operator) → o ≡ at_level (length tighter) r
    → then_run (behind_as r ws (known a)) (λ t. run rest t) ≡ then_known (maybe_further o a x rest (λ q. read n (level tighter) q) (λ b q. read n (further l tighter b) q)) (after ws)
further_as n g l tighter a x rest ws f k m r e None h = ap (λ s. then_run (behind_as s ws (known a)) (λ t. run rest t)) e
further_as n g l tighter a x rest ws f k m (Infix j op) e (Some p) h = by (j == length tighter) refl
  where
    kept : closed (length tighter) ws (known a) ≡ record { waiting = ws; operand = known a }
    kept = keeps_all (suc (length tighter)) (length tighter) ws (known a) (omega arith) k

    next : (b : Condition) (q : List Token) → Rests (length rest) (length tighter) q → after (left (length tighter) p (known a) ∷ ws) (known b) q ≡ then_known (read n (further l tighter (joined_by p a b)) q) (after ws)
    next b q d =
        let top : nat_le (length tighter) (bound_at q) ≡ true = grind (arith, nat_tests, d.1) in
        ends (left (length tighter) p (known a)) ws (known b) q top ∙ ap (λ v. after ws v q) (of_joined p a b) ∙ g.on_further l tighter (joined_by p a b) q ws f k d.1 (omega (arith, d.0))

    shifted : expect (left (length tighter) p (known a) ∷ ws) rest ≡ then_known (then_read (read n (level tighter) rest) (λ b q. read n (further l tighter (joined_by p a b)) q)) (after ws)
    shifted =
        g.on_level tighter rest (left (length tighter) p (known a) ∷ ws) f.2 (left_keeps (length tighter) p (known a) ws) (omega (arith, f.0))
        ∙ bind (Rests (length rest) (length tighter)) (read n (level tighter) rest) (λ b q. read n (further l tighter (joined_by p a b)) q) (after (left (length tighter) p (known a) ∷ ws)) (after ws) ((leaves n).of_level tighter rest f.2) next

    by : (b : Bool) → (j == length tighter) ≡ b → then_run (behind_as (Infix j op) ws (known a)) (λ t. run rest t) ≡ then_known (then_read (read n (level tighter) rest) (λ b q. read n (further l tighter (joined_by p a b)) q)) (after ws)
    by true t =
        let same : Some p ≡ Some op = h ∙ ap (λ b. if b then Some op else None) t in
        let op_is : op ≡ p = cc in
        let j_is : j ≡ length tighter = grind (arith, nat_tests) in
        ap (λ i. then_run (behind_as (Infix i op) ws (known a)) (λ t. run rest t)) j_is
        ∙ ap (λ c. then_run (followed (Infix (length tighter) op) c) (λ t. run rest t)) kept
        ∙ ap (λ o. expect (left (length tighter) o (known a) ∷ ws) rest) op_is ∙ shifted
    by false t =
        let none : Some p ≡ None = h ∙ ap (λ b. if b then Some op else None) t in
        cc
further_as n g l tighter a x rest ws f k m Question e (Some p) h = cc
further_as n g l tighter a x rest ws f k m Colon e (Some p) h = cc
further_as n g l tighter a x rest ws f k m Close e (Some p) h = cc
further_as n g l tighter a x rest ws f k m Nothing e (Some p) h = cc

agrees_further : (n : ℕ) → Agrees n → (l : Level) (tighter : List Level) (a : Condition) (xs : List Token) (ws : List Waits) → Fits (l ∷ tighter) → Keeps (suc (length tighter)) ws → length tighter ≤ bound_at xs → 16 * length xs + 1 ≤ suc n → after ws (known a) xs ≡ then_known (read (suc n) (further l tighter a) xs) (after ws)
unfolding read
agrees_further n g l tighter a [] ws f k b m = refl
agrees_further n g l tighter a (x ∷ rest) ws f k b m = further_as n g l tighter a x rest ws f k (omega arith) (role_of x.spelling) refl (lookup (bytes_eq x.spelling) l) (f.1 x.spelling)

-- after `?` and its operand follows `:`, and then the last operand
separates_as : (n : ℕ) → Agrees n → (r : Role) (b : Bool) (c a : Condition) (q : List Token) (ws : List Waits) → 11 ≤ bound_of r → is_low r ≡ true → b ≡ is_colon r → 16 * length q + 13 ≤ n
    → then_run (behind_as r (asked (known c) ∷ ws) (known a)) (λ t. run q t) ≡ then_known (if b then then_read (read n whole q) (λ d s. Some (choice c a d, s)) else None) (after ws)
separates_as n g (Infix j op) b c a q ws h low e m = absurd (grind (arith, nat_tests))
separates_as n g Question b c a q ws h low e m = absurd (omega arith)
separates_as n g Colon true c a q ws h low e m =
    g.on_whole q (otherwise (known c) (known a) ∷ ws) (otherwise_keeps (known c) (known a) ws) m
    ∙ bind (Rests (length q) 11) (read n whole q) (λ d s. Some (choice c a d, s)) (after (otherwise (known c) (known a) ∷ ws)) (after ws) ((leaves n).of_whole q)
    (λ d s k. ends (otherwise (known c) (known a)) ws (known d) s (let top : nat_lt 10 (bound_at s) ≡ true = grind (arith, nat_tests, k.1) in top) ∙ ap (λ v. after ws v s) (of_choice c a d))
separates_as n g Colon false c a q ws h low e m = cc
separates_as n g Close true c a q ws h low e m = cc
separates_as n g Close false c a q ws h low e m = refl
separates_as n g Nothing true c a q ws h low e m = cc
separates_as n g Nothing false c a q ws h low e m = refl

separates : (n : ℕ) → Agrees n → (c a : Condition) (r : List Token) (ws : List Waits) → 11 ≤ bound_at r → 16 * length r ≤ n
    → after (asked (known c) ∷ ws) (known a) r ≡ then_known (past (codes ":") r (λ q. then_read (read n whole q) (λ d s. Some (choice c a d, s)))) (after ws)
separates n g c a [] ws h m = refl
separates n g c a (x ∷ q) ws h m = separates_as n g (role_of x.spelling) (is_spelled (codes ":") x) c a q ws h (facts x.spelling).13 (facts x.spelling).11 (omega arith)

choice_as : (n : ℕ) → Agrees n → (r : Role) (b : Bool) (c : Condition) (x : Token) (more : List Token) (ws : List Waits) → r ≡ role_of x.spelling → b ≡ is_question r → Keeps 11 ws → 16 * length more + 13 ≤ n
    → then_run (behind_as r ws (known c)) (λ t. run more t) ≡ then_known (choice_read b c x more (λ q. read n whole q)) (after ws)
choice_as n g r false c x more ws e h k m = ap (λ s. then_run (behind_as s ws (known c)) (λ t. run more t)) e
choice_as n g Question true c x more ws e h k m =
    ap (λ d. then_run (followed Question d) (λ t. run more t)) (keeps_all 11 10 ws (known c) (omega arith) k)
    ∙ g.on_whole more (asked (known c) ∷ ws) (λ i l. refl) m
    ∙ bind (Rests (length more) 11) (read n whole more) (λ a rest. past (codes ":") rest (λ q. then_read (read n whole q) (λ d s. Some (choice c a d, s)))) (after (asked (known c) ∷ ws)) (after ws) ((leaves n).of_whole more)
    (λ a rest q. separates n g c a rest ws q.1 (omega (arith, q.0)))
choice_as n g (Infix j op) true c x more ws e h k m = cc
choice_as n g Colon true c x more ws e h k m = cc
choice_as n g Close true c x more ws e h k m = cc
choice_as n g Nothing true c x more ws e h k m = cc

maybe_agrees : (n : ℕ) → Agrees n → (c : Condition) (xs : List Token) (ws : List Waits) → Keeps 11 ws → 16 * length xs ≤ n → after ws (known c) xs ≡ then_known (maybe_choice c xs (λ q. read n whole q)) (after ws)
maybe_agrees n g c [] ws k m = refl
maybe_agrees n g c (x ∷ more) ws k m = choice_as n g (role_of x.spelling) (is_spelled (codes "?") x) c x more ws refl (facts x.spelling).10 k (omega arith)

agrees_whole : (n : ℕ) → Agrees n → (xs : List Token) (ws : List Waits) → Keeps 11 ws → 16 * length xs + 13 ≤ suc n → expect ws xs ≡ then_known (read (suc n) whole xs) (after ws)
unfolding read
agrees_whole n g xs ws k l =
    g.on_level levels xs ws levels_fit (fewer 10 11 ws (omega arith) k) (omega arith)
    ∙ bind (Rests (length xs) 10) (read n (level levels) xs) (λ c rest. maybe_choice c rest (λ more. read n whole more)) (after ws) (after ws) ((leaves n).of_level levels xs levels_fit)
    (λ c rest q. maybe_agrees n g c rest ws k (omega (arith, q.0)))

agrees : (n : ℕ) → Agrees n
agrees zero = agrees_none
agrees (suc n) =
    let g = agrees n in
    record { on_operand = agrees_operand n g; on_level = agrees_level n g; on_further = agrees_further n g; on_whole = agrees_whole n g }

-- ---- the whole list

abbrev known_condition : Option Condition → Option Known
known_condition None = None
known_condition (Some c) = Some (known c)

ends_as : (r : Role) (a : Known) (q : List Token) → 11 ≤ bound_of r → is_low r ≡ true → then_run (behind_as r [] a) (λ t. run q t) ≡ None
ends_as (Infix j op) a q h low = absurd (grind (arith, nat_tests))
ends_as Question a q h low = absurd (omega arith)
ends_as Colon a q h low = refl
ends_as Close a q h low = refl
ends_as Nothing a q h low = refl

all_of : (a : Condition) (rest : List Token) → 11 ≤ bound_at rest → after [] (known a) rest ≡ known_condition (all_read (Some (a, rest)))
all_of a [] h = refl
all_of a (x ∷ q) h = ends_as (role_of x.spelling) (known a) q h (facts x.spelling).13

all_agrees : (r : Read) → OnRead (λ rest. 11 ≤ bound_at rest) r → then_known r (after []) ≡ known_condition (all_read r)
all_agrees None h = refl
all_agrees (Some r) h = all_of r.0 r.1 h

bound_alone : (n : ℕ) (r : Read) → OnRead (Rests n 11) r → OnRead (λ rest. 11 ≤ bound_at rest) r
bound_alone n None h = tt
bound_alone n (Some r) h = h.1

pub run_is : (xs : List Token) → run xs start ≡ known_condition (condition_of xs)
run_is xs =
    let n = 16 * (length xs + 1) in
    (agrees n).on_whole xs [] tt (omega arith) ∙ all_agrees (read n whole xs) (bound_alone (length xs) (read n whole xs) ((leaves n).of_whole xs))

truth_is : (o : Option Condition) → truth_known (known_condition o) ≡ condition_truth o
truth_is None = refl
truth_is (Some c) = refl

-- the stack's reading is the definition's result
pub truth_of_run : (xs : List Token) → truth_known (run xs start) ≡ condition_truth (condition_of xs)
truth_of_run xs = ap truth_known (run_is xs) ∙ truth_is (condition_of xs)
