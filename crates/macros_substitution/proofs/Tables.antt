-- Laws of the table of hide sets.
use Rattle.std.proofs.Common.{◌≡◌, ℕ, zero, suc, ◌+◌, ◌<◌, ◌≤◌, List, [], ◌∷◌, ◌++◌, Option, Some, None, length, slice_get, refl, sym, ap, ◌∙◌, Bool, true, false, nat_eq, ◌==◌, ◌&&◌, ◌||◌, if◌then◌else◌, ◌⊎◌, inl, inr, ◌-◌, not, subst, arith, length-append, append_assoc, append-nil}
use Rattle.std.proofs.lemmas.Bool.{eqb-true, eq-eqb}
use Rattle.std.proofs.lemmas.Option.{slice_get_within}
use Rattle.macros_substitution.specs.declared.hide_sets.Node.{Node}
use Rattle.std.specs.List.{list_any, filter}
use Rattle.macros_substitution.specs.HideSets.{Sets, list_or_none, members, is_new, united, Extends, AreBelow, NamesBelow}
use Rattle.macros_substitution.specs.inside.Both.{Holds}
use Rattle.macros_substitution.specs.inside.Nodes.{with_node, with_nodes, sets_of, Ordered, FirstIs}

-- a list stays at the front of a longer one
pub slice_get_front : {X : Type 0} (xs ys : List X) (n : ℕ) → n < length xs → slice_get (xs ++ ys) n ≡ slice_get xs n
slice_get_front [] ys n h = absurd (omega arith)
slice_get_front (x ∷ xs) ys zero h = refl
slice_get_front (x ∷ xs) ys (suc n) h = slice_get_front xs ys n (omega arith)

pub slice_get_behind : {X : Type 0} (xs : List X) (y : X) → slice_get (xs ++ y ∷ []) (length xs) ≡ Some y
slice_get_behind [] y = refl
slice_get_behind (x ∷ xs) y = slice_get_behind xs y

pub slice_get_past : {X : Type 0} (xs : List X) (n : ℕ) → length xs ≤ n → slice_get xs n ≡ None
slice_get_past [] n h = refl
slice_get_past (x ∷ xs) zero h = absurd (omega arith)
slice_get_past (x ∷ xs) (suc n) h = slice_get_past xs n (omega arith)

-- a table that begins as another does
pub members_front : (sets more : Sets) (n : ℕ) → n ≤ length sets → members (sets ++ more) n ≡ members sets n
members_front sets more zero h = refl
members_front sets more (suc n) h = ap list_or_none (slice_get_front sets more n (omega arith))

pub extends_append : (sets more : Sets) → Extends sets (sets ++ more)
extends_append sets more = record { longer = omega (arith, length-append sets more); same = λ n h. members_front sets more n h }

pub extends_same : (sets : Sets) → Extends sets sets
extends_same sets = record { longer = omega arith; same = λ n h. refl }

pub extends_both : (a b c : Sets) → Extends a b → Extends b c → Extends a c
extends_both a b c p q = record {
  longer = omega arith;
  same = λ n h. q.same n (omega arith) ∙ p.same n h;
}

pub extends_nodes : (sets : Sets) (nodes : List Node) → Extends sets (with_nodes sets nodes)
extends_nodes sets [] = extends_same sets
extends_nodes sets (node ∷ nodes) =
    extends_both _ _ _ (extends_append sets _) (extends_nodes (with_node sets node) nodes)

pub with_node-length : (sets : Sets) (node : Node) → length (with_node sets node) ≡ length sets + 1
with_node-length sets node = omega (arith, length-append sets ((node.name ∷ members sets node.parent) ∷ []))

pub with_nodes-length : (sets : Sets) (nodes : List Node) → length (with_nodes sets nodes) ≡ length sets + length nodes
with_nodes-length sets [] = omega arith
with_nodes-length sets (node ∷ nodes) = omega (arith, with_nodes-length (with_node sets node) nodes, with_node-length sets node)

pub with_nodes-append : (sets : Sets) (nodes : List Node) (node : Node) → with_nodes sets (nodes ++ node ∷ []) ≡ with_node (with_nodes sets nodes) node
with_nodes-append sets [] node = refl
with_nodes-append sets (n ∷ nodes) node = with_nodes-append (with_node sets n) nodes node

-- the set of a node that is the last one so far
pub members_last : (sets : Sets) (node : Node) → members (with_node sets node) (suc (length sets)) ≡ node.name ∷ members sets node.parent
members_last sets node = ap list_or_none (slice_get_behind sets (node.name ∷ members sets node.parent))

-- the set of each node
pub members_at : (sets : Sets) (nodes : List Node) (n : ℕ) (node : Node) → slice_get nodes n ≡ Some node → node.parent ≤ length sets + n
    → members (with_nodes sets nodes) (suc (length sets + n)) ≡ node.name ∷ members (with_nodes sets nodes) node.parent
members_at sets [] n node e h = absurd (cc)
members_at sets (x ∷ nodes) zero node e h =
    let same : x ≡ node = cc in
    let grown = extends_nodes (with_node sets x) nodes in
    let k : length sets + 0 ≡ length sets = omega arith in
    let more = extends_nodes sets (x ∷ nodes) in
    let p : node.parent ≤ length sets = omega arith in
    rw k (grown.same (suc (length sets)) (omega (arith, with_node-length sets x)) ∙ members_last sets x ∙ ap (λ m. m.name ∷ members sets m.parent) same ∙ ap (λ t. node.name ∷ t) (sym (more.same node.parent p)))
members_at sets (x ∷ nodes) (suc n) node e h =
    let k : length sets + suc n ≡ length (with_node sets x) + n = omega (arith, with_node-length sets x) in
    rw k (members_at (with_node sets x) nodes n node e (omega arith))

pub sets_of-length : (nodes : List Node) → length (sets_of nodes) ≡ length nodes
sets_of-length nodes = omega (arith, with_nodes-length [] nodes)

pub members_of : (nodes : List Node) (n : ℕ) (node : Node) → Ordered nodes → slice_get nodes n ≡ Some node
    → members (sets_of nodes) (suc n) ≡ node.name ∷ members (sets_of nodes) node.parent
members_of nodes n node ordered e =
    let k : 0 + n ≡ n = omega arith in
    rw k at (members_at [] nodes n node e (rw k (ordered n node e)))

pub members_past : (nodes : List Node) (n : ℕ) → slice_get nodes n ≡ None → members (sets_of nodes) (suc n) ≡ []
members_past nodes n e = by (sets_of nodes) (sets_of-length nodes)
  where
    none : (xs : List Node) (n : ℕ) → slice_get xs n ≡ None → length xs ≤ n
    none [] n e = omega arith
    none (x ∷ xs) zero e = absurd (cc)
    none (x ∷ xs) (suc n) e = omega (arith, none xs n e)

    by : (sets : Sets) → length sets ≡ length nodes → members sets (suc n) ≡ []
    by sets k = ap list_or_none (slice_get_past sets n (omega (arith, none nodes n e)))

-- the first name of a set, read from its node
pub first_found : (nodes : List Node) (n : ℕ) (node : Node) → Ordered nodes → 0 < n → slice_get nodes (n - 1) ≡ Some node
    → FirstIs (sets_of nodes) n (Some (node.name, node.parent))
first_found nodes n node ordered some e =
    let k : n ≡ suc (n - 1) = omega arith in
    let p = ordered (n - 1) node e in
    let q : n - 1 < length nodes = slice_get_within nodes (n - 1) node e in
    (ap (λ m. members (sets_of nodes) m) k ∙ members_of nodes (n - 1) node ordered e, omega arith, omega (arith, sets_of-length nodes))

pub first_missing : (nodes : List Node) (n : ℕ) → 0 < n → slice_get nodes (n - 1) ≡ None → members (sets_of nodes) n ≡ []
first_missing nodes n some e =
    let k : n ≡ suc (n - 1) = omega arith in
    ap (λ m. members (sets_of nodes) m) k ∙ members_past nodes (n - 1) e

-- the same of a table and a number that are seen otherwise
pub first_seen : (nodes : List Node) (sets : Sets) (n set : ℕ) (found : Option Node) (node : Node) → Ordered nodes → sets_of nodes ≡ sets → n ≡ set → 0 < n
    → found ≡ slice_get nodes (n - 1) → found ≡ Some node → FirstIs sets set (Some (node.name, node.parent))
first_seen nodes sets n set found node ordered s k some e at =
    subst (λ t. FirstIs t set (Some (node.name, node.parent))) s
    (subst (λ m. FirstIs (sets_of nodes) m (Some (node.name, node.parent))) k (first_found nodes n node ordered some (sym e ∙ at)))

pub first_unseen : (nodes : List Node) (sets : Sets) (n set : ℕ) (found : Option Node) → sets_of nodes ≡ sets → n ≡ set → 0 < n
    → found ≡ slice_get nodes (n - 1) → found ≡ None → members sets set ≡ []
first_unseen nodes sets n set found s k some e at =
    ap (λ t. members t set) (sym s) ∙ ap (λ m. members (sets_of nodes) m) (sym k) ∙ first_missing nodes n some (sym e ∙ at)

-- ---- a set with one name more

-- the node is in the table, which ended with it or had it before
pub record WithNode (old new : List Node) (node : Node) (index : ℕ) : Type 0 where
  pub stands : slice_get new index ≡ Some node
  pub grown : (new ≡ old) ⊎ (new ≡ old ++ node ∷ [])

pub extends_with : (old new : List Node) (node : Node) (index : ℕ) → WithNode old new node index → Extends (sets_of old) (sets_of new)
extends_with old new node index w =
    elim w.grown [
      | inl e ↦ subst (λ t. Extends (sets_of old) (sets_of t)) (sym e) (extends_same (sets_of old))
      | inr e ↦ subst (λ t. Extends (sets_of old) (sets_of t)) (sym e)
          (subst (λ t. Extends (sets_of old) t) (sym (with_nodes-append [] old node)) (extends_append (sets_of old) _))
    ]

pub get_append : {X : Type 0} (xs : List X) (y : X) (n : ℕ) (x : X) → slice_get (xs ++ y ∷ []) n ≡ Some x → (slice_get xs n ≡ Some x) ⊎ ((n ≡ length xs) × (y ≡ x))
get_append [] y zero x e = inr (refl, cc)
get_append [] y (suc n) x e = absurd (cc)
get_append (z ∷ xs) y zero x e = inl e
get_append (z ∷ xs) y (suc n) x e = elim (get_append xs y n x e) [ inl h ↦ inl h | inr h ↦ inr (ap suc h.0, h.1) ]

pub ordered_append : (old : List Node) (node : Node) → node.parent ≤ length (sets_of old) → Ordered old → Ordered (old ++ node ∷ [])
ordered_append old node p ordered n x at =
    elim (get_append old node n x at) [
      | inl h ↦ ordered n x h
      | inr h ↦ subst (λ m. m.parent ≤ n) h.1 (omega (arith, sets_of-length old, h.0))
    ]

pub ordered_with : (old new : List Node) (node : Node) (index : ℕ) → node.parent ≤ length (sets_of old) → Ordered old → WithNode old new node index → Ordered new
ordered_with old new node index p ordered w =
    elim w.grown [
      | inl e ↦ subst Ordered (sym e) ordered
      | inr e ↦ subst Ordered (sym e) (ordered_append old node p ordered)
    ]

pub members_with : (old new : List Node) (node : Node) (index : ℕ) → node.parent ≤ length (sets_of old) → Ordered new → WithNode old new node index
    → members (sets_of new) (suc index) ≡ node.name ∷ members (sets_of old) node.parent
members_with old new node index p ordered w =
    let grown = extends_with old new node index w in
    members_of new index node ordered w.stands ∙ ap (λ t. node.name ∷ t) (grown.same node.parent p)

-- ---- names below a count

pub below_append : (count : ℕ) (ms ns : List ℕ) → AreBelow count ms → AreBelow count ns → AreBelow count (ms ++ ns)
below_append count [] ns p q = q
below_append count (m ∷ ms) ns p q = (p.0, below_append count ms ns p.1 q)

pub below_filter : (count : ℕ) (test : ℕ → Bool) (ns : List ℕ) → AreBelow count ns → AreBelow count (filter test ns)
below_filter count test [] p = tt
below_filter count test (n ∷ ns) p = by (below_filter count test ns p.1) (test n)
  where
    by : AreBelow count (filter test ns) → (b : Bool) → AreBelow count (if b then n ∷ filter test ns else filter test ns)
    by q true = (p.0, q)
    by q false = q

pub members_below : (count : ℕ) (sets : Sets) (n : ℕ) → NamesBelow count sets → AreBelow count (members sets n)
members_below count sets zero p = tt
members_below count [] (suc n) p = tt
members_below count (names ∷ sets) (suc zero) p = p.0
members_below count (names ∷ sets) (suc (suc n)) p = members_below count sets (suc n) p.1

pub names_append : (count : ℕ) (sets : Sets) (names : List ℕ) → NamesBelow count sets → AreBelow count names → NamesBelow count (sets ++ names ∷ [])
names_append count [] names p q = (q, tt)
names_append count (s ∷ sets) names p q = (p.0, names_append count sets names p.1 q)

pub names_with : (count : ℕ) (old new : List Node) (node : Node) (index : ℕ) → node.name < count → NamesBelow count (sets_of old) → WithNode old new node index → NamesBelow count (sets_of new)
names_with count old new node index p below w =
    elim w.grown [
      | inl e ↦ subst (λ t. NamesBelow count (sets_of t)) (sym e) below
      | inr e ↦ subst (λ t. NamesBelow count (sets_of t)) (sym e)
          (subst (λ t. NamesBelow count t) (sym (with_nodes-append [] old node)) (names_append count (sets_of old) _ below (p, members_below count (sets_of old) node.parent below)))
    ]

-- a node that is put in by a test for equal ones
pub inserted : (eq : Node → Node → Bool) (old new : List Node) (node : Node) (index : ℕ) (k : Node) → ((m n : Node) → eq m n ≡ true → m ≡ n)
    → new ≡ (if list_any (eq node) old then old else old ++ node ∷ []) → slice_get new index ≡ Some k → eq node k ≡ true → WithNode old new node index
inserted eq old new node index k decides e at same =
    record { stands = at ∙ ap Some (sym (decides node k same)); grown = by (list_any (eq node) old) e }
  where
    by : (b : Bool) → new ≡ (if b then old else old ++ node ∷ []) → (new ≡ old) ⊎ (new ≡ old ++ node ∷ [])
    by true e = inl e
    by false e = inr e

pub same_node : (m n : Node) → ((m.parent == n.parent) && (m.name == n.name)) ≡ true → m ≡ n
same_node m n e = by (m.parent == n.parent) refl e
  where
    joined : m.parent ≡ n.parent → m.name ≡ n.name → m ≡ n
    joined a b =
        let first : ℕ → Node = λ k. record { parent = k; name = m.name } in
        let second : ℕ → Node = λ k. record { parent = n.parent; name = k } in
        ap first a ∙ ap second b

    by : (b : Bool) → (m.parent == n.parent) ≡ b → (b && (m.name == n.name)) ≡ true → m ≡ n
    by true p q = joined (eqb-true _ _ p) (eqb-true _ _ q)
    by false p q = absurd (cc)

-- ---- the names that two sets have in common

pub has_first : (n : ℕ) (ns : List ℕ) → list_any (nat_eq n) (n ∷ ns) ≡ true
has_first n ns = ap (λ b. b || list_any (nat_eq n) ns) (eq-eqb n n refl)

pub has_later : (m n : ℕ) (ns : List ℕ) → list_any (nat_eq m) ns ≡ true → list_any (nat_eq m) (n ∷ ns) ≡ true
has_later m n ns e = by (nat_eq m n)
  where
    by : (b : Bool) → (b || list_any (nat_eq m) ns) ≡ true
    by true = refl
    by false = e

keeps_all : (test : ℕ → Bool) (ns : List ℕ) → ((n : ℕ) → list_any (nat_eq n) ns ≡ true → test n ≡ true) → filter test ns ≡ ns
keeps_all test [] h = refl
keeps_all test (n ∷ ns) h =
    let here : test n ≡ true = h n (has_first n ns) in
    rw here (ap (λ t. n ∷ t) (keeps_all test ns (λ m e. h m (has_later m n ns e))))

pub common_itself : (ns : List ℕ) → ns ≡ filter (λ n. list_any (nat_eq n) ns) ns
common_itself ns = sym (keeps_all (λ n. list_any (nat_eq n) ns) ns (λ n e. e))

pub common_nothing : (ns : List ℕ) → [] ≡ filter (λ n. list_any (nat_eq n) []) ns
common_nothing [] = refl
common_nothing (n ∷ ns) = common_nothing ns

-- ---- a subset of a set

pub holds_nothing : (sets : Sets) (set other : ℕ) → set ≡ 0 → Holds sets set other
holds_nothing sets set other e n h = absurd (no (ap (λ s. list_any (nat_eq n) (members sets s)) (sym e) ∙ h))
  where
    no : false ≡ true → ⊥
    no e = cc

pub holds_behind : (sets : Sets) (set other : ℕ) (first : ℕ × ℕ) → members sets set ≡ first.0 ∷ members sets first.1 → Holds sets set other → Holds sets first.1 other
holds_behind sets set other first e h n k =
    h n (ap (list_any (nat_eq n)) e ∙ has_later n first.0 (members sets first.1) k)

no_new : (others ns : List ℕ) → ((n : ℕ) → list_any (nat_eq n) ns ≡ true → list_any (nat_eq n) others ≡ true) → filter (is_new others) ns ≡ []
no_new others [] h = refl
no_new others (n ∷ ns) h =
    ap (λ b. if not b then n ∷ filter (is_new others) ns else filter (is_new others) ns) (h n (has_first n ns))
    ∙ no_new others ns (λ m e. h m (has_later m n ns e))

-- it has no further name
pub lacks_nothing : (sets : Sets) (set other : ℕ) → Holds sets set other → filter (is_new (members sets other)) (members sets set) ≡ []
lacks_nothing sets set other h = no_new (members sets other) (members sets set) h

-- all of its names are common
pub shares_all : (sets : Sets) (set other : ℕ) → Holds sets set other → filter (λ n. list_any (nat_eq n) (members sets other)) (members sets set) ≡ members sets set
shares_all sets set other h = keeps_all (λ n. list_any (nat_eq n) (members sets other)) (members sets set) h

all_new : (ns : List ℕ) → filter (is_new []) ns ≡ ns
all_new [] = refl
all_new (n ∷ ns) = ap (λ t. n ∷ t) (all_new ns)

pub united_nothing : (ns : List ℕ) → united ns [] ≡ ns
united_nothing ns = append-nil (filter (is_new []) ns) ∙ all_new ns

pub new_below : (count : ℕ) (sets : Sets) (set other : ℕ) (names : List ℕ) → names ≡ filter (is_new (members sets other)) (members sets set) → NamesBelow count sets → AreBelow count names
new_below count sets set other names e below =
    subst (λ t. AreBelow count t) (sym e) (below_filter count (is_new (members sets other)) (members sets set) (members_below count sets set below))

-- ---- many names put in, from the last to the first

pub below_split : (count : ℕ) (ms ns : List ℕ) → AreBelow count (ms ++ ns) → AreBelow count ms × AreBelow count ns
below_split count [] ns p = (tt, p)
below_split count (m ∷ ms) ns p = let q = below_split count ms ns p.1 in ((p.0, q.0), q.1)

pub one_put : (items rest : List ℕ) (name : ℕ) (all old new : List ℕ) → items ≡ rest ++ name ∷ [] → items ++ old ≡ all → new ≡ name ∷ old → rest ++ new ≡ all
one_put items rest name all old new e h k = rw k (sym (append_assoc rest (name ∷ []) old) ∙ ap (λ t. t ++ old) (sym e) ∙ h)

pub below_put : (count : ℕ) (items rest : List ℕ) (name : ℕ) (old new : Sets) → items ≡ rest ++ name ∷ [] → AreBelow count items × NamesBelow count old
    → (name < count → NamesBelow count old → NamesBelow count new) → AreBelow count rest × NamesBelow count new
below_put count items rest name old new e h put =
    let q = below_split count rest (name ∷ []) (subst (λ t. AreBelow count t) e h.0) in
    (q.0, put q.1.0 h.1)
