-- Laws of the least numbers of names' nodes.
use Rattle.std.proofs.Common.{◌≡◌, ℕ, zero, suc, ◌<◌, ◌≤◌, List, [], ◌∷◌, ◌++◌, Option, Some, None, Bool, true, false, cond, nat_eq, ◌||◌, length, slice_get, refl, sym, ap, ◌∙◌, inl, inr, subst, arith, length-append}
use Rattle.std.proofs.lemmas.Bool.{eqb-true, eq-eqb}
use Rattle.std.specs.List.{list_any}
use Rattle.macros_substitution.specs.declared.hide_sets.Node.{Node}
use Rattle.macros_substitution.specs.HideSets.{Sets, members}
use Rattle.macros_substitution.specs.inside.Nodes.{sets_of, Ordered}
use Rattle.macros_substitution.specs.inside.Firsts.{Firsts, first_of, Notes, NotesBy, IsBy, IsWithin, Stand, IsAbsent}
use Rattle.macros_substitution.proofs.Tables.{WithNode, get_append, members_of, members_past, ordered_with}

-- ---- a name that is noted

within_it : (o : Option ℕ) (old : Firsts) (name : ℕ) (n : ℕ) (new : Firsts) → first_of old name ≡ o → IsWithin o n → NotesBy o old name n new → IsBy (first_of new name) n
within_it None old name n new e h p = subst (λ o. IsBy o n) (sym (p name ∙ ap (λ b. cond b (Some n) (first_of old name)) (eq-eqb name name refl))) (omega arith)
within_it (Some f) old name n new e h p = subst (λ o. IsBy o n) (sym (ap (λ t. first_of t name) p ∙ e)) h

noted_by : (nodes : List Node) (old new : Firsts) (name : ℕ) → Stand nodes old → Notes old name (length nodes) new → IsBy (first_of new name) (length nodes)
noted_by nodes old new name s p = within_it (first_of old name) old name (length nodes) new refl (s.small name) p

noted_stand : (nodes : List Node) (old new : Firsts) (name : ℕ) → Stand nodes old → Notes old name (length nodes) new → Stand nodes new
noted_stand nodes old new name s p = by (first_of old name) refl p
  where
    one_by : (b : Bool) (o : Option ℕ) (q n : ℕ) → nat_eq name q ≡ b → first_of old name ≡ None → o ≡ cond b (Some (length nodes)) (first_of old q) → IsBy (first_of old q) n → IsBy o n
    one_by true o q n e none k h = absurd (subst (λ m. IsBy m n) none (subst (λ m. IsBy (first_of old m) n) (sym (eqb-true name q e)) h))
    one_by false o q n e none k h = subst (λ m. IsBy m n) (sym k) h

    one_within : (b : Bool) (o : Option ℕ) (q : ℕ) → o ≡ cond b (Some (length nodes)) (first_of old q) → IsWithin (first_of old q) (length nodes) → IsWithin o (length nodes)
    one_within true o q k h = subst (λ m. IsWithin m (length nodes)) (sym k) (omega arith)
    one_within false o q k h = subst (λ m. IsWithin m (length nodes)) (sym k) h

    by : (o : Option ℕ) → first_of old name ≡ o → NotesBy o old name (length nodes) new → Stand nodes new
    by None e h = record {
      ordered = s.ordered;
      known = λ n node at. one_by (nat_eq name node.name) (first_of new node.name) node.name n refl e (h node.name) (s.known n node at);
      small = λ q. one_within (nat_eq name q) (first_of new q) q (h q) (s.small q);
    }
    by (Some f) e h = subst (Stand nodes) (sym h) s

-- both, where the number is the count of the nodes
pub noted_at : (nodes : List Node) (old new : Firsts) (name n : ℕ) → n ≡ length nodes → Stand nodes old → Notes old name n new → IsBy (first_of new name) (length nodes) × Stand nodes new
noted_at nodes old new name n e s p =
    let q = subst (λ k. Notes old name k new) e p in
    (noted_by nodes old new name s q, noted_stand nodes old new name s q)

-- ---- a node that is put in

within_more : (o : Option ℕ) (m n : ℕ) → m ≤ n → IsWithin o m → IsWithin o n
within_more None m n h p = tt
within_more (Some f) m n h p = omega arith

stand_append : (old : List Node) (node : Node) (firsts : Firsts) → Ordered (old ++ node ∷ []) → IsBy (first_of firsts node.name) (length old) → Stand old firsts → Stand (old ++ node ∷ []) firsts
stand_append old node firsts ordered here s = record {
  ordered = ordered;
  known = λ n m at. elim (get_append old node n m at) [
    | inl h ↦ s.known n m h
    | inr h ↦ subst (λ k. IsBy (first_of firsts m.name) k) (sym h.0) (subst (λ k. IsBy (first_of firsts k.name) (length old)) h.1 here)
  ];
  small = λ q. within_more (first_of firsts q) (length old) (length (old ++ node ∷ [])) (omega (arith, length-append old (node ∷ []))) (s.small q);
}

pub stand_with : (old new : List Node) (node : Node) (index : ℕ) (firsts : Firsts) → node.parent ≤ length (sets_of old) → IsBy (first_of firsts node.name) (length old) → Stand old firsts
    → WithNode old new node index → Stand new firsts
stand_with old new node index firsts p here s w =
    let ordered = ordered_with old new node index p s.ordered w in
    elim w.grown [
      | inl e ↦ subst (λ t. Stand t firsts) (sym e) s
      | inr e ↦ subst (λ t. Stand t firsts) (sym e) (stand_append old node firsts (subst Ordered e ordered) here s)
    ]

-- ---- names that no set of these numbers has

abbrev NotBy : Option ℕ → ℕ → Type 0
NotBy o n = (m : ℕ) → m < n → IsBy o m → ⊥

absent_to : (nodes : List Node) (firsts : Firsts) (name : ℕ) (o : Option ℕ) → Stand nodes firsts → first_of firsts name ≡ o
    → (fuel n : ℕ) → n ≤ fuel → NotBy o n → list_any (nat_eq name) (members (sets_of nodes) n) ≡ false
absent_to nodes firsts name o s e fuel zero h p = refl
absent_to nodes firsts name o s e zero (suc m) h p = absurd (omega arith)
absent_to nodes firsts name o s e (suc fuel) (suc m) h p = by (absent_to nodes firsts name o s e fuel) (slice_get nodes m) refl
  where
    other : (node : Node) → IsBy (first_of firsts node.name) m → (b : Bool) → nat_eq name node.name ≡ b → nat_eq name node.name ≡ false
    other node k true q = absurd (p m (omega arith) (subst (λ t. IsBy t m) e (subst (λ t. IsBy (first_of firsts t) m) (sym (eqb-true name node.name q)) k)))
    other node k false q = q

    by : ((n : ℕ) → n ≤ fuel → NotBy o n → list_any (nat_eq name) (members (sets_of nodes) n) ≡ false) → (found : Option Node) → slice_get nodes m ≡ found
        → list_any (nat_eq name) (members (sets_of nodes) (suc m)) ≡ false
    by less None at = ap (list_any (nat_eq name)) (members_past nodes m at)
    by less (Some node) at =
        let parent = s.ordered m node at in
        let rest = less node.parent (omega arith) (λ k below. p k (omega arith)) in
        ap (list_any (nat_eq name)) (members_of nodes m node s.ordered at)
        ∙ ap (λ b. b || list_any (nat_eq name) (members (sets_of nodes) node.parent)) (other node (s.known m node at) (nat_eq name node.name) refl)
        ∙ rest

pub is_absent : (nodes : List Node) (firsts : Firsts) (sets : Sets) (name : ℕ) (o : Option ℕ) → Stand nodes firsts → sets_of nodes ≡ sets → o ≡ first_of firsts name → IsAbsent sets name o
is_absent nodes firsts sets name None s k e = λ n. ap (λ t. list_any (nat_eq name) (members t n)) (sym k) ∙ absent_to nodes firsts name None s (sym e) n n (omega arith) (λ m below q. q)
is_absent nodes firsts sets name (Some f) s k e = λ n h. ap (λ t. list_any (nat_eq name) (members t n)) (sym k) ∙ absent_to nodes firsts name (Some f) s (sym e) n n (omega arith) (λ m below q. omega arith)
