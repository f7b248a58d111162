-- The program of a unit has no more nodes than the unit; so its text and data have fewer bytes than an image may have.
use Rattle.std.proofs.Common.{None, ◌≡◌, ◌≤◌, ℕ, ◌+◌, ◌*◌, List, [], ◌∷◌, ◌++◌, length, subst, arith}
use Rattle.std.specs.Prelude.{sum_by}
use Rattle.std.proofs.lemmas.List.Sums.{sum_by-append, sum_by-cons}
use Rattle.memory_map.specs.MemoryMap.{text_start, max_image}
use Rattle.srcset.specs.declared.refusal.Pos.{Pos}
use Rattle.tree.specs.Tree.{FunctionTree, ExternalTree, definition, declaration}
use Rattle.tree.specs.Counts.{function_nodes, declaration_nodes, external_nodes, unit_nodes}
use Rattle.typing_spec.specs.Program.{Function, Program}
use Rattle.typing_spec.specs.Scope.{file_scope, defined}
use Rattle.typing_spec.specs.Verdict.{Verdict, fine, broken, then_check, provided, each, IfFine}
use Rattle.typing_spec.specs.Declarators.{parameters_in, behind_parameters, function_type}
use Rattle.typing_spec.specs.Linkage.{file_function}
use Rattle.typing_spec.specs.Declarations.{specified, declaration_typed}
use Rattle.typing_spec.specs.Statements.{pieces}
use Rattle.typing_spec.specs.Uses.{all_defined, uses_in_functions}
use Rattle.typing_spec.specs.Units.{Built, all_named, body_scope, around_of, function_of, with_function, function_typed, with_declaration, external_typed, externals_typed, definitions_in, main_from, main_or_fault, within_limits, program_of, whole_program}
use Rattle.asm.specs.declared.item.Item.{Item}
use Rattle.asm.specs.Layout.{IsLow, longest}
use Rattle.asm.proofs.Ends.{ends}
use Rattle.tac_code.specs.Sound.{data_bytes}
use Rattle.cc_backend.specs.Made.{nodes_of, UnitsAreSmall, IsReady, most_text}

then_fine : {A B : Type 0} (P : B → Type 0) (v : Verdict A) (go : A → Verdict B) → ((a : A) → IfFine P (go a)) → IfFine P (then_check v go)
then_fine P (fine a) go h = h a
then_fine P (broken vs) go h = tt

provided_fine : {A : Type 0} (P : A → Type 0) (test : Verdict (Unit {0})) (part : Verdict A) → IfFine P part → IfFine P (provided test part)
provided_fine P (fine u) (fine a) h = h
provided_fine P (fine u) (broken vs) h = tt
provided_fine P (broken vs) part h = tt

-- the functions built so far have at most n nodes
abbrev HasNodes : ℕ → Built → Type 0
HasNodes n b = nodes_of b.functions ≤ n

added : (fs : List Function) (f : Function) → nodes_of (fs ++ f ∷ []) ≡ nodes_of fs + f.nodes
added fs f =
    let both = sum_by-append (λ (g : Function). g.nodes) fs (f ∷ []) in
    let one = sum_by-cons (λ (g : Function). g.nodes) f [] in
    omega (arith, both, one)

function_fine : (b : Built) (f : FunctionTree) → IfFine (HasNodes (nodes_of b.functions + function_nodes f)) (function_typed b f)
function_fine b f =
    let P : Built → Type 0 = HasNodes (nodes_of b.functions + function_nodes f) in
    then_fine P (specified b.scope f.start f.specifiers) _ (λ d.
    then_fine P (provided (all_named f.parameters) (parameters_in d.scope f.parameters)) _ (λ ps.
    let t = function_type d.base ps.types in
    then_fine P (file_function (behind_parameters d.scope ps.scope) f.at f.name d.class t defined) _ (λ file.
    then_fine P (pieces (around_of t) None (body_scope file ps.scope d.scope) f.body) (with_function b file f t) (λ all.
    provided_fine P _ _ (let e = added b.functions (function_of f t all) in omega (arith, e))))))

external_fine : (b : Built) (e : ExternalTree) → IfFine (HasNodes (nodes_of b.functions + external_nodes e)) (external_typed b e)
external_fine b (definition f) = function_fine b f
external_fine b (declaration d) = then_fine (HasNodes (nodes_of b.functions + declaration_nodes d)) (declaration_typed b.scope d) (with_declaration b) (λ x. omega arith)

-- a rule that continues where Q holds of the fine value
then_with : {A B : Type 0} (Q : A → Type 0) (P : B → Type 0) (v : Verdict A) (go : A → Verdict B) → IfFine Q v → ((a : A) → Q a → IfFine P (go a)) → IfFine P (then_check v go)
then_with Q P (fine a) go q h = h a q
then_with Q P (broken vs) go q h = tt

externals_fine : (b : Built) (n : ℕ) (es : List ExternalTree) → nodes_of b.functions ≤ n → IfFine (HasNodes (n + unit_nodes es)) (externals_typed b es)
externals_fine b n [] le = omega (arith, le)
externals_fine b n (e ∷ es) le =
    let P : Built → Type 0 = HasNodes (n + unit_nodes (e ∷ es)) in
    then_with (HasNodes (nodes_of b.functions + external_nodes e)) P (external_typed b e) (λ c. externals_typed c es) (external_fine b e) (λ c h.
    let sum : n + external_nodes e + unit_nodes es ≡ n + unit_nodes (e ∷ es) = omega arith in
    subst (λ m. IfFine (HasNodes m) (externals_typed c es)) sum (externals_fine c (n + external_nodes e) es (omega (arith, h, le))))

abbrev HasFew : ℕ → Program → Type 0
HasFew n p = nodes_of p.functions ≤ n

whole_fine : (whole : Pos) (n : ℕ) (b : Built) → HasNodes n b → IfFine (HasFew n) (whole_program whole b)
whole_fine whole n b h =
    provided_fine (HasFew n) (each (within_limits whole b) (all_defined b.scope [] (uses_in_functions b.functions)))
    (then_check (main_or_fault whole (main_from b.scope 0 b.functions)) (λ main. fine (program_of b main)))
    (then_fine (HasFew n) (main_or_fault whole (main_from b.scope 0 b.functions)) (λ main. fine (program_of b main)) (λ main. h))

pub units_are_small : UnitsAreSmall
units_are_small stack texts whole unit p e =
    let first : Built = record { stack = stack; scope = file_scope texts (definitions_in unit); functions = []; initial = [] } in
    let n = 0 + unit_nodes unit in
    let all = then_with (HasNodes n) (HasFew n) (externals_typed first unit) (whole_program whole) (externals_fine first 0 unit (omega arith)) (whole_fine whole n) in
    let few : nodes_of p.functions ≤ n = subst (IfFine (HasFew n)) e all in
    omega (arith, few)

-- ---- bytes

text_sum : (fs : List Function) → sum_by (λ f. 128 * f.nodes + 1024) fs ≡ 128 * nodes_of fs + 1024 * length fs
text_sum [] = omega arith
text_sum (f ∷ fs) =
    let one = sum_by-cons (λ (g : Function). 128 * g.nodes + 1024) f fs in
    let two = sum_by-cons (λ (g : Function). g.nodes) f fs in
    omega (arith, one, two, text_sum fs)

-- the text, 50,332,672 bytes at most, and the data
pub has_room : (p : Program) (text statics : ℕ) → IsReady p → text ≤ most_text p → statics ≤ 16 + data_bytes p.literals p.statics → text + statics ≤ max_image
has_room p text statics ready short small =
    let sum = text_sum p.functions in
    omega (arith, short, small, sum, ready.few, ready.checked.few, ready.checked.small)

pub is_low : (xs : List Item) (n : ℕ) → longest xs + n ≤ max_image → IsLow text_start xs
is_low xs n le = omega (arith, ends text_start xs, le)
