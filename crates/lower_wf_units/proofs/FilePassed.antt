-- The result after a part of a unit: its scope, its functions, its first values (6.9).
use Rattle.std.proofs.Common.{◌≡◌, ℕ, true, false, List, [], ◌∷◌, ◌++◌, length, None, refl, sym, ap, ◌∙◌, append_assoc, append-nil}
use Rattle.typing_spec.specs.Program as typed
use Rattle.typing_spec.specs.Program.{Function, Program}
use Rattle.typing_spec.specs.Scope.{Scope, a_function}
use Rattle.typing_spec.specs.Declarations.{Initial}
use Rattle.typing_spec.specs.Units.{Built, numbers_in}
use Rattle.typing_spec.specs.Uses.{uses_in_statement}
use Rattle.typing_spec.specs.WellTyped.{parameters_are_first, statement_is_typed}
use Rattle.lower_wf.specs.Settled.{Present}
use Rattle.lower_wf_units.proofs.Files.{Stands, IsFile, Final, Named, Reaches}
use Rattle.lower_wf_units.proofs.FileSteps.{reaches_self, reaches_on, final_earlier}

-- ---- lists of functions

abbrev pub names_of : List Function → List ℕ
names_of [] = []
names_of (g ∷ gs) = g.name ∷ names_of gs

names_of_both : (gs hs : List Function) → names_of (gs ++ hs) ≡ names_of gs ++ names_of hs
names_of_both [] hs = refl
names_of_both (g ∷ gs) hs = ap (λ l. g.name ∷ l) (names_of_both gs hs)

abbrev pub AllOf : (Function → Type 0) → List Function → Type 0
AllOf P [] = Unit {0}
AllOf P (g ∷ gs) = P g × AllOf P gs

both_lists : (P : Function → Type 0) (gs hs : List Function) → AllOf P gs → AllOf P hs → AllOf P (gs ++ hs)
both_lists P [] hs h k = k
both_lists P (g ∷ gs) hs h k = (h.0, both_lists P gs hs h.1 k)

each_of : (P Q : Function → Type 0) (gs : List Function) → ((g : Function) → P g → Q g) → AllOf P gs → AllOf Q gs
each_of P Q [] go h = tt
each_of P Q (g ∷ gs) go h = (go g h.0, each_of P Q gs go h.1)

-- of no program
pub no_function : Function
no_function = record { name = 0; type = record { result = None; constant = false; parameters = [] }; objects = []; body = typed.empty; nodes = 0; weight = 0 }

-- a function is the meaning of its name at file scope
abbrev pub StandsIn : Scope → Function → Type 0
StandsIn s g = Stands s g.name (a_function g.type)

module _ (p : Program) (texts : List (List ℕ)) (definitions : List ℕ) where
  -- the body is typed where the objects and functions it uses are present
  abbrev pub BodyTyped : Function → Type 0
  BodyTyped g =
      Present p (uses_in_statement g.body) →
      (parameters_are_first g.type.parameters g.objects ≡ true) × (statement_is_typed p g (numbers_in g.type.parameters) (length g.objects) g.body ≡ true)

  -- from b on, past the definitions of functions of these names, to c
  pub record Passed (b : Built) (names : List ℕ) (c : Built) : Type 0 where
    pub more : List Initial
    pub initial : c.initial ≡ b.initial ++ more
    pub added : List Function
    pub functions : c.functions ≡ b.functions ++ added
    pub named : names_of added ≡ names
    pub reaches : Reaches p texts definitions b.scope more c.scope
    pub stand : AllOf (StandsIn c.scope) added
    pub bodies : Named p texts definitions b.scope → Final p texts definitions c.scope → AllOf BodyTyped added

  pub nothing_passed : (b : Built) → IsFile b.scope → Passed b [] b
  nothing_passed b f = record {
    more = [];
    initial = sym (append-nil b.initial);
    added = [];
    functions = sym (append-nil b.functions);
    named = refl;
    reaches = reaches_self p texts definitions b.scope f;
    stand = tt;
    bodies = λ N F. tt;
  }

  pub passed_on : (b c d : Built) (names more : List ℕ) → Passed b names c → Passed c more d → Passed b (names ++ more) d
  passed_on b c d names more g h = record {
    more = g.more ++ h.more;
    initial = h.initial ∙ ap (λ l. l ++ h.more) g.initial ∙ append_assoc b.initial g.more h.more;
    added = g.added ++ h.added;
    functions = h.functions ∙ ap (λ l. l ++ h.added) g.functions ∙ append_assoc b.functions g.added h.added;
    named = names_of_both g.added h.added ∙ ap (λ l. l ++ names_of h.added) g.named ∙ ap (λ l. names ++ l) h.named;
    reaches = reaches_on p texts definitions b.scope c.scope d.scope g.more h.more g.reaches h.reaches;
    stand = both_lists (StandsIn d.scope) g.added h.added
        (each_of (StandsIn c.scope) (StandsIn d.scope) g.added (λ x s. h.reaches.0.functions x.name x.type s) g.stand) h.stand;
    bodies = λ N F.
        let E = final_earlier p texts definitions c.scope d.scope h.reaches.0 F in both_lists BodyTyped g.added h.added (g.bodies N E)
        (h.bodies (g.reaches.2 N E).0 F);
  }
