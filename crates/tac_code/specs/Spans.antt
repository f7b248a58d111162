-- How many nodes the widest full expression of a function has (ISO/IEC 9899:2011 6.8p4). Temporaries of different full expressions are
-- never needed at one time, so a call takes no more bytes than the widest needs.
use Rattle.std.specs.Prelude.{ℕ, ◌+◌, max}
use Rattle.typing_spec.specs.Program as typed
use Rattle.typing_spec.specs.Program.{Initialiser, Initialisers, Statement, Statements, Function}
use Rattle.typing_spec.specs.Nodes.{value_nodes, option_nodes}
use Rattle.typing_spec.specs.Units.{bytes_of_objects, bytes_of_references}
use Rattle.tree.specs.Counts.{weight_of}

abbrev mutual
  pub widest_initial : Initialiser → ℕ
  widest_initial (typed.one_value t e) = value_nodes e
  widest_initial (typed.text n) = 1
  widest_initial (typed.in_braces i) = widest_initial i
  widest_initial (typed.list all) = widest_initials all

  pub widest_initials : Initialisers → ℕ
  widest_initials typed.no_initialisers = 0
  widest_initials (typed.and_initialiser i more) = max (widest_initial i) (widest_initials more)

abbrev mutual
  pub widest : Statement → ℕ
  widest typed.empty = 0
  widest (typed.evaluate e) = value_nodes e
  widest (typed.declare n) = 0
  widest (typed.define n i) = widest_initial i
  widest (typed.block first count all) = widest_of all
  widest (typed.branch e a) = max (value_nodes e) (widest a)
  widest (typed.branches e a b) = max (value_nodes e) (max (widest a) (widest b))
  widest (typed.switch t e first count all) = max (value_nodes e) (widest_of all)
  widest (typed.case v) = 0
  widest typed.default = 0
  widest (typed.while e a) = max (value_nodes e) (widest a)
  widest (typed.do_while a e) = max (value_nodes e) (widest a)
  widest (typed.for declared start test step a) =
      max (widest_of declared) (max (option_nodes start) (max (option_nodes test) (max (option_nodes step) (widest a))))
  widest typed.break = 0
  widest typed.continue = 0
  widest typed.return_nothing = 0
  widest (typed.return_value t e) = value_nodes e

  pub widest_of : Statements → ℕ
  widest_of typed.no_statements = 0
  widest_of (typed.and_statement x more) = max (widest x) (widest_of more)

-- the bytes of its parameters and its objects, each rounded up to a multiple of 4
abbrev pub own_bytes : Function → ℕ
own_bytes f = bytes_of_references f.type.parameters + bytes_of_objects f.objects

-- the formula of the weight, with these nodes in place of all
abbrev pub span : Function → ℕ
span f = weight_of (widest f.body) (own_bytes f)
