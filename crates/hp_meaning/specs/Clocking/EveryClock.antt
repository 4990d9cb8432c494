-- Each clock of a program: those of locals, equations and expressions. The limit is on these.
use Rattle.std.specs.Prelude.{ℕ, ◌<◌, List, [], ◌∷◌, length, Option, None, Some}
use Rattle.hp_tree.specs.declared.block.Trans.{Trans}
use Rattle.hp_tree.specs.Expressions.{Expr}
use Rattle.hp_tree.specs.Blocks.{Decl, Block, block, Eqns, more_eqns, Eqn, define, switch, reset, automaton, Arms, more_arms, States, more_states}
use Rattle.hp_tree.specs.Programs.{Contract, Node}
use Rattle.hp_tree.specs.Instant.{Place, Body, Observer, Assume, Enforce, Named, Equations, Head, Tail, Right, Test, Arms as ArmsOf, States as StatesOf, Until, Unless, Clock}
use Rattle.hp_tree.specs.Meaning.{clock_in, clock_of}
use Rattle.hp_meaning.specs.Clocking.EachExpression.{passed}

abbrev pub of_conditions : List Trans → Place → Clock
of_conditions (t ∷ ts) (Head ∷ p) = passed t.cond [] p
of_conditions (t ∷ ts) (Tail ∷ p) = of_conditions ts p
of_conditions ts p = []

abbrev mutual
  pub every_clock : Block → Place → Clock
  every_clock (block ds es) (Named x ∷ []) = clock_in ds x
  every_clock (block ds es) (Equations ∷ p) = every_clock_of_all ds es p
  every_clock (block ds es) p = []

  pub every_clock_of_all : List Decl → Eqns → Place → Clock
  every_clock_of_all ds (more_eqns e es) (Head ∷ p) = every_clock_of_one ds e p
  every_clock_of_all ds (more_eqns e es) (Tail ∷ p) = every_clock_of_all ds es p
  every_clock_of_all ds es p = []

  pub every_clock_of_one : List Decl → Eqn → Place → Clock
  every_clock_of_one ds (define s ys e) (Right ∷ p) = passed e (clock_of ds ys e) p
  every_clock_of_one ds (switch s e arms) (Test ∷ p) = passed e [] p
  every_clock_of_one ds (switch s e arms) (ArmsOf ∷ p) = every_clock_of_arms arms p
  every_clock_of_one ds (reset s b e) (Test ∷ p) = passed e [] p
  every_clock_of_one ds (reset s b e) (Body ∷ p) = every_clock b p
  every_clock_of_one ds (automaton s ss) (StatesOf ∷ p) = every_clock_of_states ss p
  every_clock_of_one ds e p = []

  pub every_clock_of_arms : Arms → Place → Clock
  every_clock_of_arms (more_arms c b s arms) (Head ∷ p) = every_clock b p
  every_clock_of_arms (more_arms c b s arms) (Tail ∷ p) = every_clock_of_arms arms p
  every_clock_of_arms arms p = []

  pub every_clock_of_states : States → Place → Clock
  every_clock_of_states (more_states f b until unless s ss) (Head ∷ Body ∷ p) = every_clock b p
  every_clock_of_states (more_states f b until unless s ss) (Head ∷ Until ∷ p) = of_conditions until p
  every_clock_of_states (more_states f b until unless s ss) (Head ∷ Unless ∷ p) = of_conditions unless p
  every_clock_of_states (more_states f b until unless s ss) (Tail ∷ p) = every_clock_of_states ss p
  every_clock_of_states ss p = []

abbrev pub every_told : Option Expr → Place → Clock
every_told None p = []
every_told (Some e) p = passed e [] p

abbrev pub every_clock_of_contract : Option Contract → Place → Clock
every_clock_of_contract (Some c) (Observer ∷ p) = every_clock c.body p
every_clock_of_contract (Some c) (Assume ∷ p) = every_told c.assume p
every_clock_of_contract (Some c) (Enforce ∷ p) = every_told c.enforce p
every_clock_of_contract contract p = []

abbrev pub every_clock_of_node : Node → Place → Clock
every_clock_of_node n (Body ∷ p) = every_clock n.body p
every_clock_of_node n p = every_clock_of_contract n.contract p

-- A clock of a node has more steps than a limit: to be asked of the node in which the shortest clocks are written.
abbrev pub IsLong : ℕ → Node → Type 0
IsLong limit n = (p : Place) × (limit < length (every_clock_of_node n p))
