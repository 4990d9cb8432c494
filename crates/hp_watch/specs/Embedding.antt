-- An observer among the equations of a node.
-- Source: own.
use Rattle.std.specs.Prelude.{ℕ, zero, suc, ◌+◌, List, [], ◌∷◌, ◌++◌, length, map}
use Rattle.hp_obc.specs.declared.command.ObcOp.TheVariants.{Copy}
use Rattle.hp_flat.specs.declared.equation.Atom.{Atom}
use Rattle.hp_flat.specs.declared.equation.Atom.TheVariants.{Variable as Read, Value as Fixed}
use Rattle.hp_flat.specs.declared.node.Variable.{Variable}
use Rattle.hp_flat.specs.Equations.{Clock, Right, operator, register, called, FlatEqn}
use Rattle.hp_flat.specs.Nodes.{FlatNode}
use Rattle.hp_watch.specs.declared.embedding.Shift.{Shift}
use Rattle.hp_watch.specs.declared.embedding.Site as held
use Rattle.hp_watch.specs.Adding.{next_variable, with_variable, with_eqn, operator_eqn}

-- where an observer is put: on a clock, with what it begins anew, and over what
pub record Site : Type 0 where
  pub clock : Clock
  pub restart : List ℕ
  pub inputs : List Atom

-- as the code holds it
abbrev pub site_seen : held.Site → Site
site_seen s = record { clock = s.clock.items; restart = s.restart.items; inputs = s.inputs.items }

-- ---- moving

-- variables whose numbers are so much larger
abbrev pub moved_all : ℕ → List ℕ → List ℕ
moved_all by xs = map (λ x. x + by) xs

abbrev pub moved_clock : ℕ → Clock → Clock
moved_clock by clock = map (λ s. (s.0 + by, s.1)) clock

abbrev pub moved_atom : ℕ → Atom → Atom
moved_atom by (Read x) = Read (x + by)
moved_atom by (Fixed v) = Fixed v

abbrev pub moved_right : ℕ → Right → Right
moved_right by (operator op args) = operator op (map (moved_atom by) args)
moved_right by (register first next) = register first (moved_atom by next)
moved_right by (called f args) = called f (map (moved_atom by) args)

-- an equation of an observer, at a site: it is there where the site is and its own clock, and begins anew with both
abbrev pub moved_eqn : Site → ℕ → FlatEqn → FlatEqn
moved_eqn site by e = record {
  targets = moved_all by e.targets;
  clock = site.clock ++ moved_clock by e.clock;
  right = moved_right by e.right;
  restart = site.restart ++ moved_all by e.restart;
  at = 0;
}

-- ---- adding

-- a node with variables of these types more
abbrev pub with_variables : List Variable → FlatNode → FlatNode
with_variables [] n = n
with_variables (v ∷ vs) n = with_variables vs (with_variable v.ty n)

-- a node in which variables in a row, from one on, have the values of some atoms on a clock
abbrev pub with_inputs : Clock → ℕ → List Atom → FlatNode → FlatNode
with_inputs clock target [] n = n
with_inputs clock target (a ∷ args) n = with_inputs clock (target + 1) args (with_eqn (operator_eqn target clock Copy (a ∷ [])) n)

-- a node with the equations of an observer at a site
abbrev pub with_moved : Site → ℕ → List FlatEqn → FlatNode → FlatNode
with_moved site by [] n = n
with_moved site by (e ∷ es) n = with_moved site by es (with_eqn (moved_eqn site by e) n)

-- the node with the variables of an observer, and with what they stand for
abbrev pub with_room : FlatNode → Site → FlatNode → FlatNode
with_room observer site n = with_inputs site.clock (next_variable n) site.inputs (with_variables observer.variables n)

-- the node with an observer at a site
abbrev pub embedded : FlatNode → Site → FlatNode → FlatNode
embedded observer site n = with_moved site (next_variable n) observer.eqns (with_room observer site n)

-- where its variables and equations stand in the node: their first ones
abbrev pub shift_of : FlatNode → Site → FlatNode → Shift
shift_of observer site n = record { variables = next_variable n; eqns = length (with_room observer site n).eqns }
