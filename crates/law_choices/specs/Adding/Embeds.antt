-- An observer that is put among the equations of a node is added to it.
-- Source: own.
use Rattle.std.specs.Prelude.{◌≡◌, ℕ, ◌+◌, List, ◌++◌, length}
use Rattle.std.specs.List.{AllByRecursion, flat_map}
use Rattle.hp_base.specs.Kinds.{Bools}
use Rattle.hp_obc.specs.Machines.{ObcType}
use Rattle.hp_flat.specs.Equations.{Clock}
use Rattle.hp_flat.specs.Nodes.{FlatNode}
use Rattle.law_equations.specs.Meaning.Fitting.{atom_variables}
use Rattle.law_equations.specs.Meaning.Kinding.{Callees, HaveKinds, variable_kind, kinds_at}
use Rattle.law_equations.specs.Meaning.Reactions.{inputs_of}
use Rattle.law_equations.specs.Meaning.Scheduling.{AreBelow}
use Rattle.hp_watch.specs.Embedding.{Site, moved_clock, embedded}
use Rattle.law_choices.specs.Closed.Clocking.{IsFrontOf}
use Rattle.law_choices.specs.Adding.Keeping.{IsBased, Keeps}
use Rattle.law_choices.specs.Adding.Lifts.{CanStand}

-- A site fits in a node: its clock can stand there, what it begins anew with are truth values, and what stands for the inputs of the observer is there and of their kinds.
pub record FitsSite (types : List ObcType) (callees : Callees) (n : FlatNode) (clock : ℕ → Clock) (observer : FlatNode) (site : Site) : Type 0 where
  pub stands : CanStand types n clock site.clock
  pub restart_within : AreBelow (length n.variables) site.restart
  pub restart_kinds : AllByRecursion (λ x. variable_kind types n.variables x ≡ Bools) site.restart
  pub kinds : HaveKinds types callees n.variables site.inputs (kinds_at types observer (inputs_of observer))
  pub below : AreBelow (length n.variables) (flat_map atom_variables site.inputs)
  pub there : AllByRecursion (λ x. IsFrontOf (clock x) site.clock) (flat_map atom_variables site.inputs)

-- The node with the observer stays well built, and each variable of the observer is there on the clock of the site and its own one.
abbrev pub EmbeddedLaw : Type 0
EmbeddedLaw =
    (types : List ObcType) (callees : Callees) (n observer : FlatNode) (clock own : ℕ → Clock) (site : Site) → IsBased types callees clock n → IsBased types callees own observer → FitsSite types callees n clock observer site
    → (k : Keeps types callees clock n (embedded observer site n)) × ((x : ℕ) → k.clocks (x + length n.variables) ≡ site.clock ++ moved_clock (length n.variables) (own x))
