-- Observers whose clocked equations are well built suit the nodes that they belong to.
-- Source: own.
use Rattle.std.specs.Prelude.{◌≡◌, ℕ, List, ◌++◌}
use Rattle.hp_obc.specs.Machines.{ObcType}
use Rattle.hp_tree.specs.Programs.{Contract}
use Rattle.hp_flat.specs.Nodes.{FlatNode}
use Rattle.law_equations.specs.Meaning.Kinding.{Callees, kinds_at}
use Rattle.law_equations.specs.Meaning.Reactions.{inputs_of}
use Rattle.hp_watch.specs.Watching.{observed}
use Rattle.law_choices.specs.Adding.Made.{IsReadyMade}
use Rattle.law_choices.specs.Adding.Surveyed.{Suits}

-- The clocked equations of an observer of the nodes of a name are well built, and take what these take and give.
pub record IsObserver (types : List ObcType) (callees : Callees) (f : List ℕ) (o : FlatNode) : Type 0 where
  pub ready : IsReadyMade types callees o
  pub takes : kinds_at types o (inputs_of o) ≡ callees.takes f ++ callees.gives f

-- So they suit, with the free places of the contract: comparisons, in the order of slots.
abbrev pub ObserverLaw : Type 0
ObserverLaw = (types : List ObcType) (callees : Callees) (f : List ℕ) (c : Contract) (o : FlatNode) → IsObserver types callees f o → Suits types callees f (observed c o)
