-- An observer where it stands in a node: a site has a clock, and what the observer begins anew with.
-- Source: own; an instance goes on at the instants of its clock, since it last began anew (Biernacki, Colaço, Hamon, Pouzet, LCTES 2008).
use Rattle.std.specs.Prelude.{◌≡◌, ◌⊎◌, IsTrue, ℕ, ◌+◌, ◌<◌, ◌≤◌, List, ◌∷◌, ◌++◌, length}
use Rattle.std.specs.List.{AllByRecursion}
use Rattle.hp_base.specs.declared.value.Value.{Value}
use Rattle.hp_flat.specs.Equations.{FlatEqn}
use Rattle.hp_flat.specs.Nodes.{FlatNode}
use Rattle.law_equations.specs.Meaning.Instants.{Instant, atoms, holds, since}
use Rattle.law_equations.specs.Meaning.Reactions.{Answers, Reaction}
use Rattle.law_equations.specs.Meaning.Scheduling.{AreBelow, IsWithin}
use Rattle.hp_controller.specs.Extending.{cut}
use Rattle.hp_watch.specs.Embedding.{Site, embedded}

-- an instant in the variables of an observer, of which there are so many, which stand so far behind
abbrev pub moved_in : ℕ → ℕ → Instant → Instant
moved_in count by i = cut count (λ x. i (x + by))

-- the instants of the observer of a site up to now, newest first, and what it is given there
abbrev pub site_instants : Site → ℕ → ℕ → List Instant → Instant → List Instant
site_instants site count by past now = moved_in count by now ∷ since site.clock site.restart (moved_in count by) past now

abbrev pub site_rows : Site → List Instant → Instant → List (List Value)
site_rows site past now = atoms now site.inputs ∷ since site.clock site.restart (λ i. atoms i site.inputs) past now

-- a variable is none of an observer, whose variables are so many and stand behind those of a node
abbrev pub IsElsewhere : FlatNode → FlatNode → ℕ → Type 0
IsElsewhere observer n x = (x < length n.variables) ⊎ (length n.variables + length observer.variables ≤ x)

-- The equations of a node are those of one in which an observer stands, and others that define none of its variables.
pub record Holds (observer n m : FlatNode) (site : Site) : Type 0 where
  pub more : List FlatEqn
  pub eqns : m.eqns ≡ (embedded observer site n).eqns ++ more
  pub few : m.inputs ≤ length n.variables
  pub inputs : observer.inputs ≡ length site.inputs
  pub below : AllByRecursion (λ (e : FlatEqn). AreBelow (length n.variables) e.targets) n.eqns
  pub within : IsWithin observer
  pub apart : AllByRecursion (λ (e : FlatEqn). AllByRecursion (IsElsewhere observer n) e.targets) more

-- In a reaction of such a node, at each instant at which the site is there, the observer has had a reaction of its own since it last began anew.
abbrev pub SiteLaw : Type 0
SiteLaw =
    (answers : Answers) (observer n m : FlatNode) (site : Site) → Holds observer n m site → (rows : List (List Value)) (past : List Instant) (now : Instant) → Reaction answers m rows (now ∷ past) → IsTrue (holds site.clock now)
    → Reaction answers observer (site_rows site past now) (site_instants site (length observer.variables) (length n.variables) past now)
