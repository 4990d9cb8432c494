-- The laws of clocks.
use Rattle.hp_meaning.specs.Clocking.Laws.{JudgedLaw, OneShortestLaw, WrittenLaw, RightLaw, KeptLaw, InstanceLaw}
use Rattle.std.proofs.Common.{subst}
use Rattle.hp_tree.specs.Instant.{Place}
use Rattle.hp_meaning.specs.Causal.Clocked.{ClocksRight}
use Rattle.hp_meaning.specs.Clocking.Clocking.{On, node_units, node_sights, AreClocks, IsAllowed, clocks_of_node}
use Rattle.hp_meaning.proofs.ClockingLemmas.Unify.{one_shortest}
use Rattle.hp_meaning.proofs.ClockingLemmas.Units.{told}
use Rattle.hp_meaning.proofs.ClockingLemmas.Cut.{UnitsFit, first_fit, shortest_are}
use Rattle.hp_meaning.proofs.ClockingLemmas.Fitting.{node_fits, node_places_fit}
use Rattle.hp_meaning.proofs.ClockingLemmas.Nodes.{node_right}
use Rattle.hp_meaning.proofs.ClockingLemmas.Kept.{node_kept}
use Rattle.hp_meaning.proofs.ClockingLemmas.Named.{node_found, node_defined}
use Rattle.hp_meaning.proofs.ClockingLemmas.Back.{node_allows}

pub judges : JudgedLaw
judges n =
    told (node_units n) (AreClocks (node_sights n))
    (λ before later at e s.
    shortest_are (node_sights n) at before
    (first_fit (node_sights n) before later (subst (UnitsFit (node_sights n)) e (node_fits n)))
    (node_places_fit n) s)

pub one : OneShortestLaw
one n at other f g = one_shortest Place On (IsAllowed n) at other f g

pub writes : WrittenLaw
writes n at d a = node_right at n (node_defined n d) a

pub rights : RightLaw
rights n f r = node_allows n (node_found n f) r

pub keeps : KeptLaw
keeps n at w a = node_kept at n w a.1

pub instance : InstanceLaw
instance n f w =
    ((λ r. (clocks_of_node n, node_allows n (node_found n f) r)), λ a. subst ClocksRight (node_kept a.0 n w a.1.1) (node_right a.0 n (node_defined n f) a.1))
