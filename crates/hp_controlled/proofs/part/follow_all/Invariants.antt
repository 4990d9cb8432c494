use Rattle.hp_controlled.specs.Reaching.{Reaching, Ends, definitions_seen, reaching_seen}
use Rattle.hp_controlled.proofs.PartLaws.{room}
use Rattle.hp_controlled.proofs.part.follow_all.Given as goal

abbrev pub invariant-loop-variable : goal.invariant-loop-variable
invariant-loop-variable l = (other : Reaching) → Ends l.node (definitions_seen l.definitions) (reaching_seen l.found) other → Ends l.node (definitions_seen l.definitions) (reaching_seen l.initial.found) other

abbrev pub decreases-loop-variable : goal.decreases-loop-variable
decreases-loop-variable l = room (reaching_seen l.found)
