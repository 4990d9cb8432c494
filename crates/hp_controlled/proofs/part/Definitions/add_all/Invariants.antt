use Rattle.std.proofs.Common.{◌≡◌, drop}
use Rattle.hp_controlled.specs.Reaching.{definitions_seen, with_definitions}
use Rattle.hp_controlled.proofs.part.Definitions.add_all.Given as goal

abbrev pub invariant-loop-i : goal.invariant-loop-i
invariant-loop-i l = with_definitions (drop l.i l.variables) l.eqn (definitions_seen l.self) ≡ with_definitions l.variables l.eqn (definitions_seen l.initial.self)
