use Rattle.std.proofs.Common.{◌≡◌, drop}
use Rattle.hp_controlled.specs.Reaching.{definitions_seen, with_eqns}
use Rattle.hp_controlled.proofs.part.Definitions.add_eqns.Given as goal

abbrev pub invariant-loop-number : goal.invariant-loop-number
invariant-loop-number l = with_eqns l.number (drop l.number l.eqns) (definitions_seen l.self) ≡ with_eqns 0 l.eqns (definitions_seen l.initial.self)
