use Rattle.std.proofs.Common.{◌≡◌, map, take}
use Rattle.hp_boolx.specs.Machine.{bit}
use Rattle.hp_play.proofs.replaying.state_of.Given as goal

abbrev pub invariant-loop-k : goal.invariant-loop-k
invariant-loop-k l = l.state.items ≡ map (bit l.gates) (take l.k l.m.next)
