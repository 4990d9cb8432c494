use Rattle.std.proofs.Common.{map}
use Rattle.hp_native.proofs.LinkLaws.{PlacedTo}
use Rattle.hp_native.proofs.linked.link.Given as goal

abbrev pub invariant-loop-i : goal.invariant-loop-i
invariant-loop-i g l = PlacedTo (map g.N.Answers.machine l.natives) l.machines l.places.items l.i
