use Rattle.std.proofs.Common.{take}
use Rattle.hp_synth.specs.Rooted.{AreRooted}
use Rattle.hp_synth.proofs.sweep.rooted.Given as goal

abbrev pub invariant-loop-i : goal.invariant-loop-i
invariant-loop-i l = AreRooted l.roots.slab l.roots.keys.items (take l.i l.refs)
