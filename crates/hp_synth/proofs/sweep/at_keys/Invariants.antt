use Rattle.std.proofs.Common.{take}
use Rattle.hp_synth.specs.Rooted.{AreAt}
use Rattle.hp_synth.proofs.sweep.at_keys.Given as goal

abbrev pub invariant-loop-i : goal.invariant-loop-i
invariant-loop-i l = AreAt l.slab (take l.i l.keys) l.refs.items
