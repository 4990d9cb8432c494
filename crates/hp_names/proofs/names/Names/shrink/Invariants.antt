use Rattle.std.proofs.Common.{◌≡◌, take, length}
use Rattle.hp_names.proofs.names.Names.shrink.Given as goal

abbrev pub invariant-loop-self : goal.invariant-loop-self
invariant-loop-self l = take l.len l.self-inside.texts.keys ≡ take l.len l.initial.self-inside.texts.keys

abbrev pub decreases-loop-self : goal.decreases-loop-self
decreases-loop-self l = length l.self-inside.texts.keys
