use Rattle.std.proofs.Common.{◌≡◌, take, length}
use Rattle.hp_base.proofs.known.known.Known.shrink.Given as goal

abbrev pub invariant-loop-self : goal.invariant-loop-self
invariant-loop-self g l = take l.len l.self-inside.entries.entries ≡ take l.len l.initial.self-inside.entries.entries

abbrev pub decreases-loop-self : goal.decreases-loop-self
decreases-loop-self g l = length l.self-inside.entries.entries
