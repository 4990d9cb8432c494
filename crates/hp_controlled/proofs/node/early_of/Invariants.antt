use Rattle.std.proofs.Common.{◌≡◌, map, take}
use Rattle.hp_controlled.proofs.node.early_of.Given as goal

abbrev pub invariant-loop-i : goal.invariant-loop-i
invariant-loop-i l = l.is_early.items ≡ map (λ g. g.is_early) (take l.i l.given)
