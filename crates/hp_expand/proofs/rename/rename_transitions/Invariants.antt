use Rattle.std.proofs.Common.{◌≡◌, take, map}
use Rattle.hp_expand.specs.Renaming.{renamed_transition}
use Rattle.hp_expand.specs.Layers.{said}
use Rattle.hp_expand.proofs.rename.rename_transitions.Given as goal

abbrev pub invariant-loop-transition : goal.invariant-loop-transition
invariant-loop-transition l = l.others.items ≡ map (renamed_transition (said l.naming)) (take l.transition-index l.transitions)
