use Rattle.std.proofs.Common.{◌≡◌, ◌++◌, drop, map}
use Rattle.hp_tree.specs.BlockView.{arm_seen}
use Rattle.hp_tree.specs.Blocks.{arms_of}
use Rattle.hp_typing.specs.Definedness.{conses_of_arms}
use Rattle.hp_typing.specs.Seen.{conses_told}
use Rattle.hp_typing.proofs.constructors.conses_of_arms.Given as goal

abbrev pub invariant-loop-arm : goal.invariant-loop-arm
invariant-loop-arm l = conses_told l.conses.items ++ conses_of_arms (arms_of (map arm_seen (drop l.arm-index l.arms))) ≡ conses_of_arms (arms_of (map arm_seen l.arms))
