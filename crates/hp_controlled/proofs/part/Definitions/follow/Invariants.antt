use Rattle.std.proofs.Common.{◌≡◌, ◌-◌, length}
use Rattle.hp_controlled.specs.Reaching.{all_entered, chain, reaching_seen}
use Rattle.hp_controlled.proofs.part.Definitions.follow.Given as goal

abbrev pub invariant-loop-i : goal.invariant-loop-i
invariant-loop-i l =
    all_entered l.node (chain (length l.self.all.items - l._i) l.self.all.items l.at) (reaching_seen l.found) ≡ all_entered l.node (chain (length l.self.all.items) l.self.all.items l.initial.at) (reaching_seen l.initial.found)
