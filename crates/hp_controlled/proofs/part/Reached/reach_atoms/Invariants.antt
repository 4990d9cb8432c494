use Rattle.std.proofs.Common.{◌≡◌, drop}
use Rattle.hp_controlled.specs.Parts.{read_by_atoms}
use Rattle.hp_controlled.specs.Reaching.{all_touched, reaching_seen}
use Rattle.hp_controlled.proofs.part.Reached.reach_atoms.Given as goal

abbrev pub invariant-loop-i : goal.invariant-loop-i
invariant-loop-i l = all_touched (read_by_atoms (drop l.i l.atoms)) (reaching_seen l.self) ≡ all_touched (read_by_atoms l.atoms) (reaching_seen l.initial.self)
