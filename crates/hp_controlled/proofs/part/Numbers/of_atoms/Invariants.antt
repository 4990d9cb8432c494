use Rattle.std.proofs.Common.{◌≡◌, map, take}
use Rattle.hp_controlled.specs.Parts.{number_at, renumbered_atom}
use Rattle.hp_controlled.proofs.part.Numbers.of_atoms.Given as goal

abbrev pub invariant-loop-atom : goal.invariant-loop-atom
invariant-loop-atom l = l.others.items ≡ map (renumbered_atom (number_at l.self.numbers.items)) (take l.atom-index l.atoms)
