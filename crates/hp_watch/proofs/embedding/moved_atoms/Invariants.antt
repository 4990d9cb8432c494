use Rattle.std.proofs.Common.{◌≡◌, map, take}
use Rattle.hp_watch.specs.Embedding.{moved_atom}
use Rattle.hp_watch.proofs.embedding.moved_atoms.Given as goal

abbrev pub invariant-loop-atom : goal.invariant-loop-atom
invariant-loop-atom l = l.others.items ≡ map (moved_atom l.by) (take l.atom-index l.atoms)
