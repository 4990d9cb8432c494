use Rattle.std.proofs.Common.{◌≡◌, ◌++◌, take, drop, map}
use Rattle.hp_normal.specs.Substituting.{read}
use Rattle.hp_normal.specs.Tables.{stands_at}
use Rattle.hp_normal.proofs.substitute.read_all.Given as goal

abbrev pub invariant-loop-atom : goal.invariant-loop-atom
invariant-loop-atom l = l.atoms ≡ map (read (stands_at l.table)) (take l.atom-index l.initial.atoms) ++ drop l.atom-index l.initial.atoms
