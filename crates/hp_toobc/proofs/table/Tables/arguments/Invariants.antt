use Rattle.std.proofs.Common.{◌≡◌, take, map}
use Rattle.hp_toobc.specs.Tables.{argument}
use Rattle.hp_toobc.proofs.table.Tables.arguments.Given as goal

abbrev pub invariant-loop-atom : goal.invariant-loop-atom
invariant-loop-atom l = l.args.items ≡ map (argument l.self.types.now l.self.variables.now) (take l.atom-index l.atoms)
