use Rattle.std.proofs.Common.{◌≡◌, ◌≤◌, max, drop}
use Rattle.hp_lines.specs.Lines.{longest}
use Rattle.hp_obctext.proofs.memory.write.longest_name.Given as goal

abbrev pub invariant-loop-name : goal.invariant-loop-name
invariant-loop-name l = (max l.most (longest (drop l.name-index l.names)) ≡ longest l.names) × (l.most ≤ 270)
