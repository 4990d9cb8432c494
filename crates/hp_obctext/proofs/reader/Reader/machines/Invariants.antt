use Rattle.std.proofs.Common.{◌≡◌, [], codes, length}
use Rattle.hp_obctext.specs.Reading.{many, is_this, machine}
use Rattle.hp_obctext.proofs.reader.Reader.machines.Given as goal

abbrev pub invariant-loop-machines : goal.invariant-loop-machines
invariant-loop-machines l = many (is_this (codes "machine")) machine l.machines.items l.self ≡ many (is_this (codes "machine")) machine [] l.fn.self

abbrev pub decreases-loop-machines : goal.decreases-loop-machines
decreases-loop-machines l = length l.self
