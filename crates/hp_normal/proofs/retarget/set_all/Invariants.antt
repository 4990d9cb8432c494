use Rattle.std.proofs.Common.{◌≡◌, drop}
use Rattle.hp_normal.specs.Tables.{all_set}
use Rattle.hp_normal.proofs.retarget.set_all.Given as goal

abbrev pub invariant-loop-number : goal.invariant-loop-number
invariant-loop-number l = all_set (drop l.number-index l.numbers) l.place l.places ≡ all_set l.numbers l.place l.initial.places
