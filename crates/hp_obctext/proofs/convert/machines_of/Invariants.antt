use Rattle.std.proofs.Common.{◌≡◌, map}
use Rattle.hp_obctext.specs.Machines.{machine_of}
use Rattle.hp_obctext.proofs.convert.machines_of.Given as goal

abbrev pub invariant-loop-text : goal.invariant-loop-text
invariant-loop-text l = l.machines.items ≡ map machine_of l.yielded
