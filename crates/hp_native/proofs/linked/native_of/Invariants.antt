use Rattle.std.proofs.Common.{map}
use Rattle.hp_native.specs.Linking.{HaveNone}
use Rattle.hp_native.proofs.linked.native_of.Given as goal

abbrev pub invariant-loop-i : goal.invariant-loop-i
invariant-loop-i g l = HaveNone (map g.N.Answers.machine l.natives) l.machine l.i
