use Rattle.std.proofs.Common.{◌≡◌, [], drop}
use Rattle.std.specs.Prelude.{◌↔◌}
use Rattle.hp_form.specs.Declaring.{keys, InstsKnown, with_insts}
use Rattle.hp_form.proofs.declare.add_insts.Given as goal

abbrev pub invariant-loop-i : goal.invariant-loop-i
invariant-loop-i l = record {
  form : InstsKnown l.earlier (keys l.known) (drop l.i l.insts) ↔ InstsKnown l.earlier [] l.insts;
  added : with_insts l.earlier l.known (drop l.i l.insts) ≡ with_insts l.earlier [] l.insts;
}
