use Rattle.std.proofs.Common.{◌≡◌, drop}
use Rattle.hp_obctext.specs.Breaches.{after}
use Rattle.hp_obctext.specs.Rules.{in_constructors, with_constructors}
use Rattle.hp_obctext.proofs.check.check_constructors.Given as goal

abbrev pub invariant-loop-i : goal.invariant-loop-i
invariant-loop-i l = record {
  found : after l.found (in_constructors l.ty l.i l.cons (drop l.i l.names)) ≡ after l.initial.found (in_constructors l.ty 0 l.initial.cons l.names);
  known : with_constructors l.ty l.cons (drop l.i l.names) ≡ with_constructors l.ty l.initial.cons l.names;
}
