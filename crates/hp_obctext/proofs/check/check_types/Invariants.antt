use Rattle.std.proofs.Common.{◌≡◌, drop}
use Rattle.hp_obctext.specs.Breaches.{after}
use Rattle.hp_obctext.specs.NamesView.{types_seen}
use Rattle.hp_obctext.specs.Rules.{in_types, with_types, no_types}
use Rattle.hp_obctext.proofs.check.check_types.Given as goal

abbrev pub invariant-loop-ty : goal.invariant-loop-ty
invariant-loop-ty l = record {
  found : after l.found (in_types (types_seen l.known) (drop l.ty-index l.types)) ≡ after l.initial.found (in_types no_types l.types);
  known : with_types (types_seen l.known) (drop l.ty-index l.types) ≡ with_types no_types l.types;
}
