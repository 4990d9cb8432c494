use Rattle.std.proofs.Common.{◌≡◌, true, drop}
use Rattle.hp_obctext.specs.Breaches.{after}
use Rattle.hp_obctext.specs.NamesView.{types_seen}
use Rattle.hp_obctext.specs.Rules.{in_vars, with_vars}
use Rattle.hp_obctext.proofs.check.check_vars.Given as goal

abbrev pub invariant-loop-var : goal.invariant-loop-var
invariant-loop-var l = record {
  found : after l.found (in_vars (types_seen l.types) l.first l.known (drop l.var-index l.vars)) ≡ after l.initial.found (in_vars (types_seen l.types) true l.initial.known l.vars);
  known : with_vars l.known (drop l.var-index l.vars) ≡ with_vars l.initial.known l.vars;
}
