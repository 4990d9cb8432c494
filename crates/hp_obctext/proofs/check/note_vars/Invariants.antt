use Rattle.std.proofs.Common.{◌≡◌, drop}
use Rattle.hp_obctext.specs.Rules.{with_vars}
use Rattle.hp_obctext.proofs.check.note_vars.Given as goal

abbrev pub invariant-loop-var : goal.invariant-loop-var
invariant-loop-var l = with_vars l.known (drop l.var-index l.vars) ≡ with_vars l.initial.known l.vars
