use Rattle.std.proofs.Common.{◌≡◌, ◌++◌, drop}
use Rattle.std.specs.Prelude.{◌↔◌}
use Rattle.hp_form.specs.Declaring.{keys, VarsForm}
use Rattle.hp_form.specs.Scoping.{var_entries}
use Rattle.hp_form.proofs.declare.add_vars.Given as goal

abbrev pub invariant-loop-i : goal.invariant-loop-i
invariant-loop-i l = record {
  form : VarsForm l.types.declared.now (keys l.before ++ keys l.known) (drop l.i l.vars) ↔ VarsForm l.types.declared.now (keys l.before ++ keys l.initial.known) l.vars;
  added : l.known ++ var_entries (drop l.i l.vars) ≡ l.initial.known ++ var_entries l.vars;
}
