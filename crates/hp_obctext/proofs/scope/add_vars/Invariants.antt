use Rattle.std.proofs.Common.{◌≡◌, ℕ, List, ◌++◌, drop}
use Rattle.hp_obctext.specs.Found.{var_entries}
use Rattle.hp_base.specs.Known.Known.{lookup}
use Rattle.hp_obctext.proofs.scope.add_vars.Given as goal

abbrev pub invariant-loop-var : goal.invariant-loop-var
invariant-loop-var l = (x : List ℕ) → lookup (l.known ++ var_entries (drop l.var-index l.vars)) x ≡ lookup (l.initial.known ++ var_entries (l.vars)) x
