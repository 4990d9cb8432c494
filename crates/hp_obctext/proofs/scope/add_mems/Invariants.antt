use Rattle.std.proofs.Common.{◌≡◌, ℕ, List, ◌++◌, drop}
use Rattle.hp_obc.specs.Form.{mem_vars}
use Rattle.hp_obctext.specs.Found.{var_entries}
use Rattle.hp_base.specs.Known.Known.{lookup}
use Rattle.hp_obctext.proofs.scope.add_mems.Given as goal

abbrev pub invariant-loop-mem : goal.invariant-loop-mem
invariant-loop-mem l = (x : List ℕ) → lookup (l.known ++ var_entries (mem_vars (drop l.mem-index l.mems))) x ≡ lookup (l.initial.known ++ var_entries (mem_vars (l.mems))) x
