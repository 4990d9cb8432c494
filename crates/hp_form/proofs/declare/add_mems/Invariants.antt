use Rattle.std.proofs.Common.{◌≡◌, ◌++◌, drop}
use Rattle.std.specs.Prelude.{◌↔◌}
use Rattle.hp_form.specs.Declaring.{keys, MemsForm}
use Rattle.hp_form.specs.Scoping.{mem_entries}
use Rattle.hp_form.proofs.declare.add_mems.Given as goal

abbrev pub invariant-loop-i : goal.invariant-loop-i
invariant-loop-i l = record {
  form : MemsForm l.types.declared.now (keys l.before ++ keys l.known) (drop l.i l.mems) ↔ MemsForm l.types.declared.now (keys l.before ++ keys l.initial.known) l.mems;
  added : l.known ++ mem_entries (drop l.i l.mems) ≡ l.initial.known ++ mem_entries l.mems;
}
