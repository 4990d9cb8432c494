use Rattle.std.proofs.Common.{◌≡◌, ◌++◌, take}
use Rattle.hp_exec.specs.Naming.{names_in}
use Rattle.hp_exec.specs.Typing.{constructors_from}
use Rattle.hp_exec.proofs.types.add_constructors.Given as goal

abbrev pub invariant-loop-c : goal.invariant-loop-c
invariant-loop-c l = record {
  names : names_in l.constructors ≡ names_in l.initial.constructors ++ take l.c l.cons;
  values : l.values.items ≡ l.initial.values.items ++ constructors_from l.number 0 (take l.c l.cons);
}
