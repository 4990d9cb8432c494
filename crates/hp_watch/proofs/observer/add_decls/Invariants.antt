use Rattle.std.proofs.Common.{◌≡◌, ◌++◌, drop}
use Rattle.hp_watch.proofs.observer.add_decls.Given as goal

abbrev pub invariant-loop-i : goal.invariant-loop-i
invariant-loop-i l = l.into.items ++ drop l.i l.decls ≡ l.initial.into.items ++ l.decls
