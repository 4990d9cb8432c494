use Rattle.std.proofs.Common.{◌≡◌, take}
use Rattle.hp_tree.proofs.decl.same_decls.Given as goal

abbrev pub invariant-loop-i : goal.invariant-loop-i
invariant-loop-i l = take l.i l.decls ≡ take l.i l.others
