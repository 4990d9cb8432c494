use Rattle.std.proofs.Common.{◌≡◌, take}
use Rattle.hp_tree.proofs.decl.copy_decls.Given as goal

abbrev pub invariant-loop-decl : goal.invariant-loop-decl
invariant-loop-decl l = l.copies.items ≡ take l.decl-index l.decls
