use Rattle.std.proofs.Common.{◌≡◌, drop}
use Rattle.hp_automata.specs.Lowering.{declaring}
use Rattle.hp_automata.proofs.around.declare.Given as goal

abbrev pub invariant-loop-decl : goal.invariant-loop-decl
invariant-loop-decl l = declaring l.types (drop l.decl-index l.decls) ≡ declaring l.initial.types l.decls
