use Rattle.std.proofs.Common.{◌≡◌, drop}
use Rattle.hp_clocks.specs.Layers.{says, says_based}
use Rattle.hp_clocks.proofs.layer.Layer.add_based.Given as goal

abbrev pub invariant-loop-decl : goal.invariant-loop-decl
invariant-loop-decl l = says_based (drop l.decl-index l.decls) (says l.self) ≡ says_based l.decls (says l.initial.self)
