use Rattle.std.proofs.Common.{◌≡◌, drop}
use Rattle.hp_tables.specs.Defining.Layers.{sight}
use Rattle.hp_init.specs.Asks.{of_decls}
use Rattle.hp_init.specs.Goals.{with_more}
use Rattle.hp_init.proofs.gather.gather_decls.Given as goal

abbrev pub invariant-loop-decl : goal.invariant-loop-decl
invariant-loop-decl l = with_more l.asks.items (of_decls (sight l.values) (drop l.decl-index l.decls)) ≡ with_more l.initial.asks.items (of_decls (sight l.values) l.decls)
