use Rattle.hp_clocks.specs.Writing.{ahead}
use Rattle.hp_clocks.proofs.Turned.{Writes}
use Rattle.hp_clocks.proofs.WriteLaws.{item_written, item_left}
use Rattle.hp_clocks.proofs.write.write_items.Given as goal

abbrev pub invariant-loop-item : goal.invariant-loop-item
invariant-loop-item l = Writes (λ d. d) item_written item_left l.initial.items (ahead l.initial.paths) l.items l.item-index (ahead l.paths)
