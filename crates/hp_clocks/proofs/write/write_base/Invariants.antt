use Rattle.hp_clocks.proofs.Turned.{Writes}
use Rattle.hp_clocks.proofs.WriteLaws.{on_base_written, same_left}
use Rattle.hp_clocks.proofs.write.write_base.Given as goal

abbrev pub invariant-loop-decl : goal.invariant-loop-decl
invariant-loop-decl l = Writes (λ d. d) on_base_written same_left l.initial.decls tt l.decls l.decl-index tt
