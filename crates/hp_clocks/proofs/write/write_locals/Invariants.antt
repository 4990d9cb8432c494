use Rattle.hp_clocks.specs.Writing.{ahead}
use Rattle.hp_clocks.proofs.Turned.{Writes}
use Rattle.hp_clocks.proofs.WriteLaws.{decl_written, decl_left}
use Rattle.hp_clocks.proofs.write.write_locals.Given as goal

abbrev pub invariant-loop-decl : goal.invariant-loop-decl
invariant-loop-decl l = Writes (λ d. d) decl_written decl_left l.initial.decls (ahead l.initial.paths) l.decls l.decl-index (ahead l.paths)
