use Rattle.std.proofs.Common.{◌≡◌, drop}
use Rattle.hp_drawing.specs.DrawnNodes.{add_given}
use Rattle.hp_drawing.specs.Seen.{sketch_of}
use Rattle.hp_abstract.specs.Seen.{told_in}
use Rattle.hp_abstract.proofs.circuit.add_given.Given as goal

abbrev pub invariant-loop-decl : goal.invariant-loop-decl
invariant-loop-decl l = add_given (told_in l.tables) l.role (drop l.decl-index l.decls) (sketch_of l.draft) ≡ add_given (told_in l.tables) l.role l.decls (sketch_of l.initial.draft)
