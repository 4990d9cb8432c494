use Rattle.std.proofs.Common.{◌∙◌}
use Rattle.hp_drawing.specs.Told.{told_of}
use Rattle.hp_drawing.proofs.NodeDrawn.{node-planned}
use Rattle.hp_drawing.proofs.SlottedLemmas.NamedLaws.{all_apart, one_apart}
use Rattle.hp_drawing.proofs.SlottedLemmas.StartLaws.{node_starts}
use Rattle.hp_drawing.proofs.slotted.drawn_slots_are_the_nodes.Goals as goal

pub returns : goal.returns
returns c = λ program n calls named among.
    node-planned (told_of program) n ∙ node_starts program n calls (all_apart program named) (one_apart program n among (all_apart program named))
