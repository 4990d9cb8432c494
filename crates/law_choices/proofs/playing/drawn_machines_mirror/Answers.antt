use Rattle.law_choices.proofs.PlayingLemmas.Drawn.{drawn_flags_law}
use Rattle.law_choices.proofs.playing.drawn_machines_mirror.Goals as goal

pub returns : goal.returns
returns c = drawn_flags_law c.drawn_nodes_are_mirrored.ensures.carries c.drawn_nodes_are_mirrored.ensures.mirrors
