use Rattle.law_drawing.proofs.MirrorsLemmas.Solved.{solved}
use Rattle.law_drawing.proofs.mirrors.drawn_nodes_are_solved.Goals as goal

pub returns : goal.returns
returns c = solved c.nodes_are_drawn.ensures.node c.nodes_are_drawn.ensures.calls
