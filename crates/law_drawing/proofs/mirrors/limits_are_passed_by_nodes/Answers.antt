use Rattle.law_drawing.proofs.MirrorsLemmas.Bits.{bits_are, limits_are}
use Rattle.law_drawing.proofs.mirrors.limits_are_passed_by_nodes.Goals as goal

pub returns-clause-bits : goal.returns-clause-bits
returns-clause-bits c = bits_are c.drawn_nodes_are_mirrored.ensures.carries

pub returns-clause-limits : goal.returns-clause-limits
returns-clause-limits c = limits_are c.drawn_nodes_are_mirrored.ensures.carries
