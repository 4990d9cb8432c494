use Rattle.law_drawing.proofs.InshapeLemmas.Laws.{node_shape, node_numbers, zeros}
use Rattle.law_drawing.proofs.inshape.slots_are_in_shape.Goals as goal

pub returns-clause-shape : goal.returns-clause-shape
returns-clause-shape c = node_shape

pub returns-clause-numbers : goal.returns-clause-numbers
returns-clause-numbers c = node_numbers

pub returns-clause-zeros : goal.returns-clause-zeros
returns-clause-zeros c = zeros
