use Rattle.law_drawing.specs.Steered.Laws.{told_by, held_by}
use Rattle.law_drawing.proofs.SteeredLemmas.Blocks.{block-marked}
use Rattle.law_drawing.proofs.steered.blocks_are_marked.Goals as goal

pub returns : goal.returns
returns c = record {
  marked = λ f free t brings held brought b z context names k spot s ms fit owes placed marks place seen.
      let u = block-marked (told_by f free) t brings (held_by held) brought b fit z context names k spot s ms owes placed (record { marks = marks; placed = place; seen = seen }) in
      (u.0, u.1, u.2, u.3);
}
