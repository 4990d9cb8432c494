use Rattle.law_drawing.specs.Steered.Laws.{told_by}
use Rattle.law_drawing.proofs.SteeredLemmas.Entering.{enter-marked}
use Rattle.law_drawing.proofs.steered.blocks_are_entered.Goals as goal

pub returns : goal.returns
returns c = record {
  entered = λ f free t z context names inner ds es spot s ms outside marks placed seen.
      enter-marked (told_by f free) t z context names inner ds es spot s ms outside (record { marks = marks; placed = placed; seen = seen });
}
