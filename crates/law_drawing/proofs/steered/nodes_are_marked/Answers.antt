use Rattle.law_drawing.specs.Steered.Nodes.{steering_of}
use Rattle.law_drawing.proofs.SteeredLemmas.Nodes.{free-depends}
use Rattle.law_drawing.proofs.SteeredLemmas.StandingNodes.{node-placed}
use Rattle.law_drawing.proofs.SteeredLemmas.EarlySlots.{slot-depends, early-unsteered, early-kinds, assumption-marked}
use Rattle.law_drawing.proofs.steered.nodes_are_marked.Goals as goal

pub returns : goal.returns
returns c = record {
  free = λ t n place fits stands. free-depends t n place fits (node-placed (steering_of n place) t n stands);
  slots = slot-depends;
  early = early-unsteered;
  kinds = early-kinds;
  assumed = assumption-marked;
}
