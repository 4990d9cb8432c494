use Rattle.hp_controlled.specs.Choosing.{telling_seen}
use Rattle.hp_controlled.proofs.node.chosen_nodes.Goals as goal

pub returns-clause-nodes : goal.returns-clause-nodes
returns-clause-nodes c = record {
  choosing = telling_seen c.in_ok-chosen.chosen;
  is_choosing = c.in_ok-chosen.ensures.chooses;
  few = c.has_few_variables.ensures;
  itself = c.in_ok-own.ensures c.args.flat c.in_ok-kept.ensures;
  tells = c.in_ok-told.ensures.told;
}
