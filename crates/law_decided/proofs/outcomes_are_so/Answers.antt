use Rattle.law_decided.proofs.Outcomes.{outcomes}
use Rattle.law_decided.proofs.outcomes_are_so.Goals as goal

pub returns : goal.returns
returns c =
    outcomes
    (record {
      games = c.drawn_games_are_kept.ensures.forced;
      safes = c.drawn_games_are_kept.ensures.safe;
      form = c.drawn_circuits_are_circuits.ensures;
      no_circle = c.ready_nodes_have_no_circle.ensures;
      assumptions = c.assumptions_read_controls.ensures;
      limits = c.limits_are_passed_by_nodes.ensures.limits;
    })
