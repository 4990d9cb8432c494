use Rattle.law_choices.proofs.OrderedLemmas.PointRanks.{points_law}
use Rattle.law_choices.proofs.ordered.points_have_ranks.Goals as goal

pub returns : goal.returns
returns c = points_law c.sources_are_points.ensures
