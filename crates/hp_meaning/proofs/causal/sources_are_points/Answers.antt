use Rattle.hp_meaning.proofs.causal.sources_are_points.Goals as goal
use Rattle.hp_meaning.proofs.CausalLemmas.Ranking.{sources_are_points as law}

pub returns : goal.returns
returns c = law
