use Rattle.hp_meaning.proofs.causal.ranked_is_causal.Goals as goal
use Rattle.hp_meaning.proofs.CausalLemmas.Ranking.{ranked_causal as law}

pub returns : goal.returns
returns c = law
