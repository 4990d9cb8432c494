use Rattle.hp_meaning.proofs.causal.reactions_begin.Goals as goal
use Rattle.hp_meaning.proofs.CausalLemmas.Unique.{begins_so as law}

pub returns : goal.returns
returns c = law
