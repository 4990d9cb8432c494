use Rattle.hp_meaning.proofs.causal.clocks_make_no_cycle.Goals as goal
use Rattle.hp_meaning.proofs.CausalLemmas.Clocks.{clocks_make_no_cycle as law}

pub returns : goal.returns
returns c = law
