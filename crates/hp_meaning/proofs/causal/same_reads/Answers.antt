use Rattle.hp_meaning.proofs.causal.same_reads.Goals as goal
use Rattle.hp_meaning.proofs.CausalLemmas.SameReads.{same_reads as law}

pub returns : goal.returns
returns c = law
