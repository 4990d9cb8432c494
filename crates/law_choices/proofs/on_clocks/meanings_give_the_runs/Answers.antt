use Rattle.law_choices.proofs.OnClocksLemmas.Streams.{stream_law}
use Rattle.law_choices.proofs.on_clocks.meanings_give_the_runs.Goals as goal

pub returns : goal.returns
returns c = stream_law c.names_are_apart.ensures.scoped c.names_are_apart.ensures.lowered c.nodes_suit.ensures.program c.nodes_are_compiled.ensures.programs c.machines_give_the_history.ensures
