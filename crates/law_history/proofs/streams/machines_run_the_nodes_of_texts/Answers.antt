use Rattle.law_history.proofs.StreamsLemmas.Texts.{text_history}
use Rattle.law_history.proofs.streams.machines_run_the_nodes_of_texts.Goals as goal

pub returns : goal.returns
returns c =
    text_history c.machines_give_the_history.ensures c.arranged_texts_are_ready.ensures c.automata_of_texts_may_be_removed.ensures c.programs_have_first_values.ensures.text
    c.programs_have_first_values.ensures.ready c.texts_have_few_types.ensures
