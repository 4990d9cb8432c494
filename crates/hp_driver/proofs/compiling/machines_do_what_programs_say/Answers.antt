use Rattle.hp_driver.proofs.CompilingLaws.{machines_for}
use Rattle.hp_driver.proofs.compiling.machines_do_what_programs_say.Goals as goal

pub returns : goal.returns
returns c =
    machines_for c.machines_of_texts_choose_the_greatest.ensures c.machines_without_choices_are_of_nodes.ensures c.machines_run_the_nodes_of_texts.ensures c.machines_of_texts_are_built.ensures
    c.machines_do_the_same_among_others.ensures.form c.own_machines_do_the_same.ensures c.machines_of_texts_are_within_limits.ensures c.machines_keep_contracts.ensures.run
