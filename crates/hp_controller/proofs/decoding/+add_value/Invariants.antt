use Rattle.hp_controller.proofs.decoding.+add_value.Given as goal

abbrev pub decreases-add_value : goal.decreases-add_value
decreases-add_value l = l.width
