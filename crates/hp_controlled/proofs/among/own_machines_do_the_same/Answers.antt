use Rattle.hp_controlled.proofs.JoiningLaws.{same_among}
use Rattle.hp_controlled.proofs.among.own_machines_do_the_same.Goals as goal

pub returns : goal.returns
returns c = same_among c.machines_do_the_same_among_others.ensures.among
