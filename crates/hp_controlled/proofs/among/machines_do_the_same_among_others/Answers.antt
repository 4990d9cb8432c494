use Rattle.hp_controlled.proofs.AmongLaws.{form_calls, machines_among}
use Rattle.hp_controlled.proofs.among.machines_do_the_same_among_others.Goals as goal

pub returns-clause-among : goal.returns-clause-among
returns-clause-among c = machines_among

pub returns-clause-form : goal.returns-clause-form
returns-clause-form c = form_calls
