use Rattle.hp_expand.proofs.FormedLaws.{formed_law}
use Rattle.hp_expand.proofs.check_form.Goals as goal

pub returns-clause-complete : goal.returns-clause-complete
returns-clause-complete c = formed_law c.args.p.now
