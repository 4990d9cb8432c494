use Rattle.hp_toobc.proofs.AfterLaws.{after-under}
use Rattle.hp_toobc.proofs.laws.clocks_are_followed.Goals as goal

pub returns : goal.returns
returns c = λ instances clock cs s wide. after-under c.args.types.now instances c.args.variables.now clock cs s wide
