use Rattle.hp_clocks.proofs.AnswerLaws.{accepted_law}
use Rattle.hp_clocks.proofs.clocks.Goals as goal

pub returns-clause-accepted : goal.returns-clause-accepted
returns-clause-accepted c = λ h k d. accepted_law c.args.program c.write_clocks.result c.write_clocks.ensures.refused h k d
