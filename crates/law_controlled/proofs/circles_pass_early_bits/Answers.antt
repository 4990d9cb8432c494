use Rattle.law_controlled.proofs.EarlyLaws.{circle_law}
use Rattle.law_controlled.proofs.circles_pass_early_bits.Goals as goal

pub returns : goal.returns
returns c = circle_law
