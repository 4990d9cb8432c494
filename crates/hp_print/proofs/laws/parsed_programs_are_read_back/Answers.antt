use Rattle.hp_print.proofs.ReadBackLaws.{parsed-read-back}
use Rattle.hp_print.proofs.laws.parsed_programs_are_read_back.Goals as goal

pub returns : goal.returns
returns c = parsed-read-back
