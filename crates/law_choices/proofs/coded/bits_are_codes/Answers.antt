use Rattle.law_choices.proofs.CodedLemmas.Watched.{coded_law}
use Rattle.law_choices.proofs.coded.bits_are_codes.Goals as goal

pub returns : goal.returns
returns c = coded_law
