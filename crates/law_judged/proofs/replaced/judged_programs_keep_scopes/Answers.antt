use Rattle.law_judged.proofs.ReplacedLemmas.JudgedReplaced.{judged_replaced}
use Rattle.law_judged.proofs.replaced.judged_programs_keep_scopes.Goals as goal

pub returns : goal.returns
returns c = judged_replaced
