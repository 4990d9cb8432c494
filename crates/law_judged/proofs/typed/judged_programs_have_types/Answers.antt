use Rattle.law_judged.proofs.typed.judged_programs_have_types.Goals as goal
use Rattle.law_judged.proofs.TypedLemmas.ProgramLaws.{typed}

pub returns : goal.returns
returns c = typed
