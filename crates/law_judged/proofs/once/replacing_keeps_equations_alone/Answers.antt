use Rattle.law_judged.proofs.OnceLemmas.ReplacedNodes.{program_once, judged_once}
use Rattle.law_judged.proofs.once.replacing_keeps_equations_alone.Goals as goal

pub returns-clause-replaced : goal.returns-clause-replaced
returns-clause-replaced c = program_once

pub returns-clause-judged : goal.returns-clause-judged
returns-clause-judged c = judged_once
