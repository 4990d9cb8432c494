use Rattle.law_equations.proofs.ShapedLemmas.FormLaws.{form_law}
use Rattle.law_equations.proofs.ShapedLemmas.ProgramLaws.{program_form_law}
use Rattle.law_equations.proofs.shaped.machines_have_form.Goals as goal

pub returns-clause-node : goal.returns-clause-node
returns-clause-node c = form_law

pub returns-clause-program : goal.returns-clause-program
returns-clause-program c = program_form_law
