use Rattle.law_drawing.proofs.FormLemmas.Laws.{drawn_form}
use Rattle.law_drawing.proofs.form.drawn_circuits_are_circuits.Goals as goal

pub returns : goal.returns
returns c = drawn_form
