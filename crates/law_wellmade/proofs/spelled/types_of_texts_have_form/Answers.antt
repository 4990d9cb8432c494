use Rattle.law_wellmade.proofs.SpelledLemmas.Joined.{types}
use Rattle.law_wellmade.proofs.spelled.types_of_texts_have_form.Goals as goal

pub returns : goal.returns
returns c = types
