use Rattle.law_equations.proofs.FollowedLemmas.ConstantLaws.{constants_law}
use Rattle.hp_form.proofs.RegularLemmas.RegularLaws.{form}
use Rattle.hp_form.proofs.regular.laws.regular_equations_have_form.Goals as goal

pub returns : goal.returns
returns c = λ types n t h. form types (λ v is. constants_law types t v is) n.variables n.eqns h.eqns
